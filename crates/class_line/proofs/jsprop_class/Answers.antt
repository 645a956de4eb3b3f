use mathlib.Core.Path.{subst}
use Rattle.class_member.specs.Member.{MemberIs}
use Rattle.class_line.proofs.Answers.{of-no-member, of-member}
use Rattle.class_line.proofs.jsprop_class.Goals as goal

pub returns-in-None : goal.returns-in-None
returns-in-None c =
    of-no-member c.args.s.now c.args.t.now
    c.requires.2 (subst (MemberIs
    c.args.s.now
    c.args.t.now) c.in-None.is
    c.member_class.ensures)

pub returns-in-Some : goal.returns-in-Some
returns-in-Some c =
    of-member c.args.s.now c.args.t.now
    c.requires.2 c.in-Some.p.start
    c.in-Some.p.end (subst (MemberIs c.args.s.now
    c.args.t.now) c.in-Some.is
    c.member_class.ensures)
