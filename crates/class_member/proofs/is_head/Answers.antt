use mathlib.Core.Path.{sym, ◌∙◌}
use lib.ListN.{take}
use Rattle.text.specs.Bytes.{ascii}
use Rattle.convert.specs.Table.{reserved}
use Rattle.class_member.proofs.Pointing.{is_word, last-head, word-type, word-version, word-uid, word-kind}
use Rattle.class_member.proofs.is_head.Goals as goal

pub returns-then-same_bytes : goal.returns-then-same_bytes
returns-then-same_bytes c = is_word c.args.p.now (ascii "@type") (take 5 reserved) (word-type) (sym c.same_bytes.ensures ∙ c.if-same_bytes.true)

pub returns-then-same_bytes-2 : goal.returns-then-same_bytes-2
returns-then-same_bytes-2 c =
    is_word c.args.p.now (ascii "version") (take 5 reserved) (word-version)
    (sym c.same_bytes-2.ensures ∙ c.if-same_bytes-2.true)

pub returns-then-same_bytes-3 : goal.returns-then-same_bytes-3
returns-then-same_bytes-3 c =
    is_word c.args.p.now (ascii "uid") (take 5 reserved) (word-uid)
    (sym c.same_bytes-3.ensures ∙ c.if-same_bytes-3.true)

pub returns-then-same_bytes-4 : goal.returns-then-same_bytes-4
returns-then-same_bytes-4 c =
    is_word c.args.p.now (ascii "kind") (take 5 reserved)
    (word-kind) (sym c.same_bytes-4.ensures ∙ c.if-same_bytes-4.true)

pub returns : goal.returns
returns c =
    c.same_bytes-5.ensures ∙ sym (last-head c.args.p.now (sym
    c.same_bytes.ensures ∙
    c.if-same_bytes.false) (sym
    c.same_bytes-2.ensures ∙
    c.if-same_bytes-2.false) (sym c.same_bytes-3.ensures ∙
    c.if-same_bytes-3.false) (sym c.same_bytes-4.ensures ∙ c.if-same_bytes-4.false))
