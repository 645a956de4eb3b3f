use native.Mathlib.Omega.{arith}
use mathlib.Core.Path.{sym, ◌∙◌}
use Rattle.output.proofs.Rests.{Going, going, rest_all, rest-as, rest-byte, rest-no-byte, rest-done, rest-same}
use Rattle.json_write.proofs.Spelling.{bare-on, bare-stops, bare-out}
use Rattle.json_write.proofs.bare_from.Goals as goal
use Rattle.json_write.proofs.bare_from.Goals.{Else-not-is_bare}

-- the byte stands for itself
abbrev onward : Else-not-is_bare → Going
onward c = going (rest-as (bare-on c.args.s.now c.loop-i.i c.loop-i-test.true (sym c.is_bare.ensures ∙ c.if-not-is_bare.false)) c.loop-i.invariant)

pub loop-i-init : goal.loop-i-init
loop-i-init c = rest_all _ _

pub shape_of-out-then-not-is_bare : goal.shape_of-out-then-not-is_bare
shape_of-out-then-not-is_bare c = rest-same c.loop-i.invariant

pub returns-then-not-is_bare : goal.returns-then-not-is_bare
returns-then-not-is_bare c = rest-done (bare-stops c.args.s.now c.loop-i.i c.loop-i-test.true (sym c.is_bare.ensures ∙ c.if-not-is_bare.true)) c.loop-i.invariant

pub shape_of-out-then-k-out : goal.shape_of-out-then-k-out
shape_of-out-then-k-out c = rest-same c.loop-i.invariant

pub returns-then-k-out : goal.returns-then-k-out
returns-then-k-out c = rest-no-byte (onward (goal.at.returns-then-k-out c).Else-not-is_bare).left c.if-k-out.true

pub overflow_add-k : goal.overflow_add-k
overflow_add-k c = omega (arith, c.if-k-out.false)

pub loop-i-preserved : goal.loop-i-preserved
loop-i-preserved c = rest-byte (onward (goal.at.loop-i-preserved c).Else-not-is_bare).left c.if-k-out.false

pub shape_of-out : goal.shape_of-out
shape_of-out c = rest-same c.loop-i.invariant

pub returns : goal.returns
returns c = rest-done (bare-out c.args.s.now c.loop-i.i c.loop-i-test.false) c.loop-i.invariant
