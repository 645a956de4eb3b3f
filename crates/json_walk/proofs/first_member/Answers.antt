use mathlib.Core.Path.{refl, sym, ◌∙◌}
use native.Mathlib.Omega.{arith}
use Rattle.json_walk.specs.declared.Member.TheVariants.{At, End, NoObject}
use Prim.Native.Nat.{◌+◌}
use Rattle.json_walk.specs.Walk.{FirstReads}
use Rattle.json_walk.proofs.Marks.{none-past, none_here, opens-here}
use Rattle.json_walk.proofs.Steps.{first-told}
use Rattle.json_walk.proofs.first_member.Goals as goal

pub returns-then-at-s : goal.returns-then-at-s
returns-then-at-s c =
    let n = none-past c.args.s.now c.args.at c.if-at-s.true 123 (λ z. omega arith) in
    record { member_in = tt; first_of = first-told c.args.s.now c.args.at NoObject n; first_reads = n }

pub returns-then-look-ne-LEFT_BRACE : goal.returns-then-look-ne-LEFT_BRACE
returns-then-look-ne-LEFT_BRACE c =
    let n = none_here c.args.s.now c.args.at c.skip_space-i.result c.look.result c.skip_space-i.ensures c.look.ensures.0 123 c.if-look-ne-LEFT_BRACE.true in
    record { member_in = tt; first_of = first-told c.args.s.now c.args.at NoObject n; first_reads = n }

pub returns-then-look-eq-RIGHT_BRACE : goal.returns-then-look-eq-RIGHT_BRACE
returns-then-look-eq-RIGHT_BRACE c =
    let args = c.args in
    let look = c.look in
    let look2 = c.look-2 in
    let i = c.skip_space-i in
    let j = c.skip_space-j in
    let o = opens-here args.s.now args.at i.result look.result i.ensures look.ensures.0 123 c.if-look-ne-LEFT_BRACE.false j.result j.ensures in
    let z : FirstReads args.s.now args.at (End (j.result + 1)) = (j.result, o, sym look2.ensures.0 ∙ c.if-look-eq-RIGHT_BRACE.true, refl) in
    record {
      member_in = ((λ l. omega (arith, i.ensures.from, j.ensures.from)), omega (arith, look2.ensures.1, c.if-look-eq-RIGHT_BRACE.true));
      first_of = first-told args.s.now args.at (End _) z;
      first_reads = z;
    }

pub returns : goal.returns
returns c =
    let args = c.args in
    let look = c.look in
    let i = c.skip_space-i in
    let j = c.skip_space-j in
    let o = opens-here args.s.now args.at i.result look.result i.ensures look.ensures.0 123 c.if-look-ne-LEFT_BRACE.false j.result j.ensures in
    let z : FirstReads args.s.now args.at (At c.head_at-h.result.name c.head_at-h.result.start) = (j.result, o, (λ x. c.if-look-eq-RIGHT_BRACE.false (c.look-2.ensures.0 ∙ x)), c.head_at-h.ensures.tells_head) in
    record {
      member_in = (c.head_at-h.ensures.name_in_bounds, omega (arith, i.ensures.from, j.ensures.from, c.head_at-h.ensures.at_le_start.0 j.ensures.to), c.head_at-h.ensures.at_le_start.1);
      first_of = first-told args.s.now args.at (At _ _) z;
      first_reads = z;
    }
