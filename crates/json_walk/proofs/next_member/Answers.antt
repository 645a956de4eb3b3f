use Prim.Native.Nat.{◌≤◌}
use lib.ListN.{length}
use native.Mathlib.Omega.{arith}
use Rattle.text.proofs.Places.{turn-as}
use Rattle.json_walk.specs.declared.Member.TheVariants.{At, End}
use Rattle.json_walk.specs.Walk.{NextReads}
use Rattle.json_walk.proofs.Marks.{closes_here, stop-in}
use Rattle.json_walk.proofs.Steps.{next-told, next_past}
use Rattle.json_walk.proofs.next_member.Goals as goal

pub returns-then-at-s : goal.returns-then-at-s
returns-then-at-s c =
    let a = c.args in
    record {
      member_in = ((λ l. absurd (omega (arith, c.if-at-s.true))), omega arith);
      next_of = next_past a.s.now a.at (End (length a.s.now)) c.if-at-s.true;
      next_reads = λ l. absurd (omega (arith, c.if-at-s.true));
    }

pub returns-in-Continue : goal.returns-in-Continue
returns-in-Continue c =
    let a = c.args in
    let g = turn-as c.separator.ensures c.in-Continue.is in
    let z : NextReads a.s.now a.at (At c.head_at-h.result.name c.head_at-h.result.start) = (c.in-Continue.j, g, c.head_at-h.ensures.tells_head) in
    let l : a.at ≤ length a.s.now = omega (arith, c.if-at-s.false) in
    record {
      member_in = (c.head_at-h.ensures.name_in_bounds, omega (arith, g.within.0, c.head_at-h.ensures.at_le_start.0 g.within.1), c.head_at-h.ensures.at_le_start.1);
      next_of = next-told a.s.now a.at (At _ _) l z;
      next_reads = z;
    }

pub returns-in-Break : goal.returns-in-Break
returns-in-Break c =
    let a = c.args in
    let g = turn-as c.separator.ensures c.in-Break.is in
    let z = closes_here a.s.now a.at 125 _ _ g c.place.ensures in
    let l : a.at ≤ length a.s.now = omega (arith, c.if-at-s.false) in
    record { member_in = stop-in a.s.now a.at 125 _ _ g c.place.ensures; next_of = next-told a.s.now a.at (End _) l z; next_reads = z }
