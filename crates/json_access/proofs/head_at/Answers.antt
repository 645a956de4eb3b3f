use native.Mathlib.Omega.{arith}
use Rattle.json_access.proofs.Laws.{place_in, name-is, value-begins}
use Rattle.json_access.proofs.Past.{head-past}
use Rattle.json_access.proofs.head_at.Goals as goal

pub returns-then-at-s : goal.returns-then-at-s
returns-then-at-s c = record {
  name_in_bounds = omega arith;
  at_le_start = ((λ l. absurd (omega (arith, c.if-at-s.true))), omega arith);
  tells_head = head-past c.args.s.now c.args.at c.if-at-s.true (record { name = 0; start = 0 });
}

pub string_stop-z-requires : goal.string_stop-z-requires
string_stop-z-requires c = let p = place_in c.args.s.now c.args.at _ _ c.mark.ensures in omega (arith, p.1, c.place-q.ensures)

pub mark-requires-2 : goal.mark-requires-2
mark-requires-2 c = record { at_in_bounds = c.string_stop-z.ensures.to; b_bound = omega arith }

pub skip_space-a-requires : goal.skip_space-a-requires
skip_space-a-requires c = let q = place_in c.args.s.now c.string_stop-z.result _ _ c.mark-2.ensures in omega (arith, q.1, c.place-v.ensures)

pub returns : goal.returns
returns c =
    let a = c.args in
    let f = c.place-q.ensures in
    let g = c.place-v.ensures in
    let z = c.string_stop-z in
    let b = c.skip_space-a.ensures in
    let p = place_in a.s.now a.at _ _ c.mark.ensures in
    let q = place_in a.s.now z.result _ _ c.mark-2.ensures in record {
      name_in_bounds = omega (arith, p.1, f);
      at_le_start = ((λ l. omega (arith, p.0, f, z.ensures.from, q.0, g, b.from)), b.to);
      tells_head = λ k t e. (name-is _ _ c.mark.ensures k t e f, value-begins _ _ c.mark.ensures k t e f _ z.ensures _ c.mark-2.ensures g b);
    }
