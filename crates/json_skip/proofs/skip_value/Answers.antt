use native.Mathlib.Omega.{arith}
use lib.ListN.{length}
use Rattle.text.proofs.Places.{gives_as}
use Rattle.json_scan.proofs.First.{scalar-in}
use Rattle.json_skip.proofs.Ends.{bracket-byte, skips-past, skips-string, skips-bracket, skips-scalar, skips-none}
use Rattle.json_skip.proofs.skip_value.Goals as goal

pub returns-then-at-s : goal.returns-then-at-s
returns-then-at-s c = record {
  lower_bound = (λ l. absurd (omega (arith, c.if-at-s.true, l)), omega arith);
  skips = skips-past c.args.s.now c.args.at (length c.args.s.now) c.if-at-s.true;
}

pub returns-then-b-eq-QUOTE : goal.returns-then-b-eq-QUOTE
returns-then-b-eq-QUOTE c = record {
  lower_bound = (λ l. omega (arith, c.skip_space-i.ensures.from, c.value_stop.ensures.from), c.value_stop.ensures.to);
  skips = skips-string _ _ _ _ c.skip_space-i.ensures c.look-b.ensures.0 _ c.if-b-eq-QUOTE.true c.value_stop.ensures;
}

pub bracket_stop-requires : goal.bracket_stop-requires
bracket_stop-requires c = let look = c.look-b in omega (arith, bracket-byte look.result c.if-b.true, look.ensures.1)

pub returns-then-b : goal.returns-then-b
returns-then-b c = record {
  lower_bound = (λ l. omega (arith, c.skip_space-i.ensures.from, c.bracket_stop.ensures.from), c.bracket_stop.ensures.to);
  skips = skips-bracket _ _ _ _ c.skip_space-i.ensures c.look-b.ensures.0 _ c.if-b.true c.bracket_stop.ensures;
}

pub returns-in-Ok : goal.returns-in-Ok
returns-in-Ok c =
    let h = c.skip_space-i.ensures in
    let s = c.args.s.now in
    let g = gives_as (scalar-in s _ c.scalar_end.ensures) c.in-Ok.is in record {
      lower_bound = (λ l. omega (arith, h.from, g.within.0), g.within.1);
      skips = skips-scalar _ _ _ _ h c.look-b.ensures.0 _ c.if-b.false g;
    }

pub returns-in-Err : goal.returns-in-Err
returns-in-Err c =
    let h = c.skip_space-i.ensures in
    let s = c.args.s.now in
    let g = gives_as (scalar-in s _ c.scalar_end.ensures) c.in-Err.is in record {
      lower_bound = (λ l. omega (arith, h.from, g.within.0), g.within.1);
      skips = skips-none _ _ _ _ h c.look-b.ensures.0 _ c.if-b.false g;
    }
