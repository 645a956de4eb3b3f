use native.Mathlib.Omega.{arith}
use mathlib.Core.Path.{sym, ◌∙◌}
use Rattle.text.proofs.Places.{inside-at}
use Rattle.json_text.specs.Grammar.{is_hex}
use Rattle.json_text.proofs.Fine.{hex-256}
use Rattle.json_escapes.proofs.Laws.{hex-yes, hex-no}
use Rattle.json_escapes.proofs.digit_at.Goals as goal

pub hex_value-requires : goal.hex_value-requires
hex_value-requires c = sym c.is_hex.ensures ∙ c.if-is_hex.true

pub returns-then-is_hex : goal.returns-then-is_hex
returns-then-is_hex c = let t = sym c.is_hex.ensures ∙ c.if-is_hex.true in
    let l = inside-at is_hex c.args.s.now c.args.at c.look-b.result hex-256 c.requires c.look-b.ensures.0 t in
    record { is = hex-yes c.args.s.now c.args.at c.look-b.result c.look-b.ensures.0 t _ c.hex_value.ensures.0; within = omega (arith, c.hex_value.ensures.1) }

pub returns : goal.returns
returns c = record { is = hex-no c.args.s.now c.args.at c.look-b.result c.look-b.ensures.0 (sym c.is_hex.ensures ∙ c.if-is_hex.false); within = omega arith }
