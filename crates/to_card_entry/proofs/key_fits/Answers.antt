use native.Mathlib.Omega.{arith}
use mathlib.Core.Path.{sym, ap, ◌∙◌}
use Prim.Native.Nat.{◌-◌}
use Rattle.line.specs.Class.{is_key}
use Rattle.json_strings.proofs.Laws.{decoded-past}
use Rattle.to_card_entry.specs.Rows.{key_of}
use Rattle.to_card_entry.proofs.Keys.{key-end, key-over, key-quote, key-other}
use Rattle.to_card_entry.proofs.key_fits.Goals as goal

-- past the end
pub returns-then-at-s : goal.returns-then-at-s
returns-then-at-s c = sym (ap key_of (decoded-past c.args.s.now c.args.at c.if-at-s.true))

-- another byte, or no string
pub returns-then-b-ne-QUOTE : goal.returns-then-b-ne-QUOTE
returns-then-b-ne-QUOTE c =
    let args = c.args in
    let e = c.key_end-e.result in
    let look = c.look-b in
    key-other args.s.now e look.result (e - args.at) look.ensures.0 c.if-b-ne-QUOTE.true c.if-b-eq-BACKSLASH.false (ap is_key look.ensures.0 ∙ c.key_end-e.ensures.result_value) ∙ sym c.key_end-e.ensures.at_value

-- too long
pub returns-then-n-gt-KEY : goal.returns-then-n-gt-KEY
returns-then-n-gt-KEY c =
    let args = c.args in
    let e = c.key_end-e.result in
    let look = c.look-b in
    key-over (e - args.at) (omega (arith, c.if-n-gt-KEY.true)) ∙ sym (c.key_end-e.ensures.at_value ∙ key-quote args.s.now e look.result (e - args.at) look.ensures.0 c.if-b-ne-QUOTE.false)

pub returns : goal.returns
returns c =
    let args = c.args in
    let e = c.key_end-e.result in
    let look = c.look-b in
    key-end (e - args.at) (omega (arith, c.if-n-gt-KEY.false)) ∙ sym (c.key_end-e.ensures.at_value ∙ key-quote args.s.now e look.result (e - args.at) look.ensures.0 c.if-b-ne-QUOTE.false)
