use native.Mathlib.Omega.{arith}
use Rattle.std.specs.Prelude.{Ok}
use Rattle.text.proofs.Handed.{handed}
use Rattle.text.proofs.Places.{then_next, then-bad, then-end}
use Prim.Native.Nat.{◌+◌}
use Rattle.json_text.specs.Syntax.{name}
use Rattle.json_chars.proofs.Laws.{char-end, string-stop}
use Rattle.json_sound.proofs.name_rest.Goals as goal

-- at the quote
pub returns-then-look-eq-QUOTE : goal.returns-then-look-eq-QUOTE
unfolding name
returns-then-look-eq-QUOTE c =
    let args = c.args in
    let look = c.look in
    λ at q g t. then_next _ g λ a.
    then_next _ (t (Ok (args.at + 1))
    (string-stop args.s.now args.at (Ok (args.at + 1))
    (char-end args.s.now args.at look.result look.ensures.0 c.if-look-eq-QUOTE.true (omega (arith, look.ensures.1, c.if-look-eq-QUOTE.true)))))
    λ k. then-end _ c.mark.ensures

pub returns-in_err-i : goal.returns-in_err-i
unfolding name
returns-in_err-i c = λ at q g t. handed c.from_residual.ensures.1 (then_next _ g λ a. then-bad _ (t _ c.in_err-i.ensures))

pub returns : goal.returns
unfolding name
returns c = λ at q g t. then_next _ g λ a. then_next _ (t _ c.in_ok-i.ensures) λ k. then-end _ c.mark-2.ensures
