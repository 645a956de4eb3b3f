use native.Mathlib.Omega.{arith}
use mathlib.Core.Path.{◌≡◌, refl, sym, subst, ◌∙◌}
use Prim.Native.Nat.{ℕ, ◌≤◌}
use lib.ListN.{length}
use Rattle.text.specs.Choice.{is_some}
use Rattle.text.proofs.Places.{byte-default}
use Rattle.text_words.specs.Words.{bare}
use Rattle.text_words.proofs.Meanings.{bare-is}
use Rattle.text_words.proofs.Runs.{run-chain}
use Rattle.json_strings.specs.Decoded.{decoded_at}
use Rattle.json_strings.proofs.Equal.{bare-paired}
use Rattle.json_strings.proofs.bare_end.Goals as goal

pub returns : goal.returns
returns c =
    let s = c.args.s.now in
    let at = c.args.at in
    let P : ℕ → Type 0 = λ k. (at ≤ k) × (k ≤ length s) × (is_some (decoded_at s at) ≡ is_some (decoded_at s k)) in
    let h : P c.bare_end.result = subst P (sym c.bare_end.ensures) (run-chain P bare s at c.requires (omega arith, c.requires, refl)
    (λ k l m e p.
    let b = bare-is _ e in (
      omega arith,
      omega arith,
      p.2 ∙ bare-paired s k _ (byte-default s k 0 256 m) b.2 b.1 b.0 (c.type_inv.s k).fits,
    ))) in
    record { lower_bound = (h.0, h.1); at_value = h.2 }
