use native.Mathlib.Omega.{arith}
use mathlib.Core.Path.{sym, subst}
use Prim.Native.Nat.{ℕ, ◌≤◌}
use lib.ListN.{length}
use Rattle.text.proofs.Places.{byte-default}
use Rattle.text.proofs.Cases.{in_between}
use Rattle.text_words.specs.Words.{raw}
use Rattle.text_words.proofs.Meanings.{raw-is}
use Rattle.text_words.proofs.Runs.{run-chain}
use Rattle.json_sound.specs.Sound.{ToChars}
use Rattle.json_sound.proofs.Plain.{chars-on}
use Rattle.json_sound.proofs.raw_end.Goals as goal

pub returns : goal.returns
returns c =
    let s = c.args.s.now in
    let at = c.args.at in
    let P : ℕ → Type 0 = λ k. (at ≤ k) × (k ≤ length s) × ToChars s at k in
    let h : P c.raw_end.result = subst P (sym c.raw_end.ensures) (run-chain P raw s at c.requires (omega arith, c.requires, λ r x. x)
    (λ k l m e p.
    let b = raw-is _ e in (
      omega arith,
      omega arith,
      λ r x. p.2 r (chars-on s k _ (byte-default s k 0 256 m) (omega (arith, b.1)) (in_between 32 127 _ b.0 b.1, b.2, b.3) r x),
    ))) in
    record { lower_bound = (h.0, h.1); to_chars = h.2 }
