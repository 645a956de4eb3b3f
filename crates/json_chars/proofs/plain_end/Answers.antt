use native.Mathlib.Omega.{arith}
use mathlib.Core.Path.{sym, subst}
use Prim.Native.Nat.{ℕ, ◌≤◌}
use lib.ListN.{length}
use Rattle.text_words.specs.Words.{raw}
use Rattle.text_words.proofs.Meanings.{raw-is}
use Rattle.text_words.proofs.Runs.{run-chain}
use Rattle.text.proofs.Places.{byte-default}
use Rattle.json_chars.specs.Strings.{ToEnd, Unmarked}
use Rattle.json_chars.proofs.Laws.{plain-on, unmarked-none, unmarked-one, unmarked-join}
use Rattle.json_chars.proofs.plain_end.Goals as goal

pub returns : goal.returns
returns c =
    let s = c.args.s.now in
    let at = c.args.at in
    let P : ℕ → Type 0 = λ k. (at ≤ k) × (k ≤ length s) × ToEnd s at k × Unmarked s at k in
    let h : P c.raw_end.result = subst P (sym c.raw_end.ensures) (run-chain P raw s at c.requires (omega arith, c.requires, (λ r x. x), unmarked-none s at)
    (λ k l m e p.
    let b = raw-is _ e in
    let d = byte-default s k 0 256 m in (
      omega arith,
      omega arith,
      (λ r x. p.2 r (plain-on s k _ d b.2 b.3 b.0 (omega (arith, b.1)) (omega arith) r x)),
      unmarked-join s p.3 (unmarked-one s k _ d m b.0 b.2 b.3),
    ))) in
    record { lower_bound = (h.0, h.1); to_end = h.2; unmarked = h.3 }
