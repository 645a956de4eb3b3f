use borrow.Author.Rules.{rules}
use native.Mathlib.Omega.{arith}
use native.Mathlib.Nat.{le_refl}
use mathlib.Core.Path.{sym, subst}
use Prim.Native.Nat.{ℕ, ◌≤◌}
use lib.ListN.{length}
use Rattle.text.proofs.Places.{byte-default}
use Rattle.text_words.specs.Words.{plain}
use Rattle.text_words.proofs.Meanings.{plain-is}
use Rattle.text_words.proofs.Runs.{run-chain}
use Rattle.to_card_pen.specs.Styles.{PlainRun}
use Rattle.to_card_pen.proofs.Plain.{run_none, run_more}
use Rattle.to_card_pen.proofs.plain_end.Goals as goal

pub returns-then-hold-ne0 : goal.returns-then-hold-ne0
returns-then-hold-ne0 c = (le_refl _, search rules, run_none c.args.s.now c.args.hold c.args.at)

pub returns : goal.returns
returns c =
    let s = c.args.s.now in
    let at = c.args.at in
    let hold = c.args.hold in
    let P : ℕ → Type 0 = λ k. (at ≤ k) × (k ≤ length s) × PlainRun s hold at k in
    subst P (sym c.plain_end.ensures) (run-chain P plain s at c.requires (omega arith, c.requires, run_none s hold at)
    (λ k l m e p.
    let b = plain-is _ e in (
      omega arith,
      omega arith,
      run_more s hold at k _ p.2 c.if-hold-ne0.false (byte-default s k 0 256 m) (b.0, (c.type_inv.s k).fits, b.1, b.2, b.3, b.4, b.5),
    )))
