-- What stands after a value, as an equation: for readers whose contracts speak of what is read.
use mathlib.Core.Path.{◌≡◌, sym, ap, ◌∙◌}
use mathlib.Core.Bool.{Bool, true, false}
use mathlib.Core.Logic.{◌⊎◌, inl, inr}
use mathlib.Core.List.{tail}
use Prim.Native.Nat.{ℕ, zero, suc}
use lib.ListN.{drop}
use lib.Dec.{eqb}
use Rattle.text.specs.Places.{Read}
use Rattle.std.specs.Prelude.{Ok, Err}
use Rattle.std.proofs.Common.{Continue, Break}
use Rattle.text.specs.Choice.{pick}
use Rattle.text.specs.Bytes.{Bytes}
use Rattle.text.specs.Reader.{Got, got, bad, first, on, Step, more, last}
use Rattle.text.specs.Places.{AgreeT, GivesT}
use Rattle.text.proofs.Readers.{not-bad, got-what}
use Rattle.json_text.specs.Syntax.{skip, sep}
use Rattle.json_marks.proofs.Laws.{sep-any}

-- the answer of a last turn that adds b
abbrev pub stopped : {B : Type 0} → B → Bytes → Read → Got (Step B)
stopped b s (Ok e) = got (last b) (drop e s)
stopped b s (Err e) = bad (drop e s)

module _ {B : Type 0} (b : B) (g : B → B) where
  go-by : (p q : Bool) (s t u : Bytes) (j : ℕ) → AgreeT s (pick p (got (last b) t) (pick q (got (more g) t) (bad u))) (Continue j)
      → pick p (got (last b) t) (pick q (got (more g) t) (bad u)) ≡ got (more g) (drop j s)
  go-by true q s t u j h = absurd h
  go-by false true s t u j h = ap (got (more g)) h
  go-by false false s t u j h = absurd h

  pub sep-go : (close : ℕ) {s : Bytes} {at j : ℕ} → GivesT s at (sep close zero suc (drop at s)) (Continue j) → sep close b g (drop at s) ≡ got (more g) (drop j s)
  unfolding sep on
  sep-go close {s} {at} {j} h =
      go-by (eqb (first (skip (drop at s))) close) (eqb (first (skip (drop at s))) 44) s (tail (skip (drop at s))) (skip (drop at s)) j (sep-any zero suc b g close h).is

  adds-by : (p q : Bool) (t u : Bytes) (w : Step B) (v : Bytes) → pick p (got (last b) t) (pick q (got (more g) t) (bad u)) ≡ got w v → (w ≡ last b) ⊎ (w ≡ more g)
  adds-by true q t u w v e = inl (sym (got-what e))
  adds-by false true t u w v e = inr (sym (got-what e))
  adds-by false false t u w v e = absurd (not-bad e)

  -- what a turn adds
  pub sep-adds : (close : ℕ) (s : Bytes) (w : Step B) (v : Bytes) → sep close b g s ≡ got w v → (w ≡ last b) ⊎ (w ≡ more g)
  unfolding sep on
  sep-adds close s w v e = adds-by (eqb (first (skip s)) close) (eqb (first (skip s)) 44) (tail (skip s)) (skip s) w v e

  stop-as : (p q : Bool) (s t u : Bytes) (r : Read) → AgreeT s (pick p (got (last b) t) (pick q (got (more g) t) (bad u))) (Break r)
      → pick p (got (last b) t) (pick q (got (more g) t) (bad u)) ≡ stopped b s r
  stop-as true q s t u (Ok e) h = ap (got (last b)) h
  stop-as true q s t u (Err e) h = absurd h
  stop-as false true s t u r h = absurd h
  stop-as false false s t u (Ok e) h = absurd h
  stop-as false false s t u (Err e) h = ap bad h

  -- the last turn, by what the code found there
  pub sep-stopped : (close : ℕ) {s : Bytes} {at : ℕ} {r : Read} → GivesT s at (sep close zero suc (drop at s)) (Break r) → sep close b g (drop at s) ≡ stopped b s r
  unfolding sep on
  sep-stopped close {s} {at} {r} h =
      stop-as (eqb (first (skip (drop at s))) close) (eqb (first (skip (drop at s))) 44) s (tail (skip (drop at s))) (skip (drop at s)) r (sep-any zero suc b g close h).is

  pub sep-stop : (close : ℕ) {s : Bytes} {at : ℕ} {r : Read} → GivesT s at (sep close zero suc (drop at s)) (Break r)
      → (w : Step B) (v : Bytes) → sep close b g (drop at s) ≡ got w v → w ≡ last b
  sep-stop close {s} {at} {r} h w v e = added r (sym (sep-stopped close h) ∙ e)
    where
      added : (r : Read) → stopped b s r ≡ got w v → w ≡ last b
      added (Ok x) q = sym (got-what q)
      added (Err x) q = absurd (not-bad q)
