-- The rest of an array or of an object: after a separator, and as a part of the whole.
use mathlib.Core.Path.{◌≡◌, refl, ap, ◌∙◌}
use mathlib.Core.Bool.{Bool, true, false}
use mathlib.Core.List.{tail}
use Prim.Native.Nat.{ℕ, zero, suc}
use native.Mathlib.Omega.{arith}
use lib.ListN.{drop}
use lib.Dec.{eqb}
use Rattle.text.specs.Places.{Read}
use Rattle.std.specs.Prelude.{Ok, Err}
use Rattle.std.proofs.Common.{Continue, Break}
use Rattle.text.specs.Choice.{pick}
use Rattle.text.specs.Bytes.{Bytes}
use Rattle.text.specs.Reader.{Got, got, bad, bind, under, first, on, Step, more, last, after, loop}
use Rattle.text.specs.Places.{Agree, AgreeT, Gives, GivesT}
use Rattle.text.proofs.Places.{same-as, up}
use Rattle.text.proofs.Fine.{Fine, Takes, loop-more, loop-last, loop-bad}
use Rattle.json_text.specs.Tree.{Json, enil, econs, mnil, mcons}
use Rattle.json_text.specs.Syntax.{skip, sep, name, item, pair}
use Rattle.json_text.proofs.Fine.{item-fine, pair-fine}
use Rattle.json_scan.specs.After.{later, elements_after, members_after, after_name}

-- ---- by the separator that the code found
module _ {B : Type 0} (b : B) (k : Bytes → Got B) (close : ℕ) (s : Bytes) (at : ℕ) where
  go-by : (p q : Bool) (t u : Bytes) (j : ℕ) → AgreeT s (pick p (got (last zero) t) (pick q (got (more suc) t) (bad u))) (Continue j)
      → pick p (got b t) (pick q (k t) (bad u)) ≡ k (drop j s)
  go-by true q t u j h = absurd h
  go-by false true t u j h = ap k h
  go-by false false t u j h = absurd h

  pub later-go : {j : ℕ} {r : Read} → GivesT s at (sep close zero suc (drop at s)) (Continue j) → Gives s j (k (drop j s)) r → Gives s at (later close b k (drop at s)) r
  unfolding sep on later
  later-go {j} h x =
      same-as (go-by (eqb (first (skip (drop at s))) close) (eqb (first (skip (drop at s))) 44) (tail (skip (drop at s))) (skip (drop at s)) j h.is)
      (up (omega (arith, h.within.0)) x)

  stop-by : (p q : Bool) (t u : Bytes) (r : Read) → AgreeT s (pick p (got (last zero) t) (pick q (got (more suc) t) (bad u))) (Break r)
      → Agree s (pick p (got b t) (pick q (k t) (bad u))) r
  stop-by true q t u (Ok e) h = h
  stop-by true q t u (Err e) h = absurd h
  stop-by false true t u r h = absurd h
  stop-by false false t u (Ok e) h = absurd h
  stop-by false false t u (Err e) h = h

  pub later-stop : {r : Read} → GivesT s at (sep close zero suc (drop at s)) (Break r) → Gives s at (later close b k (drop at s)) r
  unfolding sep on later
  later-stop {r} h = record {
    is = stop-by (eqb (first (skip (drop at s))) close) (eqb (first (skip (drop at s))) 44) (tail (skip (drop at s))) (skip (drop at s)) r h.is;
    within = h.within;
  }

-- ---- a loop is its first turn, and what comes later
loop-turn : {B : Type 0} (f : Bytes → Got (Step B)) → Takes f → (s : Bytes) → loop f s ≡ bind (f s) (λ w t. after w t (loop f))
loop-turn {B} f takes s = by (f s) refl
  where
    by : (x : Got (Step B)) → f s ≡ x → loop f s ≡ bind x (λ w t. after w t (loop f))
    by (got (more g) t) q = loop-more f takes s t g q
    by (got (last b) t) q = loop-last f takes s t b q
    by (bad t) q = loop-bad f takes s t q

module _ {B : Type 0} (b : B) (g : B → B) (k : Bytes → Got B) where
  turn_by : (p q : Bool) (t u : Bytes) → bind (pick p (got (last (g b)) t) (pick q (got (more g) t) (bad u))) (λ w v. after w v k) ≡ under g (pick p (got b t) (pick q (k t) (bad u)))
  turn_by true q t u = refl
  turn_by false true t u = refl
  turn_by false false t u = refl

  sep-later : (close : ℕ) (s : Bytes) → bind (sep close (g b) g s) (λ w t. after w t k) ≡ under g (later close b k s)
  unfolding sep on later
  sep-later close s = turn_by (eqb (first (skip s)) close) (eqb (first (skip s)) 44) (tail (skip s)) (skip s)

module _ (rd : Bytes → Got Json) (fine : Fine 1 rd) (s : Bytes) where
  pub elements-by : loop (item rd) s ≡ bind (rd s) λ j t. under (econs j) (elements_after rd t)
  unfolding item
  elements-by = loop-turn (item rd) (item-fine rd fine).less s ∙ by (rd s)
    where
      by : (x : Got Json) → bind (bind x λ j t. sep 93 (econs j enil) (econs j) t) (λ w t. after w t (loop (item rd))) ≡ bind x λ j t. under (econs j) (elements_after rd t)
      by (got j t) = sep-later enil (econs j) (loop (item rd)) 93 t
      by (bad t) = refl

  pub members-by : loop (pair rd) s ≡ bind (name s) λ k t. after_name k rd t
  unfolding pair
  members-by = loop-turn (pair rd) (pair-fine rd fine).less s ∙ by (name s)
    where
      one : (k : Bytes) (x : Got Json) → bind (bind x λ j t. sep 125 (mcons k j mnil) (mcons k j) t) (λ w t. after w t (loop (pair rd))) ≡ bind x λ j t. under (mcons k j) (members_after rd t)
      one k (got j t) = sep-later mnil (mcons k j) (loop (pair rd)) 125 t
      one k (bad t) = refl

      by : (x : Got Bytes) → bind (bind x λ k t. bind (rd t) λ j t. sep 125 (mcons k j mnil) (mcons k j) t) (λ w t. after w t (loop (pair rd))) ≡ bind x λ k t. after_name k rd t
      by (got k t) = one k (rd t)
      by (bad t) = refl
