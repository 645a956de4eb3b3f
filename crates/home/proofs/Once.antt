-- What one line at most gives to the model: by the names of the lines (UID, KIND), or by what was seen before (FN, N).
use mathlib.Core.Path.{◌≡◌, refl, sym}
use mathlib.Core.Bool.{Bool, true, false, ◌&&◌}
use mathlib.Core.List.{List, [], ◌∷◌, ◌++◌, append-nil}
use mathlib.Core.Option.{none}
use Prim.Native.Nat.{ℕ, suc}
use Rattle.text.specs.Bytes.{Bytes, ascii, any, all, same, among, lowered, flat}
use Rattle.text.proofs.Cases.{by_bool, not-both, and-true}
use Rattle.text.proofs.Choices.{none-some}
use Rattle.text.proofs.Lists.{all_both, any_head, any-tail}
use Rattle.text.proofs.Same.{same_true, among-head, among_later}
use Rattle.line.specs.Grammar.{Line}
use Rattle.convert.specs.Classify.{Class, as-version, as-uid, as-kind, as_dropped, as-full, as_parts, as-entry, as_member, as-kept, Seen, see, classify, classed_after}
use Rattle.convert.specs.FromCard.{Gives, gives, gathered}
use Rattle.convert.specs.Answers.{second_from}
use Rattle.home.proofs.Images.{AtMostOne}
use Rattle.home.proofs.Classes.{Fact, class-fact}

few-append : {A : Type 0} (xs ys : List A) → AtMostOne xs → ys ≡ [] → AtMostOne (xs ++ ys)
few-append xs ys h e = rw (e, append-nil xs) h

-- a line gives one thing at most
pub few : (l : Line) (c : Class) → AtMostOne (gives l c).uid × AtMostOne (gives l c).kind × AtMostOne (gives l c).full × AtMostOne (gives l c).parts
few l as-version = (tt, tt, tt, tt)
few l (as-uid v) = (tt, tt, tt, tt)
few l (as-kind v) = (tt, tt, tt, tt)
few l as_dropped = (tt, tt, tt, tt)
few l (as-full v) = (tt, tt, tt, tt)
few l (as_parts ps) = (tt, tt, tt, tt)
few l (as-entry i e) = (tt, tt, tt, tt)
few l (as_member m j) = (tt, tt, tt, tt)
few l as-kept = (tt, tt, tt, tt)

-- ---- no second line of that name

abbrev once : List Bytes
once = ascii "version" ∷ ascii "uid" ∷ ascii "kind" ∷ []

second-here : (i : ℕ) (before : List Bytes) (l : Line) (ls : List Line) → second_from i before (l ∷ ls) ≡ none → among (lowered l.name) once && among (lowered l.name) before ≡ false
unfolding second_from
second-here i before l ls h = by_bool (among (lowered l.name) once && among (lowered l.name) before) (λ t. none-some (sym (rw t at h))) (λ t. t)

second-later : (i : ℕ) (before : List Bytes) (l : Line) (ls : List Line) → second_from i before (l ∷ ls) ≡ none → second_from (suc i) (lowered l.name ∷ before) ls ≡ none
unfolding second_from
second-later i before l ls h = rw (second-here i before l ls h) at h

module _ {A : Type 0} (f : Gives → List A) where
  abbrev pub Few : Type 0
  Few = (l : Line) (c : Class) → AtMostOne (f (gives l c))

  module _ (n : Bytes) where
    -- lines of other names give nothing
    abbrev pub ByName : Type 0
    ByName = (s : Seen) (l : Line) (c : Class) → Fact s l c → same (lowered l.name) n ≡ false → f (gives l c) ≡ []

    none_named : ByName → among n once ≡ true → (i : ℕ) (before : List Bytes) (s : Seen) (ls : List Line) → among n before ≡ true → second_from i before ls ≡ none → gathered f (classed_after s ls) ≡ []
    unfolding gathered classed_after flat
    none_named h o i before s [] b e = refl
    none_named h o i before s (l ∷ ls) b e =
        by_bool (same (lowered l.name) n)
        (λ t. let q : among n once && among n before ≡ false = rw (same_true (lowered l.name) n t) at (second-here i before l ls e) in not-both (and-true o b) q)
        (λ t. rw (h s l (classify s l) (class-fact s l) t) (none_named h o (suc i) (lowered l.name ∷ before) (see s (classify s l)) ls (among_later n (lowered l.name) before b) (second-later i before l ls e)))

    pub one-named : ByName → Few → among n once ≡ true → (i : ℕ) (before : List Bytes) (s : Seen) (ls : List Line) → second_from i before ls ≡ none → AtMostOne (gathered f (classed_after s ls))
    unfolding gathered classed_after flat
    one-named h w o i before s [] e = tt
    one-named h w o i before s (l ∷ ls) e =
        by_bool (same (lowered l.name) n)
        (λ t. few-append (f (gives l (classify s l))) _ (w l (classify s l))
        (none_named h o (suc i) (lowered l.name ∷ before) (see s (classify s l)) ls (rw (same_true (lowered l.name) n t) (among-head n before)) (second-later i before l ls e)))
        (λ t. rw (h s l (classify s l) (class-fact s l) t) (one-named h w o (suc i) (lowered l.name ∷ before) (see s (classify s l)) ls (second-later i before l ls e)))

  -- ---- not again once it was seen

  module _ (flag : Seen → Bool) where
    -- the flag stays, nothing is given after it, and what is given sets it
    abbrev pub ByFlag : Type 0
    ByFlag =
        (s : Seen) (l : Line) (c : Class) → Fact s l c → (flag s ≡ true → (flag (see s c) ≡ true) × (f (gives l c) ≡ [])) × (flag (see s c) ≡ false → f (gives l c) ≡ [])

    none_seen : ByFlag → (s : Seen) (ls : List Line) → flag s ≡ true → gathered f (classed_after s ls) ≡ []
    unfolding gathered classed_after flat
    none_seen h s [] e = refl
    none_seen h s (l ∷ ls) e = let v = (h s l (classify s l) (class-fact s l)).0 e in rw v.1 (none_seen h (see s (classify s l)) ls v.0)

    pub one_seen : ByFlag → Few → (s : Seen) (ls : List Line) → AtMostOne (gathered f (classed_after s ls))
    unfolding gathered classed_after flat
    one_seen h w s [] = tt
    one_seen h w s (l ∷ ls) =
        by_bool (flag (see s (classify s l)))
        (λ t. few-append (f (gives l (classify s l))) _ (w l (classify s l)) (none_seen h (see s (classify s l)) ls t))
        (λ t. rw ((h s l (classify s l) (class-fact s l)).1 t) (one_seen h w (see s (classify s l)) ls))

  -- ---- what is given passes a test, where no line is bad

  pub gathered-all : (p : A → Bool) (bad : Line → Bool) → ((s : Seen) (l : Line) (c : Class) → Fact s l c → bad l ≡ false → all p (f (gives l c)) ≡ true)
      → (s : Seen) (ls : List Line) → any bad ls ≡ false → all p (gathered f (classed_after s ls)) ≡ true
  unfolding gathered classed_after flat all
  gathered-all p bad h s [] e = refl
  gathered-all p bad h s (l ∷ ls) e =
      all_both p (f (gives l (classify s l))) _ (h s l (classify s l) (class-fact s l) (any_head bad l ls e)) (gathered-all p bad h (see s (classify s l)) ls (any-tail bad l ls e))
