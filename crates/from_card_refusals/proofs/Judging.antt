-- What is kept of the lines grows by one line, and tells the first of refusals 6 to 10.
use mathlib.Core.Path.{◌≡◌, refl, sym, ap, ◌∙◌}
use mathlib.Core.Bool.{Bool, true, false, ◌&&◌, ◌||◌, not}
use mathlib.Core.List.{List, [], ◌∷◌, ◌++◌}
use mathlib.Core.Option.{Option as Maybe, none, some}
use Rattle.std.specs.Prelude.{Option, Some, None}
use Prim.Native.Nat.{ℕ, suc, ◌+◌}
use native.Mathlib.Omega.{arith}
use native.Mathlib.Nat.{add-zero}
use lib.Dec.{eqb, ltb}
use lib.ListN.{length}
use borrow.Author.Tests.{ne_eqb}
use Rattle.text.specs.Choice.{pick}
use Rattle.text.specs.Bytes.{Bytes, ascii, any, same, among, lowered}
use Rattle.text.proofs.Cases.{by_bool, not-both}
use Rattle.text.proofs.Lists.{any_append}
use Rattle.text.proofs.Same.{same_true, same-swap}
use Rattle.line.specs.Grammar.{Line}
use Rattle.convert.specs.Answers.{Answer, Test, seek, given, given_at, first_from, is_named, misused, second_from, emptied, is_version_line, version_first, line_tests, line_room, at_line, garbled, ungrammatical}
use Rattle.from_card_garbled.specs.Garbled.{found}
use Rattle.served.specs.declared.Refusal.{Refusal}
use Rattle.from_card_refusals.specs.Line.{Coded}
use Rattle.from_card_refusals.specs.Judged.{judged, judged_with, first_of, later_tests, refusal_at, placed, refusal_of, answered}

-- ---- one more at the end

or-none : (b : Bool) → b || false ≡ b
or-none true = refl
or-none false = refl

any_snoc : {A : Type 0} (p : A → Bool) (xs : List A) (x : A) (b : Bool) → b ≡ p x → any p (xs ++ x ∷ []) ≡ any p xs || b
unfolding any
any_snoc p xs x b e = any_append p xs (x ∷ []) ∙ ap (λ u. any p xs || u) (or-none (p x) ∙ sym e)

later : (i : ℕ) {A : Type 0} (x : A) (xs : List A) → suc (suc i) + length xs ≡ suc i + length (x ∷ xs)
later i x xs = omega arith

first-snoc : {A : Type 0} (p : A → Bool) (i : ℕ) (xs : List A) (x : A)
    → found (first_from (suc i) p (xs ++ x ∷ [])) ≡ first_of (found (first_from (suc i) p xs)) (p x) (suc i + length xs)
unfolding first_from
first-snoc p i [] x = by_bool (p x) (λ e. rw (e, add-zero (suc i))) (λ e. rw e)
first-snoc p i (y ∷ xs) x =
    by_bool (p y)
    (λ e. rw e)
    (λ e. rw (e, first-snoc p (suc i) xs x, later i y xs))

regroup : (s a b : Bool) → a || (s || b) ≡ (s || a) || b
regroup true true b = refl
regroup true false b = refl
regroup false a b = refl

-- a name of 8 that came before
abbrev again : Bytes → List Bytes → List Line → Bool
again n before ls = among n (ascii "version" ∷ ascii "uid" ∷ ascii "kind" ∷ []) && (any (is_named n) ls || among n before)

again-cons : (n : Bytes) (before : List Bytes) (m : Line) (ls : List Line) → again n (lowered m.name ∷ before) ls ≡ again n before (m ∷ ls)
unfolding among any
again-cons n before m ls =
    ap (λ u. among n (ascii "version" ∷ ascii "uid" ∷ ascii "kind" ∷ []) && u)
    (ap (λ u. any (is_named n) ls || (u || any (same n) before)) (same-swap n (lowered m.name)) ∙ regroup (same (lowered m.name) n) (any (is_named n) ls) (any (same n) before))

second-snoc : (i : ℕ) (before : List Bytes) (ls : List Line) (l : Line)
    → found (second_from (suc i) before (ls ++ l ∷ [])) ≡ first_of (found (second_from (suc i) before ls)) (again (lowered l.name) before ls) (suc i + length ls)
unfolding second_from any
second-snoc i before [] l =
    by_bool (again (lowered l.name) before []) (λ e. rw (e, add-zero (suc i))) (λ e. rw e)
second-snoc i before (m ∷ ls) l =
    by_bool (among (lowered m.name) (ascii "version" ∷ ascii "uid" ∷ ascii "kind" ∷ []) && among (lowered m.name) before)
    (λ e. rw e)
    (λ e. rw (e, second-snoc (suc i) (lowered m.name ∷ before) ls l, again-cons (lowered l.name) before m ls, later i m ls))

-- ---- the names of 8 by flags

flags : (a b c x v u k : Bool)
    → (a ≡ true → (x ≡ v) × ((b ≡ false) × (c ≡ false))) → (b ≡ true → (x ≡ u) × (c ≡ false)) → (c ≡ true → x ≡ k)
    → (a || (b || (c || false))) && (x || false) ≡ (a && v) || ((b && u) || (c && k))
flags true true c x v u k f g h = not-both refl (f refl).1.0
flags true false true x v u k f g h = not-both refl (f refl).1.1
flags true false false x v u k f g h = or-none x ∙ (f refl).0 ∙ sym (or-none v)
flags false true true x v u k f g h = not-both refl (g refl).1
flags false true false x v u k f g h = or-none x ∙ (g refl).0 ∙ sym (or-none u)
flags false false true x v u k f g h = or-none x ∙ h refl
flags false false false x v u k f g h = refl

version-uid : same (ascii "version") (ascii "uid") ≡ false
unfolding same
version-uid = refl

version-kind : same (ascii "version") (ascii "kind") ≡ false
unfolding same
version-kind = refl

uid-kind : same (ascii "uid") (ascii "kind") ≡ false
unfolding same
uid-kind = refl

-- what is known of a name is known of the word that it is
as-word : {A : Type 0} (f : Bytes → A) (n w : Bytes) → same n w ≡ true → f n ≡ f w
as-word f n w e = ap f (same_true n w e)

by_flags : (n : Bytes) (ls : List Line)
    → again n [] ls
    ≡ (same n (ascii "version") && any (is_named (ascii "version")) ls)
    || ((same n (ascii "uid") && any (is_named (ascii "uid")) ls) || (same n (ascii "kind") && any (is_named (ascii "kind")) ls))
unfolding among any
by_flags n ls =
    flags (same n (ascii "version")) (same n (ascii "uid")) (same n (ascii "kind")) (any (is_named n) ls)
    (any (is_named (ascii "version")) ls) (any (is_named (ascii "uid")) ls) (any (is_named (ascii "kind")) ls)
    (λ e. (
      as-word (λ w. any (is_named w) ls) n (ascii "version") e,
      (as-word (λ w. same w (ascii "uid")) n (ascii "version") e ∙ version-uid, as-word (λ w. same w (ascii "kind")) n (ascii "version") e ∙ version-kind),
    ))
    (λ e. (as-word (λ w. any (is_named w) ls) n (ascii "uid") e, as-word (λ w. same w (ascii "kind")) n (ascii "uid") e ∙ uid-kind))
    (λ e. as-word (λ w. any (is_named w) ls) n (ascii "kind") e)

-- ---- one line more

opened-snoc : (ls : List Line) (l : Line) → version_first (ls ++ l ∷ []) ≡ version_first ls || (eqb (suc (length ls)) 1 && is_version_line l)
opened-snoc [] l = refl
opened-snoc (m ∷ ls) l = rw (ne_eqb (suc (length (m ∷ ls))) 1 (λ z. omega arith)) (sym (or-none (is_version_line m)))

one_more : {A : Type 0} (xs : List A) → 1 + length xs ≡ suc (length xs)
one_more xs = omega arith

pub judged-snoc : (ls : List Line) (l : Line) (code : ℕ) → Coded code l
    → judged (ls ++ l ∷ []) ≡ judged_with (judged ls) (suc (length ls)) code (misused l) (emptied l) (is_version_line l)
unfolding judged judged_with
judged-snoc ls l code is =
    rw (
      first-snoc misused 0 ls l,
      first-snoc emptied 0 ls l,
      second-snoc 0 [] ls l,
      by_flags (lowered l.name) ls,
      any_snoc (is_named (ascii "version")) ls l (eqb code 1) is.version,
      any_snoc (is_named (ascii "uid")) ls l (eqb code 2) is.uid,
      any_snoc (is_named (ascii "kind")) ls l (eqb code 3) is.kind,
      any_snoc (is_named (ascii "fn")) ls l (eqb code 4) is.full,
      opened-snoc ls l,
      one_more ls,
      ← is.version,
      ← is.uid,
      ← is.kind,
    )

pub judged-none : judged [] ≡ record { misused = None; second = None; emptied = None; version = false; uid = false; kind = false; full = false; opened = false }
unfolding judged first_from second_from any
judged-none = refl

-- ---- the refusal

-- the tests by their answers, and the refusal by the places
abbrev tests : Bool → Maybe ℕ → Maybe ℕ → Maybe ℕ → Bool → List Test
tests v m s e f = given 6 (not v) ∷ given_at 7 m ∷ given_at 8 s ∷ given_at 9 e ∷ given 10 (not f) ∷ []

abbrev told : Bool → Option ℕ → Option ℕ → Option ℕ → Bool → Option Refusal
told v m s e f = pick (not v) (Some (refusal_at 6 0)) (placed 7 m (placed 8 s (placed 9 e (pick (not f) (Some (refusal_at 10 0)) None))))

decided : (v : Bool) (m s e : Maybe ℕ) (f : Bool) (a : Answer) → seek (tests v m s e f) a ≡ answered (told v (found m) (found s) (found e) f) a
unfolding seek
decided false m s e f a = refl
decided true (some i) s e f a = refl
decided true none (some i) e f a = refl
decided true none none (some i) f a = refl
decided true none none none false a = refl
decided true none none none true a = refl

pub refusal-told : (ls : List Line) (a : Answer) → seek (later_tests ls) a ≡ answered (refusal_of (judged ls)) a
unfolding later_tests refusal_of judged
refusal-told ls a = decided (version_first ls) (first_from 1 misused ls) (second_from 1 [] ls) (first_from 1 emptied ls) (any (is_named (ascii "fn")) ls) a

-- where 3, 4 and 5 are not given
pub tests-are : (raw : List Bytes) (ls : List Line)
    → line_tests raw ls ≡ given 3 (ltb line_room (length raw)) ∷ at_line 4 garbled raw ∷ at_line 5 ungrammatical raw ∷ later_tests ls
unfolding line_tests later_tests
tests-are raw ls = refl
