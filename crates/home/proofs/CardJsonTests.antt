-- A reading has a value exactly where a test holds: the small steps for `CardJson`.
use mathlib.Core.Path.{◌≡◌, refl, sym, ap, ap₂, ◌∙◌}
use mathlib.Core.Bool.{Bool, true, false, ◌&&◌}
use mathlib.Core.List.{List, [], ◌∷◌, map}
use mathlib.Core.Option
use mathlib.Core.Option.{Option, none, some}
use Prim.Native.Nat.{ℕ, suc}
use lib.Dec.{eqb, ltb}
use borrow.Author.Tests.{ne_eqb}
use Rattle.text.specs.Choice.{with-some, is_some, both, chain, provided}
use Rattle.text.specs.Bytes.{Bytes, all, any, same, among, lower, lowered, between, each}
use Rattle.text.proofs.Cases.{by_bool, by_below, up_to, beyond, tests, not-both}
use Rattle.text.proofs.Lists.{all_head, all_tail}
use Rattle.text.proofs.Same.{same_true}
use Rattle.json_text.specs.Tree.{Json, jnull, jtrue, jfalse, jnum, jstr, jarr, jobj, Member, member, name_of, field}
use Rattle.line.specs.Class.{is_name, is_lower_name}
use Rattle.convert.specs.Table.{position}
use Rattle.convert.specs.Value.{is_key_text, is_pref}
use Rattle.convert.specs.FromJson.{is_lower_word, is_true, is_false}
use Rattle.home.specs.Reasons.{key_fits, pref_number}
use Rattle.home.specs.CardJson.{a_true, a_false, lower_name, filled}
use Rattle.home.proofs.Known.{on_none, on_each}
pub use Rattle.home.proofs.ReasonsEntries.{and_one, or-none, some-provided}
use Rattle.home.proofs.Words.{no_name}

-- ---- bools

pub and_none : (b : Bool) → b && false ≡ false
and_none true = refl
and_none false = refl

pub and-swap : (a b : Bool) → a && b ≡ b && a
and-swap true b = sym (and_one b)
and-swap false b = sym (and_none b)

pub and_again : (a b c : Bool) → (a && b) && c ≡ a && (b && c)
and_again true b c = refl
and_again false b c = refl

crossed : (a b c d : Bool) → (a && b) && (c && d) ≡ (a && c) && (b && d)
crossed true true c d = refl
crossed true false true d = refl
crossed true false false d = refl
crossed false b c d = refl

-- the second is looked at only where the first holds
pub and-where : (a b c : Bool) → (a ≡ true → b ≡ c) → a && b ≡ a && c
and-where true b c h = h refl
and-where false b c h = refl

-- ---- values

pub provided-one : {A : Type 0} (b : Bool) (a : A) → is_some (provided b (some a)) ≡ b
provided-one true a = refl
provided-one false a = refl

pub some-map : {A B : Type 0} (f : A → B) (x : Option A) → is_some (Option.map f x) ≡ is_some x
some-map f none = refl
some-map f (some a) = refl

pub some-both : {A B C : Type 0} (f : A → B → C) (x : Option A) (y : Option B) → is_some (both f x y) ≡ is_some x && is_some y
some-both f none y = refl
some-both f (some a) none = refl
some-both f (some a) (some b) = refl

pub some_chain : {A B : Type 0} (o : Option A) (f : A → Option B) (p : A → Bool) → ((a : A) → is_some (f a) ≡ p a) → is_some (chain o f) ≡ with-some o p false
some_chain none f p h = refl
some_chain (some a) f p h = h a

-- one that may be absent
pub some-optional : {A B : Type 0} (o : Option A) (f : A → Option B) (d : B) (p : A → Bool) → ((a : A) → is_some (f a) ≡ p a) → is_some (with-some o f (some d)) ≡ with-some o p true
some-optional none f d p h = refl
some-optional (some a) f d p h = h a

-- a reading, then a second one that is looked at only where the first has a value
pub chain-and : {A B : Type 0} (o : Option A) (f : A → Option B) (b c : Bool) → is_some o ≡ b → ((a : A) → o ≡ some a → is_some (f a) ≡ c) → is_some (chain o f) ≡ b && c
chain-and none f b c e h = ap (λ (x : Bool). x && c) e
chain-and (some a) f b c e h = h a refl ∙ ap (λ (x : Bool). x && c) e

-- ---- lists

pub some-each : {A B : Type 0} (f : A → Option B) (p : A → Bool) → ((a : A) → is_some (f a) ≡ p a) → (xs : List A) → is_some (each f xs) ≡ all p xs
unfolding each all
some-each f p h [] = refl
some-each f p h (x ∷ xs) = some-both ◌∷◌ (f x) (each f xs) ∙ ap₂ ◌&&◌ (h x) (some-each f p h xs)

-- what is read of a list passes a test where the list does
pub any-each : {A B : Type 0} (f : A → Option B) (p : B → Bool) (q : A → Bool) → ((a : A) (b : B) → f a ≡ some b → p b ≡ q a) → (xs : List A) (ys : List B) → each f xs ≡ some ys → any p ys ≡ any q xs
unfolding any
any-each f p q h [] ys e = on_none f e λ i. rw (← i)
any-each f p q h (x ∷ xs) ys e = on_each f x xs e λ z zs a b i. rw (← i, h x z a, any-each f p q h xs zs b)

pub any-nothing : {A : Type 0} (xs : List A) → any (λ x. false) xs ≡ false
unfolding any
any-nothing [] = refl
any-nothing (x ∷ xs) = any-nothing xs

pub all_same : {A : Type 0} (p q : A → Bool) → ((a : A) → p a ≡ q a) → (xs : List A) → all p xs ≡ all q xs
unfolding all
all_same p q h [] = refl
all_same p q h (x ∷ xs) = ap₂ ◌&&◌ (h x) (all_same p q h xs)

one_later : (o : Option ℕ) → is_some (with-some o (λ n. some (suc n)) none) ≡ is_some o
one_later none = refl
one_later (some n) = refl

-- a place is found where the name is among those of the list
pub found : {A : Type 0} (f : A → Bytes) (n : Bytes) (ts : List A) → is_some (position (λ t. same n (f t)) ts) ≡ among n (map f ts)
unfolding position among any
found f n [] = refl
found f n (t ∷ ts) = by_bool (same n (f t)) (λ q. rw q) (λ q. rw q (one_later (position (λ t. same n (f t)) ts) ∙ found f n ts))

pub found_name : (n : Bytes) (ns : List Bytes) → is_some (position (same n) ns) ≡ among n ns
unfolding position among any
found_name n [] = refl
found_name n (m ∷ ns) = by_bool (same n m) (λ q. rw q) (λ q. rw q (one_later (position (same n) ns) ∙ found_name n ns))

-- ---- JSON types

pub is_true_lem : (j : Json) → is_true j ≡ a_true j
is_true_lem jnull = refl
is_true_lem jtrue = refl
is_true_lem jfalse = refl
is_true_lem (jnum x) = refl
is_true_lem (jstr s) = refl
is_true_lem (jarr es) = refl
is_true_lem (jobj ms) = refl

pub is_false_lem : (j : Json) → is_some (is_false j) ≡ a_false j
is_false_lem jnull = refl
is_false_lem jtrue = refl
is_false_lem jfalse = refl
is_false_lem (jnum x) = refl
is_false_lem (jstr s) = refl
is_false_lem (jarr es) = refl
is_false_lem (jobj ms) = refl

-- ---- members

-- no member of that name, where only others may be there
pub absent : (ns : List Bytes) (n : Bytes) → among n ns ≡ false → (ms : List Member) → all (λ m. among (name_of m) ns) ms ≡ true → field n ms ≡ none
unfolding field
absent ns n h [] e = refl
absent ns n h (member m j ∷ ms) e =
    by_bool (same m n)
    (λ q. not-both (all_head (λ m. among (name_of m) ns) (member m j) ms e) (ap (λ (x : Bytes). among x ns) (same_true m n q) ∙ h))
    (λ q. rw q (absent ns n h ms (all_tail (λ m. among (name_of m) ns) (member m j) ms e)))

-- ---- strings of forms

pub key_fits_lem : (k : Bytes) → is_key_text k ≡ key_fits k
unfolding is_key_text key_fits
key_fits_lem k = refl

pub pref-fits : (p : Bytes) → is_pref p ≡ pref_number p
unfolding is_pref pref_number
pref-fits p = refl

-- a lower-case name: of name characters, and the same in lower case
no_lower : (c : ℕ) → ltb c 128 ≡ false → is_lower_name c ≡ false
unfolding is_lower_name
no_lower c l = rw (beyond 97 122 c (omega tests), beyond 48 57 c (omega tests), ne_eqb c 45 (omega tests))

lower-below : map is_lower_name (up_to 128) ≡ map (λ c. is_name c && eqb (lower c) c) (up_to 128)
unfolding is_lower_name is_name lower between
lower-below = refl

lower-char : (c : ℕ) → is_lower_name c ≡ is_name c && eqb (lower c) c
lower-char c = by_below is_lower_name (λ c. is_name c && eqb (lower c) c) c 128 lower-below (λ l. rw (no_lower c l, no_name c l))

lower-chars : (s : Bytes) → all is_lower_name s ≡ all is_name s && same (lowered s) s
unfolding all lowered same
lower-chars [] = refl
lower-chars (c ∷ s) = ap₂ ◌&&◌ (lower-char c) (lower-chars s) ∙ crossed (is_name c) (eqb (lower c) c) (all is_name s) (same (lowered s) s)

pub lower_word : (s : Bytes) → is_lower_word s ≡ lower_name s
unfolding lower_name
lower_word s = ap (λ (b : Bool). filled s && b) (lower-chars s) ∙ sym (and_again (filled s) (all is_name s) (same (lowered s) s))
