-- What the lines of a card give to each part of the model.
use mathlib.Core.Path.{◌≡◌, refl, sym, subst, ◌∙◌}
use mathlib.Core.Bool.{true, ◌&&◌}
use mathlib.Core.List.{List, [], ◌∷◌, ◌++◌}
use Prim.Native.Nat.{suc, ◌≤◌}
use native.Mathlib.Omega.{arith}
use lib.ListN.{length}
use Rattle.text.specs.Choice.{is_some}
use Rattle.text.specs.Bytes.{Bytes, among, flat}
use Rattle.text.specs.Utf8.{utf8}
use Rattle.text.proofs.Choices.{some_same}
use Rattle.text.proofs.Cases.{not-true}
use Rattle.json_text.specs.Tree.{Member, name_of}
use Rattle.line.specs.Grammar.{Line}
use Rattle.convert.specs.Table.{Map}
use Rattle.convert.specs.Model.{Kept, has_parts}
use Rattle.convert.specs.Value.{filled}
use Rattle.convert.specs.Carry.{carried_raw, carried_param, carried_kept}
use Rattle.convert.specs.Classify.{Class, as-version, as-uid, as-kind, as_dropped, as-full, as_parts, as-entry, as_member, as-kept, Seen, classify, Classed}
use Rattle.convert.specs.FromCard.{kept_line, Placed, Gives, gives, gathered, first_of, or_else}
use Rattle.convert.specs.FromJson.{is_lower_word, kept_stands, kept_as_line, never_kept}
use Rattle.home.proofs.Proper.{ProperMember, KeptFine}
use Rattle.home.proofs.Alls.{All, all-flat, In, in-flat}
use Rattle.home.proofs.Stands.{stands}
use Rattle.home.proofs.CleanTexts.{CleanText}
use Rattle.home.proofs.ReadNames.{NameWell}
use Rattle.home.proofs.LineEntries.{Drawn}
use Rattle.home.proofs.KeyedEntries.{PlacedWell}
use Rattle.home.proofs.LineKept.{LineFine, fine, carry, same_class, name-word, type-lower, params-lower, params_fit}
use Rattle.home.proofs.Covered.{Covers, still_kept}
use Rattle.home.proofs.ClassFacts.{WellClass}

-- a class that gives nothing to a part gives nothing bad
module _ {A : Type 0} (f : Gives → List A) (W : Line → Class → Type 0) (Q : A → Type 0) (each : (l : Line) (c : Class) → W l c → All Q (f (gives l c))) where
  pub gathered-all : (cs : List Classed) → All (λ (c : Classed). W c.line c.class) cs → All Q (gathered f cs)
  unfolding gathered
  gathered-all cs h = all-flat (λ (c : Classed). W c.line c.class) Q (λ (c : Classed). f (gives c.line c.class)) (λ c k. each c.line c.class k) cs h

pub in-gathered : {A : Type 0} (f : Gives → List A) (l : Line) (c : Class) (a : A) (cs : List Classed) → In a (f (gives l c)) → In (record { line = l; class = c }) cs → In a (gathered f cs)
unfolding gathered
in-gathered f l c a cs h i = in-flat (λ (c : Classed). f (gives c.line c.class)) (record { line = l; class = c }) a cs h i

-- ---- each part

abbrev pub Well : Line → Class → Type 0
Well l c = LineFine l × WellClass l c

abbrev pub UidFine : Bytes → Type 0
UidFine v = (filled v && utf8 v ≡ true) × (carried_raw v ≡ true)

pub uid-given : (l : Line) (c : Class) → Well l c → All UidFine (gives l c).uid
uid-given l as-version h = tt
uid-given l (as-uid v) h = (h.1, tt)
uid-given l (as-kind v) h = tt
uid-given l as_dropped h = tt
uid-given l (as-full v) h = tt
uid-given l (as_parts ps) h = tt
uid-given l (as-entry i e) h = tt
uid-given l (as_member n j) h = tt
uid-given l as-kept h = tt

pub kind-given : (l : Line) (c : Class) → Well l c → All (λ k. is_lower_word k ≡ true) (gives l c).kind
kind-given l as-version h = tt
kind-given l (as-uid v) h = tt
kind-given l (as-kind v) h = (h.1, tt)
kind-given l as_dropped h = tt
kind-given l (as-full v) h = tt
kind-given l (as_parts ps) h = tt
kind-given l (as-entry i e) h = tt
kind-given l (as_member n j) h = tt
kind-given l as-kept h = tt

pub full-given : (l : Line) (c : Class) → Well l c → All CleanText (gives l c).full
full-given l as-version h = tt
full-given l (as-uid v) h = tt
full-given l (as-kind v) h = tt
full-given l as_dropped h = tt
full-given l (as-full v) h = (h.1, tt)
full-given l (as_parts ps) h = tt
full-given l (as-entry i e) h = tt
full-given l (as_member n j) h = tt
full-given l as-kept h = tt

abbrev pub SomeName : List (List Bytes) → Type 0
SomeName ps = NameWell ps × (has_parts ps ≡ true)

pub parts-given : (l : Line) (c : Class) → Well l c → All SomeName (gives l c).parts
parts-given l as-version h = tt
parts-given l (as-uid v) h = tt
parts-given l (as-kind v) h = tt
parts-given l as_dropped h = tt
parts-given l (as-full v) h = tt
parts-given l (as_parts ps) h = (h.1, tt)
parts-given l (as-entry i e) h = tt
parts-given l (as_member n j) h = tt
parts-given l as-kept h = tt

pub entry-given : (l : Line) (c : Class) → Well l c → All PlacedWell (gives l c).entry
entry-given l as-version h = tt
entry-given l (as-uid v) h = tt
entry-given l (as-kind v) h = tt
entry-given l as_dropped h = tt
entry-given l (as-full v) h = tt
entry-given l (as_parts ps) h = tt
entry-given l (as-entry i e) h = (λ m a. subst (λ (n : Map). Drawn n e) (some_same (sym h.1.1 ∙ a)) h.1.2, tt)
entry-given l (as_member n j) h = tt
entry-given l as-kept h = tt

abbrev pub MemberFine : Member → Type 0
MemberFine m = ProperMember m × (carried_param (name_of m) ≡ true)

pub member-given : (l : Line) (c : Class) → Well l c → All MemberFine (gives l c).member
member-given l as-version h = tt
member-given l (as-uid v) h = tt
member-given l (as-kind v) h = tt
member-given l as_dropped h = tt
member-given l (as-full v) h = tt
member-given l (as_parts ps) h = tt
member-given l (as-entry i e) h = tt
member-given l (as_member n j) h = (h.1, tt)
member-given l as-kept h = tt

abbrev pub KeptGood : Kept → Type 0
KeptGood k = KeptFine k × (carried_kept k ≡ true)

pub kept-given : (l : Line) (c : Class) → Well l c → All KeptGood (gives l c).kept
kept-given l as-version h = tt
kept-given l (as-uid v) h = tt
kept-given l (as-kind v) h = tt
kept-given l as_dropped h = tt
kept-given l (as-full v) h = tt
kept-given l (as_parts ps) h = tt
kept-given l (as-entry i e) h = tt
kept-given l (as_member n j) h = tt
kept-given l as-kept h = ((fine l h.0, carry l h.0), tt)

-- ---- kept lines stand in what covers all that was seen before them

kept-class : (t u : Seen) (l : Line) → LineFine l → Covers t u → classify u l ≡ as-kept → classify t (kept_as_line (kept_line l)) ≡ as-kept
kept-class t u l h k e = same_class l h t ∙ still_kept t u k l e

module _ (t : Seen) where
  abbrev pub Stood : Line → Class → Type 0
  Stood l c = Well l c × ((u : Seen) × Covers t u × (classify u l ≡ c))

  pub stand-given : (l : Line) (c : Class) → Stood l c → All (λ k. kept_stands t k ≡ true) (gives l c).kept
  stand-given l as-version h = tt
  stand-given l (as-uid v) h = tt
  stand-given l (as-kind v) h = tt
  stand-given l as_dropped h = tt
  stand-given l (as-full v) h = tt
  stand-given l (as_parts ps) h = tt
  stand-given l (as-entry i e) h = tt
  stand-given l (as_member n j) h = tt
  stand-given l as-kept h =
      let f = h.0.0 in (
        stands t (kept_line l) (record {
          name = name-word l f;
          never = not-true (among (kept_line l).name never_kept) h.0.1;
          type = type-lower l f;
          params = params-lower l f;
          fit = params_fit l f;
          class = kept-class t h.1.0 l f h.1.1 h.1.2;
        }),
        tt,
      )

-- ---- how many entries

one_entry : (l : Line) (c : Class) (ps : List Placed) → length ((gives l c).entry ++ ps) ≤ suc (length ps)
one_entry l as-version ps = omega arith
one_entry l (as-uid v) ps = omega arith
one_entry l (as-kind v) ps = omega arith
one_entry l as_dropped ps = omega arith
one_entry l (as-full v) ps = omega arith
one_entry l (as_parts vs) ps = omega arith
one_entry l (as-entry i e) ps = omega arith
one_entry l (as_member n j) ps = omega arith
one_entry l as-kept ps = omega arith

pub entries-length : (cs : List Classed) → length (gathered (λ (g : Gives). g.entry) cs) ≤ length cs
unfolding gathered flat
entries-length [] = omega arith
entries-length (c ∷ cs) = omega (arith, one_entry c.line c.class (gathered (λ (g : Gives). g.entry) cs), entries-length cs)

-- ---- the first, if any

pub or-else : {A : Type 0} (Q : A → Type 0) (xs : List A) (d : A) → All Q xs → Q d → Q (or_else (first_of xs) d)
or-else Q [] d h q = q
or-else Q (x ∷ xs) d h q = h.0

-- there is one
pub first-in : {A : Type 0} (Q : A → Type 0) (x : A) (xs : List A) (d : A) → In x xs → All Q xs → Q (or_else (first_of xs) d)
first-in Q x [] d i h = absurd i
first-in Q x (y ∷ ys) d i h = h.0

pub is-first : {A : Type 0} (x : A) (xs : List A) → In x xs → is_some (first_of xs) ≡ true
is-first x [] i = absurd i
is-first x (y ∷ ys) i = refl
