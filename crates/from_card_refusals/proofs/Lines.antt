-- Refusals 6, 7 and 9 of a line, by the numbers of its table.
use mathlib.Core.Path.{◌≡◌, refl, sym, ap, ◌∙◌}
use mathlib.Core.Bool.{Bool, true, false, ◌&&◌, ◌||◌, not}
use mathlib.Core.List.{List, [], ◌∷◌, map}
use Prim.Native.Nat.{ℕ, zero, suc, ◌+◌, ◌-◌}
use native.Mathlib.Omega.{arith}
use lib.Dec.{eqb}
use lib.ListN.{length, get_or, length-append, length-take, length-drop}
use borrow.Author.Tests.{eq-eqb, ne_eqb, eqb-true, eqb-false}
use Rattle.text.specs.Bytes.{Bytes, ascii, empty, any, all, same, lowered, flat}
use Rattle.text.proofs.Cases.{by_bool}
use Rattle.text.proofs.Lists.{keep-none}
use Rattle.line.specs.Class.{is_name}
use Rattle.line.specs.Grammar.{Param, param, param_name, param_values, Line}
use Rattle.line.specs.Params.{named, values_named, lacking, besides_value, value_type}
use Rattle.line.proofs.Named.{values_named-append, lacking-append, values_named-one, values_named-other, lacking-one, lacking-other, values_named-none, lacking-none}
use Rattle.convert.specs.Answers.{is_named, only_uri, value_fits, misused, emptied, is_version_line}
use Rattle.convert.specs.Table.{position}
use Rattle.line_table.specs.Table.{part, name_at, value_at, Span, rows_in, line_in}
use Rattle.convert_params.specs.Row.{kind_of, is_kind, values_kind, First, Held, Row}
use Rattle.convert_entry.specs.Rows.{type_number}
use Rattle.convert_entry.proofs.Named.{kind-same, values}
use Rattle.convert_entry.proofs.Tests.{number-uri}
use Rattle.table_entry.proofs.Entry.{value-is}
use Rattle.from_card_refusals.specs.Line.{Coded, is_word}

-- ---- words

pub no_word : (v : Bytes) → length v ≡ 0 → is_word v ≡ false
unfolding is_word
no_word [] e = refl
no_word (x ∷ v) e = absurd (omega (arith, e))

pub word-all : (v : Bytes) → (length v ≡ 0 → ⊥) → is_word v ≡ all is_name v
unfolding is_word
word-all [] n = absurd (n refl)
word-all (x ∷ v) n = refl

not-word : (v : Bytes) → empty v || not (all is_name v) ≡ not (is_word v)
unfolding is_word
not-word [] = refl
not-word (x ∷ v) = refl

-- ---- VALUE

fits-none : (vs : List Bytes) (k : ℕ) → k ≡ length vs → k ≡ 0 → value_fits vs ≡ true
fits-none [] k e z = refl
fits-none (v ∷ vs) k e z = absurd (omega arith)

fits-many : (vs : List Bytes) (k : ℕ) → k ≡ length vs → (k ≡ 0 → ⊥) → (k ≡ 1 → ⊥) → value_fits vs ≡ false
fits-many [] k e n m = absurd (n e)
fits-many (v ∷ []) k e n m = absurd (m e)
fits-many (v ∷ (w ∷ vs)) k e n m = refl

fits_one : (us vs : List Bytes) (v : Bytes) (k : ℕ) → k ≡ length vs → k ≡ 1 → vs ≡ v ∷ us → value_fits vs ≡ is_word v
unfolding is_word
fits_one [] vs v k e z is = ap value_fits is
fits_one (u ∷ us) vs v k e z is = absurd (omega (arith, ap length is))

module _ {s : Bytes} {C F T : List ℕ} {ps : List Param} (r : Row s C F T ps) where
  kinds : Held s (get_or C 3 0) (get_or F 3 0) (get_or T 3 0) (values_kind 3 ps)
  kinds = r.held 3 (omega arith)

  pub value_none : get_or C 3 0 ≡ 0 → value_fits (values_named (ascii "value") ps) ≡ true
  value_none z = ap value_fits (sym (values ps)) ∙ fits-none (values_kind 3 ps) (get_or C 3 0) kinds.count z

  pub value-many : (get_or C 3 0 ≡ 0 → ⊥) → (get_or C 3 0 ≡ 1 → ⊥) → value_fits (values_named (ascii "value") ps) ≡ false
  value-many n m = ap value_fits (sym (values ps)) ∙ fits-many (values_kind 3 ps) (get_or C 3 0) kinds.count n m

  pub value-one : get_or C 3 0 ≡ 1 → value_fits (values_named (ascii "value") ps) ≡ is_word (part s (get_or F 3 0) (get_or T 3 0))
  value-one z =
      let f : First s (get_or F 3 0) (get_or T 3 0) (values_kind 3 ps) = kinds.first (omega arith) in
      ap value_fits (sym (values ps)) ∙ fits_one f.others (values_kind 3 ps) _ (get_or C 3 0) kinds.count z f.is

  value-count : length (values_named (ascii "value") ps) ≡ get_or C 3 0
  value-count = sym (kinds.count ∙ ap length (values ps))

-- ---- GROUP

any_same : {A : Type 0} (p q : A → Bool) → ((x : A) → p x ≡ q x) → (xs : List A) → any p xs ≡ any q xs
unfolding any
any_same p q h [] = refl
any_same p q h (x ∷ xs) = rw (h x, any_same p q h xs)

group-kind : kind_of (ascii "group") ≡ 6
unfolding kind_of position same
group-kind = refl

is-group : (p : Param) → is_kind 6 p ≡ named (ascii "group") p
unfolding is_kind named
is-group p = kind-same 6 (lowered (param_name p)) (ascii "group") (omega arith) group-kind refl

none_of : (m : ℕ) (ps : List Param) → any (is_kind m) ps ≡ false → length (values_kind m ps) ≡ 0
unfolding values_kind flat
none_of m ps e = ap (λ l. length (flat (map param_values l))) (keep-none (is_kind m) ps e)

pub group-told : {s : Bytes} {C F T : List ℕ} {ps : List Param} → Row s C F T ps → any (named (ascii "group")) ps ≡ not (eqb (get_or C 6 0) 0)
group-told {s} {C} {F} {T} {ps} r =
    sym (any_same (is_kind 6) (named (ascii "group")) is-group ps)
    ∙ by_bool (eqb (get_or C 6 0) 0)
    (λ b. r.absent 6 (omega arith) (eqb-true (get_or C 6 0) 0 b) ∙ sym (ap not b))
    (λ b. by_bool (any (is_kind 6) ps)
    (λ a. a ∙ sym (ap not b))
    (λ a. absurd (eqb-false (get_or C 6 0) 0 b ((r.held 6 (omega arith)).count ∙ none_of 6 ps a))))

-- ---- how many parameters

empty-length : {A : Type 0} (xs : List A) → empty xs ≡ eqb (length xs) 0
empty-length [] = refl
empty-length (x ∷ xs) = sym (ne_eqb (length (x ∷ xs)) 0 (λ z. omega arith))

rows-length : (s : Bytes) (t : List ℕ) (n : ℕ) → length (rows_in s t n) ≡ n
unfolding rows_in
rows-length s t zero = refl
rows-length s t (suc n) = simp length-append (omega (arith, rows-length s t n))

-- a parameter of one value is VALUE, or is not
one-or-other : (x v : Bytes) → length (lacking (ascii "value") (param x (v ∷ []) ∷ [])) + length (values_named (ascii "value") (param x (v ∷ []) ∷ [])) ≡ 1
one-or-other x v =
    by_bool (same (lowered x) (ascii "value"))
    (λ b. rw (lacking-one (ascii "value") x (v ∷ []) b, values_named-one (ascii "value") x (v ∷ []) b))
    (λ b. rw (lacking-other (ascii "value") x (v ∷ []) b, values_named-other (ascii "value") x (v ∷ []) b))

rows_split : (s : Bytes) (t : List ℕ) (n : ℕ) → length (lacking (ascii "value") (rows_in s t n)) + length (values_named (ascii "value") (rows_in s t n)) ≡ n
unfolding rows_in
rows_split s t zero = rw (lacking-none (ascii "value"), values_named-none (ascii "value"))
rows_split s t (suc n) =
    simp (lacking-append, values_named-append, length-append) (omega (arith, rows_split s t n, one-or-other (name_at s t n) (value_at s t n)))

module _ (s : Bytes) (t : List ℕ) where
  pub params-empty : empty (line_in s t).params ≡ eqb (get_or t 6 0) 0
  unfolding line_in
  params-empty = empty-length (rows_in s t (get_or t 6 0)) ∙ ap (λ k. eqb k 0) (rows-length s t (get_or t 6 0))

  besides : length (besides_value (line_in s t).params) + length (values_named (ascii "value") (line_in s t).params) ≡ get_or t 6 0
  unfolding line_in besides_value
  besides = rows_split s t (get_or t 6 0)

  pub only_none : get_or t 6 0 ≡ 0 → only_uri (line_in s t).params ≡ true
  unfolding only_uri
  only_none z = rw (params-empty ∙ eq-eqb (get_or t 6 0) 0 z)

  module _ {C F T : List ℕ} (r : Row s C F T (line_in s t).params) (n : get_or t 6 0 ≡ 0 → ⊥) where
    pub only-others : (get_or C 3 0 ≡ get_or t 6 0 → ⊥) → only_uri (line_in s t).params ≡ false
    unfolding only_uri
    only-others d =
        let e : empty (besides_value (line_in s t).params) ≡ false =
        empty-length (besides_value (line_in s t).params) ∙ ne_eqb (length (besides_value (line_in s t).params)) 0 (λ z. d (omega (arith, z, besides, value-count r))) in
        rw (params-empty ∙ ne_eqb (get_or t 6 0) 0 n, e)

    pub only-value : get_or C 3 0 ≡ get_or t 6 0 → (k : ℕ) → k ≡ type_number (value_type (line_in s t).params) → only_uri (line_in s t).params ≡ eqb k 1
    unfolding only_uri
    only-value h k is =
        let e : empty (besides_value (line_in s t).params) ≡ true =
        empty-length (besides_value (line_in s t).params) ∙ eq-eqb (length (besides_value (line_in s t).params)) 0 (omega (arith, h, besides, value-count r)) in
        rw (params-empty ∙ ne_eqb (get_or t 6 0) 0 n, e) (sym (number-uri (value_type (line_in s t).params)) ∙ ap (λ m. eqb m 1) (sym is))

-- ---- 7

or_yes : (a : Bool) → a || true ≡ true
or_yes true = refl
or_yes false = refl

or-none : (a : Bool) → a || false ≡ a
or-none true = refl
or-none false = refl

and_no : (a : Bool) → a && false ≡ false
and_no true = refl
and_no false = refl

twice : (a : Bool) → (a || false) || false ≡ a
twice true = refl
twice false = refl

thrice : (a : Bool) → ((a || false) || false) || false ≡ a
thrice true = refl
thrice false = refl

third : (a b : Bool) → (a || true) || b ≡ true
third true b = refl
third false b = refl

module _ (l : Line) where
  abbrev valued : Bool
  valued = value_fits (values_named (ascii "value") l.params)

  abbrev grouping : Bool
  grouping = any (named (ascii "group")) l.params

  -- UID and KIND
  abbrev heads : Bool
  heads =
      (is_named (ascii "uid") l && not (empty l.group && only_uri l.params))
      || (is_named (ascii "kind") l && not (empty l.group && empty l.params))

  pub misused-group : grouping ≡ true → misused l ≡ true
  unfolding misused
  misused-group g = rw g (third heads (not valued))

  pub misused-value : valued ≡ false → misused l ≡ true
  unfolding misused
  misused-value v = rw v (or_yes (heads || grouping))

  module _ (code : ℕ) (is : Coded code l) where
    not-uid : (code ≡ 2 → ⊥) → is_named (ascii "uid") l ≡ false
    not-uid n = sym is.uid ∙ ne_eqb code 2 n

    not-kind : (code ≡ 3 → ⊥) → is_named (ascii "kind") l ≡ false
    not-kind n = sym is.kind ∙ ne_eqb code 3 n

    a-uid : code ≡ 2 → is_named (ascii "uid") l ≡ true
    a-uid h = sym is.uid ∙ eq-eqb code 2 h

    a-kind : code ≡ 3 → is_named (ascii "kind") l ≡ true
    a-kind h = sym is.kind ∙ eq-eqb code 3 h

    module _ (g : grouping ≡ false) (v : valued ≡ true) where
      pub uid-grouped : code ≡ 2 → empty l.group ≡ false → misused l ≡ true
      unfolding misused
      uid-grouped h e = rw (a-uid h, e)

      pub uid-params : code ≡ 2 → empty l.group ≡ true → misused l ≡ not (only_uri l.params)
      unfolding misused
      uid-params h e = rw (a-uid h, not-kind (λ z. omega arith), e, g, v) (thrice (not (only_uri l.params)))

      pub kind-grouped : code ≡ 3 → empty l.group ≡ false → misused l ≡ true
      unfolding misused
      kind-grouped h e = rw (not-uid (λ z. omega arith), a-kind h, e)

      pub kind-params : code ≡ 3 → empty l.group ≡ true → misused l ≡ not (empty l.params)
      unfolding misused
      kind-params h e = rw (not-uid (λ z. omega arith), a-kind h, e, g, v) (twice (not (empty l.params)))

      pub other-used : (code ≡ 2 → ⊥) → (code ≡ 3 → ⊥) → misused l ≡ false
      unfolding misused
      other-used m n = rw (not-uid m, not-kind n, g, v)

    -- ---- 9

    pub uid-emptied : code ≡ 2 → emptied l ≡ empty l.value
    unfolding emptied
    uid-emptied h = rw (a-uid h, not-kind (λ z. omega arith)) (or-none (empty l.value))

    pub kind-emptied : code ≡ 3 → emptied l ≡ not (is_word l.value)
    unfolding emptied
    kind-emptied h = rw (not-uid (λ z. omega arith), a-kind h) (not-word l.value)

    pub other-emptied : (code ≡ 2 → ⊥) → (code ≡ 3 → ⊥) → emptied l ≡ false
    unfolding emptied
    other-emptied m n = rw (not-uid m, not-kind n)

    -- ---- 6

    pub other_name : (code ≡ 1 → ⊥) → is_version_line l ≡ false
    unfolding is_version_line
    other_name n = rw (sym is.version ∙ ne_eqb code 1 n, and_no (empty l.group))

    pub version-grouped : empty l.group ≡ false → is_version_line l ≡ false
    unfolding is_version_line
    version-grouped e = rw e

    module _ (h : code ≡ 1) (e : empty l.group ≡ true) where
      a-version : is_named (ascii "version") l ≡ true
      a-version = sym is.version ∙ eq-eqb code 1 h

      pub version-params : empty l.params ≡ false → is_version_line l ≡ false
      unfolding is_version_line
      version-params p = rw (e, a-version, p)

      pub version-value : empty l.params ≡ true → is_version_line l ≡ same l.value (ascii "4.0")
      unfolding is_version_line
      version-value p = rw (e, a-version, p)

part_length : (s : Bytes) (a b : ℕ) → Span s a b → length (part s a b) ≡ b - a
part_length s a b w = simp (length-take, length-drop) (omega (arith, w.ordered, w.within))

part-empty : (s : Bytes) (a b : ℕ) → Span s a b → empty (part s a b) ≡ eqb a b
part-empty s a b w =
    empty-length (part s a b)
    ∙ ap (λ n. eqb n 0) (part_length s a b w)
    ∙ by_bool (eqb a b)
    (λ e. eq-eqb (b - a) 0 (omega (arith, eqb-true a b e)) ∙ sym e)
    (λ e. ne_eqb (b - a) 0 (λ z. eqb-false a b e (omega (arith, z, w.ordered))) ∙ sym e)

pub value-empty : (s : Bytes) (t : List ℕ) → Span s (get_or t 4 0) (get_or t 5 0) → empty (line_in s t).value ≡ eqb (get_or t 4 0) (get_or t 5 0)
value-empty s t w = ap empty (value-is s t) ∙ part-empty s (get_or t 4 0) (get_or t 5 0) w
