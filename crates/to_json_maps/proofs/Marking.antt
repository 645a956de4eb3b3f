-- The marks of a map's PROP-IDs, line by line.
use mathlib.Core.Path.{◌≡◌, refl, sym, ap, subst, ◌∙◌}
use mathlib.Core.Bool.{Bool, true, false, not, ◌||◌}
use mathlib.Core.List.{List, [], ◌∷◌, ◌++◌, append-nil}
use mathlib.Core.Option.{none}
use Prim.Native.Nat.{ℕ, zero, suc, ◌+◌, ◌-◌, ◌≤◌, ◌<◌}
use native.Mathlib.Omega.{arith}
use native.Mathlib.Numerals.{add-one}
use lib.Dec.{eqb}
use lib.ListN.{length, take, drop, get_or}
use lib.Seq.{take_all}
use borrow.Author.Tests.{eqb-true, eqb-false, ne_eqb}
use Rattle.text.specs.Bytes.{Bytes, empty, keep, among}
use Rattle.text.proofs.Cases.{by_bool, not-both}
use Rattle.text.proofs.Choices.{none-some}
use Rattle.text.proofs.Same.{among_none}
use Rattle.line.specs.Grammar.{read_line}
use Rattle.line_table.specs.Table.{line_in, Holds, Filled}
use Rattle.line_unfold.specs.Table.{line_at}
use Rattle.convert.specs.Model.{Entry}
use Rattle.convert.specs.Classify.{as-entry, Classed}
use Rattle.convert.specs.Keys.{numbered}
use Rattle.convert_params.specs.Row.{Row}
use Rattle.convert_entry.specs.Rows.{code_of}
use Rattle.from_card_lines.specs.Classified.{Classified}
use Rattle.from_card_lines.proofs.Lines.{LineOf, line_of, count-is}
use Rattle.to_json_keys.specs.Taken.{Taken, Marks, Blocked}
use Rattle.to_json_maps.specs.Maps.{entries_of, ids_of, Enters, Entering, MarksLine, Unmarked}
use Rattle.to_json_maps.proofs.Whole.{entry-line, other-line, entry-code}
use Rattle.to_json_maps.proofs.Dashes.{Dashless}
use Rattle.to_json_maps.proofs.Rows.{enters, held-entry, dashless-key, no_key, own_key}
use Rattle.to_json_maps.proofs.Ids.{entries-append, ids-append, ids-none, entries_none}

-- ---- filling

pub filled-holds : {s t : List ℕ} (r : Bool) → Filled s t r → r ≡ true → Holds s t
filled-holds true h e = h
filled-holds false h e = not-both e refl

pub filled_none : (s t : List ℕ) (r : Bool) → Filled s t r → r ≡ false → read_line s ≡ none
filled_none s t false h e = h
filled_none s t true h e = not-both refl e

-- ---- one line

no-ids : (e : Entry) → e.key ≡ [] → ids_of (e ∷ []) ≡ []
unfolding ids_of keep
no-ids e h = rw h

one-id : (e : Entry) (k : Bytes) → e.key ≡ k → empty e.key ≡ false → ids_of (e ∷ []) ≡ k ∷ []
unfolding ids_of keep
one-id e k q h = rw h (ap (λ x. x ∷ []) q)

key-found : (e : Entry) → not (empty e.key) ≡ not (empty (ids_of (e ∷ [])))
unfolding ids_of keep
key-found e = by_bool (empty e.key) (λ h. rw h) (λ h. rw h)

nothing-more : (p : Bytes) (ids xs : List Bytes) (row : List ℕ) → xs ≡ [] → Taken p ids row → Taken p (ids ++ xs) row
nothing-more p ids xs row e t = subst (λ l. Taken p l row) (sym (ap (λ x. ids ++ x) e ∙ append-nil ids)) t

pub unread : (p s : Bytes) (row : List ℕ) → read_line s ≡ none → MarksLine p s row row false
unread p s row h = record { same = refl; has = λ i e x. none-some (sym h ∙ x.read); marks = λ i e x. none-some (sym h ∙ x.read) }

-- the key is none, whichever entry the line is
unkeyed : (p s : Bytes) (row : List ℕ) → ((i : ℕ) (e : Entry) → Enters s i e → e.key ≡ []) → MarksLine p s row row false
unkeyed p s row h = record {
  same = refl;
  has = λ i e x. sym (ap (λ k. not (empty k)) (h i e x));
  marks = λ i e x ids k. nothing-more p ids (ids_of (e ∷ [])) row (no-ids e (h i e x)) k;
}

pub line-dashless : (p s : Bytes) (row : List ℕ) → Dashless s → MarksLine p s row row false
line-dashless p s row d = unkeyed p s row (λ i e x. dashless-key s i e x d)

module _ (p s : Bytes) (t C F T row : List ℕ) (h : Holds s t) (r : Row s C F T (line_in s t).params) where
  pub line-free : get_or C 0 0 ≡ 0 → MarksLine p s row row false
  line-free z = unkeyed p s row (λ i e x. no_key x.seen x.slot s t (held-entry h x) r z)

  pub line-keyed : (after : List ℕ) → (get_or C 0 0 ≡ 0 → ⊥) → Marks p (take (get_or T 0 0 - get_or F 0 0) (drop (get_or F 0 0) s)) row after → MarksLine p s row after true
  line-keyed after n m = record {
    same = m.0;
    has = λ i e x. sym (ap not (own_key x.seen x.slot s t (held-entry h x) r n).1);
    marks = λ i e x ids k.
        let o = own_key x.seen x.slot s t (held-entry h x) r n in
        subst (λ l. Taken p (ids ++ l) after) (sym (one-id e (take (get_or T 0 0 - get_or F 0 0) (drop (get_or F 0 0) s)) o.0 o.1)) (m.1 ids k);
  }

-- ---- all lines

pub record Marking (p : Bytes) (i : ℕ) (cs : List Classed) (k : ℕ) (any : Bool) (row : List ℕ) : Type 0 where
  pub taken : Taken p (ids_of (entries_of i (take k cs))) row
  pub found : any ≡ not (empty (ids_of (entries_of i (take k cs))))

pub marking-start : (p : Bytes) (i : ℕ) (cs : List Classed) (row : List ℕ) → Unmarked row → Marking p i cs 0 false row
marking-start p i cs row u = record {
  taken = record {
    wide = u.wide;
    marks = λ j a b. ap (λ x. eqb x 1) (u.zero j) ∙ ne_eqb 0 1 (omega arith) ∙ sym (ap (among (numbered p j)) (ids-none i) ∙ among_none (numbered p j));
  };
  found = sym (ap (λ l. not (empty l)) (ids-none i));
}

take_more : {A : Type 0} (xs ys : List A) (x : A) (k : ℕ) → drop k xs ≡ x ∷ ys → take (suc k) xs ≡ take k xs ++ (x ∷ [])
take_more [] ys x zero e = absurd (let z : ◌≡◌ {A = ℕ} 0 (suc (length ys)) = ap length e in omega (arith, z))
take_more [] ys x (suc k) e = absurd (let z : ◌≡◌ {A = ℕ} 0 (suc (length ys)) = ap length e in omega (arith, z))
take_more (y ∷ xs) ys x zero e = ap (λ l. take 1 l) e
take_more (y ∷ xs) ys x (suc k) e = ap (λ l. y ∷ l) (take_more xs ys x k e)

ids_more : (i : ℕ) (cs : List Classed) (c : Classed) (k : ℕ) → drop k cs ≡ c ∷ drop (k + 1) cs
    → ids_of (entries_of i (take (k + 1) cs)) ≡ ids_of (entries_of i (take k cs)) ++ ids_of (entries_of i (c ∷ []))
ids_more i cs c k e =
    ap (λ l. ids_of (entries_of i l)) (rw add-one (take_more cs (drop (k + 1) cs) c k e))
    ∙ ap ids_of (entries-append i (take k cs) (c ∷ []))
    ∙ ids-append (entries_of i (take k cs)) (entries_of i (c ∷ []))

found-more : (xs ys : List Bytes) → not (empty xs) || not (empty ys) ≡ not (empty (xs ++ ys))
found-more [] ys = refl
found-more (x ∷ xs) ys = refl

module _ {scratch starts codes : List ℕ} {n : ℕ} {cs : List Classed} (h : Classified scratch starts codes n cs) (k : ℕ) (l : k < n) (i : ℕ) (r : Bool) (is : r ≡ eqb (get_or codes k 0) i) where
  abbrev c : Classed
  c = (line_of h k l).0

  abbrev at : LineOf scratch starts codes k c
  at = (line_of h k l).1

  abbrev split : drop k cs ≡ c ∷ drop (k + 1) cs
  split = (line_of h k l).2

  code_other : r ≡ false → code_of c.class ≡ i → ⊥
  code_other z q = eqb-false (get_or codes k 0) i (sym is ∙ z) (at.code ∙ q)

  code-this : r ≡ true → code_of c.class ≡ i
  code-this z = sym at.code ∙ eqb-true (get_or codes k 0) i (sym is ∙ z)

  -- a line that is none of the map
  pub left_other : r ≡ false → entries_of i (drop k cs) ≡ entries_of i (drop (k + 1) cs)
  left_other z = ap (entries_of i) split ∙ other-line i c (drop (k + 1) cs) (code_other z)

  pub marking-other : (p : Bytes) (any : Bool) (row : List ℕ) → r ≡ false → Marking p i cs k any row → Marking p i cs (k + 1) any row
  marking-other p any row z m =
      let none : ids_of (entries_of i (c ∷ [])) ≡ [] = ap ids_of (other-line i c [] (code_other z)) ∙ ids-none i in
      let e : ids_of (entries_of i (take (k + 1) cs)) ≡ ids_of (entries_of i (take k cs)) = ids_more i cs c k split ∙ ap (λ x. ids_of (entries_of i (take k cs)) ++ x) none ∙ append-nil _ in
      record { taken = subst (λ x. Taken p x row) (sym e) m.taken; found = m.found ∙ sym (ap (λ x. not (empty x)) e) }

  -- a line of the map
  module _ (z : r ≡ true) (small : i < 16) where
    pub the-entry : Entry
    the-entry = (entry-code c.class i (code-this z) small).0

    entry-is : c.class ≡ as-entry i the-entry
    unfolding the-entry
    entry-is = (entry-code c.class i (code-this z) small).1

    pub line-enters : Enters (line_at scratch starts k) i the-entry
    line-enters = enters i the-entry at entry-is

    pub left-entry : entries_of i (drop k cs) ≡ the-entry ∷ entries_of i (drop (k + 1) cs)
    left-entry = ap (entries_of i) split ∙ entry-line i c (drop (k + 1) cs) the-entry entry-is

    pub line-entering : {s : Bytes} → s ≡ line_at scratch starts k → Entering s
    line-entering e = subst Entering (sym e) (i, the-entry, line-enters)

    pub marking-line : {s : Bytes} (p : Bytes) (any on : Bool) (row after : List ℕ) → s ≡ line_at scratch starts k → MarksLine p s row after on
        → Marking p i cs k any row → Marking p i cs (k + 1) (any || on) after
    marking-line {s} p any on row after q w m =
        let x : Enters s i the-entry = subst (λ s. Enters s i the-entry) (sym q) line-enters in
        let one : entries_of i (c ∷ []) ≡ the-entry ∷ [] = entry-line i c [] the-entry entry-is ∙ ap (λ l. the-entry ∷ l) (entries_none i) in
        let e : ids_of (entries_of i (take (k + 1) cs)) ≡ ids_of (entries_of i (take k cs)) ++ ids_of (the-entry ∷ []) = ids_more i cs c k split ∙ ap (λ x. ids_of (entries_of i (take k cs)) ++ ids_of x) one in
        record {
          taken = subst (λ x. Taken p x after) (sym e) (w.marks i the-entry x (ids_of (entries_of i (take k cs))) m.taken);
          found = ap (λ b. b || on) m.found ∙ ap (λ b. not (empty (ids_of (entries_of i (take k cs)))) || b) (w.has i the-entry x ∙ key-found the-entry)
              ∙ found-more (ids_of (entries_of i (take k cs))) (ids_of (the-entry ∷ [])) ∙ sym (ap (λ x. not (empty x)) e);
        }

pub marking-end : {scratch starts codes : List ℕ} {n : ℕ} {cs : List Classed} → Classified scratch starts codes n cs → (p : Bytes) (i k : ℕ) (any : Bool) (row : List ℕ) → n ≤ k
    → Marking p i cs k any row → Blocked p (ids_of (entries_of i cs)) any row
marking-end {cs = cs} h p i k any row l m =
    by any (m.found ∙ ap (λ x. not (empty (ids_of (entries_of i x)))) whole) (subst (λ x. Taken p (ids_of (entries_of i x)) row) whole m.taken)
  where
    whole : take k cs ≡ cs
    whole = take_all k cs (omega (arith, count-is h))

    none : (xs : List Bytes) → false ≡ not (empty xs) → xs ≡ []
    none [] e = refl
    none (x ∷ xs) e = not-both refl (sym e)

    by : (any : Bool) → any ≡ not (empty (ids_of (entries_of i cs))) → Taken p (ids_of (entries_of i cs)) row → Blocked p (ids_of (entries_of i cs)) any row
    by true e t = t
    by false e t = none (ids_of (entries_of i cs)) e
