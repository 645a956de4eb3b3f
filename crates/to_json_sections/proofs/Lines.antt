-- What lines give to a section, by the numbers of their classes.
use mathlib.Core.Path.{◌≡◌, refl, sym, ap, subst, ◌∙◌}
use mathlib.Core.Bool.{Bool, true, false}
use mathlib.Core.List.{List, [], ◌∷◌, ◌++◌}
use Prim.Native.Nat.{ℕ, ◌+◌, ◌-◌, ◌≤◌, ◌<◌}
use native.Mathlib.Nat.{le_refl}
use native.Mathlib.Omega.{arith}
use lib.Dec.{eqb}
use lib.ListN.{length, drop, get_or}
use borrow.Author.Tests.{eqb-true, eqb-false}
use borrow.Rule.Slice.PartMut.{mid_of, put_mid}
use Rattle.text.specs.Bytes.{Bytes, flat, lowered}
use Rattle.text.proofs.Cases.{by_bool}
use Rattle.text.proofs.Choices.{some_same}
use Rattle.json_text.specs.Compact.{written}
use Rattle.line.specs.Grammar.{Line, read_line}
use Rattle.line_table.specs.Table.{line_in, Holds}
use Rattle.line_unfold.specs.Table.{line_at}
use Rattle.output.specs.Put.{Wrote, full}
use Rattle.std.specs.Prelude.{Ok, Err}
use Rattle.output.specs.Put.{Puts, Rest}
use Rattle.output.proofs.Laws.{puts-as}
use Rattle.output.proofs.Rests.{rest_all, rest-as, rest-next, rest-stop}
use Rattle.convert.specs.Model.{Entry, Kept}
use Rattle.convert.specs.Classify.{Seen, Class, as-version, as-uid, as-kind, as_dropped, as-full, as_parts, as-entry, as_member, as-kept, Classed}
use Rattle.convert.specs.FromCard.{Gives, gives, gathered, kept_line}
use Rattle.convert.specs.ToJson.{kept_json}
use Rattle.convert_entry.specs.Rows.{code_of}
use Rattle.from_card_lines.specs.Classified.{Classified}
use Rattle.from_card_lines.proofs.Lines.{LineOf, line_of, no_more}
use Rattle.home.proofs.Classes.{Fact, class-fact}
use Rattle.table_entry.proofs.Spread.{kept-held}
use Rattle.to_json_maps.proofs.Rows.{slot-low}
use Rattle.to_json_sections.specs.Sections.{kept_of, prop_piece, props_from, props_bytes, IsKept, HasKept, PutsProp, FirstOf}
use Rattle.to_json_sections.proofs.Props.{props-whole, from_cons}

-- ---- the class of a number

-- an entry's number is below 7
pub entry-low : (s : Seen) (l : Line) (i : ℕ) (e : Entry) → Fact s l (as-entry i e) → i < 7
entry-low s l i e f = slot-low (lowered l.name) f.0 f.1 i f.2

kept-class : (s : Seen) (l : Line) (x : Class) → Fact s l x → code_of x ≡ 16 → x ≡ as-kept
kept-class s l as-kept f h = refl
kept-class s l (as-entry i e) f h = absurd (omega (arith, h, entry-low s l i e f))
kept-class s l as-version f h = absurd (omega (arith, h))
kept-class s l (as-uid v) f h = absurd (omega (arith, h))
kept-class s l (as-kind v) f h = absurd (omega (arith, h))
kept-class s l as_dropped f h = absurd (omega (arith, h))
kept-class s l (as-full v) f h = absurd (omega (arith, h))
kept-class s l (as_parts v) f h = absurd (omega (arith, h))
kept-class s l (as_member n j) f h = absurd (omega (arith, h))

kept-not : (l : Line) (x : Class) → (code_of x ≡ 16 → ⊥) → (gives l x).kept ≡ []
kept-not l as-kept n = absurd (n refl)
kept-not l (as-entry i e) n = refl
kept-not l as-version n = refl
kept-not l (as-uid v) n = refl
kept-not l (as-kind v) n = refl
kept-not l as_dropped n = refl
kept-not l (as-full v) n = refl
kept-not l (as_parts v) n = refl
kept-not l (as_member a j) n = refl

-- ---- lines one by one

pub gathered-cons : {A : Type 0} (f : Gives → List A) (c : Classed) (cs : List Classed) → gathered f (c ∷ cs) ≡ f (gives c.line c.class) ++ gathered f cs
unfolding gathered flat
gathered-cons f c cs = refl

pub gathered_none : {A : Type 0} (f : Gives → List A) → gathered f [] ≡ []
unfolding gathered flat
gathered_none f = refl

pub fact_of : {scratch starts codes : List ℕ} {k : ℕ} {c : Classed} (h : LineOf scratch starts codes k c) → Fact h.seen c.line c.class
fact_of {c = c} h = subst (Fact h.seen c.line) (sym h.turn) (class-fact h.seen c.line)

-- ---- vCardProps

module _ {scratch starts codes : List ℕ} {n : ℕ} {cs : List Classed} (h : Classified scratch starts codes n cs) where
  pub props-start : (room : Bytes) → Rest room (props_bytes (kept_of cs)) (props_from false (kept_of (drop 0 cs))) 0 room
  props-start room = rest-as (sym (props-whole (kept_of cs))) (rest_all room (props_bytes (kept_of cs)))

  pub props-end : (b : Bool) (k : ℕ) → n ≤ k → props_from b (kept_of (drop k cs)) ≡ props_from b []
  unfolding kept_of
  props-end b k l = ap (λ x. props_from b (gathered (λ (g : Gives). g.kept) x)) (no_more h k l) ∙ ap (props_from b) (gathered_none (λ (g : Gives). g.kept))

  module _ (k : ℕ) (l : k < n) (r : Bool) (is : r ≡ eqb (get_or codes k 0) 16) where
    abbrev c : Classed
    c = (line_of h k l).0

    abbrev at : LineOf scratch starts codes k c
    at = (line_of h k l).1

    abbrev split : drop k cs ≡ c ∷ drop (k + 1) cs
    split = (line_of h k l).2

    pub kept-skip : r ≡ false → kept_of (drop k cs) ≡ kept_of (drop (k + 1) cs)
    unfolding kept_of
    kept-skip z =
        ap (gathered (λ (g : Gives). g.kept)) split
        ∙ gathered-cons (λ (g : Gives). g.kept) c (drop (k + 1) cs)
        ∙ ap (λ x. x ++ gathered (λ (g : Gives). g.kept) (drop (k + 1) cs)) (kept-not c.line c.class (λ q. eqb-false (get_or codes k 0) 16 (sym is ∙ z) (at.code ∙ q)))

    module _ (z : r ≡ true) where
      kept-is : c.class ≡ as-kept
      kept-is = kept-class at.seen c.line c.class (fact_of at) (sym at.code ∙ eqb-true (get_or codes k 0) 16 (sym is ∙ z))

      pub the_kept : Kept
      the_kept = kept_line c.line

      pub kept_next : kept_of (drop k cs) ≡ the_kept ∷ kept_of (drop (k + 1) cs)
      unfolding kept_of the_kept
      kept_next =
          ap (gathered (λ (g : Gives). g.kept)) split
          ∙ gathered-cons (λ (g : Gives). g.kept) c (drop (k + 1) cs)
          ∙ ap (λ x. (gives c.line x).kept ++ gathered (λ (g : Gives). g.kept) (drop (k + 1) cs)) kept-is

      pub is-kept : {s : Bytes} → s ≡ line_at scratch starts k → IsKept s the_kept
      unfolding the_kept
      is-kept q = record { line = c.line; read = ap read_line q ∙ at.read; is = refl }

      pub has_kept : {s : Bytes} → s ≡ line_at scratch starts k → HasKept s
      has_kept q = (the_kept, is-kept q)

      module _ {room : Bytes} {j : ℕ} (b : Bool) {out : Bytes} (m : Rest room (props_bytes (kept_of cs)) (props_from b (kept_of (drop k cs))) j out)
          {s : Bytes} (q : s ≡ line_at scratch starts k) {w : Wrote} {last : Bytes} (p : PutsProp (mid_of j (length out - j) out) s b w last) where
        left : Rest room (props_bytes (kept_of cs)) (prop_piece b the_kept ++ props_from true (kept_of (drop (k + 1) cs))) j out
        left = rest-as (ap (props_from b) kept_next ∙ from_cons b the_kept (kept_of (drop (k + 1) cs))) m

        pub props-stop : w ≡ (Err full) → Puts room (props_bytes (kept_of cs)) (Err full) (put_mid j (length out - j) out last)
        props-stop f = rest-stop _ left (p the_kept (is-kept q)) f

        pub props-next : (i : ℕ) → w ≡ Ok i → Rest room (props_bytes (kept_of cs)) (props_from true (kept_of (drop (k + 1) cs))) (j + i) (put_mid j (length out - j) out last)
        props-next i f = rest-next _ left (p the_kept (is-kept q)) f

  pub props-skip : {room : Bytes} {j : ℕ} (b : Bool) {out : Bytes} (k : ℕ) (l : k < n) (r : Bool) → r ≡ eqb (get_or codes k 0) 16 → r ≡ false
      → Rest room (props_bytes (kept_of cs)) (props_from b (kept_of (drop k cs))) j out → Rest room (props_bytes (kept_of cs)) (props_from b (kept_of (drop (k + 1) cs))) j out
  props-skip b k l r is z m = rest-as (ap (props_from b) (kept-skip k l r is z)) m

pub held_kept : {s t room out : List ℕ} {r : Wrote} {k : Kept} (h : Holds s t) → IsKept s k → Puts room (written (kept_json (kept_line (line_in s t))) []) r out → Puts room (written (kept_json k) []) r out
held_kept h x p = puts-as (ap (λ k. written (kept_json k) []) (kept-held h ∙ ap kept_line (some_same (sym h.is ∙ x.read)) ∙ x.is)) p

-- ---- the first of a number

pub none_before : (codes : List ℕ) (q : ℕ) (r : Bool) (k : ℕ) → ((j : ℕ) → j < k → get_or codes j 0 ≡ q → ⊥) → r ≡ eqb (get_or codes k 0) q → r ≡ false → (j : ℕ) → j < k + 1 → get_or codes j 0 ≡ q → ⊥
none_before codes q r k h is z j l e =
    by_bool (eqb j k)
    (λ s. eqb-false (get_or codes k 0) q (sym is ∙ z) (ap (λ i. get_or codes i 0) (sym (eqb-true j k s)) ∙ e))
    (λ s. let d : (j ≡ k → ⊥) = eqb-false j k s in h j (omega arith) e)

pub first-here : (codes : List ℕ) (n q : ℕ) (r : Bool) (k : ℕ) → k < n → ((j : ℕ) → j < k → get_or codes j 0 ≡ q → ⊥) → r ≡ eqb (get_or codes k 0) q → r ≡ true → FirstOf codes n q k
first-here codes n q r k l h is z = record { within = omega arith; before = h; here = λ l. eqb-true (get_or codes k 0) q (sym is ∙ z) }

pub first-none : (codes : List ℕ) (n q k : ℕ) → n ≤ k → ((j : ℕ) → j < k → get_or codes j 0 ≡ q → ⊥) → FirstOf codes n q n
first-none codes n q k l h = record { within = le_refl n; before = λ j a. h j (omega arith); here = λ l. absurd (omega arith) }
