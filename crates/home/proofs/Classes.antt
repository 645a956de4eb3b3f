-- What is known of a line by its class, and the lines of a section by what they give to the model.
use mathlib.Core.Path.{◌≡◌, refl, ap₂, ◌∙◌}
use mathlib.Core.Bool.{true, false, ◌&&◌, not}
use mathlib.Core.List.{List, [], ◌∷◌, ◌++◌, map, map-append}
use mathlib.Core.Option.{some}
use Prim.Native.Nat.{ℕ, ◌+◌}
use lib.Dec.{eqb, ltb}
use Rattle.text.specs.Choice.{pick, with-some, provided}
use Rattle.text.specs.Bytes.{ascii, empty, same, lowered, flat, keep}
use Rattle.text.proofs.Cases.{by_bool, and_right, not-true, testing}
use Rattle.line.specs.Grammar.{Line}
use Rattle.line.specs.Params.{besides_value}
use Rattle.line.specs.Text.{read_text}
use Rattle.convert.specs.Table.{Slot, slot_of}
use Rattle.convert.specs.Value.{read_name}
use Rattle.convert.specs.Classify.{Class, as-version, as-uid, as-kind, as_dropped, as-full, as_parts, as-entry, as_member, as-kept, Seen, see, bare, is_derived, full_class, parts_class, member_name, member_value, member_class, entry_of, entry_class, classify, Classed, classed_after}
use Rattle.convert.specs.FromCard.{Gives, gives, gathered}
use Rattle.convert.specs.NormalCard.{Section, section_of, section_number, section}
use Rattle.home.proofs.Known.{on_provided, on_some}

-- ---- what a class says of its line, after what was seen

-- neither VERSION nor UID nor KIND
abbrev pub Later : Line → Type 0
Later l = (same (lowered l.name) (ascii "version") ≡ false) × (same (lowered l.name) (ascii "uid") ≡ false) × (same (lowered l.name) (ascii "kind") ≡ false)

abbrev pub Fact : Seen → Line → Class → Type 0
Fact s l as-version = Unit {0}
Fact s l (as-uid v) = (same (lowered l.name) (ascii "uid") ≡ true) × (v ≡ l.value)
Fact s l (as-kind v) = (same (lowered l.name) (ascii "kind") ≡ true) × (v ≡ lowered l.value)
Fact s l as_dropped = Unit {0}
Fact s l (as-full v) = (read_text l.value ≡ some v) × (s.full ≡ false)
Fact s l (as_parts ps) = (read_name l.value ≡ some ps) × (s.parts ≡ false)
Fact s l (as-entry i e) = (w : Slot) × (slot_of (lowered l.name) ≡ some w) × (w.index ≡ i) × (entry_of s w l ≡ some e)
Fact s l (as_member n j) = (member_name s (besides_value l.params) ≡ some n) × (member_value l.value ≡ some j)
Fact s l as-kept = Later l

full-fact : (s : Seen) (l : Line) → Later l → Fact s l (full_class s l)
unfolding full_class
full-fact s l k =
    by_bool (bare l && is_derived (besides_value l.params)) (λ e. rw e tt)
    (λ e. rw e (on_some (provided (bare l && empty (besides_value l.params) && not s.full) (read_text l.value))
    (λ n. rw n k)
    (λ v h. rw h (on_provided (bare l && empty (besides_value l.params) && not s.full) (read_text l.value) h λ t r. (r, not-true s.full (and_right (bare l && empty (besides_value l.params)) _ t))))))

parts-fact : (s : Seen) (l : Line) → Later l → Fact s l (parts_class s l)
unfolding parts_class
parts-fact s l k =
    on_some (provided (bare l && empty (besides_value l.params) && not s.parts) (read_name l.value))
    (λ n. rw n k)
    (λ v h. rw h (on_provided (bare l && empty (besides_value l.params) && not s.parts) (read_name l.value) h λ t r. (r, not-true s.parts (and_right (bare l && empty (besides_value l.params)) _ t))))

member-fact : (s : Seen) (l : Line) → Later l → Fact s l (member_class s l)
unfolding member_class
member-fact s l k =
    on_some (provided (bare l) (member_name s (besides_value l.params)))
    (λ n. rw n k)
    (λ n h. on_some (member_value l.value) (λ v. rw (h, v) k) (λ j v. rw (h, v) (on_provided (bare l) (member_name s (besides_value l.params)) h λ t r. (r, v))))

entry-fact : (s : Seen) (l : Line) → Later l → Fact s l (with-some (slot_of (lowered l.name)) (λ w. entry_class s w l) as-kept)
unfolding entry_class
entry-fact s l k =
    on_some (slot_of (lowered l.name))
    (λ n. rw n k)
    (λ w h. on_some (entry_of s w l) (λ n. rw (h, n) k) (λ e q. rw (h, q) (w, h, refl, q)))

pub class-fact : (s : Seen) (l : Line) → Fact s l (classify s l)
unfolding classify
class-fact s l =
    by_bool (same (lowered l.name) (ascii "version")) (λ a. rw a tt) λ a.
    by_bool (same (lowered l.name) (ascii "uid")) (λ b. rw (a, b) (b, refl)) λ b.
    by_bool (same (lowered l.name) (ascii "kind")) (λ c. rw (a, b, c) (c, refl)) λ c.
    by_bool (same (lowered l.name) (ascii "fn")) (λ d. rw (a, b, c, d) (full-fact s l (a, b, c))) λ d.
    by_bool (same (lowered l.name) (ascii "n")) (λ e. rw (a, b, c, d, e) (parts-fact s l (a, b, c))) λ e.
    by_bool (same (lowered l.name) (ascii "jsprop")) (λ f. rw (a, b, c, d, e, f) (member-fact s l (a, b, c))) λ f.
    rw (a, b, c, d, e, f) (entry-fact s l (a, b, c))

-- ---- what lines give, by sections

module _ {A C : Type 0} (f : Gives → List A) (n : Section) (G : A → C) (F : Line → C) where
  -- what a line gives stands for the line, where it is one of the section
  abbrev pub Agrees : Line → Class → Type 0
  Agrees l c = map G (f (gives l c)) ≡ map F (pick (eqb (section_number (section_of c)) (section_number n)) (l ∷ []) [])

  step : (l : Line) (c : Class) (cs : List Classed) → Agrees l c → map G (gathered f cs) ≡ map F (section n cs)
      → map G (gathered f (record { line = l; class = c } ∷ cs)) ≡ map F (section n (record { line = l; class = c } ∷ cs))
  unfolding gathered section flat keep
  step l c cs a k =
      map-append G (f (gives l c)) (flat (map (λ (c : Classed). f (gives c.line c.class)) cs))
      ∙ by_bool (eqb (section_number (section_of c)) (section_number n)) (λ e. rw (e, a, e, k)) (λ e. rw (e, a, e, k))

  pub gathered-section : ((s : Seen) (l : Line) (c : Class) → Fact s l c → Agrees l c) → (s : Seen) (ls : List Line) → map G (gathered f (classed_after s ls)) ≡ map F (section n (classed_after s ls))
  unfolding gathered section classed_after flat keep
  gathered-section h s [] = refl
  gathered-section h s (l ∷ ls) = step l (classify s l) (classed_after (see s (classify s l)) ls) (h s l (classify s l) (class-fact s l)) (gathered-section h (see s (classify s l)) ls)

-- what lines give, by a form of each line
pub gathered-forms : {A C : Type 0} (f : Gives → List A) (G : A → C) (K : Classed → List C) → ((s : Seen) (l : Line) (c : Class) → Fact s l c → map G (f (gives l c)) ≡ K (record { line = l; class = c }))
    → (s : Seen) (ls : List Line) → map G (gathered f (classed_after s ls)) ≡ flat (map K (classed_after s ls))
unfolding gathered classed_after flat
gathered-forms f G K h s [] = refl
gathered-forms f G K h s (l ∷ ls) =
    map-append G (f (gives l (classify s l))) _ ∙ ap₂ ◌++◌ (h s l (classify s l) (class-fact s l)) (gathered-forms f G K h (see s (classify s l)) ls)

-- the section of a map is none of the six others
pub elsewhere : (i k : ℕ) → ltb k 7 ≡ true → eqb (7 + i) k ≡ false
elsewhere i k h = omega testing
