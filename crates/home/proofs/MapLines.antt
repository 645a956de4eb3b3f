-- The written lines of the maps: each is read as its entry, whatever came before from other maps.
use mathlib.Core.Path.{◌≡◌, refl, sym, ap, ◌∙◌}
use mathlib.Core.Bool.{Bool, true, false, ◌&&◌, ◌||◌, not}
use mathlib.Core.List.{List, [], ◌∷◌, ◌++◌, map}
use mathlib.Core.Option.{some}
use Prim.Native.Nat.{ℕ, suc, ◌≤◌}
use native.Mathlib.Omega.{arith}
use lib.ListN.{length}
use lib.Dec.{eqb, ltb}
use borrow.Author.Tests.{ne_eqb}
use Rattle.text.specs.Bytes.{Bytes, ascii, any, empty, same, among, distinct, lowered}
use Rattle.text.proofs.Cases.{by_bool, and_left, and_right, not-true, not-both}
use Rattle.text.proofs.Same.{same_true, among-head, among_later}
use Rattle.text.proofs.Lists.{any_head, any-tail, any_append}
use Rattle.line.specs.Grammar.{Line}
use Rattle.convert.specs.Table.{Map, Slot, slot_of}
use Rattle.convert.specs.Model.{Entry}
use Rattle.convert.specs.Value.{is_key_text}
use Rattle.convert.specs.Classify.{as-entry, Id, id, is_id, Seen, see, entry_class, classify}
use Rattle.convert.specs.FromCard.{Placed, placed, Gives}
use Rattle.convert.specs.FromJson.{ids_from}
use Rattle.convert.specs.ToCard.{entry_line, maps_lines}
use Rattle.convert.proofs.Entries.{Proper, entry_read}
use Rattle.home.proofs.Proper.{ProperEntries, ProperMaps}
use Rattle.home.proofs.Given.{plus, Section, no_lines, one_line, both-sections, section-to}
use Rattle.home.proofs.Rows.{others, Row, Rows}

-- ---- one entry

-- a line whose name is the table's alone is classed by its slot
by-slot : (s : Seen) (l : Line) (w : Slot) → among (lowered l.name) others ≡ false → slot_of (lowered l.name) ≡ some w → classify s l ≡ entry_class s w l
unfolding classify among
by-slot s l w h q =
    let n : Bytes = lowered l.name in
    let h₁ = any-tail (same n) (ascii "version") _ h in
    let h₂ = any-tail (same n) (ascii "uid") _ h₁ in
    let h₃ = any-tail (same n) (ascii "kind") _ h₂ in
    let h₄ = any-tail (same n) (ascii "fn") _ h₃ in
    let h₅ = any-tail (same n) (ascii "n") _ h₄ in
    rw (
      any_head (same n) (ascii "version") _ h,
      any_head (same n) (ascii "uid") _ h₁,
      any_head (same n) (ascii "kind") _ h₂,
      any_head (same n) (ascii "fn") _ h₃,
      any_head (same n) (ascii "n") _ h₄,
      any_head (same n) (ascii "jsprop") _ h₅,
      q,
    )

module _ (s : Seen) (i : ℕ) (m : Map) (e : Entry) (r : Row i m e.which) where
  slot-class : classify s (entry_line m e) ≡ entry_class s (record { index = i; map = m; which = e.which }) (entry_line m e)
  unfolding entry_line
  slot-class = by-slot s (entry_line m e) (record { index = i; map = m; which = e.which }) r.own r.slot

  read-class : Proper m e → any (is_id i e.key) s.ids ≡ false → entry_class s (record { index = i; map = m; which = e.which }) (entry_line m e) ≡ as-entry i e
  unfolding entry_class
  read-class g n = rw (entry_read s (record { index = i; map = m; which = e.which }) e g refl n)

  pub entry-class : Proper m e → any (is_id i e.key) s.ids ≡ false → classify s (entry_line m e) ≡ as-entry i e
  entry-class g n = slot-class ∙ read-class g n

-- ---- the entries of one map

abbrev pub with_ids : Seen → List Id → Seen
with_ids s ids = record { full = s.full; parts = s.parts; ids = ids; members = s.members }

abbrev pub placed_gives : List Placed → Gives
placed_gives ps = record { uid = []; kind = []; full = []; parts = []; entry = ps; member = []; kept = [] }

-- the last one stands first
unfoldable pub ids_onto : ℕ → List Entry → List Id → List Id
ids_onto i [] ids = ids
ids_onto i (e ∷ es) ids = ids_onto i es (id i e.key ∷ ids)

abbrev pub key_of : Entry → Bytes
key_of e = e.key

pub key-filled : (k : Bytes) → is_key_text k ≡ true → empty k ≡ false
unfolding is_key_text
key-filled [] h = not-both refl (sym h)
key-filled (c ∷ k) h = refl

-- none of the keys to come is there
abbrev Unused : ℕ → List Bytes → List Id → Type 0
Unused i ks ids = (k : Bytes) → among k ks ≡ true → any (is_id i k) ids ≡ false

still-unused : (i : ℕ) (k : Bytes) (ks : List Bytes) (ids : List Id) → not (among k ks) ≡ true → Unused i (k ∷ ks) ids → Unused i ks (id i k ∷ ids)
unfolding any
still-unused i k ks ids d u j h =
    let n : same j k ≡ false = by_bool (same j k) (λ e. not-both (rw (same_true j k e) at h) (not-true (among k ks) d)) (λ e. e) in
    rw (n, u j (among_later j k ks h)) (and-false (eqb i i))
  where
    and-false : (b : Bool) → (b && false) || false ≡ false
    and-false true = refl
    and-false false = refl

pub entries-section : (s : Seen) (i : ℕ) (m : Map) (es : List Entry) → ((w : ℕ) → ltb w (length m.properties) ≡ true → Row i m w) → ProperEntries m es
    → distinct (map key_of es) ≡ true → Unused i (map key_of es) s.ids → Section s (map (entry_line m) es) (placed_gives (map (placed i) es)) (with_ids s (ids_onto i es s.ids))
unfolding ids_onto distinct plus
entries-section s i m [] r g d u = no_lines s
entries-section s i m (e ∷ es) r g d u =
    let c : classify s (entry_line m e) ≡ as-entry i e = entry-class s i m e (r e.which g.0.which) g.0.proper (u e.key (among-head e.key (map key_of es))) in
    let f : see s (as-entry i e) ≡ with_ids s (id i e.key ∷ s.ids) = rw (key-filled e.key g.0.proper.key) in
    both-sections (section-to (one_line s (entry_line m e) (as-entry i e) c) refl f)
    (entries-section (with_ids s (id i e.key ∷ s.ids)) i m es r g.1 (and_right (not (among e.key (map key_of es))) _ d) (still-unused i e.key (map key_of es) s.ids (and_left _ _ d) u))

-- ---- all maps

unfoldable pub placed_from : ℕ → List (List Entry) → List Placed
placed_from i [] = []
placed_from i (es ∷ ess) = map (placed i) es ++ placed_from (suc i) ess

unfoldable pub ids_all : ℕ → List (List Entry) → List Id → List Id
ids_all i [] ids = ids
ids_all i (es ∷ ess) ids = ids_all (suc i) ess (ids_onto i es ids)

pub or-shift : (a b c : Bool) → b || (a || c) ≡ (a || b) || c
or-shift true true c = refl
or-shift true false c = refl
or-shift false true c = refl
or-shift false false c = refl

any-onto : (p : Id → Bool) (i : ℕ) (es : List Entry) (ids : List Id) → any p (ids_onto i es ids) ≡ any p (map (λ (e : Entry). id i e.key) es) || any p ids
unfolding ids_onto any
any-onto p i [] ids = refl
any-onto p i (e ∷ es) ids = any-onto p i es (id i e.key ∷ ids) ∙ or-shift (p (id i e.key)) (any p (map (λ (e : Entry). id i e.key) es)) (any p ids)

-- as the ids of the model, before those that were there
pub any-all : (p : Id → Bool) (i : ℕ) (ess : List (List Entry)) (ids : List Id) → any p (ids_all i ess ids) ≡ any p (ids_from i ess) || any p ids
unfolding ids_all ids_from any
any-all p i [] ids = refl
any-all p i (es ∷ ess) ids =
    let here : List Id = map (λ (e : Entry). id i e.key) es in
    any-all p (suc i) ess (ids_onto i es ids)
    ∙ ap (λ (b : Bool). any p (ids_from (suc i) ess) || b) (any-onto p i es ids)
    ∙ or-shift (any p here) (any p (ids_from (suc i) ess)) (any p ids)
    ∙ ap (λ (b : Bool). b || any p ids) (sym (any_append p here (ids_from (suc i) ess)))

-- no id of a map from i on
abbrev Below : ℕ → List Id → Type 0
Below i ids = (j : ℕ) (k : Bytes) → i ≤ j → any (is_id j k) ids ≡ false

other-map : (i j : ℕ) (k : Bytes) (es : List Entry) → eqb j i ≡ false → any (is_id j k) (map (λ (e : Entry). id i e.key) es) ≡ false
unfolding any
other-map i j k [] h = refl
other-map i j k (e ∷ es) h = rw (h, other-map i j k es h)

next-below : (i : ℕ) (es : List Entry) (ids : List Id) → Below i ids → Below (suc i) (ids_onto i es ids)
next-below i es ids b j k l =
    any-onto (is_id j k) i es ids ∙ rw (other-map i j k es (ne_eqb j i (omega arith)), b j k (omega arith))

pub maps-section : (s : Seen) (i : ℕ) (ms : List Map) (ess : List (List Entry)) → Rows i ms → ProperMaps ms ess → Below i s.ids
    → Section s (maps_lines ms ess) (placed_gives (placed_from i ess)) (with_ids s (ids_all i ess s.ids))
unfolding maps_lines placed_from ids_all plus
maps-section s i [] [] r g b = no_lines s
maps-section s i [] (es ∷ ess) r g b = absurd g
maps-section s i (m ∷ ms) [] r g b = absurd g
maps-section s i (m ∷ ms) (es ∷ ess) r g b =
    both-sections (entries-section s i m es r.0 g.0 g.1 (λ k h. b i k (omega arith)))
    (maps-section (with_ids s (ids_onto i es s.ids)) (suc i) ms ess r.1 g.2 (next-below i es s.ids b))
