-- The pieces of each row of the table of maps: by data, whichever property a line has.
use mathlib.Core.Path.{◌≡◌, refl, sym}
use mathlib.Core.Bool.{Bool, true, false}
use mathlib.Core.List.{List, [], ◌∷◌}
use mathlib.Core.Option.{Option, none, some}
use Prim.Native.Nat.{ℕ, suc, ◌+◌}
use native.Mathlib.Omega.{arith}
use lib.ListN.{get_or}
use Rattle.text.specs.Choice.{pick, with-some}
use Rattle.text.specs.Bytes.{Bytes, ascii, same, lowered}
use Rattle.text.proofs.Same.{same_true}
use Rattle.text.proofs.Cases.{by_bool}
use Rattle.text.proofs.Choices.{some_same, none-some}
use Rattle.json_text.specs.Compact.{spelled, spelled_all, quoted, written}
use Rattle.convert.specs.Table.{Map, Slot, maps, position, slot_from, slot_of}
use Rattle.line_table.specs.Table.{part, line_in}
use Rattle.convert_put.specs.Pieces.{kind_piece, content_piece, member_bytes, before}
use Rattle.to_json_entry.specs.Entry.{RowPieces, KindOfLine}

-- what is asked of each property of a row, from the map at place i on, and of each of its names from place k on
abbrev Goes : (Bytes → Slot → Type 0) → ℕ → Map → ℕ → List Bytes → Type 0
Goes P i m k [] = Unit {0}
Goes P i m k (x ∷ xs) = P x (record { index = i; map = m; which = k }) × Goes P i m (suc k) xs

abbrev All : (Bytes → Slot → Type 0) → ℕ → List Map → Type 0
All P i [] = Unit {0}
All P i (m ∷ ms) = Goes P i m 0 m.properties × All P (suc i) ms

module _ (P : Bytes → Slot → Type 0) (n : Bytes) where
  of-names : (i : ℕ) (m : Map) (j : ℕ) (xs : List Bytes) (k : ℕ) → Goes P i m j xs → position (same n) xs ≡ some k → P n (record { index = i; map = m; which = j + k })
  unfolding position
  of-names i m j [] k g e = none-some e
  of-names i m j (x ∷ xs) k g e =
      by_bool (same n x)
      (λ b.
      let z : k ≡ 0 = sym (some_same (rw b at e)) in
      let y : j ≡ j + k = omega arith in
      rw (same_true n x b, ← y) g.0)
      (λ b. later (λ h q. of-names i m (suc j) xs h g.1 q) (position (same n) xs) refl (rw b at e))
    where
      later : ((h : ℕ) → position (same n) xs ≡ some h → P n (record { index = i; map = m; which = suc j + h })) → (o : Option ℕ) → position (same n) xs ≡ o
          → with-some o (λ h. some (suc h)) none ≡ some k → P n (record { index = i; map = m; which = j + k })
      later f none q e = none-some e
      later f (some h) q e =
          let z : suc h ≡ k = some_same e in
          let y : suc j + h ≡ j + k = omega arith in
          rw (← y) (f h q)

  of-maps : (i : ℕ) (ms : List Map) (w : Slot) → All P i ms → slot_from i ms n ≡ some w → P n w
  unfolding slot_from
  of-maps i [] w g e = none-some e
  of-maps i (m ∷ ms) w g e = by (λ e. of-maps (suc i) ms w g.1 e) (position (same n) m.properties) refl e
    where
      by : (slot_from (suc i) ms n ≡ some w → P n w) → (o : Option ℕ) → position (same n) m.properties ≡ o
          → with-some o (λ k. some (record { index = i; map = m; which = k })) (slot_from (suc i) ms n) ≡ some w → P n w
      by f none q e = f e
      by f (some k) q e = let z : 0 + k ≡ k = omega arith in rw (← some_same e, ← z) (of-names i m 0 m.properties k g.0 q)

-- ---- kinds: 0 title, 1 role, 2 none

unfoldable pub kind_number : Bytes → ℕ
kind_number n = pick (same n (ascii "title")) 0 (pick (same n (ascii "role")) 1 2)

rows : All (λ n w. RowPieces w w.index (kind_number n)) 0 maps
unfolding kind_number same quoted spelled_all spelled content_piece kind_piece before member_bytes written
rows = ((record { content = refl; kinds = refl }, tt), ((record { content = refl; kinds = refl }, tt), ((record { content = refl; kinds = refl }, tt), ((record { content = refl; kinds = refl }, tt), ((record { content = refl; kinds = refl }, tt), ((record { content = refl; kinds = refl }, (record { content = refl; kinds = refl }, tt)), ((record { content = refl; kinds = refl }, tt), tt)))))))

pub slot-pieces : (n : Bytes) (w : Slot) → slot_of n ≡ some w → RowPieces w w.index (kind_number n)
unfolding slot_of
slot-pieces n w e = of-maps (λ n w. RowPieces w w.index (kind_number n)) n 0 maps w rows e

kind-is : (s : Bytes) (t : List ℕ) (r : ℕ) → kind_number (lowered (line_in s t).name) ≡ r → KindOfLine s t r
kind-is s t r h w e = rw h at (slot-pieces (lowered (line_in s t).name) w e)

abbrev name : Bytes → List ℕ → Bytes
name s t = part s (get_or t 2 0) (get_or t 3 0)

pub kind-title : (s : Bytes) (t : List ℕ) (b : Bool) → b ≡ same (lowered (name s t)) (ascii "title") → b ≡ true → KindOfLine s t 0
unfolding kind_number line_in
kind-title s t b e f = kind-is s t 0 (rw (← e, f))

pub kind-role : (s : Bytes) (t : List ℕ) (a b : Bool) → a ≡ same (lowered (name s t)) (ascii "title") → a ≡ false → b ≡ same (lowered (name s t)) (ascii "role") → b ≡ true → KindOfLine s t 1
unfolding kind_number line_in
kind-role s t a b d c e f = kind-is s t 1 (rw (← d, c, ← e, f))

pub kind-none : (s : Bytes) (t : List ℕ) (a b : Bool) → a ≡ same (lowered (name s t)) (ascii "title") → a ≡ false → b ≡ same (lowered (name s t)) (ascii "role") → b ≡ false → KindOfLine s t 2
unfolding kind_number line_in
kind-none s t a b d c e f = kind-is s t 2 (rw (← d, c, ← e, f))
