-- What the table of converted lines has for every property: its slot, and a lower-case name of its own.
use mathlib.Core.Path.{◌≡◌, refl}
use mathlib.Core.Bool.{true, false, ◌&&◌, not}
use mathlib.Core.List.{List, [], ◌∷◌, map}
use mathlib.Core.Option.{some}
use Prim.Native.Nat.{ℕ, suc}
use lib.ListN.{length, get_or}
use lib.Dec.{ltb}
use Rattle.text.specs.Bytes.{Bytes, ascii, any, all, empty, same, among, lower, lowered, between}
use Rattle.text.proofs.Cases.{by_below, up_to, not-both}
use Rattle.line.specs.Class.{is_lower_name}
use Rattle.convert.specs.Table.{Map, maps, position, slot_from, slot_of}

-- names that lines of the maps do not have
abbrev pub others : List Bytes
others = ascii "version" ∷ ascii "uid" ∷ ascii "kind" ∷ ascii "fn" ∷ ascii "n" ∷ ascii "jsprop" ∷ ascii "begin" ∷ ascii "end" ∷ []

abbrev pub name_at : Map → ℕ → Bytes
name_at m w = get_or m.properties w []

pub record Row (i : ℕ) (m : Map) (w : ℕ) : Type 0 where
  pub slot : slot_of (lowered (name_at m w)) ≡ some (record { index = i; map = m; which = w })
  pub own : among (lowered (name_at m w)) others ≡ false
  pub word : not (empty (name_at m w)) && all is_lower_name (name_at m w) ≡ true

abbrev pub Rows : ℕ → List Map → Type 0
Rows i [] = Unit {0}
Rows i (m ∷ ms) = ((w : ℕ) → ltb w (length m.properties) ≡ true → Row i m w) × Rows (suc i) ms

-- one map: all its properties by computation
row : (i : ℕ) (m : Map) (n : ℕ) → length m.properties ≡ n
    → map (λ w. slot_of (lowered (name_at m w))) (up_to n) ≡ map (λ w. some (record { index = i; map = m; which = w })) (up_to n)
    → map (λ w. among (lowered (name_at m w)) others) (up_to n) ≡ map (λ w. false) (up_to n)
    → map (λ w. not (empty (name_at m w)) && all is_lower_name (name_at m w)) (up_to n) ≡ map (λ w. true) (up_to n)
    → (w : ℕ) → ltb w (length m.properties) ≡ true → Row i m w
row i m n q a b c w h =
    let l : ltb w n ≡ true = rw q at h in
    record {
      slot = by_below (λ w. slot_of (lowered (name_at m w))) (λ w. some (record { index = i; map = m; which = w })) w n a (λ k. not-both l k);
      own = by_below (λ w. among (lowered (name_at m w)) others) (λ w. false) w n b (λ k. not-both l k);
      word = by_below (λ w. not (empty (name_at m w)) && all is_lower_name (name_at m w)) (λ w. true) w n c (λ k. not-both l k);
    }

pub rows : Rows 0 maps
unfolding slot_of slot_from position same lowered lower between among any all is_lower_name
rows = (
  row 0 _ 1 refl refl refl refl,
  (
    row 1 _ 1 refl refl refl refl,
    (
      row 2 _ 1 refl refl refl refl,
      (
        row 3 _ 1 refl refl refl refl,
        (
          row 4 _ 1 refl refl refl refl,
          (
            row 5 _ 2 refl refl refl refl,
            (
              row 6 _ 1 refl refl refl refl,
              tt,
            ),
          ),
        ),
      ),
    ),
  ),
)
