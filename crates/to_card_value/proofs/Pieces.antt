-- Pieces of a value: phones, empty strings, one unit.
use mathlib.Core.Path.{◌≡◌, refl, sym, ap, ◌∙◌}
use mathlib.Core.Bool.{Bool, true, false, ◌&&◌, ◌||◌, not}
use mathlib.Core.List.{[], ◌∷◌, ◌++◌}
use mathlib.Core.Option.{Option, none, some}
use Prim.Native.Nat.{ℕ, ◌+◌, ◌≤◌, ◌<◌}
use native.Mathlib.Numerals.{add-one}
use lib.Dec.{eqb, leb}
use borrow.Author.Tests.{eq-eqb, ne_eqb, eqb-true, lt-ltb, le-ltb}
use Rattle.text.specs.Bytes.{Bytes, ascii, any, empty, begins}
use Rattle.text.proofs.Cases.{by_bool}
use Rattle.json_text.specs.Strings.{before}
use Rattle.json_strings.specs.Decoded.{decoded_at}
use Rattle.line.specs.Class.{is_control}
use Rattle.line_pen.proofs.Laws.{pens-none}
use Rattle.to_card_pen.specs.declared.Told.{Told}
use Rattle.to_card_pen.specs.Styles.{written_in, stands_in, all_stand_in}
use Rattle.to_card_pen.proofs.Styles.{written-parts, stands-text}
use Rattle.convert.specs.Value.{filled, is_tel_uri}
use Rattle.convert.specs.Carry.{carried_text}
use Rattle.to_card_value.specs.Values.{blank_of, tel_byte, on_tel, tel_from, tel_of, Inks, unit_piece, unit_carried, UnitInks}

-- ---- one byte of `tel:`

module _ (k c : ℕ) where
  pub tel-0 : k ≡ 0 → eqb c 116 ≡ tel_byte k c
  unfolding tel_byte
  tel-0 e = rw (eq-eqb k 0 e)

  pub tel-1 : (k ≡ 0 → ⊥) → k ≡ 1 → eqb c 101 ≡ tel_byte k c
  unfolding tel_byte
  tel-1 n e = rw (ne_eqb k 0 n, eq-eqb k 1 e)

  pub tel-2 : (k ≡ 0 → ⊥) → (k ≡ 1 → ⊥) → k ≡ 2 → eqb c 108 ≡ tel_byte k c
  unfolding tel_byte
  tel-2 n m e = rw (ne_eqb k 0 n, ne_eqb k 1 m, eq-eqb k 2 e)

  pub tel-3 : (k ≡ 0 → ⊥) → (k ≡ 1 → ⊥) → (k ≡ 2 → ⊥) → k ≡ 3 → eqb c 58 ≡ tel_byte k c
  unfolding tel_byte
  tel-3 n m o e = rw (ne_eqb k 0 n, ne_eqb k 1 m, ne_eqb k 2 o, eq-eqb k 3 e)

  pub tel-on : (k ≡ 0 → ⊥) → (k ≡ 1 → ⊥) → (k ≡ 2 → ⊥) → (k ≡ 3 → ⊥) → {b : Bool} → b ≡ is_control c → not b ≡ tel_byte k c
  unfolding tel_byte
  tel-on n m o p {b} e = rw (ne_eqb k 0 n, ne_eqb k 1 m, ne_eqb k 2 o, ne_eqb k 3 p, e)

pub on-less : (k : ℕ) → k < 4 → k + 1 ≡ on_tel k
unfolding on_tel
on-less k h = rw (lt-ltb k 4 h) (add-one k)

pub on-last : (k : ℕ) → 4 ≤ k → 4 ≡ on_tel k
unfolding on_tel
on-last k h = rw (le-ltb k 4 h)

-- ---- a whole phone

abbrev pub tel_seen : ℕ → Option Bytes → Bool
tel_seen k none = false
tel_seen k (some x) = tel_from k x

not-or : (a b : Bool) → not (a || b) ≡ not a && not b
not-or true b = refl
not-or false b = refl

abbrev rest : Bytes → Bytes → Bool
rest p x = begins p x && not (any is_control x)

step : (p a : ℕ) (ps x : Bytes) → is_control p ≡ false → rest (p ∷ ps) (a ∷ x) ≡ (eqb a p && rest ps x)
unfolding begins any
step p a ps x c = by_bool (eqb a p) (λ e. rw (e, eqb-true a p e, c)) (λ e. rw e)

tel₄ : (x : Bytes) → rest [] x ≡ tel_from 4 x
unfolding begins any tel_from tel_byte on_tel
tel₄ [] = refl
tel₄ (c ∷ x) = not-or (is_control c) (any is_control x) ∙ ap (λ (b : Bool). not (is_control c) && b) (tel₄ x)

tel₃ : (x : Bytes) → rest (ascii ":") x ≡ tel_from 3 x
unfolding begins tel_from tel_byte on_tel is_control
tel₃ [] = refl
tel₃ (c ∷ x) = step 58 c [] x refl ∙ ap (λ (b : Bool). eqb c 58 && b) (tel₄ x)

tel₂ : (x : Bytes) → rest (ascii "l:") x ≡ tel_from 2 x
unfolding begins tel_from tel_byte on_tel is_control
tel₂ [] = refl
tel₂ (c ∷ x) = step 108 c (ascii ":") x refl ∙ ap (λ (b : Bool). eqb c 108 && b) (tel₃ x)

tel₁ : (x : Bytes) → rest (ascii "el:") x ≡ tel_from 1 x
unfolding begins tel_from tel_byte on_tel is_control
tel₁ [] = refl
tel₁ (c ∷ x) = step 101 c (ascii "l:") x refl ∙ ap (λ (b : Bool). eqb c 101 && b) (tel₂ x)

tel₀ : (x : Bytes) → is_tel_uri x ≡ tel_from 0 x
unfolding is_tel_uri begins tel_from tel_byte on_tel is_control
tel₀ [] = refl
tel₀ (c ∷ x) = step 116 c (ascii "el:") x refl ∙ ap (λ (b : Bool). eqb c 116 && b) (tel₁ x)

pub tel-first : (o p : Option Bytes) → p ≡ o → tel_of o ≡ tel_seen 0 p
tel-first o p e = go o ∙ ap (tel_seen 0) (sym e)
  where
    go : (o : Option Bytes) → tel_of o ≡ tel_seen 0 o
    go none = refl
    go (some x) = tel₀ x

pub tel-end : (k : ℕ) → leb 4 k ≡ tel_seen k (some [])
unfolding tel_from
tel-end k = refl

pub tel-bad : (k b : ℕ) (o : Option Bytes) → tel_byte k b ≡ false → false ≡ tel_seen k (before (b ∷ []) o)
unfolding tel_from
tel-bad k b none e = refl
tel-bad k b (some x) e = rw e

pub tel-more : (k b : ℕ) (o : Option Bytes) {l : ℕ} → tel_byte k b ≡ true → l ≡ on_tel k → tel_seen k (before (b ∷ []) o) ≡ tel_seen l o
unfolding tel_from
tel-more k b none {l} e f = refl
tel-more k b (some x) {l} e f = rw (e, f)

pub no-form : {a : Bool} (b : Bool) → a ≡ false → false ≡ (a && b)
no-form b e = rw e

pub the_form : {a : Bool} {b c : Bool} → a ≡ true → c ≡ b → c ≡ (a && b)
the_form {a} {b} {c} e f = rw e f

-- ---- empty strings

pub blank_none : (o : Option Bytes) → o ≡ none → false ≡ blank_of o
blank_none o e = rw e

pub blank-end : (o : Option Bytes) → o ≡ some [] → true ≡ blank_of o
blank-end o e = rw e

pub blank-one : (o p : Option Bytes) (b : ℕ) → o ≡ before (b ∷ []) p → false ≡ blank_of o
blank-one o p b e = go p ∙ ap blank_of (sym e)
  where
    go : (p : Option Bytes) → false ≡ blank_of (before (b ∷ []) p)
    go none = refl
    go (some x) = refl

-- ---- a unit

pub stands_parts : (s : Bytes) → all_stand_in 2 s ≡ carried_text s
unfolding all_stand_in stands_in
stands_parts s = stands-text s

module _ (s : Bytes) (at : ℕ) {b : Bool} (is_b : b ≡ blank_of (decoded_at s at)) where
  blank-is : (x : Bytes) → decoded_at s at ≡ some x → empty x ≡ b
  blank-is x e = sym (is_b ∙ ap blank_of e)

  pub unit-blank : {room : Bytes} {k : ℕ} → b ≡ true → UnitInks s at room k (record { bytes = 0; column = k; carried = true; filled = false }) room
  unfolding unit_piece unit_carried
  unit-blank {room} {k} t = record {
    bytes = [];
    is = λ x e. let z : empty x ≡ true = blank-is x e ∙ t in rw z;
    carried = λ x e. let z : empty x ≡ true = blank-is x e ∙ t in rw z;
    filled = λ x e. let z : empty x ≡ true = blank-is x e ∙ t in rw z;
    pens = pens-none room k;
  }

  pub unit-filled : {room after : Bytes} {k : ℕ} {t : Told} → b ≡ false → Inks s at (ascii ";") 2 room k t after → UnitInks s at room k (record { bytes = t.bytes; column = t.column; carried = t.carried; filled = true }) after
  unfolding unit_piece unit_carried
  unit-filled {room} {after} {k} {t} n i = record {
    bytes = ascii ";" ++ written_in 2 i.text;
    is = λ x e. let z : empty x ≡ false = blank-is x e ∙ n in rw z (ap (λ (y : Bytes). ascii ";" ++ y) (ap (written_in 2) (i.is x e) ∙ written-parts x));
    carried = λ x e. let z : empty x ≡ false = blank-is x e ∙ n in rw z (i.carried ∙ stands_parts i.text ∙ ap carried_text (i.is x e));
    filled = λ x e. let z : empty x ≡ false = blank-is x e ∙ n in rw z;
    pens = i.pens;
  }
