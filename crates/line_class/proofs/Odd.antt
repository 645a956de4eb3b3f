-- Where no byte is odd, the line is UTF-8 and has no controls.
use mathlib.Core.Path.{◌≡◌, refl}
use mathlib.Core.Bool.{Bool, true, false, ◌||◌, not}
use mathlib.Core.List.{[], ◌∷◌}
use Prim.Native.Nat.{ℕ, ◌+◌, ◌≤◌, ◌<◌}
use native.Mathlib.Numerals.{add-one}
use lib.ListN.{length, get_or, drop, drop_of_length-le}
use lib.Seq.{drop-cons}
use lib.Dec.{ltb}
use Rattle.text.specs.Bytes.{Bytes, any}
use Rattle.text.specs.Utf8.{start, lead, next, run, utf8}
use Rattle.text.proofs.Cases.{or_left, or_right, not-false}
use Rattle.line.specs.Class.{is_control}
use Rattle.line_class.specs.Odd.{is_odd}

or_assoc : (a b c : Bool) → a || (b || c) ≡ (a || b) || c
or_assoc true b c = refl
or_assoc false b c = refl

pub or-none : (a : Bool) → a || false ≡ a
or-none true = refl
or-none false = refl

-- one byte more that was asked, and all of them
pub any-more : (p : ℕ → Bool) (s : Bytes) (i : ℕ) (r q : Bool) → i < length s → q ≡ p (get_or s i 0) → r || any p (drop i s) ≡ (r || q) || any p (drop (i + 1) s)
unfolding any
any-more p s i r q l e = rw (drop-cons s i 0 l, add-one i, e) (or_assoc r (p (get_or s i 0)) _)

pub any-end : (p : ℕ → Bool) (s : Bytes) (i : ℕ) (r : Bool) → length s ≤ i → r || any p (drop i s) ≡ r
unfolding any
any-end p s i r l = rw (drop_of_length-le s {i = i} l) (or-none r)

no-controls : (s : Bytes) → any is_odd s ≡ false → any is_control s ≡ false
unfolding any is_odd
no-controls [] e = refl
no-controls (c ∷ s) e = rw (or_left (is_control c) _ (or_left (is_control c || not (ltb c 128)) _ e)) (no-controls s (or_right (is_control c || not (ltb c 128)) _ e))

ascii : (s : Bytes) → any is_odd s ≡ false → run start s ≡ start
unfolding any is_odd run next lead
ascii [] e = refl
ascii (c ∷ s) e =
    let h = not-false (ltb c 128) (or_right (is_control c) _ (or_left (is_control c || not (ltb c 128)) _ e)) in
    rw h (ascii s (or_right (is_control c || not (ltb c 128)) _ e))

pub plain : (s : Bytes) → any is_odd s ≡ false → not (utf8 s) || any is_control s ≡ false
unfolding utf8
plain s e = rw (ascii s e) (no-controls s e)
