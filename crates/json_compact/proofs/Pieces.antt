-- A text piece by piece: the laws of `squeezed`, and one turn of the loop.
use mathlib.Core.Path.{◌≡◌, refl, sym, ap, ◌∙◌}
use mathlib.Core.Bool.{true, false}
use mathlib.Core.List.{[], ◌∷◌, ◌++◌}
use Prim.Native.Nat.{ℕ, zero, suc, ◌+◌, ◌≤◌, ◌<◌}
use native.Mathlib.Omega.{arith}
use lib.ListN.{length, drop, get_or, length-drop, drop_of_length-le}
use Rattle.text.specs.Bytes.{Bytes, is, between}
use Rattle.text.specs.Reader.{Got, got, bad}
use Rattle.text.specs.Places.{byte_at, Gives}
use Rattle.text.specs.Places.{Read}
use Rattle.std.specs.Prelude.{Ok, Err}
use Rattle.text.proofs.Cases.{by_bool}
use Rattle.text.proofs.Places.{byte-default, gives_as, at_next, at-bad, on-yes, on-no}
use Rattle.text.proofs.Readers.{not-bad, got-what, under-inv, Takes, takes-on, takes-got, takes-under, takes-less, takes-bad}
use Rattle.json_text.specs.Grammar.{is_space}
use Rattle.json_text.specs.Strings.{decode}
use Rattle.json_text.specs.Syntax.{characters}
use Rattle.json_text.proofs.Fine.{space-256, below-256}
use Rattle.json_text.proofs.Takes.{takes-characters}
use Rattle.json_text.specs.Compact.{quoted}
use Rattle.json_strings.specs.Decoded.{text_at}
use Rattle.json_strings.proofs.Laws.{decoded-is}
use Rattle.json_compact.specs.Squeezed.{in_quotes, piece, onward, squeezed_in, squeezed}

takes-piece : Takes 1 piece
unfolding piece
takes-piece =
    takes-on is_space space-256 (omega arith) (λ c. takes-got []) (takes-on (is 34) refl (omega arith) (λ c. takes-under (λ us. in_quotes (decode us)) (takes-less takes-characters))
    (takes-on (between 0 255) (below-256 0 255 refl) (omega arith) (λ c. takes-got (c ∷ [])) (takes-bad 1)))

-- ---- a bound that is high enough plays no part

onward-same : (s : Bytes) (x : Got Bytes) (f g : Bytes → Bytes) → piece s ≡ x → ((t : Bytes) → length t < length s → f t ≡ g t) → onward x f ≡ onward x g
onward-same s (got w t) f g e h = ap (λ (x : Bytes). w ++ x) (h t (omega (arith, takes-piece.less s w t e)))
onward-same s (bad t) f g e h = refl

enough : (n m : ℕ) (s : Bytes) → length s ≤ n → length s ≤ m → squeezed_in n s ≡ squeezed_in m s
unfolding squeezed_in
enough zero zero s h k = refl
enough zero (suc m) [] h k = refl
enough zero (suc m) (c ∷ s) h k = absurd (omega arith)
enough (suc n) zero [] h k = refl
enough (suc n) zero (c ∷ s) h k = absurd (omega arith)
enough (suc n) (suc m) [] h k = refl
enough (suc n) (suc m) (c ∷ s) h k =
    onward-same (c ∷ s) (piece (c ∷ s)) (λ t. squeezed_in n t) (λ t. squeezed_in m t) refl (λ t l. enough n m t (omega arith) (omega arith))

-- ---- the first piece

pub squeezed-nil : squeezed [] ≡ []
unfolding squeezed squeezed_in
squeezed-nil = refl

pub squeezed-on : (s : Bytes) (w : Bytes) (t : Bytes) → piece s ≡ got w t → squeezed s ≡ w ++ squeezed t
unfolding squeezed squeezed_in
squeezed-on [] w t e = absurd (omega (arith, takes-piece.less [] w t e))
squeezed-on (c ∷ s) w t e =
    ap (λ (x : Got Bytes). onward x (λ t. squeezed_in (length s) t)) e
    ∙ ap (λ (x : Bytes). w ++ x) (enough (length s) (length t) t (omega (arith, takes-piece.less (c ∷ s) w t e)) (omega arith))

pub squeezed-bad : (s t : Bytes) → 0 < length s → piece s ≡ bad t → squeezed s ≡ []
unfolding squeezed squeezed_in
squeezed-bad [] t l e = absurd (omega arith)
squeezed-bad (c ∷ s) t l e = ap (λ (x : Got Bytes). onward x (λ t. squeezed_in (length s) t)) e

-- ---- by place

module _ (s : Bytes) (i : ℕ) {r : Read} (h : Gives s i (piece (drop i s)) r) where
  pub turn_on : {e : ℕ} → r ≡ Ok e → (w : Bytes) × (piece (drop i s) ≡ got w (drop e s)) × (squeezed (drop i s) ≡ w ++ squeezed (drop e s))
  turn_on {e} q =
      let w = at_next (piece (drop i s)) (gives_as h q) in
      (w.0, w.1, squeezed-on (drop i s) w.0 (drop e s) w.1)

  pub turn-less : {e : ℕ} → r ≡ Ok e → (i < e) × (e ≤ length s)
  turn-less {e} q =
      let g = gives_as h q in
      let w = at_next (piece (drop i s)) g in
      let l = takes-piece.less (drop i s) w.0 (drop e s) w.1 in
      let m = rw (length-drop, length-drop) at l in
      (omega (arith, m, g.within), omega (arith, g.within))

  pub turn-bad : {b : ℕ} → i < length s → r ≡ Err b → squeezed (drop i s) ≡ []
  turn-bad {b} l q =
      let n : 0 < length (drop i s) = simp length-drop (omega arith) in
      squeezed-bad (drop i s) (drop b s) n (at-bad (piece (drop i s)) (gives_as h q))

pub turn_end : (s : Bytes) (i : ℕ) → length s ≤ i → squeezed (drop i s) ≡ []
turn_end s i h = rw (drop_of_length-le s h) squeezed-nil

-- ---- what a piece is written as

pub byte-same : (s : Bytes) (i : ℕ) → i < length s → get_or s i 0 ≡ byte_at s i
byte-same s i h = byte-default s i 0 256 h

module _ (s : Bytes) (i b : ℕ) (e : b ≡ byte_at s i) (w t : Bytes) (p : piece (drop i s) ≡ got w t) where
  pub piece-space : is_space b ≡ true → [] ≡ w
  unfolding piece
  piece-space h = got-what (sym (on-yes is_space s i b e _ _ h) ∙ p)

  module _ (h : is_space b ≡ false) where
    pub piece-string : is 34 b ≡ true → quoted (text_at s (i + 1)) [] ≡ w
    unfolding piece text_at
    piece-string k =
        let j = under-inv (λ us. in_quotes (decode us)) (characters (drop (i + 1) s)) (sym (on-no is_space s i b e _ _ h ∙ on-yes (is 34) s i b e _ _ k) ∙ p) in
        ap in_quotes (decoded-is s (i + 1) j.0 t j.1) ∙ j.2

    pub piece_byte : is 34 b ≡ false → b ∷ [] ≡ w
    unfolding piece
    piece_byte k =
        let f = on-no is_space s i b e _ _ h ∙ on-no (is 34) s i b e _ _ k in
        by_bool (between 0 255 b)
        (λ g. got-what (sym (f ∙ on-yes (between 0 255) s i b e _ _ g) ∙ p))
        (λ g. absurd (not-bad (sym (f ∙ on-no (between 0 255) s i b e _ _ g) ∙ p)))
