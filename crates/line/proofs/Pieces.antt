-- The physical lines of a folded line, and what unfolding makes of them.
use mathlib.Core.Path.{◌≡◌, refl, ap, ◌∙◌}
use mathlib.Core.Bool.{false}
use mathlib.Core.List.{List, [], ◌∷◌, ◌++◌, map, append-nil}
use Prim.Native.Nat.{ℕ, suc}
use lib.Dec.{ltb}
use Rattle.text.specs.Choice.{pick}
use Rattle.text.specs.Bytes.{Bytes, is, any, on_head, flat}
use Rattle.text.specs.Reader.{first}
use Rattle.text.proofs.Cases.{by_bool}
use Rattle.text.proofs.Lists.{any_head, any-tail}
use Rattle.line.specs.Class.{is_blank}
use Rattle.line.specs.Physical.{by_lf, without_cr, physical}
use Rattle.line.specs.Unfold.{rest, begun, unfold'}
use Rattle.line.specs.Write.{width, breaks, fold_from, fold}

-- ---- the pieces

-- the first physical line of what is folded from a column on, and the later ones
unfoldable pub pieces_from : ℕ → Bytes → Bytes × List Bytes
pieces_from column [] = ([], [])
pieces_from column (c ∷ s) =
    pick (breaks column (width c)) ([], (32 ∷ c ∷ (pieces_from 2 s).0) ∷ (pieces_from 2 s).1) (c ∷ (pieces_from (suc column) s).0, (pieces_from (suc column) s).1)

abbrev pub listed : Bytes × List Bytes → List Bytes
listed p = p.0 ∷ p.1

unfoldable pub pieces : Bytes → List Bytes
pieces s = listed (pieces_from 0 s)

-- ---- lines that end in CR LF

without-cr : (s : Bytes) → without_cr (s ++ 13 ∷ []) ≡ s
unfolding without_cr
without-cr [] = refl
without-cr (c ∷ []) = refl
without-cr (c ∷ (d ∷ s)) = ap (λ (x : Bytes). c ∷ x) (without-cr (d ∷ s))

by-lf : (s t : Bytes) → any (is 10) s ≡ false → by_lf (s ++ 13 ∷ 10 ∷ t) ≡ (s ++ 13 ∷ []) ∷ by_lf t
unfolding by_lf on_head
by-lf [] t h = refl
by-lf (c ∷ s) t h = rw (any_head (is 10) c s h, by-lf s t (any-tail (is 10) c s h))

pub physical-line : (s t : Bytes) → any (is 10) s ≡ false → physical (s ++ 13 ∷ 10 ∷ t) ≡ s ∷ physical t
unfolding physical
physical-line s t h = rw (by-lf s t h, without-cr s)

-- a folded line is its pieces
by-lf-folded : (column : ℕ) (s t : Bytes) → any (is 10) s ≡ false
    → by_lf (fold_from column s ++ 13 ∷ 10 ∷ t) ≡ ((pieces_from column s).0 ++ 13 ∷ []) ∷ (map (λ p. p ++ 13 ∷ []) (pieces_from column s).1 ++ by_lf t)
unfolding by_lf fold_from pieces_from on_head
by-lf-folded column [] t h = refl
by-lf-folded column (c ∷ s) t h =
    let e = any_head (is 10) c s h in
    let r = any-tail (is 10) c s h in
    by_bool (breaks column (width c)) (λ b. rw (b, e, by-lf-folded 2 s t r)) (λ b. rw (b, e, by-lf-folded (suc column) s t r))

without-crs : (ps : List Bytes) (t : List Bytes) → map without_cr (map (λ p. p ++ 13 ∷ []) ps ++ t) ≡ ps ++ map without_cr t
without-crs [] t = refl
without-crs (p ∷ ps) t = rw (without-cr p, without-crs ps t)

pub physical-folded : (s t : Bytes) → any (is 10) s ≡ false → physical (fold s ++ 13 ∷ 10 ∷ t) ≡ pieces s ++ physical t
unfolding physical fold pieces
physical-folded s t h = rw (by-lf-folded 0 s t h, without-cr (pieces_from 0 s).0, without-crs (pieces_from 0 s).1 (by_lf t))

-- ---- unfolding

-- begun with the pieces of s, it is begun with s
unfold-from : (column : ℕ) (s : Bytes) (ls : List Bytes) → begun (pieces_from column s).0 (rest ((pieces_from column s).1 ++ ls)) ≡ begun s (rest ls)
unfolding pieces_from rest is_blank on_head
unfold-from column [] ls = refl
unfold-from column (c ∷ s) ls =
    by_bool (breaks column (width c))
    (λ b. rw b (ap (on_head c) (unfold-from 2 s ls)))
    (λ b. rw b (ap (on_head c) (unfold-from (suc column) s ls)))

pub unfold-pieces : (s : Bytes) (ls : List Bytes) → unfold' (pieces s ++ ls) ≡ begun s (rest ls)
unfolding unfold' pieces
unfold-pieces s ls = unfold-from 0 s ls

-- the first character is not broken off
stays : (c : ℕ) → breaks 0 (width c) ≡ false
unfolding breaks width
stays c =
    by_bool (ltb c 128) (λ e. rw e) (λ e. by_bool (ltb c 192) (λ f. rw (e, f)) (λ f. by_bool (ltb c 224) (λ g. rw (e, f, g)) (λ g. by_bool (ltb c 240) (λ h. rw (e, f, g, h)) (λ h. rw (e, f, g, h)))))

first_piece : (s : Bytes) → first (pieces_from 0 s).0 ≡ first s
unfolding pieces_from
first_piece [] = refl
first_piece (c ∷ s) = rw (stays c)

-- not the first line: it begins with no blank
pub rest-pieces : (s : Bytes) (ls : List Bytes) → is_blank (first s) ≡ false → rest (pieces s ++ ls) ≡ record { goes_on = []; lines = begun s (rest ls) }
unfolding rest pieces
rest-pieces s ls h = rw (first_piece s, h) (ap (λ (x : List Bytes). record { goes_on = []; lines = x }) (unfold-from 0 s ls))

-- ---- several lines

abbrev pub Unblank : List Bytes → Type 0
Unblank [] = Unit {0}
Unblank (s ∷ ss) = (is_blank (first s) ≡ false) × Unblank ss

rest_all : (ss : List Bytes) → Unblank ss → rest (flat (map pieces ss)) ≡ record { goes_on = []; lines = ss }
unfolding flat rest
rest_all [] h = refl
rest_all (s ∷ ss) h = rest-pieces s (flat (map pieces ss)) h.0 ∙ rw (rest_all ss h.1, append-nil s)

-- what was folded line by line is unfolded to those lines
pub unfold-all : (ss : List Bytes) → Unblank ss → unfold' (flat (map pieces ss)) ≡ ss
unfolding flat unfold'
unfold-all [] h = refl
unfold-all (s ∷ ss) h = unfold-pieces s (flat (map pieces ss)) ∙ rw (rest_all ss h.1, append-nil s)
