-- Laws of prints, and of strings noted by their places and prints.
use mathlib.Core.Path.{◌≡◌, refl, sym, ap, subst, ◌∙◌}
use mathlib.Core.Logic.{◌⊎◌, ⊎_elim}
use mathlib.Core.Bool.{Bool, true, false, ◌||◌}
use mathlib.Core.List.{List, [], ◌∷◌, ◌++◌, map, map-append}
use mathlib.Core.Option.{Option, none, some}
use Prim.Native.Nat.{ℕ, zero, suc, ◌+◌, ◌*◌, ◌/◌, ◌%◌, ◌≤◌, ◌<◌}
use native.Mathlib.Nat.{eq-or-lt_of_le, div-add-mod', mul-add-mod_self_right}
use native.Mathlib.Numerals.{add-one}
use native.Mathlib.Omega.{arith}
use lib.ListN.{length, get_or, take, drop, set, length-take, drop_of_length-le}
use lib.Seq.{get_or-take, take-suc-set, take_all, take-length, drop-cons}
use lib.Dec.{eqb, ltb}
use borrow.Author.Tests.{eq-eqb, ne_eqb, ltb-true, ltb-false}
use Rattle.text.specs.Choice.{is_some}
use Rattle.text.specs.Bytes.{Bytes, any, same, among}
use Rattle.text.proofs.Cases.{by_bool, not-both}
use Rattle.text.proofs.Same.{same_true}
use Rattle.json_text.specs.Strings.{before}
use Rattle.json_strings.specs.declared.Byte.{Byte}
use Rattle.json_strings.specs.declared.Byte.TheVariants.{One}
use Rattle.json_strings.proofs.NextByte.{is_one}
use Rattle.json_strings.specs.Decoded.{decoded_at, left, byte_of, spells, agree}
use Rattle.json_prints.specs.Prints.{stir, printed, print_of, Told, Clear, Absent, meets, Names, Sought, SoughtKey}

-- ---- one place after the other
or-true : (a : Bool) → a || true ≡ true
or-true true = refl
or-true false = refl

any-hit : (f : ℕ → Bool) (l : List ℕ) (k : ℕ) → k < length l → f (get_or l k 0) ≡ true → any f l ≡ true
unfolding any
any-hit f [] k h e = absurd (omega (arith, h))
any-hit f (x ∷ l) zero h e = rw e
any-hit f (x ∷ l) (suc k) h e = let g : k < length l = omega (arith, h) in rw (any-hit f l k g e) (or-true (f x))

any-clear : (f : ℕ → Bool) (l : List ℕ) → ((k : ℕ) → k < length l → f (get_or l k 0) ≡ false) → any f l ≡ false
unfolding any
any-clear f [] h = refl
any-clear f (x ∷ l) h = rw (h 0 (omega arith), any-clear f l (λ k g. h (suc k) (omega (arith, g))))

map_at : (f : ℕ → ℕ) (l : List ℕ) (k : ℕ) → k < length l → get_or (map f l) k 0 ≡ f (get_or l k 0)
map_at f [] k h = absurd (omega (arith, h))
map_at f (x ∷ l) zero h = refl
map_at f (x ∷ l) (suc k) h = map_at f l k (omega (arith, h))

taken : (ps : List ℕ) (n k : ℕ) → n ≤ length ps → k < n → k < length (take n ps)
taken ps n k l h = simp length-take (omega arith)

module _ (s : Bytes) (o : Option Bytes) (ps : List ℕ) (n : ℕ) (l : n ≤ length ps) where
  meets-hit : (k : ℕ) → k < n → agree o (decoded_at s (get_or ps k 0)) ≡ true → meets s o (take n ps) ≡ true
  unfolding meets
  meets-hit k h e = any-hit (λ p. agree o (decoded_at s p)) (take n ps) k (taken ps n k l h) (rw (get_or-take n ps k 0 h) e)

  meets-clear : ((k : ℕ) → k < n → agree o (decoded_at s (get_or ps k 0)) ≡ false) → meets s o (take n ps) ≡ false
  unfolding meets
  meets-clear e = any-clear (λ p. agree o (decoded_at s p)) (take n ps) (λ k g. let z : k < length (take n ps) = g in let h : k < n = omega (arith, g, length-take n ps) in rw (get_or-take n ps k 0 h) (e k h))

last_or : (i k : ℕ) → i < k + 1 → (i ≡ k) ⊎ (i < k)
last_or i k m = eq-or-lt_of_le (omega (arith, m))

-- ---- prints
-- a step needs the print before it only up to a number of times 65536
stir-over : (x c : ℕ) → stir (x % 65536) c ≡ stir x c
stir-over x c =
    let e : x / 65536 * 40503 * 65536 + (x % 65536 * 40503 + c) ≡ x * 40503 + c = omega (arith, div-add-mod' x 65536) in
    sym (mul-add-mod_self_right (x / 65536 * 40503) 65536 (x % 65536 * 40503 + c)) ∙ ap (λ (n : ℕ). n % 65536) e

-- two steps are one
pub stir-twice : (p b c : ℕ) → (p * 61393 + (b * 40503 + c)) % 65536 ≡ stir (stir p b) c
stir-twice p b c =
    let e : p * 25031 * 65536 + (p * 61393 + (b * 40503 + c)) ≡ (p * 40503 + b) * 40503 + c = omega arith in
    sym (mul-add-mod_self_right (p * 25031) 65536 (p * 61393 + (b * 40503 + c))) ∙ ap (λ (n : ℕ). n % 65536) e ∙ sym (stir-over (p * 40503 + b) c)

-- THE law: what agrees has the same print
differing : (o x : Option Bytes) → (print_of 0 x ≡ print_of 0 o → ⊥) → agree o x ≡ false
differing none x n = refl
differing (some a) none n = refl
differing (some a) (some b) n = by_bool (same a b) (λ e. absurd (n (ap (printed 0) (sym (same_true a b e))))) (λ e. e)

-- a loop over prints with no early way out
pub absent-as : (fs : List ℕ) (p from to : ℕ) {r q : Bool} → Absent fs p from to r → r ≡ q → Absent fs p from to q
absent-as fs p from to h e = subst (Absent fs p from to) e h

pub absent_none : (fs : List ℕ) (p from : ℕ) → Absent fs p from from false
absent_none fs p from k l m = absurd (omega (arith, l, m))

pub absent_more : (fs : List ℕ) (p from k : ℕ) (r : Bool) → Absent fs p from k r → Absent fs p from (k + 1) (r || eqb (get_or fs k 0) p)
absent_more fs p from k true h = tt
absent_more fs p from k false h =
    by_bool (eqb (get_or fs k 0) p) (λ e. subst (Absent fs p from (k + 1)) (sym e) tt)
    (λ e. subst (Absent fs p from (k + 1)) (sym e) (λ i l m q. ⊎_elim (λ z. not-both (eq-eqb (get_or fs k 0) p (ap (λ (x : ℕ). get_or fs x 0) (sym z) ∙ q)) e) (λ z. h i l z q) (last_or i k m)))

module _ (s : Bytes) (o : Option Bytes) (ps fs : List ℕ) where
  clear-more : (from k : ℕ) → Clear s o ps fs from k → (print_of 0 (decoded_at s (get_or ps k 0)) ≡ get_or fs k 0 → agree o (decoded_at s (get_or ps k 0)) ≡ false) → Clear s o ps fs from (k + 1)
  clear-more from k h e i l m t =
      ⊎_elim (λ z. let w : Told s ps fs k = subst (Told s ps fs) z t in ap (λ (x : ℕ). agree o (decoded_at s (get_or ps x 0))) z ∙ e w) (λ z. h i l z t) (last_or i k m)

  clear-join : (from k to : ℕ) → Clear s o ps fs from k → Clear s o ps fs k to → Clear s o ps fs from to
  clear-join from k to h g i l m t = by_bool (ltb i k) (λ z. h i l (ltb-true i k z) t) (λ z. g i (ltb-false i k z) m t)

  pub clear-absent : (p from to : ℕ) → p ≡ print_of 0 o → Absent fs p from to false → Clear s o ps fs from to
  clear-absent p from to e h k l m t = differing o (decoded_at s (get_or ps k 0)) (λ w. h k l m (sym t ∙ w ∙ sym e))

pub printed-on : (s : Bytes) (p k : ℕ) → k < length s → printed p (drop k s) ≡ printed (stir p (get_or s k 0)) (drop (k + 1) s)
unfolding printed
printed-on s p k l = rw (drop-cons s k 0 l, add-one k)

pub printed-end : (s : Bytes) (p k : ℕ) → length s ≤ k → printed p (drop k s) ≡ p
unfolding printed
printed-end s p k l = rw (drop_of_length-le s {i = k} l)

pub print-byte : (p b : ℕ) (x : Option Bytes) → print_of p (before (b ∷ []) x) ≡ print_of (stir p b) x
unfolding printed
print-byte p b none = refl
print-byte p b (some n) = refl

pub print-one : (s : Bytes) {x : Option Bytes} {r : Byte} → x ≡ byte_of s r → {b j g : ℕ} → r ≡ One b j g → (p q : ℕ) → q ≡ stir p b → print_of p x ≡ print_of q (left s j g)
print-one s {x} {r} e {b} {j} {g} h p q w = ap (print_of p) (is_one s e h) ∙ print-byte p b (left s j g) ∙ ap (λ (y : ℕ). print_of y (left s j g)) (sym w)

pub print-end : (p : ℕ) → print_of p (some []) ≡ p
unfolding printed
print-end p = refl

pub printed-below : (p : ℕ) (n : Bytes) → p < 65536 → printed p n < 65536
unfolding printed
printed-below p [] l = l
printed-below p (b ∷ n) l = printed-below (stir p b) n (omega arith)

pub no-print : (o : Option Bytes) → print_of 0 o ≡ 65536 → is_some o ≡ false
no-print none e = refl
no-print (some n) e = absurd (omega (arith, e, printed-below 0 n (omega arith)))

pub a-print : (o : Option Bytes) → (print_of 0 o ≡ 65536 → ⊥) → (n : Bytes) × (o ≡ some n)
a-print none e = absurd (e refl)
a-print (some n) e = (n, refl)

-- ---- what the strings at the places stand for
cons_head : {A : Type 0} {x y : A} {xs ys : List A} → x ∷ xs ≡ y ∷ ys → x ≡ y
cons_head e = cc

cons_tail : {A : Type 0} {x y : A} {xs ys : List A} → x ∷ xs ≡ y ∷ ys → xs ≡ ys
cons_tail e = cc

spelt-among : (s n : Bytes) (ps : List ℕ) (ns : List Bytes) → map (decoded_at s) ps ≡ map some ns → meets s (some n) ps ≡ among n ns
unfolding meets among any
spelt-among s n [] [] e = refl
spelt-among s n [] (m ∷ ns) e = let r : ◌≡◌ {A = ℕ} 0 1 = cc in absurd (omega arith)
spelt-among s n (p ∷ ps) [] e = let r : ◌≡◌ {A = ℕ} 0 1 = cc in absurd (omega arith)
spelt-among s n (p ∷ ps) (m ∷ ns) e = rw (cons_head e, spelt-among s n ps ns (cons_tail e))

pub meets-among : (s n : Bytes) (ps fs : List ℕ) (ns : List Bytes) → Names s ps fs ns → meets s (some n) ps ≡ among n ns
unfolding Names
meets-among s n ps fs ns e = spelt-among s n ps ns e.0

spelt-print : (s : Bytes) (ps : List ℕ) (ns : List Bytes) → map (decoded_at s) ps ≡ map some ns → map (λ p. print_of 0 (decoded_at s p)) ps ≡ map (printed 0) ns
spelt-print s [] [] e = refl
spelt-print s [] (m ∷ ns) e = let r : ◌≡◌ {A = ℕ} 0 1 = cc in absurd (omega arith)
spelt-print s (p ∷ ps) [] e = let r : ◌≡◌ {A = ℕ} 0 1 = cc in absurd (omega arith)
spelt-print s (p ∷ ps) (m ∷ ns) e = rw (cons_head e, spelt-print s ps ns (cons_tail e))

-- the print beside a place, of names that are noted
told_at : (s : Bytes) (ps fs : List ℕ) (n : ℕ) (ns : List Bytes) → n ≤ length ps → Names s (take n ps) (take n fs) ns → (k : ℕ) → k < n → Told s ps fs k
unfolding Names
told_at s ps fs n ns l e k h =
    let f : ℕ → ℕ = λ p. print_of 0 (decoded_at s p) in
    ap f (sym (get_or-take n ps k 0 h)) ∙ sym (map_at f (take n ps) k (taken ps n k l h))
    ∙ ap (λ (x : List ℕ). get_or x k 0) (spelt-print s (take n ps) ns e.0 ∙ e.1) ∙ get_or-take n fs k 0 h

module _ (s : Bytes) (o : Option Bytes) (ps fs : List ℕ) (n : ℕ) (l : n ≤ length ps) where
  pub sought-yes : (k : ℕ) → k < n → agree o (decoded_at s (get_or ps k 0)) ≡ true → Sought s o ps fs n true
  sought-yes k h e = λ ns f. sym (meets-hit s o ps n l k h e)

  pub sought-no : (k : ℕ) → n ≤ k → Clear s o ps fs 0 k → Sought s o ps fs n false
  sought-no k h b = λ ns e. sym (meets-clear s o ps n l (λ i g. b i (omega arith) (omega (arith, g)) (told_at s ps fs n ns l e i g)))
  -- the last block, after others without such a string

next-taken : (ps : List ℕ) (k q : ℕ) → k < length ps → take (k + 1) (set ps k q) ≡ take k ps ++ (q ∷ [])
next-taken ps k q l = ap (λ (i : ℕ). take i (set ps k q)) (add-one k) ∙ take-suc-set ps k q l

pub names-noted : (s n : Bytes) (ps fs : List ℕ) (k q p : ℕ) (ns : List Bytes) → k < length ps → k < length fs → Names s (take k ps) (take k fs) ns → decoded_at s q ≡ some n → p ≡ printed 0 n
    → Names s (take (k + 1) (set ps k q)) (take (k + 1) (set fs k p)) (ns ++ (n ∷ []))
unfolding Names
names-noted s n ps fs k q p ns l m e h w = (
  ap (map (decoded_at s)) (next-taken ps k q l) ∙ map-append (decoded_at s) (take k ps) (q ∷ []) ∙ rw (e.0, h) (sym (map-append some ns (n ∷ []))),
  map-append (printed 0) ns (n ∷ []) ∙ rw (e.1, w) (sym (next-taken fs k (printed 0 n) m)),
)

pub no_names : (s : Bytes) (ps fs : List ℕ) → Names s (take 0 ps) (take 0 fs) []
unfolding Names
no_names s ps fs = (refl, refl)

-- ---- a print sought from a place on
pub absent-next : (fs : List ℕ) (p from k : ℕ) → Absent fs p from k false → (get_or fs k 0 ≡ p → ⊥) → Absent fs p from (k + 1) false
absent-next fs p from k h n = absent-as fs p from (k + 1) (absent_more fs p from k false h) (ne_eqb (get_or fs k 0) p n)

-- two parts of a row that meet, or have some in common
pub absent-over : (fs : List ℕ) (p from j k to : ℕ) → j ≤ k → Absent fs p from k false → Absent fs p j to false → Absent fs p from to false
absent-over fs p from j k to w h g i l m = by_bool (ltb i k) (λ z. h i l (ltb-true i k z)) (λ z. g i (omega (arith, ltb-false i k z, w)) m)

pub absent-join : (fs : List ℕ) (p from k to : ℕ) → Absent fs p from k false → Absent fs p k to false → Absent fs p from to false
absent-join fs p from k to = absent-over fs p from k k to (omega arith)

-- one search of a row after another
abbrev pub Reached : List ℕ → ℕ → ℕ → ℕ → ℕ → Type 0
Reached fs p from to r = (from ≤ r) × (r ≤ to) × Absent fs p from r false

pub reach-on : (fs : List ℕ) (p from to a b : ℕ) → Reached fs p from to a → Reached fs p a to b → Reached fs p from to b
reach-on fs p from to a b h g = (omega (arith, h.0, g.0), g.1, absent-join fs p from a b h.2 g.2)

-- the string at k does not agree, and up to j no print is equal
pub clear-on : (s : Bytes) (o : Option Bytes) (ps fs : List ℕ) (p k j : ℕ) → p ≡ print_of 0 o → agree o (decoded_at s (get_or ps k 0)) ≡ false → Absent fs p (k + 1) j false → Clear s o ps fs 0 k → Clear s o ps fs 0 j
clear-on s o ps fs p k j is e a h = clear-join s o ps fs 0 (k + 1) j (clear-more s o ps fs 0 k h (λ t. e)) (clear-absent s o ps fs p (k + 1) j is a)

-- ---- some bytes sought among the names noted
pub agree-spells : (key : Bytes) (x : Option Bytes) → agree (some key) x ≡ spells x key
agree-spells key none = refl
agree-spells key (some n) = refl

module _ (s key : Bytes) (ps fs : List ℕ) where
  key-whole : length ps ≡ length fs → {r : Bool} → Sought s (some key) ps fs (length ps) r → SoughtKey s key ps fs r
  key-whole l h ns e =
      let a : take (length ps) ps ≡ ps = take-length ps in
      let b : take (length ps) fs ≡ fs = take_all (length ps) fs (omega arith) in
      h ns (subst (λ (x : List ℕ). Names s x (take (length ps) fs) ns) (sym a) (subst (λ (x : List ℕ). Names s ps x ns) (sym b) e)) ∙ ap (meets s (some key)) a ∙ meets-among s key ps fs ns e

  pub key-yes : length ps ≡ length fs → (k : ℕ) → k < length ps → agree (some key) (decoded_at s (get_or ps k 0)) ≡ true → SoughtKey s key ps fs true
  key-yes l k h e = key-whole l (sought-yes s (some key) ps fs (length ps) (omega arith) k h e)

  pub key-no : length ps ≡ length fs → (k : ℕ) → length ps ≤ k → Clear s (some key) ps fs 0 k → SoughtKey s key ps fs false
  key-no l k h c = key-whole l (sought-no s (some key) ps fs (length ps) (omega arith) k h c)
