-- Values of a list noted by their places and their prints, and one sought among them.
use mathlib.Core.Path.{◌≡◌, refl, sym, ap, ap₂, subst, ◌∙◌}
use mathlib.Core.Logic.{◌⊎◌, ⊎_elim}
use mathlib.Core.Bool.{Bool, true, false, ◌||◌}
use mathlib.Core.List.{List, [], ◌∷◌, ◌++◌, map, map-append}
use Prim.Native.Nat.{ℕ, zero, suc, ◌+◌, ◌-◌, ◌*◌, ◌≤◌, ◌<◌}
use native.Mathlib.Nat.{eq-or-lt_of_le}
use native.Mathlib.Numerals.{add-one}
use native.Mathlib.Omega.{arith}
use lib.Dec.{ltb}
use lib.ListN.{length, get_or, take, drop, set}
use lib.Seq.{take-suc-set}
use borrow.Author.Tests.{lt-ltb, le-ltb, ltb-true, ltb-false}
use Rattle.text.specs.Choice.{pick, is_some}
use Rattle.text.specs.Bytes.{Bytes, empty, same, among, any}
use Rattle.text.proofs.Cases.{by_bool, not-both}
use Rattle.text.proofs.Same.{differ_same, among-append}
use Rattle.line.specs.Text.{text_from, read_text, split_text}
use Rattle.line_text.specs.Read.{plain_text, OneChar}
use Rattle.line_text.specs.Split.{PartEnds}
use Rattle.line_text.specs.declared.Char.{Char}
use Rattle.line_text.specs.declared.Char.TheVariants.{Byte, Bad, End}
use Rattle.line_text.proofs.Reading.{byte-good, bad-good, byte-plain, end-plain}
use Rattle.json_prints.specs.Prints.{stir, printed, Absent}
use Rattle.convert_values.specs.Values.{texts_of, Readable, first, value_at, Begin, Noting, Noted, later}
use Rattle.convert_values.proofs.Texts.{rest-good}

-- ---- the print of a text

printed-more : (p c : ℕ) (t : Bytes) → printed p (c ∷ t) ≡ printed (stir p c) t
unfolding printed
printed-more p c t = refl

printed-none : (p : ℕ) → printed p [] ≡ p
unfolding printed
printed-none p = refl

pub record Printing (u : Bytes) (p i : ℕ) : Type 0 where
  pub good : is_some (read_text (drop i u)) ≡ true
  pub below : p < 65536
  pub is : printed p (plain_text (drop i u)) ≡ printed 0 (plain_text u)

module _ {u : Bytes} {p i : ℕ} (h : Printing u p i) (x : Char) (o : OneChar (read_text (drop i u)) u i x) where
  pub print-on : (c e q : ℕ) → x ≡ Byte c e → q ≡ stir p c → q < 65536 → Printing u q e
  print-on c e q z s l = record {
    good = sym (byte-good u i x o c e z) ∙ h.good;
    below = l;
    is =
        ap (λ (y : ℕ). printed y (plain_text (drop e u))) s
        ∙ sym (ap (printed p) (byte-plain u i x o c e z h.good) ∙ printed-more p c (plain_text (drop e u)))
        ∙ h.is;
  }

  pub print-bad : {P : Type 0} → x ≡ Bad → P
  print-bad z = not-both h.good (bad-good u i x o z)

  pub print-end : x ≡ End → p ≡ printed 0 (plain_text u)
  print-end z = sym (ap (printed p) (end-plain u i x o z) ∙ printed-none p) ∙ h.is

-- ---- one value more

pub value-is : (o : Bytes) (i e : ℕ) → PartEnds 44 o i e → value_at o i ≡ plain_text (take (e - i) (drop i o))
unfolding value_at
value-is o i e p = ap (λ ts. first (map plain_text ts)) p.parts

among-more : (t x : Bytes) (xs : List Bytes) → among t (x ∷ xs) ≡ same t x || among t xs
unfolding among any
among-more t x xs = refl

among_one : (t x : Bytes) → among t (x ∷ []) ≡ same t x || false
unfolding among any
among_one t x = refl

-- nothing is filled, and an empty value stands for nothing
same-nothing : (t : Bytes) → empty t ≡ false → same t (plain_text []) ≡ false
unfolding same plain_text read_text text_from
same-nothing [] e = not-both refl e
same-nothing (c ∷ t) e = refl

regroup : (a b c : Bool) → (a || (b || false)) || c ≡ a || (b || c)
regroup true b c = refl
regroup false true c = refl
regroup false false c = refl

begin-more : (o : Bytes) (ps : List ℕ) (a : ℕ) → Begin o ps → a ≤ length o → Readable 44 (drop a o) → Begin o (ps ++ (a ∷ []))
begin-more o [] a b l g = (l, g, tt)
begin-more o (q ∷ ps) a b l g = (b.0, b.1, begin-more o ps a b.2 l g)

note-more : (o x : Bytes) (rest : List Bytes) (ps fs : List ℕ) (a q : ℕ) → Noting o (x ∷ rest) ps fs → a ≤ length o → Readable 44 (drop a o) → value_at o a ≡ x → q ≡ printed 0 x → Noting o rest (ps ++ (a ∷ [])) (fs ++ (q ∷ []))
note-more o x rest ps fs a q h l g v w = record {
  begin = begin-more o ps a h.begin l g;
  told = map-append (λ b. printed 0 (value_at o b)) ps (a ∷ []) ∙ ap₂ (λ (y z : List ℕ). y ++ z) h.told (ap (λ (y : ℕ). y ∷ []) (ap (printed 0) v ∙ sym w));
  are = λ t f.
      ap (λ ts. among t ts || among t rest) (map-append (value_at o) ps (a ∷ []))
      ∙ ap (λ b. b || among t rest) (among-append t (map (value_at o) ps) (value_at o a ∷ []) ∙ ap (λ b. among t (map (value_at o) ps) || b) (among_one t (value_at o a) ∙ ap (λ y. same t y || false) v))
      ∙ regroup (among t (map (value_at o) ps)) (same t x) (among t rest)
      ∙ ap (λ b. among t (map (value_at o) ps) || b) (sym (among-more t x rest))
      ∙ h.are t f;
}

-- an empty value is none of those to note
note-none : (o x : Bytes) (rest : List Bytes) (ps fs : List ℕ) → Noting o (x ∷ rest) ps fs → x ≡ plain_text [] → Noting o rest ps fs
note-none o x rest ps fs h v = record {
  begin = h.begin;
  told = h.told;
  are = λ t f. ap (λ b. among t (map (value_at o) ps) || b) (sym (among-more t x rest ∙ ap (λ b. b || among t rest) (ap (same t) v ∙ same-nothing t f))) ∙ h.are t f;
}

next-taken : (ps : List ℕ) (k q : ℕ) → k < length ps → take (k + 1) (set ps k q) ≡ take k ps ++ (q ∷ [])
next-taken ps k q l = ap (λ (i : ℕ). take i (set ps k q)) (add-one k) ∙ take-suc-set ps k q l

module _ (o : Bytes) (i e : ℕ) (p : PartEnds 44 o i e) (ps fs : List ℕ) (n : ℕ) (h : Noting o (texts_of 44 (drop i o)) (take n ps) (take n fs)) where
  abbrev x : Bytes
  x = plain_text (take (e - i) (drop i o))

  turn : Noting o (x ∷ later o e) (take n ps) (take n fs)
  turn = subst (λ ts. Noting o ts (take n ps) (take n fs)) (ap (map plain_text) p.parts) h

  pub noted-not : e ≤ i → Noting o (later o e) (take n ps) (take n fs)
  noted-not l = note-none o x (later o e) (take n ps) (take n fs) turn (let z : e - i ≡ 0 = omega arith in ap (λ (k : ℕ). plain_text (take k (drop i o))) z)

  pub noted_more : i ≤ length o → Readable 44 (drop i o) → n < length ps → n < length fs → (q : ℕ) → q ≡ printed 0 x → Noting o (later o e) (take (n + 1) (set ps n i)) (take (n + 1) (set fs n q))
  noted_more l g a b q w =
      subst (λ (y : List ℕ). Noting o (later o e) y (take (n + 1) (set fs n q))) (sym (next-taken ps n i a))
      (subst (λ (y : List ℕ). Noting o (later o e) (take n ps ++ (i ∷ [])) y) (sym (next-taken fs n q b)) (note-more o x (later o e) (take n ps) (take n fs) i q turn l g (value-is o i e p) w))

pub counted-on : (i e n : ℕ) → i < e → n + 1 ≡ pick (ltb i e) (n + 1) n
counted-on i e n l = ap (λ b. pick b (n + 1) n) (sym (lt-ltb i e l))

pub counted-off : (i e n : ℕ) → e ≤ i → n ≡ pick (ltb i e) (n + 1) n
counted-off i e n l = ap (λ b. pick b (n + 1) n) (sym (le-ltb i e l))

-- ---- the walk that notes them

-- the values before i are noted; each took two bytes at least
pub record Walking (o ps fs : Bytes) (n i : ℕ) : Type 0 where
  pub upto : i ≤ length o
  pub good : Readable 44 (drop i o)
  pub few : 2 * n ≤ i
  pub room : length o ≤ 2 * length ps
  pub level : length fs ≡ length ps
  pub noting : Noting o (texts_of 44 (drop i o)) (take n ps) (take n fs)

nothing-noted : (o : Bytes) (ps fs : List ℕ) → Noting o (texts_of 44 o) (take 0 ps) (take 0 fs)
unfolding among any
nothing-noted o ps fs = record { begin = tt; told = refl; are = λ t f. refl }

pub walk_start : (o ps fs : Bytes) → Readable 44 o → length o ≤ 2 * length ps → length fs ≡ length ps → Walking o ps fs 0 0
walk_start o ps fs g l m = record { upto = omega arith; good = g; few = omega arith; room = l; level = m; noting = nothing-noted o ps fs }

two-more : (i e n r : ℕ) → i ≤ e → r ≡ pick (ltb i e) (n + 1) n → 2 * n ≤ i → 2 * r ≤ e + 1
two-more i e n r l q f =
    by_bool (ltb i e)
    (λ b. let z : r ≡ n + 1 = q ∙ ap (λ y. pick y (n + 1) n) b in let w : i < e = ltb-true i e b in omega (arith, z, w, f))
    (λ b. let z : r ≡ n = q ∙ ap (λ y. pick y (n + 1) n) b in omega (arith, z, l, f))

module _ {o ps fs : Bytes} {n i : ℕ} (h : Walking o ps fs n i) (e : ℕ) (p : PartEnds 44 o i e) where
  pub walk-room : i < e → (n < length ps) × (n < length fs)
  walk-room l =
      let w : e ≤ length o = p.within h.upto in
      let a : n < length ps = omega (arith, l, w, h.few, h.room) in (a, omega (arith, a, h.level))

  module _ (r : ℕ) (q : r ≡ pick (ltb i e) (n + 1) n) (ps' fs' : Bytes) (a : length ps' ≡ length ps) (b : length fs' ≡ length fs) (m : Noting o (later o e) (take r ps') (take r fs')) where
    pub walk_rows : r ≤ length ps'
    walk_rows = omega (arith, two-more i e n r p.from q h.few, p.within h.upto, h.room, a)

    pub walk_end : length o ≤ e → Noted o (take r ps') (take r fs')
    walk_end l = subst (λ ts. Noting o ts (take r ps') (take r fs')) (ap (λ y. map plain_text (pick y (split_text 44 (drop (e + 1) o)) [])) (le-ltb e (length o) l)) m

    pub walk-on : e < length o → Walking o ps' fs' r (e + 1)
    walk-on l = record {
      upto = omega (arith, l);
      good = rest-good 44 o i e p h.good l;
      few = two-more i e n r p.from q h.few;
      room = omega (arith, h.room, a);
      level = omega (arith, h.level, a, b);
      noting = subst (λ ts. Noting o ts (take r ps') (take r fs')) (ap (λ y. map plain_text (pick y (split_text 44 (drop (e + 1) o)) [])) (lt-ltb e (length o) l)) m;
    }

-- ---- one sought among those noted

rows_same : (f : ℕ → ℕ) (ps fs : List ℕ) → map f ps ≡ fs → length fs ≡ length ps
rows_same f [] fs e = ap length (sym e)
rows_same f (a ∷ ps) fs e = ap length (sym e) ∙ ap suc (rows_same f ps (map f ps) refl)

map_at : (f : ℕ → ℕ) (ps : List ℕ) (k : ℕ) → k < length ps → get_or (map f ps) k 0 ≡ f (get_or ps k 0)
map_at f [] k h = absurd (omega (arith, h))
map_at f (a ∷ ps) zero h = refl
map_at f (a ∷ ps) (suc k) h = map_at f ps k (omega (arith, h))

begin-at : (o : Bytes) (ps : List ℕ) (k : ℕ) → Begin o ps → k < length ps → (get_or ps k 0 ≤ length o) × Readable 44 (drop (get_or ps k 0) o)
begin-at o [] k b h = absurd (omega (arith, h))
begin-at o (a ∷ ps) zero b h = (b.0, b.1)
begin-at o (a ∷ ps) (suc k) b h = begin-at o ps k b.2 (omega (arith, h))

or-true : (a : Bool) → a || true ≡ true
or-true true = refl
or-true false = refl

among-at : (o t : Bytes) (ps : List ℕ) (k : ℕ) → k < length ps → same t (value_at o (get_or ps k 0)) ≡ true → among t (map (value_at o) ps) ≡ true
unfolding among any
among-at o t [] k h e = absurd (omega (arith, h))
among-at o t (a ∷ ps) zero h e = rw e
among-at o t (a ∷ ps) (suc k) h e = rw (among-at o t ps k (omega (arith, h)) e) (or-true (same t (value_at o a)))

among-nowhere : (o t : Bytes) (ps : List ℕ) → ((k : ℕ) → k < length ps → same t (value_at o (get_or ps k 0)) ≡ false) → among t (map (value_at o) ps) ≡ false
unfolding among any
among-nowhere o t [] h = refl
among-nowhere o t (a ∷ ps) h = rw (h 0 (omega arith), among-nowhere o t ps (λ k g. h (suc k) (omega (arith, g))))

-- a row compared by its bytes, from the place that is noted in it
pub row_same : (o t : Bytes) (ps : List ℕ) (k a e : ℕ) → a ≡ get_or ps k 0 → PartEnds 44 o a e → (b : Bool) → b ≡ same t (plain_text (take (e - a) (drop a o))) → same t (value_at o (get_or ps k 0)) ≡ b
row_same o t ps k a e w p b q = ap (λ (y : ℕ). same t (value_at o y)) (sym w) ∙ ap (same t) (value-is o a e p) ∙ sym q

-- the values before row k differ from t
abbrev pub Clear : Bytes → Bytes → List ℕ → ℕ → Type 0
Clear t o ps k = (j : ℕ) → j < k → same t (value_at o (get_or ps j 0)) ≡ false

pub clear_none : (t o : Bytes) (ps : List ℕ) → Clear t o ps 0
clear_none t o ps j m = absurd (omega (arith, m))

or-none : (a : Bool) (t : Bytes) → a || among t [] ≡ a
unfolding among any
or-none true t = refl
or-none false t = refl

module _ {o : Bytes} {ps fs : List ℕ} (h : Noted o ps fs) where
  pub level : length fs ≡ length ps
  level = rows_same (λ a. printed 0 (value_at o a)) ps fs h.told

  pub row-good : (k a : ℕ) → k < length fs → a ≡ get_or ps k 0 → (a ≤ length o) × Readable 44 (drop a o)
  row-good k a l e = subst (λ (y : ℕ). (y ≤ length o) × Readable 44 (drop y o)) (sym e) (begin-at o ps k h.begin (omega (arith, l, level)))

  pub row-part : (k a e : ℕ) → k < length fs → a ≡ get_or ps k 0 → PartEnds 44 o a e → (a ≤ e) × (e ≤ length o)
  row-part k a e l w p = (p.from, p.within (row-good k a l w).0)

  told_at : (k : ℕ) → k < length ps → get_or fs k 0 ≡ printed 0 (value_at o (get_or ps k 0))
  told_at k l = ap (λ (l : List ℕ). get_or l k 0) (sym h.told) ∙ map_at (λ a. printed 0 (value_at o a)) ps k l

  module _ (t : Bytes) where
    pub clear-to : (p from to : ℕ) → p ≡ printed 0 t → to ≤ length fs → Absent fs p from to false → Clear t o ps from → Clear t o ps to
    clear-to p from to e l a c j m =
        by_bool (ltb j from)
        (λ z. c j (ltb-true j from z))
        (λ z. differ_same t (value_at o (get_or ps j 0)) (λ q. a j (ltb-false j from z) m (told_at j (omega (arith, l, m, level)) ∙ ap (printed 0) (sym q) ∙ sym e)))

    pub clear-more : (k : ℕ) → Clear t o ps k → same t (value_at o (get_or ps k 0)) ≡ false → Clear t o ps (k + 1)
    clear-more k c e j m =
        let w : (j ≡ k) ⊎ (j < k) = eq-or-lt_of_le (omega (arith, m)) in
        ⊎_elim (λ z. ap (λ (y : ℕ). same t (value_at o (get_or ps y 0))) z ∙ e) (λ z. c j z) w

    pub found-row : (k : ℕ) → k < length fs → same t (value_at o (get_or ps k 0)) ≡ true → empty t ≡ false → true ≡ among t (texts_of 44 o)
    found-row k l e f = sym (among-at o t ps k (omega (arith, l, level)) e) ∙ sym (or-none (among t (map (value_at o) ps)) t) ∙ h.are t f

    pub found_none : (k : ℕ) → length fs ≤ k → Clear t o ps k → empty t ≡ false → false ≡ among t (texts_of 44 o)
    found_none k l c f = sym (among-nowhere o t ps (λ j m. c j (omega (arith, l, m, level)))) ∙ sym (or-none (among t (map (value_at o) ps)) t) ∙ h.are t f
