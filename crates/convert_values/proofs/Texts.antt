-- TEXT values compared as they read, and one part after the other.
use mathlib.Core.Path.{◌≡◌, refl, sym, ap, ◌∙◌}
use mathlib.Core.Bool.{Bool, true, false, ◌&&◌, ◌||◌}
use mathlib.Core.List.{List, [], ◌∷◌, map}
use mathlib.Core.Option.{Option, none, some}
use Prim.Native.Nat.{ℕ, ◌+◌, ◌-◌, ◌≤◌, ◌<◌}
use native.Mathlib.Omega.{arith}
use lib.Dec.{eqb, ltb, leb}
use lib.ListN.{length, take, drop, length-drop, drop_of_length-le}
use borrow.Author.Tests.{eq-eqb, eqb-true, lt-ltb, le-ltb, ltb-true, ltb-false}
use Rattle.text.specs.Choice.{pick, is_some, both, with-some}
use Rattle.text.specs.Bytes.{Bytes, empty, same, among, any, each}
use Rattle.text.proofs.Cases.{by_bool, tests}
use Rattle.text.proofs.Choices.{both-inv, some_same}
use Rattle.line.specs.Text.{push, escaped, text_from, read_text, split_from, split_text}
use Rattle.line_text.specs.Read.{plain_text, OneChar}
use Rattle.line_text.specs.Split.{PartEnds}
use Rattle.line_text.specs.declared.Char.{Char}
use Rattle.line_text.specs.declared.Char.TheVariants.{Byte, Bad, End}
use Rattle.line_text.proofs.Reading.{onward, byte-good, bad-good, byte-plain, end-plain}
use Rattle.convert_values.specs.Values.{texts_of, Readable, NextIs}

never : {P : Type 0} → false ≡ true → P
never e = absurd (let z : ◌≡◌ {A = ℕ} 0 1 = cc in omega arith)

-- ---- what is read of a filled TEXT is filled

pub length-empty : (v : Bytes) → length v ≡ 0 → empty v ≡ true
length-empty [] e = refl
length-empty (c ∷ v) e = absurd (omega (arith, e))

pub length-filled : (v : Bytes) → (length v ≡ 0 → ⊥) → empty v ≡ false
length-filled [] n = absurd (n refl)
length-filled (c ∷ v) n = refl

ended : (s : Bytes) (j : ℕ) → leb (length s) j ≡ empty (drop j s)
ended s j =
    by_bool (leb (length s) j)
    (λ b. let h : length s ≤ j = omega (tests, b) in b ∙ sym (ap empty (drop_of_length-le s h)))
    (λ b. let h : j < length s = omega (tests, b) in b ∙ sym (length-filled (drop j s) (λ z. omega (arith, length-drop j s))))

pushed-filled : (c : ℕ) (o : Option Bytes) → is_some (push c o) ≡ true → with-some (push c o) empty true ≡ false
pushed-filled c none e = never e
pushed-filled c (some t) e = refl

escaped-filled : (c : ℕ) (o : Option Bytes) → is_some (escaped c o) ≡ true → with-some (escaped c o) empty true ≡ false
unfolding escaped
escaped-filled c o e =
    by_bool (eqb c 92 || eqb c 44 || eqb c 59)
    (λ b. rw b (pushed-filled c o (rw b at e)))
    (λ b. by_bool (eqb c 110 || eqb c 78) (λ d. rw (b, d) (pushed-filled 10 o (rw (b, d) at e))) (λ d. never (rw (b, d) at e)))

read-filled : (c : ℕ) (s : Bytes) → is_some (read_text (c ∷ s)) ≡ true → with-some (read_text (c ∷ s)) empty true ≡ false
unfolding read_text text_from
read-filled c s e = by_bool (eqb c 92) (λ b. rw b (after-backslash s (rw b at e))) (λ b. rw b (pushed-filled c (text_from false s) (rw b at e)))
  where
    after-backslash : (s : Bytes) → is_some (text_from true s) ≡ true → with-some (text_from true s) empty true ≡ false
    after-backslash [] e = never e
    after-backslash (d ∷ s) e = escaped-filled d (text_from false s) e

plain_of : (o : Option Bytes) → is_some o ≡ true → empty (with-some o (λ t. t) []) ≡ with-some o empty true
plain_of none e = never e
plain_of (some t) e = refl

nothing : empty (plain_text []) ≡ true
unfolding plain_text read_text text_from
nothing = refl

pub plain-empty : (v : Bytes) → is_some (read_text v) ≡ true → empty (plain_text v) ≡ empty v
unfolding plain_text
plain-empty [] e = nothing
plain-empty (c ∷ s) e = plain_of (read_text (c ∷ s)) e ∙ read-filled c s e

-- ---- one character of the other text

pub picked-on : (b : Bool) (e : ℕ) → b ≡ true → e ≡ pick b e 0
picked-on b e q = rw q

pub picked-off : (b : Bool) (e : ℕ) → b ≡ false → 0 ≡ pick b e 0
picked-off b e q = rw q

same_more : (c d : ℕ) (x y : Bytes) → same (c ∷ x) (d ∷ y) ≡ eqb c d && same x y
unfolding same
same_more c d x y = refl

same_none : (c : ℕ) (x : Bytes) → same (c ∷ x) [] ≡ false
unfolding same
same_none c x = refl

pub next-byte : (s : Bytes) (at c d e r : ℕ) (x : Char) → OneChar (read_text (drop at s)) s at x → is_some (read_text (drop at s)) ≡ true → x ≡ Byte d e → r ≡ pick (eqb c d) e 0 → NextIs s at c r
next-byte s at c d e r x o g is q =
    let p : plain_text (drop at s) ≡ d ∷ plain_text (drop e s) = byte-plain s at x o d e is g in
    let l : at < e = (onward s at x o d e is).0 in
    by_bool (eqb c d)
    (λ b. record {
      hit = λ n. (p ∙ ap (λ y. y ∷ plain_text (drop e s)) (sym (equal b)) ∙ ap (λ i. c ∷ plain_text (drop i s)) (sym (q ∙ ap (λ z. pick z e 0) b)), ap (λ i. is_some (read_text (drop i s))) (q ∙ ap (λ z. pick z e 0) b) ∙ sym (byte-good s at x o d e is) ∙ g);
      miss = λ z. absurd (let w : e ≡ 0 = sym (q ∙ ap (λ z. pick z e 0) b) ∙ z in omega arith);
    })
    (λ b. record {
      hit = λ n. absurd (n (q ∙ ap (λ z. pick z e 0) b));
      miss = λ z y. ap (same (c ∷ y)) p ∙ same_more c d y (plain_text (drop e s)) ∙ ap (λ h. h && same y (plain_text (drop e s))) b;
    })
  where
    equal : eqb c d ≡ true → c ≡ d
    equal b = eqb-true c d b

pub next-end : (s : Bytes) (at c : ℕ) (x : Char) → OneChar (read_text (drop at s)) s at x → x ≡ End → NextIs s at c 0
next-end s at c x o is = record { hit = λ n. absurd (n refl); miss = λ z y. ap (same (c ∷ y)) (end-plain s at x o is) ∙ same_none c y }

pub next-bad : (s : Bytes) (at c : ℕ) (x : Char) → OneChar (read_text (drop at s)) s at x → is_some (read_text (drop at s)) ≡ true → x ≡ Bad → NextIs s at c 0
next-bad s at c x o g is = never (sym (bad-good s at x o is) ∙ g)

-- ---- two texts

pub record Comparing (a b : Bytes) (i j : ℕ) : Type 0 where
  pub upto : i ≤ length a
  pub first : is_some (read_text (drop i a)) ≡ true
  pub other : is_some (read_text (drop j b)) ≡ true
  pub is : same (plain_text (drop i a)) (plain_text (drop j b)) ≡ same (plain_text a) (plain_text b)

module _ {a b : Bytes} {i j : ℕ} (h : Comparing a b i j) (x : Char) (o : OneChar (read_text (drop i a)) a i x) where
  pub compare-on : (c e f : ℕ) → x ≡ Byte c e → NextIs b j c f → (f ≡ 0 → ⊥) → Comparing a b e f
  compare-on c e f q n z = record {
    upto = (onward a i x o c e q).1;
    first = sym (byte-good a i x o c e q) ∙ h.first;
    other = (n.hit z).1;
    is =
        ap (λ y. y && same (plain_text (drop e a)) (plain_text (drop f b))) (sym (eq-eqb c c refl))
        ∙ sym (ap (λ y. same y (plain_text (drop j b))) (byte-plain a i x o c e q h.first) ∙ ap (same (c ∷ plain_text (drop e a))) (n.hit z).0 ∙ same_more c c (plain_text (drop e a)) (plain_text (drop f b)))
        ∙ h.is;
  }

  pub compare-no : (c e f : ℕ) → x ≡ Byte c e → NextIs b j c f → f ≡ 0 → false ≡ same (plain_text a) (plain_text b)
  compare-no c e f q n z = sym (n.miss z (plain_text (drop e a))) ∙ sym (ap (λ y. same y (plain_text (drop j b))) (byte-plain a i x o c e q h.first)) ∙ h.is

  pub compare-bad : {P : Type 0} → x ≡ Bad → P
  compare-bad q = never (sym (bad-good a i x o q) ∙ h.first)

  none-same : (t : Bytes) → same [] t ≡ empty t
  unfolding same
  none-same [] = refl
  none-same (c ∷ t) = refl

  pub compare-end : x ≡ End → leb (length b) j ≡ same (plain_text a) (plain_text b)
  compare-end q =
      ended b j
      ∙ sym (plain-empty (drop j b) h.other)
      ∙ sym (none-same (plain_text (drop j b)))
      ∙ ap (λ y. same y (plain_text (drop j b))) (sym (end-plain a i x o q))
      ∙ h.is

-- ---- parts

each-head : (u : Bytes) (us : List Bytes) → is_some (each read_text (u ∷ us)) ≡ true → (is_some (read_text u) ≡ true) × (is_some (each read_text us) ≡ true)
unfolding each
each-head u us e = of (read_text u) (each read_text us) e
  where
    of : (x : Option Bytes) (y : Option (List Bytes)) → is_some (both ◌∷◌ x y) ≡ true → (is_some x ≡ true) × (is_some y ≡ true)
    of (some a) (some b) e = (refl, refl)
    of (some a) none e = (refl, e)
    of none y e = (e, never e)

module _ (d : ℕ) (v : Bytes) (i e : ℕ) (p : PartEnds d v i e) (good : Readable d (drop i v)) where
  abbrev u : Bytes
  u = take (e - i) (drop i v)

  pub part-good : is_some (read_text u) ≡ true
  part-good = (each-head u (pick (ltb e (length v)) (split_text d (drop (e + 1) v)) []) (ap (λ us. is_some (each read_text us)) (sym p.parts) ∙ good)).0

  pub rest-good : e < length v → Readable d (drop (e + 1) v)
  rest-good l =
      ap (λ b. is_some (each read_text (pick b (split_text d (drop (e + 1) v)) []))) (sym (lt-ltb e (length v) l))
      ∙ (each-head u (pick (ltb e (length v)) (split_text d (drop (e + 1) v)) []) (ap (λ us. is_some (each read_text us)) (sym p.parts) ∙ good)).1

  pub texts-on : e < length v → texts_of d (drop i v) ≡ plain_text u ∷ texts_of d (drop (e + 1) v)
  texts-on l = ap (map plain_text) p.parts ∙ ap (λ b. plain_text u ∷ map plain_text (pick b (split_text d (drop (e + 1) v)) [])) (lt-ltb e (length v) l)

  pub texts-last : length v ≤ e → texts_of d (drop i v) ≡ plain_text u ∷ []
  texts-last l = ap (map plain_text) p.parts ∙ ap (λ b. plain_text u ∷ map plain_text (pick b (split_text d (drop (e + 1) v)) [])) (le-ltb e (length v) l)

-- ---- among the values of another

among-more : (t x : Bytes) (xs : List Bytes) → among t (x ∷ xs) ≡ same t x || among t xs
unfolding among any
among-more t x xs = refl

among_none : (t : Bytes) → among t [] ≡ false
unfolding among any
among_none t = refl

pub record Seeking (t o : Bytes) (i : ℕ) : Type 0 where
  pub upto : i ≤ length o
  pub good : Readable 44 (drop i o)
  pub is : among t (texts_of 44 (drop i o)) ≡ among t (texts_of 44 o)

module _ (t o : Bytes) (i e : ℕ) (h : Seeking t o i) (p : PartEnds 44 o i e) (b : Bool) (q : b ≡ same t (plain_text (take (e - i) (drop i o)))) where
  pub seek_found : b ≡ true → true ≡ among t (texts_of 44 o)
  seek_found z =
      let w : same t (plain_text (take (e - i) (drop i o))) ≡ true = sym q ∙ z in
      by_bool (ltb e (length o))
      (λ l. sym (ap (among t) (texts-on 44 o i e p h.good (ltb-true e (length o) l)) ∙ among-more t _ _ ∙ ap (λ y. y || among t (texts_of 44 (drop (e + 1) o))) w) ∙ h.is)
      (λ l. sym (ap (among t) (texts-last 44 o i e p h.good (ltb-false e (length o) l)) ∙ among-more t _ _ ∙ ap (λ y. y || among t []) w) ∙ h.is)

  pub seek-on : b ≡ false → e < length o → Seeking t o (e + 1)
  seek-on z l = record {
    upto = omega arith;
    good = rest-good 44 o i e p h.good l;
    is = sym (ap (among t) (texts-on 44 o i e p h.good l) ∙ among-more t _ _ ∙ ap (λ y. y || among t (texts_of 44 (drop (e + 1) o))) (sym q ∙ z)) ∙ h.is;
  }

  pub seek-none : b ≡ false → length o ≤ e → false ≡ among t (texts_of 44 o)
  seek-none z l = sym (ap (among t) (texts-last 44 o i e p h.good l) ∙ among-more t _ _ ∙ ap (λ y. y || among t []) (sym q ∙ z) ∙ among_none t) ∙ h.is

-- ---- parts as they read

pub plain-is : (u t : Bytes) → read_text u ≡ some t → plain_text u ≡ t
unfolding plain_text
plain-is u t e = rw e

pub each-plain : (us ts : List Bytes) → each read_text us ≡ some ts → map plain_text us ≡ ts
unfolding each
each-plain [] ts e = some_same e
each-plain (u ∷ us) ts e =
    let q = both-inv ◌∷◌ (read_text u) (each read_text us) e in
    ap (λ x. x ∷ map plain_text us) (plain-is u q.0 q.2) ∙ ap (λ l. q.0 ∷ l) (each-plain us q.1 q.3) ∙ q.4

pub nothing-readable : Readable 44 []
unfolding each split_text split_from read_text text_from
nothing-readable = refl
