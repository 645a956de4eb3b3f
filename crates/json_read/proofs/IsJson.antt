-- The reader's tests of surrogates and names are those that `IsJson` words.
use mathlib.Core.Path.{◌≡◌, refl, sym, ap, subst, ◌∙◌}
use mathlib.Core.Bool.{true, false, ◌&&◌}
use mathlib.Core.List.{List, [], ◌∷◌, ◌++◌}
use mathlib.Core.Option.{Option, none, some, map}
use Prim.Native.Nat.{ℕ, suc, ◌+◌, ◌-◌, ◌≤◌}
use borrow.Author.Tests.{ltb-true, ltb-false, leb-true, leb-false, le-ltb}
use native.Mathlib.Omega.{arith}
use lib.Dec.{ltb, leb}
use lib.ListN.{length}
use Rattle.text.specs.Choice.{pick, both, with-some}
use Rattle.text.specs.Bytes.{Bytes, between, same, any, among, distinct, all}
use Rattle.text.specs.Utf8.{encode}
use Rattle.text.specs.Reader.{Got, got, bad}
use Rattle.text.proofs.Cases.{by_bool, and_left, and_right, and-true, not-both, between-true, below, testing}
use Rattle.text.proofs.Choices.{none-some, some_same, map-inv, both-inv}
use Rattle.text.proofs.Same.{same_self, same_true}
use Rattle.text.proofs.Characters.{is_byte}
use Rattle.json_text.specs.Tree.{Json, jnull, jtrue, jfalse, jnum, jstr, jarr, jobj, Elems, enil, econs, Members, mnil, mcons}
use Rattle.json_text.specs.Syntax.{text}
use Rattle.json_text.specs.Strings.{is_high, is_low, before, joined_pair, decode_after, decode, decoded, decoded_elems, decoded_members, names, distinct_names, distinct_elems, distinct_members}
use Rattle.json_text.specs.Read.{tree, refused, sound, reading_of, reading}
use Rattle.json_text.specs.Lookup.{is_tree}
use Rattle.json_grammar.proofs.Accepted.{accepts-bytes}
use Rattle.json_read.specs.IsJson.{high_unit, low_unit, Paired, no-unit, one_unit, one-pair, AllPaired, PairedElems, PairedMembers, Repeats, NoRepeats, NoRepeatsElems, NoRepeatsMembers, IsJson}

-- ---- units

before-inv : (p : Bytes) (o : Option Bytes) {x : Bytes} → before p o ≡ some x → (y : Bytes) × (o ≡ some y)
before-inv p none e = none-some e
before-inv p (some y) e = (y, refl)

byte-plain : (u : ℕ) → ltb u 256 ≡ true → (high_unit u ≡ false) × (low_unit u ≡ false)
byte-plain u h = let l = ltb-true u 256 h in (below _ _ u (omega arith), below _ _ u (omega arith))

-- units of \uXXXX, by what they stand for
module _ (u : ℕ) (h : 256 ≤ u) where
  shift-low : (lo : ℕ) → leb lo (u - 256) ≡ leb (lo + 256) u
  shift-low lo = by_bool (leb lo (u - 256)) (λ a. a ∙ sym (let b = leb-true lo (u - 256) a in omega testing)) (λ a. a ∙ sym (let b = leb-false lo (u - 256) a in omega testing))

  shift-high : (hi : ℕ) → leb (u - 256) hi ≡ leb u (hi + 256)
  shift-high hi = by_bool (leb (u - 256) hi) (λ a. a ∙ sym (let b = leb-true (u - 256) hi a in omega testing)) (λ a. a ∙ sym (let b = leb-false (u - 256) hi a in omega testing))

  high_is : is_high (u - 256) ≡ high_unit u
  unfolding between
  high_is = rw (shift-low 0xd800, shift-high 0xdbff)

  low-is : is_low (u - 256) ≡ low_unit u
  unfolding between
  low-is = rw (shift-low 0xdc00, shift-high 0xdfff)

-- a low surrogate is no byte
low-test : (u : ℕ) → (ltb 255 u && is_low (u - 256)) ≡ low_unit u
low-test u =
    by_bool (ltb 255 u) (λ e. rw e (low-is u (let l = ltb-true 255 u e in omega arith)))
    (λ e. rw e (sym (below _ _ u (let l = ltb-false 255 u e in omega arith))))

high-suc : (u : ℕ) → high_unit u ≡ true → u - 256 ≡ suc (u - 257)
high-suc u e = let b = between-true _ _ u e in omega (arith, b.0)

high-wide : (u : ℕ) → high_unit u ≡ true → ltb u 256 ≡ false
high-wide u e = let b = between-true _ _ u e in le-ltb u 256 (omega (arith, b.0))

high-no-low : (u : ℕ) → high_unit u ≡ true → 256 ≤ u
high-no-low u e = let b = between-true _ _ u e in omega (arith, b.0)

-- what stands for bytes has no surrogate alone
from-decode : (us : Bytes) {x : Bytes} → decode_after 0 us ≡ some x → Paired us
unfolding decode_after
from-decode [] e = no-unit
from-decode (u ∷ []) e =
    by_bool (ltb u 256) (λ b. let p = byte-plain u b in one_unit p.0 p.1 no-unit)
    (λ b. let w : 256 ≤ u = ltb-false u 256 b in
    by_bool (high_unit u) (λ h. none-some (rw (b, high_is u w, h, high-suc u h) at e))
    (λ h. by_bool (low_unit u) (λ l. none-some (rw (b, high_is u w, h, low-is u w, l) at e)) (λ l. one_unit h l no-unit)))
from-decode (u ∷ (v ∷ us)) e =
    by_bool (ltb u 256)
    (λ b. let p = byte-plain u b in let i = before-inv (u ∷ []) (decode_after 0 (v ∷ us)) (rw b at e) in one_unit p.0 p.1 (from-decode (v ∷ us) i.1))
    (λ b. let w : 256 ≤ u = ltb-false u 256 b in
    by_bool (high_unit u)
    (λ h. by_bool (low_unit v)
    (λ l. let i = before-inv _ (decode_after 0 us) (rw (b, high_is u w, h, high-suc u h, low-test v, l) at e) in one-pair h l (from-decode us i.1))
    (λ l. none-some (rw (b, high_is u w, h, high-suc u h, low-test v, l) at e)))
    (λ h. by_bool (low_unit u) (λ l. none-some (rw (b, high_is u w, h, low-is u w, l) at e))
    (λ l. let i = before-inv _ (decode_after 0 (v ∷ us)) (rw (b, high_is u w, h, low-is u w, l) at e) in one_unit h l (from-decode (v ∷ us) i.1))))

-- and the other way round
given-before : (p : Bytes) (o : Option Bytes) → (y : Bytes) × (o ≡ some y) → (x : Bytes) × (before p o ≡ some x)
given-before p o i = (p ++ i.0, ap (before p) i.1)

to-decode : {us : Bytes} → Paired us → (x : Bytes) × (decode_after 0 us ≡ some x)
unfolding decode_after
to-decode no-unit = ([], refl)
to-decode (one_unit {u = u} {us = us} h l p) =
    by_bool (ltb u 256) (λ b. rw b (given-before (u ∷ []) (decode_after 0 us) (to-decode p)))
    (λ b. let w : 256 ≤ u = ltb-false u 256 b in rw (b, high_is u w, h, low-is u w, l) (given-before (encode (u - 256)) (decode_after 0 us) (to-decode p)))
to-decode (one-pair {h = u} {l = v} {us = us} h l p) =
    rw (high-wide u h, high_is u (high-no-low u h), h, high-suc u h, low-test v, l)
    (given-before (encode (joined_pair (suc (u - 257)) (v - 256))) (decode_after 0 us) (to-decode p))

-- ---- the strings of a tree

mutual
  unfolding decoded AllPaired decode

  pub decoded-paired : (j : Json) {k : Json} → decoded j ≡ some k → AllPaired j
  decoded-paired jnull e = tt
  decoded-paired jtrue e = tt
  decoded-paired jfalse e = tt
  decoded-paired (jnum x) e = tt
  decoded-paired (jstr us) e = from-decode us (map-inv jstr (decode us) e).1
  decoded-paired (jarr es) e = elems-paired es (map-inv jarr (decoded_elems es) e).1
  decoded-paired (jobj ms) e = members-paired ms (map-inv jobj (decoded_members ms) e).1

  elems-paired : (es : Elems) {fs : Elems} → decoded_elems es ≡ some fs → PairedElems es
  elems-paired enil e = tt
  elems-paired (econs j es) e = let i = both-inv econs (decoded j) (decoded_elems es) e in (decoded-paired j i.2, elems-paired es i.3)

  members-paired : (ms : Members) {ns : Members} → decoded_members ms ≡ some ns → PairedMembers ms
  members-paired mnil e = tt
  members-paired (mcons k j ms) e =
      let i = both-inv (λ (f : Members → Members) rest. f rest) (both (λ n v rest. mcons n v rest) (decode k) (decoded j)) (decoded_members ms) e in
      let l = both-inv (λ n v rest. mcons n v rest) (decode k) (decoded j) i.2 in
      (from-decode k l.2, decoded-paired j l.3, members-paired ms i.3)

mutual
  unfolding decoded AllPaired decode

  pub paired-decoded : (j : Json) → AllPaired j → (k : Json) × (decoded j ≡ some k)
  paired-decoded jnull h = (jnull, refl)
  paired-decoded jtrue h = (jtrue, refl)
  paired-decoded jfalse h = (jfalse, refl)
  paired-decoded (jnum x) h = (jnum x, refl)
  paired-decoded (jstr us) h = let i = to-decode h in (jstr i.0, ap (map jstr) i.1)
  paired-decoded (jarr es) h = let i = elems-decoded es h in (jarr i.0, ap (map jarr) i.1)
  paired-decoded (jobj ms) h = let i = members-decoded ms h in (jobj i.0, ap (map jobj) i.1)

  elems-decoded : (es : Elems) → PairedElems es → (fs : Elems) × (decoded_elems es ≡ some fs)
  elems-decoded enil h = (enil, refl)
  elems-decoded (econs j es) h = let i = paired-decoded j h.0 in let l = elems-decoded es h.1 in (econs i.0 l.0, rw (i.1, l.1))

  members-decoded : (ms : Members) → PairedMembers ms → (ns : Members) × (decoded_members ms ≡ some ns)
  members-decoded mnil h = (mnil, refl)
  members-decoded (mcons k j ms) h =
      let n = to-decode h.0 in let i = paired-decoded j h.1 in let l = members-decoded ms h.2 in
      (mcons n.0 i.0 l.0, rw (n.1, i.1, l.1))

-- ---- names

among-mid : (n : Bytes) (b c : List Bytes) → among n (b ++ n ∷ c) ≡ true
unfolding among any
among-mid n [] c = rw (same_self n)
among-mid n (x ∷ b) c = by_bool (same n x) (λ e. rw e) (λ e. rw e (among-mid n b c))

among-split : (n : Bytes) (ns : List Bytes) → among n ns ≡ true → (b : List Bytes) × (c : List Bytes) × (ns ≡ b ++ n ∷ c)
unfolding among any
among-split n [] e = not-both e refl
among-split n (x ∷ ns) e =
    by_bool (same n x) (λ t. ([], ns, ap (λ (y : Bytes). y ∷ ns) (sym (same_true n x t))))
    (λ t. let i = among-split n ns (rw t at e) in (x ∷ i.0, i.1, ap (λ (l : List Bytes). x ∷ l) i.2))

repeated : (a b c : List Bytes) (n : Bytes) → distinct (a ++ n ∷ (b ++ n ∷ c)) ≡ false
unfolding distinct
repeated [] b c n = rw (among-mid n b c)
repeated (x ∷ a) b c n = by_bool (among x (a ++ n ∷ (b ++ n ∷ c))) (λ e. rw e) (λ e. rw e (repeated a b c n))

no-repeats : (ns : List Bytes) → distinct ns ≡ true → Repeats ns → ⊥
no-repeats ns e r = not-both e (ap distinct r.4 ∙ repeated r.1 r.2 r.3 r.0)

repeats : (ns : List Bytes) → distinct ns ≡ false → Repeats ns
unfolding distinct
repeats [] e = not-both refl e
repeats (n ∷ ns) e =
    by_bool (among n ns) (λ a. let i = among-split n ns a in (n, [], i.0, i.1, ap (λ (l : List Bytes). n ∷ l) i.2))
    (λ a. let i = repeats ns (rw a at e) in (i.0, n ∷ i.1, i.2, i.3, ap (λ (l : List Bytes). n ∷ l) i.4))

distinct_none : (ns : List Bytes) → (Repeats ns → ⊥) → distinct ns ≡ true
distinct_none ns h = by_bool (distinct ns) (λ e. e) (λ e. absurd (h (repeats ns e)))

mutual
  unfolding distinct_names NoRepeats

  names-no-repeats : (k : Json) → distinct_names k ≡ true → NoRepeats k
  names-no-repeats jnull e = tt
  names-no-repeats jtrue e = tt
  names-no-repeats jfalse e = tt
  names-no-repeats (jnum x) e = tt
  names-no-repeats (jstr s) e = tt
  names-no-repeats (jarr es) e = elems-no-repeats es e
  names-no-repeats (jobj ms) e = (no-repeats (names ms) (and_left (distinct (names ms)) _ e), members-no-repeats ms (and_right (distinct (names ms)) _ e))

  elems-no-repeats : (es : Elems) → distinct_elems es ≡ true → NoRepeatsElems es
  elems-no-repeats enil e = tt
  elems-no-repeats (econs j es) e = (names-no-repeats j (and_left (distinct_names j) _ e), elems-no-repeats es (and_right (distinct_names j) _ e))

  members-no-repeats : (ms : Members) → distinct_members ms ≡ true → NoRepeatsMembers ms
  members-no-repeats mnil e = tt
  members-no-repeats (mcons k j ms) e = (names-no-repeats j (and_left (distinct_names j) _ e), members-no-repeats ms (and_right (distinct_names j) _ e))

mutual
  unfolding distinct_names NoRepeats

  names-distinct : (k : Json) → NoRepeats k → distinct_names k ≡ true
  names-distinct jnull h = refl
  names-distinct jtrue h = refl
  names-distinct jfalse h = refl
  names-distinct (jnum x) h = refl
  names-distinct (jstr s) h = refl
  names-distinct (jarr es) h = elems-distinct es h
  names-distinct (jobj ms) h = and-true (distinct_none (names ms) h.0) (members-distinct ms h.1)

  elems-distinct : (es : Elems) → NoRepeatsElems es → distinct_elems es ≡ true
  elems-distinct enil h = refl
  elems-distinct (econs j es) h = and-true (names-distinct j h.0) (elems-distinct es h.1)

  members-distinct : (ms : Members) → NoRepeatsMembers ms → distinct_members ms ≡ true
  members-distinct mnil h = refl
  members-distinct (mcons k j ms) h = and-true (names-distinct j h.0) (members-distinct ms h.1)

-- ---- a text

module _ (d : ℕ) (s : Bytes) where
  pub tree-json : all is_byte s ≡ true → is_tree (reading d s) ≡ true → IsJson d s
  unfolding reading sound
  tree-json h e = by (text d s) refl e
    where
      judged : (j : Json) (t : Bytes) → text d s ≡ got j t → (o : Option Json) → decoded j ≡ o
          → is_tree (with-some o (λ k. pick (distinct_names k) (tree k) (refused 0)) (refused 0)) ≡ true → IsJson d s
      judged j t q none f e = not-both e refl
      judged j t q (some k) f e =
          by_bool (distinct_names k)
          (λ g. record {
            grammar = accepts-bytes d s j t h q;
            spelled = j;
            rest = t;
            read = q;
            paired = decoded-paired j f;
            names-differ = λ l m. subst NoRepeats (some_same (sym f ∙ m)) (names-no-repeats k g);
          })
          (λ g. not-both (rw g at e) refl)

      by : (x : Got Json) → text d s ≡ x → is_tree (reading_of (length s) x) ≡ true → IsJson d s
      by (got j t) q e = judged j t q (decoded j) refl e
      by (bad t) q e = not-both e refl

  pub json-tree : IsJson d s → is_tree (reading d s) ≡ true
  unfolding reading sound
  json-tree x =
      let i = paired-decoded x.spelled x.paired in
      rw (x.read, i.1, names-distinct i.0 (x.names-differ i.0 i.1))
