-- Arrays, objects and values.
use mathlib.Core.Path.{◌≡◌, refl}
use mathlib.Core.Bool.{true, false}
use mathlib.Core.List.{[], ◌∷◌, ◌++◌}
use mathlib.Core.Logic.{inl, inr}
use Prim.Native.Nat.{ℕ, zero, suc}
use lib.Dec.{eqb}
use borrow.Author.Tests.{eq-eqb}
use Rattle.text.specs.Choice.{pick}
use Rattle.text.specs.Bytes.{Bytes, is}
use Rattle.text.specs.Reader.{Got, Step, more, last}
use Rattle.text.proofs.Readers.{Takes}
use Rattle.json_text.specs.Tree.{Json, jnull, jarr, jobj, Elems, enil, econs, Members, mnil, mcons}
use Rattle.json_text.specs.Grammar.{Lang, One, ◌then◌, ◌or◌, Many, none_more, is_space, Ws, Mark, String, Array, Named, Object, Value}
use Rattle.json_text.specs.Syntax.{skip, token, sep, name, item, elements, pair, pairs, value}
use Rattle.json_text.proofs.Takes.{takes-item, takes-pair, takes-value}
use Rattle.json_grammar.proofs.Forms.{Some, Reads, reads-got, reads_as, reads-under, reads-bind}
use Rattle.json_grammar.proofs.Tests.{reads_on, reads-past}
use Rattle.json_grammar.proofs.Turns.{ends, Loop, reads-loop}
use Rattle.json_grammar.proofs.Rows.{reads-class, reads-one, reads-last, reads-row, Has, has-then, a_byte}
use Rattle.json_grammar.proofs.Units.{Turn, reads-characters}
use Rattle.json_grammar.proofs.Numerals.{has-scalar, reads-scalar}
use Rattle.json_grammar.proofs.Lists.{no-ws, Item, enclosed, Name, named}

-- ---- marks

has-ws : Has Ws
has-ws = ([], no-ws)

a-mark : (b : ℕ) → Has (One (is b))
a-mark b = a_byte (is b) b (eq-eqb b b refl)

-- white space before
pub reads-skip : {A : Type 0} {L : A → Lang} {R : Bytes → Got A} → Reads L R → Some L → Reads (λ a. Ws then L a) (λ s. R (skip s))
unfolding skip Ws is_space
reads-skip r m = reads-past is_space refl r m

reads-token : (b : ℕ) → eqb 256 b ≡ false → Reads (λ (c : ℕ). Ws then One (is b)) (token b)
unfolding token
reads-token b z = reads-skip (reads-one b z) (0, (a-mark b).0, (a-mark b).1)

reads-sep : {B : Type 0} (close : ℕ) (b : B) (g : B → B) → eqb 256 close ≡ false → Reads (λ (w : Step B). Ws then One (is (pick (ends w) close 44))) (sep close b g)
unfolding sep
reads-sep close b g z =
    reads-skip {L = λ w. One (is (pick (ends w) close 44))}
    (reads_on (is close) z (λ c h. reads-got (last b) (c, refl, h)) (λ c h. (last b, [], (c, refl, h))) (reads-class (is 44) (λ c. more g) refl (λ c h. (c, refl, h))) (λ w u h m. m))
    (last b, (a-mark close).0, (a-mark close).1)

reads-name : Reads (λ (k : Bytes). Name) name
unfolding name Name
reads-name =
    reads-row [] (reads-token 34 refl) (has-then has-turns (has-then has-ws (a-mark 58))) λ q. reads-row [] reads-characters (has-then has-ws (a-mark 58)) λ k. reads-last (λ c. k) (reads-token 58 refl)
  where
    has-turns : Has (Loop Turn)
    has-turns = has-then ([], none_more [] refl) (a-mark 34)

-- ---- lists in brackets, over what is read inside

module _ (P : Lang) (rd : Bytes → Got Json) (takes : Takes 1 rd) (r : Reads (λ (j : Json). Ws then P) rd) (has : Has P) where
  reads-item : Reads (λ w. Item P 93 (ends w)) (item rd)
  unfolding item
  reads-item = reads-bind r (λ j. reads-sep 93 (econs j enil) (econs j) refl) (last enil, a-close.0, a-close.1)
    where
      a-close : Has (Ws then One (is 93))
      a-close = has-then has-ws (a-mark 93)

  reads-elements : Reads (λ (es : Elems). Ws then (One (is 93) or Loop (Item P 93))) (elements rd)
  unfolding elements
  reads-elements =
      let m = has-then (has-then has-ws has) (has-then has-ws (a-mark 93)) in
      reads-skip {L = λ (es : Elems). One (is 93) or Loop (Item P 93)}
      (reads_on (is 93) refl (λ c h. reads-got enil (inl (c, refl, h))) (λ c h. (enil, [], inl (c, refl, h))) (reads-loop (Item P 93) (takes-item rd takes) reads-item enil m.0 m.1) (λ es u h l. inr l))
      (enil, 93 ∷ [], inl (93, refl, refl))

  has_named : Has (Ws then Named P)
  unfolding Named String Mark
  has_named = has-then has-ws (has-then (has-then (a-mark 34) (has-then {P = Many (Turn false)} ([], none_more [] refl) (a-mark 34))) (has-then (has-then has-ws (has-then (a-mark 58) has-ws)) has))

  reads-pair : Reads (λ w. Item (Named P) 125 (ends w)) (pair rd)
  unfolding pair
  reads-pair =
      let m = has-then has-ws has in
      let k = has-then has-ws (a-mark 125) in
      reads_as (λ w u x. named u x) (reads-bind {Q = λ (w : Step Members). (Ws then P) then Ws then One (is (pick (ends w) 125 44))} reads-name (λ k. reads-bind r (λ j. reads-sep 125 (mcons k j mnil) (mcons k j) refl) (last mnil, a-close.0, a-close.1))
      (last mnil, m.0 ++ k.0, (m.0, k.0, refl, m.1, k.1)))
    where
      a-close : Has (Ws then One (is 125))
      a-close = has-then has-ws (a-mark 125)

  reads-pairs : Reads (λ (ms : Members). Ws then (One (is 125) or Loop (Item (Named P) 125))) (pairs rd)
  unfolding pairs
  reads-pairs =
      let m = has-then has_named (has-then has-ws (a-mark 125)) in
      reads-skip {L = λ (ms : Members). One (is 125) or Loop (Item (Named P) 125)}
      (reads_on (is 125) refl (λ c h. reads-got mnil (inl (c, refl, h))) (λ c h. (mnil, [], inl (c, refl, h))) (reads-loop (Item (Named P) 125) (takes-pair rd takes) reads-pair mnil m.0 m.1) (λ ms u h l. inr l))
      (mnil, 125 ∷ [], inl (125, refl, refl))

-- ---- values

pub has_value : (d : ℕ) → Has (Value d)
unfolding Value
has_value zero = has-scalar
has_value (suc d) = (has-scalar.0, inl has-scalar.1)

module _ (d : ℕ) where
  array : (c : ℕ) (u : Bytes) → is 91 c ≡ true → (Ws then (One (is 93) or Loop (Item (Value d) 93))) u → Value (suc d) (c ∷ u)
  unfolding Value Array
  array c u h m = inr (inl (enclosed (Value d) 93 91 c u h m))

  object : (c : ℕ) (u : Bytes) → is 123 c ≡ true → (Ws then (One (is 125) or Loop (Item (Named (Value d)) 125))) u → Value (suc d) (c ∷ u)
  unfolding Value Object
  object c u h m = inr (inr (enclosed (Named (Value d)) 125 123 c u h m))

pub reads-value : (d : ℕ) → Reads (λ (j : Json). Ws then Value d) (value d)
unfolding value Value
reads-value zero = reads-skip reads-scalar (jnull, has-scalar.0, has-scalar.1)
reads-value (suc d) =
    reads-skip {L = λ (j : Json). Value (suc d)}
    (reads_on (is 91) refl (λ c h. reads-under jarr (λ a u m. array d c u h m) (reads-elements (Value d) (value d) (takes-value d) (reads-value d) (has_value d)))
    (λ c h. (jnull, 93 ∷ [], array d c (93 ∷ []) h ([], 93 ∷ [], refl, no-ws, inl (93, refl, refl))))
    (reads_on (is 123) refl (λ c h. reads-under jobj (λ a u m. object d c u h m) (reads-pairs (Value d) (value d) (takes-value d) (reads-value d) (has_value d)))
    (λ c h. (jnull, 125 ∷ [], object d c (125 ∷ []) h ([], 125 ∷ [], refl, no-ws, inl (125, refl, refl))))
    reads-scalar (λ j u h m. inl m))
    (λ j u h m. m))
    (jnull, (has_value (suc d)).0, (has_value (suc d)).1)
