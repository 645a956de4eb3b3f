-- Written parameters are read back, their names in upper case.
use mathlib.Core.Path.{◌≡◌, refl, ap}
use mathlib.Core.Bool.{Bool, true, false, ◌&&◌, not}
use mathlib.Core.List.{List, [], ◌∷◌, ◌++◌, map}
use Prim.Native.Nat.{ℕ, suc, ◌<◌}
use native.Mathlib.Omega.{arith}
use lib.ListN.{length}
use lib.Dec.{eqb}
use borrow.Author.Tests.{eqb-true}
use Rattle.text.specs.Bytes.{Bytes, is, all, empty, between, upper, uppered}
use Rattle.text.specs.Reader.{got, first, on, more, last, turns, loop, one}
use Rattle.text.proofs.Cases.{by_bool, and_left, and_right, not-true, not-both}
use Rattle.text.proofs.Lists.{all_head, all_tail}
use Rattle.text.proofs.Letters.{upper-test}
use Rattle.text.proofs.Readers.{Takes, takes-got, takes-bad, takes-less, takes-on, takes-bind, takes_one, takes-run-of, takes-some-of, takes-loop-none, takes-moves, Moves, loop-enough, turns_more, turns-last, run-of-run, some-of-run, bind_inv, got-rest, not_last}
use Rattle.line.specs.Class.{is_name, is_bare, is_quotable}
use Rattle.line.specs.Grammar.{Param, param, word, param_value, value_turn, parameter, param_turn}
use Rattle.line.specs.Write.{write_value, write_values, write_params}
pub use Rattle.line.specs.Upper.{upper_param}

-- ---- what can be written

-- letters, digits and hyphens, one at least
unfoldable pub is_word : Bytes → Bool
is_word n = not (empty n) && all is_name n

unfoldable pub writable_param : Param → Bool
writable_param (param n vs) = is_word n && (not (empty vs) && all (all is_quotable) vs)

-- ---- names

name-256 : is_name 256 ≡ false
unfolding is_name between
name-256 = refl

pub upper-name : (c : ℕ) → is_name (upper c) ≡ is_name c
unfolding is_name upper between
upper-name = upper-test is_name refl

pub uppered-names : (n : Bytes) → all is_name n ≡ true → all is_name (uppered n) ≡ true
unfolding uppered all
uppered-names [] h = refl
uppered-names (c ∷ n) h = rw (upper-name c, all_head is_name c n h) (uppered-names n (all_tail is_name c n h))

pub uppered-word : (n : Bytes) → is_word n ≡ true → is_word (uppered n) ≡ true
unfolding is_word uppered
uppered-word [] h = h
uppered-word (c ∷ n) h = uppered-names (c ∷ n) h

-- a word, before what is no part of it
pub word_read : (n t : Bytes) → is_word n ≡ true → is_name (first t) ≡ false → word (n ++ t) ≡ got n t
unfolding word is_word
word_read [] t h e = cc
word_read (c ∷ n) t h e = some-of-run is_name c n t h e

-- ---- values

-- nothing that could go on with a value: no bare byte, no quote
abbrev pub Ends : Bytes → Type 0
Ends t = (is_bare (first t) ≡ false) × (eqb (first t) 34 ≡ false)

quote-stops : is_quotable 34 ≡ false
unfolding is_quotable
quote-stops = refl

bare-quotable : (c : ℕ) → is_bare c ≡ true → eqb c 34 ≡ false
unfolding is_bare
bare-quotable c h = by_bool (eqb c 34) (λ e. not-both (rw (eqb-true c 34 e) at h) refl) (λ e. e)

first-bare : (v t : Bytes) → all is_bare v ≡ true → eqb (first t) 34 ≡ false → eqb (first (v ++ t)) 34 ≡ false
first-bare [] t h e = e
first-bare (c ∷ v) t h e = bare-quotable c (all_head is_bare c v h)

quoted-read : (v t : Bytes) → all is_quotable v ≡ true → param_value (34 ∷ (v ++ 34 ∷ t)) ≡ got v t
unfolding param_value on one
quoted-read v t h = rw (run-of-run is_quotable v (34 ∷ t) h quote-stops)

bare-read : (v t : Bytes) → all is_bare v ≡ true → Ends t → param_value (v ++ t) ≡ got v t
unfolding param_value on
bare-read v t h e = rw (first-bare v t h e.1) (run-of-run is_bare v t h e.0)

pub value_read : (always : Bool) (v t : Bytes) → all is_quotable v ≡ true → Ends t → param_value (write_value always v t) ≡ got v t
unfolding write_value
value_read true v t h e = quoted-read v t h
value_read false v t h e = by_bool (all is_bare v) (λ q. rw q (bare-read v t q e)) (λ q. rw q (quoted-read v t h))

-- ---- the values of a parameter

comma-ends : (t : Bytes) → Ends (44 ∷ t)
unfolding is_bare
comma-ends t = (refl, refl)

turn_more : (always : Bool) (v t : Bytes) → all is_quotable v ≡ true → value_turn (write_value always v (44 ∷ t)) ≡ got (more (λ vs. v ∷ vs)) t
unfolding value_turn on
turn_more always v t h = rw (value_read always v (44 ∷ t) h (comma-ends t))

turn_last : (always : Bool) (v t : Bytes) → all is_quotable v ≡ true → Ends t → eqb (first t) 44 ≡ false → value_turn (write_value always v t) ≡ got (last (v ∷ [])) t
unfolding value_turn on
turn_last always v t h e f = rw (value_read always v t h e, f)

values-turns : (always : Bool) (v : Bytes) (vs : List Bytes) (t : Bytes) → all (all is_quotable) (v ∷ vs) ≡ true → Ends t → eqb (first t) 44 ≡ false
    → turns value_turn (suc (length vs)) (write_values always (v ∷ vs) t) ≡ got (v ∷ vs) t
unfolding write_values
values-turns always v [] t h e f = turns-last value_turn 0 _ t _ (turn_last always v t (all_head (all is_quotable) v [] h) e f)
values-turns always v (w ∷ ws) t h e f =
    turns_more value_turn (suc (length ws)) _ (write_values always (w ∷ ws) t) _ (w ∷ ws) t (turn_more always v _ (all_head (all is_quotable) v (w ∷ ws) h))
    (values-turns always w ws t (all_tail (all is_quotable) v (w ∷ ws) h) e f)

takes-value : Takes 0 param_value
unfolding param_value
takes-value = takes-on (is 34) refl (omega arith) (λ q. takes-bind (takes-run-of is_quotable) λ v. takes-bind (takes-less (takes_one 34 refl)) λ q. takes-got v) (takes-run-of is_bare)

takes-turn : Takes 0 value_turn
unfolding value_turn
takes-turn = takes-bind takes-value λ v. takes-on (is 44) refl (omega arith) (λ c. takes-got (more (λ vs. v ∷ vs))) (takes-got (last (v ∷ [])))

after-value : (v s : Bytes) (g : List Bytes → List Bytes) (t : Bytes)
    → on (is 44) (λ c t. got (more (λ vs. v ∷ vs)) t) (got (last (v ∷ []))) s ≡ got (more g) t → length t < length s
unfolding on
after-value v [] g t e = absurd (not_last e)
after-value v (c ∷ s) g t e = by_bool (eqb c 44) (λ q. omega (arith, ap length (got-rest (rw q at e)))) (λ q. absurd (not_last (rw q at e)))

turn-moves : Moves value_turn
unfolding value_turn
turn-moves s g t e =
    let i = bind_inv (param_value s) _ e in
    omega (arith, takes-value.less s _ _ i.2, after-value i.0 i.1 g t i.3)

pub values-read : (always : Bool) (vs : List Bytes) (t : Bytes) → empty vs ≡ false → all (all is_quotable) vs ≡ true → Ends t → eqb (first t) 44 ≡ false
    → loop value_turn (write_values always vs t) ≡ got vs t
values-read always [] t n h e f = cc
values-read always (v ∷ vs) t n h e f = loop-enough value_turn turn-moves (suc (length vs)) _ (v ∷ vs) t (values-turns always v vs t h e f)

-- ---- parameters

-- written parameters begin with a colon or a semicolon
pub at-params : (P : Bytes → Type 0) → ((t : Bytes) → P (58 ∷ t)) → ((t : Bytes) → P (59 ∷ t)) → (ps : List Param) (t : Bytes) → P (write_params ps t)
unfolding write_params
at-params P a b [] t = a t
at-params P a b (param n vs ∷ ps) t = b _

params-end : (ps : List Param) (t : Bytes) → Ends (write_params ps t)
unfolding is_bare
params-end = at-params Ends (λ t. (refl, refl)) (λ t. (refl, refl))

params-comma : (ps : List Param) (t : Bytes) → eqb (first (write_params ps t)) 44 ≡ false
params-comma = at-params (λ s. eqb (first s) 44 ≡ false) (λ t. refl) (λ t. refl)

pub params-dot : (ps : List Param) (t : Bytes) → eqb (first (write_params ps t)) 46 ≡ false
params-dot = at-params (λ s. eqb (first s) 46 ≡ false) (λ t. refl) (λ t. refl)

pub params-name : (ps : List Param) (t : Bytes) → is_name (first (write_params ps t)) ≡ false
unfolding is_name between
params-name = at-params (λ s. is_name (first s) ≡ false) (λ t. refl) (λ t. refl)

equals-stops : (t : Bytes) → is_name (first (61 ∷ t)) ≡ false
unfolding is_name between
equals-stops t = refl

pub parameter-read : (always : Bool) (n : Bytes) (vs : List Bytes) (t : Bytes) → is_word n ≡ true → empty vs ≡ false → all (all is_quotable) vs ≡ true → Ends t → eqb (first t) 44 ≡ false
    → parameter (n ++ 61 ∷ write_values always vs t) ≡ got (param n vs) t
unfolding parameter one on
parameter-read always n vs t w m h e f =
    rw (word_read n (61 ∷ write_values always vs t) w (equals-stops (write_values always vs t)), values-read always vs t m h e f)

param-turn : (n : Bytes) (vs : List Bytes) (ps : List Param) (t : Bytes) → writable_param (param n vs) ≡ true
    → param_turn (write_params (param n vs ∷ ps) t) ≡ got (more (λ qs. param (uppered n) vs ∷ qs)) (write_params ps t)
unfolding param_turn on write_params writable_param
param-turn n vs ps t h =
    let r = and_right (is_word n) _ h in
    rw (parameter-read _ (uppered n) vs (write_params ps t) (uppered-word n (and_left (is_word n) _ h)) (not-true (empty vs) (and_left _ _ r)) (and_right (not (empty vs)) _ r) (params-end ps t) (params-comma ps t))

colon-turn : (t : Bytes) → param_turn (write_params [] t) ≡ got (last []) t
unfolding param_turn on write_params
colon-turn t = refl

params-turns : (ps : List Param) (t : Bytes) → all writable_param ps ≡ true → turns param_turn (suc (length ps)) (write_params ps t) ≡ got (map upper_param ps) t
params-turns [] t h = turns-last param_turn 0 _ t [] (colon-turn t)
params-turns (param n vs ∷ ps) t h =
    turns_more param_turn (suc (length ps)) _ (write_params ps t) _ (map upper_param ps) t (param-turn n vs ps t (all_head writable_param (param n vs) ps h))
    (params-turns ps t (all_tail writable_param (param n vs) ps h))

takes-parameter : Takes 1 parameter
unfolding parameter word
takes-parameter =
    takes-bind (takes-some-of is_name name-256) λ n. takes-bind (takes-less (takes_one 61 refl)) λ e. takes-bind (takes-loop-none value_turn takes-turn) λ vs. takes-got (param n vs)

takes-param_turn : Takes 1 param_turn
unfolding param_turn
takes-param_turn =
    takes-on (is 58) refl (omega arith) (λ c. takes-got (last [])) (takes-on (is 59) refl (omega arith) (λ c. takes-bind (takes-less takes-parameter) λ p. takes-got (more (λ ps. p ∷ ps))) (takes-bad 1))

-- for every tail
pub params-read : (ps : List Param) (t : Bytes) → all writable_param ps ≡ true → loop param_turn (write_params ps t) ≡ got (map upper_param ps) t
params-read ps t h = loop-enough param_turn (takes-moves param_turn takes-param_turn) (suc (length ps)) _ (map upper_param ps) t (params-turns ps t h)
