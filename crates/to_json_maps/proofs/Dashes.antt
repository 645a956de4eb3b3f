-- A line without a dash has no PROP-ID: the name of each parameter stands in the line.
use mathlib.Core.Path.{◌≡◌, refl, ap, subst, ◌∙◌}
use mathlib.Core.Bool.{Bool, true, false}
use mathlib.Core.List.{List, [], ◌∷◌, tail}
use mathlib.Core.Logic.{⊎_elim}
use mathlib.Core.Option.{some}
use Prim.Native.Nat.{ℕ, zero, suc, ◌+◌}
use native.Mathlib.Omega.{arith}
use lib.ListN.{length}
use borrow.Author.Tests.{ne_eqb}
use Rattle.text.specs.Bytes.{Bytes, ascii, is, any, between, is_upper, lower, lowered, same, keep, flat}
use Rattle.text.specs.Reader.{Got, got, bad, bind, first, on, when, Step, more, last, after, turns, loop, taken, past, one, some_of, run_of}
use Rattle.text.proofs.Cases.{by_bool, not-both, or_left, or_right}
use Rattle.text.proofs.Choices.{none-some, some_same, provided-inv}
use Rattle.text.proofs.Same.{differ_same}
use Rattle.text.proofs.Readers.{not-bad, got-rest, got-what, bind_inv, under-inv, on-inv, when-inv, Keeps}
use Rattle.line.specs.Class.{is_name, is_bare, is_quotable}
use Rattle.line.specs.Grammar.{Param, param, Line, param_name, word, param_value, value_turn, parameter, param_turn, after_name, line_reader, accepted, of_got, read_line}
use Rattle.line.specs.Params.{named, values_named, lacking, besides_value}

abbrev pub Dashless : Bytes → Type 0
Dashless s = any (is 45) s ≡ false

dashless-tail : (s : Bytes) → Dashless s → Dashless (tail s)
unfolding any
dashless-tail [] h = h
dashless-tail (c ∷ s) h = or_right (is 45 c) (any (is 45) s) h

module _ (p : ℕ → Bool) where
  dashless-taken : (s : Bytes) → Dashless s → Dashless (taken p s)
  unfolding any taken
  dashless-taken [] h = h
  dashless-taken (c ∷ s) h =
      by_bool (p c)
      (λ q. rw (q, or_left (is 45 c) (any (is 45) s) h) (dashless-taken s (or_right (is 45 c) (any (is 45) s) h)))
      (λ q. rw q)

  dashless-past : (s : Bytes) → Dashless s → Dashless (past p s)
  unfolding any past
  dashless-past [] h = h
  dashless-past (c ∷ s) h = by_bool (p c) (λ q. rw q (dashless-past s (or_right (is 45 c) (any (is 45) s) h))) (λ q. rw q h)

-- ---- readers

-- where there is no dash, the reader gives what has Q, and leaves no dash
abbrev Without : {A : Type 0} → (A → Type 0) → (Bytes → Got A) → Type 0
Without {A} Q R = (s : Bytes) (a : A) (w : Bytes) → R s ≡ got a w → Dashless s → Q a × Dashless w

abbrev Any : {A : Type 0} → A → Type 0
Any a = Unit {0}

module _ {A : Type 0} (Q : A → Type 0) where
  of-got : (a : A) → Q a → Without Q (got a)
  of-got a h s b w e d = (subst Q (got-what e) h, subst Dashless (got-rest e) d)

  of-bad : Without Q bad
  of-bad s a w e d = absurd (not-bad e)

  of-on : {f : ℕ → Bytes → Got A} {g : Bytes → Got A} (p : ℕ → Bool) → ((x : ℕ) → Without Q (f x)) → Without Q g → Without Q (on p f g)
  of-on {f} {g} p h k s a w e d =
      ⊎_elim (λ q. h (first s) (tail s) a w q.1 (dashless-tail s d)) (λ q. k s a w q.1 d) (on-inv p f g s e)

  of-when : {f g : Bytes → Got A} (p : ℕ → Bool) → Without Q f → Without Q g → Without Q (when p f g)
  of-when {f} {g} p h k s a w e d = ⊎_elim (λ q. h s a w q.1 d) (λ q. k s a w q.1 d) (when-inv p f g s e)

  of-any : {R : Bytes → Got A} → Without Q R → Without Any R
  of-any h s a w e d = (tt, (h s a w e d).1)

  of-bind : {B : Type 0} (D : B → Type 0) {R : Bytes → Got A} {K : A → Bytes → Got B} → Without Q R → ((a : A) → Q a → Without D (K a)) → Without D (λ s. bind (R s) K)
  of-bind D {R} {K} h r s b w e d =
      let u = bind_inv (R s) K e in
      let i = h s u.0 u.1 u.2 d in
      r u.0 i.0 u.1 b w u.3 i.1

module _ {B : Type 0} (P : B → Type 0) (f : Bytes → Got (Step B)) (h : Without (Keeps P) f) where
  of-after : (n : ℕ) (w : Step B) (t : Bytes) (b : B) (v : Bytes) → Keeps P w → Dashless t → ((c : B) → turns f n t ≡ got c v → P c × Dashless v) → after w t (turns f n) ≡ got b v → P b × Dashless v
  of-after n (more g) t b v k d r e =
      let i = under-inv g (turns f n t) e in
      let j = r i.0 i.1 in
      (subst P i.2 (k i.0 j.0), j.1)
  of-after n (last x) t b v k d r e = (subst P (got-what e) k, subst Dashless (got-rest e) d)

  of_turns : (n : ℕ) → Without P (turns f n)
  unfolding turns
  of_turns zero s b v e d = absurd (not-bad e)
  of_turns (suc n) s b v e d =
      let i = bind_inv (f s) (λ w t. after w t (turns f n)) e in
      let k = h s i.0 i.1 i.2 d in
      of-after n i.0 i.1 b v k.0 k.1 (λ c q. of_turns n i.1 c v q k.1) i.3

  of-loop : Without P (loop f)
  unfolding loop
  of-loop s = of_turns (suc (length s)) s

of-run : (p : ℕ → Bool) → Without Dashless (λ t. got (taken p t) (past p t))
of-run p s a w e d = (subst Dashless (got-what e) (dashless-taken p s d), subst Dashless (got-rest e) (dashless-past p s d))

of_one : (b : ℕ) → Without Any (one b)
unfolding one
of_one b = of-on Any (is b) (λ x. of-got Any x tt) (of-bad Any)

-- ---- the line grammar

of_word : Without Dashless word
unfolding word some_of
of_word = of-when Dashless is_name (of-run is_name) (of-bad Dashless)

of-value : Without Any param_value
unfolding param_value run_of
of-value =
    of-on Any (is 34) (λ q. of-bind Dashless Any (of-run is_quotable) (λ v h. of-bind Any Any (of_one 34) (λ q k. of-got Any v tt)))
    (of-any Dashless (of-run is_bare))

abbrev Values : Step (List Bytes) → Type 0
Values = Keeps (Any {A = List Bytes})

of_values : Without Values value_turn
unfolding value_turn
of_values =
    of-bind Any Values of-value (λ v h. of-on Values (is 44) (λ c. of-got Values (more (λ vs. v ∷ vs)) (λ vs k. tt)) (of-got Values (last (v ∷ [])) tt))

abbrev Plain : Param → Type 0
Plain p = Dashless (param_name p)

of-parameter : Without Plain parameter
unfolding parameter
of-parameter =
    of-bind Dashless Plain of_word
    (λ n h. of-bind Any Plain (of_one 61) (λ e i. of-bind Any Plain (of-loop Any value_turn of_values) (λ vs j. of-got Plain (param n vs) h)))

abbrev Plains : List Param → Type 0
Plains [] = Unit {0}
Plains (p ∷ ps) = Plain p × Plains ps

of_params : Without (Keeps Plains) param_turn
unfolding param_turn
of_params =
    of-on (Keeps Plains) (is 58) (λ c. of-got (Keeps Plains) (last []) tt)
    (of-on (Keeps Plains) (is 59) (λ c. of-bind Plain (Keeps Plains) of-parameter (λ p h. of-got (Keeps Plains) (more (λ ps. p ∷ ps)) (λ ps k. (h, k)))) (of-bad (Keeps Plains)))

abbrev PlainLine : Line → Type 0
PlainLine l = Plains l.params

of-rest : (g n : Bytes) → Without PlainLine (after_name g n)
unfolding after_name any
of-rest g n s l w e d =
    let u = bind_inv (loop param_turn s) (λ ps t. got (record { group = g; name = n; params = ps; value = t }) []) e in
    (subst PlainLine (got-what u.3) (of-loop Plains param_turn of_params s u.0 u.1 u.2 d).0, subst Dashless (got-rest u.3) refl)

of-line : Without PlainLine line_reader
unfolding line_reader
of-line =
    of-bind Dashless PlainLine of_word
    (λ w h. of-on PlainLine (is 46) (λ c. of-bind Dashless PlainLine of_word (λ n k. of-rest w n)) (of-rest [] w))

of-got-line : (s : Bytes) (l : Line) (x : Got Line) → line_reader s ≡ x → of_got x ≡ some l → Dashless s → PlainLine l
of-got-line s l (got m t) q e d = subst PlainLine (some_same (provided-inv (accepted m) (some m) e).1) (of-line s m t q d).0
of-got-line s l (bad t) q e d = none-some e

-- ---- no PROP-ID

lower-dash : (c : ℕ) → is 45 c ≡ false → is 45 (lower c) ≡ false
unfolding lower between
lower-dash c h =
    by_bool (is_upper c)
    (λ q. rw q (ne_eqb (c + 32) 45 (λ z. let e : c ≡ 13 = omega arith in not-both q (ap is_upper e))))
    (λ q. rw q h)

lowered-dashless : (n : Bytes) → Dashless n → Dashless (lowered n)
unfolding any lowered
lowered-dashless [] h = h
lowered-dashless (c ∷ n) h = rw (lower-dash c (or_left (is 45 c) (any (is 45) n) h)) (lowered-dashless n (or_right (is 45 c) (any (is 45) n) h))

has-dash : any (is 45) (ascii "prop-id") ≡ true
unfolding any
has-dash = refl

other_name : (n : Bytes) → Dashless n → same (lowered n) (ascii "prop-id") ≡ false
other_name n h = differ_same (lowered n) (ascii "prop-id") (λ q. not-both (ap (any (is 45)) q ∙ has-dash) (lowered-dashless n h))

none_named : (ps : List Param) → Plains ps → values_named (ascii "prop-id") (besides_value ps) ≡ []
unfolding values_named besides_value lacking named keep flat
none_named [] h = refl
none_named (param n vs ∷ ps) h =
    by_bool (same (lowered n) (ascii "value")) (λ q. rw q (none_named ps h.1)) (λ q. rw (q, other_name n h.0) (none_named ps h.1))

pub no-prop-id : (s : Bytes) (l : Line) → read_line s ≡ some l → Dashless s → values_named (ascii "prop-id") (besides_value l.params) ≡ []
unfolding read_line
no-prop-id s l e d = none_named l.params (of-got-line s l (line_reader s) refl e d)
