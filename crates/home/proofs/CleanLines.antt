-- What the grammar gives of a clean line.
use mathlib.Core.Path.{◌≡◌, refl, sym, ap, subst, ◌∙◌}
use mathlib.Core.Logic.{◌⊎◌, inl, inr}
use mathlib.Core.Bool.{Bool, true, false, ◌&&◌, ◌||◌, not}
use mathlib.Core.List.{List, [], ◌∷◌, tail}
use mathlib.Core.Option.{some}
use Prim.Native.Nat.{ℕ, zero, suc}
use lib.ListN.{length}
use lib.Dec.{eqb, ltb}
use borrow.Author.Tests.{eqb-true}
use Rattle.text.specs.Bytes.{Bytes, is, any, all, empty, between}
use Rattle.text.specs.Reader.{Got, got, bad, bind, first, on, Step, more, last, after, turns, loop, one, some_of, run_of, taken, past}
use Rattle.text.proofs.Cases.{by_bool, not-both, implied, or-second}
use Rattle.text.proofs.Choices.{none-some, some_same, provided-inv}
use Rattle.text.proofs.Lists.{all-imply, all_none}
use Rattle.text.proofs.Readers.{not-bad, got-rest, got-what, bind_inv, under-inv, on-inv, when-inv, Keeps, some-of-inv, taken-all}
use Rattle.line.specs.Class.{is_name, is_bare, is_quotable}
use Rattle.line.specs.Grammar.{Param, param_name, param_values, Line, word, param_value, value_turn, parameter, param_turn, after_name, line_reader, accepted, of_got, read_line}
use Rattle.line.proofs.Parameters.{is_word}
use Rattle.home.proofs.Alls.{All}
use Rattle.home.proofs.Clean.{is_ascii, Clean, clean-right, clean-tail, ascii-utf8, taken-past, taken-clean}
use Rattle.home.proofs.Words.{no_name}

-- ---- classes

pub name-ascii : (c : ℕ) → is_name c ≡ true → is_ascii c ≡ true
name-ascii c h = by_bool (is_ascii c) (λ e. e) (λ e. not-both h (no_name c e))

-- bytes off a class of values are ASCII
bare_ends : (c : ℕ) → ltb c 256 ≡ true → is_bare c ≡ false → is_ascii c ≡ true
unfolding is_bare
bare_ends c b h =
    by_bool (is_ascii c) (λ e. e)
    (λ e. not-both (implied (λ c. ltb c 256 && not (is_ascii c)) is_bare 256 c refl (λ l. rw l) (rw (b, e))) h)

quotable-ends : (c : ℕ) → ltb c 256 ≡ true → is_quotable c ≡ false → is_ascii c ≡ true
unfolding is_quotable
quotable-ends c b h =
    by_bool (is_ascii c) (λ e. e)
    (λ e. not-both (implied (λ c. ltb c 256 && not (is_ascii c)) is_quotable 256 c refl (λ l. rw l) (rw (b, e))) h)

bare-quote : (c : ℕ) → is_bare c ≡ true → is 34 c ≡ false
unfolding is_bare
bare-quote c h = by_bool (eqb c 34) (λ e. not-both h (rw (eqb-true c 34 e))) (λ e. e)

quotable-quote : (c : ℕ) → is_quotable c ≡ true → is 34 c ≡ false
unfolding is_quotable
quotable-quote c h = by_bool (eqb c 34) (λ e. not-both h (rw (eqb-true c 34 e))) (λ e. e)

-- ---- readers

-- past an ASCII byte b, or with all of it
on-clean : {A : Type 0} (b : ℕ) → is_ascii b ≡ true → (f : ℕ → Bytes → Got A) (g : Bytes → Got A) (s : Bytes) (x : Got A) → Clean s → on (is b) f g s ≡ x
    → (Clean (tail s) × (f (first s) (tail s) ≡ x)) ⊎ (g s ≡ x)
on-clean b a f g s x h e =
    elim (on-inv (is b) f g s e) [ inl q ↦ inl (rest s h q.0, q.1) | inr q ↦ inr q.1 ]
  where
    rest : (s : Bytes) → Clean s → eqb (first s) b ≡ true → Clean (tail s)
    rest [] h q = h
    rest (c ∷ s) h q = clean-tail c s (ap is_ascii (eqb-true c b q) ∙ a) h

one-clean : (b : ℕ) → is_ascii b ≡ true → (s : Bytes) (c : ℕ) (t : Bytes) → Clean s → one b s ≡ got c t → Clean t
unfolding one
one-clean b a s c t h e =
    elim (on-clean b a got bad s (got c t) h e) [ inl q ↦ subst Clean (got-rest q.1) q.0 | inr q ↦ absurd (not-bad q) ]

word-clean : (s n t : Bytes) → Clean s → word s ≡ got n t → (is_word n ≡ true) × Clean t
unfolding word is_word some_of is_name between
word-clean s n t h e =
    let i = some-of-inv is_name refl s n t e in
    let w : not (empty n) && all is_name n ≡ true = rw i.2 i.3 in
    elim (when-inv is_name (λ t. got (taken is_name t) (past is_name t)) bad s e) [
      | inl q ↦ (w, subst Clean (got-rest q.1) (clean-right (taken is_name s) (past is_name s) (ascii-utf8 (taken is_name s) (all-imply is_name is_ascii name-ascii (taken is_name s) (taken-all is_name s))) (subst Clean (sym (taken-past is_name s)) h)))
      | inr q ↦ absurd (not-bad q.1)
    ]

-- a value of a parameter
abbrev pub CleanValue : Bytes → Type 0
CleanValue v = Clean v × (any (is 34) v ≡ false)

run-clean : (p : ℕ → Bool) → ((c : ℕ) → ltb c 256 ≡ true → p c ≡ false → is_ascii c ≡ true) → ((c : ℕ) → p c ≡ true → is 34 c ≡ false)
    → (s v t : Bytes) → Clean s → run_of p s ≡ got v t → CleanValue v × Clean t
unfolding run_of
run-clean p f g s v t h e =
    let k = taken-clean p s f h in
    (subst CleanValue (got-what e) (k.0, all_none p (is 34) g (taken p s) (taken-all p s)), subst Clean (got-rest e) k.1)

value-clean : (s v t : Bytes) → Clean s → param_value s ≡ got v t → CleanValue v × Clean t
unfolding param_value
value-clean s v t h e =
    elim (on-clean 34 refl (λ q t. bind (run_of is_quotable t) λ v t. bind (one 34 t) λ q t. got v t) (run_of is_bare) s (got v t) h e) [
      | inl q ↦ quoted (tail s) q.0 q.1
      | inr q ↦ run-clean is_bare bare_ends bare-quote s v t h q
    ]
  where
    quoted : (u : Bytes) → Clean u → bind (run_of is_quotable u) (λ v t. bind (one 34 t) λ q t. got v t) ≡ got v t → CleanValue v × Clean t
    quoted u k e =
        let a = bind_inv (run_of is_quotable u) _ e in
        let b = bind_inv (one 34 a.1) _ a.3 in
        let r = run-clean is_quotable quotable-ends quotable-quote u a.0 a.1 k a.2 in
        (subst CleanValue (got-what b.3) r.0, subst Clean (got-rest b.3) (one-clean 34 refl a.1 b.0 b.1 r.1 b.2))

-- ---- turns

module _ {B : Type 0} (f : Bytes → Got (Step B)) (P : B → Type 0) (keeps : (s : Bytes) (w : Step B) (t : Bytes) → Clean s → f s ≡ got w t → Keeps P w × Clean t) where
  after-clean : (n : ℕ) (w : Step B) (t : Bytes) (b : B) (v : Bytes) → Keeps P w → Clean t → ((c : B) → Clean t → turns f n t ≡ got c v → P c × Clean v) → after w t (turns f n) ≡ got b v → P b × Clean v
  after-clean n (more g) t b v k h r e = let i = under-inv g (turns f n t) e in let q = r i.0 h i.1 in (subst P i.2 (k i.0 q.0), q.1)
  after-clean n (last x) t b v k h r e = (subst P (got-what e) k, subst Clean (got-rest e) h)

  turns-clean : (n : ℕ) (s : Bytes) (b : B) (v : Bytes) → Clean s → turns f n s ≡ got b v → P b × Clean v
  unfolding turns
  turns-clean zero s b v h e = absurd (not-bad e)
  turns-clean (suc n) s b v h e =
      let i = bind_inv (f s) (λ w t. after w t (turns f n)) e in
      let k = keeps s i.0 i.1 h i.2 in
      after-clean n i.0 i.1 b v k.0 k.1 (λ c q r. turns-clean n i.1 c v q r) i.3

  loop-clean : (s : Bytes) (b : B) (v : Bytes) → Clean s → loop f s ≡ got b v → P b × Clean v
  unfolding loop
  loop-clean s b v h e = turns-clean (suc (length s)) s b v h e

-- ---- parameters

abbrev pub CleanValues : List Bytes → Type 0
CleanValues vs = (not (empty vs) ≡ true) × All CleanValue vs

value-turn : (s : Bytes) (w : Step (List Bytes)) (t : Bytes) → Clean s → value_turn s ≡ got w t → Keeps CleanValues w × Clean t
unfolding value_turn
value-turn s w t h e =
    let i = bind_inv (param_value s) _ e in
    let k = value-clean s i.0 i.1 h i.2 in
    let v : Bytes = i.0 in
    elim (on-clean 44 refl (λ c t. got (more (λ vs. v ∷ vs)) t) (got (last (v ∷ []))) i.1 (got w t) k.1 i.3) [
      | inl q ↦ (subst (Keeps CleanValues) (got-what q.1) (λ vs g. (refl, (k.0, g.1))), subst Clean (got-rest q.1) q.0)
      | inr q ↦ (subst (Keeps CleanValues) (got-what q) (refl, (k.0, tt)), subst Clean (got-rest q) k.1)
    ]

abbrev pub CleanParam : Param → Type 0
CleanParam p = (is_word (param_name p) ≡ true) × CleanValues (param_values p)

parameter-clean : (s : Bytes) (p : Param) (t : Bytes) → Clean s → parameter s ≡ got p t → CleanParam p × Clean t
unfolding parameter
parameter-clean s p t h e =
    let a = bind_inv (word s) _ e in
    let w = word-clean s a.0 a.1 h a.2 in
    let b = bind_inv (one 61 a.1) _ a.3 in
    let c = bind_inv (loop value_turn b.1) _ b.3 in
    let k = loop-clean value_turn CleanValues value-turn b.1 c.0 c.1 (one-clean 61 refl a.1 b.0 b.1 w.1 b.2) c.2 in
    (subst CleanParam (got-what c.3) (w.0, k.0), subst Clean (got-rest c.3) k.1)

param-turn : (s : Bytes) (w : Step (List Param)) (t : Bytes) → Clean s → param_turn s ≡ got w t → Keeps (All CleanParam) w × Clean t
unfolding param_turn
param-turn s w t h e =
    elim (on-clean 58 refl (λ c t. got (last []) t) (on (is 59) (λ c t. bind (parameter t) λ p t. got (more (λ ps. p ∷ ps)) t) bad) s (got w t) h e) [
      | inl q ↦ (subst (Keeps (All CleanParam)) (got-what q.1) tt, subst Clean (got-rest q.1) q.0)
      | inr q ↦ semicolon q
    ]
  where
    one_more : (u : Bytes) → Clean u → bind (parameter u) (λ p t. got (more (λ ps. p ∷ ps)) t) ≡ got w t → Keeps (All CleanParam) w × Clean t
    one_more u k e =
        let i = bind_inv (parameter u) _ e in
        let r = parameter-clean u i.0 i.1 k i.2 in
        (subst (Keeps (All CleanParam)) (got-what i.3) (λ ps g. (r.0, g)), subst Clean (got-rest i.3) r.1)

    semicolon : on (is 59) (λ c t. bind (parameter t) λ p t. got (more (λ ps. p ∷ ps)) t) bad s ≡ got w t → Keeps (All CleanParam) w × Clean t
    semicolon e =
        elim (on-clean 59 refl (λ c t. bind (parameter t) λ p t. got (more (λ ps. p ∷ ps)) t) bad s (got w t) h e) [
          | inl q ↦ one_more (tail s) q.0 q.1
          | inr q ↦ absurd (not-bad q)
        ]

-- ---- lines

pub record CleanLine (l : Line) : Type 0 where
  pub group : empty l.group || is_word l.group ≡ true
  pub name : is_word l.name ≡ true
  pub params : All CleanParam l.params
  pub value : Clean l.value

after-name : (g n s : Bytes) (l : Line) (t : Bytes) → empty g || is_word g ≡ true → is_word n ≡ true → Clean s → after_name g n s ≡ got l t → CleanLine l
unfolding after_name
after-name g n s l t a b h e =
    let i = bind_inv (loop param_turn s) _ e in
    let k = loop-clean param_turn (All CleanParam) param-turn s i.0 i.1 h i.2 in
    subst CleanLine (got-what i.3) (record { group = a; name = b; params = k.0; value = k.1 })

line_clean : (s : Bytes) (l : Line) (t : Bytes) → Clean s → line_reader s ≡ got l t → CleanLine l
unfolding line_reader
line_clean s l t h e =
    let i = bind_inv (word s) _ e in
    let w = word-clean s i.0 i.1 h i.2 in
    elim (on-clean 46 refl (λ c t. bind (word t) λ n t. after_name i.0 n t) (after_name [] i.0) i.1 (got l t) w.1 i.3) [
      | inl q ↦ grouped i.0 (tail i.1) w.0 q.0 q.1
      | inr q ↦ after-name [] i.0 i.1 l t refl w.0 w.1 q
    ]
  where
    grouped : (g u : Bytes) → is_word g ≡ true → Clean u → bind (word u) (λ n t. after_name g n t) ≡ got l t → CleanLine l
    grouped g u a k e =
        let i = bind_inv (word u) _ e in
        let w = word-clean u i.0 i.1 k i.2 in
        after-name g i.0 i.1 l t (or-second (empty g) (is_word g) a) w.0 w.1 i.3

pub read-clean : (s : Bytes) (l : Line) → Clean s → read_line s ≡ some l → CleanLine l × (accepted l ≡ true)
unfolding read_line
read-clean s l h e = by (line_reader s) refl e
  where
    by : (g : Got Line) → line_reader s ≡ g → of_got g ≡ some l → CleanLine l × (accepted l ≡ true)
    by (got m t) q r =
        let p = provided-inv (accepted m) (some m) r in
        (subst CleanLine (some_same p.1) (line_clean s m t h q), ap accepted (sym (some_same p.1)) ∙ p.0)
    by (bad t) q r = none-some r
