-- Every scalar, list of items and member name of the grammar is read; the white space that may stand at its end is left.
use mathlib.Core.Path.{◌≡◌, sym, ap, ◌∙◌}
use mathlib.Core.List.{[], ◌∷◌, ◌++◌, append_assoc}
use mathlib.Core.Logic.{inl, inr}
use Prim.Native.Nat.{ℕ, zero, suc}
use Rattle.text.specs.Bytes.{Bytes}
use Rattle.text.specs.Reader.{Got, got, bind, under, Step, more, last, after, turns, loop}
use Rattle.text.proofs.Readers.{Moves, not-bad, bind_inv, loop-enough, turns_more, turns-last}
use Rattle.json_text.specs.Tree.{jnull, jtrue, jfalse, jnum, jstr}
use Rattle.json_text.specs.Grammar.{Lang, ◌then◌, Many, none_more, one_more, Ws, Mark, String, Scalar, Value}
use Rattle.json_text.specs.Syntax.{skip, token, name, value}
use Rattle.json_text.proofs.Values.{token-quote, token-colon}
use Rattle.json_text.proofs.Numbers.{Stops}
use Rattle.json_text.proofs.Values.{lit-null, lit-true, lit-false, a-string, a-number}
use Rattle.json_grammar.proofs.Rows.{one-is}
use Rattle.json_grammar.proofs.Gives.{Runs, characters-all}
use Rattle.json_grammar.proofs.Figures.{number-all, number-begins}
use Rattle.json_grammar.proofs.Lists.{Items, no-ws}
use Rattle.json_grammar.proofs.Spaces.{token-ws, skipped, mark-cases, mark-before}

-- something, with some of the white space at the end left
abbrev pub Leaves : {A : Type 0} → (Bytes → Got A) → Bytes → Bytes → Type 0
Leaves {A} R s w = (a : A) × (v : Bytes) × Ws v × (R s ≡ got a (v ++ w))

abbrev pub Filled : ℕ → Type 0
Filled d = (u w : Bytes) → Value d u → Stops w → Leaves (value d) (u ++ w) w

-- ---- scalars

pub scalar-all : (d : ℕ) (u w : Bytes) → Scalar u → Stops w → Leaves (value d) (u ++ w) w
unfolding Scalar String
scalar-all d u w (inl e) h = (jtrue, [], no-ws, ap (λ (z : Bytes). value d (z ++ w)) e ∙ lit-true d w)
scalar-all d u w (inr (inl e)) h = (jfalse, [], no-ws, ap (λ (z : Bytes). value d (z ++ w)) e ∙ lit-false d w)
scalar-all d u w (inr (inr (inl e))) h = (jnull, [], no-ws, ap (λ (z : Bytes). value d (z ++ w)) e ∙ lit-null d w)
scalar-all d u w (inr (inr (inr (inl x)))) h =
    let n = number-all u w x h in
    (jnum n.what, [], no-ws, a-number d (u ++ w) (number-begins u w x) ∙ ap (under jnum) n.gives)
scalar-all d u w (inr (inr (inr (inr x)))) h =
    let c = characters-all x.1 w x.4 in
    (jstr c.what, [], no-ws, ap (λ (z : Bytes). value d (z ++ w)) (x.2 ∙ ap (λ (z : Bytes). z ++ x.1) (one-is 34 x.0 x.3)) ∙ a-string d (x.1 ++ w) ∙ ap (under jstr) c.gives)

-- ---- lists, over one turn

module _ {B : Type 0} (P : Lang) (close : ℕ) (f : Bytes → Got (Step B))
    (f-ws : (x s : Bytes) → Ws x → f (x ++ s) ≡ f s)
    (f-more : (p m s : Bytes) → P p → Mark 44 m → (g : B → B) × (y : Bytes) × Ws y × (f (p ++ (m ++ s)) ≡ got (more g) (y ++ s)))
    (f-last : (p m s : Bytes) → P p → Mark close m → (b : B) × (y : Bytes) × Ws y × (f (p ++ (m ++ s)) ≡ got (last b) (y ++ s))) where
  turns-ws : (n : ℕ) (x s : Bytes) (b : B) (v : Bytes) → Ws x → turns f n s ≡ got b v → turns f n (x ++ s) ≡ got b v
  unfolding turns
  turns-ws zero x s b v w e = absurd (not-bad e)
  turns-ws (suc n) x s b v w e = ap (λ y. bind y (λ w t. after w t (turns f n))) (f-ws x s w) ∙ e

  turns-skip : (n : ℕ) (s : Bytes) (b : B) (v : Bytes) → turns f n s ≡ got b v → turns f n (skip s) ≡ got b v
  unfolding turns
  turns-skip zero s b v e = absurd (not-bad e)
  turns-skip (suc n) s b v e =
      let x = skipped s in
      let q : f (skip s) ≡ f s = sym (ap f x.2 ∙ f-ws x.0 (skip s) x.1) in
      ap (λ y. bind y (λ w t. after w t (turns f n))) q ∙ e

  -- there was a first turn
  pub turn-first : (n : ℕ) (s : Bytes) (b : B) (v : Bytes) → turns f n s ≡ got b v → (w : Step B) × (t : Bytes) × (f s ≡ got w t)
  unfolding turns
  turn-first zero s b v e = absurd (not-bad e)
  turn-first (suc n) s b v e = let i = bind_inv (f s) (λ w t. after w t (turns f n)) e in (i.0, i.1, i.2)

  items-run : (p r m w : Bytes) → P p → Many (Mark 44 then P) r → Mark close m → (y : Bytes) × Ws y × Runs f (p ++ (r ++ (m ++ w))) (y ++ w)
  items-run p r m w o (none_more z e) k =
      let l = f-last p m w o k in
      (l.1, l.2, (1, l.0, turns-last f 0 (p ++ (r ++ (m ++ w))) (l.1 ++ w) l.0 (ap (λ (z : Bytes). f (p ++ (z ++ (m ++ w)))) e ∙ l.3)))
  items-run p r m w o (one_more z a b e t ts) k =
      let s : Bytes = t.1 ++ (b ++ (m ++ w)) in
      let i = items-run t.1 b m w t.4 ts k in
      let g = f-more p t.0 s o t.3 in
      let q : r ++ (m ++ w) ≡ t.0 ++ s = ap (λ (z : Bytes). z ++ (m ++ w)) (e ∙ ap (λ (z : Bytes). z ++ b) t.2) ∙ append_assoc (t.0 ++ t.1) b (m ++ w) ∙ append_assoc t.0 t.1 (b ++ (m ++ w)) in (
        i.0,
        i.1,
        (suc i.2.0, g.0 i.2.1, turns_more f i.2.0 (p ++ (r ++ (m ++ w))) (g.1 ++ s) g.0 i.2.1 (i.0 ++ w) (ap (λ (z : Bytes). f (p ++ z)) q ∙ g.3) (turns-ws i.2.0 g.1 s i.2.1 (i.0 ++ w) g.2 i.2.2)),
      )

  -- the grammar's list, and what closes it
  module _ (moves : Moves f) (u m w : Bytes) (x : Items P close u) (k : Mark close m) where
    place : u ++ (m ++ w) ≡ x.0 ++ (x.1 ++ (m ++ w))
    place = ap (λ (z : Bytes). z ++ (m ++ w)) x.2 ∙ append_assoc x.0 x.1 (m ++ w)

    pub list-run : (y : Bytes) × Ws y × Runs f (u ++ (m ++ w)) (y ++ w)
    list-run =
        let i = items-run x.0 x.1 m w x.3 x.4 k in
        (i.0, i.1, (i.2.0, i.2.1, ap (turns f i.2.0) place ∙ i.2.2))

    pub list_all : Leaves (loop f) (u ++ (m ++ w)) w
    list_all = let i = list-run in (i.2.1, i.0, i.1, loop-enough f moves i.2.0 (u ++ (m ++ w)) i.2.1 (i.0 ++ w) i.2.2)

    pub list-skip : Leaves (λ s. loop f (skip s)) (u ++ (m ++ w)) w
    list-skip =
        let i = list-run in
        (i.2.1, i.0, i.1, loop-enough f moves i.2.0 (skip (u ++ (m ++ w))) i.2.1 (i.0 ++ w) (turns-skip i.2.0 (u ++ (m ++ w)) i.2.1 (i.0 ++ w) i.2.2))

-- ---- names

pub name-all : (q k s : Bytes) → String q → Mark 58 k → (n : Bytes) × (y : Bytes) × Ws y × (name (q ++ (k ++ s)) ≡ got n (y ++ s))
unfolding name String
name-all q k s x m =
    let c = characters-all x.1 (k ++ s) x.4 in
    let i = mark-cases 58 k m in
    let e : q ++ (k ++ s) ≡ 34 ∷ (x.1 ++ (k ++ s)) = ap (λ (z : Bytes). z ++ (k ++ s)) (x.2 ∙ ap (λ (z : Bytes). z ++ x.1) (one-is 34 x.0 x.3)) in
    let t : token 58 (k ++ s) ≡ got 58 (i.1 ++ s) = ap (token 58) (mark-before 58 k s i.0 i.1 i.4) ∙ token-ws 58 i.0 (58 ∷ (i.1 ++ s)) i.2 ∙ token-colon (i.1 ++ s) in
    (c.what, i.1, i.3, ap name e ∙ rw (token-quote (x.1 ++ (k ++ s)), c.gives, t))
