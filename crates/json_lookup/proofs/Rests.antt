-- What a reader leaves is the end of what it was given.
use mathlib.Core.Path.{◌≡◌, refl, sym, ap, subst, ◌∙◌}
use mathlib.Core.Bool.{Bool, true, false}
use mathlib.Core.List.{[], ◌∷◌, ◌++◌, tail, append_assoc}
use mathlib.Core.Logic.{◌⊎◌, inl, inr}
use Prim.Native.Nat.{ℕ, ◌-◌}
use native.Mathlib.Omega.{arith}
use lib.ListN.{length, take, drop, length-append}
use lib.Seq.{take-append_seam, drop-append_seam}
use lib.Dec.{eqb}
use Rattle.text.specs.Bytes.{Bytes, is}
use Rattle.text.specs.Reader.{got, bad, first, on, Step, more, last, past}
use Rattle.text.proofs.Cases.{by_bool}
use Rattle.text.proofs.Readers.{not-bad, got-rest, bind_inv, on-inv}
use Rattle.json_text.specs.Grammar.{is_space}
use Rattle.json_text.specs.Tree.{Json}
use Rattle.json_text.specs.Syntax.{skip, token, characters, name, sep, value}
use Rattle.json_grammar.proofs.Units.{reads-characters}
use Rattle.json_grammar.proofs.Nested.{reads-value}

abbrev pub Ends : Bytes → Bytes → Type 0
Ends s w = (x : Bytes) × (s ≡ x ++ w)

pub ends-then : {s t u : Bytes} → Ends s t → Ends t u → Ends s u
ends-then {s} {t} {u} h k = (h.0 ++ k.0, h.1 ∙ ap (λ (y : Bytes). h.0 ++ y) k.1 ∙ sym (append_assoc h.0 k.0 u))

pub ends-tail : (s : Bytes) → Ends s (tail s)
ends-tail [] = ([], refl)
ends-tail (c ∷ s) = (c ∷ [], refl)

ends-past : (p : ℕ → Bool) (s : Bytes) → Ends s (past p s)
unfolding past
ends-past p [] = ([], refl)
ends-past p (c ∷ s) = by_bool (p c) (λ e. rw e (let h = ends-past p s in (c ∷ h.0, ap (λ (y : Bytes). c ∷ y) h.1))) (λ e. rw e ([], refl))

pub ends-skip : (s : Bytes) → Ends s (skip s)
unfolding skip
ends-skip s = ends-past is_space s

-- a byte after white space is taken
after-byte : (s w : Bytes) → tail (skip s) ≡ w → Ends s w
after-byte s w e = subst (Ends s) e (ends-then (ends-skip s) (ends-tail (skip s)))

ends-token : (b : ℕ) (s : Bytes) (c : ℕ) (w : Bytes) → token b s ≡ got c w → Ends s w
unfolding token Rattle.text.specs.Reader.one
ends-token b s c w e = by (on-inv (is b) got bad (skip s) e)
  where
    by : ((eqb (first (skip s)) b ≡ true) × (got (first (skip s)) (tail (skip s)) ≡ got c w)) ⊎ ((eqb (first (skip s)) b ≡ false) × (bad (skip s) ≡ got c w)) → Ends s w
    by (inl q) = after-byte s w (got-rest q.1)
    by (inr q) = absurd (not-bad q.1)

pub ends-sep : {B : Type 0} (close : ℕ) (b : B) (g : B → B) (s : Bytes) (w : Step B) (v : Bytes) → sep close b g s ≡ got w v → Ends s v
unfolding sep
ends-sep close b g s w v e = by (on-inv (is close) _ _ (skip s) e)
  where
    by₂ : ((eqb (first (skip s)) 44 ≡ true) × (got (more g) (tail (skip s)) ≡ got w v)) ⊎ ((eqb (first (skip s)) 44 ≡ false) × (bad (skip s) ≡ got w v)) → Ends s v
    by₂ (inl q) = after-byte s v (got-rest q.1)
    by₂ (inr q) = absurd (not-bad q.1)

    by : ((eqb (first (skip s)) close ≡ true) × (got (last b) (tail (skip s)) ≡ got w v)) ⊎ ((eqb (first (skip s)) close ≡ false) × (on (is 44) (λ c t. got (more g) t) bad (skip s) ≡ got w v)) → Ends s v
    by (inl q) = after-byte s v (got-rest q.1)
    by (inr q) = by₂ (on-inv (is 44) _ _ (skip s) q.1)

pub ends-value : (d : ℕ) (s : Bytes) (j : Json) (w : Bytes) → value d s ≡ got j w → Ends s w
ends-value d s j w e = let x = (reads-value d).good s j w e in (x.0, x.1)

pub ends-name : (s k w : Bytes) → name s ≡ got k w → Ends s w
unfolding name
ends-name s k w e =
    let i = bind_inv (token 34 s) _ e in
    let j = bind_inv (characters i.1) _ i.3 in
    let l = bind_inv (token 58 j.1) _ j.3 in
    let x = reads-characters.good i.1 j.0 j.1 j.2 in
    subst (Ends s) (got-rest l.3) (ends-then (ends-token 34 s i.0 i.1 i.2) (ends-then (x.0, x.1) (ends-token 58 j.1 l.0 l.1 l.2)))

-- ---- the end of a text by its length, and what stands before it

pub end-by-length : (s w : Bytes) → Ends s w → drop (length s - length w) s ≡ w
end-by-length s w h =
    let n : length s - length w ≡ length h.0 = omega (arith, ap length h.1, length-append h.0 w) in
    ap (λ (i : ℕ). drop i s) n ∙ ap (drop (length h.0)) h.1 ∙ drop-append_seam h.0 w

pub before-by-length : (s w : Bytes) (h : Ends s w) → take (length s - length w) s ≡ h.0
before-by-length s w h =
    let n : length s - length w ≡ length h.0 = omega (arith, ap length h.1, length-append h.0 w) in
    ap (λ (i : ℕ). take i s) n ∙ ap (take (length h.0)) h.1 ∙ take-append_seam h.0 w
