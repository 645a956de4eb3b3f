-- What is accepted is of the grammar.
use mathlib.Core.Path.{◌≡◌, refl, sym, ap, subst, ◌∙◌}
use mathlib.Core.Bool.{true, false}
use mathlib.Core.List.{[], ◌∷◌, ◌++◌, append_assoc, append-nil}
use mathlib.Core.Logic.{◌⊎◌, inl, inr}
use Prim.Native.Nat.{ℕ, ◌<◌}
use native.Mathlib.Omega.{arith}
use lib.Dec.{eqb}
use borrow.Author.Tests.{eqb-true, ltb-true}
use Rattle.text.specs.Bytes.{Bytes, ascii, is, between, all}
use Rattle.text.specs.Reader.{got, bad, first, on, when, past}
use Rattle.text.proofs.Cases.{and_left, and_right}
use Rattle.text.proofs.Lists.{all_append}
use Rattle.text.proofs.Characters.{is_byte}
use Rattle.text.proofs.Readers.{not-bad, got-rest, bind_inv, when-inv}
use Rattle.json_text.specs.Tree.{Json, jnull, jnum}
use Rattle.json_text.specs.Grammar.{Exactly, ◌then◌, is_space, is_e, Ws, Value, Text}
use Rattle.json_text.specs.Syntax.{skip, opt, int, frac, exp, number, scalar, value, text}
use Rattle.json_grammar.proofs.Forms.{Reads, reads-got, reads-bad, reads_as, reads-bind}
use Rattle.json_grammar.proofs.Tests.{reads-when}
use Rattle.json_grammar.proofs.Lists.{no-ws}
use Rattle.json_grammar.proofs.Nested.{reads-skip, reads-value}

whole : (d : ℕ) (u : Bytes) → ((Ws then Value d) then Ws then Exactly []) u → Text d u
unfolding Text
whole d u x =
    let v = x.3 in
    let w = x.4 in
    let e : x.1 ≡ w.0 = w.2 ∙ ap (λ (z : Bytes). w.0 ++ z) w.4 ∙ append-nil w.0 in
    (v.0, v.1 ++ w.0, x.2 ∙ ap (λ (z : Bytes). z ++ x.1) v.2 ∙ ap (λ (z : Bytes). (v.0 ++ v.1) ++ z) e ∙ append_assoc v.0 v.1 w.0, v.3, (v.1, w.0, refl, v.4, w.3))

pub reads-text : (d : ℕ) → Reads (λ (j : Json). Text d) (text d)
unfolding text
reads-text d =
    reads_as (λ j u x. whole d u x)
    (reads-bind (reads-value d) (λ j. reads-skip {L = λ (j : Json). Exactly []} (reads-when (is 256) (reads-got j refl) reads-bad) (jnull, [], refl)) (jnull, [], ([], [], refl, no-ws, refl)))

pub accepts-only : (d : ℕ) (s : Bytes) (j : Json) → text d s ≡ got j [] → Text d s
accepts-only d s j e = let x = (reads-text d).good s j [] e in subst (Text d) (sym (x.1 ∙ append-nil x.0)) x.2

-- ---- of bytes, nothing is left

-- 256 stands for the end
ends-256 : (d : ℕ) (s : Bytes) (j : Json) (t : Bytes) → text d s ≡ got j t → first t ≡ 256
unfolding text
ends-256 d s j t e =
    let i = bind_inv (value d s) _ e in
    by i.0 (skip i.1) (when-inv (is 256) (got i.0) bad (skip i.1) i.3)
  where
    by : (v : Json) (w : Bytes) → ((eqb (first w) 256 ≡ true) × (got v w ≡ got j t)) ⊎ ((eqb (first w) 256 ≡ false) × (bad w ≡ got j t)) → first t ≡ 256
    by v w (inl q) = ap first (sym (got-rest q.1)) ∙ eqb-true (first w) 256 q.0
    by v w (inr q) = absurd (not-bad q.1)

no_byte : (t : Bytes) → all is_byte t ≡ true → first t ≡ 256 → t ≡ []
unfolding all
no_byte [] h e = refl
no_byte (c ∷ t) h e = let l : c < 256 = ltb-true c 256 (and_left _ _ h) in absurd (omega (arith, l, e))

none_left : (d : ℕ) (s : Bytes) (j : Json) (t : Bytes) → all is_byte s ≡ true → text d s ≡ got j t → t ≡ []
none_left d s j t h e =
    let x = (reads-text d).good s j t e in
    no_byte t (and_right (all is_byte x.0) _ (sym (all_append is_byte x.0 t) ∙ ap (all is_byte) (sym x.1) ∙ h)) (ends-256 d s j t e)

pub accepts-bytes : (d : ℕ) (s : Bytes) (j : Json) (t : Bytes) → all is_byte s ≡ true → text d s ≡ got j t → Text d s
accepts-bytes d s j t h e = accepts-only d s j (e ∙ ap (got j) (none_left d s j t h e))

-- 256 is no byte: a list that has it is read as if it ended there
not-bytes : text 0 (48 ∷ 256 ∷ []) ≡ got (jnum (ascii "0")) (256 ∷ [])
unfolding text value skip past is_space scalar number opt int frac exp on when is_e between
not-bytes = refl
