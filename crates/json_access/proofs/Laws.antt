-- Laws of members and elements, over plain values.
use mathlib.Core.Path.{◌≡◌, refl, sym, ap, ◌∙◌}
use mathlib.Core.Bool.{Bool, false}
use mathlib.Core.List.{[], ◌∷◌, ◌++◌}
use Prim.Native.Nat.{ℕ, zero, suc, ◌-◌, ◌≤◌}
use native.Mathlib.Omega.{arith}
use lib.ListN.{length, take, drop, length-drop, length-append}
use lib.Seq.{take-append_seam}
use Rattle.text.specs.Places.{Read}
use Rattle.std.specs.Prelude.{Ok, Err}
use Rattle.text.specs.Bytes.{Bytes}
use Rattle.text.specs.Reader.{Got, got, past}
use Rattle.text.specs.Places.{Gives, Passes}
use Rattle.text.proofs.Places.{by_bool, at-bad, at_next}
use Rattle.text.proofs.Fine.{not-bad, got-rest, bind_inv}
use Rattle.json_text.specs.Grammar.{is_space}
use Rattle.json_text.specs.Tree.{Json, jnum}
use Rattle.json_text.specs.Syntax.{skip, token, characters, name, scalar, value}
use Rattle.json_text.specs.Strings.{decode}
use Rattle.json_text.proofs.AsSpelled.{number_spelled}
use Rattle.json_marks.proofs.Laws.{skip-to}
use Rattle.json_skip.specs.Skip.{quoted, Leaves}
use Rattle.json_skip.proofs.Strings.{characters-leads}
use Rattle.json_strings.specs.Decoded.{decoded_at}
use Rattle.json_strings.proofs.Names.{name-string}
use Rattle.json_access.specs.declared.Head.{Head}
use Rattle.json_access.specs.Access.{place_of, Stands, EndsAt, TellsHead, TellsMember}

past-past : (p : ℕ → Bool) (t : Bytes) → past p (past p t) ≡ past p t
unfolding past
past-past p [] = refl
past-past p (c ∷ t) = by_bool (p c) (λ e. rw e (past-past p t)) (λ e. rw (e, e))

pub value-skip : (d : ℕ) (t : Bytes) → value d (skip t) ≡ value d t
unfolding value skip
value-skip zero t = ap scalar (past-past is_space t)
value-skip (suc d) t = rw (past-past is_space t)

pub place_in : {A : Type 0} (s : Bytes) (at : ℕ) (want : Got A) (r : Read) → Gives s at want r → (at ≤ place_of r) × (place_of r ≤ length s)
place_in s at want (Ok e) g = g.within
place_in s at want (Err b) g = g.within

as-next : {A : Type 0} (s : Bytes) (at : ℕ) (want : Got A) (r : Read) {a : A} {t : Bytes} → Gives s at want r → want ≡ got a t → Gives s at want (Ok (place_of r))
as-next s at want (Ok e) g q = g
as-next s at want (Err b) g q = absurd (not-bad (sym (at-bad want g) ∙ q))

-- ---- where a value stands

module _ (d : ℕ) (s t : Bytes) {a x : ℕ} (b : skip t ≡ drop a s) (l : a ≤ length s) (h : x ≤ length s) (g : EndsAt d s a x) where
  -- a number takes as many bytes as its spelling has
  spelling : (u y : Bytes) → value d t ≡ got (jnum y) u → u ≡ drop x s → take (x - a) (drop a s) ≡ y
  spelling u y w q =
      let c : drop a s ≡ y ++ u = sym b ∙ number_spelled y u d t w in
      let n : length y ≡ x - a = omega (arith, ap length c, length-append y u, ap length q, length-drop a s, length-drop x s) in
      ap (λ (i : ℕ). take i (drop a s)) (sym n) ∙ ap (take (length y)) c ∙ take-append_seam y u

  pub stands : (j : Json) (u : Bytes) → value d t ≡ got j u → Stands s t j u a x
  stands j u w =
      let q : u ≡ drop x s = g j u (ap (value d) (sym b) ∙ value-skip d t ∙ w) in
      record {
        begins = b;
        ends = q;
        as-spelled = λ y e. spelling u y (w ∙ ap (λ (k : Json). got k u) e) q;
      }

-- a member by where its name and its value begin, and where its value ends
pub head-member : (d : ℕ) (s : Bytes) (at : ℕ) (h : Head) (x : ℕ) → TellsHead s at h → h.start ≤ length s → x ≤ length s → EndsAt d s h.start x
    → TellsMember d s at (record { name = h.name; start = h.start; end = x })
head-member d s at h x g l m f k t e j u w = let p = g k t e in (p.0, stands d s t p.1 l m f j u w)

-- the name of a member, and where its value begins
module _ (s : Bytes) (at : ℕ) {r : Read} (g : Gives s at (token 34 (drop at s)) r) (k t : Bytes) (e : name (drop at s) ≡ got k t) {q : ℕ} (eq : q ≡ place_of r) where
  opened : Gives s at (token 34 (drop at s)) (Ok (place_of r))
  unfolding name
  opened = as-next s at (token 34 (drop at s)) r g (bind_inv (token 34 (drop at s)) _ e).2

  pub name-is : decoded_at s q ≡ decode k
  name-is = ap (decoded_at s) eq ∙ name-string s at k t e (place_of r) opened

  -- what is left after the colon
  after-colon : (z : ℕ) → Leaves s q (quoted false (drop q s)) z → (r' : Read) → Gives s z (token 58 (drop z s)) r' → t ≡ drop (place_of r') s
  unfolding name
  after-colon z l r' g' =
      let i = bind_inv (token 34 (drop at s)) _ e in
      let j = bind_inv (characters i.1) _ i.3 in
      let m = bind_inv (token 58 j.1) _ j.3 in
      let first : i.1 ≡ drop q s = got-rest (sym i.2 ∙ (at_next (token 34 (drop at s)) opened).1) ∙ ap (λ (x : ℕ). drop x s) (sym eq) in
      let past-string : j.1 ≡ drop z s = sym (characters-leads i.1 j.0 j.1 j.2) ∙ ap (quoted false) first ∙ l.is in
      let colon : token 58 (drop z s) ≡ got m.0 m.1 = ap (token 58) (sym past-string) ∙ m.2 in
      sym (got-rest m.3) ∙ got-rest (sym colon ∙ (at_next (token 58 (drop z s)) (as-next s z (token 58 (drop z s)) r' g' colon)).1)

  pub value-begins : (z : ℕ) → Leaves s q (quoted false (drop q s)) z → (r' : Read) → Gives s z (token 58 (drop z s)) r' → {v a : ℕ} → v ≡ place_of r' → Passes is_space s v a → skip t ≡ drop a s
  value-begins z l r' g' ev h = ap skip (after-colon z l r' g' ∙ ap (λ (i : ℕ). drop i s) (sym ev)) ∙ skip-to h
