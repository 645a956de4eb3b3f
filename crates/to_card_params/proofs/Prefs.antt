-- The pref of an entry: the ways out of its reader, and PREF.
use mathlib.Core.Path.{◌≡◌, refl, sym, ap, subst, ◌∙◌}
use Rattle.std.specs.Prelude.{Err}
use Rattle.to_card_pen.specs.Refusal.{no_card}
use mathlib.Core.Bool.{Bool, true, false}
use mathlib.Core.List.{[], ◌++◌}
use mathlib.Core.Option.{Option, none, some}
use Prim.Native.Nat.{ℕ, suc, ◌-◌, ◌≤◌, ◌<◌}
use native.Mathlib.Omega.{arith}
use lib.ListN.{length, take, drop}
use lib.Seq.{drop-cons}
use borrow.Author.Tests.{lt-ltb, le-ltb, le-leb, lt-leb}
use Rattle.text.specs.Choice.{with-some, chain, provided}
use Rattle.text.specs.Bytes.{Bytes, ascii, empty}
use Rattle.text.proofs.Cases.{split, not-both}
use Rattle.text.proofs.Choices.{some_same}
use Rattle.json_text.specs.Tree.{Json, jnull, jtrue, jfalse, jnum, jstr, jarr, jobj, as_number}
use Rattle.json_text.specs.Strings.{decoded}
use Rattle.json_access.specs.declared.Kind.{Kind}
use Rattle.json_access.specs.declared.Part.{Part}
use Rattle.json_access.specs.Access.{TellsKind, TellsElement, Inside, kind_of}
use Rattle.json_index.specs.Index.{json_at}
use Rattle.json_index.proofs.Objects.{at-inv}
use Rattle.line_pen.specs.Pen.{Pens}
use Rattle.line_pen.proofs.Laws.{pens-as, pens-none}
use Rattle.convert.specs.Value.{is_pref}
use Rattle.to_card_params.specs.Params.{code_of, pref_in, span_of, PrefAs, TellsPref, pref_piece, Sought, pref_at}
use Rattle.to_card_params.proofs.Walk.{slot-none, slot-some, kind-told}

pub span-past : (s : Bytes) (a e : ℕ) → length s < e → [] ≡ span_of s a e
unfolding span_of
span-past s a e h = rw (lt-leb e (length s) h)

pub span_none : (s : Bytes) (a e : ℕ) → e ≤ length s → e ≤ a → [] ≡ span_of s a e
unfolding span_of
span_none s a e h l = rw (le-leb e (length s) h, le-ltb a e l)

pub span-some : (s : Bytes) (a e : ℕ) → e ≤ length s → a < e → take (e - a) (drop a s) ≡ span_of s a e
unfolding span_of
span-some s a e h l = rw (le-leb e (length s) h, lt-ltb a e l)

pref-as : (s : Bytes) (r : Sought) {o p : Option Bytes} → o ≡ p → PrefAs s r p → PrefAs s r o
pref-as s r e x = subst (PrefAs s r) (sym e) x

no_number : (v : Json) → (code_of (kind_of v) ≡ 3 → ⊥) → as_number v ≡ none
no_number jnull n = refl
no_number jtrue n = refl
no_number jfalse n = refl
no_number (jnum x) n = absurd (n refl)
no_number (jstr x) n = refl
no_number (jarr x) n = refl
no_number (jobj x) n = refl

a-number : (v : Json) → code_of (kind_of v) ≡ 3 → (x : Bytes) × (v ≡ jnum x)
a-number jnull e = absurd (omega (arith, e))
a-number jtrue e = absurd (omega (arith, e))
a-number jfalse e = absurd (omega (arith, e))
a-number (jnum x) e = (x, refl)
a-number (jstr x) e = absurd (omega (arith, e))
a-number (jarr x) e = absurd (omega (arith, e))
a-number (jobj x) e = absurd (omega (arith, e))

-- a pref is not empty
pref-filled : (s : Bytes) (a e : ℕ) → is_pref (take (e - a) (drop a s)) ≡ true → a < e
unfolding is_pref
pref-filled s a e h = split e a (λ l. let z : e - a ≡ 0 = omega arith in let y : false ≡ true = rw z at h in not-both y refl) (λ l. l)

module _ (s : Bytes) (slot : ℕ) where
  pub pref-absent : slot ≡ 0 → TellsPref s slot (pref_at 0 0)
  unfolding pref_in
  pref-absent e o h = pref-as s (pref_at 0 0) (ap (λ (x : Option Json). with-some x (λ v. chain (as_number v) λ p. provided (is_pref p) (some p)) (some [])) (slot-none h e))
      (0, 0, refl, sym (span_none s 0 0 (omega arith) (omega arith)))

  module _ (n : slot ≡ 0 → ⊥) (kd : Kind) (kt : TellsKind s slot kd) (v : ℕ) (vc : v ≡ code_of kd) where
    pref-value : (r : Sought) → ((j : Json) → json_at 13 s slot ≡ some j → PrefAs s r (chain (as_number j) λ p. provided (is_pref p) (some p))) → TellsPref s slot r
    unfolding pref_in
    pref-value r g o h = let j = slot-some h n in pref-as s r (ap (λ (x : Option Json). with-some x (λ v. chain (as_number v) λ p. provided (is_pref p) (some p)) (some [])) j.1) (g j.0 j.2)

    pub pref-other : (v ≡ 3 → ⊥) → TellsPref s slot (Err no_card)
    pref-other m = pref-value (Err no_card) (λ j e. pref-as s (Err no_card) (ap (λ (x : Option Bytes). chain x λ p. provided (is_pref p) (some p)) (no_number j (λ z. m (vc ∙ ap code_of (kind-told 12 s slot kd kt j e) ∙ z)))) refl)

    module _ (q : v ≡ 3) (r : Part) (told : TellsElement 13 s slot r) (inside : Inside slot (length s) r.start r.end) where
      number-here : (j : Json) → json_at 13 s slot ≡ some j → j ≡ jnum (take (r.end - r.start) (drop r.start s))
      unfolding decoded
      number-here j e =
          let u = at-inv 13 s slot j e in
          let x = a-number u.0 (sym (vc ∙ ap code_of (kt 12 u.0 u.1 u.2)) ∙ q) in
          sym (some_same (ap decoded (sym x.1) ∙ u.3)) ∙ ap jnum (sym ((told u.0 u.1 u.2).as-spelled x.0 x.1))

      pub pref-bad : is_pref (take (r.end - r.start) (drop r.start s)) ≡ false → TellsPref s slot (Err no_card)
      pref-bad b = pref-value (Err no_card) (λ j e. pref-as s (Err no_card) (ap (λ (x : Json). chain (as_number x) λ p. provided (is_pref p) (some p)) (number-here j e) ∙ ap (λ (u : Bool). provided u (some (take (r.end - r.start) (drop r.start s)))) b) refl)

      pub pref-good : is_pref (take (r.end - r.start) (drop r.start s)) ≡ true → TellsPref s slot (pref_at r.start r.end)
      pref-good b = pref-value (pref_at r.start r.end) (λ j e. pref-as s (pref_at r.start r.end) (ap (λ (x : Json). chain (as_number x) λ p. provided (is_pref p) (some p)) (number-here j e) ∙ ap (λ (u : Bool). provided u (some (take (r.end - r.start) (drop r.start s)))) b)
          (r.start, r.end, refl, sym (span-some s r.start r.end inside.end-in (pref-filled s r.start r.end b))))

-- ---- PREF

piece-none : [] ≡ pref_piece []
unfolding pref_piece
piece-none = refl

pub pens-no-pref : {room : Bytes} {k : ℕ} (x : Bytes) → [] ≡ x → Pens room k (pref_piece x) (record { bytes = 0; column = k }) room
pens-no-pref {room} {k} x e = pens-as (piece-none ∙ ap pref_piece e) (pens-none room k)

part-some : (s : Bytes) (a e : ℕ) → e ≤ length s → a < e → empty (take (e - a) (drop a s)) ≡ false
part-some s a e h l =
    let n : e - a ≡ suc (e - suc a) = omega arith in
    let m : a < length s = omega arith in
    rw (n, drop-cons s a 0 m)

pub pref-piece : (s : Bytes) (a e : ℕ) → e ≤ length s → a < e → ascii ";PREF=" ++ take (e - a) (drop a s) ≡ pref_piece (span_of s a e)
unfolding pref_piece
pref-piece s a e h l = rw (← span-some s a e h l, part-some s a e h l)
