-- The reader accepts the grammar, and refuses at the first byte at which no JSON can still follow.
use mathlib.Core.Path.{◌≡◌, refl, sym, ap, subst, ◌∙◌}
use mathlib.Core.Bool.{true}
use mathlib.Core.List.{[], ◌∷◌, ◌++◌, append_assoc, append-nil}
use mathlib.Core.Logic.{◌⊎◌, inl, inr, ◌↔◌}
use mathlib.Core.Option.{Option, none, some}
use Prim.Native.Nat.{ℕ, zero, suc, ◌-◌, ◌≤◌, ◌<◌}
use native.Mathlib.Omega.{arith}
use lib.ListN.{length, take, length-append}
use lib.Seq.{take-append_seam}
use lib.Dec.{ltb}
use Rattle.text.specs.Choice.{pick, with-some}
use Rattle.text.specs.Bytes.{Bytes, all}
use Rattle.text.specs.Reader.{Got, got, bad}
use Rattle.text.proofs.Cases.{by_bool, tests}
use Rattle.text.proofs.Characters.{is_byte}
use Rattle.text.proofs.Readers.{not-bad}
use Rattle.json_text.specs.Tree.{Json}
use Rattle.json_text.specs.Grammar.{Text, Completes, FirstBad}
use Rattle.json_text.specs.Syntax.{text}
use Rattle.json_text.specs.Strings.{decoded, distinct_names}
use Rattle.json_text.specs.Read.{tree, refused, sound, reading_of, reading}
use Rattle.json_grammar.proofs.Forms.{Short}
use Rattle.json_grammar.proofs.Lists.{no-ws}
use Rattle.json_grammar.proofs.Nested.{has_value}
use Rattle.json_grammar.specs.Claims.{ReadsGrammar, FailsFirst}
use Rattle.json_grammar.proofs.Accepted.{reads-text, accepts-only, accepts-bytes}
use Rattle.json_grammar.proofs.Reached.{accepts-all}

-- ---- acceptance

pub reads-grammar : (d : ℕ) (s : Bytes) → ReadsGrammar d s
reads-grammar d s = (accepts-all d s, λ x. accepts-only d s x.0 x.1)

-- of bytes, whatever is left
pub reads-grammar-bytes : (d : ℕ) (s : Bytes) → all is_byte s ≡ true → Text d s ↔ ((j : Json) × (t : Bytes) × (text d s ≡ got j t))
reads-grammar-bytes d s h = (λ x. let a = accepts-all d s x in (a.0, [], a.1), λ x. accepts-bytes d s x.0 x.1 h x.2)

-- ---- the place

not-refused : (d : ℕ) (s t : Bytes) → text d s ≡ bad t → Text d s → ⊥
not-refused d s t e x = let a = accepts-all d s x in not-bad (sym e ∙ a.1)

has-text : (d : ℕ) → Completes d []
unfolding Completes Text
has-text d = let v = has_value d in (v.0, ([], v.0, refl, no-ws, (v.0, [], sym (append-nil v.0), v.1, no-ws)))

completes : (d : ℕ) (u : Bytes) → Short (λ (j : Json). Text d) u → Completes d u
unfolding Completes
completes d u (inl e) = subst (Completes d) (sym e) (has-text d)
completes d u (inr q) = (q.0, q.2)

take_next : (u r : Bytes) (c : ℕ) → take (suc (length u)) (u ++ c ∷ r) ≡ u ++ c ∷ []
take_next [] r c = refl
take_next (b ∷ u) r c = ap (λ (z : Bytes). b ∷ z) (take_next u r c)

module _ (d : ℕ) (u t : Bytes) (e : text d (u ++ t) ≡ bad t) (short : Short (λ (j : Json). Text d) u) (firm : (c : ℕ) (r q : Bytes) → t ≡ c ∷ r → text d (u ++ c ∷ q) ≡ bad (c ∷ q)) where
  no_more : (r : Bytes) → t ≡ r → length u < length (u ++ t) → Completes d (take (suc (length u)) (u ++ t)) → ⊥
  unfolding Completes
  no_more [] h l x = let r : length t ≡ 0 = ap length h in absurd (omega (arith, length-append u t))
  no_more (c ∷ r) h l x =
      let k : take (suc (length u)) (u ++ t) ≡ u ++ c ∷ [] = ap (λ (z : Bytes). take (suc (length u)) (u ++ z)) h ∙ take_next u r c in
      not-refused d (u ++ c ∷ x.0) (c ∷ x.0) (firm c r x.0 h) (subst (Text d) (ap (λ (z : Bytes). z ++ x.0) k ∙ append_assoc u (c ∷ []) x.0) x.1)

  place_at : FirstBad d (u ++ t) (length u)
  place_at = record {
    within = omega (arith, length-append u t);
    before = subst (Completes d) (sym (take-append_seam u t)) (completes d u short);
    no_text = not-refused d (u ++ t) t e;
    with_it = no_more t refl;
  }

pub place-first : (d : ℕ) (s : Bytes) → FailsFirst d s
place-first d s t e =
    let x = (reads-text d).fail s t e in
    let n : length x.0 ≡ length s - length t = omega (arith, ap length x.1, length-append x.0 t) in
    subst (FirstBad d s) n (subst (λ (z : Bytes). FirstBad d z (length x.0)) (sym x.1) (place_at d x.0 t (ap (text d) (sym x.1) ∙ e) x.2 x.3))

-- ---- there is one such place

prefix : (i m : ℕ) (s : Bytes) → i ≤ m → (b : Bytes) × (take m s ≡ take i s ++ b)
prefix zero m s l = (take m s, refl)
prefix (suc i) zero s l = absurd (omega arith)
prefix (suc i) (suc m) [] l = ([], refl)
prefix (suc i) (suc m) (c ∷ s) l = let p = prefix i m s (omega arith) in (p.0, ap (λ (z : Bytes). c ∷ z) p.1)

shorter : (d : ℕ) (a b : Bytes) → Completes d (a ++ b) → Completes d a
unfolding Completes
shorter d a b x = (b ++ x.0, subst (Text d) (append_assoc a b x.0) x.1)

not-before : (d : ℕ) (s : Bytes) (n m : ℕ) → FirstBad d s n → FirstBad d s m → n < m → ⊥
not-before d s n m x y l =
    let p = prefix (suc n) m s l in
    x.with_it (omega (arith, y.within)) (shorter d (take (suc n) s) p.0 (subst (Completes d) p.1 y.before))

pub one_place : (d : ℕ) (s : Bytes) (n m : ℕ) → FirstBad d s n → FirstBad d s m → n ≡ m
one_place d s n m x y =
    by_bool (ltb n m) (λ e. absurd (not-before d s n m x y (omega tests))) (λ e. by_bool (ltb m n) (λ f. absurd (not-before d s m n y x (omega tests))) (λ f. omega tests))

-- ---- reading

refused-at : {m n : ℕ} → refused m ≡ refused n → m ≡ n
refused-at e = cc

no-tree : {j : Json} {n : ℕ} → tree j ≡ refused n → ⊥
no-tree e = let r : ◌≡◌ {A = ℕ} 0 1 = cc in omega arith

sound-place : (j : Json) (p : ℕ) → sound j ≡ refused p → p ≡ 0
unfolding sound
sound-place j p e = by (decoded j) e
  where
    by : (x : Option Json) → with-some x (λ k. pick (distinct_names k) (tree k) (refused 0)) (refused 0) ≡ refused p → p ≡ 0
    by none f = sym (refused-at f)
    by (some k) f = by_bool (distinct_names k) (λ n. absurd (no-tree (rw n at f))) (λ n. sym (refused-at (rw n at f)))

-- a refusal's place is the first byte that does not fit; or the text is JSON, and the place is 0
pub reading-place : (d : ℕ) (s : Bytes) (p : ℕ) → all is_byte s ≡ true → reading d s ≡ refused p → FirstBad d s p ⊎ (Text d s × (p ≡ 0))
unfolding reading
reading-place d s p h e = by (text d s) refl e
  where
    by : (x : Got Json) → text d s ≡ x → reading_of (length s) x ≡ refused p → FirstBad d s p ⊎ (Text d s × (p ≡ 0))
    by (got j t) q f = inr (accepts-bytes d s j t h q, sound-place j p f)
    by (bad t) q f = inl (subst (FirstBad d s) (refused-at f) (place-first d s t q))

-- and where there is such a byte, the text is refused at it
pub place-refused : (d : ℕ) (s : Bytes) (p : ℕ) → all is_byte s ≡ true → FirstBad d s p → reading d s ≡ refused p
unfolding reading
place-refused d s p h x = by (text d s) refl
  where
    by : (y : Got Json) → text d s ≡ y → reading_of (length s) y ≡ refused p
    by (got j t) q = absurd (x.no_text (accepts-bytes d s j t h q))
    by (bad t) q = ap refused (one_place d s (length s - length t) p (place-first d s t q) x)
