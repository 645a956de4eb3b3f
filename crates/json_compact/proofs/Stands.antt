-- Parts of a text that are written as they stand.
use mathlib.Core.Path.{◌≡◌, refl, sym, ap, subst, ◌∙◌}
use mathlib.Core.Bool.{Bool, true, false, ◌||◌}
use mathlib.Core.List.{[], ◌∷◌, ◌++◌, append_assoc}
use mathlib.Core.Option.{Option, some}
use Prim.Native.Nat.{ℕ, suc, ◌+◌, ◌-◌, ◌≤◌, ◌<◌}
use native.Mathlib.Numerals.{add-one}
use native.Mathlib.Omega.{arith}
use lib.ListN.{length, take, drop, get_or, length-drop, length-append}
use lib.Seq.{drop-cons, get_or-drop, take_at}
use lib.Dec.{eqb}
use borrow.Author.Tests.{ne_eqb, eqb-true, eqb-false, lt-ltb, le-ltb}
use Rattle.text.specs.Bytes.{Bytes, between}
use Rattle.text.specs.Reader.{got}
use Rattle.text.specs.Places.{byte_at}
use Rattle.std.specs.Prelude.{Ok}
use Rattle.text.proofs.Places.{byte-default, at_next}
use Rattle.text.proofs.Cases.{by_bool, between-true}
use Rattle.text.proofs.Readers.{not-bad, got-rest, got-what, under-inv}
use Rattle.json_text.specs.Grammar.{is_space}
use Rattle.json_text.specs.Strings.{before, decode_after, decode}
use Rattle.json_text.specs.Compact.{spelled_all, quoted}
use Rattle.json_text.specs.Syntax.{characters}
use Rattle.output.proofs.Laws.{split}
use Rattle.json_chars.specs.Strings.{ToEnd, Unmarked}
use Rattle.json_chars.proofs.Laws.{char-end, string-stop}
use Rattle.json_escapes.specs.Units.{units}
use Rattle.json_escapes.proofs.Characters.{in_between, units-same, units-fine, units-quote, units-byte, units-no-byte}
use Rattle.json_write.specs.Pieces.{bare}
use Rattle.json_write.proofs.Spelling.{bare-one}
use Rattle.json_compact.specs.Squeezed.{in_quotes, squeezed}
use Rattle.json_compact.specs.Stands.{Deletes, Stands}
use Rattle.json_compact.proofs.Firsts.{byte-first, string-first}

-- ---- looked for without an early way out

pub deletes-none : (s : Bytes) (from : ℕ) → Deletes s from from false
deletes-none s from k l m = absurd (omega (arith, l, m))

pub deletes-as : (s : Bytes) (from to : ℕ) {r q : Bool} → Deletes s from to r → r ≡ q → Deletes s from to q
deletes-as s from to h e = subst (Deletes s from to) e h

pub deletes-more : (s : Bytes) (from k : ℕ) (r : Bool) → Deletes s from k r → Deletes s from (k + 1) (r || eqb (get_or s k 0) 127)
deletes-more s from k true h = tt
deletes-more s from k false h =
    by_bool (eqb (get_or s k 0) 127) (λ e. subst (Deletes s from (k + 1)) (sym e) tt)
    (λ e. subst (Deletes s from (k + 1)) (sym e)
    (λ i l m q. split k i (λ z. let w : k ≡ i = omega (arith, z, m) in eqb-false (get_or s k 0) 127 e (ap (λ (x : ℕ). get_or s x 0) w ∙ q)) (λ z. h i l z q)))

-- ---- a string with no backslash and no DEL

-- what it stands for, and is written as, is what stands there
abbrev Same : Bytes → Bytes → Bytes → Type 0
Same s us t = (x : Bytes) × (decode us ≡ some x) × (s ≡ x ++ (34 ∷ t)) × (spelled_all x ≡ x)

same_none : (s us t : Bytes) → got [] s ≡ got us t → Same (34 ∷ s) us t
unfolding decode decode_after spelled_all
same_none s us t e = ([], ap decode (sym (got-what e)), ap (λ (x : Bytes). 34 ∷ x) (got-rest e), refl)

same_byte : (c : ℕ) (s us t : Bytes) → c < 256 → bare c ≡ true → Same s us t → Same (c ∷ s) (c ∷ us) t
unfolding decode decode_after spelled_all
same_byte c s us t l b h = (
  c ∷ h.0,
  rw (lt-ltb c 256 l) (ap (before (c ∷ [])) h.1),
  ap (λ (x : Bytes). c ∷ x) h.2,
  ap (λ (y : Bytes). y ++ spelled_all h.0) (sym (bare-one c b)) ∙ ap (λ (y : Bytes). c ∷ y) h.3,
)

bare-not : (c : ℕ) → eqb c 34 ≡ false → eqb c 92 ≡ false → 32 ≤ c → (c ≡ 127 → ⊥) → bare c ≡ true
unfolding bare
bare-not c p q l n = rw (p, q, le-ltb c 32 l, ne_eqb c 127 n)

same-all : (s us t : Bytes) → units s ≡ got us t → ((k : ℕ) → k + length t < length s → (get_or s k 0 ≡ 92 → ⊥) × (get_or s k 0 ≡ 127 → ⊥)) → Same s us t
same-all [] us t e h = absurd (omega (arith, units-fine.less [] us t e))
same-all (c ∷ s) us t e h =
    let first = h 0 (omega (arith, units-fine.less (c ∷ s) us t e)) in
    by_bool (eqb c 34) (λ p. subst (λ (b : ℕ). Same (b ∷ s) us t) (sym (eqb-true c 34 p)) (same_none s us t (sym (units-quote c s p) ∙ e)))
    (λ p. by_bool (eqb c 92) (λ q. absurd (first.0 (eqb-true c 92 q)))
    (λ q. by_bool (between 32 255 c)
    (λ r. let i = under-inv (λ (us : Bytes). c ∷ us) (units s) (sym (units-byte c s p q r) ∙ e) in
    let b = between-true 32 255 c r in
    subst (λ (v : Bytes). Same (c ∷ s) v t) i.2
    (same_byte c s i.0 t (omega (arith, b.1)) (bare-not c p q b.0 first.1) (same-all s i.0 t i.1 (λ k l. h (suc k) (omega (arith, l))))))
    (λ r. absurd (not-bad (sym (units-no-byte c s p q r) ∙ e)))))

-- ---- by place

module _ (s : Bytes) where
  pub stands-none : (at : ℕ) → at ≤ length s → Stands s at at
  stands-none at l = record { from = omega arith; within = l; text = []; is = refl; so = refl }

  pub stands-then : {a b c : ℕ} → Stands s a b → Stands s b c → Stands s a c
  stands-then {a} {b} {c} h k = record {
    from = omega (arith, h.from, k.from);
    within = k.within;
    text = h.text ++ k.text;
    is = h.is ∙ ap (λ (x : Bytes). h.text ++ x) k.is ∙ sym (append_assoc h.text k.text (drop c s));
    so = h.so ∙ ap (λ (x : Bytes). h.text ++ x) k.so ∙ sym (append_assoc h.text k.text (squeezed (drop c s)));
  }

  -- the part of the text that stands there
  pub stands-part : {at to : ℕ} (h : Stands s at to) → take (to - at) (drop at s) ≡ h.text
  stands-part {at} {to} h =
      let size = simp (length-drop, length-append, length-drop) at (ap length h.is) in
      ap (take (to - at)) h.is ∙ take_at h.text (drop to s) (to - at) (omega (arith, size, h.from, h.within))

  module _ (i : ℕ) (l : i < length s) (b : ℕ) (is : b ≡ byte_at s i) where
    here : drop i s ≡ b ∷ drop (i + 1) s
    here = rw (drop-cons s i 256 l, ← is, ← add-one i)

    pub stands-byte : b < 256 → is_space b ≡ false → (b ≡ 34 → ⊥) → Stands s i (i + 1)
    stands-byte m p q = record {
      from = omega arith;
      within = omega arith;
      text = b ∷ [];
      is = here;
      so = ap squeezed here ∙ byte-first b (drop (i + 1) s) p (ne_eqb b 34 q) (in_between 0 255 b (omega arith) (omega arith));
    }

    -- the string at i, whose closing quote is at e
    module _ (e : ℕ) (m : e < length s) (c : ℕ) (f : c ≡ byte_at s e) (p : c ≡ 34) where
      usual : Unmarked s (i + 1) e → Deletes s (i + 1) e false → (k : ℕ) → i + 1 ≤ k → k < e + 1 → (get_or s k 0 ≡ 92 → ⊥) × (get_or s k 0 ≡ 127 → ⊥)
      usual u d k l n =
          split e k
          (λ z. let w : get_or s k 0 ≡ 34 = ap (λ (x : ℕ). get_or s x 0) (omega (arith, z, n)) ∙ byte-default s e 0 256 m ∙ sym f ∙ p in
          (λ x. omega (arith, w, x), λ x. omega (arith, w, x)))
          (λ z. ((u k l z).2, d k l z))

      pub stands-string : b ≡ 34 → i + 1 ≤ e → ToEnd s (i + 1) e → Unmarked s (i + 1) e → Deletes s (i + 1) e false → Stands s i (e + 1)
      unfolding quoted
      stands-string q from g u d =
          let to = e + 1 in
          let a = at_next (characters (drop (i + 1) s)) (g (Ok to) (string-stop s e (Ok to) (char-end s e c f p (omega arith)))) in
          let quote : drop i s ≡ 34 ∷ drop (i + 1) s = here ∙ ap (λ (x : ℕ). x ∷ drop (i + 1) s) q in
          let w = same-all (drop (i + 1) s) a.0 (drop to s) (units-same (drop (i + 1) s) a.0 (drop to s) a.1)
          (λ k n. let z = usual u d (i + 1 + k) (omega arith) (omega (arith, n, length-drop (i + 1) s, length-drop to s)) in
          (λ x. z.0 (sym (get_or-drop (i + 1) s k 0) ∙ x), λ x. z.1 (sym (get_or-drop (i + 1) s k 0) ∙ x))) in
          record {
            from = omega (arith, from);
            within = omega arith;
            text = 34 ∷ (w.0 ++ (34 ∷ []));
            is = quote ∙ ap (λ (x : Bytes). 34 ∷ x) (w.2 ∙ sym (append_assoc w.0 (34 ∷ []) (drop to s)));
            so = ap squeezed quote ∙ string-first (drop (i + 1) s) a.0 (drop to s) a.1 ∙ ap (λ (o : Option Bytes). in_quotes o ++ squeezed (drop to s)) w.1
                ∙ ap (λ (x : Bytes). (34 ∷ (x ++ (34 ∷ []))) ++ squeezed (drop to s)) w.3;
          }
