-- Bytes that stand for themselves: told, and copied one after the other.
use mathlib.Core.Path.{◌≡◌, refl, sym, ap, subst, ◌∙◌}
use mathlib.Core.Bool.{Bool, true, false, not, ◌&&◌, ◌||◌}
use mathlib.Core.List.{[], ◌∷◌, ◌++◌, append_assoc}
use mathlib.Core.Option.{Option, some}
use Prim.Native.Nat.{ℕ, zero, suc, ◌+◌, ◌-◌, ◌≤◌, ◌<◌}
use native.Mathlib.Omega.{arith}
use lib.ListN.{length, take, drop, get_or, set}
use lib.Seq.{drop-cons}
use borrow.Author.Tests.{not-false}
use borrow.Rule.Slice.PartMut.{mid_of, put_mid}
use Rattle.text.specs.Bytes.{Bytes}
use Rattle.text.specs.Places.{byte_at}
use Rattle.text.proofs.Cases.{and_left, and_right}
use Rattle.output.specs.Put.{Rest}
use Rattle.output.proofs.Laws.{split, start, byte, next, done}
use Rattle.output.proofs.Rests.{rest-as, rest-next}
use Rattle.json_strings.specs.declared.Byte.TheVariants.{One}
use Rattle.json_strings.specs.Decoded.{left, weight}
use Rattle.json_strings.specs.Bare.{BareByte, Copied}
use Rattle.json_strings.proofs.Laws.{bare-at, left-raw}
use Rattle.json_strings.proofs.NextByte.{one_left}
use Rattle.json_strings.proofs.Sixteen.{byte_more, Copies}

pub bare-told : (b : ℕ) (quote backslash low high : Bool) → (quote ≡ false → b ≡ 34 → ⊥) → (backslash ≡ false → b ≡ 92 → ⊥) → (low ≡ false → 32 ≤ b) → (high ≡ false → b < 256)
    → BareByte b (not (quote || backslash || low || high))
bare-told b true w l h f g i j = tt
bare-told b false true l h f g i j = tt
bare-told b false false true h f g i j = tt
bare-told b false false false true f g i j = tt
bare-told b false false false false f g i j = (i refl, j refl, f refl, g refl)

-- where the code goes on after its test
pub bare-taken : (b : ℕ) (r : Bool) → BareByte b r → not r ≡ false → BareByte b true
bare-taken b r h n = subst (BareByte b) (not-false r n) h

-- ---- looked at without an early way out

-- n bytes from a place on stand for themselves
abbrev pub BareFor : Bytes → ℕ → ℕ → Type 0
BareFor s at n = (k : ℕ) → k < n → BareByte (get_or s (at + k) 0) true

module _ (s : Bytes) (at : ℕ) where
  pub bare-none : BareFor s at 0
  bare-none k h = absurd (omega arith)

  pub bare-more : (n : ℕ) (all is : Bool) → BareByte (get_or s (at + n) 0) is → (all ≡ true → BareFor s at n) → all && is ≡ true → BareFor s at (n + 1)
  bare-more n all is b so e k h =
      split n k
      (λ l. let z : n ≡ k = omega arith in subst (λ m. BareByte (get_or s (at + m) 0) true) z (subst (BareByte (get_or s (at + n) 0)) (and_right all is e) b))
      (λ l. so (and_left all is e) k l)

-- ---- what is still to come, where no bytes are held

module _ (s : Bytes) where
  at_place : {p q : ℕ} → p ≡ q → {x : Option Bytes} → left s q 0 ≡ x → left s p 0 ≡ x
  at_place e f = ap (λ (p : ℕ). left s p 0) e ∙ f

  -- its first n bytes are text
  abbrev Comes : ℕ → ℕ → Bytes → Type 0
  Comes at n text = (x : Bytes) → left s at 0 ≡ some x → (todo : Bytes) × (left s (at + n) 0 ≡ some todo) × (x ≡ text ++ todo)

  comes-then : (at n m : ℕ) (t u : Bytes) → Comes at n t → Comes (at + n) m u → Comes at (n + m) (t ++ u)
  comes-then at n m t u f g x e =
      let a = f x e in
      let b = g a.0 a.1 in
      (b.0, at_place (omega arith) b.1, a.2 ∙ ap (λ (y : Bytes). t ++ y) b.2 ∙ sym (append_assoc t u b.0))

  -- a byte that stands for itself
  comes-byte : (at b : ℕ) → b ≡ byte_at s at → BareByte b true → Comes at 1 (b ∷ [])
  comes-byte at b e w x f = one_left s {r = One b (at + 1) 0} (left-raw s at b (at + 1) (bare-at s at b e w.2 w.3 w.0 w.1)) x f refl

  -- n of them
  comes-run : (at n : ℕ) → at + n ≤ length s → BareFor s at n → Comes at n (take n (drop at s))
  comes-run at zero l w = λ x f. (x, at_place (omega arith) f, refl)
  comes-run at (suc n) l w =
      let h : at + n < length s = omega arith in
      let m : n + 1 ≡ suc n = omega arith in
      let here : get_or s (at + n) 0 ≡ byte_at s (at + n) = cc (drop-cons s (at + n) 0 h, drop-cons s (at + n) 256 h) in
      let before = comes-run at n (omega arith) (λ k i. w k (omega arith)) in
      let last = comes-byte (at + n) (get_or s (at + n) 0) here (w n (omega arith)) in
      subst (λ k. Comes at k (take k (drop at s))) m (subst (Comes at (n + 1)) (byte_more s at n h) (comes-then at n 1 (take n (drop at s)) (get_or s (at + n) 0 ∷ []) before last))

-- ---- a copy

pub copied_none : (s : Bytes) (at h : ℕ) (room : Bytes) → at ≤ length s → Copied s at h room 0 room
copied_none s at h room l = record {
  within = omega arith;
  text = [];
  so = start room;
  rest = λ x e. (x, ap (λ (p : ℕ). left s p h) (let z : at + 0 ≡ at = omega arith in z) ∙ e, refl);
}

module _ (s : Bytes) (at : ℕ) {room out : Bytes} {n : ℕ} (c : Copied s at 0 room n out) where
  -- one byte more
  pub copied-one : (b : ℕ) → b ≡ byte_at s (at + n) → BareByte b true → at + n < length s → n < length out → Copied s at 0 room (n + 1) (set out n b)
  copied-one b e w l m = record {
    within = omega arith;
    text = c.text ++ (b ∷ []);
    so = byte b c.so m;
    rest = comes-then s at n 1 c.text (b ∷ []) c.rest (comes-byte s (at + n) b e w);
  }

  -- m bytes more at once
  pub copied-run : {after : Bytes} (m : ℕ) → at + n + m ≤ length s → BareFor s (at + n) m → Copies s (at + n) n out m after → Copied s at 0 room (n + m) after
  copied-run m l w copied = record {
    within = omega arith;
    text = c.text ++ take m (drop (at + n) s);
    so = copied room c.text c.so;
    rest = comes-then s at n m c.text (take m (drop (at + n) s)) c.rest (comes-run s (at + n) m l w);
  }

  -- and those that were copied into the rest of the room
  pub copied-then : {m : ℕ} {last : Bytes} → Copied s (at + n) 0 (mid_of n (length out - n) out) m last → Copied s at 0 room (n + m) (put_mid n (length out - n) out last)
  copied-then {m} d = record {
    within = omega (arith, d.within);
    text = c.text ++ d.text;
    so = next c.so (done d.so) refl;
    rest = comes-then s at n m c.text d.text c.rest d.rest;
  }

pub copied-held : (s : Bytes) (at : ℕ) {h n : ℕ} {room out : Bytes} → h ≡ 0 → Copied s at 0 room n out → Copied s at h room n out
copied-held s at {n = n} {room = room} {out = out} z c = subst (λ k. Copied s at k room n out) (sym z) c

-- what is still to come after a copy into the rest of the room
pub copied-rest : (s : Bytes) (i h : ℕ) {room whole todo out last : Bytes} {k n : ℕ}
    → left s i h ≡ some todo → Rest room whole todo k out → Copied s i h (mid_of k (length out - k) out) n last
    → (more : Bytes) × (left s (i + n) h ≡ some more) × Rest room whole more (k + n) (put_mid k (length out - k) out last)
copied-rest s i h {todo = todo} e r c = let t = c.rest todo e in (t.0, t.1, rest-next t.0 (rest-as t.2 r) (done c.so) refl)

-- and its weight does not grow
pub weight-on : (s : Bytes) (i h n : ℕ) → weight s (i + n) h ≤ weight s i h
unfolding weight
weight-on s i h n = omega arith
