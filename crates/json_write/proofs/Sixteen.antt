-- Bytes that stand for themselves: looked at without an early way out, and copied so.
use mathlib.Core.Path.{◌≡◌, sym, ap, ◌∙◌}
use mathlib.Core.Bool.{Bool, true, ◌&&◌}
use mathlib.Core.List.{[], ◌∷◌, ◌++◌, append_assoc}
use Prim.Native.Nat.{ℕ, ◌+◌, ◌<◌}
use native.Mathlib.Nat.{add-zero}
use native.Mathlib.Omega.{arith}
use lib.ListN.{length, take, drop, get_or}
use Rattle.text.specs.Bytes.{Bytes}
use Rattle.text.specs.Reader.{taken}
use Rattle.text.proofs.Cases.{and_left, and_right}
use Rattle.output.specs.Put.{Rest}
use Rattle.json_strings.proofs.Sixteen.{byte_more, Copies}
use Rattle.json_write.specs.Pieces.{bare, BareFor}
use Rattle.json_write.proofs.Spelling.{bare-on}

module _ (s : Bytes) (at : ℕ) where
  pub bare-none : BareFor s at 0
  bare-none = rw (add-zero at)

  pub bare-more : (k : ℕ) (all is : Bool) → at + k < length s → is ≡ bare (get_or s (at + k) 0) → (all ≡ true → BareFor s at k)
      → all && is ≡ true → BareFor s at (k + 1)
  bare-more k all is h b so e =
      let n : at + k + 1 ≡ at + (k + 1) = omega arith in
      so (and_left all is e) ∙
      ap (λ (y : Bytes). take k (drop at s) ++ y) (bare-on s (at + k) h (sym b ∙ and_right all is e)) ∙
      sym (append_assoc (take k (drop at s)) (get_or s (at + k) 0 ∷ []) (taken bare (drop (at + k + 1) s))) ∙
      ap (λ (y : Bytes). y ++ taken bare (drop (at + k + 1) s)) (byte_more s at k h) ∙
      ap (λ (m : ℕ). take (k + 1) (drop at s) ++ taken bare (drop m s)) n

  -- n of them are copied
  pub rest-copied : {room whole out after : Bytes} {to : ℕ} (n : ℕ) → BareFor s at n → Rest room whole (taken bare (drop at s)) to out → Copies s at to out n after
      → Rest room whole (taken bare (drop (at + n) s)) (to + n) after
  rest-copied {room} n run left copied = record {
    x = left.x ++ take n (drop at s);
    so = copied room left.x left.so;
    rest = append_assoc left.x (take n (drop at s)) (taken bare (drop (at + n) s)) ∙ ap (λ (y : Bytes). left.x ++ y) (sym run) ∙ left.rest;
  }
