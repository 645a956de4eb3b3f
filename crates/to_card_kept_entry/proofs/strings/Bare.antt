-- Strings whose bytes all stand for themselves.
use mathlib.Core.Path.{◌≡◌, sym, ap, subst, ◌∙◌}
use mathlib.Core.Bool.{true}
use mathlib.Core.List.{[], ◌∷◌, ◌++◌, append_assoc, append-nil}
use mathlib.Core.Option.{some}
use Prim.Native.Nat.{ℕ, ◌+◌, ◌-◌, ◌≤◌, ◌<◌}
use native.Mathlib.Omega.{arith}
use lib.ListN.{length, take, drop, get_or}
use Rattle.text.specs.Bytes.{Bytes}
use Rattle.output.specs.Put.{Wrote}
use Rattle.output.specs.Put.{Puts}
use Rattle.json_text.specs.Strings.{before}
use Rattle.json_strings.specs.Decoded.{decoded_at, text_at}
use Rattle.json_strings.proofs.Laws.{quote-at, bare-at}
use Rattle.json_strings.proofs.NextByte.{text-some}
use Rattle.json_strings.proofs.Sixteen.{byte_more}
use Rattle.json_index.specs.Index.{RawByte}
use Rattle.json_index.proofs.Together.{byte-same}
use Rattle.to_card_kept_entry.specs.strings.Strings.{BareText}

module _ (s : Bytes) (at : ℕ) where
  -- the bytes up to a place are those that the string begins with
  pub record BareTo (i : ℕ) : Type 0 where
    pub from : at ≤ i
    pub begins : (x : Bytes) → decoded_at s i ≡ some x → decoded_at s at ≡ some (take (i - at) (drop at s) ++ x)

  pub bare-none : BareTo at
  bare-none = record { from = omega arith; begins = λ x e. let z : at - at ≡ 0 = omega arith in rw z e }

  pub bare-more : {i : ℕ} → BareTo i → i < length s → RawByte (get_or s i 0) true → BareTo (i + 1)
  bare-more {i} f l w =
      let b = get_or s i 0 in
      let n = i - at in
      let here : at + n ≡ i = omega (arith, f.from) in
      let next : n + 1 ≡ i + 1 - at = omega (arith, f.from) in
      let whole : take n (drop at s) ++ (b ∷ []) ≡ take (i + 1 - at) (drop at s)
      = ap (λ (j : ℕ). take n (drop at s) ++ (get_or s j 0 ∷ [])) (sym here) ∙ byte_more s at n (omega arith) ∙ ap (λ (j : ℕ). take j (drop at s)) next
      in
      record {
        from = omega (arith, f.from);
        begins = λ x e.
            f.begins (b ∷ x) (bare-at s i b (byte-same s i l) w.2 w.3 w.0 w.1 ∙ ap (before (b ∷ [])) e)
            ∙ ap some (sym (append_assoc (take n (drop at s)) (b ∷ []) x) ∙ ap (λ (y : Bytes). y ++ x) whole);
      }

  pub bare_ends : {i : ℕ} → BareTo i → i < length s → get_or s i 0 ≡ 34 → BareText s at i
  bare_ends {i} f l q = record {
    from = f.from;
    within = omega arith;
    is = text-some s at _ (f.begins [] (quote-at s i (get_or s i 0) (byte-same s i l) q)) ∙ append-nil (take (i - at) (drop at s));
  }

-- what is copied of them is what the string stands for
pub bare-puts : {s : Bytes} {at e : ℕ} → BareText s at e → {room last : Bytes} {r : Wrote} → Puts room (take (e - at) (drop at s)) r last → Puts room (text_at s at) r last
bare-puts f {room} {last} {r} p = subst (λ (x : Bytes). Puts room x r last) (sym f.is) p
