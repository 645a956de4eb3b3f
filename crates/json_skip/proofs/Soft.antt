-- A run of bytes in a string that are neither a quote nor a backslash.
use mathlib.Core.Path.{◌≡◌, refl, ap, ◌∙◌}
use mathlib.Core.Bool.{true, false, ◌||◌}
use mathlib.Core.List.{[], ◌∷◌}
use Prim.Native.Nat.{ℕ, ◌≤◌, ◌<◌}
use native.Mathlib.Omega.{arith}
use lib.Dec.{eqb}
use lib.ListN.{length, drop, get_or}
use lib.Seq.{drop-drop}
use borrow.Author.Tests.{eqb-true, ne_eqb}
use Rattle.text.specs.Bytes.{Bytes}
use Rattle.text.specs.Reader.{taken}
use Rattle.text.proofs.Cases.{by_bool, not-false}
use Rattle.text_words.specs.Words.{soft}
use Rattle.text_words.proofs.Meanings.{soft-is}
use Rattle.text_words.proofs.Runs.{run_end, run-within, run-last}
use Rattle.json_skip.specs.Skip.{quoted}
use Rattle.json_skip.proofs.Steps.{quoted-plain}

plain : (c : ℕ) (l : Bytes) → soft c ≡ true → quoted false (c ∷ l) ≡ quoted false l
plain c l e = let z = soft-is c e in quoted-plain c l z.0 z.1

soft-quoted : (l : Bytes) → quoted false l ≡ quoted false (drop (length (taken soft l)) l)
unfolding taken
soft-quoted [] = refl
soft-quoted (c ∷ l) = by_bool (soft c) (λ e. rw e (plain c l e ∙ soft-quoted l)) (λ e. rw e)

-- not a quote, so a backslash
pub hard : (c : ℕ) → soft c ≡ false → (c ≡ 34 → ⊥) → c ≡ 92
unfolding soft
hard c e n = let z = not-false (eqb c 34 || eqb c 92) e in eqb-true c 92 (rw (ne_eqb c 34 n) at z)

-- what is known at the end of a run
pub record Paused (s : Bytes) (at i : ℕ) : Type 0 where
  pub from : at ≤ i
  pub to : i ≤ length s
  pub same : quoted false (drop at s) ≡ quoted false (drop i s)
  pub stops : i < length s → soft (get_or s i 0) ≡ false

pub paused : (s : Bytes) (at i r : ℕ) → (at ≤ i) × (i ≤ length s) × (quoted false (drop at s) ≡ quoted false (drop i s)) → r ≡ run_end soft s i → Paused s at r
paused s at i r h e = record {
  from = omega (arith, h.0);
  to = omega (arith, run-within soft s i h.1);
  same = h.2 ∙ rw e (soft-quoted (drop i s) ∙ ap (quoted false) (drop-drop (length (taken soft (drop i s))) i s));
  stops = rw e (run-last soft s i h.1);
}
