-- What the code found at a place, as the definitions say it.
use mathlib.Core.Path.{◌≡◌, sym, ap, ◌∙◌}
use Prim.Native.Nat.{ℕ, zero, suc, ◌+◌, ◌≤◌, ◌<◌}
use native.Mathlib.Omega.{arith}
use lib.ListN.{length, drop, drop_of_length-le}
use Rattle.text.specs.Places.{Read}
use Rattle.std.specs.Prelude.{Ok, Err}
use Rattle.std.proofs.Common.{Break}
use Rattle.text.specs.Bytes.{Bytes}
use Rattle.text.specs.Reader.{first, past}
use Rattle.text.specs.Places.{byte_at, Within, GivesT, Passes}
use Rattle.text.proofs.Places.{first-drop}
use Rattle.json_text.specs.Grammar.{is_space}
use Rattle.json_text.specs.Syntax.{skip, sep}
use Rattle.json_marks.proofs.Laws.{skip-to}
use Rattle.json_access.specs.Access.{place_of}
use Rattle.json_walk.specs.Walk.{Opens, NoneOpens, Closes}

module _ (s : Bytes) (at : ℕ) where
  -- nothing opens past the end
  pub none-past : length s < at → (opening : ℕ) → (256 ≡ opening → ⊥) → NoneOpens s at opening
  unfolding skip past
  none-past h opening n e = n (sym (ap (λ (t : Bytes). first (skip t)) (drop_of_length-le s {i = at} (omega arith))) ∙ e)

  module _ (i b : ℕ) (h : Passes is_space s at i) (e : b ≡ byte_at s i) (opening : ℕ) where
    pub none_here : (b ≡ opening → ⊥) → NoneOpens s at opening
    none_here n q = n (e ∙ sym (ap first (skip-to h) ∙ first-drop s i) ∙ q)

    pub opens-here : b ≡ opening → (j : ℕ) → Passes is_space s (i + 1) j → Opens s at opening j
    opens-here q j k = record { mark = i; to-mark = h; is-mark = sym e ∙ q; inside = k }

  pub closes_here : (close z : ℕ) (r : Read) → GivesT s at (sep close zero suc (drop at s)) (Break r) → z ≡ place_of r → Closes s at close z
  closes_here close z r h q l = (r, h, q)

  -- the place at which the code stopped is within the text
  pub stop-in : (close z : ℕ) (r : Read) → GivesT s at (sep close zero suc (drop at s)) (Break r) → z ≡ place_of r → (at ≤ length s → at ≤ z) × (z ≤ length s)
  stop-in close z r h q = by r h.within q
    where
      by : (r : Read) → Within at (length s) r → z ≡ place_of r → (at ≤ length s → at ≤ z) × (z ≤ length s)
      by (Ok e) w q = ((λ l. omega (arith, w.0)), omega (arith, w.1))
      by (Err b) w q = ((λ l. omega (arith, w.0)), omega (arith, w.1))
