-- Laws of the marks, over plain values.
use mathlib.Core.Path.{◌≡◌, ap, ◌∙◌}
use mathlib.Core.Bool.{Bool, true, false}
use mathlib.Core.List.{tail}
use Prim.Native.Nat.{ℕ, ◌+◌, ◌≤◌}
use native.Mathlib.Omega.{arith}
use lib.ListN.{length, drop}
use lib.Dec.{eqb}
use borrow.Author.Tests.{eq-eqb, ne_eqb}
use Rattle.text.specs.Places.{Turn}
use Rattle.std.proofs.Common.{Continue, Break}
use Rattle.std.specs.Prelude.{Ok, Err}
use Rattle.text.specs.Choice.{pick}
use Rattle.text.specs.Bytes.{Bytes, is}
use Rattle.text.specs.Reader.{got, bad, first, on, more, last}
use Rattle.text.specs.Places.{byte_at, AgreeT, GivesT, Passes}
use Rattle.text.proofs.Places.{same_turn, more-here, last-here, bad-turn, on-yes, on-no}
use Rattle.json_text.specs.Grammar.{is_space}
use Rattle.json_text.specs.Syntax.{skip, sep}

-- white space before a reader
pub skip-to : {s : Bytes} {at i : ℕ} → Passes is_space s at i → skip (drop at s) ≡ drop i s
unfolding skip
skip-to h = h.is

-- what the values are put into plays no part in where a turn ends
module _ {A B : Type 0} (b : B) (g : B → B) (a : A) (f : A → A) where
  agree-any : (p q : Bool) (s t u : Bytes) (r : Turn)
      → AgreeT s (pick p (got (last b) t) (pick q (got (more g) t) (bad u))) r → AgreeT s (pick p (got (last a) t) (pick q (got (more f) t) (bad u))) r
  agree-any true q s t u (Continue j) h = absurd h
  agree-any true q s t u (Break (Ok e)) h = h
  agree-any true q s t u (Break (Err e)) h = absurd h
  agree-any false true s t u (Continue j) h = h
  agree-any false true s t u (Break r) h = absurd h
  agree-any false false s t u (Continue j) h = absurd h
  agree-any false false s t u (Break (Ok e)) h = absurd h
  agree-any false false s t u (Break (Err e)) h = h

  pub sep-any : (close : ℕ) {s : Bytes} {at : ℕ} {r : Turn} → GivesT s at (sep close b g (drop at s)) r → GivesT s at (sep close a f (drop at s)) r
  unfolding sep on
  sep-any close {s} {at} {r} h = record {
    is = agree-any (eqb (first (skip (drop at s))) close) (eqb (first (skip (drop at s))) 44) s (tail (skip (drop at s))) (skip (drop at s)) r h.is;
    within = h.within;
  }

module _ {B : Type 0} (x : B) (g : B → B) {s : Bytes} {at i b close : ℕ} (h : Passes is_space s at i) (e : b ≡ byte_at s i) where
  pub sep-close : b ≡ close → i + 1 ≤ length s → GivesT s at (sep close x g (drop at s)) (Break (Ok (i + 1)))
  unfolding sep
  sep-close q l = same_turn (ap (on (is close) _ _) (skip-to h) ∙ on-yes (is close) s i b e _ _ (eq-eqb _ _ q)) (last-here x (omega (arith, h.from)) l)

  pub sep-comma : (b ≡ close → ⊥) → b ≡ 44 → i + 1 ≤ length s → GivesT s at (sep close x g (drop at s)) (Continue (i + 1))
  unfolding sep
  sep-comma n q l = same_turn (ap (on (is close) _ _) (skip-to h) ∙ on-no (is close) s i b e _ _ (ne_eqb _ _ n) ∙ on-yes (is 44) s i b e _ _ (eq-eqb _ _ q)) (more-here g (omega (arith, h.from)) l)

  pub sep-none : (b ≡ close → ⊥) → (b ≡ 44 → ⊥) → GivesT s at (sep close x g (drop at s)) (Break (Err i))
  unfolding sep
  sep-none n m = same_turn (ap (on (is close) _ _) (skip-to h) ∙ on-no (is close) s i b e _ _ (ne_eqb _ _ n) ∙ on-no (is 44) s i b e _ _ (ne_eqb _ _ m)) (bad-turn h.from h.to)
