-- Laws of values, over plain values: one for each way through the code.
use mathlib.Core.Path.{◌≡◌, refl, ap}
use Prim.Native.Nat.{ℕ, zero, suc, ◌+◌, ◌-◌, ◌≤◌}
use native.Mathlib.Omega.{arith}
use lib.ListN.{length, drop}
use borrow.Author.Tests.{eq-eqb, ne_eqb}
use Rattle.text.specs.Places.{Read}
use Rattle.std.specs.Prelude.{Ok}
use Rattle.text.specs.Places.{Turn}
use Rattle.text.specs.Bytes.{Bytes, is}
use Rattle.text.specs.Reader.{Got, on, loop, one}
use Rattle.text.specs.Places.{byte_at, Gives, GivesT, Passes}
use Rattle.text.proofs.Places.{same-as, up, here, by-under, by-on, not_on, turn-next, bind-under}
use Rattle.json_text.specs.Grammar.{is_space}
use Rattle.json_text.specs.Tree.{Json, jnull, enil, econs, mnil, mcons}
use Rattle.json_text.specs.Syntax.{four, scalar, sep, name, item, elements, pair, pairs, value}
use Rattle.json_marks.proofs.Laws.{skip-to, sep-any}
use Rattle.json_scan.proofs.First.{as-flat, as-scalar, as-array, as-object}

-- ---- literals: what they stand for plays no part in where they end
pub four-any : (a b c d : ℕ) (j : Json) {s : Bytes} {at : ℕ} {r : Read} → Gives s at (four a b c d jnull (drop at s)) r → Gives s at (four a b c d j (drop at s)) r
unfolding four
four-any a b c d j {s} {at} h =
    same-as (bind-under f (one a (drop at s)) _ _ λ x t. bind-under f (one b t) _ _ λ x t. bind-under f (one c t) _ _ λ x t. bind-under f (one d t) _ _ λ x t. refl) (by-under f h)
  where
    f : Json → Json
    f x = j

-- ---- arrays and objects
module _ (rd : Bytes → Got Json) {s : Bytes} {at i : ℕ} (h : Passes is_space s at i) (b : ℕ) (e : b ≡ byte_at s i) where
  pub elements-none : b ≡ 93 → i + 1 ≤ length s → Gives s at (elements rd (drop at s)) (Ok (i + 1))
  unfolding elements
  elements-none q l = same-as (ap (on (is 93) _ _) (skip-to h)) (up h.from (by-on (is 93) _ _ e (eq-eqb _ _ q) (here enil (i + 1) l)))

  pub elements-from : (b ≡ 93 → ⊥) → {r : Read} → Gives s i (loop (item rd) (drop i s)) r → Gives s at (elements rd (drop at s)) r
  unfolding elements
  elements-from n x = same-as (ap (on (is 93) _ _) (skip-to h)) (up h.from (not_on (is 93) _ _ e (ne_eqb _ _ n) x))

  pub pairs-none : b ≡ 125 → i + 1 ≤ length s → Gives s at (pairs rd (drop at s)) (Ok (i + 1))
  unfolding pairs
  pairs-none q l = same-as (ap (on (is 125) _ _) (skip-to h)) (up h.from (by-on (is 125) _ _ e (eq-eqb _ _ q) (here mnil (i + 1) l)))

  pub pairs-from : (b ≡ 125 → ⊥) → {r : Read} → Gives s i (loop (pair rd) (drop i s)) r → Gives s at (pairs rd (drop at s)) r
  unfolding pairs
  pairs-from n x = same-as (ap (on (is 125) _ _) (skip-to h)) (up h.from (not_on (is 125) _ _ e (ne_eqb _ _ n) x))

-- after an element, and after a member's value
pub item-sep : (rd : Bytes → Got Json) {s : Bytes} {at e : ℕ} {w : Turn} → Gives s at (rd (drop at s)) (Ok e) → GivesT s e (sep 93 zero suc (drop e s)) w → GivesT s at (item rd (drop at s)) w
unfolding item
item-sep rd h x = turn-next _ h (λ j. sep-any zero suc (econs j enil) (econs j) 93 x)

pub pair-sep : (rd : Bytes → Got Json) {s : Bytes} {at v e : ℕ} {w : Turn} → Gives s at (name (drop at s)) (Ok v) → Gives s v (rd (drop v s)) (Ok e)
    → GivesT s e (sep 125 zero suc (drop e s)) w → GivesT s at (pair rd (drop at s)) w
unfolding pair
pair-sep rd g h x = turn-next _ g (λ k. turn-next _ h (λ j. sep-any zero suc (mcons k j mnil) (mcons k j) 125 x))

-- ---- a value, by its first byte
module _ {s : Bytes} {at i : ℕ} (h : Passes is_space s at i) where
  pub value-flat : (d : ℕ) → d ≡ 0 → {r : Read} → Gives s i (scalar (drop i s)) r → Gives s at (value d (drop at s)) r
  value-flat d q x = same-as (as-flat s at i h d q) (up h.from x)

  module _ (b : ℕ) (e : b ≡ byte_at s i) (d : ℕ) where
    pub value-array : (d ≡ 0 → ⊥) → b ≡ 91 → {r : Read} → Gives s (i + 1) (elements (value (d - 1)) (drop (i + 1) s)) r → Gives s at (value d (drop at s)) r
    value-array n q x = same-as (as-array s i b e at h d n q) (up (omega (arith, h.from)) (by-under _ x))

    pub value-object : (d ≡ 0 → ⊥) → (b ≡ 91 → ⊥) → b ≡ 123 → {r : Read} → Gives s (i + 1) (pairs (value (d - 1)) (drop (i + 1) s)) r → Gives s at (value d (drop at s)) r
    value-object n m q x = same-as (as-object s i b e at h d n m q) (up (omega (arith, h.from)) (by-under _ x))

    pub value-scalar : (b ≡ 91 → ⊥) → (b ≡ 123 → ⊥) → {r : Read} → Gives s i (scalar (drop i s)) r → Gives s at (value d (drop at s)) r
    value-scalar m o x = same-as (as-scalar s i b e at h d m o) (up h.from x)
