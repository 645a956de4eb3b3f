-- Prints of keys: where no print is equal, no key is.
use mathlib.Core.Path.{◌≡◌, refl, sym, ap, ◌∙◌}
use mathlib.Core.Bool.{false}
use mathlib.Core.List.{List}
use Prim.Native.Nat.{ℕ, zero, suc, ◌*◌, ◌≤◌, ◌<◌}
use native.Mathlib.Omega.{arith}
use lib.Dec.{eqb}
use lib.ListN.{get_or}
use borrow.Author.Tests.{eqb-true}
use Rattle.text.specs.Bytes.{Bytes, any}
use Rattle.text.proofs.Cases.{by_bool, and_left, and_right}
use Rattle.text.proofs.Same.{same_true}
use Rattle.json_prints.specs.Prints.{printed, Absent}
use Rattle.convert.specs.Classify.{id, is_id}
use Rattle.from_card_seen.specs.Ids.{key_at, ids_at, IdTable}

module _ {bytes ids prints : List ℕ} {n : ℕ} (t : IdTable bytes ids prints n) (i p : ℕ) (key : Bytes) (is : p ≡ printed i key) (absent : Absent prints p 0 n false) where
  differs : (k : ℕ) → k < n → is_id i key (id (get_or ids (3 * k) 0) (key_at bytes ids k)) ≡ false
  differs k l =
      by_bool (is_id i key (id (get_or ids (3 * k) 0) (key_at bytes ids k)))
      (λ e.
      let j : i ≡ get_or ids (3 * k) 0 = eqb-true i (get_or ids (3 * k) 0) (and_left _ _ e) in
      let w : key ≡ key_at bytes ids k = same_true key (key_at bytes ids k) (and_right (eqb i (get_or ids (3 * k) 0)) _ e) in
      absurd (absent k (omega arith) l (t.print k l ∙ sym (is ∙ ap (λ x. printed x key) j ∙ ap (printed (get_or ids (3 * k) 0)) w))))
      (λ e. e)

  none_below : (k : ℕ) → k ≤ n → any (is_id i key) (ids_at bytes ids k) ≡ false
  unfolding ids_at any
  none_below zero l = refl
  none_below (suc k) l = rw (differs k (omega arith)) (none_below k (omega arith))

  pub unprinted : any (is_id i key) (ids_at bytes ids n) ≡ false
  unprinted = none_below n (omega arith)
