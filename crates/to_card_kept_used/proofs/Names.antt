-- The member that a pointer points at.
use mathlib.Core.Path.{◌≡◌, refl, sym, ap, ◌∙◌}
use mathlib.Core.Bool.{Bool, false, ◌||◌}
use mathlib.Core.List.{List, [], ◌∷◌, map}
use Prim.Native.Nat.{ℕ, ◌-◌, ◌≤◌}
use native.Mathlib.Omega.{arith}
use lib.ListN.{length, take, drop}
use Rattle.text.specs.Choice.{with-some}
use Rattle.text.specs.Bytes.{Bytes, any, same, among, keep}
use Rattle.text.proofs.Cases.{by_bool, not-both}
use Rattle.text.proofs.Same.{same_true}
use Rattle.json_text.specs.Tree.{Member, member, name_of}
use Rattle.output.specs.Put.{Wrote, full}
use Rattle.std.specs.Prelude.{Ok, Err}
use Rattle.output.specs.Put.{Puts}
use Rattle.output.proofs.Laws.{said-full}
use Rattle.json_has.specs.Has.{named}
use Rattle.to_card_kept_names.specs.Groups.{names_of, HasName}
use Rattle.to_card_kept_names.proofs.Groups.{group-last}
use Rattle.convert.specs.Table.{reserved}
use Rattle.convert.specs.FromJson.{other_members}
use Rattle.convert_pointer.specs.Name.{name_in}
use Rattle.convert_pointer.proofs.Pointers.{is_name, no_longer}
use Rattle.class_member.proofs.Values.{written}
use Rattle.to_card_kept_used.specs.Used.{PointerUsed}

-- a name that no member of the table has is one of the others
others-have : (n : Bytes) → among n reserved ≡ false → (ms : List Member) → named n ms ≡ among n (map name_of (other_members ms))
unfolding keep among any
others-have n h [] = refl
others-have n h (member k v ∷ ms) =
    by_bool (among k reserved)
    (λ e. rw e (
    let z : same n k ≡ false = by_bool (same n k) (λ q. not-both e (ap (λ x. among x reserved) (sym (same_true n k q)) ∙ h)) (λ q. q) in
    rw z (others-have n h ms)))
    (λ e. rw e (ap (λ b. same n k || b) (others-have n h ms)))

module _ (s p scratch : Bytes) {w : Wrote} {out : Bytes} (puts : Puts scratch (name_in p) w out) where
  pub pointer-full : length p ≤ length scratch → w ≡ (Err full) → (r : Bool) → PointerUsed s p r
  pointer-full l e r n q =
      absurd (omega (arith, said-full scratch (name_in p) (sym puts.said ∙ e), ap length (is_name p n q), no_longer p n q))

  pub pointer_read : (slots : List ℕ) (k : ℕ) → w ≡ Ok k → (r : Bool) → HasName s slots 7 (take (k - 0) (drop 0 out)) r → PointerUsed s p r
  pointer_read slots k e r g n q u v ms t o =
      let z : take (k - 0) (drop 0 out) ≡ n = (written k puts e).1 ∙ is_name p n q in
      g (names_of v) (group-last s slots v t) ∙ ap (λ x. among x (names_of v)) z ∙ ap (λ y. among n (with-some y (map name_of) [])) o ∙ others-have n u ms
