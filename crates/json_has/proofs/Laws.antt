-- Laws of the search for a name, over plain values.
use mathlib.Core.Path.{◌≡◌, refl, sym, ap, subst, ◌∙◌}
use mathlib.Core.Bool.{Bool, true, false, ◌||◌}
use mathlib.Core.List.{List, [], ◌∷◌}
use mathlib.Core.Option.{Option, some}
use Prim.Native.Nat.{ℕ, suc}
use Rattle.text.specs.Choice.{with-some}
use Rattle.text.specs.Bytes.{Bytes, any, same, among}
use Rattle.text.proofs.Same.{among_none}
use Rattle.json_text.specs.Tree.{Json, Member as Named, member, as_object}
use Rattle.json_strings.specs.Decoded.{decoded_at, spells}
use Rattle.json_access.specs.Access.{EndsAt}
use Rattle.json_walk.specs.declared.Member.{Member}
use Rattle.json_walk.specs.declared.Member.TheVariants.{At, End, NoObject}
use Rattle.json_walk.specs.Walk.{json_at, TellsMembers, FirstOf, NextOf}
use Rattle.json_walk.proofs.Laws.{told-member, told-end, told_none, Over}
use Rattle.json_has.specs.Has.{named, has_name, HasMember}

named_none : (n : Bytes) → named n [] ≡ false
named_none n = among_none n

named-cons : (n k : Bytes) (v : Json) (ms : List Named) → named n (member k v ∷ ms) ≡ same n k || named n ms
unfolding among any
named-cons n k v ms = refl

-- the members so far have another name: what is left has it where the whole object does
abbrev pub Seeking : ℕ → Bytes → ℕ → Bytes → Member → Type 0
Seeking d s at n r = (v : Json) → json_at (suc d) s at ≡ some v
    → (o : Option (List Named)) × (t : Bytes) × TellsMembers d s o t r × (has_name n v ≡ with-some o (named n) false)

pub seeking-first : (d : ℕ) (s : Bytes) (at : ℕ) (n : Bytes) (r : Member) → FirstOf s at r → Seeking d s at n r
seeking-first d s at n r h v e = let x = h d v e in (as_object v, x.0, x.2, refl)

module _ (d : ℕ) (s : Bytes) (at : ℕ) (n : Bytes) where
  module _ (m : Member) (seeking : Seeking d s at n m) (q a : ℕ) (is_m : m ≡ At q a) (b : Bool) (is_b : b ≡ spells (decoded_at s q) n) where
    pub found : b ≡ true → HasMember d s at n true
    found h v e =
        let y = seeking v e in
        let x = told-member d s y.1 y.0 q a (subst (TellsMembers d s y.0 y.1) is_m y.2) in
        let f = x.2 in
        let p : same n f.key ≡ true = sym (is_b ∙ ap (λ (o : Option Bytes). spells o n) f.is-key) ∙ h in
        sym (y.3 ∙ ap (λ (o : Option (List Named)). with-some o (named n) false) x.1 ∙ ap (named n) f.is ∙ named-cons n f.key f.val f.others ∙ rw p)

    pub seeking-on : b ≡ false → (z : ℕ) → EndsAt d s a z → (r : Member) → NextOf s z r → Seeking d s at n r
    seeking-on h z g r next v e =
        let y = seeking v e in
        let x = told-member d s y.1 y.0 q a (subst (TellsMembers d s y.0 y.1) is_m y.2) in
        let f = x.2 in
        let p : same n f.key ≡ false = sym (is_b ∙ ap (λ (o : Option Bytes). spells o n) f.is-key) ∙ h in (
          some f.others,
          y.1,
          next d f.others y.1 (f.left z g),
          y.3 ∙ ap (λ (o : Option (List Named)). with-some o (named n) false) x.1 ∙ ap (named n) f.is ∙ named-cons n f.key f.val f.others ∙ rw p,
        )

  -- no member is left
  pub not_found : (r : Member) → Over r → Seeking d s at n r → HasMember d s at n false
  not_found (At q a) h seeking v e = absurd h
  not_found (End x) h seeking v e =
      let y = seeking v e in
      sym (y.3 ∙ ap (λ (o : Option (List Named)). with-some o (named n) false) (told-end d s y.1 y.0 x y.2).0 ∙ named_none n)
  not_found NoObject h seeking v e =
      let y = seeking v e in
      sym (y.3 ∙ ap (λ (o : Option (List Named)). with-some o (named n) false) (told_none d s y.1 y.0 y.2))
