-- A pass over an object's members that takes each of them as something: `each f` of what is there.
use mathlib.Core.Path.{◌≡◌, refl, sym, ap, subst, ◌∙◌}
use mathlib.Core.List.{List, [], ◌∷◌, ◌++◌, append-nil, append_assoc}
use mathlib.Core.Option.{Option, none, some}
use Prim.Native.Nat.{ℕ, suc}
use Rattle.text.specs.Choice.{both, chain}
use Rattle.text.specs.Bytes.{Bytes, each}
use Rattle.json_text.specs.Tree.{Json, Member as Named, member, as_object}
use Rattle.json_strings.specs.Decoded.{decoded_at}
use Rattle.json_access.specs.Access.{EndsAt}
use Rattle.json_walk.specs.declared.Member.{Member}
use Rattle.json_walk.specs.declared.Member.TheVariants.{At, End, NoObject}
use Rattle.json_walk.specs.Walk.{json_at, TellsMembers, FirstOf, NextOf}
use Rattle.json_walk.proofs.Laws.{told-member, told-end, told_none}

abbrev pub prepend : {A : Type 0} → List A → Option (List A) → Option (List A)
prepend es none = none
prepend es (some fs) = some (es ++ fs)

pub prepend-nil : {A : Type 0} (o : Option (List A)) → o ≡ prepend [] o
prepend-nil none = refl
prepend-nil (some fs) = refl

pub prepend-one : {A : Type 0} (es : List A) (e : A) (o : Option (List A)) → prepend es (both ◌∷◌ (some e) o) ≡ prepend (es ++ (e ∷ [])) o
prepend-one es e none = refl
prepend-one es e (some fs) = ap some (sym (append_assoc es (e ∷ []) fs))

each-one : {A : Type 0} (f : Named → Option A) (x : Named) (xs : List Named) → each f (x ∷ xs) ≡ both ◌∷◌ (f x) (each f xs)
unfolding each
each-one f x xs = refl

each_none : {A : Type 0} (f : Named → Option A) → each f [] ≡ some []
unfolding each
each_none f = refl

-- so many are done, before the members that an answer tells of
pub record Far {A : Type 0} (f : Named → Option A) (d : ℕ) (s : Bytes) (want : Option (List A)) (r : Member) (done : List A) : Type 0 where
  pub members : Option (List Named)
  pub after : Bytes
  pub told : TellsMembers d s members after r
  pub is-each : want ≡ prepend done (chain members (each f))

pub far-first : {A : Type 0} (f : Named → Option A) (d : ℕ) (s : Bytes) (at : ℕ) (r : Member) → FirstOf s at r → (v : Json) → json_at (suc d) s at ≡ some v → Far f d s (chain (as_object v) (each f)) r []
far-first f d s at r h v e = let x = h d v e in record { members = as_object v; after = x.0; told = x.2; is-each = prepend-nil _ }

-- the member that is told of: what it is taken as, and what is still to come
pub record Now {A : Type 0} (f : Named → Option A) (d : ℕ) (s : Bytes) (want : Option (List A)) (q a : ℕ) (done : List A) : Type 0 where
  pub key : Bytes
  pub val : Json
  pub is-key : decoded_at s q ≡ some key
  pub is-val : json_at d s a ≡ some val
  pub fails : f (member key val) ≡ none → want ≡ none
  pub goes : (y : A) → f (member key val) ≡ some y → (z : ℕ) → EndsAt d s a z → (next : Member) → NextOf s z next → Far f d s want next (done ++ (y ∷ []))

module _ {A : Type 0} {f : Named → Option A} {d : ℕ} {s : Bytes} {want : Option (List A)} {r : Member} {done : List A} (far : Far f d s want r done) where
  pub now_of : (q a : ℕ) → r ≡ At q a → Now f d s want q a done
  now_of q a e =
      let x = told-member d s far.after far.members q a (subst (TellsMembers d s far.members far.after) e far.told) in
      let m = x.2 in
      let g : want ≡ prepend done (both ◌∷◌ (f (member m.key m.val)) (each f m.others)) =
      far.is-each ∙ ap (λ (o : Option (List Named)). prepend done (chain o (each f))) x.1 ∙ ap (prepend done) (ap (each f) m.is ∙ each-one f (member m.key m.val) m.others) in
      record {
        key = m.key;
        val = m.val;
        is-key = m.is-key;
        is-val = m.is-val;
        fails = λ q. g ∙ ap (λ (o : Option A). prepend done (both ◌∷◌ o (each f m.others))) q;
        goes = λ y q z ends next told.
            record {
              members = some m.others;
              after = far.after;
              told = told d m.others far.after (m.left z ends);
              is-each = g ∙ ap (λ (o : Option A). prepend done (both ◌∷◌ o (each f m.others))) q ∙ prepend-one done y (each f m.others);
            };
      }

  pub far-end : (x : ℕ) → r ≡ End x → want ≡ some done
  far-end x e =
      let o = told-end d s far.after far.members x (subst (TellsMembers d s far.members far.after) e far.told) in
      far.is-each ∙ ap (λ (o : Option (List Named)). prepend done (chain o (each f))) o.0 ∙ ap (prepend done) (each_none f) ∙ ap some (append-nil done)

  pub far_none : r ≡ NoObject → want ≡ none
  far_none e =
      let o = told_none d s far.after far.members (subst (TellsMembers d s far.members far.after) e far.told) in
      far.is-each ∙ ap (λ (o : Option (List Named)). prepend done (chain o (each f))) o
