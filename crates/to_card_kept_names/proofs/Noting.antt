-- The pass that notes the names of an object, over plain values.
use mathlib.Core.Path.{◌≡◌, refl, sym, ap, subst, ◌∙◌}
use mathlib.Core.Bool.{Bool, true}
use mathlib.Core.List.{List, [], ◌∷◌, ◌++◌, map, append-nil, append_assoc}
use mathlib.Core.Option.{Option, some}
use Prim.Native.Nat.{ℕ, suc, ◌+◌, ◌<◌}
use native.Mathlib.Omega.{arith}
use lib.ListN.{length, take, set}
use Rattle.text.specs.Choice.{with-some}
use Rattle.text.specs.Bytes.{Bytes}
use Rattle.json_text.specs.Tree.{Json, Member as Named, name_of, as_object}
use Rattle.json_strings.specs.Decoded.{decoded_at}
use Rattle.json_prints.specs.Prints.{print_of, Names}
use Rattle.json_prints.proofs.Prints.{names-noted, no_names}
use Rattle.json_access.specs.Access.{EndsAt}
use Rattle.json_walk.specs.declared.Member.{Member}
use Rattle.json_walk.specs.declared.Member.TheVariants.{At, End, NoObject}
use Rattle.json_walk.specs.Walk.{json_at, TellsMembers, FirstOf, NextOf}
use Rattle.json_walk.proofs.Laws.{told-member, told-end, told_none, Over}
use Rattle.std.specs.Prelude.{Some}
use Rattle.to_card_kept_names.specs.Groups.{names_of, NotesName, NotesNames}

-- ---- one name

pub name-noted : (s : Bytes) (at k : ℕ) (ps fs : List ℕ) (p : ℕ) → k < length ps → length ps ≡ length fs → p ≡ print_of 0 (decoded_at s at) → NotesName s at k ps fs true (set ps k at) (set fs k p)
name-noted s at k ps fs p l m e = (l, λ ns n h q. names-noted s n ps fs k at p ns l (omega (arith, m)) h q (e ∙ ap (print_of 0) q))

pub noted-as : (s : Bytes) (at k : ℕ) (ps fs after afters : List ℕ) (r : Bool) → NotesName s at k ps fs r after afters → r ≡ true → NotesName s at k ps fs true after afters
noted-as s at k ps fs after afters r h e = subst (λ (b : Bool). NotesName s at k ps fs b after afters) e h

-- ---- the names so far

-- the first k rows note all names but those of the members that are left
pub record Left (d : ℕ) (s : Bytes) (ps fs : List ℕ) (k : ℕ) (ns : List Bytes) (r : Member) : Type 0 where
  pub members : Option (List Named)
  pub after : Bytes
  pub told : TellsMembers d s members after r
  pub done : List Bytes
  pub noted : Names s (take k ps) (take k fs) done
  pub all : ns ≡ done ++ with-some members (map name_of) []

abbrev pub Noting : ℕ → Bytes → ℕ → List ℕ → List ℕ → ℕ → Member → Type 0
Noting d s at ps fs k r = (v : Json) → json_at (suc d) s at ≡ some v → Left d s ps fs k (names_of v) r

pub noting-first : (d : ℕ) (s : Bytes) (at : ℕ) (ps fs : List ℕ) (r : Member) → FirstOf s at r → Noting d s at ps fs 0 r
noting-first d s at ps fs r h v e = let x = h d v e in record { members = as_object v; after = x.0; told = x.2; done = []; noted = no_names s ps fs; all = refl }

module _ (d : ℕ) (s : Bytes) (at : ℕ) (ps fs : List ℕ) (k : ℕ) (r : Member) (noting : Noting d s at ps fs k r) where
  -- the name of the first that is left is noted too
  pub noting-on : (q a : ℕ) → r ≡ At q a → (after afters : List ℕ) → NotesName s q k ps fs true after afters → (z : ℕ) → EndsAt d s a z → (next : Member) → NextOf s z next
      → Noting d s at after afters (k + 1) next
  noting-on q a is-r after afters note z ends next told v e =
      let y = noting v e in
      let x = told-member d s y.after y.members q a (subst (TellsMembers d s y.members y.after) is-r y.told) in
      let f = x.2 in
      let l : with-some y.members (map name_of) [] ≡ f.key ∷ map name_of f.others = ap (λ (o : Option (List Named)). with-some o (map name_of) []) x.1 ∙ ap (map name_of) f.is in
      record {
        members = some f.others;
        after = y.after;
        told = told d f.others y.after (f.left z ends);
        done = y.done ++ (f.key ∷ []);
        noted = note.1 y.done f.key y.noted f.is-key;
        all = y.all ∙ ap (λ ns. y.done ++ ns) l ∙ sym (append_assoc y.done (f.key ∷ []) (map name_of f.others));
      }

  -- no member is left
  pub noting-last : Over r → NotesNames d s at (Some k) ps fs
  noting-last h v e =
      let y = noting v e in
      let l : with-some y.members (map name_of) [] ≡ [] = none_left y.members y.after r h y.told in
      subst (Names s (take k ps) (take k fs)) (sym (y.all ∙ ap (λ ns. y.done ++ ns) l ∙ append-nil y.done)) y.noted
    where
      none_left : (o : Option (List Named)) (t : Bytes) (x : Member) → Over x → TellsMembers d s o t x → with-some o (map name_of) [] ≡ []
      none_left o t (At q a) h told = absurd h
      none_left o t (End z) h told = ap (λ (o : Option (List Named)). with-some o (map name_of) []) (told-end d s t o z told).0
      none_left o t NoObject h told = ap (λ (o : Option (List Named)). with-some o (map name_of) []) (told_none d s t o told)
