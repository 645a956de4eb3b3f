-- contexts and features: given in any order, printed in the table's.
use mathlib.Core.Path.{◌≡◌, refl, sym, ap, ◌∙◌}
use mathlib.Core.Bool.{Bool, true, false, ◌||◌, not}
use mathlib.Core.List.{List, [], ◌∷◌, ◌++◌, map}
use mathlib.Core.Option.{some}
use Prim.Native.Nat.{ℕ, ◌+◌}
use lib.ListN.{length, get_or, take, drop}
use lib.Dec.{eqb, ltb}
use Rattle.text.specs.Choice.{pick, with-some}
use Rattle.text.specs.Bytes.{Bytes, ascii, any, empty, same, flat, keep, each}
use Rattle.text.proofs.Cases.{by_bool, by_below, up_to, not-both}
use Rattle.text.proofs.Lists.{any_append, keep-swap}
use Rattle.text.proofs.Same.{same_true}
use Rattle.json_text.specs.Tree.{Json, jtrue, Member, member, field, object, as_object}
use Rattle.convert.specs.Table.{TypeName, feature-type, type_names, json_type, context_codes, feature_codes, in_order, position}
use Rattle.convert.specs.FromJson.{is_true, flag_of, flags_from}
use Rattle.convert.specs.ToJson.{flags_json}
use Rattle.convert.specs.NormalJson.{fields_of, as_is, unless_gone, flags_form}
use Rattle.home.proofs.Known.{on_provided, on_chain, on_map, on_none, on_each, on_optional}
use Rattle.home.proofs.Images.{empty-map}
use Rattle.home.proofs.Positions.{position-passes, position-inside}
use Rattle.home.proofs.Shapes.{true-inv, gone}

abbrev nowhere : TypeName
nowhere = feature-type [] []

-- ---- one flag

on_flag {ℓ} : {P : Type ℓ} (i : ℕ) (ts : List TypeName) (n : Bytes) (j : Json) (x : ℕ) → flag_of i ts (member n j) ≡ some x
    → ((d : ℕ) → ltb d (length ts) ≡ true → i + d ≡ x → n ≡ json_type (get_or ts d nowhere) → j ≡ jtrue → P) → P
on_flag i ts n j x e go =
    on_provided (is_true j) _ e λ t r.
    on_map (λ k. i + k) (position (λ u. same n (json_type u)) ts) r λ d p q.
    go d (position-inside _ ts d p) q (same_true n (json_type (get_or ts d nowhere)) (position-passes (λ u. same n (json_type u)) nowhere ts d p)) (true-inv j t)

module _ (i : ℕ) (ts : List TypeName) (c : ℕ) where
  -- a code of the table is there where its name is
  flag-field : (name : Bytes) → ((d : ℕ) → ltb d (length ts) ≡ true → same (json_type (get_or ts d nowhere)) name ≡ eqb c (i + d)) → (ms : List Member) (xs : List ℕ) → each (flag_of i ts) ms ≡ some xs
      → as_is name ms ≡ pick (any (eqb c) xs) (member name jtrue ∷ []) []
  unfolding field any
  flag-field name h [] xs e = on_none (flag_of i ts) e (λ n. rw (← n))
  flag-field name h (member n j ∷ ms) xs e =
      on_each (flag_of i ts) (member n j) ms e λ x xs p q r.
      on_flag i ts n j x p λ d l s t u.
      let ih = flag-field name h ms xs q in
      rw (← r, ← s, t, u, h d l) (by_bool (eqb c (i + d)) (λ z. rw z) (λ z. rw z ih))

  -- and no other code
  flag-other : ((d : ℕ) → ltb d (length ts) ≡ true → eqb c (i + d) ≡ false) → (ms : List Member) (xs : List ℕ) → each (flag_of i ts) ms ≡ some xs → any (eqb c) xs ≡ false
  unfolding any
  flag-other h [] xs e = on_none (flag_of i ts) e (λ n. rw (← n))
  flag-other h (member n j ∷ ms) xs e =
      on_each (flag_of i ts) (member n j) ms e λ x xs p q r.
      on_flag i ts n j x p λ d l s t u.
      rw (← r, ← s, h d l) (flag-other h ms xs q)

-- ---- the flags of a list of codes

abbrev flag : ℕ → Member
flag c = member (json_type (get_or type_names c nowhere)) jtrue

abbrev Agree : List Member → List ℕ → List ℕ → List TypeName → Type 0
Agree ms l [] [] = Unit {0}
Agree ms l [] (t ∷ ts) = ⊥
Agree ms l (c ∷ cs) [] = ⊥
Agree ms l (c ∷ cs) (t ∷ ts) = (as_is (json_type t) ms ≡ pick (any (eqb c) l) (flag c ∷ []) []) × Agree ms l cs ts

flags-listed : (ms : List Member) (l cs : List ℕ) (ts : List TypeName) → Agree ms l cs ts → map flag (keep (λ c. any (eqb c) l) cs) ≡ flat (map (λ t. as_is (json_type t) ms) ts)
unfolding keep flat
flags-listed ms l [] [] h = refl
flags-listed ms l [] (t ∷ ts) h = absurd h
flags-listed ms l (c ∷ cs) [] h = absurd h
flags-listed ms l (c ∷ cs) (t ∷ ts) h =
    rw h.0 (by_bool (any (eqb c) l) (λ e. rw e (ap (λ (x : List Member). flag c ∷ x) (flags-listed ms l cs ts h.1))) (λ e. rw e (flags-listed ms l cs ts h.1)))

-- codes of one kind, in the table's order
ordered : (kind l : List ℕ) → keep (λ c. any (eqb c) kind) (context_codes ++ feature_codes) ≡ kind → keep (λ c. any (eqb c) kind) (in_order l) ≡ keep (λ c. any (eqb c) l) kind
unfolding in_order
ordered kind l h = keep-swap (λ c. any (eqb c) kind) (λ c. any (eqb c) l) (context_codes ++ feature_codes) ∙ ap (keep (λ c. any (eqb c) l)) h

flags-form : (n : Bytes) (kind l : List ℕ) (ts : List TypeName) (ms : List Member) → keep (λ c. any (eqb c) kind) (context_codes ++ feature_codes) ≡ kind
    → Agree (with-some (field n ms) fields_of []) l kind ts → flags_json n kind (in_order l) ≡ flags_form n ts ms
unfolding flags_json flags_form
flags-form n kind l ts ms h a =
    rw (ordered kind l h)
    (gone n object (map flag (keep (λ c. any (eqb c) l) kind)) (not (empty (keep (λ c. any (eqb c) l) kind))) (ap not (sym (empty-map flag (keep (λ c. any (eqb c) l) kind))))
    ∙ ap (unless_gone n object) (flags-listed (with-some (field n ms) fields_of []) l kind ts a))

-- ---- both kinds

pub flags-read : (i : ℕ) (ts : List TypeName) (n : Bytes) (ms : List Member) (xs : List ℕ) → with-some (field n ms) (flags_from i ts) (some []) ≡ some xs
    → each (flag_of i ts) (with-some (field n ms) fields_of []) ≡ some xs
unfolding flags_from each
flags-read i ts n ms xs e =
    on_optional (field n ms) [] (flags_from i ts) e
    (λ a d. rw (a, ← d))
    (λ j h q. on_chain (as_object j) (each (flag_of i ts)) q (λ os p r. rw (h, p) r))

or-none : (a b : Bool) → b ≡ false → a || b ≡ a
or-none true b e = refl
or-none false b e = e

module _ (ms : List Member) (xs fs : List ℕ) where
  abbrev pub cms : List Member
  cms = with-some (field (ascii "contexts") ms) fields_of []

  abbrev pub fms : List Member
  fms = with-some (field (ascii "features") ms) fields_of []

  -- both were read
  abbrev pub Given : Type 0
  Given = (each (flag_of 0 (take 2 type_names)) cms ≡ some xs) × (each (flag_of 2 (drop 2 type_names)) fms ≡ some fs)

  context : Given → (c : ℕ) (name : Bytes) → ((d : ℕ) → ltb d 2 ≡ true → same (json_type (get_or (take 2 type_names) d nowhere)) name ≡ eqb c (0 + d)) → ((d : ℕ) → ltb d 7 ≡ true → eqb c (2 + d) ≡ false)
      → as_is name cms ≡ pick (any (eqb c) (xs ++ fs)) (member name jtrue ∷ []) []
  context g c name h o =
      rw (any_append (eqb c) xs fs, or-none (any (eqb c) xs) (any (eqb c) fs) (flag-other 2 (drop 2 type_names) c o fms fs g.1)) (flag-field 0 (take 2 type_names) c name h cms xs g.0)

  feature : Given → (c : ℕ) (name : Bytes) → ((d : ℕ) → ltb d 7 ≡ true → same (json_type (get_or (drop 2 type_names) d nowhere)) name ≡ eqb c (2 + d)) → ((d : ℕ) → ltb d 2 ≡ true → eqb c (0 + d) ≡ false)
      → as_is name fms ≡ pick (any (eqb c) (xs ++ fs)) (member name jtrue ∷ []) []
  feature g c name h o =
      rw (any_append (eqb c) xs fs, flag-other 0 (take 2 type_names) c o cms xs g.0) (flag-field 2 (drop 2 type_names) c name h fms fs g.1)

  contexts-agree : Given → Agree cms (xs ++ fs) context_codes (take 2 type_names)
  unfolding same
  contexts-agree g = (at 0 refl refl, (at 1 refl refl, tt))
    where
      at : (c : ℕ) → let name = json_type (get_or type_names c nowhere) in
          map (λ (d : ℕ). same (json_type (get_or (take 2 type_names) d nowhere)) name) (up_to 2) ≡ map (λ (d : ℕ). eqb c (0 + d)) (up_to 2)
          → map (λ (d : ℕ). eqb c (2 + d)) (up_to 7) ≡ map (λ (d : ℕ). false) (up_to 7)
          → as_is name cms ≡ pick (any (eqb c) (xs ++ fs)) (flag c ∷ []) []
      at c p q =
          context g c (json_type (get_or type_names c nowhere)) (λ d l. by_below (λ d. same (json_type (get_or (take 2 type_names) d nowhere)) (json_type (get_or type_names c nowhere))) (λ d. eqb c (0 + d)) d 2 p (λ n. not-both l n))
          (λ d l. by_below (λ d. eqb c (2 + d)) (λ d. false) d 7 q (λ n. not-both l n))

  features-agree : Given → Agree fms (xs ++ fs) feature_codes (drop 2 type_names)
  unfolding same
  features-agree g = (at 2 refl refl, (at 3 refl refl, (at 4 refl refl, (at 5 refl refl, (at 6 refl refl, (at 7 refl refl, (at 8 refl refl, tt)))))))
    where
      at : (c : ℕ) → let name = json_type (get_or type_names c nowhere) in
          map (λ (d : ℕ). same (json_type (get_or (drop 2 type_names) d nowhere)) name) (up_to 7) ≡ map (λ (d : ℕ). eqb c (2 + d)) (up_to 7)
          → map (λ (d : ℕ). eqb c (0 + d)) (up_to 2) ≡ map (λ (d : ℕ). false) (up_to 2)
          → as_is name fms ≡ pick (any (eqb c) (xs ++ fs)) (flag c ∷ []) []
      at c p q =
          feature g c (json_type (get_or type_names c nowhere)) (λ d l. by_below (λ d. same (json_type (get_or (drop 2 type_names) d nowhere)) (json_type (get_or type_names c nowhere))) (λ d. eqb c (2 + d)) d 7 p (λ n. not-both l n))
          (λ d l. by_below (λ d. eqb c (0 + d)) (λ d. false) d 2 q (λ n. not-both l n))

  pub contexts-form : Given → flags_json (ascii "contexts") context_codes (in_order (xs ++ fs)) ≡ flags_form (ascii "contexts") (take 2 type_names) ms
  unfolding keep any
  contexts-form g = flags-form (ascii "contexts") context_codes (xs ++ fs) (take 2 type_names) ms refl (contexts-agree g)

  pub features-form : Given → flags_json (ascii "features") feature_codes (in_order (xs ++ fs)) ≡ flags_form (ascii "features") (drop 2 type_names) ms
  unfolding keep any
  features-form g = flags-form (ascii "features") feature_codes (xs ++ fs) (drop 2 type_names) ms refl (features-agree g)
