-- Contexts and features: the ways out of their pass.
use mathlib.Core.Path.{◌≡◌, refl, sym, ap, subst, ◌∙◌}
use mathlib.Core.Bool.{Bool, true, false}
use mathlib.Core.List.{List, [], ◌∷◌, ◌++◌, map}
use mathlib.Core.Option
use mathlib.Core.Option.{Option, none, some}
use Prim.Native.Nat.{ℕ, suc, ◌+◌, ◌-◌, ◌≤◌, ◌<◌}
use native.Mathlib.Omega.{arith}
use lib.Dec.{eqb, ltb}
use lib.ListN.{length, take, drop, set}
use lib.Seq.{take_all}
use borrow.Author.Tests.{eq-eqb, ne_eqb, lt-ltb, le-ltb, ltb-true, ltb-false}
use Rattle.text.specs.Choice.{pick, with-some, chain, provided}
use Rattle.text.specs.Bytes.{Bytes, each, parts, same}
use Rattle.text.proofs.Cases.{by_bool}
use Rattle.text.proofs.Same.{same-swap}
use Rattle.json_text.specs.Tree.{Json, jnull, jtrue, jfalse, jnum, jstr, jarr, jobj, member, as_object}
use Rattle.json_strings.specs.Decoded.{decoded_at}
use Rattle.json_access.specs.declared.Kind.{Kind}
use Rattle.json_access.specs.Access.{EndsAt, TellsKind, kind_of}
use Rattle.json_index.specs.Index.{json_at, placed}
use Rattle.json_walk.specs.declared.Member.{Member}
use Rattle.json_walk.specs.declared.Member.TheVariants.{At, End, NoObject}
use Rattle.json_walk.specs.Walk.{FirstOf, NextOf}
use Rattle.json_walk.proofs.Each.{Far, far-first, now_of, far-end, far_none}
use Rattle.convert.specs.Table.{TypeName, json_type, position}
use Rattle.convert.specs.FromJson.{is_true, flag_of, flags_from}
use Rattle.to_card_params.specs.Params.{code_of, mark_all, flags_in, FlagsAs, TellsFlags}
use Rattle.to_card_params.proofs.Walk.{slot-none, slot-some, kind-told}

-- ---- a name's place

-- sought in all of the names, as a part of them
pub placed-in : (o : Option Bytes) (names : Bytes) {k : ℕ} → k ≡ placed o (parts 44 (take (length names - 0) (drop 0 names))) → k ≡ placed o (parts 44 names)
placed-in o names {k} = subst (λ (t : Bytes). k ≡ placed o (parts 44 t)) (take_all (length names - 0) names (omega arith))

pub position-placed : (x : Bytes) (ks : List Bytes) → position (same x) ks ≡ pick (ltb (placed (some x) ks) (length ks)) (some (placed (some x) ks)) none
unfolding position placed
position-placed x [] = refl
position-placed x (k ∷ ks) =
    by_bool (same k x)
    (λ e. let f : same x k ≡ true = same-swap x k ∙ e in let l : 0 < suc (length ks) = omega arith in rw (e, f, lt-ltb 0 (suc (length ks)) l))
    (λ e. let f : same x k ≡ false = same-swap x k ∙ e in rw (e, f, position-placed x ks) (go (placed (some x) ks) (length ks)))
  where
    go : (p n : ℕ) → with-some (pick (ltb p n) (some p) none) (λ i. some (suc i)) none ≡ pick (ltb (suc p) (suc n)) (some (suc p)) none
    go p n =
        by_bool (ltb p n)
        (λ e. let l : suc p < suc n = omega (arith, ltb-true p n e) in rw (e, lt-ltb (suc p) (suc n) l))
        (λ e. let l : suc n ≤ suc p = omega (arith, ltb-false p n e) in rw (e, le-ltb (suc p) (suc n) l))

position-map : (n : Bytes) (ts : List TypeName) → position (λ t. same n (json_type t)) ts ≡ position (same n) (map json_type ts)
unfolding position
position-map n [] = refl
position-map n (t ∷ ts) = rw (position-map n ts)

-- ---- one flag

true-code : (v : Json) → eqb (code_of (kind_of v)) 1 ≡ is_true v
true-code jnull = refl
true-code jtrue = refl
true-code jfalse = refl
true-code (jnum x) = refl
true-code (jstr x) = refl
true-code (jarr x) = refl
true-code (jobj x) = refl

module _ (base : ℕ) (names : Bytes) (ts : List TypeName) (is-ts : parts 44 names ≡ map json_type ts) (n : Bytes) (v : Json) where
  flag-false : is_true v ≡ false → flag_of base ts (member n v) ≡ none
  flag-false e = rw e

  flag-placed : is_true v ≡ true → flag_of base ts (member n v) ≡ Option.map (λ k. base + k) (pick (ltb (placed (some n) (parts 44 names)) (length (parts 44 names))) (some (placed (some n) (parts 44 names))) none)
  flag-placed e =
      ap (λ (b : Bool). provided b (Option.map (λ k. base + k) (position (λ t. same n (json_type t)) ts))) e
      ∙ ap (Option.map (λ k. base + k)) (position-map n ts ∙ ap (position (same n)) (sym is-ts) ∙ position-placed n (parts 44 names))

  flag-other : is_true v ≡ true → length (parts 44 names) ≤ placed (some n) (parts 44 names) → flag_of base ts (member n v) ≡ none
  flag-other e l = flag-placed e ∙ ap (λ (b : Bool). Option.map (λ k. base + k) (pick b (some (placed (some n) (parts 44 names))) none)) (le-ltb _ _ l)

  flag_one : is_true v ≡ true → placed (some n) (parts 44 names) < length (parts 44 names) → flag_of base ts (member n v) ≡ some (base + placed (some n) (parts 44 names))
  flag_one e l = flag-placed e ∙ ap (λ (b : Bool). Option.map (λ k. base + k) (pick b (some (placed (some n) (parts 44 names))) none)) (lt-ltb _ _ l)

-- ---- marks

mark-more : (row cs : List ℕ) (c : ℕ) → set (mark_all row cs) c 1 ≡ mark_all row (cs ++ (c ∷ []))
unfolding mark_all
mark-more row [] c = refl
mark-more row (x ∷ cs) c = mark-more (set row x 1) cs c

pub mark-none : (row : List ℕ) → row ≡ mark_all row []
unfolding mark_all
mark-none row = refl

-- ---- the pass

-- what the value at a slot's place says: whether each member is a flag of the table, and then a mark for each
abbrev FlagsOf : Bytes → ℕ → ℕ → Bytes → List ℕ → Bool → List ℕ → Type 0
FlagsOf s slot base names row r after = (ts : List TypeName) → parts 44 names ≡ map json_type ts → (v : Json) → json_at 13 s slot ≡ some v → FlagsAs row r after (chain (as_object v) (each (flag_of base ts)))

abbrev pub Todo : Bytes → ℕ → ℕ → Bytes → List ℕ → Member → List ℕ → Type 0
Todo s slot base names row₀ r row = (ts : List TypeName) → parts 44 names ≡ map json_type ts → (v : Json) → json_at 13 s slot ≡ some v
    → (done : List ℕ) × Far (flag_of base ts) 12 s (chain (as_object v) (each (flag_of base ts))) r done × (row ≡ mark_all row₀ done)

pub todo-first : (s : Bytes) (slot base : ℕ) (names : Bytes) (row : List ℕ) (r : Member) → FirstOf s slot r → Todo s slot base names row r row
todo-first s slot base names row r h ts p v e = ([], far-first (flag_of base ts) 12 s slot r h v e, mark-none row)

flags-as : (row after : List ℕ) (r : Bool) {o p : Option (List ℕ)} → o ≡ p → FlagsAs row r after p → FlagsAs row r after o
flags-as row after r e x = subst (FlagsAs row r after) (sym e) x

-- ---- by the slot

pub flags-absent : (s : Bytes) (slot base : ℕ) (names : Bytes) (row : List ℕ) → slot ≡ 0 → TellsFlags s slot base names row true row
unfolding flags_in
flags-absent s slot base names row e ts p o h = flags-as row row true (ap (λ (x : Option Json). with-some x (flags_from base ts) (some [])) (slot-none h e)) (refl, mark-none row)

module _ (s : Bytes) (slot base : ℕ) (names : Bytes) (row₀ : List ℕ) (there : slot ≡ 0 → ⊥) (m : Member) (row : List ℕ) (todo : Todo s slot base names row₀ m row) where
  by_value : (r : Bool) (after : List ℕ) → FlagsOf s slot base names row₀ r after → TellsFlags s slot base names row₀ r after
  unfolding flags_in flags_from
  by_value r after g ts p o h = let v = slot-some h there in flags-as row₀ after r (ap (λ (x : Option Json). with-some x (flags_from base ts) (some [])) v.1) (g ts p v.0 v.2)

  pub flags-all : (x : ℕ) → m ≡ End x → TellsFlags s slot base names row₀ true row
  flags-all x e = by_value true row (λ ts p v h. let y = todo ts p v h in flags-as row₀ row true (far-end y.1 x e) (refl, y.2))

  pub flags-none : m ≡ NoObject → (after : List ℕ) → TellsFlags s slot base names row₀ false after
  flags-none e after = by_value false after (λ ts p v h. flags-as row₀ after false (far_none (todo ts p v h).1 e) refl)

  module _ (q a : ℕ) (is_m : m ≡ At q a) (kd : Kind) (kt : TellsKind s a kd) (v : ℕ) (vc : v ≡ code_of kd) where
    is_true_lem : (x : Json) → json_at 12 s a ≡ some x → is_true x ≡ eqb v 1
    is_true_lem x e = sym (ap (λ (k : ℕ). eqb k 1) (vc ∙ ap code_of (kind-told 11 s a kd kt x e)) ∙ true-code x)

    pub flags-not : (v ≡ 1 → ⊥) → (after : List ℕ) → TellsFlags s slot base names row₀ false after
    flags-not n after = by_value false after (λ ts p u h.
        let w = now_of (todo ts p u h).1 q a is_m in
        flags-as row₀ after false (w.fails (flag-false base names ts p w.key w.val (is_true_lem w.val w.is-val ∙ ne_eqb v 1 n))) refl)

    module _ (is-1 : v ≡ 1) (k : ℕ) (kp : k ≡ placed (decoded_at s q) (parts 44 names)) (count : ℕ) (cn : count ≡ length (parts 44 names)) where
      at-k : (x : Bytes) → decoded_at s q ≡ some x → placed (some x) (parts 44 names) ≡ k
      at-k x e = sym (kp ∙ ap (λ (o : Option Bytes). placed o (parts 44 names)) e)

      pub flags-other : count ≤ k → (after : List ℕ) → TellsFlags s slot base names row₀ false after
      flags-other l after = by_value false after (λ ts p u h.
          let w = now_of (todo ts p u h).1 q a is_m in
          let n : length (parts 44 names) ≤ placed (some w.key) (parts 44 names) = omega (arith, at-k w.key w.is-key) in
          flags-as row₀ after false (w.fails (flag-other base names ts p w.key w.val (is_true_lem w.val w.is-val ∙ eq-eqb v 1 is-1) n)) refl)

      pub flags-on : k < count → (z : ℕ) → EndsAt 12 s a z → (next : Member) → NextOf s z next → Todo s slot base names row₀ next (set row (base + k) 1)
      flags-on l z ends next told ts p u h =
          let y = todo ts p u h in
          let w = now_of y.1 q a is_m in
          let n : placed (some w.key) (parts 44 names) < length (parts 44 names) = omega (arith, at-k w.key w.is-key) in
          let one = flag_one base names ts p w.key w.val (is_true_lem w.val w.is-val ∙ eq-eqb v 1 is-1) n ∙ ap (λ (u : ℕ). some (base + u)) (at-k w.key w.is-key) in
          (y.0 ++ ((base + k) ∷ []), w.goes (base + k) one z ends next told, ap (λ (u : List ℕ). set u (base + k) 1) y.2 ∙ mark-more row₀ y.0 (base + k))
