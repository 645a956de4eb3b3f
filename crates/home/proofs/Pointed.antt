-- The member that a JSPROP line makes.
use mathlib.Core.Path.{◌≡◌, refl, sym, ap, subst, ◌∙◌}
use mathlib.Core.Bool.{Bool, true, false, ◌&&◌, ◌||◌, not}
use mathlib.Core.List.{List, [], ◌∷◌}
use mathlib.Core.Option.{Option, none, some}
use Prim.Native.Nat.{ℕ}
use lib.Dec.{eqb}
use borrow.Author.Tests.{eqb-true}
use Rattle.text.specs.Choice.{pick, provided}
use Rattle.text.specs.Bytes.{Bytes, ascii, is, any, empty, among}
use Rattle.text.specs.Utf8.{Due, start, next, run}
use Rattle.text.proofs.Cases.{by_bool, and_left, and_right, or_left, or_right, not-true, not-both}
use Rattle.text.proofs.Choices.{none-some, some_same, provided-inv, chain-inv}
use Rattle.text.proofs.Lists.{any_none}
use Rattle.text.proofs.Characters.{utf8-run, run-utf8, later}
use Rattle.json_text.specs.Tree.{Json}
use Rattle.json_text.specs.Read.{Reading, tree, refused, reading}
use Rattle.json_text.proofs.Sound.{Sound}
use Rattle.json_text.proofs.Given.{reading-sound}
use Rattle.line.specs.Class.{is_control}
use Rattle.line.specs.Grammar.{Param, param_values}
use Rattle.line.specs.Params.{values_named, only_named}
use Rattle.line.specs.Text.{read_text}
use Rattle.convert.specs.Table.{reserved}
use Rattle.convert.specs.Value.{filled}
use Rattle.convert.specs.Pointer.{push, pointed_from, pointed}
use Rattle.convert.specs.Classify.{Seen, sole, tree_of, member_name, member_value}
use Rattle.convert.proofs.Pointers.{push-inv}
use Rattle.home.proofs.Alls.{All}
use Rattle.home.proofs.Clean.{is_ascii, ascii-next, ascii-due, later-next}
use Rattle.home.proofs.CleanLines.{CleanValue}
use Rattle.home.proofs.Merged.{named-hold}
use Rattle.home.proofs.CleanTexts.{due_at}

-- ---- a pointer's name is as clean as the pointer

-- what a digit after a tilde stands for
tilde-inv : (c : ℕ) (x : Option Bytes) (n : Bytes) → pick (eqb c 48) (push 126 x) (pick (eqb c 49) (push 47 x) none) ≡ some n
    → (is_ascii c ≡ true) × ((d : ℕ) × (eqb d 126 || eqb d 47 ≡ true) × (push d x ≡ some n))
tilde-inv c x n e =
    by_bool (eqb c 48) (λ q. (rw (eqb-true c 48 q), (126, refl, rw q at e)))
    (λ q. by_bool (eqb c 49) (λ r. (rw (eqb-true c 49 r), (47, refl, rw (q, r) at e))) (λ r. none-some (rw (q, r) at e)))

either-ascii : (d : ℕ) → eqb d 126 || eqb d 47 ≡ true → is_ascii d ≡ true
either-ascii d h = by_bool (eqb d 126) (λ q. rw (eqb-true d 126 q)) (λ q. let r : eqb d 47 ≡ true = rw q at h in rw (eqb-true d 47 r))

point-run : (b : Bool) (d : Due) (s n : Bytes) → later d ≡ true → run (due_at b d) s ≡ start → pointed_from b s ≡ some n → run (due_at b d) n ≡ start
unfolding pointed_from run
point-run true d [] n l u e = none-some e
point-run false d [] n l u e = subst (λ (x : Bytes). run d x ≡ start) (some_same e) u
point-run true d (c ∷ s) n l u e =
    let i = tilde-inv c (pointed_from false s) n e in
    let j = push-inv i.1.0 (pointed_from false s) n i.1.2 in
    let t : run start j.0 ≡ start = point-run false start s j.0 refl (ap (λ (x : Due). run x s) (sym (ascii-next c i.0)) ∙ u) j.1 in
    subst (λ (x : Bytes). run start x ≡ start) (sym j.2) (ap (λ (x : Due). run x j.0) (ascii-next i.1.0 (either-ascii i.1.0 i.1.1)) ∙ t)
point-run false d (c ∷ s) n l u e =
    by_bool (eqb c 126)
    (λ q. let a : is_ascii c ≡ true = rw (eqb-true c 126 q) in
    let z : d ≡ start = ascii-due d c s l a u in
    let w : run (next start c) s ≡ start = subst (λ (x : Due). run (next x c) s ≡ start) z u in
    subst (λ (x : Due). run x n ≡ start) (sym z) (point-run true start s n refl (ap (λ (x : Due). run x s) (sym (ascii-next c a)) ∙ w) (rw q at e)))
    (λ q. by_bool (eqb c 47) (λ r. none-some (rw (q, r) at e))
    (λ r. let j = push-inv c (pointed_from false s) n (rw (q, r) at e) in
    subst (λ (x : Bytes). run d x ≡ start) (sym j.2) (point-run false (next d c) s j.0 (later-next d c l) u j.1)))

-- bytes that are neither a tilde nor a slash are not made
module _ (p : ℕ → Bool) (t : p 126 ≡ false) (z : p 47 ≡ false) where
  either : (d : ℕ) → eqb d 126 || eqb d 47 ≡ true → p d ≡ false
  either d h = by_bool (eqb d 126) (λ q. ap p (eqb-true d 126 q) ∙ t) (λ q. let r : eqb d 47 ≡ true = rw q at h in ap p (eqb-true d 47 r) ∙ z)

  point-none : (b : Bool) (s n : Bytes) → any p s ≡ false → pointed_from b s ≡ some n → any p n ≡ false
  unfolding pointed_from any
  point-none true [] n h e = none-some e
  point-none false [] n h e = rw (← some_same e)
  point-none true (c ∷ s) n h e =
      let i = tilde-inv c (pointed_from false s) n e in
      let j = push-inv i.1.0 (pointed_from false s) n i.1.2 in
      subst (λ (x : Bytes). any p x ≡ false) (sym j.2) (any_none p i.1.0 j.0 (either i.1.0 i.1.1) (point-none false s j.0 (or_right (p c) _ h) j.1))
  point-none false (c ∷ s) n h e =
      by_bool (eqb c 126) (λ q. point-none true s n (or_right (p c) _ h) (rw q at e))
      (λ q. by_bool (eqb c 47) (λ r. none-some (rw (q, r) at e))
      (λ r. let j = push-inv c (pointed_from false s) n (rw (q, r) at e) in
      subst (λ (x : Bytes). any p x ≡ false) (sym j.2) (any_none p c j.0 (or_left (p c) _ h) (point-none false s j.0 (or_right (p c) _ h) j.1))))

push-filled : (c : ℕ) (x : Option Bytes) (n : Bytes) → push c x ≡ some n → filled n ≡ true
push-filled c x n e = let j = push-inv c x n e in rw j.2

tilde-filled : (s n : Bytes) → pointed_from true s ≡ some n → filled n ≡ true
unfolding pointed_from
tilde-filled [] n e = none-some e
tilde-filled (c ∷ s) n e = let i = tilde-inv c (pointed_from false s) n e in push-filled i.1.0 (pointed_from false s) n i.1.2

point-filled : (s n : Bytes) → not (empty s) ≡ true → pointed_from false s ≡ some n → filled n ≡ true
unfolding pointed_from
point-filled [] n h e = not-both h refl
point-filled (c ∷ s) n h e =
    by_bool (eqb c 126) (λ q. tilde-filled s n (rw q at e))
    (λ q. by_bool (eqb c 47) (λ r. none-some (rw (q, r) at e)) (λ r. push-filled c (pointed_from false s) n (rw (q, r) at e)))

no-control : (is_control 126 ≡ false) × (is_control 47 ≡ false)
unfolding is_control
no-control = (refl, refl)

pub pointed-clean : (p n : Bytes) → CleanValue p → pointed p ≡ some n → (filled n ≡ true) × CleanValue n
unfolding pointed
pointed-clean p n h e =
    let i = provided-inv (not (empty p)) (pointed_from false p) e in (
      point-filled p n i.0 i.1,
      (
        (run-utf8 n (point-run false start p n refl (utf8-run p h.0.0) i.1), point-none is_control no-control.0 no-control.1 false p n h.0.1 i.1),
        point-none (is 34) refl refl false p n h.1 i.1,
      ),
    )

-- ---- the member

sole-clean : (vs : List Bytes) (v : Bytes) → All CleanValue vs → sole vs ≡ some v → CleanValue v
sole-clean [] v h e = none-some e
sole-clean (w ∷ []) v h e = subst CleanValue (some_same e) h.0
sole-clean (w ∷ (u ∷ us)) v h e = none-some e

-- its name: new, and of no table
pub name-clean : (s : Seen) (ps : List Param) (n : Bytes) → All (λ p. All CleanValue (param_values p)) ps → member_name s ps ≡ some n
    → (filled n ≡ true) × CleanValue n × (not (among n reserved) ≡ true) × (among n s.members ≡ false)
unfolding member_name
name-clean s ps n h e =
    let a = chain-inv (provided (only_named (ascii "jsptr" ∷ []) ps) (sole (values_named (ascii "jsptr") ps))) _ e in
    let b = provided-inv (only_named (ascii "jsptr" ∷ []) ps) (sole (values_named (ascii "jsptr") ps)) a.1 in
    let c = chain-inv (pointed a.0) _ a.2 in
    let d = provided-inv (not (among c.0 reserved) && not (among c.0 s.members)) (some c.0) c.2 in
    let k = pointed-clean a.0 c.0 (sole-clean (values_named (ascii "jsptr") ps) a.0 (named-hold CleanValue (ascii "jsptr") ps h) b.1) c.1 in
    subst (λ (n : Bytes). (filled n ≡ true) × CleanValue n × (not (among n reserved) ≡ true) × (among n s.members ≡ false)) (some_same d.1)
    (k.0, k.1, and_left (not (among c.0 reserved)) _ d.0, not-true (among c.0 s.members) (and_right (not (among c.0 reserved)) _ d.0))

tree-inv : (r : Reading) (j : Json) → tree_of r ≡ some j → r ≡ tree j
tree-inv (tree k) j e = ap tree (some_same e)
tree-inv (refused n) j e = none-some e

pub value-sound : (v : Bytes) (j : Json) → member_value v ≡ some j → Sound 15 j
unfolding member_value
value-sound v j e =
    let c = chain-inv (read_text v) (λ t. tree_of (reading 15 t)) e in
    reading-sound 15 c.0 j (tree-inv (reading 15 c.0) j c.2)
