-- Whether two kinds have a value in common.
use mathlib.Core.Path.{◌≡◌, refl, sym, ap, ◌∙◌}
use mathlib.Core.Bool.{Bool, true, false, ◌&&◌, ◌||◌, not}
use mathlib.Core.List.{List, [], ◌∷◌, ◌++◌}
use mathlib.Core.Option.{Option, some}
use Prim.Native.Nat.{ℕ, ◌+◌, ◌≤◌, ◌<◌}
use native.Mathlib.Omega.{arith}
use lib.Dec.{eqb}
use lib.ListN.{take, get_or}
use Rattle.text.specs.Choice.{pick}
use Rattle.text.specs.Bytes.{Bytes, all, any, among, same}
use Rattle.text.proofs.Same.{among_none, among-append}
use Rattle.json_strings.specs.Decoded.{decoded_at, agree}
use Rattle.convert.specs.Value.{filled}
use Rattle.convert.specs.Carry.{apart}
use Rattle.convert.specs.FromJson.{Component, component, of_kind}
use Rattle.to_card_head.specs.Head.{TellsFilled}
use Rattle.to_card_parts.specs.Parts.{Lists, values_of, value_if, RowsFrom}
use Rattle.to_card_parts.proofs.Values.{values-none, values-more, all_append}
use Rattle.to_card_parts.proofs.Rows.{row-taken, rows_taken}
use Rattle.to_card_order.specs.Order.{FindsAmong, Clashes, TellsApart}

-- ---- one value

or-false : (b : Bool) → b || false ≡ b
or-false true = refl
or-false false = refl

one-among : (x y : Bytes) (w : Bool) → filled x ≡ true → among x (value_if w y) ≡ w && same x y
unfolding among any same
one-among x y false h = refl
one-among [] y true h = let z : ◌≡◌ {A = ℕ} 0 1 = cc in absurd (omega arith)
one-among (a ∷ x) [] true h = refl
one-among (a ∷ x) (b ∷ y) true h = or-false (eqb a b && same x y)

-- ---- among the values of a kind

-- one component more
module _ (s : Bytes) (kind value k v : ℕ) (b c : Bool) (agrees : c ≡ eqb kind k && agree (decoded_at s value) (decoded_at s v)) where
  more : (past : List Component) (x y : Bytes) → decoded_at s value ≡ some x → decoded_at s v ≡ some y → filled x ≡ true → b ≡ among x (values_of kind past) → (b || c) ≡ among x (values_of kind (past ++ (component k y ∷ [])))
  more past x y q w h z =
      let a : c ≡ among x (of_kind kind (component k y)) =
      agrees ∙ ap (λ (o : Option Bytes). eqb kind k && agree o (decoded_at s v)) q ∙ ap (λ (o : Option Bytes). eqb kind k && agree (some x) o) w ∙ sym (one-among x y (eqb kind k) h) in
      ap (λ (t : Bool). t || c) z ∙ ap (λ (t : Bool). among x (values_of kind past) || t) a ∙ sym (among-append x (values_of kind past) (of_kind kind (component k y))) ∙ ap (among x) (sym (values-more kind past (component k y)))

-- by the rows of the components: those before row i
abbrev pub FindingTo : Bytes → ℕ → ℕ → ℕ → ℕ → Bool → Type 0
FindingTo s at kind value i b = (cs : List Component) → Lists s at cs → (x : Bytes) → decoded_at s value ≡ some x → filled x ≡ true → b ≡ among x (values_of kind (take i cs))

pub finding-none : (s : Bytes) (at kind value : ℕ) → FindingTo s at kind value 0 false
finding-none s at kind value cs l x q h = sym (ap (among x) (values-none kind) ∙ among_none x)

module _ (s : Bytes) (at kind value : ℕ) (kinds values : List ℕ) (rows : ℕ) (le : rows ≤ 16) (given : RowsFrom s at kinds values rows) (i : ℕ) (b : Bool) (going : FindingTo s at kind value i b) where
  pub finding-row : i < rows → (c : Bool) → c ≡ eqb kind (get_or kinds i 0) && agree (decoded_at s value) (decoded_at s (get_or values i 0)) → FindingTo s at kind value (i + 1) (b || c)
  finding-row l c agrees cs y x q h =
      let g = given le cs y in
      let r = g.row i l in
      more s kind value (get_or kinds i 0) (get_or values i 0) b c agrees (take i cs) x r.0 q r.2 h (going cs y x q h)
      ∙ ap (λ (t : List Component). among x (values_of kind t)) (sym (row-taken s kinds values rows cs g i l))

  pub finds-rows : rows ≤ i → FindsAmong s at kind value b
  finds-rows l cs y x q h = going cs y x q h ∙ ap (λ (t : List Component). among x (values_of kind t)) (rows_taken s kinds values rows cs (given le cs y) i l)

-- ---- a value that clashes

pub apart_none : (ws : List Bytes) → apart [] ws ≡ true
unfolding apart all
apart_none ws = refl

and-end : (b : Bool) → b ≡ (b && true)
and-end true = refl
and-end false = refl

pub apart-one : (x : Bytes) (ws : List Bytes) → not (among x ws) ≡ apart (x ∷ []) ws
unfolding apart all
apart-one x ws = and-end (not (among x ws))

pub and-false : (a : Bool) → a && false ≡ false
and-false true = refl
and-false false = refl

module _ (s : Bytes) (at : ℕ) (wanted : Bool) (value kind : ℕ) where
  pub clash-unwanted : wanted ≡ false → Clashes s at wanted value kind false
  clash-unwanted e cs l x q = sym (ap (λ (b : Bool). apart (value_if b x) (values_of kind cs)) e ∙ apart_none (values_of kind cs))

  module _ (b : Bool) (told : TellsFilled s value b) where
    pub clash-empty : b ≡ false → Clashes s at wanted value kind false
    clash-empty e cs l x q =
        sym (ap (λ (f : Bool). apart (pick (wanted && f) (x ∷ []) []) (values_of kind cs)) (sym (told x q) ∙ e)
        ∙ ap (λ (f : Bool). apart (pick f (x ∷ []) []) (values_of kind cs)) (and-false wanted) ∙ apart_none (values_of kind cs))

    pub clash-is : wanted ≡ true → b ≡ true → (r : Bool) → FindsAmong s at kind value r → Clashes s at wanted value kind r
    clash-is w e r h cs l x q =
        let f : filled x ≡ true = sym (told x q) ∙ e in
        ap not (h cs l x q f) ∙ apart-one x (values_of kind cs)
        ∙ sym (ap (λ (t : Bool). apart (pick (t && filled x) (x ∷ []) []) (values_of kind cs)) w ∙ ap (λ (t : Bool). apart (pick t (x ∷ []) []) (values_of kind cs)) f)

-- ---- two kinds

apart-append : (vs ws us : List Bytes) → apart (vs ++ ws) us ≡ apart vs us && apart ws us
unfolding apart
apart-append vs ws us = all_append (λ v. not (among v us)) vs ws

-- one component more
pub parted : (one k : ℕ) (ok c : Bool) (past : List Component) (y : Bytes) (ws : List Bytes) → not c ≡ apart (value_if (eqb one k) y) ws → ok ≡ apart (values_of one past) ws
    → (ok && not c) ≡ apart (values_of one (past ++ (component k y ∷ []))) ws
parted one k ok c past y ws clash z =
    ap (λ (t : Bool). t && not c) z ∙ ap (λ (t : Bool). apart (values_of one past) ws && t) clash
    ∙ sym (apart-append (values_of one past) (of_kind one (component k y)) ws) ∙ ap (λ (t : List Bytes). apart t ws) (sym (values-more one past (component k y)))

-- by the rows of the components: those before row i
abbrev pub PartingTo : Bytes → ℕ → ℕ → ℕ → ℕ → Bool → Type 0
PartingTo s at one other i ok = (cs : List Component) → Lists s at cs → ok ≡ apart (values_of one (take i cs)) (values_of other cs)

pub parting-none : (s : Bytes) (at one other : ℕ) → PartingTo s at one other 0 true
parting-none s at one other cs l = sym (ap (λ (vs : List Bytes). apart vs (values_of other cs)) (values-none one) ∙ apart_none (values_of other cs))

module _ (s : Bytes) (at one other : ℕ) (kinds values : List ℕ) (rows : ℕ) (le : rows ≤ 16) (given : RowsFrom s at kinds values rows) (i : ℕ) (ok : Bool) (going : PartingTo s at one other i ok) where
  pub parting-row : i < rows → (c : Bool) → Clashes s at (eqb one (get_or kinds i 0)) (get_or values i 0) other c → PartingTo s at one other (i + 1) (ok && not c)
  parting-row l c clash cs y =
      let g = given le cs y in
      let r = g.row i l in
      parted one (get_or kinds i 0) ok c (take i cs) r.0 (values_of other cs) (clash cs y r.0 r.2) (going cs y)
      ∙ ap (λ (t : List Component). apart (values_of one t) (values_of other cs)) (sym (row-taken s kinds values rows cs g i l))

  pub parts-rows : rows ≤ i → TellsApart s at one other ok
  parts-rows l cs y = going cs y ∙ ap (λ (t : List Component). apart (values_of one t) (values_of other cs)) (rows_taken s kinds values rows cs (given le cs y) i l)
