-- What a carried card says of each of its strings.
use mathlib.Core.Path.{◌≡◌}
use mathlib.Core.Bool.{Bool, true, ◌&&◌}
use mathlib.Core.List.{List}
use Rattle.text.specs.Choice.{with-some}
use Rattle.text.specs.Bytes.{Bytes, all}
use Rattle.text.proofs.Cases.{and_left, and_right}
use Rattle.json_text.specs.Tree.{name_of}
use Rattle.convert.specs.Table.{maps, name_row}
use Rattle.convert.specs.Model.{Card, part}
use Rattle.convert.specs.Carry.{carried_raw, carried_text, carried_param, carried_maps, carried_kept, apart, apart_parts, carried}

pub record Carried (c : Card) : Type 0 where
  pub uid : carried_raw c.uid ≡ true
  pub full : with-some c.full carried_text true ≡ true
  pub parts : all (all carried_text) c.parts ≡ true
  pub surnames : apart (part c.parts 0) (part c.parts 5) ≡ true
  pub suffixes : apart (part c.parts 4) (part c.parts 6) ≡ true
  pub maps : carried_maps maps c.maps ≡ true
  pub members : all (λ m. carried_param (name_of m)) c.members ≡ true
  pub kept : all carried_kept c.kept ≡ true

-- seven conditions, one after the other
seven : (a b c d e f g : Bool) → a && b && c && d && e && f && g ≡ true
    → (a ≡ true) × (b ≡ true) × (c ≡ true) × (d ≡ true) × (e ≡ true) × (f ≡ true) × (g ≡ true)
seven a b c d e f g q =
    let q₆ = and_left (a && b && c && d && e && f) g q in
    let q₅ = and_left (a && b && c && d && e) f q₆ in
    let q₄ = and_left (a && b && c && d) e q₅ in
    let q₃ = and_left (a && b && c) d q₄ in
    let q₂ = and_left (a && b) c q₃ in (
      and_left a b q₂,
      and_right a b q₂,
      and_right (a && b) c q₃,
      and_right (a && b && c) d q₄,
      and_right (a && b && c && d) e q₅,
      and_right (a && b && c && d && e) f q₆,
      and_right (a && b && c && d && e && f) g q,
    )

-- the two parts of N that repeat another
apart-both : (ps : List (List Bytes)) → apart_parts name_row ps ≡ true → (apart (part ps 0) (part ps 5) ≡ true) × (apart (part ps 4) (part ps 6) ≡ true)
unfolding apart_parts
apart-both ps h = (and_left _ _ h, and_left (apart (part ps 4) (part ps 6)) true (and_right (apart (part ps 0) (part ps 5)) _ h))

pub is_carried : (c : Card) → carried c ≡ true → Carried c
unfolding carried
is_carried c h =
    let q = seven _ _ _ _ _ _ _ h in
    let a = apart-both c.parts q.3 in
    record { uid = q.0; full = q.1; parts = q.2; surnames = a.0; suffixes = a.1; maps = q.4; members = q.5; kept = q.6 }
