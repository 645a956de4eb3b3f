-- Refusal 13: a string that no vCard line can carry.
use Rattle.std.specs.Prelude.{Bool, true, ◌&&◌, not, List, [], ◌∷◌, ℕ, suc}
use Prim.Native.Char.{code}
use Rattle.text.specs.Choice.{with-some}
use Rattle.text.specs.Bytes.{Bytes, any, all, among, is, flat}
use Rattle.json_text.specs.Tree.{name_of}
use Rattle.line.specs.Class.{is_control}
use Rattle.line.specs.Grammar.{param_values}
use Rattle.convert.specs.Table.{Form, text, single, uri, phone, organization, Map, maps, Part, name_row}
use Rattle.convert.specs.Model.{Entry, Kept, Card, part}

-- raw values: no control but tab
unfoldable pub carried_raw : Bytes → Bool
carried_raw s = not (any is_control s)

-- TEXT: LF as well
unfoldable pub carried_text : Bytes → Bool
carried_text s = not (any (λ c. is_control c && not (is 10 c)) s)

-- parameters: no control but tab, and no double quote
unfoldable pub carried_param : Bytes → Bool
carried_param s = carried_raw s && not (any (is (code "\"")) s)

unfoldable pub carried_as : Form → List Bytes → Bool
carried_as text vs = all carried_text vs
carried_as single vs = all carried_text vs
carried_as uri vs = all carried_raw vs
carried_as phone vs = all carried_text vs
carried_as organization vs = all carried_text vs

unfoldable pub carried_maps : List Map → List (List Entry) → Bool
carried_maps [] ess = true
carried_maps (m ∷ ms) [] = true
carried_maps (m ∷ ms) (es ∷ ess) = all (λ (e : Entry). carried_as m.form (flat e.parts)) es && carried_maps ms ess

unfoldable pub carried_kept : Kept → Bool
carried_kept k = all (λ p. all carried_param (param_values p)) k.params && carried_raw k.value

-- no value of the one is a value of the other: reading would ignore it
unfoldable pub apart : List Bytes → List Bytes → Bool
apart vs ws = all (λ v. not (among v ws)) vs

-- so for every part of a row, from the i-th on, and the part that it repeats
abbrev pub apart_from : ℕ → List Part → List (List Bytes) → Bool
apart_from i [] ps = true
apart_from i (p ∷ row) ps = with-some p.repeats (λ r. apart (part ps i) (part ps r)) true && apart_from (suc i) row ps

unfoldable pub apart_parts : List Part → List (List Bytes) → Bool
apart_parts row ps = apart_from 0 row ps

unfoldable pub carried : Card → Bool
carried c =
    carried_raw c.uid && with-some c.full carried_text true && all (all carried_text) c.parts
    && apart_parts name_row c.parts && carried_maps maps c.maps && all (λ m. carried_param (name_of m)) c.members && all carried_kept c.kept
