-- Property values and the strings they stand for, both ways.
use Rattle.std.specs.Prelude.{Bool, true, false, ◌&&◌, not, ℕ, suc, length, eqb, leb}
use mathlib.Core.List.{List, [], ◌∷◌, ◌++◌, map, tail}
use Rattle.std.proofs.Math.Option
use Rattle.std.proofs.Math.Option.{Option, some}
use Prim.Native.Char.{code}
use Rattle.text.specs.Choice.{pick, chain, provided, with-some}
use Rattle.text.specs.Bytes.{Bytes, ascii, is, any, all, empty, same, among, begins, is_digit, joined, keep, each}
use Rattle.text.specs.Decimal.{number}
use Rattle.text.specs.Reader.{first}
use Rattle.line.specs.Class.{is_key, is_control}
use Rattle.line.specs.Text.{read_text, split_text, write_text}
use Rattle.convert.specs.Table.{Form, text, single, uri, phone, organization, Part, name_row}
use Rattle.convert.specs.Model.{part}

abbrev pub filled : Bytes → Bool
filled v = not (empty v)

-- ---- strings of forms

-- keys: 1 to 255 of A-Z a-z 0-9 - _
unfoldable pub is_key_text : Bytes → Bool
is_key_text k = filled k && leb (length k) 255 && all is_key k

-- PREF: 1 to 100, no leading zero
unfoldable pub is_pref : Bytes → Bool
is_pref p = filled p && leb (length p) 3 && all is_digit p && not (is (code "0") (first p)) && leb (number p) 100

-- ---- ORG: the name, then units; empty units vanish

abbrev pub head_or : Bytes → List Bytes → Bytes
head_or d [] = d
head_or d (v ∷ vs) = v

unfoldable pub organized : List Bytes → List Bytes
organized vs = head_or [] vs ∷ keep filled (tail vs)

-- ---- reading a property's value; `type` is its VALUE in lower case

abbrev pub alone : Option Bytes → Option (List Bytes)
alone v = Option.map (λ t. t ∷ []) v

unfoldable pub read_as : Form → Bytes → Bytes → Option (List Bytes)
read_as text type v = alone (read_text v)
read_as single type v = provided (eqb (length (split_text (code ",") v)) 1) (alone (read_text v))
read_as uri type v = some (v ∷ [])
read_as phone type v = pick (same type (ascii "uri")) (provided (begins (ascii "tel:") v) (some (v ∷ []))) (alone (read_text v))
read_as organization type v = chain (each read_text (split_text (code ";") v)) λ vs. provided (any filled vs) (some (organized vs))

-- which VALUE a form takes
unfoldable pub takes_type : Form → Bytes → Bool
takes_type text type = same type (ascii "unknown")
takes_type single type = same type (ascii "unknown")
takes_type uri type = among type (ascii "unknown" ∷ ascii "uri" ∷ [])
takes_type phone type = among type (ascii "unknown" ∷ ascii "uri" ∷ [])
takes_type organization type = same type (ascii "unknown")

-- ---- writing one

-- a number is written raw with VALUE=uri when it begins `tel:` and has no control but tab
unfoldable pub is_tel_uri : Bytes → Bool
is_tel_uri v = begins (ascii "tel:") v && not (any is_control v)

unfoldable pub write_as : Form → List Bytes → Bytes
write_as text vs = write_text false (head_or [] vs)
write_as single vs = write_text false (head_or [] vs)
write_as uri vs = head_or [] vs
write_as phone vs = pick (is_tel_uri (head_or [] vs)) (head_or [] vs) (write_text false (head_or [] vs))
write_as organization vs = joined (ascii ";") (map (write_text true) vs)

unfoldable pub written_type : Form → List Bytes → List Bytes
written_type text vs = []
written_type single vs = []
written_type uri vs = []
written_type phone vs = pick (is_tel_uri (head_or [] vs)) (ascii "uri" ∷ []) []
written_type organization vs = []

-- ---- structured values: parts by a row

-- values of one part, split at bare commas; empty ones vanish
unfoldable pub part_values : Bytes → Option (List Bytes)
part_values s = Option.map (keep filled) (each read_text (split_text (code ",") s))

-- those that are not among the others
unfoldable pub without : List Bytes → List Bytes → List Bytes
without others vs = keep (λ v. not (among v others)) vs

-- all parts of a row from the i-th on: those that repeat another's values get them by the rule given
abbrev pub row_from : (List Bytes → List Bytes → List Bytes) → ℕ → List Part → List (List Bytes) → List (List Bytes)
row_from f i [] ps = []
row_from f i (p ∷ row) ps = with-some p.repeats (λ r. f (part ps r) (part ps i)) (part ps i) ∷ row_from f (suc i) row ps

-- reading ignores a value that is also in the part repeated: N's family values among the secondary surnames, suffixes among the generations
unfoldable pub own_parts : List Part → List (List Bytes) → List (List Bytes)
own_parts row ps = row_from without 0 row ps

-- none where an escape is bad, where there are more parts than the row has, or where every value is empty
unfoldable pub read_parts : List Part → Bytes → Option (List (List Bytes))
read_parts row v =
    provided (leb (length (split_text (code ";") v)) (length row))
    (chain (each part_values (split_text (code ";") v)) λ ps. provided (any (λ vs. not (empty vs)) ps) (some (own_parts row ps)))

-- writing appends the values of the part repeated: N's surname2 to the family names, generation to the suffixes
unfoldable pub written_parts : List Part → List (List Bytes) → List (List Bytes)
written_parts row ps = row_from (λ others vs. vs ++ others) 0 row ps

unfoldable pub write_parts : List Part → List (List Bytes) → Bytes
write_parts row ps = joined (ascii ";") (map (λ vs. joined (ascii ",") (map (write_text true) vs)) (written_parts row ps))

-- N: its values by its row
abbrev pub read_name : Bytes → Option (List (List Bytes))
read_name v = read_parts name_row v

abbrev pub write_name : List (List Bytes) → Bytes
write_name ps = write_parts name_row ps
