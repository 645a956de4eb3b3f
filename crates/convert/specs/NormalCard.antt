-- A card's normal form, from 01's section 'Normal forms' alone: which lines, in which order, and each line's own normal form.
-- It goes from lines to lines and knows neither the model nor JSON's members; that the way home gives it is a theorem.
use Rattle.std.specs.Prelude.{Bool, true, false, not, List, [], ◌∷◌, ◌++◌, map, ℕ, suc, ◌+◌, eqb}
use Prim.Native.Char.{code}
use Rattle.text.specs.Choice.{pick, with-some}
use Rattle.text.specs.Bytes.{Bytes, ascii, empty, same, among, lowered, parts, joined, flat, keep}
use Rattle.text.specs.Decimal.{decimal}
use Rattle.json_text.specs.Compact.{compact}
use Rattle.line.specs.Grammar.{param, Line}
use Rattle.line.specs.Params.{values_named, value_type, besides_value, merged}
use Rattle.line.specs.Text.{read_text, split_text, write_text}
use Rattle.line.specs.Write.{write_card}
use Rattle.convert.specs.Table.{Form, text, single, uri, phone, organization, Map, maps, type_names, vcard_type}
use Rattle.convert.specs.Model.{part}
use Rattle.convert.specs.Property.{property, param_of}
use Rattle.convert.specs.Value.{is_tel_uri, without}
use Rattle.convert.specs.Classify.{Class, as-version, as-uid, as-kind, as_dropped, as-full, as_parts, as-entry, as_member, as-kept, Classed, classed}
use Rattle.convert.specs.Keys.{keys}
use Rattle.convert.specs.Answers.{raw_lines, lines_of, or_none}

-- ---- values: escapes as 01 writes them

-- a TEXT value escaped anew
unfoldable pub renewed : Bool → Bytes → Bytes
renewed semi v = with-some (read_text v) (write_text semi) v

-- the string that a TEXT value stands for
abbrev pub text_of : Bytes → Bytes
text_of v = with-some (read_text v) (λ t. t) v

-- the strings of one part of N: split at bare commas, empty ones gone
unfoldable pub part_texts : Bytes → List Bytes
part_texts s = keep (λ v. not (empty v)) (map text_of (split_text (code ",") s))

-- N's own strings, part by part: family values that are no secondary surname, .., suffixes that are no generation, ..
unfoldable pub name_values : Bytes → List (List Bytes)
name_values v =
    let ps : List (List Bytes) = map part_texts (split_text (code ";") v) in
    without (part ps 5) (part ps 0) ∷ part ps 1 ∷ part ps 2 ∷ part ps 3 ∷ without (part ps 6) (part ps 4) ∷ part ps 5 ∷ part ps 6 ∷ []

-- N written with 7 parts by its rule: secondary surnames again after the family, generations again after the suffixes
unfoldable pub name_text : List (List Bytes) → Bytes
name_text ps =
    joined (ascii ";") (map (λ vs. joined (ascii ",") (map (write_text true) vs))
    ((part ps 0 ++ part ps 5) ∷ part ps 1 ∷ part ps 2 ∷ part ps 3 ∷ (part ps 4 ++ part ps 6) ∷ part ps 5 ∷ part ps 6 ∷ []))

-- ORG: empty units gone
abbrev pub units_gone : List Bytes → List Bytes
units_gone [] = []
units_gone (n ∷ us) = n ∷ keep (λ u. not (empty u)) us

unfoldable pub org_text : Bytes → Bytes
org_text v = joined (ascii ";") (units_gone (map (renewed true) (split_text (code ";") v)))

-- TEL's number, and whether it is written raw with VALUE=uri
unfoldable pub tel_number : Bytes → Bytes → Bytes
tel_number type v = pick (same type (ascii "uri")) v (text_of v)

unfoldable pub entry_value : Form → Bytes → Bytes → Bytes
entry_value text type v = renewed false v
entry_value single type v = renewed false v
entry_value uri type v = v
entry_value phone type v = pick (is_tel_uri (tel_number type v)) (tel_number type v) (write_text false (tel_number type v))
entry_value organization type v = org_text v

-- ---- parameters PROP-ID, PREF, TYPE, VALUE

-- TYPE lower-case, repeats gone, in the table's order
unfoldable pub type_form : List Bytes → List Bytes
type_form vs = keep (λ t. among t (map lowered (flat (map (parts (code ",")) vs)))) (map vcard_type type_names)

unfoldable pub value_form : Form → Bytes → Bytes → List Bytes
value_form text type v = []
value_form single type v = []
value_form uri type v = []
value_form phone type v = pick (is_tel_uri (tel_number type v)) (ascii "uri" ∷ []) []
value_form organization type v = []

-- a line of a map, with its key
unfoldable pub entry_form : Map → Bytes → Line → Line
entry_form m k l =
    property (lowered l.name)
    (param (ascii "prop-id") (k ∷ []) ∷ (param_of (ascii "pref") (values_named (ascii "pref") l.params)
    ++ param_of (ascii "type") (type_form (values_named (ascii "type") l.params))
    ++ param_of (ascii "value") (value_form m.form (value_type l.params) l.value)))
    (entry_value m.form (value_type l.params) l.value)

-- a kept line: group lower-case, equal-named parameters merged, VALUE last, lower-case, dropped when unknown; the value as it is
unfoldable pub kept_form : Line → Line
kept_form l =
    record {
      group = lowered l.group;
      name = lowered l.name;
      params = merged (besides_value l.params) ++ pick (same (value_type l.params) (ascii "unknown")) [] (param (ascii "value") (value_type l.params ∷ []) ∷ []);
      value = l.value;
    }

-- ---- sections: UID, KIND, FN, N, the maps in table order, JSPROP, kept lines; VERSION and a derived FN are written anew

pub data Section : Type 0 where
  nowhere : Section
  uids kinds fulls names members kepts : Section
  map_at : ℕ → Section

abbrev pub section_of : Class → Section
section_of as-version = nowhere
section_of (as-uid v) = uids
section_of (as-kind v) = kinds
section_of as_dropped = nowhere
section_of (as-full v) = fulls
section_of (as_parts ps) = names
section_of (as-entry i e) = map_at i
section_of (as_member n j) = members
section_of as-kept = kepts

abbrev pub section_number : Section → ℕ
section_number nowhere = 0
section_number uids = 1
section_number kinds = 2
section_number fulls = 3
section_number names = 4
section_number members = 5
section_number kepts = 6
section_number (map_at i) = 7 + i

-- the lines of a section, in their order
unfoldable pub section : Section → List Classed → List Line
section n cs = map (λ (c : Classed). c.line) (keep (λ (c : Classed). eqb (section_number (section_of c.class)) (section_number n)) cs)

-- PROP-ID of a line, empty where it has none
abbrev pub prop_id : Line → Bytes
prop_id l = joined [] (values_named (ascii "prop-id") l.params)

unfoldable pub entry_forms : Map → List Bytes → List Line → List Line
entry_forms m [] ls = []
entry_forms m (k ∷ ks) [] = []
entry_forms m (k ∷ ks) (l ∷ ls) = entry_form m k l ∷ entry_forms m ks ls

unfoldable pub map_forms : ℕ → List Map → List Classed → List Line
map_forms i [] cs = []
map_forms i (m ∷ ms) cs = entry_forms m (keys m.prefix (map prop_id (section (map_at i) cs))) (section (map_at i) cs) ++ map_forms (suc i) ms cs

-- JSPROP: the same pointer, compact JSON; the tree is the one that the line was classed by
abbrev pub member_form : Classed → List Line
member_form c = form c.class
  where
    form : Class → List Line
    form as-version = []
    form (as-uid v) = []
    form (as-kind v) = []
    form as_dropped = []
    form (as-full v) = []
    form (as_parts ps) = []
    form (as-entry i e) = []
    form (as_member n j) = property (ascii "jsprop") (param (ascii "jsptr") (values_named (ascii "jsptr") c.line.params) ∷ []) (write_text false (compact j)) ∷ []
    form as-kept = []

abbrev pub or_made : List Line → Line → List Line
or_made [] made = made ∷ []
or_made (l ∷ ls) made = l ∷ ls

-- N's components as strings, in order
unfoldable pub name_strings : List Line → List Bytes
name_strings [] = []
name_strings (l ∷ ls) = flat (name_values l.value)

-- with no converted FN, one is made of the components joined by spaces
unfoldable pub derived_form : List Line → Line
derived_form ns = property (ascii "fn") (param (ascii "derived") (ascii "TRUE" ∷ []) ∷ []) (write_text false (joined (ascii " ") (name_strings ns)))

unfoldable pub normal_lines : Bytes → ℕ → List Classed → List Line
normal_lines stem n cs =
    property (ascii "version") [] (ascii "4.0")
    ∷ (or_made (map (λ (l : Line). property (ascii "uid") [] l.value) (section uids cs)) (property (ascii "uid") [] (stem ++ code "-" ∷ decimal n))
    ++ map (λ (l : Line). property (ascii "kind") [] (lowered l.value)) (section kinds cs)
    ++ or_made (map (λ (l : Line). property (ascii "fn") [] (renewed false l.value)) (section fulls cs)) (derived_form (section names cs))
    ++ map (λ (l : Line). property (ascii "n") [] (name_text (name_values l.value))) (section names cs)
    ++ map_forms 0 maps cs
    ++ flat (map member_form cs)
    ++ map kept_form (section kepts cs))

-- the normal form of an accepted card, for a stem and a card number
unfoldable pub normal_card : Bytes → ℕ → Bytes → Bytes
normal_card stem n s = write_card (normal_lines stem n (classed (lines_of (or_none (raw_lines s)))))
