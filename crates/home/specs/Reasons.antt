-- Why a line is kept: 01's paragraph 'Kept' and the conditions of 'Converted lines', 'N' and 'JSPROP', each as one reason, written apart from the converter's classes, tables
-- and readers. A line is kept exactly when it has one of them.
use Rattle.std.specs.Prelude.{◌≡◌, Bool, true, false, ◌&&◌, ◌||◌, not, List, [], ◌∷◌, length, eqb, leb}
use Rattle.std.proofs.Math.Option.{Option}
use Prim.Native.Char.{code}
use Rattle.text.specs.Choice.{pick, with-some, is_some}
use Rattle.text.specs.Bytes.{Bytes, ascii, is, any, all, empty, same, among, lowered, begins, is_digit, each}
use Rattle.text.specs.Decimal.{number}
use Rattle.text.specs.Reader.{first}
use Rattle.json_text.specs.Read.{Reading, tree, refused, reading}
use Rattle.line.specs.Class.{is_key}
use Rattle.line.specs.Grammar.{Line}
use Rattle.line.specs.Params.{values_named, only_named, value_type, besides_value}
use Rattle.line.specs.Text.{read_text, split_text}
use Rattle.home.specs.Allowed.{entry_names, preferred, name_strings, types_of, carries}
use Rattle.home.specs.StandsFor.{Stand, nothing-stands, a-uid, a-kind, a-full, components, an-entry, a-member, a-prop, part_name}

-- ---- the lines before it, each with what stands for it

pub record Paired : Type 0 where
  pub line : Line
  pub stand : Stand

abbrev pub is_full : Stand → Bool
is_full nothing-stands = false
is_full (a-uid v) = false
is_full (a-kind v) = false
is_full (a-full v) = true
is_full (components js) = false
is_full (an-entry m ids ms) = false
is_full (a-member n j) = false
is_full (a-prop j) = false

abbrev pub is_components : Stand → Bool
is_components nothing-stands = false
is_components (a-uid v) = false
is_components (a-kind v) = false
is_components (a-full v) = false
is_components (components js) = true
is_components (an-entry m ids ms) = false
is_components (a-member n j) = false
is_components (a-prop j) = false

abbrev pub is_entry_of : Bytes → Stand → Bool
is_entry_of x nothing-stands = false
is_entry_of x (a-uid v) = false
is_entry_of x (a-kind v) = false
is_entry_of x (a-full v) = false
is_entry_of x (components js) = false
is_entry_of x (an-entry m ids ms) = same m x
is_entry_of x (a-member n j) = false
is_entry_of x (a-prop j) = false

abbrev pub is_member : Bytes → Stand → Bool
is_member x nothing-stands = false
is_member x (a-uid v) = false
is_member x (a-kind v) = false
is_member x (a-full v) = false
is_member x (components js) = false
is_member x (an-entry m ids ms) = false
is_member x (a-member n j) = same x n
is_member x (a-prop j) = false

-- the line is kept
abbrev pub is_prop : Stand → Bool
is_prop nothing-stands = false
is_prop (a-uid v) = false
is_prop (a-kind v) = false
is_prop (a-full v) = false
is_prop (components js) = false
is_prop (an-entry m ids ms) = false
is_prop (a-member n j) = false
is_prop (a-prop j) = true

abbrev pub earlier : (Stand → Bool) → List Paired → Bool
earlier p before = any (λ (b : Paired). p b.stand) before

-- ---- the table: which lines, parameters and values

abbrev pub table_names : List Bytes
table_names =
    ascii "uid" ∷ ascii "kind" ∷ ascii "fn" ∷ ascii "n" ∷ ascii "nickname" ∷ ascii "email" ∷ ascii "tel" ∷ ascii "url" ∷ ascii "note" ∷ ascii "title" ∷ ascii "role" ∷ ascii "org"
    ∷ ascii "jsprop" ∷ []

-- besides VALUE
abbrev pub takes : Bytes → List Bytes
takes n = pick (preferred n) (ascii "prop-id" ∷ ascii "pref" ∷ ascii "type" ∷ []) (pick (among n entry_names) (ascii "prop-id" ∷ []) (pick (same n (ascii "jsprop")) (ascii "jsptr" ∷ []) []))

-- VALUE: absent or unknown, or uri on UID, TEL and URL
abbrev pub takes_value : Bytes → Bytes → Bool
takes_value n t = same t (ascii "unknown") || (among n (ascii "uid" ∷ ascii "tel" ∷ ascii "url" ∷ []) && same t (ascii "uri"))

-- the words of TYPE
abbrev pub words : Bytes → List Bytes
words n =
    pick (same n (ascii "tel"))
    (ascii "home" ∷ ascii "work" ∷ ascii "fax" ∷ ascii "cell" ∷ ascii "pager" ∷ ascii "text" ∷ ascii "textphone" ∷ ascii "video" ∷ ascii "voice" ∷ [])
    (pick (preferred n) (ascii "home" ∷ ascii "work" ∷ []) [])

abbrev pub map_of : Bytes → Bytes
map_of n =
    pick (same n (ascii "nickname")) (ascii "nicknames") (pick (same n (ascii "email")) (ascii "emails") (pick (same n (ascii "tel")) (ascii "phones")
    (pick (same n (ascii "url")) (ascii "links") (pick (same n (ascii "note")) (ascii "notes") (pick (same n (ascii "org")) (ascii "organizations") (ascii "titles"))))))

-- ---- PROP-ID and PREF: one value

-- "Keys are 1 to 255 of A-Z a-z 0-9 - _."
unfoldable pub key_fits : Bytes → Bool
key_fits k = not (empty k) && leb (length k) 255 && all is_key k

-- the PROP-ID of an earlier converted line of that map
abbrev pub used_in : Bytes → Bytes → List Paired → Bool
used_in x k before = any (λ (b : Paired). is_entry_of x b.stand && among k (values_named (ascii "prop-id") b.line.params)) before

abbrev pub id_fits : List Paired → Bytes → List Bytes → Bool
id_fits before x [] = true
id_fits before x (k ∷ []) = key_fits k && not (used_in x k before)
id_fits before x (k ∷ (j ∷ ks)) = false

-- "PREF is 1 to 100, no leading zero"
unfoldable pub pref_number : Bytes → Bool
pref_number p = not (empty p) && leb (length p) 3 && all is_digit p && not (is (code "0") (first p)) && leb (number p) 100

abbrev pub pref_fits : List Bytes → Bool
pref_fits [] = true
pref_fits (p ∷ []) = pref_number p
pref_fits (p ∷ (q ∷ ps)) = false

-- ---- values

-- a bad escape; UID, KIND, URL and TEL with VALUE=uri are no TEXT
unfoldable pub bad_escape : Bytes → Bytes → Bytes → Bool
bad_escape n t v =
    pick (among n (ascii "uid" ∷ ascii "kind" ∷ ascii "url" ∷ [])) false
    (pick (same n (ascii "n")) (not (is_some (name_strings v)))
    (pick (same n (ascii "org")) (not (is_some (each read_text (split_text (code ";") v))))
    (pick (same n (ascii "tel")) (not (same t (ascii "uri")) && not (is_some (read_text v))) (not (is_some (read_text v))))))

-- every one of them is empty
abbrev pub all_empty : {A : Type 0} → Option (List (List A)) → Bool
all_empty o = with-some o (all empty) false

-- ---- JSPROP

abbrev pub member_names : List Bytes
member_names =
    ascii "@type" ∷ ascii "version" ∷ ascii "uid" ∷ ascii "kind" ∷ ascii "name" ∷ ascii "nicknames" ∷ ascii "emails" ∷ ascii "phones" ∷ ascii "links" ∷ ascii "notes"
    ∷ ascii "titles" ∷ ascii "organizations" ∷ ascii "vCardProps" ∷ []

-- exactly one JSPTR value, one non-empty RFC 6901 part, that names no member of the table, and is new
abbrev pub points_new : List Paired → List Bytes → Bool
points_new before [] = false
points_new before (p ∷ []) = not (empty p) && with-some (part_name p) (λ n. not (among n member_names) && not (earlier (is_member n) before)) false
points_new before (p ∷ (q ∷ ps)) = false

abbrev pub is_tree : Reading → Bool
is_tree (tree j) = true
is_tree (refused n) = false

-- no JSON of depth at most 15; a bad escape is a reason of its own
abbrev pub no_json : Option Bytes → Bool
no_json t = with-some t (λ s. not (is_tree (reading 15 s))) false

-- ---- the reasons, in 01's words; n is the line's name in lower case

abbrev pub reasons_for : Bytes → List Paired → Line → List Bool
reasons_for n before l =
    not (among n table_names)  -- "Every other line"
    ∷ not (empty l.group)  -- "a group"
    ∷ not (only_named (takes n) (besides_value l.params))  -- "another parameter"
    ∷ not (takes_value n (value_type l.params))  -- "or value": of VALUE
    ∷ (among n entry_names && not (id_fits before (map_of n) (values_named (ascii "prop-id") l.params)))  -- "a PROP-ID invalid or already the PROP-ID of an earlier converted line of its map"
    ∷ (among n entry_names && not (pref_fits (values_named (ascii "pref") l.params)))  -- another value of PREF
    ∷ (among n entry_names && not (all (λ t. among t (words n)) (types_of l)))  -- and of TYPE
    ∷ (same n (ascii "fn") && earlier is_full before)  -- "an FN or N after the converted one"
    ∷ (same n (ascii "n") && earlier is_components before)
    ∷ bad_escape n (value_type l.params) l.value  -- "a bad escape"
    ∷ (same n (ascii "nickname") && not (eqb (length (split_text (code ",") l.value)) 1))  -- "NICKNAME with a bare comma"
    ∷ (same n (ascii "n") && not (leb (length (split_text (code ";") l.value)) 7))  -- "N of over 7 parts"
    ∷ (same n (ascii "n") && all_empty (name_strings l.value))  -- "or with every value empty"
    ∷ (same n (ascii "org") && all_empty (each read_text (split_text (code ";") l.value)))  -- "ORG with nothing in it"
    ∷ (same n (ascii "tel") && same (value_type l.params) (ascii "uri") && not (begins (ascii "tel:") l.value))  -- "TEL with VALUE=uri not beginning `tel:`"
    ∷ (same n (ascii "jsprop") && not (points_new before (values_named (ascii "jsptr") l.params)))  -- "JSPROP without exactly one JSPTR value"; its pointer
    ∷ (same n (ascii "jsprop") && no_json (read_text l.value))  -- and its TEXT
    ∷ []

unfoldable pub has_reason : List Paired → Line → Bool
has_reason before l = any (λ b. b) (reasons_for (lowered l.name) before l)

-- Every line but VERSION and a dropped FN is kept exactly where it has a reason, by the lines before it.
pub data KeptByReason : List Paired → List Line → List Stand → Type 0 where
  no_line : {before : List Paired} → KeptByReason before [] []
  next-line : {before : List Paired} {l : Line} {ls : List Line} {t : Stand} {ts : List Stand} → is_prop t ≡ carries l && has_reason before l
      → KeptByReason (record { line = l; stand = t } ∷ before) ls ts → KeptByReason before (l ∷ ls) (t ∷ ts)
