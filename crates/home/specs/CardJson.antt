-- Which JSON is a card of 01, as a test over its tree: paragraph 'To vCard' and what it refers to; 12 refuses every other tree. All names are written out once more on
-- purpose: nothing here is taken from the converter's tables, readers or model, so that a wrong one cannot make it true.
use Rattle.std.specs.Prelude.{◌≡◌, Bool, true, false, ◌&&◌, ◌||◌, not, List, [], ◌∷◌, ◌++◌, map, length, ltb}
use Rattle.text.specs.Choice.{pick, with-some, is_some}
use Rattle.text.specs.Bytes.{Bytes, ascii, any, all, empty, same, among, lowered, flat, keep, each}
use Rattle.json_text.specs.Tree.{Json, jnull, jtrue, jfalse, jnum, jstr, jarr, jobj, Member, name_of, value_of, field, as_string, as_number, as_array, as_object}
use Rattle.json_text.specs.Lookup.{room}
use Rattle.json_text.specs.Read.{tree, reading}
use Rattle.line.specs.Class.{is_name}
use Rattle.line.specs.Grammar.{Param, param, Line, fits}
use Rattle.line.specs.Params.{first_or}
use Rattle.home.specs.Allowed.{carries}
use Rattle.home.specs.StandsFor.{Stand, a-full, components, an-entry, a-member}
use Rattle.home.specs.Reasons.{Paired, key_fits, pref_number, has_reason}

-- ---- "a wrong JSON type": a value is of a type, and meets a test

abbrev pub a_string : (Bytes → Bool) → Json → Bool
a_string p j = with-some (as_string j) p false

abbrev pub any_string : Json → Bool
any_string j = is_some (as_string j)

-- a number, as it is spelled
abbrev pub a_number : (Bytes → Bool) → Json → Bool
a_number p j = with-some (as_number j) p false

abbrev pub an_array : (List Json → Bool) → Json → Bool
an_array p j = with-some (as_array j) p false

abbrev pub an_object : (List Member → Bool) → Json → Bool
an_object p j = with-some (as_object j) p false

abbrev pub a_true : Json → Bool
a_true jnull = false
a_true jtrue = true
a_true jfalse = false
a_true (jnum x) = false
a_true (jstr s) = false
a_true (jarr es) = false
a_true (jobj ms) = false

abbrev pub a_false : Json → Bool
a_false jnull = false
a_false jtrue = false
a_false jfalse = true
a_false (jnum x) = false
a_false (jstr s) = false
a_false (jarr es) = false
a_false (jobj ms) = false

-- ---- what an object may hold: members of these names, whose values meet a test; each must be there, or may be absent

pub data Rule : Type 0 where
  must may : (name : Bytes) (test : Json → Bool) → Rule

abbrev pub rule_name : Rule → Bytes
rule_name (must n p) = n
rule_name (may n p) = n

abbrev pub obeyed : List Member → Rule → Bool
obeyed ms (must n p) = with-some (field n ms) p false
obeyed ms (may n p) = with-some (field n ms) p true

-- "a nested member not above", "a missing member"
unfoldable pub shaped : List Rule → List Member → Bool
shaped rs ms = all (λ m. among (name_of m) (map rule_name rs)) ms && all (obeyed ms) rs

-- ---- strings of forms

abbrev pub filled : Bytes → Bool
filled s = not (empty s)

-- "letters, digits, hyphens, non-empty", in lower case
unfoldable pub lower_name : Bytes → Bool
lower_name s = filled s && all is_name s && same (lowered s) s

-- ---- name

-- "Kinds: surname, given, given2, title, credential, surname2, generation."
abbrev pub kinds : List Bytes
kinds = ascii "surname" ∷ ascii "given" ∷ ascii "given2" ∷ ascii "title" ∷ ascii "credential" ∷ ascii "surname2" ∷ ascii "generation" ∷ []

-- "an unlisted .. component kind"
abbrev pub is_component : List Member → Bool
is_component ms = shaped (must (ascii "kind") (a_string λ k. among k kinds) ∷ must (ascii "value") any_string ∷ []) ms

-- full and components: "one of .. name's members may be absent"; "isOrdered true" is 12
unfoldable pub a_name : List Member → Bool
a_name ms =
    shaped (may (ascii "full") any_string ∷ may (ascii "components") (an_array (all (an_object is_component))) ∷ may (ascii "isOrdered") a_false ∷ []) ms
    && (is_some (field (ascii "full") ms) || is_some (field (ascii "components") ms))

-- ---- entries of the maps

-- "an unlisted context, feature", "a contexts or features value other than true"
abbrev pub flags : List Bytes → Json → Bool
flags ns j = an_object (all λ m. a_true (value_of m) && among (name_of m) ns) j

abbrev pub contexts : Rule
contexts = may (ascii "contexts") (flags (ascii "private" ∷ ascii "work" ∷ []))

abbrev pub features : Rule
features = may (ascii "features") (flags (ascii "fax" ∷ ascii "mobile" ∷ ascii "pager" ∷ ascii "text" ∷ ascii "textphone" ∷ ascii "video" ∷ ascii "voice" ∷ []))

-- "a pref not spelled as PREF"
abbrev pub pref : Rule
pref = may (ascii "pref") (a_number pref_number)

abbrev pub nickname : List Member → Bool
nickname ms = shaped (must (ascii "name") any_string ∷ contexts ∷ pref ∷ []) ms

abbrev pub email : List Member → Bool
email ms = shaped (must (ascii "address") any_string ∷ contexts ∷ pref ∷ []) ms

abbrev pub phone : List Member → Bool
phone ms = shaped (must (ascii "number") any_string ∷ contexts ∷ features ∷ pref ∷ []) ms

abbrev pub link : List Member → Bool
link ms = shaped (must (ascii "uri") any_string ∷ contexts ∷ pref ∷ []) ms

abbrev pub note : List Member → Bool
note ms = shaped (must (ascii "note") any_string ∷ []) ms

-- "an unlisted .. title .. kind"
abbrev pub title : List Member → Bool
title ms = shaped (may (ascii "kind") (a_string λ k. among k (ascii "title" ∷ ascii "role" ∷ [])) ∷ must (ascii "name") any_string ∷ []) ms

abbrev pub is_unit : List Member → Bool
is_unit ms = shaped (must (ascii "name") any_string ∷ []) ms

-- a member of this name, a string that is not empty
abbrev pub has_text : Bytes → List Member → Bool
has_text n ms = obeyed ms (must n (a_string filled))

-- name and units: "one of ORG's .. members may be absent"; "An organisation left empty is 12", so with neither it is too
unfoldable pub organization : List Member → Bool
organization ms =
    shaped (may (ascii "name") any_string ∷ may (ascii "units") (an_array (all (an_object is_unit))) ∷ []) ms
    && (has_text (ascii "name") ms || obeyed ms (must (ascii "units") (an_array (any (an_object (has_text (ascii "name")))))))

-- "a bad key"
abbrev pub under_keys : (List Member → Bool) → Json → Bool
under_keys entry j = an_object (all λ m. key_fits (name_of m) && an_object entry (value_of m)) j

-- ---- top-level members: "@type "Card", version "1.0" and a non-empty uid are required."

abbrev pub table_rules : List Rule
table_rules =
    must (ascii "@type") (a_string (same (ascii "Card")))
    ∷ must (ascii "version") (a_string (same (ascii "1.0")))
    ∷ must (ascii "uid") (a_string filled)
    ∷ may (ascii "kind") (a_string lower_name)  -- "a kind no KIND line gives"
    ∷ may (ascii "name") (an_object a_name)
    ∷ may (ascii "nicknames") (under_keys nickname)
    ∷ may (ascii "emails") (under_keys email)
    ∷ may (ascii "phones") (under_keys phone)
    ∷ may (ascii "links") (under_keys link)
    ∷ may (ascii "notes") (under_keys note)
    ∷ may (ascii "titles") (under_keys title)
    ∷ may (ascii "organizations") (under_keys organization)
    ∷ []

-- "Other top-level members become JSPROP"
unfoldable pub others : List Member → List Member
others ms = keep (λ m. not (among (name_of m) (map rule_name table_rules ++ ascii "vCardProps" ∷ []))) ms

-- ---- vCardProps: "an entry of vCardProps that no kept line in its place gives (13, group's place and one-value arrays aside)"

-- "in its place": after the lines that all other members become, each with what it stands for. Of these lines only the PROP-ID is said, and of what stands for them only what
-- a later line may not repeat, since a reason (`has_reason`) looks at no more.
abbrev pub line_of : List Param → Stand → Paired
line_of ps t = record { line = record { group = []; name = []; params = ps; value = [] }; stand = t }

abbrev pub members_at : Bytes → List Member → List Member
members_at n ms = with-some (field n ms) (λ j. with-some (as_object j) (λ os. os) []) []

-- name.full
unfoldable pub full_before : List Member → List Paired
full_before ms = pick (is_some (field (ascii "full") (members_at (ascii "name") ms))) (line_of [] (a-full []) ∷ []) []

-- name.components, where one has a value: "empty component values .. gone"
unfoldable pub parts_before : List Member → List Paired
parts_before ms =
    pick (obeyed (members_at (ascii "name") ms) (must (ascii "components") (an_array (any (an_object (has_text (ascii "value"))))))) (line_of [] (components []) ∷ []) []

-- the entries of the map x: PROP-ID is the key
unfoldable pub entries_before : List Member → Bytes → List Paired
entries_before ms x = map (λ m. line_of (param (ascii "prop-id") (name_of m ∷ []) ∷ []) (an-entry x (name_of m ∷ []) [])) (members_at x ms)

unfoldable pub before : List Member → List Paired
before ms =
    full_before ms ++ parts_before ms
    ++ flat (map (entries_before ms) (ascii "nicknames" ∷ ascii "emails" ∷ ascii "phones" ∷ ascii "links" ∷ ascii "notes" ∷ ascii "titles" ∷ ascii "organizations" ∷ []))
    ++ map (λ m. line_of [] (a-member (name_of m) (value_of m))) (others ms)

-- the values of a parameter: "a string, or an array if several", or of one; none where it is anything else
abbrev pub values_in : Json → List Bytes
values_in j = with-some (as_string j) (λ s. s ∷ []) (with-some (as_array j) (λ js. with-some (each as_string js) (λ vs. vs) []) [])

abbrev pub one_name : List Bytes → Bool
one_name [] = false
one_name (g ∷ []) = lower_name g
one_name (g ∷ (h ∷ hs)) = false

-- the line that an entry would be: VALUE last, and absent where the type is unknown
unfoldable pub prop_line : (name : Bytes) (params : List Member) (type value : Bytes) → Line
prop_line n ps t v =
    record {
      group = first_or [] (with-some (field (ascii "group") ps) values_in []);
      name = n;
      params =
          map (λ m. param (name_of m) (values_in (value_of m))) (keep (λ m. not (same (name_of m) (ascii "group"))) ps)
          ++ pick (same t (ascii "unknown")) [] (param (ascii "value") (t ∷ []) ∷ []);
      value = v;
    }

abbrev pub prop_tests : List Paired → (name : Bytes) (params : List Member) (type value : Bytes) → List Bool
prop_tests bs n ps t v =
    all (λ m. not (empty (values_in (value_of m)))) ps  -- "a string, or an array if several"
    ∷ obeyed ps (may (ascii "group") λ j. one_name (values_in j))  -- "group .. as "group", lower-case"
    ∷ lower_name n  -- "lower-case name"
    ∷ not (among n (ascii "begin" ∷ ascii "end" ∷ ascii "version" ∷ ascii "uid" ∷ ascii "kind" ∷ []))  -- lines that are refused or converted, and never kept
    ∷ lower_name t  -- "type (VALUE in lower case, else "unknown")"
    ∷ all (λ m. lower_name (name_of m) && not (same (name_of m) (ascii "value"))) ps  -- "parameters but VALUE (lower-case names"
    ∷ fits (prop_line n ps t v).params  -- "A line has at most 32 parameters and 64 parameter values."
    ∷ (carries (prop_line n ps t v) && has_reason bs (prop_line n ps t v))  -- kept in its place
    ∷ []

-- "lower-case name, parameters but VALUE, .. type, .. raw value"
abbrev pub four_fit : List Paired → List Json → Bool
four_fit bs [] = false
four_fit bs (n ∷ []) = false
four_fit bs (n ∷ (ps ∷ [])) = false
four_fit bs (n ∷ (ps ∷ (t ∷ []))) = false
four_fit bs (n ∷ (ps ∷ (t ∷ (v ∷ [])))) = a_string (λ n. an_object (λ ps. a_string (λ t. a_string (λ v. all (λ b. b) (prop_tests bs n ps t v)) v) t) ps) n
four_fit bs (n ∷ (ps ∷ (t ∷ (v ∷ (w ∷ ws))))) = false

unfoldable pub is_prop : List Paired → Json → Bool
is_prop bs j = an_array (four_fit bs) j

-- ---- the whole

abbrev pub top_rules : List Member → List Rule
top_rules ms = table_rules ++ may (ascii "vCardProps") (an_array (all (is_prop (before ms)))) ∷ []

-- "an empty name is 12"
unfoldable pub is_card : Json → Bool
is_card j = an_object (λ ms. all (λ m. filled (name_of m)) ms && all (obeyed ms) (top_rules ms)) j

-- Refusal 12 is "given exactly when" this holds of the text: 3 (the text over its room) and 11 come before it.
pub record NoCard (s : Bytes) : Type 0 where
  pub within : ltb room (length s) ≡ false
  pub json : Json
  pub read : reading 16 s ≡ tree json
  pub no-card : is_card json ≡ false
