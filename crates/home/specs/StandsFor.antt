-- What of a card's JSON stands for each line of the card: 01's table 'Converted lines', 'N', 'JSPROP', 'JSON' and the last sentence of 'Kept', word for word. The names
-- of both sides are written out once more on purpose: nothing here is taken from the converter's tables, classes, readers, keys or model, so that a wrong pair of words
-- cannot make it true. Parameters by name, TEXT and JSON are read by the rules for lines and for JSON (crates line and json).
--
-- This file says what a line stands for where it is converted and where it is kept; which of the two it is, `Reasons` says.
use Rattle.std.specs.Prelude.{◌≡◌, true, false, ◌&&◌, ◌||◌, List, [], ◌∷◌, ◌++◌, map, ℕ, ◌≤◌, ◌<◌, eqb}
use Rattle.std.proofs.Math.Option.{Option, none, some}
use Prim.Native.Char.{code}
use Rattle.text.specs.Choice.{pick}
use Rattle.text.specs.Bytes.{Bytes, ascii, same, among, lowered, flat, each}
use Rattle.text.specs.Decimal.{decimal}
use Rattle.json_text.specs.Tree.{Json, jstr, jnum, jtrue, Member, member, object, array}
use Rattle.json_text.specs.Read.{tree, reading}
use Rattle.line.specs.Grammar.{Param, param, Line}
use Rattle.line.specs.Params.{values_named, value_type, besides_value, merged}
use Rattle.line.specs.Text.{read_text, split_text}
use Rattle.home.specs.Allowed.{called, untyped, plain, filled_only, name_strings, part_of, not_among, types_of, only_derived}

-- ---- what stands for a line

pub data Stand : Type 0 where
  nothing-stands : Stand  -- VERSION, and an FN that is dropped
  a-uid : Bytes → Stand
  a-kind : Bytes → Stand
  a-full : Bytes → Stand  -- name.full
  components : List Json → Stand  -- name.components
  an-entry : (map : Bytes) (ids : List Bytes) (entry : List Member) → Stand  -- of that top-level member; the PROP-ID, where there is one
  a-member : Bytes → Json → Stand  -- a top-level member
  a-prop : Json → Stand  -- an entry of vCardProps: the line is kept

-- ---- members, and members that are there or not

abbrev pub string : Bytes → Bytes → Member
string n v = member n (jstr v)

-- an object under this name, where it has a member
abbrev pub where_any : Bytes → List Member → List Member
where_any n [] = []
where_any n (m ∷ ms) = member n (object (m ∷ ms)) ∷ []

abbrev pub where_text : Bytes → Bytes → List Member
where_text n [] = []
where_text n (c ∷ s) = string n (c ∷ s) ∷ []

-- ---- TYPE and PREF

-- a word of TYPE, and the JSON name that stands for it
abbrev pub word : Line → Bytes → Bytes → List Member → List Member
word l v j rest = pick (among v (types_of l)) (member j jtrue ∷ rest) rest

-- "TYPE home is context private, work is work"; alphabetical by JSON name
unfoldable pub contexts : Line → List Member
contexts l = where_any (ascii "contexts") (word l (ascii "home") (ascii "private") (word l (ascii "work") (ascii "work") []))

-- "on TEL also fax, cell (feature mobile), pager, text, textphone, video, voice"
unfoldable pub features : Line → List Member
features l =
    where_any (ascii "features")
    (word l (ascii "fax") (ascii "fax") (word l (ascii "cell") (ascii "mobile") (word l (ascii "pager") (ascii "pager") (word l (ascii "text") (ascii "text")
    (word l (ascii "textphone") (ascii "textphone") (word l (ascii "video") (ascii "video") (word l (ascii "voice") (ascii "voice") [])))))))

-- a number, as PREF spells it
unfoldable pub pref : Line → List Member
pref l = map (λ p. member (ascii "pref") (jnum p)) (values_named (ascii "pref") l.params)

-- ---- N and ORG

unfoldable pub of_kind : Bytes → List Bytes → List Json
of_kind k vs = map (λ v. object (string (ascii "kind") k ∷ string (ascii "value") v ∷ [])) vs

unfoldable pub name_components : List (List Bytes) → List Json
name_components ps =
    flat (of_kind (ascii "surname") (not_among (part_of 5 ps) (part_of 0 ps)) ∷ of_kind (ascii "given") (part_of 1 ps) ∷ of_kind (ascii "given2") (part_of 2 ps)
    ∷ of_kind (ascii "title") (part_of 3 ps) ∷ of_kind (ascii "credential") (not_among (part_of 6 ps) (part_of 4 ps)) ∷ of_kind (ascii "surname2") (part_of 5 ps)
    ∷ of_kind (ascii "generation") (part_of 6 ps) ∷ [])

abbrev pub where_units : List Bytes → List Member
where_units [] = []
where_units (u ∷ us) = member (ascii "units") (array (map (λ v. object (string (ascii "name") v ∷ [])) (u ∷ us))) ∷ []

-- "ORG splits at semicolons into the name, then units; empty ones vanish."
abbrev pub organization : List Bytes → List Member
organization [] = []
organization (n ∷ us) = where_text (ascii "name") n ++ where_units (filled_only us)

-- ---- JSPROP

abbrev pub after : ℕ → Option Bytes → Option Bytes
after c none = none
after c (some s) = some (c ∷ s)

-- the name that a pointer of one RFC 6901 part points at: `~1` is a slash, `~0` a tilde; none where a bare slash begins another part, or a tilde stands before something else
unfoldable pub part_name : Bytes → Option Bytes
part_name [] = some []
part_name (c ∷ []) = pick (eqb c (code "~") || eqb c (code "/")) none (some (c ∷ []))
part_name (c ∷ (d ∷ p)) =
    pick (eqb c (code "~")) (pick (eqb d (code "0")) (after (code "~") (part_name p)) (pick (eqb d (code "1")) (after (code "/") (part_name p)) none))
    (pick (eqb c (code "/")) none (after c (part_name (d ∷ p))))

-- ---- kept lines: "lower-case name, parameters but VALUE (lower-case names; a string, or an array if several; group first as "group", lower-case), type (VALUE in lower
-- case, else "unknown"), raw value"

abbrev pub one_or_several : List Bytes → Json
one_or_several [] = array []
one_or_several (v ∷ []) = jstr v
one_or_several (v ∷ (w ∷ ws)) = array (map jstr (v ∷ w ∷ ws))

abbrev pub parameter : Param → Member
parameter (param n vs) = member n (one_or_several vs)

unfoldable pub kept : Line → Json
kept l =
    array (jstr (lowered l.name) ∷ object (where_text (ascii "group") (lowered l.group) ++ map parameter (merged (besides_value l.params)))
    ∷ jstr (value_type l.params) ∷ jstr l.value ∷ [])

-- ---- the rows of the table

abbrev pub entry_of : Bytes → Line → List Member → Stand
entry_of m l ms = an-entry m (values_named (ascii "prop-id") l.params) ms

abbrev pub Is : Bytes → Line → Type 0
Is n l = called n l ≡ true

-- the TEXT of the line
abbrev pub Text : Line → Bytes → Type 0
Text l v = read_text l.value ≡ some v

-- VALUE in lower case, "unknown" where there is none
abbrev pub ValueIs : Line → Bytes → Type 0
ValueIs l t = value_type l.params ≡ t

-- the entries of nicknames, emails and links end so; those of phones
abbrev pub ending : Line → List Member
ending l = contexts l ++ pref l

abbrev pub phone_ending : Line → List Member
phone_ending l = contexts l ++ features l ++ pref l

pub data StandsFor (l : Line) : Stand → Type 0 where
  version : Is (ascii "version") l → StandsFor l nothing-stands
  dropped : Is (ascii "fn") l → untyped l && only_derived (besides_value l.params) ≡ true → StandsFor l nothing-stands
  uid : Is (ascii "uid") l → StandsFor l (a-uid l.value)
  kind : Is (ascii "kind") l → StandsFor l (a-kind (lowered l.value))
  full : {v : Bytes} → Is (ascii "fn") l → plain l ≡ true → Text l v → StandsFor l (a-full v)
  parts : {ps : List (List Bytes)} → Is (ascii "n") l → name_strings l.value ≡ some ps → StandsFor l (components (name_components ps))
  nickname : {v : Bytes} → Is (ascii "nickname") l → Text l v → StandsFor l (entry_of (ascii "nicknames") l (string (ascii "name") v ∷ ending l))
  email : {v : Bytes} → Is (ascii "email") l → Text l v → StandsFor l (entry_of (ascii "emails") l (string (ascii "address") v ∷ ending l))
  tel : {v : Bytes} → Is (ascii "tel") l → ValueIs l (ascii "unknown") → Text l v → StandsFor l (entry_of (ascii "phones") l (string (ascii "number") v ∷ phone_ending l))
  tel-uri : Is (ascii "tel") l → ValueIs l (ascii "uri") → StandsFor l (entry_of (ascii "phones") l (string (ascii "number") l.value ∷ phone_ending l))
  url : Is (ascii "url") l → StandsFor l (entry_of (ascii "links") l (string (ascii "uri") l.value ∷ ending l))
  note : {v : Bytes} → Is (ascii "note") l → Text l v → StandsFor l (entry_of (ascii "notes") l (string (ascii "note") v ∷ []))
  title : {v : Bytes} → Is (ascii "title") l → Text l v → StandsFor l (entry_of (ascii "titles") l (string (ascii "kind") (ascii "title") ∷ string (ascii "name") v ∷ []))
  role : {v : Bytes} → Is (ascii "role") l → Text l v → StandsFor l (entry_of (ascii "titles") l (string (ascii "kind") (ascii "role") ∷ string (ascii "name") v ∷ []))
  org : {vs : List Bytes} → Is (ascii "org") l → each read_text (split_text (code ";") l.value) ≡ some vs → StandsFor l (entry_of (ascii "organizations") l (organization vs))
  jsprop : {p n t : Bytes} {j : Json} → Is (ascii "jsprop") l → values_named (ascii "jsptr") l.params ≡ p ∷ [] → part_name p ≡ some n → Text l t → reading 15 t ≡ tree j
      → StandsFor l (a-member n j)
  kept_line : StandsFor l (a-prop (kept l))

-- every line, in order, one for one
pub data AllStandFor : List Line → List Stand → Type 0 where
  no_line : AllStandFor [] []
  next-line : {l : Line} {ls : List Line} {t : Stand} {ts : List Stand} → StandsFor l t → AllStandFor ls ts → AllStandFor (l ∷ ls) (t ∷ ts)

-- ---- all that stands for lines, by its place in the JSON

abbrev pub uid_in : Stand → List Bytes
uid_in nothing-stands = []
uid_in (a-uid v) = v ∷ []
uid_in (a-kind v) = []
uid_in (a-full v) = []
uid_in (components js) = []
uid_in (an-entry m ids ms) = []
uid_in (a-member n j) = []
uid_in (a-prop j) = []

abbrev pub kind_in : Stand → List Bytes
kind_in nothing-stands = []
kind_in (a-uid v) = []
kind_in (a-kind v) = v ∷ []
kind_in (a-full v) = []
kind_in (components js) = []
kind_in (an-entry m ids ms) = []
kind_in (a-member n j) = []
kind_in (a-prop j) = []

-- "name": full, then components
abbrev pub full_in : Stand → List Member
full_in nothing-stands = []
full_in (a-uid v) = []
full_in (a-kind v) = []
full_in (a-full v) = string (ascii "full") v ∷ []
full_in (components js) = []
full_in (an-entry m ids ms) = []
full_in (a-member n j) = []
full_in (a-prop j) = []

abbrev pub components_in : Stand → List Member
components_in nothing-stands = []
components_in (a-uid v) = []
components_in (a-kind v) = []
components_in (a-full v) = []
components_in (components js) = member (ascii "components") (array js) ∷ []
components_in (an-entry m ids ms) = []
components_in (a-member n j) = []
components_in (a-prop j) = []

abbrev pub member_in : Stand → List Member
member_in nothing-stands = []
member_in (a-uid v) = []
member_in (a-kind v) = []
member_in (a-full v) = []
member_in (components js) = []
member_in (an-entry m ids ms) = []
member_in (a-member n j) = member n j ∷ []
member_in (a-prop j) = []

abbrev pub prop_in : Stand → List Json
prop_in nothing-stands = []
prop_in (a-uid v) = []
prop_in (a-kind v) = []
prop_in (a-full v) = []
prop_in (components js) = []
prop_in (an-entry m ids ms) = []
prop_in (a-member n j) = []
prop_in (a-prop j) = j ∷ []

-- an entry before it has its key
pub record Unkeyed : Type 0 where
  pub ids : List Bytes
  pub entry : List Member

abbrev pub entry_in : Bytes → Stand → List Unkeyed
entry_in x nothing-stands = []
entry_in x (a-uid v) = []
entry_in x (a-kind v) = []
entry_in x (a-full v) = []
entry_in x (components js) = []
entry_in x (an-entry m is ms) = pick (same m x) (record { ids = is; entry = ms } ∷ []) []
entry_in x (a-member n j) = []
entry_in x (a-prop j) = []

-- all of one place, in the order of the lines
unfoldable pub all_of : {A : Type 0} → (Stand → List A) → List Stand → List A
all_of f ts = flat (map f ts)

-- ---- keys

abbrev pub numbered : Bytes → ℕ → Bytes
numbered prefix n = prefix ++ code "-" ∷ decimal n

-- "Without PROP-ID the key is the prefix, hyphen, smallest positive number no converted line of that map has as PROP-ID or earlier key."; used: those
pub data KeysFor (prefix : Bytes) : (used : List Bytes) → List Unkeyed → List Bytes → Type 0 where
  no-entry : {used : List Bytes} → KeysFor prefix used [] []
  given-key : {used ks : List Bytes} {es : List Unkeyed} {k : Bytes} {ms : List Member} → KeysFor prefix (k ∷ used) es ks
      → KeysFor prefix used (record { ids = k ∷ []; entry = ms } ∷ es) (k ∷ ks)
  made-key : {used ks : List Bytes} {es : List Unkeyed} {n : ℕ} {ms : List Member} → 1 ≤ n → among (numbered prefix n) used ≡ false
      → ((i : ℕ) → 1 ≤ i → i < n → among (numbered prefix i) used ≡ true) → KeysFor prefix (numbered prefix n ∷ used) es ks
      → KeysFor prefix used (record { ids = []; entry = ms } ∷ es) (numbered prefix n ∷ ks)

-- every PROP-ID of the map's lines
abbrev pub ids_in : List Unkeyed → List Bytes
ids_in es = flat (map (λ (e : Unkeyed). e.ids) es)

abbrev pub under_keys : List Bytes → List Unkeyed → List Member
under_keys [] es = []
under_keys (k ∷ ks) [] = []
under_keys (k ∷ ks) (e ∷ es) = member k (object e.entry) ∷ under_keys ks es

-- ---- the maps, in the table's order

pub record MapOf (ts : List Stand) (name prefix : Bytes) (ms : List Member) : Type 0 where
  pub keys : List Bytes
  pub right : KeysFor prefix (ids_in (all_of (entry_in name) ts)) (all_of (entry_in name) ts) keys
  pub whole : ms ≡ where_any name (under_keys keys (all_of (entry_in name) ts))

pub record MapsOf (ts : List Stand) (ms : List Member) : Type 0 where
  pub nicknames : List Member
  pub emails : List Member
  pub phones : List Member
  pub links : List Member
  pub notes : List Member
  pub titles : List Member
  pub organizations : List Member
  pub nickname : MapOf ts (ascii "nicknames") (ascii "NICK") nicknames
  pub email : MapOf ts (ascii "emails") (ascii "EMAIL") emails
  pub phone : MapOf ts (ascii "phones") (ascii "PHONE") phones
  pub link : MapOf ts (ascii "links") (ascii "LINK") links
  pub note : MapOf ts (ascii "notes") (ascii "NOTE") notes
  pub title : MapOf ts (ascii "titles") (ascii "TITLE") titles
  pub organization : MapOf ts (ascii "organizations") (ascii "ORG") organizations
  pub whole : ms ≡ flat (nicknames ∷ emails ∷ phones ∷ links ∷ notes ∷ titles ∷ organizations ∷ [])

-- ---- the whole: "@type "Card", version "1.0", uid, kind, name, then the table's maps, JSPROP members, vCardProps"; "No UID: stem, hyphen, card number."

abbrev pub or_made : Bytes → List Bytes → List Bytes
or_made made [] = made ∷ []
or_made made (v ∷ vs) = v ∷ vs

abbrev pub where_props : List Json → List Member
where_props [] = []
where_props (j ∷ js) = member (ascii "vCardProps") (array (j ∷ js)) ∷ []

abbrev pub strings : Bytes → List Bytes → List Member
strings n vs = map (string n) vs

unfoldable pub json_of : Bytes → ℕ → List Stand → List Member → List Member
json_of stem n ts maps =
    string (ascii "@type") (ascii "Card") ∷ string (ascii "version") (ascii "1.0")
    ∷ (strings (ascii "uid") (or_made (stem ++ code "-" ∷ decimal n) (all_of uid_in ts))
    ++ strings (ascii "kind") (all_of kind_in ts)
    ++ where_any (ascii "name") (all_of full_in ts ++ all_of components_in ts)
    ++ maps
    ++ all_of member_in ts
    ++ where_props (all_of prop_in ts))
