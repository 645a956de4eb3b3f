-- How worked examples are written: a case is an input and what 01 gives for it, and a list of cases holds by computation.
use Rattle.std.specs.Prelude.{[], ◌∷◌, ◌++◌, ℕ, eqb}
use Prim.Native.Char.{code}
use Prim.Native.String.{String, [] as []ˢ, ◌∷◌ as ◌∷ˢ◌}
use Rattle.text.specs.Choice.{pick}
use Rattle.text.specs.Bytes.{Bytes, ascii}
use Rattle.text.specs.Utf8.{encode}
use Rattle.convert.specs.Answers.{Answer, no, yes, card_to_json, json_to_card}
use Rattle.convert.specs.NormalCard.{normal_card}
use Rattle.convert.specs.NormalJson.{normal_json}

-- ---- texts

-- a byte of a text, written: `|` is LF, `^` is CR, `'` is a double quote
unfoldable pub spelt : ℕ → Bytes
spelt c = pick (eqb c (code "|")) (10 ∷ []) (pick (eqb c (code "^")) (13 ∷ []) (pick (eqb c (code "'")) (code "\"" ∷ []) (encode c)))

unfoldable pub text : String → Bytes
text []ˢ = []
text (c ∷ˢ s) = spelt (code c) ++ text s

-- a card with these lines
unfoldable pub card : String → Bytes
card s = ascii "BEGIN:VCARD\n" ++ text s ++ ascii "\nEND:VCARD\n"

-- a card with VERSION, FN:a and these lines after them
unfoldable pub lines : String → Bytes
lines s = ascii "BEGIN:VCARD\nVERSION:4.0\nFN:a\n" ++ text s ++ ascii "\nEND:VCARD\n"

-- the JSON of such a card: made uid, full name a, and these members
unfoldable pub made : String → Bytes
made s = text "{'@type':'Card','version':'1.0','uid':'reg-1','name':{'full':'a'}" ++ text s ++ ascii "}"

-- a JSON card with uid u and these members
unfoldable pub json : String → Bytes
json s = text "{'@type':'Card','version':'1.0','uid':'u'" ++ text s ++ ascii "}"

-- the card it comes home as
unfoldable pub home_lines : String → Bytes
home_lines s = text "BEGIN:VCARD^|VERSION:4.0^|UID:u^|" ++ text s ++ text "^|END:VCARD^|"

-- ---- cases; stem reg, number 1, full room

pub data Case : Type 0 where
  converts : (card json : Bytes) → Case
  refuses : (card : Bytes) (number place : ℕ) → Case
  comes_home : (json card : Bytes) → Case
  turns-away : (json : Bytes) (number place : ℕ) → Case
  returns_as : (card normal : Bytes) → Case
  settles-as : (json normal : Bytes) → Case

-- what a converter from cards to JSON and one from JSON to cards give
unfoldable pub given_by : (to_json : (stem : Bytes) (n lent : ℕ) (card : Bytes) → Answer) (to_card : (lent : ℕ) (json : Bytes) → Answer) → Case → Answer
given_by f g (converts c j) = f (ascii "reg") 1 65536 c
given_by f g (refuses c n p) = f (ascii "reg") 1 65536 c
given_by f g (comes_home j c) = g 32768 j
given_by f g (turns-away j n p) = g 32768 j
given_by f g (returns_as c d) = yes (normal_card (ascii "reg") 1 c)
given_by f g (settles-as j k) = yes (normal_json j)

abbrev pub given : Case → Answer
given c = given_by card_to_json json_to_card c

unfoldable pub wanted : Case → Answer
wanted (converts c j) = yes j
wanted (refuses c n p) = no n p
wanted (comes_home j c) = yes c
wanted (turns-away j n p) = no n p
wanted (returns_as c d) = yes d
wanted (settles-as j k) = yes k

unfoldable pub worked-opened : Unit {0}
unfolding spelt text card lines made json home_lines given_by wanted
worked-opened = tt
