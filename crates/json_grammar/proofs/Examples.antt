-- Worked examples: a text, and places of refusals.
use mathlib.Core.Path.{refl}
use mathlib.Core.List.{[], ◌∷◌}
use Rattle.text.specs.Bytes.{ascii}
use Rattle.json_text.specs.Tree.{jarr, jnum, jobj, enil, econs, mcons, mnil}
use Rattle.json_text.specs.Grammar.{Text, FirstBad}
use Rattle.json_text.proofs.Opened.{json-opened}
use Rattle.json_grammar.proofs.Accepted.{accepts-only}
use Rattle.json_grammar.proofs.Place.{place-first}

spaced : Text 2 (ascii " { \"a\" : [ 1 ] } ")
unfolding json-opened
spaced = accepts-only 2 (ascii " { \"a\" : [ 1 ] } ") (jobj (mcons (ascii "a") (jarr (econs (jnum (ascii "1")) enil)) mnil)) refl

-- a bracket after a comma
comma : FirstBad 1 (ascii "[1,]") 3
unfolding json-opened
comma = place-first 1 (ascii "[1,]") (ascii "]") refl

-- no digit follows a 0
zero_one : FirstBad 1 (ascii "01") 1
unfolding json-opened
zero_one = place-first 1 (ascii "01") (ascii "1") refl

-- one array too many
too-deep : FirstBad 1 (ascii "[[1]]") 1
unfolding json-opened
too-deep = place-first 1 (ascii "[[1]]") (ascii "[1]]") refl

-- E0 80 begins no character
overlong : FirstBad 0 (34 ∷ 0xe0 ∷ 0x80 ∷ 0x80 ∷ 34 ∷ []) 2
unfolding json-opened
overlong = place-first 0 (34 ∷ 0xe0 ∷ 0x80 ∷ 0x80 ∷ 34 ∷ []) (0x80 ∷ 0x80 ∷ 34 ∷ []) refl

-- the text only stops short
cut : FirstBad 1 (ascii "{\"a\"") 4
unfolding json-opened
cut = place-first 1 (ascii "{\"a\"") [] refl
