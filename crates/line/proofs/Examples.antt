-- Lines by worked examples: the grammar, parameters, folding.
use mathlib.Core.Path.{◌≡◌, refl}
use mathlib.Core.List.{[], ◌∷◌, ◌++◌, map}
use mathlib.Core.Option.{none, some}
use lib.ListN.{replicate}
use Rattle.text.specs.Bytes.{ascii}
use Rattle.text.specs.Utf8.{encoded}
use Rattle.line.specs.Physical.{physical, framed}
use Rattle.line.specs.Unfold.{unfold'}
use Rattle.line.specs.Grammar.{param, read_line}
use Rattle.line.specs.Text.{read_text, split_text}
use Rattle.line.specs.Write.{write_line, fold}
use Rattle.line.proofs.Opened.{line-opened}

-- a group, a bare and a quoted value, an empty one; the value is what follows the colon
parsed : read_line (ascii "a-1.TEL;TYPE=home,\"x;y:z\";P=:b;c:d") ≡ some (record { group = ascii "a-1"; name = ascii "TEL"; params = param (ascii "TYPE") (ascii "home" ∷ ascii "x;y:z" ∷ []) ∷ param (ascii "P") ([] ∷ []) ∷ []; value = ascii "b;c:d" })
unfolding line-opened
parsed = refl

-- off the grammar: no colon, no name, no equals sign, bytes around quotes, an unclosed quote, no group name, BEGIN and END
off : map read_line (ascii "FN" ∷ ascii ":x" ∷ ascii "TEL;HOME:1" ∷ ascii "X;P=\"a\"b:" ∷ ascii "X;P=a\"b:" ∷ ascii "X;P=\"a:" ∷ ascii ".X:" ∷ ascii "a.b.X:" ∷ ascii "X Y:" ∷ ascii "a.Begin:x" ∷ ascii "END;P=1:" ∷ [] ∷ [])
    ≡ none ∷ none ∷ none ∷ none ∷ none ∷ none ∷ none ∷ none ∷ none ∷ none ∷ none ∷ none ∷ []
unfolding line-opened
off = refl

-- written: names upper-case, quotes where needed and around every JSPTR
written : write_line (record { group = ascii "g"; name = ascii "x-a"; params = param (ascii "p") (ascii "a,b" ∷ ascii "c" ∷ []) ∷ param (ascii "jsptr") (ascii "d" ∷ []) ∷ []; value = ascii "v" })
    ≡ ascii "g.X-A;P=\"a,b\",c;JSPTR=\"d\":v"
unfolding line-opened
written = refl

-- 75 bytes are not folded, 76 are; later pieces have a space and 74; a letter of several bytes is not cut
folds : map fold (replicate 75 97 ∷ replicate 76 97 ∷ replicate 150 97 ∷ (replicate 74 97 ++ encoded "é") ∷ [])
    ≡ replicate 75 97 ∷ (replicate 75 97 ++ ascii "\r\n a") ∷ (replicate 75 97 ++ ascii "\r\n " ++ replicate 74 97 ++ ascii "\r\n a") ∷ (replicate 74 97 ++ ascii "\r\n " ++ encoded "é") ∷ []
unfolding line-opened
folds = refl

-- BEGIN and END in any case; line ends LF, CR LF and none; a continuation by tab; no continuation of BEGIN or after END
frames : map (λ s. framed (physical s)) (ascii "Begin:vCard\r\na\n\tb\r\nend:VCARD" ∷ ascii "BEGIN:VCARD\n VERSION\nEND:VCARD\n" ∷ ascii "BEGIN:VCARD\nEND:VCARD\n x\n" ∷ ascii "BEGIN:VCARD\n" ∷ [])
    ≡ some (ascii "a" ∷ ascii "\tb" ∷ []) ∷ some (ascii " VERSION" ∷ []) ∷ none ∷ none ∷ []
unfolding line-opened
frames = refl

unfolds : map unfold' ((ascii "a" ∷ ascii "\tb" ∷ ascii "c" ∷ []) ∷ (ascii " a" ∷ ascii "  b" ∷ []) ∷ ([] ∷ ascii " a" ∷ []) ∷ [])
    ≡ (ascii "ab" ∷ ascii "c" ∷ []) ∷ (ascii " a b" ∷ []) ∷ (ascii "a" ∷ []) ∷ []
unfolding line-opened
unfolds = refl

-- a fold inside one letter's bytes vanishes
in-a-letter : unfold' ((65 ∷ 195 ∷ []) ∷ (32 ∷ 169 ∷ []) ∷ []) ≡ (65 ∷ 195 ∷ 169 ∷ []) ∷ []
unfolding line-opened
in-a-letter = refl

-- TEXT: a bad escape; a separator after a backslash is none
bad-escape : map read_text (ascii "a\\:b" ∷ ascii "a\\" ∷ ascii "a\\\\\\,\\;\\n\\Nb" ∷ []) ≡ none ∷ none ∷ some (ascii "a\\,;\n\nb") ∷ []
unfolding line-opened
bad-escape = refl

split_bare : split_text 59 (ascii "a\\;b;;c") ≡ ascii "a\\;b" ∷ [] ∷ ascii "c" ∷ []
unfolding line-opened
split_bare = refl
