-- The reader of RFC 8259's grammar: a tree, or the rest from the first byte that does not fit.
-- Strings are read as units: a byte that stands there or that a short escape stands for, or 256 + v for \uXXXX with the number v.
-- So the tree of a text is known whether or not its surrogates pair up (Strings.antt decides that).
use Rattle.std.specs.Prelude.{Bool, true, false, ◌&&◌, [], ◌∷◌, ◌++◌, ℕ, zero, suc, ◌+◌, ◌-◌, ◌*◌, eqb, ltb}
use Prim.Native.Char.{code}
use Rattle.text.specs.Choice.{pick}
use Rattle.text.specs.Bytes.{Bytes, is, between, is_digit}
use Rattle.text.specs.Utf8.{Due, start, due, broken, lead}
use Rattle.text.specs.Reader.{Got, got, bad, bind, under, on, when, Step, more, last, loop, past, one, some_of}
use Rattle.json_text.specs.Tree.{Json, jnull, jtrue, jfalse, jnum, jstr, jarr, jobj, Elems, enil, econs, Members, mnil, mcons}
use Rattle.json_text.specs.Grammar.{is_space, is_e, is_hex, is_short}

unfoldable pub skip : Bytes → Bytes
skip s = past is_space s

-- white space, then the byte b
unfoldable pub token : ℕ → Bytes → Got ℕ
token b s = one b (skip s)

-- ---- strings

unfoldable pub hex_val : ℕ → ℕ
hex_val c = pick (is_digit c) (c - code "0") (pick (between (code "A") (code "F") c) (c - 55) (c - 87))

unfoldable pub hex : Bytes → Got ℕ
hex = on is_hex (λ c t. got (hex_val c) t) bad

unfoldable pub hex4 : Bytes → Got ℕ
hex4 s = bind (hex s) λ a s. bind (hex s) λ b s. bind (hex s) λ c s. bind (hex s) λ d s. got (a * 4096 + b * 256 + c * 16 + d) s

-- the byte that a short escape stands for
unfoldable pub short : ℕ → ℕ
short c = pick (eqb c (code "b")) 8 (pick (eqb c (code "f")) 12 (pick (eqb c (code "n")) 10 (pick (eqb c (code "r")) 13 (pick (eqb c (code "t")) 9 c))))

-- what follows a backslash, as a unit
unfoldable pub escape : Bytes → Got ℕ
escape = on (is (code "u")) (λ c t. under (λ v. 256 + v) (hex4 t)) (on is_short (λ c t. got (short c) t) bad)

-- the first byte of a character of several bytes
abbrev pub leads : Due → Bool
leads start = false
leads (due low high k) = true
leads broken = false

unfoldable pub is_lead : ℕ → Bool
is_lead c = ltb 127 c && leads (lead c)

-- so many tails
unfoldable pub tail_bytes : ℕ → Bytes → Got Bytes
tail_bytes zero s = got [] s
tail_bytes (suc k) s = on (between 0x80 0xbf) (λ c t. under (λ cs. c ∷ cs) (tail_bytes k t)) bad s

-- what must follow of a character
unfoldable pub following : Due → Bytes → Got Bytes
following start s = got [] s
following (due low high k) s = on (between low high) (λ c t. under (λ cs. c ∷ cs) (tail_bytes k t)) bad s
following broken s = bad s

abbrev pub push : ℕ → Step Bytes
push u = more (λ us. u ∷ us)

-- one character, or the closing quote
unfoldable pub character : Bytes → Got (Step Bytes)
character =
    on (is (code "\"")) (λ c t. got (last []) t)
    (on (is (code "\\")) (λ c t. under push (escape t))
    (on (between 32 127) (λ c t. got (push c) t)
    (on is_lead (λ c t. under (λ cs. more (λ us. c ∷ (cs ++ us))) (following (lead c) t)) bad)))

-- a string, from after its first quote
unfoldable pub characters : Bytes → Got Bytes
characters = loop character

unfoldable pub string : Bytes → Got Bytes
string s = bind (one (code "\"") s) λ q t. characters t

-- ---- numbers, as spelled

unfoldable pub opt : ℕ → Bytes → Got Bytes
opt b = on (is b) (λ c t. got (c ∷ []) t) (got [])

unfoldable pub digits : Bytes → Got Bytes
digits = some_of is_digit

unfoldable pub int : Bytes → Got Bytes
int = on (is (code "0")) (λ c t. got (c ∷ []) t) digits

unfoldable pub frac : Bytes → Got Bytes
frac = on (is (code ".")) (λ c t. under (λ ds. c ∷ ds) (digits t)) (got [])

unfoldable pub sign : Bytes → Got Bytes
sign = on (is (code "+")) (λ c t. got (c ∷ []) t) (opt (code "-"))

unfoldable pub exp : Bytes → Got Bytes
exp = on is_e (λ c t. bind (sign t) λ g t. bind (digits t) λ ds t. got (c ∷ (g ++ ds)) t) (got [])

unfoldable pub number : Bytes → Got Bytes
number s = bind (opt (code "-") s) λ a s. bind (int s) λ b s. bind (frac s) λ c s. bind (exp s) λ d s. got (a ++ b ++ c ++ d) s

-- ---- values

unfoldable pub four : ℕ → ℕ → ℕ → ℕ → Json → Bytes → Got Json
four a b c d j s = bind (one a s) λ x s. bind (one b s) λ x s. bind (one c s) λ x s. bind (one d s) λ x s. got j s

unfoldable pub scalar : Bytes → Got Json
scalar =
    on (is (code "\"")) (λ c t. under jstr (characters t))
    (when (is (code "t")) (four (code "t") (code "r") (code "u") (code "e") jtrue)
    (on (is (code "f")) (λ c t. four (code "a") (code "l") (code "s") (code "e") jfalse t)
    (when (is (code "n")) (four (code "n") (code "u") (code "l") (code "l") jnull) (λ t. under jnum (number t)))))

-- after a value: the byte that closes, or a comma. What the turn is with no more to come, and with more
unfoldable pub sep : {B : Type 0} → ℕ → B → (B → B) → Bytes → Got (Step B)
sep close b g s = on (is close) (λ c t. got (last b) t) (on (is (code ",")) (λ c t. got (more g) t) bad) (skip s)

-- a member's name, with the colon
unfoldable pub name : Bytes → Got Bytes
name s = bind (token (code "\"") s) λ q s. bind (characters s) λ k s. bind (token (code ":") s) λ c s. got k s

unfoldable pub item : (Bytes → Got Json) → Bytes → Got (Step Elems)
item rd s = bind (rd s) λ j t. sep (code "]") (econs j enil) (econs j) t

unfoldable pub elements : (Bytes → Got Json) → Bytes → Got Elems
elements rd s = on (is (code "]")) (λ c t. got enil t) (loop (item rd)) (skip s)

unfoldable pub pair : (Bytes → Got Json) → Bytes → Got (Step Members)
pair rd s = bind (name s) λ k t. bind (rd t) λ j t. sep (code "}") (mcons k j mnil) (mcons k j) t

unfoldable pub pairs : (Bytes → Got Json) → Bytes → Got Members
pairs rd s = on (is (code "}")) (λ c t. got mnil t) (loop (pair rd)) (skip s)

-- white space and a value, with d arrays and objects at most around what is inside it
unfoldable pub value : ℕ → Bytes → Got Json
value zero s = scalar (skip s)
value (suc d) s =
    on (is (code "[")) (λ c t. under jarr (elements (value d) t))
    (on (is (code "{")) (λ c t. under jobj (pairs (value d) t)) scalar) (skip s)

-- a JSON text: a value, and nothing but white space around it
unfoldable pub text : ℕ → Bytes → Got Json
text d s = bind (value d s) λ j t. when (is 256) (got j) bad (skip t)
