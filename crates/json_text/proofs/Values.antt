-- Values by their first byte, and what stands around them in a compact text.
use mathlib.Core.Path.{◌≡◌, refl}
use mathlib.Core.Bool.{true, false}
use mathlib.Core.List.{[], ◌∷◌, ◌++◌}
use Prim.Native.Nat.{ℕ, zero, suc}
use lib.Dec.{eqb}
use Rattle.text.specs.Bytes.{Bytes, between}
use Rattle.text.specs.Utf8.{utf8}
use Rattle.text.specs.Reader.{Got, got, under, first, on, when, more, last, loop, past, one}
use Rattle.text.proofs.Cases.{other}
use Rattle.json_text.specs.Tree.{Json, jnull, jtrue, jfalse, jnum, jstr, jarr, jobj, Elems, enil, econs, Members, mnil, mcons}
use Rattle.json_text.specs.Grammar.{is_space, is_e}
use Rattle.json_text.specs.Syntax.{skip, token, characters, number, four, scalar, sep, name, item, elements, pair, pairs, value}
use Rattle.json_text.specs.Compact.{spelled_all, quoted, written, written_elems, elems_after, written_members, members_after}
use Rattle.json_text.proofs.Spelling.{units, characters-spelled}
use Rattle.json_text.proofs.Numbers.{Stops, is_numeral, number-first}
use Rattle.json_text.proofs.Sound.{Sound}

-- ---- separators and names: there is no white space

pub sep-close : {B : Type 0} (b : B) (g : B → B) (t : Bytes) → (sep 93 b g (93 ∷ t) ≡ got (last b) t) × (sep 125 b g (125 ∷ t) ≡ got (last b) t)
unfolding sep on skip past is_space
sep-close b g t = (refl, refl)

pub sep-comma : {B : Type 0} (b : B) (g : B → B) (t : Bytes) → (sep 93 b g (44 ∷ t) ≡ got (more g) t) × (sep 125 b g (44 ∷ t) ≡ got (more g) t)
unfolding sep on skip past is_space
sep-comma b g t = (refl, refl)

pub token-quote : (t : Bytes) → token 34 (34 ∷ t) ≡ got 34 t
unfolding token one on skip past is_space
token-quote t = refl

pub token-colon : (t : Bytes) → token 58 (58 ∷ t) ≡ got 58 t
unfolding token one on skip past is_space
token-colon t = refl

pub name-read : (k t : Bytes) → utf8 k ≡ true → name (quoted k (58 ∷ t)) ≡ got (units k) t
unfolding name quoted
name-read k t u = rw (token-quote (spelled_all k ++ 34 ∷ 58 ∷ t), characters-spelled k (58 ∷ t) u, token-colon t)

-- ---- values, by their first byte

pub lit-null : (d : ℕ) (t : Bytes) → value d (110 ∷ 117 ∷ 108 ∷ 108 ∷ t) ≡ got jnull t
unfolding value skip past is_space on when scalar four one
lit-null zero t = refl
lit-null (suc d) t = refl

pub lit-true : (d : ℕ) (t : Bytes) → value d (116 ∷ 114 ∷ 117 ∷ 101 ∷ t) ≡ got jtrue t
unfolding value skip past is_space on when scalar four one
lit-true zero t = refl
lit-true (suc d) t = refl

pub lit-false : (d : ℕ) (t : Bytes) → value d (102 ∷ 97 ∷ 108 ∷ 115 ∷ 101 ∷ t) ≡ got jfalse t
unfolding value skip past is_space on when scalar four one
lit-false zero t = refl
lit-false (suc d) t = refl

pub a-string : (d : ℕ) (t : Bytes) → value d (34 ∷ t) ≡ under jstr (characters t)
unfolding value skip past is_space on scalar
a-string zero t = refl
a-string (suc d) t = refl

pub an-array : (d : ℕ) (t : Bytes) → value (suc d) (91 ∷ t) ≡ under jarr (elements (value d) t)
unfolding value skip past is_space on
an-array d t = refl

pub an-object : (d : ℕ) (t : Bytes) → value (suc d) (123 ∷ t) ≡ under jobj (pairs (value d) t)
unfolding value skip past is_space on
an-object d t = refl

-- a numeral's first byte
numeral-not : (c k : ℕ) → is_numeral c ≡ true → is_numeral k ≡ false → eqb c k ≡ false
numeral-not c k h e = other is_numeral c k h e

no-space : (s : Bytes) → is_numeral (first s) ≡ true → skip s ≡ s
unfolding skip past is_space is_numeral between
no-space [] h = refl
no-space (c ∷ s) h = rw (numeral-not c 32 h refl, numeral-not c 9 h refl, numeral-not c 10 h refl, numeral-not c 13 h refl)

a-scalar : (s : Bytes) → is_numeral (first s) ≡ true → scalar s ≡ under jnum (number s)
unfolding scalar on when is_numeral between
a-scalar s h = rw (numeral-not (first s) 34 h refl, numeral-not (first s) 116 h refl, numeral-not (first s) 102 h refl, numeral-not (first s) 110 h refl)

pub a-number : (d : ℕ) (s : Bytes) → is_numeral (first s) ≡ true → value d s ≡ under jnum (number s)
unfolding value on is_numeral between
a-number zero s h = rw (no-space s h) (a-scalar s h)
a-number (suc d) s h = rw (no-space s h, numeral-not (first s) 91 h refl, numeral-not (first s) 123 h refl) (a-scalar s h)

pub no-elems : (rd : Bytes → Got Json) (t : Bytes) → elements rd (93 ∷ t) ≡ got enil t
unfolding elements skip past is_space on
no-elems rd t = refl

pub no_pairs : (rd : Bytes → Got Json) (t : Bytes) → pairs rd (125 ∷ t) ≡ got mnil t
unfolding pairs skip past is_space on
no_pairs rd t = refl

pub some_pairs : (rd : Bytes → Got Json) (k t : Bytes) → pairs rd (quoted k t) ≡ loop (pair rd) (quoted k t)
unfolding pairs skip past is_space on quoted
some_pairs rd k t = refl

-- neither white space nor a closing bracket
abbrev pub Begins : Bytes → Type 0
Begins s = (skip s ≡ s) × (eqb (first s) 93 ≡ false)

pub some-elems : (rd : Bytes → Got Json) (s : Bytes) → Begins s → elements rd s ≡ loop (item rd) s
unfolding elements on
some-elems rd s b = rw (b.0, b.1)

pub begins : (d : ℕ) (j : Json) (t : Bytes) → Sound d j → Begins (written j t)
unfolding skip past is_space written quoted is_numeral between
begins d jnull t o = (refl, refl)
begins d jtrue t o = (refl, refl)
begins d jfalse t o = (refl, refl)
begins d (jnum x) t o = (no-space (x ++ t) (number-first x t o), numeral-not (first (x ++ t)) 93 (number-first x t o) refl)
begins d (jstr s) t o = (refl, refl)
begins d (jarr es) t o = (refl, refl)
begins d (jobj ms) t o = (refl, refl)

pub stops-elems : (es : Elems) (t : Bytes) → Stops (elems_after es t)
unfolding elems_after written written_elems written_members members_after is_e between
stops-elems enil t = (refl, refl, refl)
stops-elems (econs j es) t = (refl, refl, refl)

pub stops-members : (ms : Members) (t : Bytes) → Stops (members_after ms t)
unfolding elems_after written written_elems written_members members_after is_e between
stops-members mnil t = (refl, refl, refl)
stops-members (mcons k j ms) t = (refl, refl, refl)
