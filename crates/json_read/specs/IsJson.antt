-- RFC 8259 JSON as refusal 11 words it: "grammar, UTF-8, depth, equal names in one object, lone surrogate". The first three are json's `Text`; the other
-- two are said here of the text's tree, by relations and not by the reader's tests.
use Rattle.std.specs.Prelude.{◌≡◌, Bool, true, false, List, [], ◌∷◌, ◌++◌, ℕ}
use Rattle.std.proofs.Math.Option.{some}
use Rattle.text.specs.Bytes.{Bytes, between}
use Rattle.text.specs.Reader.{got}
use Rattle.json_text.specs.Tree.{Json, jnull, jtrue, jfalse, jnum, jstr, jarr, jobj, Elems, enil, econs, Members, mnil, mcons}
use Rattle.json_text.specs.Grammar.{Text}
use Rattle.json_text.specs.Syntax.{text}
use Rattle.json_text.specs.Strings.{decoded, names}

-- ---- no surrogate alone

-- A string as it is spelled is a list of units: a byte, or 256 + v for \uXXXX. High surrogates are \ud800 to \udbff, low ones \udc00 to \udfff.
abbrev pub high_unit : ℕ → Bool
high_unit u = between 0xd900 0xdcff u

abbrev pub low_unit : ℕ → Bool
low_unit u = between 0xdd00 0xe0ff u

-- each surrogate is half of a pair, a high one and a low one just after it
pub data Paired : Bytes → Type 0 where
  no-unit : Paired []
  one_unit : {u : ℕ} {us : Bytes} → high_unit u ≡ false → low_unit u ≡ false → Paired us → Paired (u ∷ us)
  one-pair : {h l : ℕ} {us : Bytes} → high_unit h ≡ true → low_unit l ≡ true → Paired us → Paired (h ∷ (l ∷ us))

-- so in every string and every name of a tree
unfoldable mutual
  pub AllPaired : Json → Type 0
  AllPaired jnull = Unit {0}
  AllPaired jtrue = Unit {0}
  AllPaired jfalse = Unit {0}
  AllPaired (jnum x) = Unit {0}
  AllPaired (jstr us) = Paired us
  AllPaired (jarr es) = PairedElems es
  AllPaired (jobj ms) = PairedMembers ms

  pub PairedElems : Elems → Type 0
  PairedElems enil = Unit {0}
  PairedElems (econs j es) = AllPaired j × PairedElems es

  pub PairedMembers : Members → Type 0
  PairedMembers mnil = Unit {0}
  PairedMembers (mcons k j ms) = Paired k × AllPaired j × PairedMembers ms

-- ---- no equal names

-- one of these stands twice
abbrev pub Repeats : List Bytes → Type 0
Repeats ns = (n : Bytes) × (a : List Bytes) × (b : List Bytes) × (c : List Bytes) × (ns ≡ a ++ n ∷ (b ++ n ∷ c))

-- no object of a tree has two members of one name
unfoldable mutual
  pub NoRepeats : Json → Type 0
  NoRepeats jnull = Unit {0}
  NoRepeats jtrue = Unit {0}
  NoRepeats jfalse = Unit {0}
  NoRepeats (jnum x) = Unit {0}
  NoRepeats (jstr s) = Unit {0}
  NoRepeats (jarr es) = NoRepeatsElems es
  NoRepeats (jobj ms) = (Repeats (names ms) → ⊥) × NoRepeatsMembers ms

  pub NoRepeatsElems : Elems → Type 0
  NoRepeatsElems enil = Unit {0}
  NoRepeatsElems (econs j es) = NoRepeats j × NoRepeatsElems es

  pub NoRepeatsMembers : Members → Type 0
  NoRepeatsMembers mnil = Unit {0}
  NoRepeatsMembers (mcons k j ms) = NoRepeats j × NoRepeatsMembers ms

-- ---- both, of a text

pub record IsJson (d : ℕ) (s : Bytes) : Type 0 where
  pub grammar : Text d s  -- and UTF-8, and depth d at most
  pub spelled : Json  -- the tree with strings as they are spelled
  pub rest : Bytes
  pub read : text d s ≡ got spelled rest
  pub paired : AllPaired spelled
  pub names-differ : (k : Json) → decoded spelled ≡ some k → NoRepeats k  -- of the names that the spelled ones stand for
