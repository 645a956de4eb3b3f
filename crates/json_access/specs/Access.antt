-- What the contracts of this crate cite.
use Rattle.std.specs.Prelude.{◌≡◌, ℕ, suc, ◌-◌, ◌≤◌, take, drop}
use Rattle.text.specs.Places.{Read}
use Rattle.std.specs.Prelude.{Ok, Err}
use Rattle.text.specs.Bytes.{Bytes}
use Rattle.text.specs.Reader.{got}
use Rattle.json_text.specs.Tree.{Json, jnull, jtrue, jfalse, jnum, jstr, jarr, jobj}
use Rattle.json_text.specs.Syntax.{skip, name, value}
use Rattle.json_text.specs.Strings.{decode}
use Rattle.json_strings.specs.Decoded.{decoded_at}
use Rattle.json_access.specs.declared.Part.{Part}
use Rattle.json_access.specs.declared.Head.{Head}
use Rattle.json_access.specs.declared.Places.{Places}
use Rattle.json_access.specs.declared.Kind.{Kind}
use Rattle.json_access.specs.declared.Kind.TheVariants.{Null, True, False, Number, String, Array, Object}

abbrev pub place_of : Read → ℕ
place_of (Ok e) = e
place_of (Err b) = b

-- a part within the n bytes of a text, and not before `at`, where that is within them
pub record Inside (at n start end : ℕ) : Type 0 where
  pub from : at ≤ n → at ≤ start
  pub ordered : start ≤ end
  pub end-in : end ≤ n

-- The value j, read from t with u left, stands from `start` to `end` with no white space before it. Where it is a number, just these bytes
-- are its spelling.
pub record Stands (s t : Bytes) (j : Json) (u : Bytes) (start end : ℕ) : Type 0 where
  pub begins : skip t ≡ drop start s
  pub ends : u ≡ drop end s
  pub as-spelled : (x : Bytes) → j ≡ jnum x → take (end - start) (drop start s) ≡ x

-- if a value is read at a place, d arrays and objects at most around what is inside it, it ends at r
abbrev pub EndsAt : ℕ → Bytes → ℕ → ℕ → Type 0
EndsAt d s at r = (j : Json) (u : Bytes) → value d (drop at s) ≡ got j u → u ≡ drop r s

-- if there is a member at a place, its name stands for what was read, and its value begins there
abbrev pub TellsHead : Bytes → ℕ → Head → Type 0
TellsHead s at r = (k t : Bytes) → name (drop at s) ≡ got k t → (decoded_at s r.name ≡ decode k) × (skip t ≡ drop r.start s)

-- if there is a member at a place, its name stands for what was read, and its value stands there
abbrev pub TellsMember : ℕ → Bytes → ℕ → Places → Type 0
TellsMember d s at r = (k t : Bytes) → name (drop at s) ≡ got k t → (j : Json) (u : Bytes) → value d t ≡ got j u
    → (decoded_at s r.name ≡ decode k) × Stands s t j u r.start r.end

-- if there is a value at a place, it stands there
abbrev pub TellsElement : ℕ → Bytes → ℕ → Part → Type 0
TellsElement d s at r = (j : Json) (u : Bytes) → value d (drop at s) ≡ got j u → Stands s (drop at s) j u r.start r.end

-- ---- kinds

abbrev pub kind_of : Json → Kind
kind_of jnull = Null
kind_of jtrue = True
kind_of jfalse = False
kind_of (jnum x) = Number
kind_of (jstr s) = String
kind_of (jarr es) = Array
kind_of (jobj ms) = Object

-- the kind of whatever value stands at a place (where arrays and objects may stand at all)
abbrev pub TellsKind : Bytes → ℕ → Kind → Type 0
TellsKind s at r = (d : ℕ) (j : Json) (t : Bytes) → value (suc d) (drop at s) ≡ got j t → r ≡ kind_of j
