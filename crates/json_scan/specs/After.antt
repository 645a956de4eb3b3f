-- The rest of an array or of an object, from just after an element, a member or a member's name.
use Rattle.std.specs.Prelude.{ℕ, drop}
use Prim.Native.Char.{code}
use Rattle.text.specs.Places.{Read}
use Rattle.text.specs.Bytes.{Bytes, is}
use Rattle.text.specs.Reader.{Got, got, bad, bind, under, on, loop}
use Rattle.text.specs.Places.{Gives}
use Rattle.json_text.specs.Tree.{Json, Elems, enil, Members, mnil, mcons}
use Rattle.json_text.specs.Syntax.{skip, item, pair, value}

-- the byte that closes, or a comma and what stands after it
unfoldable pub later : {B : Type 0} → ℕ → B → (Bytes → Got B) → Bytes → Got B
later close b k s = on (is close) (λ c t. got b t) (on (is (code ",")) (λ c t. k t) bad) (skip s)

abbrev pub elements_after : (Bytes → Got Json) → Bytes → Got Elems
elements_after rd s = later (code "]") enil (loop (item rd)) s

abbrev pub members_after : (Bytes → Got Json) → Bytes → Got Members
members_after rd s = later (code "}") mnil (loop (pair rd)) s

-- the member of this name, and those after it
abbrev pub after_name : Bytes → (Bytes → Got Json) → Bytes → Got Members
after_name us rd s = bind (rd s) λ j t. under (mcons us j) (members_after rd t)

-- where they end, whatever the name
abbrev pub GivesAfterName : Bytes → ℕ → ℕ → Read → Type 0
GivesAfterName s at d r = (us : Bytes) → Gives s at (after_name us (value d) (drop at s)) r
