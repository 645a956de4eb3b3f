-- The name that a pointer spells, by place.
use Rattle.std.specs.Prelude.{◌≡◌, true, false, [], ℕ, ◌+◌, eqb, get_or}
use Prim.Native.Char.{code}
use Rattle.text.specs.Choice.{pick, with-some, is_some}
use Rattle.text.specs.Bytes.{Bytes}
use Rattle.convert.specs.Pointer.{pointed_from}

-- the name that a pointer spells, with ~0 and ~1 read
unfoldable pub name_in : Bytes → Bytes
name_in p = with-some (pointed_from false p) (λ n. n) []

abbrev pub Pointing : Bytes → Type 0
Pointing p = is_some (pointed_from false p) ≡ true

-- the byte that stands at i, and where the next begins
unfoldable pub pointer_byte : Bytes → ℕ → ℕ
pointer_byte p i = pick (eqb (get_or p i 0) (code "~")) (pick (eqb (get_or p (i + 1) 0) (code "1")) (code "/") (code "~")) (get_or p i 0)

unfoldable pub pointer_next : Bytes → ℕ → ℕ
pointer_next p i = pick (eqb (get_or p i 0) (code "~")) (i + 2) (i + 1)
