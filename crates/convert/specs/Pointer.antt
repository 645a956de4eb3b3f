-- JSPTR: one non-empty RFC 6901 part. `~1` is a slash, `~0` a tilde; a bare slash would begin another part.
use Rattle.std.specs.Prelude.{Bool, true, false, not, [], ◌∷◌, ◌++◌, ℕ, eqb}
use Rattle.std.proofs.Math.Option.{Option, none, some}
use Prim.Native.Char.{code}
use Rattle.text.specs.Choice.{pick, provided}
use Rattle.text.specs.Bytes.{Bytes, empty}

abbrev pub push : ℕ → Option Bytes → Option Bytes
push c none = none
push c (some s) = some (c ∷ s)

-- the flag says that a tilde stands just before
unfoldable pub pointed_from : Bool → Bytes → Option Bytes
pointed_from false [] = some []
pointed_from true [] = none
pointed_from false (c ∷ s) =
    let tilde : Option Bytes = pointed_from true s in
    let plain : Option Bytes = push c (pointed_from false s) in
    let no-tilde : Option Bytes = pick (eqb c (code "/")) none plain in
    pick (eqb c (code "~")) tilde no-tilde
pointed_from true (c ∷ s) = pick (eqb c (code "0")) (push (code "~") (pointed_from false s)) (pick (eqb c (code "1")) (push (code "/") (pointed_from false s)) none)

-- the name of the member that a pointer points at
unfoldable pub pointed : Bytes → Option Bytes
pointed p = provided (not (empty p)) (pointed_from false p)

unfoldable pub pointer : Bytes → Bytes
pointer [] = []
pointer (c ∷ s) = pick (eqb c (code "~")) (code "~" ∷ code "0" ∷ []) (pick (eqb c (code "/")) (code "~" ∷ code "1" ∷ []) (c ∷ [])) ++ pointer s
