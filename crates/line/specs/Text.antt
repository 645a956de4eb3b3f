-- TEXT values: reading, splitting at bare separators, writing.
use Rattle.std.specs.Prelude.{Bool, true, false, ◌&&◌, ◌||◌, List, [], ◌∷◌, ◌++◌, ℕ, eqb}
use Rattle.std.proofs.Math.Option.{Option, none, some}
use Prim.Native.Char.{code}
use Rattle.text.specs.Choice.{pick}
use Rattle.text.specs.Bytes.{Bytes, on_head}

-- ---- reading: `\\` `\,` `\;` `\n` `\N`; a bare comma or semicolon stands for itself

abbrev pub push : ℕ → Option Bytes → Option Bytes
push c none = none
push c (some s) = some (c ∷ s)

-- what stands after a backslash
unfoldable pub escaped : ℕ → Option Bytes → Option Bytes
escaped c r = pick (eqb c (code "\\") || eqb c (code ",") || eqb c (code ";")) (push c r) (pick (eqb c (code "n") || eqb c (code "N")) (push 10 r) none)

-- the flag says that a backslash stands just before
unfoldable pub text_from : Bool → Bytes → Option Bytes
text_from true [] = none
text_from false [] = some []
text_from true (c ∷ s) = escaped c (text_from false s)
text_from false (c ∷ s) =
    let escape-next : Option Bytes = text_from true s in
    let plain : Option Bytes = push c (text_from false s) in
    pick (eqb c (code "\\")) escape-next plain

-- none where an escape is bad
unfoldable pub read_text : Bytes → Option Bytes
read_text s = text_from false s

-- ---- splitting at a bare separator d; a separator after a backslash is none

unfoldable pub split_from : Bool → ℕ → Bytes → List Bytes
split_from b d [] = [] ∷ []
split_from true d (c ∷ s) = on_head c (split_from false d s)
split_from false d (c ∷ s) =
    let escape-next : List Bytes = on_head c (split_from true d s) in
    let rest : List Bytes = split_from false d s in
    let plain : List Bytes = pick (eqb c d) ([] ∷ rest) (on_head c rest) in
    pick (eqb c (code "\\")) escape-next plain

unfoldable pub split_text : ℕ → Bytes → List Bytes
split_text d s = split_from false d s

-- ---- writing: backslash, LF and comma, and semicolon where the flag says so (N and ORG)

unfoldable pub escape : Bool → ℕ → Bytes
escape semi c =
    pick (eqb c (code "\\")) (code "\\" ∷ code "\\" ∷ [])
    (pick (eqb c 10) (code "\\" ∷ code "n" ∷ []) (pick (eqb c (code ",")) (code "\\" ∷ code "," ∷ []) (pick (semi && eqb c (code ";")) (code "\\" ∷ code ";" ∷ []) (c ∷ []))))

unfoldable pub write_text : Bool → Bytes → Bytes
write_text semi [] = []
write_text semi (c ∷ s) = escape semi c ++ write_text semi s
