-- Physical lines, and the frame of one card (refusal 1).
use Rattle.std.specs.Prelude.{Bool, true, false, ◌||◌, List, [], ◌∷◌, map, ℕ, ◌+◌, length, eqb}
use Rattle.std.proofs.Math.Option.{Option, none, some}
use Rattle.text.specs.Choice.{pick, both}
use Rattle.text.specs.Bytes.{Bytes, ascii, same, lowered, on_head}

-- A line ends at LF. Where the last LF is missing, one is supposed: so the last line is there either way.
unfoldable pub by_lf : Bytes → List Bytes
by_lf [] = []
by_lf (c ∷ s) = pick (eqb c 10) ([] ∷ by_lf s) (on_head c (by_lf s))

-- a CR just before the LF belongs to the line's end
unfoldable pub without_cr : Bytes → Bytes
without_cr [] = []
without_cr (c ∷ []) = pick (eqb c 13) [] (c ∷ [])
without_cr (c ∷ (d ∷ s)) = c ∷ without_cr (d ∷ s)

unfoldable pub physical : Bytes → List Bytes
physical s = map without_cr (by_lf s)

-- the bytes, with the supposed LF counted
unfoldable pub lacks_lf : Bytes → Bool
lacks_lf [] = true
lacks_lf (c ∷ []) = pick (eqb c 10) false true
lacks_lf (c ∷ (d ∷ s)) = lacks_lf (d ∷ s)

unfoldable pub size_of : Bytes → ℕ
size_of s = length s + pick (lacks_lf s) 1 0

-- ---- BEGIN:VCARD and END:VCARD, in any letter case, as physical lines

unfoldable pub is_begin : Bytes → Bool
is_begin l = same (lowered l) (ascii "begin:vcard")

unfoldable pub is_end : Bytes → Bool
is_end l = same (lowered l) (ascii "end:vcard")

-- the lines up to END, which comes last, with no other such line before it
unfoldable pub up_to_end : List Bytes → Option (List Bytes)
up_to_end [] = none
up_to_end (l ∷ []) = pick (is_end l) (some []) none
up_to_end (l ∷ (m ∷ ls)) = pick (is_begin l || is_end l) none (both ◌∷◌ (some l) (up_to_end (m ∷ ls)))

-- One card: BEGIN first, END last, no other such line. The lines between them.
unfoldable pub framed : List Bytes → Option (List Bytes)
framed [] = none
framed (l ∷ ls) = pick (is_begin l) (up_to_end ls) none
