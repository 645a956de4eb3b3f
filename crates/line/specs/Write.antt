-- Writing lines: parameters, folding, CR LF.
use Rattle.std.specs.Prelude.{Bool, ◌&&◌, ◌||◌, not, List, [], ◌∷◌, ◌++◌, ℕ, suc, ◌+◌, eqb, ltb}
use Prim.Native.Char.{code}
use Rattle.text.specs.Choice.{pick}
use Rattle.text.specs.Bytes.{Bytes, ascii, all, same, uppered, empty}
use Rattle.line.specs.Class.{is_bare}
use Rattle.line.specs.Grammar.{Param, param, Line}

-- ---- parameters; each writer is given what follows

-- quotes where a value is not bare, and around every value of JSPTR
unfoldable pub write_value : Bool → Bytes → Bytes → Bytes
write_value always v t = pick (always || not (all is_bare v)) (code "\"" ∷ (v ++ code "\"" ∷ t)) (v ++ t)

unfoldable pub write_values : Bool → List Bytes → Bytes → Bytes
write_values always [] t = t
write_values always (v ∷ []) t = write_value always v t
write_values always (v ∷ (w ∷ ws)) t = write_value always v (code "," ∷ write_values always (w ∷ ws) t)

-- names are written upper-case
unfoldable pub write_params : List Param → Bytes → Bytes
write_params [] t = code ":" ∷ t
write_params (param n vs ∷ ps) t =
    code ";" ∷ (uppered n ++ code "=" ∷ write_values (same (uppered n) (ascii "JSPTR")) vs (write_params ps t))

unfoldable pub write_group : Bytes → Bytes → Bytes
write_group g t = pick (empty g) t (g ++ code "." ∷ t)

-- a line unfolded, without its end
unfoldable pub write_line : Line → Bytes
write_line l = write_group l.group (uppered l.name ++ write_params l.params l.value)

-- ---- folding: at 75 bytes at the latest whole UTF-8 character, the leading space counted, CR LF not

-- the bytes of a character, by its first; 0 for a later byte of one
unfoldable pub width : ℕ → ℕ
width c = pick (ltb c 128) 1 (pick (ltb c 192) 0 (pick (ltb c 224) 2 (pick (ltb c 240) 3 4)))

-- a character of that width no longer fits after so many bytes
unfoldable pub breaks : ℕ → ℕ → Bool
breaks column w = not (eqb w 0) && ltb 75 (column + w)

unfoldable pub fold_from : ℕ → Bytes → Bytes
fold_from column [] = []
fold_from column (c ∷ s) =
    let broken : Bytes = 13 ∷ 10 ∷ 32 ∷ c ∷ fold_from 2 s in
    let same_line : Bytes = c ∷ fold_from (suc column) s in
    pick (breaks column (width c)) broken same_line

unfoldable pub fold : Bytes → Bytes
fold s = fold_from 0 s

-- ---- a whole card

unfoldable pub write_lines : List Line → Bytes → Bytes
write_lines [] t = t
write_lines (l ∷ ls) t = fold (write_line l) ++ 13 ∷ 10 ∷ write_lines ls t

unfoldable pub write_card : List Line → Bytes
write_card ls = ascii "BEGIN:VCARD\r\n" ++ write_lines ls (ascii "END:VCARD\r\n")
