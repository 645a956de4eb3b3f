-- A written card ends with LF: no LF is supposed, so its size is its length.
use mathlib.Core.Path.{◌≡◌, refl}
use mathlib.Core.Bool.{false}
use mathlib.Core.List.{List, [], ◌∷◌, ◌++◌}
use native.Mathlib.Omega.{arith}
use lib.ListN.{length}
use Rattle.text.specs.Bytes.{Bytes, ascii}
use Rattle.text.proofs.Cases.{not-both}
use Rattle.line.specs.Grammar.{Line}
use Rattle.line.specs.Physical.{lacks_lf, size_of}
use Rattle.line.specs.Write.{write_line, fold, write_lines, write_card}
use Rattle.line.proofs.Ends.{lacks-after}
use Rattle.convert.specs.Model.{Card}
use Rattle.convert.specs.ToCard.{card_lines, print_card}

ends : (s t : Bytes) → lacks_lf t ≡ false → lacks_lf (s ++ t) ≡ false
unfolding lacks_lf
ends s [] h = not-both refl h
ends s (d ∷ t) h = rw (lacks-after s d t) h

lines_end : (ls : List Line) (t : Bytes) → lacks_lf t ≡ false → lacks_lf (write_lines ls t) ≡ false
unfolding write_lines
lines_end [] t h = h
lines_end (l ∷ ls) t h = ends (fold (write_line l)) (13 ∷ 10 ∷ write_lines ls t) (ends (ascii "\r\n") (write_lines ls t) (lines_end ls t h))

end-ends : lacks_lf (ascii "END:VCARD\r\n") ≡ false
unfolding lacks_lf
end-ends = refl

written-ends : (ls : List Line) → lacks_lf (write_card ls) ≡ false
unfolding write_card
written-ends ls = ends (ascii "BEGIN:VCARD\r\n") (write_lines ls (ascii "END:VCARD\r\n")) (lines_end ls (ascii "END:VCARD\r\n") end-ends)

size-ends : (s : Bytes) → lacks_lf s ≡ false → size_of s ≡ length s
unfolding size_of
size-ends s h = rw h (omega arith)

pub card-size : (c : Card) → size_of (print_card c) ≡ length (print_card c)
unfolding print_card
card-size c = size-ends (write_card (card_lines c)) (written-ends (card_lines c))
