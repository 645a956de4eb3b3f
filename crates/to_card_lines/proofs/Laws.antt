-- Lines one after the other: the whole card as its parts, and rows of writers that write as much as fits.
use mathlib.Core.Path.{◌≡◌, refl, sym, ap, subst, ◌∙◌}
use mathlib.Core.Bool.{Bool}
use mathlib.Core.List.{List, [], ◌∷◌, ◌++◌, map, append-nil, append_assoc}
use Prim.Native.Nat.{ℕ, ◌+◌, ◌-◌, ◌^◌, ◌≤◌, ◌<◌}
use native.Mathlib.Omega.{arith}
use mir.Val.{Fits}
use mir.Syntax.{w64}
use borrow.Rule.Slice.PartMut.{mid_of, put_mid}
use lib.ListN.{length, length-append, take, drop, length-take, length-drop}
use lib.Seq.{take-nil}
use Rattle.text.specs.Bytes.{Bytes, ascii, flat}
use Rattle.text.proofs.Lists.{map_both, flat_append}
use Rattle.output.specs.Put.{put}
use Rattle.output.proofs.Laws.{length-put}
use Rattle.line.specs.Grammar.{Line}
use Rattle.line.specs.Write.{fold, write_line, write_lines, write_card}
use Rattle.line_pen.specs.Pen.{Fills}
use Rattle.line_pen.proofs.Filling.{then}
use Rattle.to_card_lines.specs.Lines.{line_bytes, lines_bytes, LinesIn, Laid, laid}

-- ---- a card by its parts

pub lines_none : lines_bytes [] ≡ []
unfolding lines_bytes flat
lines_none = refl

pub lines-one : (l : Line) → lines_bytes (l ∷ []) ≡ line_bytes l
unfolding lines_bytes flat
lines-one l = append-nil (line_bytes l)

pub lines-append : (a b : List Line) → lines_bytes (a ++ b) ≡ lines_bytes a ++ lines_bytes b
unfolding lines_bytes
lines-append a b = ap flat (map_both line_bytes a b) ∙ flat_append (map line_bytes a) (map line_bytes b)

lines_then : (ls : List Line) (t : Bytes) → write_lines ls t ≡ lines_bytes ls ++ t
unfolding write_lines lines_bytes flat line_bytes
lines_then [] t = refl
lines_then (l ∷ ls) t =
    ap (λ (x : Bytes). fold (write_line l) ++ 13 ∷ 10 ∷ x) (lines_then ls t)
    ∙ sym (append_assoc (fold (write_line l)) (13 ∷ 10 ∷ []) (lines_bytes ls ++ t))
    ∙ sym (append_assoc (fold (write_line l) ++ (13 ∷ 10 ∷ [])) (lines_bytes ls) t)

-- the whole card
pub card-parts : (ls : List Line) → write_card ls ≡ ascii "BEGIN:VCARD\r\n" ++ lines_bytes ls ++ ascii "END:VCARD\r\n"
unfolding write_card
card-parts ls = ap (λ (x : Bytes). ascii "BEGIN:VCARD\r\n" ++ x) (lines_then ls (ascii "END:VCARD\r\n"))

-- ---- writers that write as much as fits

pub fills-none : (room : Bytes) → Fills room [] 0 room
unfolding put
fills-none room = record { said = omega arith; left = simp take-nil }

pub fills-as : {room x y after : Bytes} {n : ℕ} → x ≡ y → Fills room x n after → Fills room y n after
fills-as {room} {x} {y} {after} {n} e f = subst (λ (l : Bytes). Fills room l n after) e f

pub fills-length : {room x after : Bytes} {n : ℕ} → Fills room x n after → length after ≡ length room
fills-length {room} {x} f = ap length f.left ∙ length-put room x

pub fills-in : {room x after : Bytes} {n : ℕ} → Fills room x n after → n ≤ length room
fills-in f = omega (arith, f.said)

-- a row of writers: a place, for a helper's signature
pub record Row : Type 0 where
  pub room : Bytes
  pub x : Bytes
  pub at : ℕ
  pub out : Bytes
  pub so : Fills room x at out

abbrev pub begun : {room x out : Bytes} {n : ℕ} → Fills room x n out → Row
begun {room} {x} {out} {n} f = record { room = room; x = x; at = n; out = out; so = f }

abbrev pub onto : (s : Row) {y last : Bytes} {n : ℕ} → Fills (mid_of s.at (length s.out - s.at) s.out) y n last → Row
onto s {y} {last} {n} g = begun (then s.so g)

pub row-length : (s : Row) → length s.out ≡ length s.room
row-length s = fills-length s.so

pub row_in : (s : Row) → s.at ≤ length s.out
row_in s = omega (arith, row-length s, fills-in s.so)

pub row_fits : (s : Row) → length s.room < 2 ^ 64 → Fits w64 s.at
row_fits s h = record { fits = omega (arith, fills-in s.so) }

-- what is written of a part is in the room
pub lines-in : {room n k : ℕ} {c : Bool} {r : Laid} → LinesIn room r → r ≡ laid n k c → n ≤ room
lines-in {room} {n} {k} {c} {r} h e = subst (LinesIn room) e h

-- ---- bounds on the rest of a room, whatever was written there

pub part_length : (n : ℕ) (out last : Bytes) → n ≤ length out → length last ≡ length (mid_of n (length out - n) out) → length (put_mid n (length out - n) out last) ≡ length out
part_length n out last h e =
    let m : length (take (length out - n) (drop n out)) ≡ length out - n = simp (length-take, length-drop) (omega arith) in
    simp (length-append, length-take, length-drop) (omega arith)

pub part_in : (n : ℕ) (out : Bytes) {k : ℕ} → n ≤ length out → k ≤ length (mid_of n (length out - n) out) → n + k ≤ length out
part_in n out {k} h e =
    let m : length (take (length out - n) (drop n out)) ≡ length out - n = simp (length-take, length-drop) (omega arith) in
    omega arith

pub mid-length : (n : ℕ) (out : Bytes) → length (mid_of n (length out - n) out) ≤ length out
mid-length n out = simp (length-take, length-drop) (omega arith)
