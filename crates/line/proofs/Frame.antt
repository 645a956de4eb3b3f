-- A written card: its frame is found, and unfolding gives the written lines.
use mathlib.Core.Path.{◌≡◌, refl, sym, ap, subst, ◌∙◌}
use mathlib.Core.Bool.{true, false}
use mathlib.Core.List.{List, [], ◌∷◌, ◌++◌, map, append_assoc}
use mathlib.Core.Option.{some}
use Prim.Native.Nat.{ℕ, suc}
use Rattle.text.specs.Bytes.{Bytes, ascii, is, any, same, lower, lowered, among, flat, between, on_head}
use Rattle.text.specs.Reader.{first, taken, past}
use Rattle.text.proofs.Cases.{by_bool, not-both}
use Rattle.text.proofs.Same.{same_true}
use Rattle.text.proofs.Letters.{lowered-append, lower-test}
use Rattle.line.specs.Class.{is_name}
use Rattle.line.specs.Physical.{physical, by_lf, without_cr, is_begin, is_end, up_to_end, framed}
use Rattle.line.specs.Grammar.{Line}
use Rattle.line.specs.Write.{width, breaks, write_line, write_lines, write_card}
use Rattle.line.proofs.Pieces.{pieces_from, pieces, physical-line, physical-folded}

-- ---- physical lines of a card

abbrev pub NoLf : List Bytes → Type 0
NoLf [] = Unit {0}
NoLf (s ∷ ss) = (any (is 10) s ≡ false) × NoLf ss

physical-lines : (ls : List Line) (t : Bytes) → NoLf (map write_line ls) → physical (write_lines ls t) ≡ flat (map pieces (map write_line ls)) ++ physical t
unfolding write_lines flat
physical-lines [] t h = refl
physical-lines (l ∷ ls) t h =
    rw (physical-folded (write_line l) (write_lines ls t) h.0, physical-lines ls t h.1, append_assoc (pieces (write_line l)))

end-physical : physical (ascii "END:VCARD\r\n") ≡ ascii "END:VCARD" ∷ []
unfolding physical by_lf without_cr on_head
end-physical = refl

begin-physical : (t : Bytes) → physical (ascii "BEGIN:VCARD\r\n" ++ t) ≡ ascii "BEGIN:VCARD" ∷ physical t
unfolding any
begin-physical t = physical-line (ascii "BEGIN:VCARD") t refl

pub physical-card : (ls : List Line) → NoLf (map write_line ls) → physical (write_card ls) ≡ ascii "BEGIN:VCARD" ∷ (flat (map pieces (map write_line ls)) ++ ascii "END:VCARD" ∷ [])
unfolding write_card
physical-card ls h = rw (begin-physical (write_lines ls (ascii "END:VCARD\r\n")), physical-lines ls (ascii "END:VCARD\r\n") h, end-physical)

-- ---- no line of a card is BEGIN or END

-- neither BEGIN:VCARD nor END:VCARD
abbrev pub Inner : List Bytes → Type 0
Inner [] = Unit {0}
Inner (p ∷ ps) = (is_begin p ≡ false) × (is_end p ≡ false) × Inner ps

pub inner-append : (ps qs : List Bytes) → Inner ps → Inner qs → Inner (ps ++ qs)
inner-append [] qs a b = b
inner-append (p ∷ ps) qs a b = (a.0, a.1, inner-append ps qs a.2 b)

-- a piece after the first begins with a space
blank-inner : (s : Bytes) → (is_begin (32 ∷ s) ≡ false) × (is_end (32 ∷ s) ≡ false)
unfolding is_begin is_end lowered lower between same
blank-inner s = (refl, refl)

later-inner : (column : ℕ) (s : Bytes) → Inner (pieces_from column s).1
unfolding pieces_from
later-inner column [] = tt
later-inner column (c ∷ s) =
    by_bool (breaks column (width c))
    (λ b. rw b ((blank-inner (c ∷ (pieces_from 2 s).0)).0, (blank-inner (c ∷ (pieces_from 2 s).0)).1, later-inner 2 s))
    (λ b. rw b (later-inner (suc column) s))

-- the first piece is a front of the line
front : (column : ℕ) (s : Bytes) → (r : Bytes) × (s ≡ (pieces_from column s).0 ++ r)
unfolding pieces_from
front column [] = ([], refl)
front column (c ∷ s) =
    by_bool (breaks column (width c)) (λ b. (c ∷ s, rw b)) (λ b. let f = front (suc column) s in (f.0, rw b (ap (λ (x : Bytes). c ∷ x) f.1)))

-- a written line begins with a word, and after it a dot, a colon or a semicolon
name-lower : (c : ℕ) → is_name (lower c) ≡ is_name c
unfolding is_name lower between
name-lower = lower-test is_name refl

taken-lowered : (s : Bytes) → taken is_name (lowered s) ≡ lowered (taken is_name s)
unfolding taken lowered
taken-lowered [] = refl
taken-lowered (c ∷ s) = by_bool (is_name c) (λ e. rw (name-lower c, e) (ap (λ (x : Bytes). lower c ∷ x) (taken-lowered s))) (λ e. rw (name-lower c, e))

pub past-lowered : (s : Bytes) → past is_name (lowered s) ≡ lowered (past is_name s)
unfolding past lowered
past-lowered [] = refl
past-lowered (c ∷ s) = by_bool (is_name c) (λ e. rw (name-lower c, e) (past-lowered s)) (λ e. rw (name-lower c, e))

-- a line that begins so has the name BEGIN or END, and no group
front-begin : (p r : Bytes) → is_begin p ≡ true → (lowered (taken is_name (p ++ r)) ≡ ascii "begin") × (first (past is_name (lowered (p ++ r))) ≡ 58)
unfolding is_begin taken past is_name between
front-begin p r e =
    let q = same_true (lowered p) (ascii "begin:vcard") e in
    (sym (taken-lowered (p ++ r)) ∙ rw (lowered-append p r, q), rw (lowered-append p r, q))

front-end : (p r : Bytes) → is_end p ≡ true → (lowered (taken is_name (p ++ r)) ≡ ascii "end") × (first (past is_name (lowered (p ++ r))) ≡ 58)
unfolding is_end taken past is_name between
front-end p r e =
    let q = same_true (lowered p) (ascii "end:vcard") e in
    (sym (taken-lowered (p ++ r)) ∙ rw (lowered-append p r, q), rw (lowered-append p r, q))

-- the word that a line begins with is no frame's name, where a colon follows it
abbrev pub Named : Bytes → Type 0
Named s = first (past is_name (lowered s)) ≡ 58 → among (lowered (taken is_name s)) (ascii "begin" ∷ ascii "end" ∷ []) ≡ false

begin-among : (s : Bytes) → s ≡ ascii "begin" → among s (ascii "begin" ∷ ascii "end" ∷ []) ≡ true
unfolding among any same
begin-among s e = rw e

end-among : (s : Bytes) → s ≡ ascii "end" → among s (ascii "begin" ∷ ascii "end" ∷ []) ≡ true
unfolding among any same
end-among s e = rw e

front-inner : (p r : Bytes) → Named (p ++ r) → (is_begin p ≡ false) × (is_end p ≡ false)
front-inner p r n = (
  by_bool (is_begin p) (λ e. let f = front-begin p r e in not-both (begin-among _ f.0) (n f.1)) (λ e. e),
  by_bool (is_end p) (λ e. let f = front-end p r e in not-both (end-among _ f.0) (n f.1)) (λ e. e),
)

pub pieces-inner : (s : Bytes) → Named s → Inner (pieces s)
unfolding pieces
pieces-inner s n =
    let f = front 0 s in
    let g = front-inner (pieces_from 0 s).0 f.0 (subst Named f.1 n) in
    (g.0, g.1, later-inner 0 s)

-- ---- the frame

up-to-end : (ps : List Bytes) → Inner ps → up_to_end (ps ++ ascii "END:VCARD" ∷ []) ≡ some ps
unfolding up_to_end is_end lowered lower between same
up-to-end [] h = refl
up-to-end (p ∷ []) h = rw (h.0, h.1)
up-to-end (p ∷ (q ∷ qs)) h = rw (h.0, h.1, up-to-end (q ∷ qs) h.2)

begins-card : (ps : List Bytes) → framed (ascii "BEGIN:VCARD" ∷ ps) ≡ up_to_end ps
unfolding framed is_begin lowered lower between same
begins-card ps = refl

abbrev pub AllNamed : List Bytes → Type 0
AllNamed [] = Unit {0}
AllNamed (s ∷ ss) = Named s × AllNamed ss

all-inner : (ss : List Bytes) → AllNamed ss → Inner (flat (map pieces ss))
unfolding flat
all-inner [] h = tt
all-inner (s ∷ ss) h = inner-append (pieces s) (flat (map pieces ss)) (pieces-inner s h.0) (all-inner ss h.1)

pub framed-card : (ls : List Line) → NoLf (map write_line ls) → AllNamed (map write_line ls) → framed (physical (write_card ls)) ≡ some (flat (map pieces (map write_line ls)))
framed-card ls h n = rw (physical-card ls h, begins-card (flat (map pieces (map write_line ls)) ++ ascii "END:VCARD" ∷ [])) (up-to-end (flat (map pieces (map write_line ls))) (all-inner (map write_line ls) n))
