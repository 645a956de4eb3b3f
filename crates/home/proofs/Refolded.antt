-- Refolding and other line ends leave the unfolded lines as they are: every spelling of lines unfolds to these lines.
use mathlib.Core.Path.{◌≡◌, refl, ap, ◌∙◌}
use mathlib.Core.Bool.{true, false}
use mathlib.Core.List.{List, [], ◌∷◌, ◌++◌, map, append_assoc, append-nil}
use mathlib.Core.Option.{some}
use Prim.Native.Nat.{ℕ}
use lib.Dec.{eqb}
use borrow.Author.Tests.{eqb-true}
use Rattle.text.specs.Bytes.{Bytes, is, any, same, lower, lowered, between, on_head}
use Rattle.text.proofs.Cases.{by_bool, not-both}
use Rattle.text.proofs.Lists.{any_head, any-tail}
use Rattle.line.specs.Class.{is_blank}
use Rattle.line.specs.Physical.{by_lf, without_cr, physical, is_begin, is_end, up_to_end, framed}
use Rattle.line.specs.Unfold.{rest, unfold'}
use Rattle.line.proofs.Ends.{by-lf}
use Rattle.line.proofs.Pieces.{physical-line}
use Rattle.line.proofs.Frame.{Inner, inner-append}
use Rattle.convert.specs.Answers.{raw_lines}
use Rattle.home.specs.Spelled.{Ended, by-lf as by-lf-end, by-cr-lf, Ends, none_left, one_line, no_end, GoesOn, no_more, after-blank, Broken, no_line, one-broken, Spells}

-- ---- line ends

physical-lf : (l t : Bytes) → any (is 10) l ≡ false → without_cr l ≡ l → physical (l ++ 10 ∷ t) ≡ l ∷ physical t
unfolding physical
physical-lf l t h e = rw (by-lf l t h, e)

open-line : (c : ℕ) (l : Bytes) → any (is 10) (c ∷ l) ≡ false → by_lf (c ∷ l) ≡ (c ∷ l) ∷ []
unfolding by_lf on_head
open-line c [] h = rw (any_head (is 10) c [] h)
open-line c (d ∷ l) h = rw (any_head (is 10) c (d ∷ l) h, open-line d l (any-tail (is 10) c (d ∷ l) h))

ended-line : {l b : Bytes} (c : Bytes) → any (is 10) l ≡ false → Ended l b → physical (b ++ c) ≡ l ∷ physical c
ended-line {l} c h (by-lf-end e) = ap physical (append_assoc l (10 ∷ []) c) ∙ physical-lf l c h e
ended-line {l} c h by-cr-lf = ap physical (append_assoc l (13 ∷ 10 ∷ []) c) ∙ physical-line l c h

ended-physical : {ls : List Bytes} {b : Bytes} → Ends ls b → physical b ≡ ls
unfolding physical by_lf
ended-physical none_left = refl
ended-physical (one_line {l = l} {c = c} h e r) = ended-line c h e ∙ ap (λ (x : List Bytes). l ∷ x) (ended-physical r)
ended-physical (no_end {c = c} {l = l} h) = ap (map without_cr) (open-line c l h)

-- ---- the frame

blank-no-frame : (b : ℕ) (q : Bytes) → is_blank b ≡ true → (is_begin (b ∷ q) ≡ false) × (is_end (b ∷ q) ≡ false)
unfolding is_blank is_begin is_end lowered lower between same
blank-no-frame b q h =
    by_bool (eqb b 32) (λ e. rw (eqb-true b 32 e) (refl, refl))
    (λ e. by_bool (eqb b 9) (λ f. rw (eqb-true b 9 f) (refl, refl)) (λ f. not-both h (rw (e, f))))

goes-inner : {r : Bytes} {ps : List Bytes} → GoesOn r ps → Inner ps
goes-inner no_more = tt
goes-inner (after-blank {b = b} {q = q} h g) = let f = blank-no-frame b q h in (f.0, f.1, goes-inner g)

broken-inner : {ls qs : List Bytes} → Broken ls qs → Inner qs
broken-inner no_line = tt
broken-inner (one-broken {ps = ps} {qs = qs} n b e g k) = (b, e, inner-append ps qs (goes-inner g) (broken-inner k))

up_to : (ps : List Bytes) (e : Bytes) → Inner ps → is_end e ≡ true → up_to_end (ps ++ e ∷ []) ≡ some ps
unfolding up_to_end
up_to [] e h x = rw x
up_to (p ∷ []) e h x = rw (h.0, h.1, x)
up_to (p ∷ (q ∷ qs)) e h x = rw (h.0, h.1, up_to (q ∷ qs) e h.2 x)

-- ---- unfolding

goes_on : {r : Bytes} {ps : List Bytes} (qs : List Bytes) → GoesOn r ps → rest (ps ++ qs) ≡ record { goes_on = r ++ (rest qs).goes_on; lines = (rest qs).lines }
unfolding rest
goes_on qs no_more = refl
goes_on qs (after-blank {b = b} {q = q} {r = r} h g) = rw (h, goes_on qs g, append_assoc q r (rest qs).goes_on)

broken-rest : {ls qs : List Bytes} → Broken ls qs → rest qs ≡ record { goes_on = []; lines = ls }
unfolding rest
broken-rest no_line = refl
broken-rest (one-broken {p = p} {r = r} {qs = qs} n b e g k) = rw (n, goes_on qs g, broken-rest k, append-nil r)

broken-unfolded : {ls qs : List Bytes} → Broken ls qs → unfold' qs ≡ ls
unfolding unfold'
broken-unfolded no_line = refl
broken-unfolded (one-broken {p = p} {r = r} {qs = qs} n b e g k) = rw (goes_on qs g, broken-rest k, append-nil r)

-- ---- THE LAW: a spelling of lines unfolds to these lines

pub spelled-lines : {ls : List Bytes} {s : Bytes} → Spells ls s → raw_lines s ≡ some ls
unfolding raw_lines framed
spelled-lines x =
    rw (ended-physical x.ended, x.begins, up_to x.physical x.end (broken-inner x.broken) x.ends, broken-unfolded x.broken)
