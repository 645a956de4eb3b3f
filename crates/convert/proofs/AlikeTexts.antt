-- What card to JSON does not look at: the letter case of the BEGIN line, and whether the last LF is there.
use mathlib.Core.Path.{◌≡◌, refl, sym, ap, ◌∙◌}
use mathlib.Core.Bool.{true, false}
use mathlib.Core.List.{List, [], ◌∷◌, ◌++◌, map, append_assoc, append-nil}
use mathlib.Core.Option.{none, some}
use Prim.Native.Nat.{ℕ}
use lib.ListN.{length, length-append}
use Rattle.text.specs.Choice.{with-some}
use Rattle.text.specs.Bytes.{Bytes, is, any}
use Rattle.line.specs.Physical.{without_cr, physical, lacks_lf, size_of, is_begin, framed}
use Rattle.line.specs.Unfold.{unfold'}
use Rattle.line.proofs.Ends.{by-lf, by-lf-ended, lacks-after, size-ended}
use Rattle.convert.specs.Answers.{raw_lines, card_to_json}

-- two texts that card to JSON does not tell apart, whatever follows them
pub record Alike (h l : Bytes) : Type 0 where
  pub long : length h ≡ length l
  pub lines : (y : Bytes) → raw_lines (h ++ y) ≡ raw_lines (l ++ y)
  pub ended : (y : Bytes) → lacks_lf (h ++ y) ≡ lacks_lf (l ++ y)

pub alike_self : (l : Bytes) → Alike l l
alike_self l = record { long = refl; lines = λ y. refl; ended = λ y. refl }

pub alike-more : (h l z : Bytes) → Alike h l → Alike (h ++ z) (l ++ z)
alike-more h l z a =
    record {
      long = rw (length-append h z, length-append l z, a.long);
      lines = λ y. rw (append_assoc h z y, append_assoc l z y) (a.lines (z ++ y));
      ended = λ y. rw (append_assoc h z y, append_assoc l z y) (a.ended (z ++ y));
    }

pub alike-answer : (t : Bytes) (n m : ℕ) (h l : Bytes) → Alike h l → card_to_json t n m h ≡ card_to_json t n m l
unfolding card_to_json size_of
alike-answer t n m h l a =
    let e : raw_lines h ≡ raw_lines l = sym (ap raw_lines (append-nil h)) ∙ a.lines [] ∙ ap raw_lines (append-nil l) in
    let f : lacks_lf h ≡ lacks_lf l = sym (ap lacks_lf (append-nil h)) ∙ a.ended [] ∙ ap lacks_lf (append-nil l) in
    rw (e, f, a.long)

-- two BEGIN lines of one length
pub alike-begin : (a s : Bytes) → any (is 10) a ≡ false → any (is 10) s ≡ false → is_begin (without_cr a) ≡ true → is_begin (without_cr s) ≡ true
    → length a ≡ length s → Alike (a ++ 10 ∷ []) (s ++ 10 ∷ [])
unfolding raw_lines framed physical
alike-begin a s na ns ba bs len =
    record {
      long = rw (length-append a (10 ∷ []), length-append s (10 ∷ []), len);
      lines = λ y. rw (append_assoc a (10 ∷ []) y, append_assoc s (10 ∷ []) y, by-lf a y na, by-lf s y ns, ba, bs);
      ended = λ y. rw (append_assoc a (10 ∷ []) y, append_assoc s (10 ∷ []) y, lacks-after a 10 y, lacks-after s 10 y);
    }

-- ---- the supposed LF

lines-ended : (c : ℕ) (s : Bytes) → lacks_lf (c ∷ s) ≡ true → raw_lines ((c ∷ s) ++ 10 ∷ []) ≡ raw_lines (c ∷ s)
unfolding raw_lines physical
lines-ended c s h = ap (λ (x : List Bytes). with-some (framed (map without_cr x)) (λ ls. some (unfold' ls)) none) (by-lf-ended c s h)

pub answer-ended : (t : Bytes) (n m c : ℕ) (s : Bytes) → lacks_lf (c ∷ s) ≡ true → card_to_json t n m ((c ∷ s) ++ 10 ∷ []) ≡ card_to_json t n m (c ∷ s)
unfolding card_to_json
answer-ended t n m c s h = rw (size-ended (c ∷ s) h, lines-ended c s h)
