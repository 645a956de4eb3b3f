-- Card to JSON by its rooms: a result fits the lent output, an output over 65,536 is as good as one of 65,536, a card over 32,768 bytes is 3;
-- and 15 comes from the stem and the number alone.
use mathlib.Core.Path.{◌≡◌, refl}
use mathlib.Core.Bool.{Bool, true, false, not, ◌&&◌, ◌||◌}
use mathlib.Core.List.{List, [], ◌∷◌}
use mathlib.Core.Option.{Option, none, some}
use Prim.Native.Nat.{ℕ, ◌+◌, ◌≤◌, ◌<◌}
use native.Mathlib.Omega.{arith}
use lib.ListN.{length}
use lib.Dec.{ltb, eqb}
use borrow.Author.Tests.{lt-ltb, le-ltb, ltb-false}
use Rattle.text.specs.Choice.{pick}
use Rattle.text.specs.Bytes.{Bytes, all}
use Rattle.text.proofs.Cases.{by_bool}
use Rattle.text.proofs.Lists.{all_head, all_tail}
use Rattle.line.specs.Grammar.{Line}
use Rattle.line.specs.Physical.{lacks_lf, size_of}
use Rattle.convert.specs.Answers.{Answer, no, yes, raw_lines, convert_card, convert_lines, lines_of, card_to_json, fitted, seek, given, given_at, json_room, card_room, line_tests, Test, fine, fails, is_stem_text, is_card_number}
use Rattle.convert.proofs.Seeking.{no-yes, seek-fine, fitted-inv}

-- ---- a result fits the lent output

seek-yes : (ts : List Test) (a : Answer) (b : Bytes) → seek ts a ≡ yes b → a ≡ yes b
unfolding seek
seek-yes [] a b e = e
seek-yes (t ∷ ts) a b e = seek-yes ts a b (seek-fine t ts a b e).1

fitted-fits : (full lent : ℕ) (r b : Bytes) → fitted full lent r ≡ yes b → length b ≤ lent
fitted-fits full lent r b e = let i = fitted-inv full lent r b e in rw i.2 (ltb-false lent (length r) i.1)

pub answer-fits : (t : Bytes) (n m : ℕ) (s b : Bytes) → card_to_json t n m s ≡ yes b → length b ≤ m
unfolding card_to_json convert_card convert_lines
answer-fits t n m s b e =
    by_bool (not (is_stem_text t && is_card_number n)) (λ f. no-yes (rw f at e))
    (λ f. by_bool (ltb card_room (size_of s)) (λ g. no-yes (rw (f, g) at e)) (λ g. go (raw_lines s) (rw (f, g) at e)))
  where
    go : (o : Option (List Bytes)) → convert_card t n m o ≡ yes b → length b ≤ m
    go none q = no-yes q
    go (some raw) q = fitted-fits json_room m _ b (seek-yes (line_tests raw (lines_of raw)) _ b q)

-- ---- an output over 65,536

fitted-room : (m : ℕ) (r : Bytes) → json_room ≤ m → fitted json_room m r ≡ fitted json_room json_room r
unfolding fitted seek
fitted-room m r h =
    by_bool (ltb json_room (length r)) (λ e. rw e)
    (λ e. rw (e, le-ltb m (length r) (omega (arith, ltb-false json_room (length r) e))))

pub answer-room : (t : Bytes) (n m : ℕ) (s : Bytes) → json_room ≤ m → card_to_json t n m s ≡ card_to_json t n json_room s
unfolding card_to_json convert_card convert_lines
answer-room t n m s h = rw (lines-room (raw_lines s))
  where
    lines-room : (o : Option (List Bytes)) → convert_card t n m o ≡ convert_card t n json_room o
    lines-room none = refl
    lines-room (some raw) = rw (fitted-room m _ h)

-- ---- a card over its room

pub answer-large : (t : Bytes) (n m : ℕ) (s : Bytes) → is_stem_text t ≡ true → is_card_number n ≡ true → card_room < length s → card_to_json t n m s ≡ no 3 0
unfolding card_to_json size_of
answer-large t n m s st nu h = rw (st, nu, lt-ltb card_room (length s + pick (lacks_lf s) 1 0) (omega arith))

-- ---- 15 and 16

-- no 15, no 16
abbrev pub passing : Answer → Bool
passing (yes bs) = true
passing (no n p) = not (eqb n 15 || eqb n 16)

abbrev low : Test → Bool
low fine = true
low (fails n p) = passing (no n p)

seek-passes : (ts : List Test) (a : Answer) → all low ts ≡ true → passing a ≡ true → passing (seek ts a) ≡ true
unfolding seek
seek-passes [] a h p = p
seek-passes (fine ∷ ts) a h p = seek-passes ts a (all_tail low fine ts h) p
seek-passes (fails n q ∷ ts) a h p = all_head low (fails n q) ts h

low-given : (n : ℕ) (b : Bool) → passing (no n 0) ≡ true → low (given n b) ≡ true
low-given n true h = h
low-given n false h = refl

low-at : (n : ℕ) (o : Option ℕ) → ((p : ℕ) → passing (no n p) ≡ true) → low (given_at n o) ≡ true
low-at n none h = refl
low-at n (some p) h = h p

low-lines : (raw : List Bytes) (ls : List Line) → all low (line_tests raw ls) ≡ true
unfolding line_tests all
low-lines raw ls =
    rw (
      low-given 3 _ refl,
      low-at 4 _ (λ p. refl),
      low-at 5 _ (λ p. refl),
      low-given 6 _ refl,
      low-at 7 _ (λ p. refl),
      low-at 8 _ (λ p. refl),
      low-at 9 _ (λ p. refl),
      low-given 10 _ refl,
    )

fitted-passes : (full lent : ℕ) (r : Bytes) → passing (fitted full lent r) ≡ true
unfolding fitted all
fitted-passes full lent r =
    seek-passes (given 3 (ltb full (length r)) ∷ given 14 (ltb lent (length r)) ∷ []) (yes r)
    (rw (low-given 3 (ltb full (length r)) refl, low-given 14 (ltb lent (length r)) refl)) refl

-- with a valid stem and number no card is answered with 15 or 16
pub answer-passes : (t : Bytes) (n m : ℕ) (s : Bytes) → is_stem_text t ≡ true → is_card_number n ≡ true → passing (card_to_json t n m s) ≡ true
unfolding card_to_json convert_card convert_lines
answer-passes t n m s st nu =
    rw (st, nu) (by_bool (ltb card_room (size_of s)) (λ e. rw e) (λ e. rw e (go (raw_lines s))))
  where
    go : (o : Option (List Bytes)) → passing (convert_card t n m o) ≡ true
    go none = refl
    go (some raw) = seek-passes (line_tests raw (lines_of raw)) _ (low-lines raw (lines_of raw)) (fitted-passes json_room m _)
