-- The definition of card to JSON goes by these two steps.
use mathlib.Core.Path.{◌≡◌, refl, sym, ap, ◌∙◌}
use mathlib.Core.Bool.{not, ◌&&◌}
use mathlib.Core.List.{List, [], ◌∷◌}
use mathlib.Core.Option.{Option, none, some}
use Prim.Native.Nat.{ℕ, ◌≤◌, ◌<◌}
use native.Mathlib.Omega.{arith}
use lib.Dec.{ltb}
use lib.ListN.{length}
use borrow.Author.Tests.{lt-ltb, le-ltb}
use Rattle.text.specs.Choice.{pick, with-some}
use Rattle.text.specs.Bytes.{Bytes}
use Rattle.output.specs.Put.{Wrote, full}
use Rattle.std.specs.Prelude.{Ok, Err}
use Rattle.output.specs.Put.{Puts}
use Rattle.output.proofs.Laws.{put-fits, first, said-full}
use Rattle.line.specs.Physical.{size_of}
use Rattle.convert.specs.Answers.{Answer, no, yes, Test, fine, fails, seek, fitted, json_room, card_room, line_tests, lines_of, raw_lines}
use Rattle.convert.specs.Answers.{convert_lines, convert_card, card_to_json, is_stem_text, is_card_number}
use Rattle.convert.specs.FromCard.{card_of_lines}
use Rattle.convert.specs.ToJson.{print_json}
use Rattle.convert.specs.Served.{left_by}
use Rattle.served.specs.Served.{refused, outcome_of}
use Rattle.card_to_json.specs.Inner.{inner, fit, Serves}

seek-fit : (lent : ℕ) (ts : List Test) (r : Bytes) → seek ts (fitted json_room lent r) ≡ fit lent (seek ts (yes r))
unfolding seek
seek-fit lent [] r = refl
seek-fit lent (fine ∷ ts) r = seek-fit lent ts r
seek-fit lent (fails n p ∷ ts) r = refl

raw-fit : (stem : Bytes) (n lent : ℕ) (o : Option (List Bytes)) → convert_card stem n lent o
    ≡ fit lent (with-some o (λ raw. seek (line_tests raw (lines_of raw)) (yes (print_json (card_of_lines stem n (lines_of raw))))) (no 1 0))
unfolding convert_card convert_lines
raw-fit stem n lent none = refl
raw-fit stem n lent (some raw) = seek-fit lent (line_tests raw (lines_of raw)) (print_json (card_of_lines stem n (lines_of raw)))

-- 15, 3 (bytes), then the rest
pub answer-is : (stem : Bytes) (n lent : ℕ) (s : Bytes)
    → card_to_json stem n lent s ≡ pick (not (is_stem_text stem && is_card_number n)) (no 15 0) (pick (ltb card_room (size_of s)) (no 3 0) (fit lent (inner stem n s)))
unfolding card_to_json inner
answer-is stem n lent s = ap (λ a. pick (not (is_stem_text stem && is_card_number n)) (no 15 0) (pick (ltb card_room (size_of s)) (no 3 0) a)) (raw-fit stem n lent (raw_lines s))

-- ---- room

-- 3: the result is over its room
pub fit-large : (lent : ℕ) (r : Bytes) → json_room < length r → fit lent (yes r) ≡ no 3 0
unfolding fitted seek
fit-large lent r h = rw (lt-ltb json_room (length r) h)

-- 14: longer than the lent output
pub fit-long : (lent : ℕ) (r : Bytes) → length r ≤ json_room → lent < length r → fit lent (yes r) ≡ no 14 0
unfolding fitted seek
fit-long lent r h l = rw (le-ltb json_room (length r) h, lt-ltb lent (length r) l)

pub fit-whole : (lent : ℕ) (r : Bytes) → length r ≤ json_room → length r ≤ lent → fit lent (yes r) ≡ yes r
unfolding fitted seek
fit-whole lent r h l = rw (le-ltb json_room (length r) h, le-ltb lent (length r) l)

-- ---- what the caller sees

pub serves-refused : (out : Bytes) (a : Answer) (n p : ℕ) → fit (length out) a ≡ no n p → Serves out a (refused n p) out
serves-refused out a n p e = record { said = sym (ap outcome_of e); left = sym (ap (left_by out) e) }

pub serves-written : (out text : Bytes) (r : Wrote) (after : Bytes) (k : ℕ) → length text ≤ json_room → length text ≤ length out → Puts out text r after → r ≡ Ok k
    → Serves out (yes text) (Ok k) after
serves-written out text r after k h l p e =
    let s = first p e in
    let f = fit-whole (length out) text h l in
    record { said = ap Ok s.is ∙ sym (ap outcome_of f); left = s.left ∙ put-fits out text l ∙ sym (ap (left_by out) f) }

pub never-full : {P : Type 0} (room x : Bytes) (r : Wrote) (out : Bytes) → Puts room x r out → r ≡ (Err full) → length x ≤ length room → P
never-full room x r out p e l = absurd (omega (arith, said-full room x (sym p.said ∙ e)))
