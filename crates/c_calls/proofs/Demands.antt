-- Demands 1 to 3 hold of any functions that keep the promises of the C calls: so of the code.
use mathlib.Core.Path.{◌≡◌, refl, sym, ap, subst, ◌∙◌, fun_ext}
use mathlib.Core.Bool.{Bool, true, false, not, ◌||◌}
use mathlib.Core.List.{List}
use mathlib.Core.Option.{Option, none, some}
use Prim.Native.Nat.{ℕ}
use native.Mathlib.Omega.{arith}
use lib.ListN.{length, take, drop}
use lib.Dec.{leb, ltb, eqb}
use lib.Seq.{take-append_seam}
use borrow.Author.Tests.{ne_eqb, leb-true}
use Rattle.text.specs.Bytes.{Bytes}
use Rattle.text.proofs.Cases.{by_bool, and_left, and_right}
use Rattle.convert.specs.Answers.{Answer, no, yes, card_room, json_room, is_stem_text, card_to_json, json_to_card}
use Rattle.convert.specs.Served.{served}
use Rattle.convert.specs.Demand1.{Demand1}
use Rattle.convert.proofs.Demand1.{demand-1}
use Rattle.home.specs.Demand2.{Demand2}
use Rattle.home.proofs.Demand2.{demand-2}
use Rattle.services.specs.Promises.{Lends}
use Rattle.stream.specs.Calls.{Call, piece, end, stem_of, Shown, shows_more, shows, hindrance, hinders, unchanged}
use Rattle.stream.specs.Demand.{OutputAfter, Hindered, Demand3}
use Rattle.stream_machine.specs.Turn.{Given, called}
use Rattle.stream_proved.specs.Stream.{stream}
use Rattle.stream_proved.proofs.Demand.{demand-3}
use Rattle.c_calls.specs.Numbers.{row_of, state_of, row_after}
use Rattle.c_calls.specs.Promise.{told_of, called_of}
use Rattle.c_calls.specs.Calls.{Functions, Keeps, answered, seen, turn_by, call_by, machine_of}
use Rattle.c_calls.proofs.Numbers.{fresh-numbers, put-by-others, put-read, same-range}
use Rattle.c_calls.proofs.Refusals.{is_refusal, numbered, card-numbered, json-numbered, numbered_shown, called-numbered}
use Rattle.c_calls.proofs.Tied.{Tied, tied-demand-3}

-- ---- what the number tells

no_zero : (n : ℕ) → is_refusal n ≡ true → eqb n 0 ≡ false
no_zero n h = ne_eqb n 0 (λ e. omega (arith, leb-true 1 n (and_left (leb 1 n) _ h), e))

no-255 : (n : ℕ) → is_refusal n ≡ true → eqb n 255 ≡ false
no-255 n h = ne_eqb n 255 (λ e. omega (arith, leb-true n 16 (and_right (leb 1 n) _ h), e))

read_is : (out : Bytes) (a : Answer) → numbered a ≡ true → answered (served out a) ≡ a
read_is out (no n p) h = rw (no_zero n h)
read_is out (yes bs) h = ap yes (take-append_seam bs (drop (length bs) out))

seen-is : (out after : Bytes) (a : Shown) → numbered_shown a ≡ true → OutputAfter out a after → seen (told_of a) after ≡ a
seen-is out after shows_more h o = refl
seen-is out after (shows (no n p)) h o = rw (no-255 n h, no_zero n h)
seen-is out after (shows (yes bs)) h o = ap (λ (x : Bytes). shows (yes x)) (ap (take (length bs)) (o.json bs refl).1 ∙ take-append_seam bs (drop (length bs) out))

-- ---- only 15 and 16 hinder

abbrev OfTwo : Option ℕ → Type 0
OfTwo none = Unit {0}
OfTwo (some n) = (eqb n 15 || eqb n 16) ≡ true

hinders-two : (ranged : Bool) (room lent : ℕ) (stem : Bytes) → OfTwo (hindrance ranged room lent stem)
unfolding hindrance
hinders-two ranged room lent stem =
    by_bool (ltb room card_room || (ltb lent json_room || not ranged)) (λ e. rw e refl) (λ e. rw e (by_bool (is_stem_text stem) (λ f. rw f tt) (λ f. rw f refl)))

of_two : (ranged : Bool) (room lent : ℕ) (stem : Bytes) (n : ℕ) → hindrance ranged room lent stem ≡ some n → (eqb n 15 || eqb n 16) ≡ true
of_two ranged room lent stem n e = subst OfTwo e (hinders-two ranged room lent stem)

module _ (f : Functions) (k : Keeps f) where
  -- DEMAND 1 of the C calls: number, place, length and every byte of the lent output are those of 01's grounds in 01's order
  pub demand-1-of-c-calls : Demand1 f.card f.json
  demand-1-of-c-calls = record {
    cards = λ stem n card out. k.card stem n card out ∙ demand-1.cards stem n card out;
    jsons = λ json out. k.json json out ∙ demand-1.jsons json out;
  }

  -- ---- demand 2, with an output for every length

  module _ (room : ℕ → Bytes) (lends : Lends room) where
    abbrev to_json : (stem : Bytes) (n lent : ℕ) (card : Bytes) → Answer
    to_json stem n lent card = answered (f.card stem n card (room lent))

    abbrev to_card : (lent : ℕ) (json : Bytes) → Answer
    to_card lent json = answered (f.json json (room lent))

    card-answer : (stem : Bytes) (n lent : ℕ) (card : Bytes) → to_json stem n lent card ≡ card_to_json stem n lent card
    card-answer stem n lent card =
        ap answered (k.card stem n card (room lent)) ∙ read_is (room lent) _ (card-numbered stem n (length (room lent)) card)
        ∙ ap (λ (l : ℕ). card_to_json stem n l card) (lends.long lent)

    json-answer : (lent : ℕ) (json : Bytes) → to_card lent json ≡ json_to_card lent json
    json-answer lent json =
        ap answered (k.json json (room lent)) ∙ read_is (room lent) _ (json-numbered (length (room lent)) json)
        ∙ ap (λ (l : ℕ). json_to_card l json) (lends.long lent)

    to-json : card_to_json ≡ to_json
    to-json = fun_ext (λ stem. fun_ext (λ n. fun_ext (λ lent. fun_ext (λ card. sym (card-answer stem n lent card)))))

    to-card : json_to_card ≡ to_card
    to-card = fun_ext (λ lent. fun_ext (λ json. sym (json-answer lent json)))

    -- DEMAND 2 of the C calls: what goes out comes home
    pub demand-2-of-c-calls : Demand2 to_json to_card
    demand-2-of-c-calls = subst (λ h. Demand2 to_json h) to-card (subst (λ h. Demand2 h json_to_card) to-json demand-2)

  -- ---- demand 3

  call-is : (c : Call) (row : List ℕ) (d out : Bytes) → call_by f c row d out ≡ called_of row (called c (state_of row) d out)
  call-is (piece t bs) row d out = k.step row t bs d out
  call-is (end t) row d out = k.end row t d out

  -- what a call gives, as a turn: the numbers are yet to be said
  turn_is : (c : Call) (row : List ℕ) (d out : Bytes) (g : Given) → called c (state_of row) d out ≡ g → (row' : List ℕ) → row_after row (told_of g.shown).number g.state ≡ row'
      → turn_by (call_by f c row d out) ≡ record { shown = g.shown; consumed = g.consumed; state = row'; buffer = g.buffer; output = g.output }
  turn_is c row d out g e row' after =
      ap turn_by (call-is c row d out ∙ ap (called_of row) e)
      ∙ (λ i. record { shown = shown i; consumed = g.consumed; state = after i; buffer = g.buffer; output = g.output })
    where
      shown : seen (told_of g.shown) g.output ≡ g.shown
      shown = subst (λ (x : Given). seen (told_of x.shown) x.output ≡ x.shown) e (seen-is out _ _ (called-numbered c (state_of row) d out) (demand-3.outputs (state_of row) d out c))

  same-hinders : (c : Call) (row : List ℕ) (d out : Bytes) → hinders stream (state_of row) d out c ≡ hinders (machine_of f) row d out c
  same-hinders c row d out = rw (← same-range row)

  -- 15 and 16 leave every number as it was
  stays : Hindered (machine_of f)
  unfolding row_after
  stays row d out c n e =
      turn_is c row d out (unchanged n (state_of row) d out) (demand-3.hindered (state_of row) d out c n (same-hinders c row d out ∙ e)) row
      (rw (of_two _ (length d) (length out) (stem_of c) n e))

  -- after every other call they are those of the state
  put : (c : Call) (row : List ℕ) (d out : Bytes) → hinders (machine_of f) row d out c ≡ none
      → row_after row (told_of (called c (state_of row) d out).shown).number (called c (state_of row) d out).state ≡ row_of (called c (state_of row) d out).state
  put c row d out e = put-by-others row _ _ (go (called c (state_of row) d out).shown refl)
    where
      go : (a : Shown) → (called c (state_of row) d out).shown ≡ a → (eqb (told_of a).number 15 || eqb (told_of a).number 16) ≡ false
      go shows_more q = refl
      go (shows (yes bs)) q = refl
      go (shows (no n p)) q = demand-3.no_other (state_of row) d out c n p (same-hinders c row d out ∙ e) q

  numbers-tied : Tied (machine_of f) stream state_of row_of
  numbers-tied = record {
    initial = sym fresh-numbers;
    back = put-read;
    ranged = same-range;
    passes = λ row d out c e. turn_is c row d out (called c (state_of row) d out) refl _ (put c row d out e);
    stays = stays;
  }

  -- DEMAND 3 of the C calls: the machine whose state is the caller's seven numbers, all 0 at first
  pub demand-3-of-c-calls : Demand3 (machine_of f)
  demand-3-of-c-calls = tied-demand-3 (machine_of f) stream state_of row_of numbers-tied demand-3
