-- From what the writer of a card says to its answer.
use mathlib.Core.Path.{◌≡◌, refl, sym, ap, subst, ◌∙◌}
use Rattle.to_card_lines.proofs.Parts.{all-bytes, all_lines, all-carried}
use Rattle.to_card_pen.proofs.Refusal.{not_ok}
use Rattle.to_card_pen.specs.Refusal.{no_card}
use Rattle.to_card_lines.specs.Lines.{Laid, laid}
use mathlib.Core.Bool.{Bool, true, false}
use mathlib.Core.Option.{Option, none, some}
use Prim.Native.Nat.{ℕ, ◌-◌, ◌≤◌, ◌<◌}
use native.Mathlib.Omega.{arith}
use lib.ListN.{length, take, drop}
use lib.Seq.{take_at}
use Rattle.text.specs.Choice.{with-some}
use Rattle.text.specs.Bytes.{Bytes}
use Rattle.json_text.specs.Read.{reading}
use Rattle.json_text.proofs.Given.{reading-sound}
use Rattle.json_text.proofs.Sound.{sound-names}
use Rattle.json_index.proofs.Readings.{tree-at}
use Rattle.output.proofs.Laws.{put-fits, length-put}
use Rattle.line_pen.specs.Pen.{Fills}
use Rattle.convert.specs.Model.{Card}
use Rattle.convert.specs.FromJson.{card_from_json}
use Rattle.convert.specs.Carry.{carried}
use Rattle.convert.specs.ToCard.{card_lines, print_card}
use Rattle.convert.specs.Answers.{no, yes}
use Rattle.to_card_card.specs.Whole.{few, CardAs, PutsCard}
use Rattle.json_to_card.specs.Inner.{Reads, of_card, inner}
use Rattle.json_to_card.specs.Making.{Makes}
use Rattle.served.specs.Served.{made_refused, made_full}
use Rattle.std.specs.Prelude.{Ok, Err}
use Rattle.json_to_card.proofs.Inner.{not_carried, many-lines, converts}

card-none : (room : Bytes) (r : Laid) (after : Bytes) (o : Option Card) → CardAs room r after o → r ≡ Err no_card → o ≡ none
card-none room r after none h e = refl
card-none room r after (some c) h e = absurd (not_ok (sym e ∙ h.1))

-- a card and what is said of it
record Has (room : Bytes) (n k : ℕ) (ok : Bool) (after : Bytes) (o : Option Card) : Type 0 where
  card : Card
  is : o ≡ some card
  lines : k ≡ few (length (card_lines card))
  carries : ok ≡ carried card
  fills : Fills room (print_card card) n after

card-has : (room : Bytes) (r : Laid) (after : Bytes) (n k : ℕ) (ok : Bool) (o : Option Card) → CardAs room r after o → r ≡ laid n k ok → Has room n k ok after o
card-has room r after n k ok none h e = absurd (not_ok (sym h ∙ e))
card-has room r after n k ok (some c) h e =
    record {
      card = c;
      is = refl;
      lines = all_lines (sym e ∙ h.1);
      carries = all-carried (sym e ∙ h.1);
      fills = subst (λ (x : ℕ). Fills room (print_card c) x after) (all-bytes (sym h.1 ∙ e)) h.2;
    }

module _ (s room : Bytes) (r : Laid) (after : Bytes) (reads : Reads s) (puts : PutsCard s room r after) where
  said : CardAs room r after (card_from_json reads.value)
  said = puts reads.value (tree-at 16 s reads.value reads.is) (sound-names reads.value 16 (reading-sound 16 s reads.value reads.is))

  of-option : (o : Option Card) → card_from_json reads.value ≡ o → inner (reading 16 s) ≡ with-some o of_card (no 12 0)
  of-option o e = ap inner reads.is ∙ ap (λ (x : Option Card). with-some x of_card (no 12 0)) e

  -- 12
  pub made-wrong : r ≡ Err no_card → Makes (inner (reading 16 s)) room (made_refused 12 0) after
  made-wrong e = of-option none (card-none room r after (card_from_json reads.value) said e)

  module _ (n k : ℕ) (ok : Bool) (all : r ≡ laid n k ok) where
    has : Has room n k ok after (card_from_json reads.value)
    has = card-has room r after n k ok (card_from_json reads.value) said all

    of-card : inner (reading 16 s) ≡ of_card has.card
    of-card = of-option (some has.card) has.is

    -- 13
    pub made-uncarried : ok ≡ false → Makes (inner (reading 16 s)) room (made_refused 13 0) after
    made-uncarried e = of-card ∙ not_carried has.card (sym has.carries ∙ e)

    -- 3
    pub made-many : ok ≡ true → 512 < k → Makes (inner (reading 16 s)) room (made_refused 3 0) after
    made-many e h = of-card ∙ many-lines has.card (sym has.carries ∙ e) (omega (arith, has.lines, h))

    module _ (e : ok ≡ true) (h : k ≤ 512) where
      is-card : inner (reading 16 s) ≡ yes (print_card has.card)
      is-card = of-card ∙ converts has.card (sym has.carries ∙ e) (omega (arith, has.lines, h))

      pub made-full : length room ≤ n → Makes (inner (reading 16 s)) room made_full after
      made-full f = (print_card has.card, is-card, omega (arith, has.fills.said, f))

      pub made-card : n < length room → Makes (inner (reading 16 s)) room (Ok n) after
      made-card f =
          let x : Bytes = print_card has.card in
          let i : n ≡ length x = omega (arith, has.fills.said, f) in
          let l : length x ≤ length room = omega (arith, i, f) in
          let z : n - 0 ≡ length x = omega (arith, i) in (
            x,
            is-card,
            ap (λ m. take m after) z ∙ ap (take (length x)) (has.fills.left ∙ put-fits room x l) ∙ take_at x (drop (length x) room) (length x) refl,
            f,
            ap length has.fills.left ∙ length-put room x,
          )
