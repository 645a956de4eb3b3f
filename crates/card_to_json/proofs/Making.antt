-- The steps from a card's lines to its JSON.
use mathlib.Core.Path.{◌≡◌, refl, sym, ap, subst, ◌∙◌}
use mathlib.Core.List.{List, ◌∷◌}
use mathlib.Core.Logic.{inr}
use mathlib.Core.Option.{Option as Maybe, none, some}
use Prim.Native.Nat.{ℕ}
use native.Mathlib.Omega.{arith}
use lib.ListN.{length}
use borrow.Author.Tests.{le-ltb}
use Rattle.text.specs.Bytes.{Bytes}
use Rattle.output.specs.Put.{Wrote, full}
use Rattle.std.specs.Prelude.{Option, Some, None, Ok, Err}
use Rattle.output.specs.Put.{Puts}
use Rattle.output.proofs.Laws.{said-full}
use Rattle.line_unfold.specs.Table.{Laid}
use Rattle.convert.specs.Classify.{classed}
use Rattle.convert.specs.Answers.{Answer, no, yes, Test, seek, given, given_at, at_line, first_from, garbled, ungrammatical, line_tests, line_room, lines_of, raw_lines}
use Rattle.convert.specs.FromCard.{card_of_lines}
use Rattle.convert.specs.ToJson.{print_json}
use Rattle.from_card_garbled.specs.Garbled.{found}
use Rattle.served.specs.declared.Refusal.{Refusal}
use Rattle.from_card_refusals.specs.Judged.{later_tests, refusal_at, answered}
use Rattle.from_card_refusals.proofs.Judging.{tests-are}
use Rattle.from_card_classes.specs.Pass.{Passed}
use Rattle.to_json_maps.proofs.Turns.{put_front, fits-front}
use Rattle.card_to_json.specs.Inner.{inner}
use Rattle.card_to_json.specs.Making.{Tested, Makes, MakesJson, MakesCard, lines_answer}
use Rattle.served.specs.declared.Unmade.TheVariants.{Refused, Full}
use Rattle.served.specs.Served.{Made, made_full}
use Rattle.card_to_json.proofs.Steps.{inner-some}

-- ---- 4, then 5 to 10

few : (raw : List Bytes) (n : ℕ) (scratch starts : List ℕ) → Laid raw n scratch starts → (a : Answer)
    → seek (line_tests raw (lines_of raw)) a ≡ seek (at_line 4 garbled raw ∷ at_line 5 ungrammatical raw ∷ later_tests (lines_of raw)) a
unfolding seek
few raw n scratch starts l a =
    ap (λ ts. seek ts a) (tests-are raw (lines_of raw))
    ∙ ap (λ b. seek (given 3 b ∷ at_line 4 garbled raw ∷ at_line 5 ungrammatical raw ∷ later_tests (lines_of raw)) a) (le-ltb line_room (length raw) (omega (arith, l.count, l.few)))

some-none : {A : Type 0} {x : A} → Some x ≡ None → ⊥
some-none e = let z : ◌≡◌ {A = ℕ} 0 1 = cc in omega arith

same-place : {i j : ℕ} → Some i ≡ Some j → i ≡ j
same-place e = cc

fourth : (o : Maybe ℕ) (p : ℕ) → Some p ≡ found o → (ts : List Test) (a : Answer) → seek (given_at 4 o ∷ ts) a ≡ no 4 p
unfolding seek
fourth none p e ts a = absurd (some-none e)
fourth (some i) p e ts a = ap (no 4) (sym (same-place e))

past : (o : Maybe ℕ) → None ≡ found o → (ts : List Test) (a : Answer) → seek (given_at 4 o ∷ ts) a ≡ seek ts a
unfolding seek
past none e ts a = refl
past (some i) e ts a = absurd (some-none (sym e))

pub tested-4 : (raw : List Bytes) (n : ℕ) (scratch starts codes : List ℕ) (p : ℕ) → Laid raw n scratch starts → Some p ≡ found (first_from 1 garbled raw)
    → Tested scratch starts codes n (Some (refusal_at 4 p)) raw
tested-4 raw n scratch starts codes p l e = record {
  refusals = λ a. few raw n scratch starts l a ∙ fourth (first_from 1 garbled raw) p e _ a;
  classes = λ q. absurd (some-none q);
}

pub tested-rest : (raw : List Bytes) (n : ℕ) (scratch starts codes : List ℕ) (r : Option Refusal) → Laid raw n scratch starts → None ≡ found (first_from 1 garbled raw)
    → Passed scratch starts codes n r raw → Tested scratch starts codes n r raw
tested-rest raw n scratch starts codes r l e q = record {
  refusals = λ a. few raw n scratch starts l a ∙ past (first_from 1 garbled raw) e _ a ∙ q.refusals a;
  classes = q.classes;
}

-- ---- the JSON

pub made-json : (room text : Bytes) (r : Wrote) (after : Bytes) (k : ℕ) → Puts room text r after → r ≡ Ok k → Makes (yes text) room (Ok k) after
made-json room text r after k p e = (text, refl, put_front room text r after k p e, fits-front room text r after k p e)

pub made-full : (room text : Bytes) (r : Wrote) (after : Bytes) → Puts room text r after → r ≡ (Err full) → Makes (yes text) room made_full after
made-full room text r after p e = (text, refl, said-full room text (sym p.said ∙ e))

pub made-lines : (stem : Bytes) (number : ℕ) (scratch starts codes : List ℕ) (n : ℕ) (r : Option Refusal) (raw : List Bytes) (room : Bytes) (m : Made) (after : Bytes)
    → Tested scratch starts codes n r raw → r ≡ None → MakesJson stem number scratch starts codes n room m after → Makes (lines_answer stem number raw) room m after
unfolding card_of_lines
made-lines stem number scratch starts codes n r raw room m after t e made =
    subst (λ a. Makes a room m after) (sym (t.refusals _ ∙ ap (λ q. answered q (yes (print_json (card_of_lines stem number (lines_of raw))))) e))
    (made (classed (lines_of raw)) (t.classes e))

made_as : (stem : Bytes) (number : ℕ) (card : Bytes) (most : ℕ) (room : Bytes) (m : Made) (after : Bytes)
    → Makes (inner stem number card) room m after → MakesCard stem number card most room m after
made_as stem number card most room (Ok k) after made = made
made_as stem number card most room (Err (Refused q)) after made = made
made_as stem number card most room (Err Full) after made = inr made

pub made-card : (stem : Bytes) (number : ℕ) (card : Bytes) (raw : List Bytes) (room : Bytes) (m : Made) (after : Bytes) → raw_lines card ≡ some raw
    → (most : ℕ) → Makes (lines_answer stem number raw) room m after → MakesCard stem number card most room m after
made-card stem number card raw room m after e most made = made_as stem number card most room m after (subst (λ a. Makes a room m after) (sym (inner-some stem number card raw e)) made)
