-- What an accepted card and an accepted JSON are: their answers, taken apart.
use mathlib.Core.Path.{◌≡◌, refl, ap, ◌∙◌}
use mathlib.Core.Bool.{Bool, true, false, ◌&&◌, not}
use mathlib.Core.List.{List, [], ◌∷◌}
use mathlib.Core.Option.{Option, none, some}
use Prim.Native.Nat.{ℕ}
use lib.ListN.{length}
use lib.Dec.{ltb}
use Rattle.text.specs.Choice.{pick, is_some, both, with-some}
use Rattle.text.specs.Bytes.{Bytes, ascii, any, each}
use Rattle.text.proofs.Cases.{and_left, and_right, not-false, not-both, or_left, or_right}
use Rattle.json_text.specs.Tree.{Json}
use Rattle.json_text.specs.Read.{Reading, tree, refused, reading}
use Rattle.line.specs.Physical.{size_of}
use Rattle.line.specs.Grammar.{Line, read_line}
use Rattle.convert.specs.Model.{Card}
use Rattle.convert.specs.FromCard.{card_of_lines}
use Rattle.convert.specs.ToJson.{print_json}
use Rattle.convert.specs.FromJson.{card_from_json}
use Rattle.convert.specs.Carry.{carried}
use Rattle.convert.specs.ToCard.{card_lines, print_card}
use Rattle.convert.specs.Answers.{Answer, no, yes, Test, seek, given, given_at, at_line, card_room, line_room, json_room, is_stem_text, is_card_number, garbled, ungrammatical, is_named, version_first, misused, second_from, emptied, raw_lines, or_none, lines_of, line_tests, fitted, convert_lines, convert_card, card_to_json, convert_model, convert_tree, json_to_card}
use Rattle.convert.proofs.Seeking.{no-yes, seek-fine, given-false, given-none, at-line-none, fitted-inv}

-- the lines of an accepted card, unfolded and read
pub record GoodLines (raw : List Bytes) (ls : List Line) : Type 0 where
  pub few : ltb line_room (length raw) ≡ false
  pub clean : any garbled raw ≡ false
  pub read : each read_line raw ≡ some ls
  pub version : version_first ls ≡ true
  pub used : any misused ls ≡ false
  pub once : second_from 1 [] ls ≡ none
  pub filled : any emptied ls ≡ false
  pub named : any (is_named (ascii "fn")) ls ≡ true

pub record AcceptedCard (stem : Bytes) (n : ℕ) (s j : Bytes) : Type 0 where
  pub raw : List Bytes
  pub stem-fits : is_stem_text stem ≡ true
  pub number_fits : is_card_number n ≡ true
  pub raws : raw_lines s ≡ some raw
  pub good : GoodLines raw (lines_of raw)
  pub result : j ≡ print_json (card_of_lines stem n (lines_of raw))
  pub room : ltb json_room (length j) ≡ false

-- ---- a card

both_some : {A B C : Type 0} (f : A → B → C) (x : Option A) (y : Option B) → is_some x ≡ true → is_some y ≡ true → is_some (both f x y) ≡ true
both_some f none y a b = a
both_some f (some x) none a b = b
both_some f (some x) (some y) a b = refl

lines-read : (raw : List Bytes) → any ungrammatical raw ≡ false → is_some (each read_line raw) ≡ true
unfolding each any ungrammatical
lines-read [] h = refl
lines-read (l ∷ ls) h =
    both_some ◌∷◌ (read_line l) (each read_line ls) (not-false (is_some (read_line l)) (or_left (not (is_some (read_line l))) _ h)) (lines-read ls (or_right (not (is_some (read_line l))) _ h))

or-none : {A : Type 0} (o : Option (List A)) → is_some o ≡ true → o ≡ some (or_none o)
or-none none h = not-both h refl
or-none (some l) h = refl

all_read : (raw : List Bytes) → any ungrammatical raw ≡ false → each read_line raw ≡ some (lines_of raw)
unfolding lines_of
all_read raw h = or-none (each read_line raw) (lines-read raw h)

lines-good : (stem : Bytes) (n lent : ℕ) (raw : List Bytes) (j : Bytes) → convert_lines stem n lent raw (lines_of raw) ≡ yes j
    → GoodLines raw (lines_of raw) × (fitted json_room lent (print_json (card_of_lines stem n (lines_of raw))) ≡ yes j)
unfolding convert_lines line_tests seek
lines-good stem n lent raw j e =
    let ls : List Line = lines_of raw in
    let a : Answer = fitted json_room lent (print_json (card_of_lines stem n ls)) in
    let t10 : List Test = given 10 (not (any (is_named (ascii "fn")) ls)) ∷ [] in
    let t9 : List Test = at_line 9 emptied ls ∷ t10 in
    let t8 : List Test = given_at 8 (second_from 1 [] ls) ∷ t9 in
    let t7 : List Test = at_line 7 misused ls ∷ t8 in
    let t6 : List Test = given 6 (not (version_first ls)) ∷ t7 in
    let t5 : List Test = at_line 5 ungrammatical raw ∷ t6 in
    let t4 : List Test = at_line 4 garbled raw ∷ t5 in
    let i3 = seek-fine (given 3 (ltb line_room (length raw))) t4 a j e in
    let i4 = seek-fine (at_line 4 garbled raw) t5 a j i3.1 in
    let i5 = seek-fine (at_line 5 ungrammatical raw) t6 a j i4.1 in
    let i6 = seek-fine (given 6 (not (version_first ls))) t7 a j i5.1 in
    let i7 = seek-fine (at_line 7 misused ls) t8 a j i6.1 in
    let i8 = seek-fine (given_at 8 (second_from 1 [] ls)) t9 a j i7.1 in
    let i9 = seek-fine (at_line 9 emptied ls) t10 a j i8.1 in
    let i10 = seek-fine (given 10 (not (any (is_named (ascii "fn")) ls))) [] a j i9.1 in (
      record {
        few = given-false 3 (ltb line_room (length raw)) i3.0;
        clean = at-line-none 4 garbled raw i4.0;
        read = all_read raw (at-line-none 5 ungrammatical raw i5.0);
        version = not-false (version_first ls) (given-false 6 (not (version_first ls)) i6.0);
        used = at-line-none 7 misused ls i7.0;
        once = given-none 8 (second_from 1 [] ls) i8.0;
        filled = at-line-none 9 emptied ls i9.0;
        named = not-false (any (is_named (ascii "fn")) ls) (given-false 10 (not (any (is_named (ascii "fn")) ls)) i10.0);
      },
      i10.1,
    )

pick_no : (b : Bool) (n p : ℕ) (a : Answer) (j : Bytes) → pick b (no n p) a ≡ yes j → (b ≡ false) × (a ≡ yes j)
pick_no true n p a j e = no-yes e
pick_no false n p a j e = (refl, e)

raws-inv : (stem : Bytes) (n lent : ℕ) (o : Option (List Bytes)) (j : Bytes) → convert_card stem n lent o ≡ yes j → (raw : List Bytes) × (o ≡ some raw) × (convert_lines stem n lent raw (lines_of raw) ≡ yes j)
unfolding convert_card
raws-inv stem n lent none j e = no-yes e
raws-inv stem n lent (some raw) j e = (raw, refl, e)

pub accepted-card : (stem : Bytes) (n lent : ℕ) (s j : Bytes) → card_to_json stem n lent s ≡ yes j → AcceptedCard stem n s j
unfolding card_to_json
accepted-card stem n lent s j e =
    let i = pick_no (not (is_stem_text stem && is_card_number n)) 15 0 _ j e in
    let k = pick_no (ltb card_room (size_of s)) 3 0 _ j i.1 in
    let r = raws-inv stem n lent (raw_lines s) j k.1 in
    let l = lines-good stem n lent r.0 j r.2 in
    let f = fitted-inv json_room lent (print_json (card_of_lines stem n (lines_of r.0))) j l.1 in
    let valid : is_stem_text stem && is_card_number n ≡ true = not-false (is_stem_text stem && is_card_number n) i.0 in
    record {
      raw = r.0;
      stem-fits = and_left (is_stem_text stem) (is_card_number n) valid;
      number_fits = and_right (is_stem_text stem) (is_card_number n) valid;
      raws = r.1;
      good = l.0;
      result = f.2;
      room = ap (λ (x : Bytes). ltb json_room (length x)) f.2 ∙ f.0;
    }

-- ---- JSON

pub record AcceptedJson (s b : Bytes) : Type 0 where
  pub input : ltb json_room (length s) ≡ false
  pub json : Json
  pub card : Card
  pub read : reading 16 s ≡ tree json
  pub from : card_from_json json ≡ some card
  pub carries : carried card ≡ true
  pub lines : ltb line_room (length (card_lines card)) ≡ false
  pub result : b ≡ print_card card
  pub room : ltb card_room (length b) ≡ false

model-inv : (lent : ℕ) (c : Card) (b : Bytes) → convert_model lent c ≡ yes b → (carried c ≡ true) × (ltb line_room (length (card_lines c)) ≡ false) × (fitted card_room lent (print_card c) ≡ yes b)
unfolding convert_model seek
model-inv lent c b e =
    let i = seek-fine (given 13 (not (carried c))) (given 3 (ltb line_room (length (card_lines c))) ∷ []) (fitted card_room lent (print_card c)) b e in
    let k = seek-fine (given 3 (ltb line_room (length (card_lines c)))) [] (fitted card_room lent (print_card c)) b i.1 in
    (not-false (carried c) (given-false 13 (not (carried c)) i.0), given-false 3 (ltb line_room (length (card_lines c))) k.0, k.1)

from-inv : (lent : ℕ) (o : Option Card) (b : Bytes) → with-some o (convert_model lent) (no 12 0) ≡ yes b → (c : Card) × (o ≡ some c) × (convert_model lent c ≡ yes b)
from-inv lent none b e = no-yes e
from-inv lent (some c) b e = (c, refl, e)

tree-inv : (lent : ℕ) (r : Reading) (b : Bytes) → convert_tree lent r ≡ yes b → (j : Json) × (c : Card) × (r ≡ tree j) × (card_from_json j ≡ some c) × (convert_model lent c ≡ yes b)
tree-inv lent (refused p) b e = no-yes e
tree-inv lent (tree j) b e = let i = from-inv lent (card_from_json j) b e in (j, i.0, refl, i.1, i.2)

pub accepted-json : (lent : ℕ) (s b : Bytes) → json_to_card lent s ≡ yes b → AcceptedJson s b
unfolding json_to_card
accepted-json lent s b e =
    let i = pick_no (ltb json_room (length s)) 3 0 _ b e in
    let t = tree-inv lent (reading 16 s) b i.1 in
    let m = model-inv lent t.1 b t.4 in
    let f = fitted-inv card_room lent (print_card t.1) b m.2 in
    record {
      input = i.0;
      json = t.0;
      card = t.1;
      read = t.2;
      from = t.3;
      carries = m.0;
      lines = m.1;
      result = f.2;
      room = ap (λ (x : Bytes). ltb card_room (length x)) f.2 ∙ f.0;
    }
