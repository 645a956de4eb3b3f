-- What is kept of the lines read so far for refusals 6 to 10, and the refusal that it tells.
use Rattle.std.specs.Prelude.{Bool, ◌&&◌, ◌||◌, not, List, [], ◌∷◌, ℕ, eqb, Option, Some, None}
use Rattle.std.specs.Bool.{then_some}
use Rattle.std.specs.Option.{option_or}
use Rattle.text.specs.Choice.{pick}
use Rattle.text.specs.Bytes.{ascii, any}
use Rattle.line.specs.Grammar.{Line}
use Rattle.convert.specs.Answers.{Answer, no, Test, given, given_at, at_line, first_from, is_named, misused, second_from, emptied, version_first}
use Rattle.from_card_garbled.specs.Garbled.{found}
use Rattle.from_card_refusals.specs.declared.Judged.{Judged}
use Rattle.served.specs.declared.Refusal.{Refusal}

-- of these lines: the first of 7, 8 and 9, which names have come, and whether the first is VERSION:4.0
unfoldable pub judged : List Line → Judged
judged ls = record {
  misused = found (first_from 1 misused ls);
  second = found (second_from 1 [] ls);
  emptied = found (first_from 1 emptied ls);
  version = any (is_named (ascii "version")) ls;
  uid = any (is_named (ascii "uid")) ls;
  kind = any (is_named (ascii "kind")) ls;
  full = any (is_named (ascii "fn")) ls;
  opened = version_first ls;
}

-- the first place stays
abbrev pub first_of : Option ℕ → Bool → ℕ → Option ℕ
first_of a here k = option_or a (then_some here k)

-- one line more: the k-th, its property's number, whether it is of 7 or 9, and whether it is VERSION:4.0
unfoldable pub judged_with : Judged → ℕ → ℕ → Bool → Bool → Bool → Judged
judged_with j k code m e v = record {
  misused = first_of j.misused m k;
  second = first_of j.second ((eqb code 1 && j.version) || ((eqb code 2 && j.uid) || (eqb code 3 && j.kind))) k;
  emptied = first_of j.emptied e k;
  version = j.version || eqb code 1;
  uid = j.uid || eqb code 2;
  kind = j.kind || eqb code 3;
  full = j.full || eqb code 4;
  opened = j.opened || (eqb k 1 && v);
}

-- refusals 6 to 10 in 01's order
unfoldable pub later_tests : List Line → List Test
later_tests ls =
    given 6 (not (version_first ls))
    ∷ at_line 7 misused ls
    ∷ given_at 8 (second_from 1 [] ls)
    ∷ at_line 9 emptied ls
    ∷ given 10 (not (any (is_named (ascii "fn")) ls))
    ∷ []

-- the one that is told
abbrev pub refusal_at : ℕ → ℕ → Refusal
refusal_at n p = record { number = n; place = p }

-- where there is a place, the refusal of that number; else the others
abbrev pub placed : ℕ → Option ℕ → Option Refusal → Option Refusal
placed n None r = r
placed n (Some p) r = Some (refusal_at n p)

unfoldable pub refusal_of : Judged → Option Refusal
refusal_of j = pick (not j.opened) (Some (refusal_at 6 0)) (placed 7 j.misused (placed 8 j.second (placed 9 j.emptied (pick (not j.full) (Some (refusal_at 10 0)) None))))

-- a refusal is the answer, else it is the other
abbrev pub answered : Option Refusal → Answer → Answer
answered None a = a
answered (Some r) a = no r.number r.place
