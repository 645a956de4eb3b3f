-- What is answered on a text that is opened for its members.
use Rattle.std.specs.Prelude.{◌≡◌, true, List, ℕ, Result, Ok, Err}
use Rattle.text.specs.Bytes.{Bytes}
use Rattle.json_text.specs.Read.{reading}
use Rattle.json_index.specs.Index.{Indexes}
use Rattle.convert.specs.Answers.{no}
use Rattle.served.specs.declared.Refusal.{Refusal}
use Rattle.to_card_card.specs.Whole.{card_names}
use Rattle.json_to_card.specs.Inner.{Reads, inner, becomes}

-- the text is an object with these slots, and what it becomes is said by its members
pub record Object (s : Bytes) (xs : List ℕ) : Type 0 where
  pub reads : Reads s
  pub indexes : Indexes 15 s 0 card_names xs true
  pub by_members : becomes s ≡ inner (reading 16 s)

-- it is; or why it is refused
abbrev pub OpensCard : Bytes → List ℕ → Result (Unit {0}) Refusal → Type 0
OpensCard s xs (Ok u) = Object s xs
OpensCard s xs (Err r) = becomes s ≡ no r.number r.place
