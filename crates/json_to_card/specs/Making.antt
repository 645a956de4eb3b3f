-- What the writer of a card answers.
use Rattle.std.specs.Prelude.{◌≡◌, ◌-◌, ◌≤◌, ◌<◌, length, take, Option, Some, None, Ok, Err}
use Rattle.text.specs.Bytes.{Bytes}
use Rattle.convert.specs.Answers.{Answer, no, yes}
use Rattle.served.specs.declared.Unmade.TheVariants.{Refused, Full}
use Rattle.served.specs.Served.{Outcome, Made, Serves}

-- the card stands whole at the front of the room, with a byte left at least; or it fills the room or is longer; or a refusal
abbrev pub Makes : Answer → Bytes → Made → Bytes → Type 0
Makes a room (Ok k) after = (text : Bytes) × (a ≡ yes text) × (take (k - 0) after ≡ text) × (k < length room) × (length after ≡ length room)
Makes a room (Err (Refused r)) after = a ≡ no r.number r.place
Makes a room (Err Full) after = (text : Bytes) × (a ≡ yes text) × (length room ≤ length text)

-- what is served of it; or nothing is, and the lent output is as it was
abbrev pub ServesIf : (out : Bytes) → Answer → Option Outcome → (after : Bytes) → Type 0
ServesIf out a (Some r) after = Serves out a r after
ServesIf out a None after = after ≡ out
