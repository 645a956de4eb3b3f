-- What a writer leaves of the room that it is lent, and what it answers.
use Rattle.std.specs.Prelude.{◌≡◌, ℕ, ◌≤◌, List, [], ◌∷◌, ◌++◌, length, take, drop, leb}
use Rattle.text.specs.Choice.{pick}
use Rattle.text.specs.Bytes.{Bytes, flat}
use Rattle.std.specs.Prelude.{Result, Ok, Err}
use Rattle.output.specs.declared.Full.{Full}

-- how many bytes were written, or that they do not fit
abbrev pub Wrote : Type 0
Wrote = Result ℕ Full

abbrev pub full : Full
full = record {}

-- the room after as much of bs as it holds
unfoldable pub put : Bytes → Bytes → Bytes
put room bs = take (length room) bs ++ drop (length bs) room

unfoldable pub answer : Bytes → Bytes → Wrote
answer room bs = pick (leb (length bs) (length room)) (Ok (length bs)) (Err full)

-- the contract of every writer: it is total, so that a writer without room says so, and still every byte is known
pub record Puts (room bs : Bytes) (r : Wrote) (after : Bytes) : Type 0 where
  pub said : r ≡ answer room bs
  pub left : after ≡ put room bs

-- x, which fits, has been written to the start of room, up to the index at, and the room is now out
pub record Sofar (room x : Bytes) (at : ℕ) (out : Bytes) : Type 0 where
  pub is : at ≡ length x
  pub fits : at ≤ length room
  pub same : length out ≡ length room
  pub left : out ≡ put room x

abbrev pub hd : List Bytes → Bytes
hd [] = []
hd (y ∷ ys) = y

abbrev pub tl : List Bytes → List Bytes
tl [] = []
tl (y ∷ ys) = ys

-- whole is what has been written, up to the index at, and then the pieces of todo
pub record Left (room whole : Bytes) (todo : List Bytes) (at : ℕ) (out : Bytes) : Type 0 where
  pub x : Bytes
  pub so : Sofar room x at out
  pub rest : x ++ flat todo ≡ whole

-- the same for a loop that goes by what is left of its bytes
pub record Rest (room whole todo : Bytes) (at : ℕ) (out : Bytes) : Type 0 where
  pub x : Bytes
  pub so : Sofar room x at out
  pub rest : x ++ todo ≡ whole
