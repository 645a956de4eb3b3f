-- What the readers of a card's frame answer.
use Rattle.std.specs.Prelude.{◌≡◌, Option, Some, None, ℕ, ◌-◌, ◌≤◌, length, take, drop}
use Rattle.std.proofs.Math.Option.{none, some}
use Rattle.text.specs.Bytes.{Bytes}
use Rattle.line.specs.Physical.{physical, up_to_end, framed}
use Rattle.line_frame.specs.declared.Body.{Body}

-- from `at` on: the lines up to END, which begins at b
abbrev pub Ends : Bytes → ℕ → Option ℕ → Type 0
Ends s at (Some b) = (at ≤ b) × (b ≤ length s) × (up_to_end (physical (drop at s)) ≡ some (physical (take (b - at) (drop at s))))
Ends s at None = up_to_end (physical (drop at s)) ≡ none

-- the lines between BEGIN and END are those of a part of the bytes
abbrev pub Framed : Bytes → Option Body → Type 0
Framed s (Some b) = (b.start ≤ b.end) × (b.end ≤ length s) × (framed (physical s) ≡ some (physical (take (b.end - b.start) (drop b.start s))))
Framed s None = framed (physical s) ≡ none
