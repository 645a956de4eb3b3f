-- What the look-up's contracts cite.
use Rattle.std.specs.Prelude.{◌≡◌, ℕ, ◌+◌, ◌≤◌, length}
use Rattle.std.proofs.Math.Option.{Option, none, some}
use Rattle.text.specs.Bytes.{Bytes}
use Rattle.text.specs.Reader.{got}
use Rattle.json_text.specs.Lookup.{spans, given, found, Part as Found}
use Rattle.json_text.specs.Tree.{Json}
use Rattle.json_text.specs.Syntax.{text}
use Rattle.json_access.specs.declared.Part.{Part}

pub record Bounds (n : ℕ) (r : Part) : Type 0 where
  pub ordered : r.start ≤ r.end
  pub inside : r.end ≤ n

-- from where to where the part that was found stands; nowhere is 0 to 0
abbrev pub nowhere : Part
nowhere = record { start = 0; end = 0 }

abbrev pub place_of : Option Found → Part
place_of none = nowhere
place_of (some p) = record { start = p.offset; end = p.offset + p.size }

-- of the members of a text that is JSON, it is the part of the first of that name
abbrev pub FindsIn : Bytes → Bytes → Part → Type 0
FindsIn s m r = (j : Json) (t : Bytes) → text 16 s ≡ got j t → r ≡ place_of (found (length s) m (given (spans 15 s)))

-- Where a part of a text stands in memory, the text being at p (a block, and an offset into it): so many bytes after the text's first. An empty
-- part for what is not there stands at the text's start.
abbrev pub stands_at : ℕ × ℕ → Option Found → ℕ × ℕ
stands_at p o = (p.0, (place_of o).start + p.1)
