-- The contract of the compact writer.
use Rattle.std.specs.Prelude.{◌≡◌, ℕ}
use Rattle.text.specs.Bytes.{Bytes}
use Rattle.text.specs.Reader.{Got, got}
use Rattle.output.specs.Put.{Wrote}
use Rattle.output.specs.Put.{Puts}
use Rattle.json_text.specs.Tree.{Json}
use Rattle.json_text.specs.Compact.{compact}
use Rattle.json_text.specs.Read.{tree, reading}
use Rattle.json_compact.specs.Squeezed.{squeezed}

-- the piece that was read is written
abbrev pub WritesPiece : Got Bytes → Bytes → Wrote → Bytes → Type 0
WritesPiece x room r out = (w t : Bytes) → x ≡ got w t → Puts room w r out

-- any text is written piece by piece; a JSON text so becomes its tree's compact text
pub record Compacts (s room : Bytes) (r : Wrote) (out : Bytes) : Type 0 where
  pub puts : Puts room (squeezed s) r out
  pub of_tree : (d : ℕ) (k : Json) → reading d s ≡ tree k → Puts room (compact k) r out
