-- The units of a string: what the contracts of this crate cite.
use Rattle.std.specs.Prelude.{[], ℕ, ◌≤◌, ◌<◌, drop}
use Prim.Native.Char.{code}
use Rattle.text.specs.Bytes.{Bytes, is, between}
use Rattle.text.specs.Reader.{Got, got, bad, under, on, Step, last, loop}
use Rattle.json_text.specs.Syntax as syntax
use Rattle.json_text.specs.Syntax.{escape}
use Rattle.json_escapes.specs.declared.Piece.{Piece}
use Rattle.json_escapes.specs.declared.Piece.TheVariants.{Of, End, Wrong}

abbrev pub push : ℕ → Step Bytes
push u = syntax.push u

-- One unit of a string, or its closing quote. A byte from 128 up is a unit by itself: the characters of a string that the grammar
-- reads (Syntax.antt's `character`) are the same units (the law `units-same`).
unfoldable pub unit : Bytes → Got (Step Bytes)
unit =
    on (is (code "\"")) (λ c t. got (last []) t)
    (on (is (code "\\")) (λ c t. under push (escape t))
    (on (between 32 255) (λ c t. got (push c) t) bad))

unfoldable pub units : Bytes → Got Bytes
units = loop unit

abbrev pub unit_of : Bytes → Piece → Got (Step Bytes)
unit_of s (Of u e) = got (push u) (drop e s)
unit_of s (End e) = got (last []) (drop e s)
unit_of s (Wrong b) = bad (drop b s)

abbrev pub UnitIn : ℕ → ℕ → Piece → Type 0
UnitIn at n (Of u e) = (at < e) × (e ≤ n) × (u < 65792)
UnitIn at n (End e) = (at < e) × (e ≤ n)
UnitIn at n (Wrong b) = (at ≤ b) × (b ≤ n)
