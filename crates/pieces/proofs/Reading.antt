-- The length of a text, by the verdict of its reader.
use mathlib.Core.Path.{◌≡◌, sym, ap, ◌∙◌}
use lib.ListN.{length}
use Rattle.text.specs.Bytes.{Bytes}
use Rattle.json_read.specs.Verdict.{Verdict, verdict}
use Rattle.pieces.specs.Given.{length_of, length_read}

pub read_as : (s : Bytes) (r v : Verdict) → r ≡ verdict 16 s → r ≡ v → length_of (length s) v ≡ length_read s
unfolding length_read
read_as s r v e f = ap (length_of (length s)) (sym f ∙ e)
