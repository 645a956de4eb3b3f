-- Reading a JSON text (refusal 11): its tree, or the place.
use Rattle.std.specs.Prelude.{ℕ, ◌-◌, length}
use Rattle.text.specs.Choice.{pick, with-some}
use Rattle.text.specs.Bytes.{Bytes}
use Rattle.text.specs.Reader.{Got, got, bad}
use Rattle.json_text.specs.Tree.{Json}
use Rattle.json_text.specs.Syntax.{text}
use Rattle.json_text.specs.Strings.{decoded, distinct_names}

pub data Reading : Type 0 where
  tree : Json → Reading
  refused : ℕ → Reading

-- a tree read from units: place 0 where a surrogate is alone or two names of one object are equal
unfoldable pub sound : Json → Reading
sound j = with-some (decoded j) (λ k. pick (distinct_names k) (tree k) (refused 0)) (refused 0)

abbrev pub reading_of : ℕ → Got Json → Reading
reading_of n (got j t) = sound j
reading_of n (bad t) = refused (n - length t)

-- JSON of depth d at most. A fault in grammar, UTF-8 or depth anywhere comes before equal names and lone surrogates, and its
-- place is the offset of the first byte at which no such JSON can still follow.
unfoldable pub reading : ℕ → Bytes → Reading
reading d s = reading_of (length s) (text d s)
