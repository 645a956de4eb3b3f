-- The lists and worked cases hold, by computation.
use mathlib.Core.Path.{refl}
use Rattle.convert.specs.Worked.{worked-opened}
use Rattle.convert.specs.Listed.{versions, phone_numbers, twelve, ListedConvert}
use Rattle.convert.proofs.Opened.{convert-opened}

pub convert-listed : ListedConvert
unfolding versions phone_numbers twelve convert-opened worked-opened
convert-listed =
    record {
      prefs = refl;
      no-prefs = refl;
      key-bytes = refl;
      key-ends = refl;
      key-lengths = refl;
      stem-bytes = refl;
      stem-ends = refl;
      stem-lengths = refl;
      card-numbers = refl;
      garbled-bytes = refl;
      value-bytes = refl;
      kind-bytes = refl;
      kind-ends = refl;
      emptied-ones = refl;
      kind-words = refl;
      not-raw = refl;
      not-text = refl;
      not-parameter = refl;
      made-keys = refl;
      keys-around = refl;
      versions-hold = refl;
      numbers-hold = refl;
      twelve-hold = refl;
    }
