-- The lists of bytes hold, by computation over all 256.
use mathlib.Core.Path.{refl}
use Rattle.json_text.specs.Classes.{ListedJson}
use Rattle.json_text.proofs.Opened.{json-opened}

pub json-listed : ListedJson
unfolding json-opened
json-listed =
    record {
      spaces = refl;
      space-places = refl;
      one_byte = refl;
      before-one = refl;
      after_one = refl;
      after-zero = refl;
      after_minus = refl;
      after-point = refl;
      inside = refl;
      after-e = refl;
      es = refl;
      signs = refl;
      plain = refl;
      plains = refl;
      escapes = refl;
      shorts = refl;
      hex = refl;
      hex-places = refl;
      hexes = refl;
      alone = refl;
      paired = refl;
      written = refl;
    }
