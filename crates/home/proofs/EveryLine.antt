-- Every line of an accepted card stands in its normal form.
use mathlib.Core.Path.{◌≡◌}
use mathlib.Core.Bool.{false}
use mathlib.Core.List.{List, [], ◌∷◌, map}
use Prim.Native.Nat.{ℕ, ◌≤◌}
use lib.ListN.{length}
use lib.Dec.{ltb}
use Rattle.text.specs.Bytes.{Bytes}
use Rattle.text.proofs.Cases.{tests}
use Rattle.line.specs.Grammar.{Line, read_line}
use Rattle.convert.specs.Classify.{Seen, nothing, see, classify, Classed, classed_after, classed}
use Rattle.convert.specs.NormalCard.{kept_form, kepts, section, normal_lines}
use Rattle.convert.specs.Answers.{line_room}
use Rattle.home.specs.Turns.{LinesStand, InTurn}
use Rattle.home.proofs.Alls.{All}
use Rattle.home.proofs.Accepted.{GoodLines}
use Rattle.text.proofs.Lists.{each-length}
use Rattle.home.proofs.Ordered.{LineGood, classed-length}
use Rattle.home.proofs.CardProper.{lines-good}
use Rattle.home.proofs.LineSays.{class-says}
use Rattle.home.proofs.InSections.{lines-reordered}
use Rattle.home.proofs.SectionsStand.{ClassedFine, new_of, converted_forms, normal-parted, sections-stand}
use Rattle.home.proofs.Standing.{stand-reordered}
use Rattle.home.proofs.TurnsKept.{lines-converted, lines-kept}
use Rattle.home.proofs.PairedLines.{stands_of}
use Rattle.home.proofs.InTurn.{kept-pairs, lines-in-turn}

all_say : (s : Seen) (ls : List Line) → All LineGood ls → All ClassedFine (classed_after s ls)
unfolding classed_after
all_say s [] h = tt
all_say s (l ∷ ls) h = ((h.0.0, class-says s l), all_say (see s (classify s l)) ls h.1)

lines-stand : (stem : Bytes) (n : ℕ) (ls : List Line) → All LineGood ls → length ls ≤ 512 → LinesStand (new_of stem n (classed ls)) ls (stands_of (classed_after nothing ls)) (normal_lines stem n (classed ls))
unfolding classed
lines-stand stem n ls h few =
    let cs : List Classed = classed_after nothing ls in
    let f : All ClassedFine cs = all_say nothing ls h in
    let m : length cs ≤ 512 = rw (classed-length nothing ls) few in
    record {
      front = converted_forms stem n cs;
      back = map kept_form (section kepts cs);
      whole = normal-parted stem n cs;
      converted = rw (lines-converted nothing ls) (stand-reordered (lines-reordered nothing ls) (sections-stand stem n cs f m));
      kept = rw (lines-kept nothing ls) (kept-pairs cs f m);
    }

-- at most 512 lines
lines-few : (raw : List Bytes) (ls : List Line) → GoodLines raw ls → length ls ≤ 512
lines-few raw ls g = fits (length raw) (length ls) (each-length read_line raw ls g.read) g.few
  where
    fits : (m k : ℕ) → k ≡ m → ltb line_room m ≡ false → k ≤ 512
    fits m k e h = omega tests

-- The normal form of an accepted card has VERSION, the lines made where none came, and for each line that came one line that says what it says.
pub every-line : (stem : Bytes) (n : ℕ) (raw : List Bytes) (ls : List Line) → GoodLines raw ls
    → LinesStand (new_of stem n (classed ls)) ls (stands_of (classed_after nothing ls)) (normal_lines stem n (classed ls))
every-line stem n raw ls g = lines-stand stem n ls (lines-good raw ls g.read g.clean g.used g.filled) (lines-few raw ls g)

-- and it is in 01's order, each section in the order in which its lines came
pub every-turn : (stem : Bytes) (n : ℕ) (raw : List Bytes) (ls : List Line) → GoodLines raw ls → InTurn ls (stands_of (classed_after nothing ls)) (normal_lines stem n (classed ls))
unfolding classed
every-turn stem n raw ls g =
    lines-in-turn (classed_after nothing ls) (all_say nothing ls (lines-good raw ls g.read g.clean g.used g.filled)) (rw (classed-length nothing ls) (lines-few raw ls g)) stem n
    ls (stands_of (classed_after nothing ls)) (lines-converted nothing ls) (lines-kept nothing ls)
