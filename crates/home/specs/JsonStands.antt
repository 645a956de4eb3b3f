-- The JSON of an accepted card, line by line: what stands for each (`StandsFor`), why it is kept (`Reasons`), and that nothing else is there.
use Rattle.std.specs.Prelude.{◌≡◌, List, [], ℕ}
use Rattle.text.specs.Bytes.{Bytes}
use Rattle.json_text.specs.Tree.{Member, object}
use Rattle.json_text.specs.Compact.{compact}
use Rattle.line.specs.Grammar.{Line}
use Rattle.home.specs.StandsFor.{Stand, AllStandFor, MapsOf, json_of}
use Rattle.home.specs.Reasons.{KeptByReason}

-- Each line stands for one thing in j, in order; it is kept exactly where it has a reason; j is what stands for the lines, @type, version and a made uid, and no more.
pub record JsonStands (stem : Bytes) (n : ℕ) (ls : List Line) (j : Bytes) : Type 0 where
  pub stands : List Stand
  pub each_line : AllStandFor ls stands
  pub reasons : KeptByReason [] ls stands
  pub maps : List Member
  pub maps-are : MapsOf stands maps
  pub text : j ≡ compact (object (json_of stem n stands maps))
