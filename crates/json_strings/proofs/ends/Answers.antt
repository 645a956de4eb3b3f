use mathlib.Core.Path.{sym, ap}
use mathlib.Core.List.{[]}
use mathlib.Core.Option.{some}
use Rattle.text.specs.Bytes.{same}
use Rattle.json_strings.specs.Decoded.{agree}
use Rattle.json_strings.proofs.NextByte.{is-alone, is-end}
use Rattle.json_strings.proofs.Equal.{ends-one}
use Rattle.json_strings.proofs.ends.Goals as goal

pub returns-in-Alone : goal.returns-in-Alone
returns-in-Alone c = sym (ap (agree (some [])) (is-alone c.args.s.now c.next_byte.ensures.0 c.in-Alone.is))

pub returns-in-End : goal.returns-in-End
unfolding same
returns-in-End c = sym (ap (agree (some [])) (is-end c.args.s.now c.next_byte.ensures.0 c.in-End.is))

pub returns-in-One : goal.returns-in-One
returns-in-One c = sym (ends-one c.args.s.now c.next_byte.ensures.0 c.in-One.is)
