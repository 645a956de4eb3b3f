use Prim.Native.Nat.{◌+◌}
use lib.ListN.{length}
use mathlib.Core.Path.{◌∙◌}
use native.Mathlib.Omega.{arith}
use Rattle.to_json_keys.proofs.Spelled.{number_short, number-other, number-joined, number-after, front_same, rest-spells}
use Rattle.to_json_keys.proofs.number_of.Goals as goal

pub returns-then-key-p : goal.returns-then-key-p
returns-then-key-p c = number_short c.args.prefix.now c.args.key.now c.if-key-p.true

pub returns-then-not-same_bytes : goal.returns-then-not-same_bytes
returns-then-not-same_bytes c = number-other c.args.prefix.now c.args.key.now (front_same _ _ _ c.same_bytes.ensures ∙ c.if-not-same_bytes.true)

pub returns-then-key-p-ne45 : goal.returns-then-key-p-ne45
returns-then-key-p-ne45 c = number-joined c.args.prefix.now c.args.key.now c.if-key-p-ne45.true

pub returns : goal.returns
returns c =
    let args = c.args in
    let same_bytes = c.same_bytes in
    number-after args.prefix.now args.key.now c.spelled_number.result (front_same _ _ _ same_bytes.ensures ∙ c.if-not-same_bytes.false)
    c.if-key-p-ne45.false (omega arith) (rest-spells args.key.now (length args.prefix.now + 1) _ c.spelled_number.ensures)
