use native.Mathlib.Omega.{arith}
use mathlib.Core.Path.{ap, ◌∙◌}
use Rattle.text.specs.Bytes.{parts}
use Rattle.json_strings.specs.Decoded.{decoded_at}
use Rattle.json_index.specs.Index.{noted}
use Rattle.json_index.proofs.Names.{placed-le}
use Rattle.json_index.proofs.Slots.{noted-free, noted-taken}
use Rattle.json_open.proofs.note_member.Goals as goal

pub offset_bounds-slots-k : goal.offset_bounds-slots-k
offset_bounds-slots-k c =
    omega (arith, placed-le (decoded_at c.args.s.now c.args.name) (parts 44 c.args.names.now), c.which_name-k.ensures, c.requires)

pub bounds-slots-k : goal.bounds-slots-k
bounds-slots-k c =
    omega (arith, placed-le (decoded_at c.args.s.now c.args.name) (parts 44 c.args.names.now), c.which_name-k.ensures, c.requires)

pub offset_bounds-slots-k-then-slots-k-eq0 : goal.offset_bounds-slots-k-then-slots-k-eq0
offset_bounds-slots-k-then-slots-k-eq0 c =
    omega (arith, placed-le (decoded_at c.args.s.now c.args.name) (parts 44 c.args.names.now), c.which_name-k.ensures, c.requires)

pub bounds-slots-k-then-slots-k-eq0 : goal.bounds-slots-k-then-slots-k-eq0
bounds-slots-k-then-slots-k-eq0 c =
    omega (arith, placed-le (decoded_at c.args.s.now c.args.name) (parts 44 c.args.names.now), c.which_name-k.ensures, c.requires)

pub returns-then-slots-k-eq0 : goal.returns-then-slots-k-eq0
returns-then-slots-k-eq0 c = noted-free _ _ _ c.if-slots-k-eq0.true ∙ ap (λ k. noted c.args.slots.now k c.args.value) c.which_name-k.ensures

pub returns-else-slots-k-eq0 : goal.returns-else-slots-k-eq0
returns-else-slots-k-eq0 c = noted-taken _ _ _ c.if-slots-k-eq0.false ∙ ap (λ k. noted c.args.slots.now k c.args.value) c.which_name-k.ensures
