use Rattle.to_card_kept_used.proofs.Keys.{id-names}
use native.Mathlib.Omega.{arith}
use Rattle.to_card_kept_used.proofs.id_used.Goals as goal

pub has_name-requires : goal.has_name-requires
has_name-requires c =
    record { i_lt_group_count = (omega (arith, c.requires.i_lt_map_count.0), c.requires.i_lt_map_count.1); indexes = c.requires.indexes }

pub returns : goal.returns
returns c =
    let args = c.args in
    id-names args.s.now args.slots.now args.i c.requires.i_lt_map_count.0 args.key.now c.has_name.result c.has_name.ensures
