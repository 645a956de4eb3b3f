use Rattle.class_member.proofs.Values.{written}
use Rattle.to_card_kept_used.proofs.Names.{pointer-full, pointer_read}
use native.Mathlib.Omega.{arith}
use Rattle.to_card_kept_used.proofs.pointer_used.Goals as goal

pub returns-in_default : goal.returns-in_default
returns-in_default c =
    pointer-full c.args.s.now c.args.p.now c.args.scratch.now c.read_pointer.ensures c.requires.pointing.1 c.in_default.is _

pub slice_bounds-has_name-end : goal.slice_bounds-has_name-end
slice_bounds-has_name-end c = (written _ c.read_pointer.ensures c.in-Ok.is).0

pub has_name-requires : goal.has_name-requires
has_name-requires c =
    record { i_lt_group_count = (omega arith, c.requires.pointing.2); indexes = c.requires.indexes }

pub returns : goal.returns
returns c =
    let args = c.args in
    let read-pointer = c.read_pointer in
    pointer_read args.s.now args.p.now args.scratch.now read-pointer.ensures args.slots.now _ c.in-Ok.is c.has_name.result c.has_name.ensures
