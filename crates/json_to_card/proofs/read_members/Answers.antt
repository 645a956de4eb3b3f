use native.Mathlib.Omega.{arith}
use Rattle.to_card_card.proofs.Names.{reserved-names}
use Rattle.json_to_card.proofs.read_members.Goals as goal

pub read_indexed-requires : goal.read_indexed-requires
read_indexed-requires c =
    record { s_len_bound = c.requires.json_len_bound; prints_len = c.requires.prints_len; names_in_bounds = omega (arith, reserved-names, c.requires.slots_len); clear = c.requires.clear }
