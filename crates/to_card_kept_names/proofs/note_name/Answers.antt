use native.Mathlib.Omega.{arith}
use Rattle.to_card_kept_names.proofs.Noting.{name-noted}
use Rattle.to_card_kept_names.proofs.note_name.Goals as goal

pub returns : goal.returns
returns c =
    let args = c.args in
    let if1 = c.if-k-places in
    name-noted args.s.now args.at args.k args.places.now args.prints.now c.print_from-p.result (omega (arith, if1.false)) c.requires.places_len c.print_from-p.ensures.value
