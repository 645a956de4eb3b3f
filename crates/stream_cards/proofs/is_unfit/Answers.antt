use Rattle.stream_cards.proofs.Laws.{fit_found}
use Rattle.stream_cards.proofs.is_unfit.Goals as goal

pub returns : goal.returns
returns c =
    fit_found c.args.s c.args.room c.args.lent _ c.in_range.ensures
