-- Each time round: the members of the first k rows are written, those alone whose name is not VALUE and came first there, and `begun` says whether
-- the group or one of them stands before (`Going`). A turn writes row k's member, or nothing (`going_on`); n - k falls. After the last row they are
-- the parameters of kept_line (`going-all`). Full comes from the row that lacked room (`going-full`). A sound table has so few rows that no index
-- wraps.
use Rattle.to_json_kept.proofs.Params.{Going}
use Rattle.to_json_kept.proofs.put_params.Given as goal

abbrev pub invariant-loop-k : goal.invariant-loop-k
invariant-loop-k l = Going l.s l.t l.grouped l.initial.out l.n l.out l.at l.k l.begun
