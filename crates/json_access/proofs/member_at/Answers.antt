use Rattle.json_access.proofs.Laws.{head-member}
use Rattle.json_access.proofs.member_at.Goals as goal

pub returns : goal.returns
returns c =
    let a = c.args in
    record {
      name_in_bounds = c.head_at-h.ensures.name_in_bounds;
      inside = record { from = c.head_at-h.ensures.at_le_start.0; ordered = c.skip_value-e.ensures.lower_bound.0 c.head_at-h.ensures.at_le_start.1; end-in = c.skip_value-e.ensures.lower_bound.1 };
      tells_member = head-member a.depth a.s.now a.at c.head_at-h.result c.skip_value-e.result c.head_at-h.ensures.tells_head c.head_at-h.ensures.at_le_start.1 c.skip_value-e.ensures.lower_bound.1 (c.skip_value-e.ensures.skips a.depth);
    }
