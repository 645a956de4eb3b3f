use Rattle.output.proofs.Laws.{failed}
use mathlib.Core.Path.{sym}
use native.Mathlib.Omega.{arith}
use Rattle.to_json_maps.specs.Maps.{map_at}
use Rattle.to_json_maps.proofs.Turns.{put_front, fits-front, never-full, piece-as}
use Rattle.to_json_maps.proofs.put_made.Goals as goal

pub returns-in_err-k : goal.returns-in_err-k
returns-in_err-k c =
    λ e x. failed c.from_residual.ensures.0
    (never-full _ _ _ _ c.put_key.ensures c.in_err-k.was c.requires.1)

pub slice_bounds-put_keyed-count : goal.slice_bounds-put_keyed-count
slice_bounds-put_keyed-count c = omega (arith, fits-front _ _ _ _ _ c.put_key.ensures c.in_ok-k.was)

pub slice_bounds-put_keyed-start : goal.slice_bounds-put_keyed-start
slice_bounds-put_keyed-start c = omega (arith, fits-front _ _ _ _ _ c.put_key.ensures c.in_ok-k.was)

pub slice_bounds-put_keyed-end : goal.slice_bounds-put_keyed-end
slice_bounds-put_keyed-end c = omega (arith, fits-front _ _ _ _ _ c.put_key.ensures c.in_ok-k.was)

pub put_keyed-requires : goal.put_keyed-requires
put_keyed-requires c = c.requires.0

pub returns : goal.returns
returns c =
    let args = c.args in
    let put-key = c.put_key in
    λ e x. piece-as (map_at args.i) args.begun e (sym (put_front _ _ _ _ _ put-key.ensures c.in_ok-k.was))
    (c.put_keyed.ensures e x)
