use borrow.Author.Rules.{rules}
use mathlib.Core.Path.{sym, ◌∙◌}
use native.Mathlib.Omega.{arith}
use Rattle.text.proofs.Choices.{none-some}
use Rattle.convert_entry.proofs.Entry.{clear-eight}
use Rattle.convert_entry.proofs.Tests.{first-id}
use Rattle.to_json_keys.proofs.Spelled.{key-short}
use Rattle.to_json_keys.proofs.Going.{made-low}
use Rattle.to_json_maps.specs.Maps.{map_at}
use Rattle.to_json_maps.proofs.Rows.{held-entry, held-converts, no_key, own_key}
use Rattle.to_json_maps.proofs.Marking.{filled-holds, filled_none}
use Rattle.to_json_maps.proofs.Turns.{said-as, key-made, goes-made, key-own, goes-own, piece-as, stopped}
use Rattle.to_json_maps.proofs.put_turn.Goals as goal

pub fill-requires : goal.fill-requires
fill-requires c = c.requires.0

pub returns-then-not-fill : goal.returns-then-not-fill
returns-then-not-fill c = λ ids used e x. none-some (sym (filled_none _ _ c.fill.result c.fill.ensures c.if-not-fill.true) ∙ x.enters.read)

pub scan_rows-ids-requires : goal.scan_rows-ids-requires
scan_rows-ids-requires c = (clear-eight, (filled-holds c.fill.result c.fill.ensures c.if-not-fill.false).sound)

pub overflow_add-next : goal.overflow_add-next
overflow_add-next c =
    let args = c.args in
    let pre = c.requires in
    omega (
      arith,
      (made-low pre.1.turning.going pre.1.turning.few (c.next_number-number.ensures args.prefix.now _ pre.1.turning.blocked pre.1.turning.going.from)),
    )

pub put_made-requires : goal.put_made-requires
put_made-requires c =
    let args = c.args in
    let pre = c.requires in
    let fill = c.fill in
    let scan-rows = c.scan_rows-ids in
    let next-number = c.next_number-number in (
      record { rowed = record { wide = record { counts = search rules; froms = search rules; tos = search rules }; row = scan-rows.ensures; sound = (filled-holds fill.result fill.ensures c.if-not-fill.false).sound }; entry = pre.1.entry; converts = held-converts (filled-holds fill.result fill.ensures c.if-not-fill.false) pre.1.turning.enters },
      omega (arith, key-short args.prefix.now next-number.result (made-low pre.1.turning.going pre.1.turning.few (next-number.ensures args.prefix.now _ pre.1.turning.blocked pre.1.turning.going.from)), pre.1.short),
    )

pub returns-in_err-bytes : goal.returns-in_err-bytes
returns-in_err-bytes c =
    let args = c.args in
    let scan-rows = c.scan_rows-ids in
    let if2 = c.if-ids-eq0 in
    let next-number = c.next_number-number in
    let put-made = c.put_made in
    let holds = filled-holds c.fill.result c.fill.ensures c.if-not-fill.false in
    λ ids used e x.
    let made = next-number.ensures args.prefix.now ids x.blocked x.going.from in
    let keyless = no_key x.enters.seen x.enters.slot args.s.now c.fill.new.t (held-entry holds x.enters) scan-rows.ensures if2.true in
    stopped _ _ _ _ c.from_residual.ensures.0
    (piece-as (map_at args.i) args.begun e (key-made x made keyless)
    (said-as c.in_err-bytes.was (put-made.ensures e (held-converts holds x.enters))))

pub returns-then-ids-eq0 : goal.returns-then-ids-eq0
returns-then-ids-eq0 c =
    let args = c.args in
    let scan-rows = c.scan_rows-ids in
    let if2 = c.if-ids-eq0 in
    let next-number = c.next_number-number in
    let put-made = c.put_made in
    let holds = filled-holds c.fill.result c.fill.ensures c.if-not-fill.false in
    λ ids used e x.
    let made = next-number.ensures args.prefix.now ids x.blocked x.going.from in
    let keyless = no_key x.enters.seen x.enters.slot args.s.now c.fill.new.t (held-entry holds x.enters) scan-rows.ensures if2.true in (
      piece-as (map_at args.i) args.begun e (key-made x made keyless)
          (said-as c.in_ok-bytes.was (put-made.ensures e (held-converts holds x.enters))),
      goes-made x made keyless,
    )

pub slice_bounds-put_keyed-count : goal.slice_bounds-put_keyed-count
slice_bounds-put_keyed-count c = let v = first-id c.scan_rows-ids.ensures c.if-ids-eq0.false in omega (arith, v.ordered, v.within)

pub slice_bounds-put_keyed-start : goal.slice_bounds-put_keyed-start
slice_bounds-put_keyed-start c = let v = first-id c.scan_rows-ids.ensures c.if-ids-eq0.false in omega (arith, v.ordered, v.within)

pub slice_bounds-put_keyed-end : goal.slice_bounds-put_keyed-end
slice_bounds-put_keyed-end c = let v = first-id c.scan_rows-ids.ensures c.if-ids-eq0.false in omega (arith, v.ordered, v.within)

pub put_keyed-requires : goal.put_keyed-requires
put_keyed-requires c =
    let pre = c.requires in
    let fill = c.fill in
    let scan-rows = c.scan_rows-ids in
    record {
      rowed = record {
        wide = record { counts = search rules; froms = search rules; tos = search rules };
        row = scan-rows.ensures;
        sound =
            (filled-holds fill.result fill.ensures c.if-not-fill.false).sound;
      };
      entry = pre.1.entry;
      converts = held-converts (filled-holds fill.result fill.ensures c.if-not-fill.false)
          pre.1.turning.enters;
    }

pub returns-in_err-bytes-2 : goal.returns-in_err-bytes-2
returns-in_err-bytes-2 c =
    let args = c.args in
    let scan-rows = c.scan_rows-ids in
    let if2 = c.if-ids-eq0 in
    let put-keyed = c.put_keyed in
    λ ids used e x.
    let holds = filled-holds c.fill.result c.fill.ensures c.if-not-fill.false in
    let o = own_key x.enters.seen x.enters.slot args.s.now c.fill.new.t (held-entry holds x.enters) scan-rows.ensures if2.false in
    stopped _ _ _ _ c.from_residual-in_err-bytes-2.ensures.0
    (piece-as (map_at args.i) args.begun e (key-own x o.1 ∙ o.0)
    (said-as c.in_err-bytes-2.was (put-keyed.ensures e (held-converts holds x.enters))))

pub returns : goal.returns
returns c =
    let args = c.args in
    let scan-rows = c.scan_rows-ids in
    let if2 = c.if-ids-eq0 in
    let put-keyed = c.put_keyed in
    λ ids used e x. let o = own_key x.enters.seen x.enters.slot args.s.now c.fill.new.t
    (held-entry (filled-holds c.fill.result c.fill.ensures c.if-not-fill.false) x.enters) scan-rows.ensures if2.false in (
      piece-as (map_at args.i) args.begun e (key-own x o.1 ∙ o.0) (said-as c.in_ok-bytes-2.was (put-keyed.ensures e (held-converts (filled-holds c.fill.result c.fill.ensures c.if-not-fill.false) x.enters))),
      goes-own x o.1,
    )
