use native.Mathlib.Omega.{arith}
use Rattle.json_strings.specs.Decoded.{text_at}
use Rattle.to_card_kept_entry.proofs.strings.Putting.{grew, no_room}
use Rattle.to_card_kept_entry.proofs.strings.put_escaped.Goals as goal

pub returns-in_default : goal.returns-in_default
returns-in_default c =
    let pre = c.requires in
    let args = c.args in
    let decode-into = c.decode_into in
    no_room args.b.now args.n (pre) (text_at args.s.now args.at) _ decode-into.result decode-into.ensures
    c.in_default.is

pub overflow_add-result : goal.overflow_add-result
overflow_add-result c =
    let pre = c.requires in
    let args = c.args in
    let good = c.well_formed in
    let decode-into = c.decode_into in
    record {
      fits = let g = grew args.b.now args.n (pre) (text_at args.s.now args.at) _ decode-into.result decode-into.ensures
          c.in-Ok.is in omega (arith, g.within, good.0.0);
    }

pub returns : goal.returns
returns c =
    let pre = c.requires in
    let args = c.args in
    let decode-into = c.decode_into in
    grew args.b.now args.n (pre) (text_at args.s.now args.at) _ decode-into.result decode-into.ensures c.in-Ok.is
