use native.Mathlib.Omega.{arith}
use Rattle.json_strings.specs.Decoded.{text_at}
use Rattle.to_card_kept_entry.proofs.strings.Putting.{grew, no_room}
use Rattle.to_card_kept_entry.proofs.strings.Bare.{bare-puts}
use Rattle.to_card_kept_entry.proofs.strings.put_decoded.Goals as goal

pub slice_bounds-put_text-count-2 : goal.slice_bounds-put_text-count-2
slice_bounds-put_text-count-2 c = let w = c.bare_end-e.ensures c.if-e-s.false in omega (arith, w.from)

pub slice_bounds-put_text-start-2 : goal.slice_bounds-put_text-start-2
slice_bounds-put_text-start-2 c = let w = c.bare_end-e.ensures c.if-e-s.false in omega (arith, w.from)

pub returns-in_default : goal.returns-in_default
returns-in_default c =
    let bare-end = c.bare_end-e in
    let if1 = c.if-e-s in
    let pre = c.requires in
    let put-text = c.put_text in
    let a = c.args in
    let w = bare-end.ensures if1.false in
    no_room a.b.now a.n (pre) (text_at a.s.now a.at) _ put-text.result (bare-puts w put-text.ensures) c.in_default.is

pub overflow_add-result : goal.overflow_add-result
overflow_add-result c =
    let bare-end = c.bare_end-e in
    let if1 = c.if-e-s in
    let pre = c.requires in
    let put-text = c.put_text in
    let good = c.well_formed in
    let a = c.args in
    let w = bare-end.ensures if1.false in
    let g = grew a.b.now a.n (pre) (text_at a.s.now a.at) _ put-text.result (bare-puts w put-text.ensures) c.in-Ok.is in
    record { fits = omega (arith, g.within, good.0.0) }

pub returns : goal.returns
returns c =
    let bare-end = c.bare_end-e in
    let if1 = c.if-e-s in
    let pre = c.requires in
    let put-text = c.put_text in
    let a = c.args in
    let w = bare-end.ensures if1.false in
    grew a.b.now a.n (pre) (text_at a.s.now a.at) _ put-text.result (bare-puts w put-text.ensures) c.in-Ok.is
