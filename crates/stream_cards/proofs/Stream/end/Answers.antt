use mathlib.Core.Path.{ap}
use mathlib.Core.Bool.{not}
use Rattle.stream.specs.Calls.{end}
use Rattle.stream_cards.proofs.Laws.{gives-16, gives-15, gives-passed, event-fits}
use Rattle.stream_cards.proofs.Stream.end.Goals as goal

pub returns-then-is_unfit : goal.returns-then-is_unfit
returns-then-is_unfit c =
    let a = c.args in
    let unfit = c.is_unfit in
    let test = c.if-is_unfit.true in
    gives-16 (end a.stem.now) a.self a.buffer.now a.out.now _ unfit.ensures test _ c.refused.ensures

pub returns-then-not-is_stem : goal.returns-then-not-is_stem
returns-then-not-is_stem c =
    let a = c.args in
    let unfit = c.is_unfit in
    let test = c.if-is_unfit.false in
    let stem = c.is_stem in
    let stem-test = (ap not c.if-not-is_stem.true) in
    gives-15 (end a.stem.now) a.self a.buffer.now a.out.now _ unfit.ensures test _ stem.ensures stem-test _ c.refused-then-not-is_stem.ensures

pub finish-requires : goal.finish-requires
finish-requires c =
    let a = c.args in
    let unfit = c.is_unfit in
    let test = c.if-is_unfit.false in
    event-fits (end a.stem.now) a.self a.buffer.now a.out.now _ unfit.ensures test _ c.close-f.ensures.value _ c.close-f.auto.card

pub returns : goal.returns
returns c =
    let a = c.args in
    let unfit = c.is_unfit in
    let test = c.if-is_unfit.false in
    let stem = c.is_stem in
    let stem-test = (ap not c.if-not-is_stem.false) in
    gives-passed (end a.stem.now) a.self a.buffer.now a.out.now _ unfit.ensures test _ stem.ensures stem-test
    _ _ c.close-f.ensures.value c.close-f.ensures.card_after _ c.finish.ensures.value _ c.finish.ensures.out_after
