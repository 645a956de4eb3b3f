use mathlib.Core.Path.{refl}
use mathlib.Core.Bool.{false}
use mathlib.Core.List.{[]}
use lib.ListN.{replicate}
use native.Mathlib.Omega.{arith}
use Rattle.text.proofs.Cases.{not-both}
use Rattle.to_json_maps.proofs.Heads.{unmarked}
use Rattle.to_json_maps.proofs.Marking.{marking-start, marking-other, marking-line, marking-end, line-dashless}
use Rattle.to_json_maps.proofs.may_have_ids.Goals as goal

pub loop-k-init : goal.loop-k-init
loop-k-init c = (omega arith, λ cs h. marking-start [] c.args.i cs (replicate 1025 0) unmarked)

pub bounds-lines-k : goal.bounds-lines-k
bounds-lines-k c = omega (arith, c.requires.0.1.wide, c.loop-k-test.true)

pub loop-k-preserved-then-not-is_of : goal.loop-k-preserved-then-not-is_of
loop-k-preserved-then-not-is_of c =
    let loop = c.loop-k in
    let of = c.is_of in
    let other = c.if-not-is_of.true in
    (omega (arith, c.loop-k-test.true), λ cs h. marking-other h loop.k c.loop-k-test.true c.args.i of.result of.ensures [] false _ other (loop.invariant.1 cs h))

pub returns-then-has_dash : goal.returns-then-has_dash
returns-then-has_dash c = λ e. not-both refl e

pub loop-k-preserved : goal.loop-k-preserved
loop-k-preserved c =
    let loop = c.loop-k in
    let of = c.is_of in
    let this = c.if-not-is_of.false in
    let line = c.line_at in
    let none = line-dashless [] line.result.now (replicate 1025 0) (c.has_dash.ensures c.if-has_dash.false) in
    let more = c.loop-k-test.true in
    (omega (arith, more), λ cs h. marking-line h loop.k more c.args.i of.result of.ensures this c.requires.1 [] false false _ _ line.ensures none (loop.invariant.1 cs h))

pub returns : goal.returns
returns c = λ e cs h. marking-end h [] c.args.i c.loop-k.k false (replicate 1025 0) c.loop-k-test.false (c.loop-k.invariant.1 cs h)
