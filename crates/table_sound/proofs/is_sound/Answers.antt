use mathlib.Core.Path.{refl}
use native.Mathlib.Omega.{arith}
use Rattle.table_sound.proofs.Spans.{span-is, span-not, spans-none, value_in, spans_on, spans-as}
use Rattle.table_sound.proofs.is_sound.Goals as goal

pub returns-then-n-gt-VALUES : goal.returns-then-n-gt-VALUES
returns-then-n-gt-VALUES c = λ s. omega (arith, s.few, c.if-n-gt-VALUES.true)

pub has_span-requires : goal.has_span-requires
has_span-requires c = omega (arith, c.requires)

pub returns-then-not-has_span : goal.returns-then-not-has_span
returns-then-not-has_span c = λ s. span-not c.has_span.result c.has_span.ensures c.if-not-has_span.true refl s.group

pub has_span-requires-2 : goal.has_span-requires-2
has_span-requires-2 c = omega (arith, c.requires)

pub returns-then-not-has_span-2 : goal.returns-then-not-has_span-2
returns-then-not-has_span-2 c = λ s. span-not c.has_span-2.result c.has_span-2.ensures c.if-not-has_span-2.true refl s.name

pub has_span-requires-3 : goal.has_span-requires-3
has_span-requires-3 c = omega (arith, c.requires)

pub returns-then-not-has_span-3 : goal.returns-then-not-has_span-3
returns-then-not-has_span-3 c = λ s. span-not c.has_span-3.result c.has_span-3.ensures c.if-not-has_span-3.true refl s.value

pub loop-k-init : goal.loop-k-init
loop-k-init c =
    let args = c.args in
    spans-none args.b.now args.t.now

pub has_span-requires-in-loop-k : goal.has_span-requires-in-loop-k
has_span-requires-in-loop-k c =
    let pre = c.requires in
    let if1 = c.if-n-gt-VALUES in
    omega (arith, if1.false, c.loop-k-test.true, pre)

pub returns-then-not-has_span-4 : goal.returns-then-not-has_span-4
returns-then-not-has_span-4 c =
    let loop = c.loop-k in
    let has-span4 = c.has_span-in-loop-k in
    λ s. span-not has-span4.result has-span4.ensures c.if-not-has_span-4.true refl
    (s.rows.name loop.k c.loop-k-test.true)

pub has_span-requires-in-loop-k-2 : goal.has_span-requires-in-loop-k-2
has_span-requires-in-loop-k-2 c =
    let pre = c.requires in
    let if1 = c.if-n-gt-VALUES in
    omega (arith, if1.false, c.loop-k-test.true, pre)

pub returns-then-not-has_span-5 : goal.returns-then-not-has_span-5
returns-then-not-has_span-5 c =
    let loop = c.loop-k in
    let loop-test = c.loop-k-test in
    let has-span5 = c.has_span-in-loop-k-2 in
    λ s. span-not has-span5.result has-span5.ensures c.if-not-has_span-5.true refl (value_in s.rows loop.k loop-test.true)

pub loop-k-preserved : goal.loop-k-preserved
loop-k-preserved c =
    let loop = c.loop-k in
    let has-span4 = c.has_span-in-loop-k in
    let has-span5 = c.has_span-in-loop-k-2 in
    spans_on loop.invariant (span-is has-span4.result has-span4.ensures c.if-not-has_span-4.false refl)
    (span-is has-span5.result has-span5.ensures c.if-not-has_span-5.false refl)

pub returns : goal.returns
returns c =
    let pre = c.requires in
    let if1 = c.if-n-gt-VALUES in
    let has_span = c.has_span in
    let has-span2 = c.has_span-2 in
    let has-span3 = c.has_span-3 in
    let loop = c.loop-k in
    record {
      wide = pre;
      few = omega (arith, if1.false);
      group = span-is has_span.result has_span.ensures c.if-not-has_span.false refl;
      name =
          span-is has-span2.result has-span2.ensures c.if-not-has_span-2.false refl;
      value = span-is has-span3.result has-span3.ensures
          c.if-not-has_span-3.false refl;
      rows = spans-as loop.invariant (omega (arith, c.loop-k.auto.k-end, c.loop-k-test.false));
    }
