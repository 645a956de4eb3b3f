use native.Mathlib.Omega.{arith}
use mathlib.Core.Path.{sym, ◌∙◌}
use Prim.Native.Nat.{◌+◌}
use native.Mathlib.Nat.{le_refl, lt_of_lt_of_le}
use Rattle.output.proofs.Laws.{start, done, puts-as}
use Rattle.output.proofs.Rests.{rest_all, rest-as, rest-byte, rest-no-byte, rest-done, rest-same, rest_in, rest-fit}
use Rattle.json_strings.proofs.NextByte.{byte-in, not-alone, none_left, one_left, text-none, text-left, text_in}
use Rattle.json_strings.proofs.Bare.{copied-rest, weight-on}
use Rattle.json_strings.proofs.decode_into.Goals as goal

pub returns-then-not-is_paired : goal.returns-then-not-is_paired
returns-then-not-is_paired c = puts-as (sym (text-none c.args.s.now c.args.at (sym c.is_paired.ensures ∙ c.if-not-is_paired.true))) (done (start _))

pub loop-b-init : goal.loop-b-init
loop-b-init c =
    let args = c.args in
    let p = sym c.is_paired.ensures ∙ c.if-not-is_paired.false in
    (text_in args.s.now args.at p, (_, text-left args.s.now args.at p, rest_all _ _))

pub slice_bounds-copy_bare-count : goal.slice_bounds-copy_bare-count
slice_bounds-copy_bare-count c = rest_in c.loop-b.invariant.1.2

pub slice_bounds-copy_bare-start : goal.slice_bounds-copy_bare-start
slice_bounds-copy_bare-start c = rest_in c.loop-b.invariant.1.2

pub slice_bounds-copy_bare-end : goal.slice_bounds-copy_bare-end
slice_bounds-copy_bare-end c = le_refl _

pub copy_bare-n-requires : goal.copy_bare-n-requires
copy_bare-n-requires c = c.loop-b.invariant.0

pub overflow_add-k : goal.overflow_add-k
overflow_add-k c =
    let good = c.well_formed in
    let args = c.args in
    let loop = c.loop-b in
    let m = copied-rest args.s.now loop.i loop.h loop.invariant.1.1 loop.invariant.1.2 c.copy_bare-n.ensures in
    rest-fit m.2 good.0.0

pub overflow_add-i : goal.overflow_add-i
overflow_add-i c = omega (arith, c.copy_bare-n.ensures.within)

pub next_byte-requires : goal.next_byte-requires
next_byte-requires c = c.copy_bare-n.ensures.within

pub shape_of-out-in-Alone : goal.shape_of-out-in-Alone
shape_of-out-in-Alone c =
    let args = c.args in
    let loop = c.loop-b in
    let copy-bare = c.copy_bare-n in
    let m = copied-rest args.s.now loop.i loop.h loop.invariant.1.1 loop.invariant.1.2 copy-bare.ensures in
    rest-same m.2

pub returns-in-Alone : goal.returns-in-Alone
returns-in-Alone c =
    let args = c.args in
    let loop = c.loop-b in
    let copy-bare = c.copy_bare-n in
    let m = copied-rest args.s.now loop.i loop.h loop.invariant.1.1 loop.invariant.1.2 copy-bare.ensures in
    absurd (not-alone args.s.now c.next_byte.ensures.0 _ m.1 c.in-Alone.is)

pub shape_of-out-in-End : goal.shape_of-out-in-End
shape_of-out-in-End c =
    let args = c.args in
    let loop = c.loop-b in
    let copy-bare = c.copy_bare-n in
    let m = copied-rest args.s.now loop.i loop.h loop.invariant.1.1 loop.invariant.1.2 copy-bare.ensures in
    rest-same m.2

pub returns-in-End : goal.returns-in-End
returns-in-End c =
    let args = c.args in
    let loop = c.loop-b in
    let copy-bare = c.copy_bare-n in
    let m = copied-rest args.s.now loop.i loop.h loop.invariant.1.1 loop.invariant.1.2 copy-bare.ensures in
    rest-done (none_left args.s.now c.next_byte.ensures.0 _ m.1 c.in-End.is) m.2

pub shape_of-out-then-k-out : goal.shape_of-out-then-k-out
shape_of-out-then-k-out c =
    let args = c.args in
    let loop = c.loop-b in
    let copy-bare = c.copy_bare-n in
    let m = copied-rest args.s.now loop.i loop.h loop.invariant.1.1 loop.invariant.1.2 copy-bare.ensures in
    rest-same m.2

pub returns-then-k-out : goal.returns-then-k-out
returns-then-k-out c =
    let args = c.args in
    let loop = c.loop-b in
    let copy-bare = c.copy_bare-n in
    let m = copied-rest args.s.now loop.i loop.h loop.invariant.1.1 loop.invariant.1.2 copy-bare.ensures in
    let u = one_left args.s.now c.next_byte.ensures.0 _ m.1 c.in-One.is in
    rest-no-byte (rest-as u.2 m.2) c.if-k-out.true

pub bounds-out-k : goal.bounds-out-k
bounds-out-k c = omega (arith, c.if-k-out.false)

pub overflow_add-k-in-One : goal.overflow_add-k-in-One
overflow_add-k-in-One c = omega (arith, c.if-k-out.false)

pub loop-b-smaller : goal.loop-b-smaller
loop-b-smaller c =
    let args = c.args in
    let loop = c.loop-b in
    let copy-bare = c.copy_bare-n in
    let w = byte-in args.s.now (loop.i + copy-bare.result) loop.h c.next_byte.ensures.1 c.in-One.is in
    lt_of_lt_of_le w.1 (weight-on args.s.now loop.i loop.h copy-bare.result)

pub loop-b-preserved : goal.loop-b-preserved
loop-b-preserved c =
    let args = c.args in
    let loop = c.loop-b in
    let copy-bare = c.copy_bare-n in
    let next-byte = c.next_byte in
    let m = copied-rest args.s.now loop.i loop.h loop.invariant.1.1 loop.invariant.1.2 copy-bare.ensures in
    let u = one_left args.s.now next-byte.ensures.0 _ m.1 c.in-One.is in (
      (byte-in args.s.now (loop.i + copy-bare.result) loop.h next-byte.ensures.1 c.in-One.is).0,
      (u.0, u.1, rest-byte (rest-as u.2 m.2) c.if-k-out.false),
    )
