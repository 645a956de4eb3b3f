use Prim.Native.Nat.{◌+◌}
use native.Mathlib.Omega.{arith}
use borrow.Author.Tests.{lt-ltb, le-ltb, le-leb, lt-leb}
use lib.ListN.{length}
use Rattle.line_unfold.specs.Table.{line_at}
use Rattle.line_unfold.proofs.line_at.Goals as goal

pub returns-then-table-k : goal.returns-then-table-k
unfolding line_at
returns-then-table-k c = rw (le-leb (length c.args.table.now) (c.args.k + 1) (omega arith))

pub returns-then-table-k-lt2 : goal.returns-then-table-k-lt2
unfolding line_at
returns-then-table-k-lt2 c = rw (le-leb (length c.args.table.now) (c.args.k + 1) (omega arith))

pub returns-then-b-a : goal.returns-then-b-a
unfolding line_at
returns-then-b-a c = rw (lt-leb (length c.args.table.now) (c.args.k + 1) (omega arith), lt-ltb _ _ c.if-b-a.true)

pub returns-then-bytes-b : goal.returns-then-bytes-b
unfolding line_at
returns-then-bytes-b c = rw (lt-leb (length c.args.table.now) (c.args.k + 1) (omega arith), le-ltb _ _ c.if-b-a.false, lt-ltb _ _ c.if-bytes-b.true)

pub returns : goal.returns
unfolding line_at
returns c = rw (lt-leb (length c.args.table.now) (c.args.k + 1) (omega arith), le-ltb _ _ c.if-b-a.false, le-ltb _ _ c.if-bytes-b.false)
