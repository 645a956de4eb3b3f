use native.Mathlib.Omega.{arith}
use mathlib.Core.Path.{sym}
use Rattle.stream_reader.proofs.Laws.{bumps-top, bumps-below, bumps-full}
use Rattle.stream_reader.proofs.bumps.Goals as goal

pub returns-then-n-top : goal.returns-then-n-top
returns-then-n-top c = sym (bumps-top _ _ _ c.if-n-top.true)

pub returns-then-k-left : goal.returns-then-k-left
returns-then-k-left c = sym (bumps-below _ _ _ (omega arith))

pub returns : goal.returns
returns c = sym (bumps-full _ _ _ (omega arith) (omega arith))
