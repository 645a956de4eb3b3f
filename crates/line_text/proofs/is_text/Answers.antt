use Prim.Native.Nat.{◌-◌, ◌≤◌}
use mathlib.Core.Path.{◌≡◌, refl, sym, subst, ◌∙◌}
use native.Mathlib.Omega.{arith}
use lib.ListN.{length, take, drop}
use lib.Seq.{take_all}
use Rattle.text.specs.Bytes.{Bytes}
use Rattle.line_text.specs.Read.{Plain}
use Rattle.text.specs.Choice.{is_some}
use Rattle.line.specs.Text.{read_text}
use Rattle.line_text.proofs.Plain.{plain-good}
use Rattle.line_text.proofs.Reading.{onward, byte-good, bad-good, end-good}
use Rattle.line_text.proofs.is_text.Goals as goal
use Rattle.line_text.proofs.is_text.Goals.{After-plain_end-j}

pub loop-e-init : goal.loop-e-init
loop-e-init c = (omega arith, refl)

-- all of the bytes, as a part of them
all_of : (s : Bytes) → take (length s - 0) (drop 0 s) ≡ s
all_of s = take_all (length s - 0) s (omega arith)

abbrev Run : (c : After-plain_end-j) → Bytes → Type 0
Run c s = (c.loop-e.i ≤ c.plain_end-j.result) × (c.plain_end-j.result ≤ length s) × Plain s c.loop-e.i c.plain_end-j.result

run_of : (c : After-plain_end-j) → Run c c.args.s.now
run_of c = subst (Run c) (all_of c.args.s.now) c.plain_end-j.ensures

-- where the bytes before a backslash end
good-on : (c : After-plain_end-j) → is_some (read_text (drop c.loop-e.i c.args.s.now)) ≡ is_some (read_text (drop c.plain_end-j.result c.args.s.now))
good-on c =
    let l = run_of c in
    plain-good c.args.s.now c.loop-e.i _ l.0 l.1 l.2

pub plain_end-j-requires : goal.plain_end-j-requires
plain_end-j-requires c = rw (all_of c.args.s.now) c.loop-e.invariant.0

pub loop-e-smaller : goal.loop-e-smaller
loop-e-smaller c = omega (arith, onward _ _ _ c.next_char.ensures _ _ c.in-Byte.is, c.plain_end-j.ensures.0)

pub loop-e-preserved : goal.loop-e-preserved
loop-e-preserved c = ((onward _ _ _ c.next_char.ensures _ _ c.in-Byte.is).1, sym (byte-good _ _ _ c.next_char.ensures _ _ c.in-Byte.is) ∙ sym (good-on (goal.at.loop-e-preserved c).After-plain_end-j) ∙ c.loop-e.invariant.1)

pub returns-in-Bad : goal.returns-in-Bad
returns-in-Bad c = sym (bad-good _ _ _ c.next_char.ensures c.in-Bad.is) ∙ sym (good-on (goal.at.returns-in-Bad c).After-plain_end-j) ∙ c.loop-e.invariant.1

pub returns-in-End : goal.returns-in-End
returns-in-End c = sym (end-good _ _ _ c.next_char.ensures c.in-End.is) ∙ sym (good-on (goal.at.returns-in-End c).After-plain_end-j) ∙ c.loop-e.invariant.1
