use borrow.Author.Rules.{rules}
use native.Mathlib.Omega.{arith}
use Prim.Native.Nat.{ℕ, ◌+◌, ◌<◌}
use lib.ListN.{length, get_or}
use Rattle.std.specs.Prelude.{Ok}
use Rattle.json_sound.specs.declared.Sounded.TheVariants.{Sound}
use Rattle.json_sound.specs.Sound.{Follows}
use Rattle.json_sound.proofs.Escapes.{follows-none, follows_then, follows-text, follows-judged}
use Rattle.json_sound.proofs.Judging.{onward-up}
use Rattle.json_sound.proofs.Plain.{chars-end}
use Rattle.json_sound.proofs.sound_rest.Goals as goal
use Rattle.json_sound.proofs.sound_rest.Goals.{After-text_end-from}

pub loop-at-init : goal.loop-at-init
loop-at-init c = (search rules, search rules, follows-none c.args.s.now c.args.at)

pub text_end-from-requires : goal.text_end-from-requires
text_end-from-requires c = c.loop-at.invariant.1

-- past the characters that stand for themselves
past : (c : After-text_end-from) → Follows c.args.s.now c.args.at c.text_end-from.result
past c =
    let s = c.args.s.now in
    let loop = c.loop-at in
    let small : (k : ℕ) → get_or s k 0 < 256 = λ k. omega (arith, c.type_inv.s k) in
    follows_then s loop.invariant.2
    (follows-text s small loop.i c.text_end-from.result c.text_end-from.ensures.lower_bound.0 c.text_end-from.ensures.lower_bound.1 c.text_end-from.ensures.to_end c.text_end-from.ensures.unmarked)

pub look-requires : goal.look-requires
look-requires c = c.text_end-from.ensures.lower_bound.1

pub overflow_add-result : goal.overflow_add-result
overflow_add-result c = omega (arith, c.look.ensures.1, c.if-look-eq-QUOTE.true)

pub returns-then-look-eq-QUOTE : goal.returns-then-look-eq-QUOTE
returns-then-look-eq-QUOTE c =
    let args = c.args in
    let s = args.s.now in
    let from = c.text_end-from.result in
    let look = c.look in
    let w : from < length s = omega (arith, look.ensures.1, c.if-look-eq-QUOTE.true) in record {
      judged = follows-judged s args.at from (past (goal.at.returns-then-look-eq-QUOTE c).After-text_end-from) (Ok (Sound (from + 1))) (omega arith) (chars-end s from look.result look.ensures.0 c.if-look-eq-QUOTE.true);
      onward = (omega (arith, c.loop-at.invariant.0, c.text_end-from.ensures.lower_bound.0), omega arith);
    }

pub escape_end-e-requires : goal.escape_end-e-requires
escape_end-e-requires c = c.text_end-from.ensures.lower_bound.1

pub sound_twice-requires : goal.sound_twice-requires
sound_twice-requires c = c.text_end-from.ensures.lower_bound.1

pub returns-then-e-from : goal.returns-then-e-from
returns-then-e-from c =
    let args = c.args in
    let s = args.s.now in
    let from = c.text_end-from.result in
    record {
      judged = follows-judged s args.at from (past (goal.at.returns-then-e-from c).After-text_end-from) c.sound_twice.result c.sound_twice.ensures.onward c.sound_twice.ensures.judged;
      onward = onward-up args.at from (length s) c.sound_twice.result (omega (arith, c.loop-at.invariant.0, c.text_end-from.ensures.lower_bound.0)) c.sound_twice.ensures.onward;
    }

pub loop-at-smaller : goal.loop-at-smaller
loop-at-smaller c = omega (arith, c.text_end-from.ensures.lower_bound.0, c.escape_end-e.ensures.lower_bound, c.if-e-from.false)

pub loop-at-preserved : goal.loop-at-preserved
loop-at-preserved c = (
  omega (arith, c.loop-at.invariant.0, c.text_end-from.ensures.lower_bound.0, c.escape_end-e.ensures.lower_bound.0),
  c.escape_end-e.ensures.lower_bound.1,
  follows_then c.args.s.now (past (goal.at.loop-at-preserved c).After-text_end-from) c.escape_end-e.ensures.follows,
)
