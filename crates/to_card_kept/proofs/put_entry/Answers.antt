use borrow.Author.Tests.{not-true, not-false}
use mathlib.Core.Path.{refl, ap}
use native.Mathlib.Omega.{arith}
use Rattle.to_card_kept_entry.specs.fill.Held.{is_entry}
use Rattle.to_card_kept_entry.proofs.fill.Fill.{held_in}
use Rattle.to_card_kept.proofs.Entry.{sound-is, sound-not, lent-room, entry-unfilled, entry-unsound, entry-converts, entry-put}
use Rattle.to_card_kept.proofs.put_entry.Goals as goal

pub fill_kept-requires : goal.fill_kept-requires
fill_kept-requires c =
    record { table_length_in_bounds = c.requires.lent.all.table; at_in_bounds = c.requires.at_in_bounds }

pub returns-in_err-end-clause-puts_entry : goal.returns-in_err-end-clause-puts_entry
returns-in_err-end-clause-puts_entry c =
    let args = c.args in
    rw c.from_residual.ensures
    (entry-unfilled args.s.now args.slots.now args.at args.full args.parts args.out.now args.b.now c.requires.lent.all.buffer _ _ _ c.fill_kept.ensures.fills_kept (ap is_entry c.in_err-end.was) _)

pub is_sound-requires : goal.is_sound-requires
is_sound-requires c =
    omega (arith, c.requires.lent.all.table, c.fill_kept.ensures.bounds.wide)

pub returns-then-not-is_sound : goal.returns-then-not-is_sound
returns-then-not-is_sound c =
    let args = c.args in
    let is-sound = c.is_sound in record {
      entered_in = tt;
      out_len_unchanged = refl;
      puts_entry = entry-unsound args.s.now args.slots.now args.at args.full args.parts args.out.now args.b.now c.requires.lent.all.buffer _ _ _ c.fill_kept.ensures.fills_kept (sound-not is-sound.result is-sound.ensures c.if-not-is_sound.true) _;
      asked_once = tt;
    }

pub is_kept_line-judged-requires : goal.is_kept_line-judged-requires
is_kept_line-judged-requires c =
    let is-sound = c.is_sound in
    record {
      sound = (sound-is is-sound.result is-sound.ensures c.if-not-is_sound.false, lent-room c.requires.lent.all c.fill_kept.ensures.bounds.long, c.requires.lent.index);
      indexes = c.requires.indexes;
    }

pub returns-then-not-judged : goal.returns-then-not-judged
returns-then-not-judged c =
    let args = c.args in
    record {
      entered_in = tt;
      out_len_unchanged = refl;
      puts_entry = entry-converts args.s.now args.slots.now args.at args.full args.parts args.out.now args.b.now c.requires.lent.all.buffer _ _ _ c.fill_kept.ensures.fills_kept c.is_kept_line-judged.result.kept c.is_kept_line-judged.ensures.tells_kept (not-true _ c.if-not-judged.true) _;
      asked_once = tt;
    }

pub put_kept_line-p-requires : goal.put_kept_line-p-requires
put_kept_line-p-requires c =
    let is-sound = c.is_sound in
    sound-is is-sound.result is-sound.ensures c.if-not-is_sound.false

pub returns : goal.returns
returns c =
    let args = c.args in
    record {
      entered_in = (c.put_kept_line-p.ensures.bytes_in_bounds, held_in args.s.now args.at c.fill_kept.ensures.held_in c.in_ok-end.was);
      out_len_unchanged = c.put_kept_line-p.ensures.out_len_unchanged;
      puts_entry = entry-put args.s.now args.slots.now args.at args.full args.parts args.out.now args.b.now c.requires.lent.all.buffer _ _ _
          c.fill_kept.ensures.fills_kept c.is_kept_line-judged.result.kept c.is_kept_line-judged.ensures.tells_kept (ap is_entry c.in_ok-end.was) (not-false _ c.if-not-judged.false)
          c.put_kept_line-p.result _ c.put_kept_line-p.ensures.puts_kept;
      asked_once = c.is_kept_line-judged.ensures.asked_bound;
    }
