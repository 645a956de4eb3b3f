use mathlib.Core.Path.{refl}
use Rattle.to_card_kept_entry.proofs.entry.Words.{name-none, name-never, name-word}
use Rattle.to_card_kept_entry.proofs.entry.put_name.Goals as goal

pub returns-then-q-eq0 : goal.returns-then-q-eq0
returns-then-q-eq0 c =
    let args = c.args in
    let string-in = c.string_in-q in
    record { b_len_unchanged = refl; within = tt; puts_name = name-none args.b.now args.n args.s.now args.at string-in.result string-in.ensures c.if-q-eq0.true _ }

pub returns-then-which_name-ne-UNKEPT_COUNT : goal.returns-then-which_name-ne-UNKEPT_COUNT
returns-then-which_name-ne-UNKEPT_COUNT c =
    let args = c.args in
    let string-in = c.string_in-q in
    let if1 = c.if-q-eq0 in
    let which-name = c.which_name in record {
      b_len_unchanged = refl;
      within = tt;
      puts_name = name-never args.b.now args.n args.s.now args.at string-in.result string-in.ensures if1.false which-name.result which-name.ensures c.if-which_name-ne-UNKEPT_COUNT.true _;
    }

pub returns : goal.returns
returns c =
    let args = c.args in
    let string-in = c.string_in-q in
    let if1 = c.if-q-eq0 in
    let which-name = c.which_name in
    let if2 = c.if-which_name-ne-UNKEPT_COUNT in
    record {
      b_len_unchanged = c.put_word.ensures.b_len_unchanged;
      within = c.put_word.ensures.within;
      puts_name = name-word args.b.now args.n args.s.now args.at string-in.result string-in.ensures if1.false which-name.result which-name.ensures if2.false c.put_word.result _ c.put_word.ensures.puts_word;
    }
