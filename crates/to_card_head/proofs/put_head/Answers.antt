-- No loop: four tests, each of them a reason for 12 (`no-card`, `no-version`, `no-uid`, `no_kind`), then the lines that `head_from` names. Without a
-- kind they are BEGIN, VERSION and UID (`head_plain`); with one the KIND line follows on the rest of the room (`kind_row`, `head-kind`). Whether
-- lines can carry it is for the UID alone: a kind is a word.
use mathlib.Core.Path.{refl, subst}
use Prim.Native.Nat.{ℕ}
use Rattle.to_card_lines.proofs.Laws.{fills-in, fills-length, begun, onto, row_fits}
use Rattle.to_card_head.specs.Head.{FilledIn, WordIn}
use Rattle.to_card_head.proofs.Head.{no-card, no-version, no-uid, no_kind, head_plain, kind_row, head-kind}
use Rattle.to_card_head.proofs.put_head.Goals as goal

pub returns-then-not-holds : goal.returns-then-not-holds
returns-then-not-holds c =
    let args = c.args in
    let holds = c.holds in record {
      lines_in = tt;
      out_len_unchanged = refl;
      puts_head = no-card args.s.now args.card args.version args.uid args.kind args.out.now holds.result holds.ensures c.if-not-holds.true _;
    }

pub returns-then-not-holds-2 : goal.returns-then-not-holds-2
returns-then-not-holds-2 c =
    let args = c.args in
    let holds2 = c.holds-2 in record {
      lines_in = tt;
      out_len_unchanged = refl;
      puts_head = no-version args.s.now args.card args.version args.uid args.kind args.out.now holds2.result holds2.ensures c.if-not-holds-2.true _;
    }

pub returns-then-u-eq0 : goal.returns-then-u-eq0
returns-then-u-eq0 c =
    let args = c.args in record {
      lines_in = tt;
      out_len_unchanged = refl;
      puts_head = no-uid args.s.now args.card args.version args.uid args.kind args.out.now (subst (λ (q : ℕ). FilledIn args.s.now args.uid q) c.if-u-eq0.true c.filled_in-u.ensures) _;
    }

pub returns-then-kind-eq0 : goal.returns-then-kind-eq0
returns-then-kind-eq0 c =
    let args = c.args in
    let holds = c.holds in
    let holds2 = c.holds-2 in
    let filled_in = c.filled_in-u in
    let if3 = c.if-u-eq0 in
    let if4 = c.if-kind-eq0 in
    let put-start = c.put_start-p in
    let w = put-start.ensures in record {
      lines_in = fills-in w.fills;
      out_len_unchanged = fills-length w.fills;
      puts_head = head_plain args.s.now args.card args.version args.uid args.kind args.out.now holds.result holds.ensures
          c.if-not-holds.false holds2.result holds2.ensures c.if-not-holds-2.false filled_in.result filled_in.ensures if3.false
          put-start.result _ w if4.true;
    }

pub returns-then-k-eq0 : goal.returns-then-k-eq0
returns-then-k-eq0 c =
    let args = c.args in record {
      lines_in = tt;
      out_len_unchanged = refl;
      puts_head = no_kind args.s.now args.card args.version args.uid args.kind args.out.now c.if-kind-eq0.false (subst (λ (q : ℕ). WordIn args.s.now args.kind q) c.if-k-eq0.true c.word_in-k.ensures) _;
    }

pub overflow_add-m : goal.overflow_add-m
overflow_add-m c =
    let good = c.well_formed in
    let put-start2 = c.put_start-p-2 in
    let put-string-line = c.put_string_line-q in
    row_fits (onto (begun put-start2.ensures.fills) put-string-line.ensures.fills) good.0.0

pub returns : goal.returns
returns c =
    let args = c.args in
    let holds = c.holds in
    let holds2 = c.holds-2 in
    let filled_in = c.filled_in-u in
    let if3 = c.if-u-eq0 in
    let if4 = c.if-kind-eq0 in
    let word_in = c.word_in-k in
    let if5 = c.if-k-eq0 in
    let put-start2 = c.put_start-p-2 in
    let put-string-line = c.put_string_line-q in
    let w = put-start2.ensures in let l = put-string-line.ensures in let f = kind_row args.s.now args.card args.version args.uid
    args.kind args.out.now holds.result holds.ensures c.if-not-holds.false holds2.result holds2.ensures
    c.if-not-holds-2.false filled_in.result filled_in.ensures if3.false put-start2.result _ w if4.false word_in.result
    word_in.ensures if5.false put-string-line.result _ l in record {
      lines_in = fills-in f;
      out_len_unchanged = fills-length f;
      puts_head = head-kind args.s.now args.card args.version args.uid args.kind args.out.now holds.result holds.ensures
          c.if-not-holds.false holds2.result holds2.ensures c.if-not-holds-2.false filled_in.result filled_in.ensures if3.false
          put-start2.result _ w if4.false word_in.result word_in.ensures if5.false put-string-line.result _ l;
    }
