use native.Mathlib.Omega.{arith}
use mathlib.Core.Path.{sym, ap, ◌∙◌}
use mathlib.Core.Option.{Option}
use lib.ListN.{take, drop}
use lib.Seq.{get_or-set_same}
use Rattle.text.specs.Bytes.{Bytes}
use Rattle.text.specs.Choice.{is_some}
use Rattle.text.proofs.Places.{gives_as, at_next, at-bad, then-bad}
use Rattle.json_text.specs.Syntax.{name}
use Rattle.json_text.specs.Strings.{decode}
use Rattle.json_prints.specs.Prints.{meets, print_of}
use Rattle.json_strings.specs.Decoded.{decoded_at}
use Rattle.json_strings.proofs.Names.{name-string}
use Rattle.json_prints.proofs.Prints.{no-print, a-print, meets-among, names-noted}
use Rattle.json_sound.proofs.Names.{name-takes, not-paired, already, no_name}
use Rattle.json_sound.proofs.note_name.Goals as goal

pub print_rest-m-requires : goal.print_rest-m-requires
print_rest-m-requires c =
    let name-start = c.name_start-w in
    record { at_in_bounds = name-start.ensures.1; from_bound = name-start.ensures.2 }

pub returns-then-m-eq65536 : goal.returns-then-m-eq65536
returns-then-m-eq65536 c =
    let args = c.args in
    let name-start = c.name_start-w in
    let name-rest = c.name_rest in
    let s = args.s.now in
    let at = args.at in
    let from = c.in_ok-q.q in
    let g = c.in_ok-q.ensures in
    let h = gives_as (name-rest.ensures at from g name-start.ensures.4) c.in_ok-v.was in
    let a = at_next (name (drop at s)) h in
    let z = name-string s at a.0 _ a.1 from g in
    let w = name-takes s at c.requires.at_in_bounds _ _ g h in
    let p = c.print_rest-m.ensures.value ∙ sym name-start.ensures.3 in record {
      notes = λ ns k. (a.0, a.1, not-paired (decode a.0) ns (ap is_some (sym z) ∙ no-print (decoded_at s from) (sym p ∙ c.if-m-eq65536.true)));
      notes_in = (omega (arith, w.0, w.1), h.within.1);
    }

pub overflow_cast-p : goal.overflow_cast-p
overflow_cast-p c = omega (arith, c.print_rest-m.ensures.upper_bound, c.if-m-eq65536.false)

pub is_noted-requires : goal.is_noted-requires
is_noted-requires c =
    let name-start = c.name_start-w in
    record {
      count_in_bounds = omega (arith, c.requires.count_in_bounds);
      count_in_bounds_2 = omega (arith, c.requires.count_in_bounds_2);
      p_value = c.print_rest-m.ensures.value ∙ sym name-start.ensures.3;
    }

pub returns-then-is_noted : goal.returns-then-is_noted
returns-then-is_noted c =
    let args = c.args in
    let name-start = c.name_start-w in
    let name-rest = c.name_rest in
    let s = args.s.now in
    let at = args.at in
    let from = c.in_ok-q.q in
    let g = c.in_ok-q.ensures in
    let h = gives_as (name-rest.ensures at from g name-start.ensures.4) c.in_ok-v.was in
    let a = at_next (name (drop at s)) h in
    let z = name-string s at a.0 _ a.1 from g in
    let w = name-takes s at c.requires.at_in_bounds _ _ g h in
    let ps = take args.count args.places.now in
    let fs = take args.count args.prints.now in record {
      notes = λ ns k.
          let m = ap (λ (o : Option Bytes). meets s o ps) (sym z) ∙ sym (c.is_noted.ensures ns k) ∙ c.if-is_noted.true in
          (a.0, a.1, already s (decode a.0) ps fs ns k m);
      notes_in = (omega (arith, w.0, w.1), h.within.1);
    }

pub overflow_cast-places : goal.overflow_cast-places
overflow_cast-places c =
    let args = c.args in
    let name-start = c.name_start-w in
    let name-rest = c.name_rest in
    let s = args.s.now in
    let at = args.at in
    let from = c.in_ok-q.q in
    let g = c.in_ok-q.ensures in
    let h = gives_as (name-rest.ensures at from g name-start.ensures.4) c.in_ok-v.was in
    omega (arith, (name-takes s at c.requires.at_in_bounds _ _ g h).1, h.within.1, c.requires.s_len_bound, c.requires.count_in_bounds, c.requires.count_in_bounds_2)

pub returns-in_err-q : goal.returns-in_err-q
unfolding name
returns-in_err-q c =
    let g = then-bad _ c.in_err-q.ensures in
    let z = no_name _ _ _ _ _ _ _ _ _ c.from_residual.ensures.1 (at-bad (name (drop c.args.at c.args.s.now)) g) g.within in
    record { notes = z.0; notes_in = z.1 }

pub returns-in_err-v : goal.returns-in_err-v
returns-in_err-v c =
    let args = c.args in
    let name-start = c.name_start-w in
    let name-rest = c.name_rest in
    let g = c.in_ok-q.ensures in
    let h = gives_as (name-rest.ensures args.at c.in_ok-q.q g name-start.ensures.4) c.in_err-v.was in
    let z = no_name _ _ _ _ _ _ _ _ _ c.from_residual-in_err-v.ensures.1 (at-bad (name (drop args.at args.s.now)) h) h.within in
    record { notes = z.0; notes_in = z.1 }

pub returns : goal.returns
returns c =
    let args = c.args in
    let name-start = c.name_start-w in
    let name-rest = c.name_rest in
    let if1 = c.if-m-eq65536 in
    let s = args.s.now in
    let at = args.at in
    let from = c.in_ok-q.q in
    let g = c.in_ok-q.ensures in
    let h = gives_as (name-rest.ensures at from g name-start.ensures.4) c.in_ok-v.was in
    let a = at_next (name (drop at s)) h in
    let z = name-string s at a.0 _ a.1 from g in
    let w = name-takes s at c.requires.at_in_bounds _ _ g h in
    let p = c.print_rest-m.ensures.value ∙ sym name-start.ensures.3 in
    let ps = take args.count args.places.now in
    let fs = take args.count args.prints.now in
    let n = a-print _ (λ x. if1.false (p ∙ x)) in record {
      notes = λ ns k.
          let m = ap (λ (o : Option Bytes). meets s o ps) (sym n.1) ∙ sym (c.is_noted.ensures ns k) ∙ c.if-is_noted.false in
          let y = names-noted s n.0 args.places.now args.prints.now args.count _ _ ns c.requires.count_in_bounds c.requires.count_in_bounds_2 k n.1 (p ∙ ap (print_of 0) n.1) in
          (a.0, n.0, a.1, sym z ∙ n.1, sym (meets-among s n.0 _ fs ns k) ∙ m, y, ap (decoded_at s) (get_or-set_same args.places.now args.count from 0 c.requires.count_in_bounds) ∙ n.1);
      notes_in = (omega (arith, w.0, w.1), h.within.1);
    }
