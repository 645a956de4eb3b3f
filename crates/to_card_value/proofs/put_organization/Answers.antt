-- No loop: the name, then the units on the room that is left and from the name's column on. `org-line` joins the two as org_in does. 12 comes
-- from a name that is no string (`org-no-name`), from units that are none (`org-no-units`), or where neither has a byte: then nothing of the entry
-- would be left (`org-nothing`). `ink-in`, `part_in` and `part_length` keep the second writer within the first one's rest.
use mathlib.Core.Path.{ap}
use Rattle.to_card_pen.proofs.Refusal.{refused}
use mathlib.Core.Bool.{not}
use Rattle.to_card_value.proofs.Whole.{ink-in, part_length, part_in, org-no-name, org-no-units, org-nothing, org-line}
use mathlib.Core.Path.{◌∙◌}
use native.Mathlib.Omega.{arith}
use Rattle.to_card_value.proofs.put_organization.Goals as goal

pub shape_of-out-in_err-begun : goal.shape_of-out-in_err-begun
shape_of-out-in_err-begun c = c.put_name.ensures.out_len_unchanged

pub returns-in_err-begun : goal.returns-in_err-begun
returns-in_err-begun c =
    let args = c.args in
    let e = refused c.from_residual.result c.from_residual.ensures.0 in
    record {
      put_in = rw e tt;
      out_len_unchanged = c.put_name.ensures.out_len_unchanged;
      tells_org = rw e (org-no-name args.s.now args.name args.units _ args.column _ c.put_name.result c.put_name.ensures.tells_name _ c.in_err-begun.was);
    }

pub slice_bounds-put_units-count : goal.slice_bounds-put_units-count
slice_bounds-put_units-count c = omega (arith, ink-in c.put_name.ensures.ink_in c.in_ok-begun.was, c.put_name.ensures.out_len_unchanged)

pub slice_bounds-put_units-start : goal.slice_bounds-put_units-start
slice_bounds-put_units-start c = omega (arith, ink-in c.put_name.ensures.ink_in c.in_ok-begun.was, c.put_name.ensures.out_len_unchanged)

pub shape_of-out-in_err-rest : goal.shape_of-out-in_err-rest
shape_of-out-in_err-rest c =
    part_length c.in_ok-begun.begun.bytes c.put_name.new.out c.put_units.new.out
    (omega (arith, ink-in c.put_name.ensures.ink_in c.in_ok-begun.was, c.put_name.ensures.out_len_unchanged)) c.put_units.ensures.out_len_unchanged ∙ c.put_name.ensures.out_len_unchanged

pub returns-in_err-rest : goal.returns-in_err-rest
returns-in_err-rest c =
    let args = c.args in
    let e = refused c.from_residual-in_err-rest.result c.from_residual-in_err-rest.ensures.0 in
    record {
      put_in = rw e tt;
      out_len_unchanged = part_length c.in_ok-begun.begun.bytes c.put_name.new.out c.put_units.new.out
          (omega (arith, ink-in c.put_name.ensures.ink_in c.in_ok-begun.was, c.put_name.ensures.out_len_unchanged)) c.put_units.ensures.out_len_unchanged ∙ c.put_name.ensures.out_len_unchanged;
      tells_org = rw e (org-no-units args.s.now args.name args.units _ args.column _ c.put_name.result c.put_name.ensures.tells_name _ _ _ _ c.in_ok-begun.was _
          c.put_units.result c.put_units.ensures.tells_units _ c.in_err-rest.was);
    }

pub shape_of-out-then-not-any : goal.shape_of-out-then-not-any
shape_of-out-then-not-any c =
    part_length c.in_ok-begun.begun.bytes c.put_name.new.out c.put_units.new.out
    (omega (arith, ink-in c.put_name.ensures.ink_in c.in_ok-begun.was, c.put_name.ensures.out_len_unchanged)) c.put_units.ensures.out_len_unchanged ∙ c.put_name.ensures.out_len_unchanged

pub returns-then-not-any : goal.returns-then-not-any
returns-then-not-any c =
    let args = c.args in
    record {
      put_in = tt;
      out_len_unchanged = part_length c.in_ok-begun.begun.bytes c.put_name.new.out c.put_units.new.out
          (omega (arith, ink-in c.put_name.ensures.ink_in c.in_ok-begun.was, c.put_name.ensures.out_len_unchanged)) c.put_units.ensures.out_len_unchanged ∙ c.put_name.ensures.out_len_unchanged;
      tells_org = org-nothing args.s.now args.name args.units _ args.column _ c.put_name.result c.put_name.ensures.tells_name _ _ _ _ c.in_ok-begun.was _
          c.put_units.result c.put_units.ensures.tells_units _ _ _ _ c.in_ok-rest.was _ (ap not c.if-not-any.true);
    }

pub overflow_add-t : goal.overflow_add-t
overflow_add-t c =
    let good = c.well_formed in
    record {
      fits = omega (
        arith,
        part_in c.in_ok-begun.begun.bytes c.put_name.new.out (omega (arith, ink-in c.put_name.ensures.ink_in c.in_ok-begun.was, c.put_name.ensures.out_len_unchanged)) (ink-in c.put_units.ensures.ink_in c.in_ok-rest.was),
        c.put_name.ensures.out_len_unchanged,
        good.0.0,
      );
    }

pub shape_of-out : goal.shape_of-out
shape_of-out c =
    part_length c.in_ok-begun.begun.bytes c.put_name.new.out c.put_units.new.out
    (omega (arith, ink-in c.put_name.ensures.ink_in c.in_ok-begun.was, c.put_name.ensures.out_len_unchanged)) c.put_units.ensures.out_len_unchanged ∙ c.put_name.ensures.out_len_unchanged

pub returns : goal.returns
returns c =
    let args = c.args in
    record {
      put_in = omega (arith, part_in c.in_ok-begun.begun.bytes c.put_name.new.out (omega (arith, ink-in c.put_name.ensures.ink_in c.in_ok-begun.was, c.put_name.ensures.out_len_unchanged)) (ink-in c.put_units.ensures.ink_in c.in_ok-rest.was), c.put_name.ensures.out_len_unchanged);
      out_len_unchanged = part_length c.in_ok-begun.begun.bytes c.put_name.new.out c.put_units.new.out
          (omega (arith, ink-in c.put_name.ensures.ink_in c.in_ok-begun.was, c.put_name.ensures.out_len_unchanged)) c.put_units.ensures.out_len_unchanged ∙ c.put_name.ensures.out_len_unchanged;
      tells_org = org-line args.s.now args.name args.units _ args.column _ c.put_name.result c.put_name.ensures.tells_name _ _ _ _ c.in_ok-begun.was _
          c.put_units.result c.put_units.ensures.tells_units _ _ _ _ c.in_ok-rest.was (ap not c.if-not-any.false);
    }
