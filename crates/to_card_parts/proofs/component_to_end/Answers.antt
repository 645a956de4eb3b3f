use native.Mathlib.Omega.{arith}
use Rattle.to_card_pen.proofs.Refusal.{refused}
use mathlib.Core.Path.{ap, subst}
use mathlib.Core.Bool.{not}
use lib.ListN.{length}
use borrow.Author.Tests.{eq-eqb, ne_eqb}
use Rattle.to_card_parts.specs.Parts.{KindIn, TellsComponent}
use Rattle.to_card_parts.proofs.Components.{clear-three, names-are, object-not, object-strange, object_of}
use Rattle.to_card_parts.proofs.component_to_end.Goals as goal

pub index_to_end-end-requires : goal.index_to_end-end-requires
index_to_end-end-requires c = record { at_in_bounds = c.requires; names_in_bounds = omega (arith, ap length names-are); clear = clear-three }

pub returns-then-end-eq0 : goal.returns-then-end-eq0
returns-then-end-eq0 c =
    let args = c.args in
    record { kind_in = tt; tells_component = object-not args.s.now args.at _ _ c.index_to_end-end.ensures.indexes (ap not (eq-eqb _ 0 c.if-end-eq0.true)); end_in = tt }

pub returns-then-other-ne0 : goal.returns-then-other-ne0
returns-then-other-ne0 c =
    let args = c.args in
    record {
      kind_in = tt;
      tells_component = object-strange args.s.now args.at _ _ c.index_to_end-end.ensures.indexes (ap not (ne_eqb _ 0 c.if-end-eq0.false)) c.if-other-ne0.true;
      end_in = tt;
    }

pub returns-in_err-found : goal.returns-in_err-found
returns-in_err-found c =
    let e = refused c.from_residual.result c.from_residual.ensures.0 in
    let args = c.args in
    let if1 = c.if-end-eq0 in
    let if2 = c.if-other-ne0 in
    record {
      kind_in = rw e tt;
      tells_component = rw e (subst (TellsComponent args.s.now args.at) c.in_err-found.was
          (object_of args.s.now args.at _ _ c.index_to_end-end.ensures.indexes (ap not (ne_eqb _ 0 if1.false)) if2.false c.component_of.result c.component_of.ensures.tells_slots));
      end_in = rw e tt;
    }

pub returns : goal.returns
returns c =
    let args = c.args in
    let if1 = c.if-end-eq0 in
    let if2 = c.if-other-ne0 in
    let told = object_of args.s.now args.at _ _ c.index_to_end-end.ensures.indexes (ap not (ne_eqb _ 0 if1.false)) if2.false c.component_of.result c.component_of.ensures.tells_slots in
    record {
      kind_in = subst KindIn c.in_ok-found.was c.component_of.ensures.kind_in;
      tells_component = subst (TellsComponent args.s.now args.at) c.in_ok-found.was told;
      end_in = c.index_to_end-end.ensures.value_ends if1.false;
    }
