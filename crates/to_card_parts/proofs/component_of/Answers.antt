use native.Mathlib.Omega.{arith}
use Rattle.to_card_parts.proofs.Components.{kinds-are, slots-kind, slots-value, slots-no-kind, slots-strange, slots-no-value, slots-of}
use Rattle.to_card_parts.proofs.component_of.Goals as goal

pub returns-then-kind-eq0 : goal.returns-then-kind-eq0
returns-then-kind-eq0 c = record { kind_in = tt; tells_slots = slots-kind c.args.s.now c.args.kind c.args.value c.if-kind-eq0.true }

pub returns-then-value-eq0 : goal.returns-then-value-eq0
returns-then-value-eq0 c = record { kind_in = tt; tells_slots = slots-value c.args.s.now c.args.kind c.args.value c.if-value-eq0.true }

pub returns-then-q-eq0 : goal.returns-then-q-eq0
returns-then-q-eq0 c =
    let args = c.args in
    let if1 = c.if-kind-eq0 in
    let string-in = c.string_in-q in
    record { kind_in = tt; tells_slots = slots-no-kind args.s.now args.kind args.value if1.false string-in.result string-in.ensures c.if-q-eq0.true }

pub returns-then-k-ge-COUNT : goal.returns-then-k-ge-COUNT
returns-then-k-ge-COUNT c =
    let args = c.args in
    let if1 = c.if-kind-eq0 in
    let string-in = c.string_in-q in
    let if3 = c.if-q-eq0 in
    let which-name = c.which_name-k in record {
      kind_in = tt;
      tells_slots = slots-strange args.s.now args.kind args.value if1.false string-in.result string-in.ensures if3.false which-name.result _ kinds-are which-name.ensures c.if-k-ge-COUNT.true;
    }

pub returns-then-v-eq0 : goal.returns-then-v-eq0
returns-then-v-eq0 c =
    let args = c.args in
    let if1 = c.if-kind-eq0 in
    let if2 = c.if-value-eq0 in
    let string-in = c.string_in-q in
    let if3 = c.if-q-eq0 in
    let which-name = c.which_name-k in
    let string-in2 = c.string_in-v in record {
      kind_in = tt;
      tells_slots = slots-no-value args.s.now args.kind args.value if1.false string-in.result string-in.ensures if3.false which-name.result _ kinds-are which-name.ensures (omega (arith, c.if-k-ge-COUNT.false)) if2.false string-in2.result string-in2.ensures c.if-v-eq0.true;
    }

pub returns : goal.returns
returns c =
    let args = c.args in
    let if1 = c.if-kind-eq0 in
    let if2 = c.if-value-eq0 in
    let string-in = c.string_in-q in
    let if3 = c.if-q-eq0 in
    let which-name = c.which_name-k in
    let if4 = c.if-k-ge-COUNT in
    let string-in2 = c.string_in-v in record {
      kind_in = omega (arith, if4.false);
      tells_slots = slots-of args.s.now args.kind args.value if1.false string-in.result string-in.ensures if3.false which-name.result _ kinds-are which-name.ensures (omega (arith, if4.false)) if2.false string-in2.result string-in2.ensures c.if-v-eq0.false;
    }
