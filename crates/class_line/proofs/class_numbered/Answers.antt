use mathlib.Core.Path.{◌≡◌, sym, ◌∙◌}
use Prim.Native.Nat.{ℕ, ◌≤◌, ◌+◌, ◌-◌}
use native.Mathlib.Omega.{arith}
use Rattle.class_line.proofs.Answers.{of_other, of-version, of-uid, of-kind}
use Rattle.class_line.proofs.Lines.{third}
use Rattle.class_line.proofs.class_numbered.Goals as goal

above : (k : ℕ) → 16 ≤ k → k ≡ 16 + (k - 16)
above k h = omega arith

pub map_class-requires : goal.map_class-requires
map_class-requires c = (c.requires.0, c.requires.2 ∙ above c.args.k c.if-k-ge-OF_MAPS.true)

pub returns-then-k-ge-OF_MAPS : goal.returns-then-k-ge-OF_MAPS
returns-then-k-ge-OF_MAPS c = c.map_class.ensures c.args.full c.args.parts

pub returns-then-k-eq-OTHER : goal.returns-then-k-eq-OTHER
returns-then-k-eq-OTHER c =
    of_other c.args.s.now
    c.args.t.now
    (c.requires.2 ∙ c.if-k-eq-OTHER.true)
    c.args.full
    c.args.parts

pub fn_class-requires : goal.fn_class-requires
fn_class-requires c = (c.requires.0, c.requires.2 ∙ c.if-k-eq-FN.true)

pub returns-then-k-eq-FN : goal.returns-then-k-eq-FN
returns-then-k-eq-FN c = c.fn_class.ensures c.args.parts

pub n_class-requires : goal.n_class-requires
n_class-requires c = (c.requires.0, c.requires.2 ∙ c.if-k-eq-N.true)

pub returns-then-k-eq-N : goal.returns-then-k-eq-N
returns-then-k-eq-N c = c.n_class.ensures c.args.full

pub jsprop_class-requires : goal.jsprop_class-requires
jsprop_class-requires c = (
  c.requires.0,
  c.requires.1,
  c.requires.2 ∙ c.if-k-eq-JSPROP.true,
)

pub returns-then-k-eq-JSPROP : goal.returns-then-k-eq-JSPROP
returns-then-k-eq-JSPROP c =
    c.jsprop_class.ensures
    c.args.full
    c.args.parts

pub returns-then-k-eq-VERSION : goal.returns-then-k-eq-VERSION
returns-then-k-eq-VERSION c =
    of-version c.args.s.now
    c.args.t.now
    (c.requires.2 ∙ c.if-k-eq-VERSION.true)
    c.args.full
    c.args.parts

pub returns-then-k-eq-UID : goal.returns-then-k-eq-UID
returns-then-k-eq-UID c =
    of-uid c.args.s.now
    c.args.t.now
    (c.requires.2 ∙ c.if-k-eq-UID.true)
    c.args.full
    c.args.parts

pub returns : goal.returns
returns c =
    let known = c.requires.2 in
    let k = c.args.k in
    let kind = third _ k (sym known) (omega (arith, c.if-k-ge-OF_MAPS.false)) c.if-k-eq-OTHER.false c.if-k-eq-FN.false c.if-k-eq-N.false c.if-k-eq-JSPROP.false c.if-k-eq-VERSION.false c.if-k-eq-UID.false in
    of-kind c.args.s.now
    c.args.t.now (known ∙ kind)
    c.args.full
    c.args.parts
