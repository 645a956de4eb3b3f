use native.Mathlib.Omega.{arith}
use mathlib.Core.Path.{sym, ap, ◌∙◌}
use Rattle.text.proofs.Places.{inside-at}
use Prim.Native.Nat.{◌+◌}
use Rattle.text.specs.Reader.{under}
use Rattle.json_text.specs.Grammar.{is_short}
use Rattle.json_text.proofs.Fine.{short-256}
use Rattle.json_escapes.proofs.Laws.{tells-handed, esc-u, esc-short, esc-none, short-in}
use Rattle.json_escapes.proofs.escape_at.Goals as goal

pub returns-in_err-v : goal.returns-in_err-v
returns-in_err-v c =
    let look = c.look-b in
    let w = c.in_err-v.ensures in
    tells-handed c.from_residual.ensures.1 record {
      is = esc-u c.args.s.now c.args.at look.result look.ensures.0 c.if-b-eq-LETTER_U.true ∙ ap (under (λ v. 256 + v)) w.is;
      within = omega (arith, w.within);
    }

pub returns-then-b-eq-LETTER_U : goal.returns-then-b-eq-LETTER_U
returns-then-b-eq-LETTER_U c =
    let look = c.look-b in
    let w = c.in_ok-v.ensures in
    record {
      is = esc-u c.args.s.now c.args.at look.result look.ensures.0 c.if-b-eq-LETTER_U.true ∙ ap (under (λ v. 256 + v)) w.is;
      within = omega (arith, w.within);
    }

pub short_of-requires : goal.short_of-requires
short_of-requires c = short-in _ (sym c.is_short.ensures ∙ c.if-is_short.true)

pub returns-then-is_short : goal.returns-then-is_short
returns-then-is_short c =
    let args = c.args in
    let pre = c.requires in
    let look = c.look-b in
    let if1 = c.if-b-eq-LETTER_U in
    let t = sym c.is_short.ensures ∙ c.if-is_short.true in let l = inside-at is_short args.s.now args.at
    look.result short-256 (pre) look.ensures.0 t in record {
      is = esc-short args.s.now args.at look.result look.ensures.0 if1.false t _ c.short_of.ensures.0;
      within = omega
          (arith, c.short_of.ensures.1);
    }

pub returns : goal.returns
returns c =
    let args = c.args in
    let look = c.look-b in
    record {
      is = esc-none args.s.now args.at look.result look.ensures.0 c.if-b-eq-LETTER_U.false
          (sym c.is_short.ensures ∙ c.if-is_short.false);
      within = omega arith;
    }
