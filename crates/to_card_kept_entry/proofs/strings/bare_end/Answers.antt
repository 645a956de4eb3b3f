use native.Mathlib.Omega.{arith}
use mathlib.Core.Path.{sym, subst}
use Rattle.text_words.specs.Words.{bare}
use Rattle.text_words.proofs.Meanings.{bare-is}
use Rattle.text_words.proofs.Runs.{run-chain}
use Rattle.to_card_kept_entry.proofs.strings.Bare.{BareTo, bare-none, bare-more, bare_ends}
use Rattle.to_card_kept_entry.proofs.strings.bare_end.Goals as goal

pub returns-then-e-s : goal.returns-then-e-s
returns-then-e-s c = λ h. absurd (omega (arith, h))

pub returns-then-s-e-eq34 : goal.returns-then-s-e-eq34
returns-then-s-e-eq34 c =
    let s = c.args.s.now in
    let at = c.args.at in
    let inside = c.if-e-s.false in
    λ h. bare_ends s at
    (subst (BareTo s at) (sym c.bare_end-e.ensures) (run-chain (BareTo s at) bare s at (omega (arith, c.bare_end-e.ensures, inside)) (bare-none s at)
    (λ k l m e p. let b = bare-is _ e in bare-more s at p m (b.0, (c.type_inv.s k).fits, b.1, b.2))))
    inside c.if-s-e-eq34.true

pub returns : goal.returns
returns c = λ h. absurd (omega (arith, h))
