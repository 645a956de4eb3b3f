use mathlib.Core.Path.{sym, ap, ◌∙◌}
use mathlib.Core.List.{[], ◌∷◌}
use Prim.Native.Nat.{ℕ}
use borrow.Author.Tests.{eq-eqb, ne_eqb}
use Rattle.output.proofs.Laws.{start, done, puts-as}
use Rattle.json_compact.proofs.Pieces.{piece-space, piece-string, piece_byte, byte-same}
use Rattle.json_compact.proofs.put_piece.Goals as goal

pub returns-then-is_space : goal.returns-then-is_space
returns-then-is_space c = λ w t p. puts-as (piece-space c.args.s.now c.args.at _ c.look-b.ensures.0 w t p (sym c.is_space.ensures ∙ c.if-is_space.true)) (done (start _))

pub returns-then-b-eq-QUOTE : goal.returns-then-b-eq-QUOTE
returns-then-b-eq-QUOTE c =
    let args = c.args in
    let look = c.look-b in
    let is-space = c.is_space in
    let if1 = c.if-is_space in
    let if2 = c.if-b-eq-QUOTE in
    λ w t p. puts-as
    (piece-string args.s.now args.at _ look.ensures.0 w t p (sym is-space.ensures ∙ if1.false) (eq-eqb _ _ if2.true))
    c.put_requoted.ensures

pub returns : goal.returns
returns c =
    let args = c.args in
    let pre = c.requires in
    let look = c.look-b in
    let is-space = c.is_space in
    let if1 = c.if-is_space in
    let if2 = c.if-b-eq-QUOTE in
    λ w t p. puts-as
    (ap (λ (x : ℕ). x ∷ []) (byte-same args.s.now args.at (pre) ∙ sym look.ensures.0) ∙ piece_byte args.s.now args.at _
    look.ensures.0 w t p (sym is-space.ensures ∙ if1.false) (ne_eqb _ _ if2.false))
    c.put_byte.ensures
