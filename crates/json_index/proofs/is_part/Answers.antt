use mathlib.Core.Path.{sym}
use Rattle.json_index.proofs.Together.{byte-same, part-quote, differs-as}
use Rattle.json_index.proofs.is_part.Goals as goal

pub returns-then-differs : goal.returns-then-differs
returns-then-differs c =
    let a = c.args in
    let d = c.differs in
    sym (differs-as a.s.now a.at a.names.now a.a {r = d.result} d.ensures c.if-differs.true a.e c.requires.name_ends)

pub bounds-s-at : goal.bounds-s-at
bounds-s-at c =
    let a = c.args in
    let d = c.differs in
    differs-as a.s.now a.at a.names.now a.a {r = d.result} d.ensures c.if-differs.false

pub returns-then-s-at-eq34 : goal.returns-then-s-at-eq34
returns-then-s-at-eq34 c =
    let a = c.args in
    let d = c.differs in
    let l = differs-as a.s.now a.at a.names.now a.a {r = d.result} d.ensures c.if-differs.false in
    part-quote a.s.now a.at a.names.now a.a a.e _ (byte-same a.s.now a.at l) c.if-s-at-eq34.true c.requires.name_ends.from c.requires.e_in_bounds
