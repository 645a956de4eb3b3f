use native.Mathlib.Omega.{arith}
use mathlib.Core.Path.{◌∙◌}
use mathlib.Core.Bool.{false}
use lib.ListN.{drop}
use Rattle.json_skip.specs.Skip.{quoted, Leaves}
use Rattle.json_access.specs.Access.{TellsHead}
use Rattle.json_access.proofs.Laws.{place_in, name-is, value-begins, head-member}
use Rattle.json_index.proofs.member_called.Goals as goal

pub string_stop-z-requires : goal.string_stop-z-requires
string_stop-z-requires c =
    let a = c.args in
    let p = place_in a.s.now a.at _ _ c.mark.ensures in
    c.called-c.ensures.skims.within (omega (arith, p.1, c.place-q.ensures))

pub skip_space-a-requires : goal.skip_space-a-requires
skip_space-a-requires c =
    let q = place_in c.args.s.now c.string_stop-z.result _ _ c.mark-2.ensures in
    omega (arith, q.1, c.place-v.ensures)

pub returns : goal.returns
returns c =
    let a = c.args in
    let s = a.s.now in
    let m = c.mark.ensures in
    let first = c.place-q.ensures in
    let z = c.string_stop-z in
    let colon = c.mark-2.ensures in
    let second = c.place-v.ensures in
    let start = c.skip_space-a.ensures in
    let p = place_in s a.at _ _ m in
    let q = place_in s z.result _ _ colon in
    let leaves : Leaves s c.place-q.result (quoted false (drop c.place-q.result s)) z.result = record {
      is = c.called-c.ensures.skims.same ∙ z.ensures.is;
      from = omega (arith, c.called-c.ensures.skims.from, z.ensures.from);
      to = z.ensures.to;
    } in
    let head : TellsHead s a.at (record { name = c.place-q.result; start = c.skip_space-a.result }) = λ n t e. (
      name-is _ _ m n t e first,
      value-begins _ _ m n t e first _ leaves _ colon second start,
    ) in record {
      inside = record {
        from = λ l. omega (arith, p.0, first, c.called-c.ensures.skims.from, z.ensures.from, q.0, second, start.from);
        ordered = c.skip_value-e.ensures.lower_bound.0 start.to;
        end-in = c.skip_value-e.ensures.lower_bound.1;
      };
      lists = (
        c.place-q.result,
        head-member a.depth s a.at (record { name = c.place-q.result; start = c.skip_space-a.result }) _ head start.to c.skip_value-e.ensures.lower_bound.1 (c.skip_value-e.ensures.skips a.depth),
        c.called-c.ensures.number_value,
      );
    }
