use native.Mathlib.Omega.{arith}
use mathlib.Core.Path.{ap, ◌∙◌}
use lib.ListN.{length}
use Rattle.to_card_kept_entry.proofs.strings.Values.{rows_in}
use Rattle.to_card_kept_entry.proofs.entry.Final.{headed-length}
use Rattle.to_card_kept_entry.proofs.fill.Rest.{rest-untyped, rest-valueless, rest-whole}
use Rattle.to_card_kept_entry.proofs.fill.put_rest.Goals as goal

pub returns-in_default : goal.returns-in_default
returns-in_default c =
    let a = c.args in
    record {
      bounds = c.put_type.ensures.bounds;
      fills_rest = rest-untyped a.b.now a.t.now a.f a.e a.s.now a.kind a.value c.put_type.result _ _ c.put_type.ensures.puts_type c.in_default.is;
    }

pub put_string-requires : goal.put_string-requires
put_string-requires c =
    let g = rows_in c.put_type.ensures.rows_in c.in-Some.is in
    omega (arith, g.1, c.put_type.ensures.bounds.long)

pub returns-in_default-put_string : goal.returns-in_default-put_string
returns-in_default-put_string c =
    let a = c.args in
    record {
      bounds = record { long = c.put_string.ensures.b_len_unchanged ∙ c.put_type.ensures.bounds.long; wide = c.put_type.ensures.bounds.wide };
      fills_rest = rest-valueless a.b.now a.t.now a.f a.e a.s.now a.kind a.value c.put_type.result _ _ c.put_type.ensures.puts_type _ _ c.in-Some.is c.put_string.result _ c.put_string.ensures.puts_at c.in_default-put_string.is;
    }

pub returns : goal.returns
returns c =
    let a = c.args in
    let h = c.put_head.ensures in
    let wide = c.put_type.ensures.bounds.wide in
    let g = rows_in c.put_type.ensures.rows_in c.in-Some.is in record {
      bounds = record { long = c.put_string.ensures.b_len_unchanged ∙ c.put_type.ensures.bounds.long; wide = ap length h ∙ headed-length _ _ _ _ _ _ _ ∙ wide };
      fills_rest = rest-whole a.b.now a.t.now a.f a.e a.s.now a.kind a.value c.put_type.result _ _ c.put_type.ensures.puts_type _ _ c.in-Some.is c.put_string.result _ c.put_string.ensures.puts_at c.requires.end_in_bounds c.requires.e_le_end (omega (arith, wide, c.requires.table_length_in_bounds)) g.2 _ c.in-Some-put_string.is h;
    }
