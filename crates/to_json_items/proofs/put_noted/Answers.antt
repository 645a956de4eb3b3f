use native.Mathlib.Omega.{arith}
use mathlib.Core.Path.{refl}
use Rattle.to_json_items.proofs.Own.{noted-rows}
use Rattle.to_json_items.proofs.put_noted.Goals as goal

pub note_values-n-requires : goal.note_values-n-requires
note_values-n-requires c = record { readable = c.requires.1; o_len_bound = omega (arith, c.requires.2); o_len_bound_2 = (c.requires.2, refl) }

pub put_own-requires : goal.put_own-requires
put_own-requires c =
    let args = c.args in
    let pre = c.requires in
    let note-values = c.note_values-n in
    (pre.0, pre.1, λ e. noted-rows args.o.now _ _ note-values.result note-values.ensures.1)
