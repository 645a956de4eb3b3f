use mathlib.Core.Path.{subst}
use Rattle.table_entry.specs.Key.{EntryKey}
use Rattle.class_line.proofs.Answers.{of-bad, of-free, of-keyed}
use Rattle.class_line.proofs.map_class.Goals as goal

pub returns-in-Bad : goal.returns-in-Bad
returns-in-Bad c =
    of-bad c.args.s.now c.args.t.now
    c.args.i
    c.requires.1 c.types_of-types.result
    c.form_of-form.result c.types_of-types.ensures c.form_of-form.ensures.0 (subst (EntryKey
    c.args.s.now
    c.args.t.now c.types_of-types.result
    c.form_of-form.result) c.in-Bad.is c.entry_key.ensures)

pub returns-in-Free : goal.returns-in-Free
returns-in-Free c =
    of-free c.args.s.now c.args.t.now
    c.args.i
    c.requires.1 c.types_of-types.result
    c.form_of-form.result c.types_of-types.ensures c.form_of-form.ensures.0 (subst (EntryKey
    c.args.s.now
    c.args.t.now c.types_of-types.result
    c.form_of-form.result) c.in-Free.is c.entry_key.ensures)

pub returns-in-At : goal.returns-in-At
returns-in-At c =
    of-keyed c.args.s.now c.args.t.now
    c.args.i
    c.requires.1 c.types_of-types.result
    c.form_of-form.result c.types_of-types.ensures
    c.form_of-form.ensures.0 c.in-At.a c.in-At.b (subst (EntryKey
    c.args.s.now
    c.args.t.now c.types_of-types.result
    c.form_of-form.result) c.in-At.is c.entry_key.ensures)
