use mathlib.Core.Path.{sym}
use Rattle.convert_entry.proofs.Tests.{tel-short, tel-long}
use Rattle.convert_entry.proofs.begins_tel.Goals as goal

pub returns-then-v-lt4 : goal.returns-then-v-lt4
returns-then-v-lt4 c = sym (tel-short _ c.if-v-lt4.true)

pub returns : goal.returns
returns c = sym (tel-long _ c.if-v-lt4.false)
