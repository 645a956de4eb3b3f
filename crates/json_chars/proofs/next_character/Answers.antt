use native.Mathlib.Omega.{arith}
use mathlib.Core.Path.{◌≡◌, sym, ap, ◌∙◌}
use mathlib.Core.Bool.{false}
use lib.ListN.{drop}
use borrow.Author.Tests.{le-ltb}
use Rattle.text.specs.Places.{GivesT}
use Rattle.text.specs.Places.{Read}
use Rattle.std.specs.Prelude.{Result, ℕ, Err}
use Rattle.text.specs.Places.{Turn}
use Rattle.std.proofs.Common.{Break}
use Rattle.text.proofs.Characters.{lead_high}
use Rattle.text.proofs.Places.{Between-in, gives_as}
use Rattle.utf8.specs.Due.{due_of}
use Rattle.json_text.specs.Syntax.{is_lead, character}
use Rattle.json_escapes.specs.declared.Value.{Value}
use Rattle.json_escapes.proofs.Laws.{tells_as, place_of, by_place}
use Rattle.json_chars.proofs.Laws.{turn_of, by-lead, char-end, char-escape, char-plain, char-wide, char-none}
use Rattle.json_chars.proofs.next_character.Goals as goal
use Rattle.json_chars.proofs.next_character.Goals.{After-escape_at, After-wide_end, Else-in_range, Start}

-- the character at the place, read as this turn
abbrev Read-as : Start → Turn → Type 0
Read-as c w = GivesT c.args.s.now c.args.at (character (drop c.args.at c.args.s.now)) w

pub returns-then-b-eq-QUOTE : goal.returns-then-b-eq-QUOTE
returns-then-b-eq-QUOTE c = char-end _ _ c.look-b.result c.look-b.ensures.0 c.if-b-eq-QUOTE.true (omega arith)

-- what stood after a backslash
escaped : (c : After-escape_at) {r : Result Value ℕ} → c.escape_at.result ≡ r → Read-as (goal.at.After-escape_at c).Start (turn_of (place_of r))
escaped c q = char-escape _ _ c.look-b.result c.look-b.ensures.0 c.if-b-eq-QUOTE.false c.if-b-eq-BACKSLASH.true _ (by_place _ (tells_as c.escape_at.ensures q))

pub returns-in-Ok : goal.returns-in-Ok
returns-in-Ok c = escaped (goal.at.returns-in-Ok c).After-escape_at c.in-Ok.is

pub returns-in-Err : goal.returns-in-Err
returns-in-Err c = escaped (goal.at.returns-in-Err c).After-escape_at c.in-Err.is

pub returns-then-in_range : goal.returns-then-in_range
returns-then-in_range c =
    let t = sym c.in_range.ensures ∙ c.if-in_range.true in
    let l = Between-in 32 127 _ t in
    char-plain _ _ c.look-b.result c.look-b.ensures.0 c.if-b-eq-QUOTE.false c.if-b-eq-BACKSLASH.false t (omega arith)

-- no character starts here
none : (c : Else-in_range) → is_lead c.look-b.result ≡ false → Read-as (goal.at.Else-in_range c).Start (Break (Err c.args.at))
none c h = char-none _ _ c.look-b.result c.look-b.ensures.0 c.if-b-eq-QUOTE.false c.if-b-eq-BACKSLASH.false (sym c.in_range.ensures ∙ c.if-in_range.false) h c.requires

pub returns-then-b-gt255 : goal.returns-then-b-gt255
returns-then-b-gt255 c = none (goal.at.returns-then-b-gt255 c).Else-in_range (by-lead _ (sym (lead_high _ (le-ltb _ 256 c.if-b-gt255.true))))

-- what stood after the first byte of a character of several
wide : (c : After-wide_end) {r : Read} → c.wide_end.result ≡ r → Read-as (goal.at.After-wide_end c).Start (turn_of r)
wide c q =
    let look = c.look-b in
    let several = sym c.in_range.ensures ∙ c.if-in_range.false in
    let due = sym (ap due_of c.in-Byte.is) ∙ c.due_after.ensures in
    char-wide _ _ look.result look.ensures.0 c.if-b-eq-QUOTE.false c.if-b-eq-BACKSLASH.false
    several due _ (gives_as c.wide_end.ensures q)

pub returns-in-Ok-wide_end : goal.returns-in-Ok-wide_end
returns-in-Ok-wide_end c = wide (goal.at.returns-in-Ok-wide_end c).After-wide_end c.in-Ok-wide_end.is

pub returns-in-Err-wide_end : goal.returns-in-Err-wide_end
returns-in-Err-wide_end c = wide (goal.at.returns-in-Err-wide_end c).After-wide_end c.in-Err-wide_end.is

pub returns-in-Start : goal.returns-in-Start
returns-in-Start c = none (goal.at.returns-in-Start c).Else-in_range (by-lead _ (sym (ap due_of c.in-Start.is) ∙ c.due_after.ensures))

pub returns-in-Broken : goal.returns-in-Broken
returns-in-Broken c = none (goal.at.returns-in-Broken c).Else-in_range (by-lead _ (sym (ap due_of c.in-Broken.is) ∙ c.due_after.ensures))
