use mathlib.Core.Path.{◌≡◌, ◌∙◌}
use Rattle.json_to_card.proofs.Inner.{too_long}
use Rattle.json_to_card.proofs.Serving.{served-no, seen, seen-left}
use Rattle.json_to_card.proofs.json_to_card.Goals.{Joined-json-le-TINY, then-json-le-TINY+in_default, else-json-le-TINY}
use Rattle.json_to_card.proofs.json_to_card.Goals.{Joined-json-le-SMALL, then-json-le-SMALL+in_default-served_in, else-json-le-SMALL}
use Rattle.json_to_card.proofs.json_to_card.Goals as goal

-- what serves nothing leaves the lent output as it was
tiny_left : (c : Joined-json-le-TINY) → c.if-json-le-TINY.out ≡ c.args.out.now
tiny_left c = elim c.if-json-le-TINY.branch [ then-json-le-TINY+in_default w ↦ w.out-is ∙ w.in_default.ensures | else-json-le-TINY w ↦ w.out-is ]

small_left : (c : Joined-json-le-SMALL) → c.if-json-le-SMALL.out ≡ c.if-json-le-TINY.out
small_left c = elim c.if-json-le-SMALL.branch [ then-json-le-SMALL+in_default-served_in w ↦ w.out-is ∙ w.in_default-served_in.ensures | else-json-le-SMALL w ↦ w.out-is ]

pub returns-in-Some : goal.returns-in-Some
returns-in-Some c =
    let a = c.args in
    seen a.json.now a.out.now _ _ c.in-Some.ensures

pub returns-in-Some-served_in : goal.returns-in-Some-served_in
returns-in-Some-served_in c =
    let a = c.args in
    seen-left a.json.now a.out.now _ _ _ (tiny_left (goal.at.returns-in-Some-served_in c).Joined-json-le-TINY) c.in-Some-served_in.ensures

pub returns-then-json-gt-ROOM : goal.returns-then-json-gt-ROOM
returns-then-json-gt-ROOM c =
    let a = c.args in
    let at = goal.at.returns-then-json-gt-ROOM c in
    let e = small_left at.Joined-json-le-SMALL ∙ tiny_left at.Joined-json-le-TINY in
    seen-left a.json.now a.out.now _ _ _ e (served-no c.if-json-le-SMALL.out a.json.now 3 0 (too_long a.json.now c.if-json-gt-ROOM.true))

pub returns : goal.returns
returns c =
    let a = c.args in
    let at = goal.at.returns c in
    let e = small_left at.Joined-json-le-SMALL ∙ tiny_left at.Joined-json-le-TINY in
    seen-left a.json.now a.out.now _ _ _ e c.large.ensures
