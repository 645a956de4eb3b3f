-- The written JSPROP lines: each is read as its member.
use mathlib.Core.Path.{◌≡◌, refl, ◌∙◌}
use mathlib.Core.Bool.{true, false, ◌&&◌, ◌||◌, not}
use mathlib.Core.List.{List, [], ◌∷◌, map}
use Rattle.text.specs.Bytes.{Bytes, ascii, any, empty, same, among, distinct}
use Rattle.text.specs.Utf8.{utf8}
use Rattle.text.proofs.Cases.{by_bool, and_left, and_right, not-true, not-both}
use Rattle.text.proofs.Same.{same_true, among-head, among_later}
use Rattle.json_text.specs.Tree.{Member, member, name_of, value_of}
use Rattle.json_text.specs.Compact.{compact}
use Rattle.line.specs.Text.{write_text}
use Rattle.line.specs.Grammar.{param}
use Rattle.convert.specs.Table.{reserved}
use Rattle.convert.specs.Value.{filled}
use Rattle.convert.specs.Pointer.{pointer}
use Rattle.convert.specs.Classify.{as_member, Seen, member_class, classify}
use Rattle.convert.specs.FromCard.{Gives, gives}
use Rattle.convert.specs.ToCard.{member_line}
use Rattle.convert.proofs.Written.{member-class, member-written}
use Rattle.home.proofs.Proper.{ProperMember, ProperMembers}
use Rattle.home.proofs.MapLines.{or-shift}
use Rattle.home.proofs.Given.{plus, Section, no_lines, one_line, both-sections, section-to}

abbrev pub with_members : Seen → List Bytes → Seen
with_members s ns = record { full = s.full; parts = s.parts; ids = s.ids; members = ns }

abbrev pub member_gives : List Member → Gives
member_gives ms = record { uid = []; kind = []; full = []; parts = []; entry = []; member = ms; kept = [] }

-- the last one stands first
unfoldable pub names_onto : List Member → List Bytes → List Bytes
names_onto [] ns = ns
names_onto (m ∷ ms) ns = names_onto ms (name_of m ∷ ns)

pub among-onto : (n : Bytes) (ms : List Member) (ns : List Bytes) → among n (names_onto ms ns) ≡ among n (map name_of ms) || among n ns
unfolding names_onto among any
among-onto n [] ns = refl
among-onto n (m ∷ ms) ns = among-onto n ms (name_of m ∷ ns) ∙ or-shift (same n (name_of m)) (among n (map name_of ms)) (among n ns)

by_name : (s : Seen) (m : Member) → classify s (member_line m) ≡ member_class s (member_line m)
unfolding member_line
by_name s (member n j) = member-class s (param (ascii "jsptr") (pointer n ∷ []) ∷ []) (write_text false (compact j))

one-member : (s : Seen) (m : Member) → ProperMember m → among (name_of m) s.members ≡ false → member_class s (member_line m) ≡ as_member (name_of m) (value_of m)
one-member s (member n j) g u =
    let h = and_left (filled n && not (among n reserved)) (utf8 n) g.name in
    member-written s n j (not-true (empty n) (and_left (filled n) _ h)) (not-true (among n reserved) (and_right (filled n) _ h)) u g.value

gives-member : (m : Member) → gives (member_line m) (as_member (name_of m) (value_of m)) ≡ member_gives (m ∷ [])
gives-member (member n j) = refl

-- none of the names to come is there
abbrev Unused : List Bytes → List Bytes → Type 0
Unused ms ns = (n : Bytes) → among n ms ≡ true → among n ns ≡ false

still-unused : (m : Bytes) (ms ns : List Bytes) → not (among m ms) ≡ true → Unused (m ∷ ms) ns → Unused ms (m ∷ ns)
unfolding among any
still-unused m ms ns d u n h =
    let e : same n m ≡ false = by_bool (same n m) (λ e. not-both (rw (same_true n m e) at h) (not-true (among m ms) d)) (λ e. e) in
    rw (e, u n (among_later n m ms h))

pub members-section : (s : Seen) (ms : List Member) → ProperMembers ms → distinct (map name_of ms) ≡ true → Unused (map name_of ms) s.members
    → Section s (map member_line ms) (member_gives ms) (with_members s (names_onto ms s.members))
unfolding names_onto distinct plus
members-section s [] g d u = no_lines s
members-section s (m ∷ ms) g d u =
    let c : classify s (member_line m) ≡ as_member (name_of m) (value_of m) = by_name s m ∙ one-member s m g.0 (u (name_of m) (among-head (name_of m) (map name_of ms))) in
    both-sections (section-to (one_line s (member_line m) (as_member (name_of m) (value_of m)) c) (gives-member m) refl)
    (members-section (with_members s (name_of m ∷ s.members)) ms g.1 (and_right (not (among (name_of m) (map name_of ms))) _ d) (still-unused (name_of m) (map name_of ms) s.members (and_left _ _ d) u))
