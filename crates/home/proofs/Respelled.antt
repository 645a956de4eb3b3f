-- Refolding, other line ends, and other letter case in names and groups change nothing of what a card says.
use mathlib.Core.Path.{◌≡◌, refl, sym, ap, ◌∙◌}
use mathlib.Core.List.{List, [], ◌∷◌, map, map-map}
use mathlib.Core.Option.{Option, none, some}
use Prim.Native.Nat.{ℕ}
use lib.Dec.{ltb}
use Rattle.text.specs.Choice.{with-some}
use Rattle.text.specs.Bytes.{Bytes, lowered, flat}
use Rattle.text.proofs.Choices.{some_same}
use Rattle.text.proofs.Letters.{lowered-lowered, lowered-empty}
use Rattle.line.specs.Grammar.{Line}
use Rattle.line.specs.Physical.{size_of}
use Rattle.convert.specs.Table.{Slot, slot_of}
use Rattle.convert.specs.Classify.{Class, as-version, as-uid, as-kind, as_dropped, as-full, as_parts, as-entry, as_member, as-kept, Seen, nothing, see, full_class, parts_class, member_class, entry_of, entry_class, classify, Classed, classed_after, classed}
use Rattle.convert.specs.FromCard.{Gives, gives, kept_line, gathered, card_of_classed, card_of_lines}
use Rattle.convert.specs.ToJson.{print_json}
use Rattle.convert.specs.Answers.{yes, card_to_json, card_room, lines_of}
use Rattle.convert.proofs.Cases.{classify-upper, kept-upper}
pub use Rattle.home.specs.Demand2.{lines, lower_group, caseless}
use Rattle.home.specs.Spelled.{Spells}
use Rattle.home.proofs.Accepted.{accepted-card}
use Rattle.home.proofs.Refolded.{spelled-lines}

-- ---- the class of a line

slot-group : (s : Seen) (l : Line) (w : Option Slot) → with-some w (λ w. entry_class s w (lower_group l)) as-kept ≡ with-some w (λ w. entry_class s w l) as-kept
unfolding entry_class entry_of
slot-group s l (some w) = rw (lowered-empty l.group)
slot-group s l none = refl

classify-group : (s : Seen) (l : Line) → classify s (lower_group l) ≡ classify s l
unfolding classify full_class parts_class member_class
classify-group s l = rw (lowered-empty l.group, slot-group s l (slot_of (lowered l.name)))

kept-group : (l : Line) → kept_line (lower_group l) ≡ kept_line l
unfolding kept_line
kept-group l = rw (lowered-lowered l.group)

pub classify-caseless : (s : Seen) (l : Line) → classify s (caseless l) ≡ classify s l
classify-caseless s l = classify-upper s (lower_group l) ∙ classify-group s l

pub kept-caseless : (l : Line) → kept_line (caseless l) ≡ kept_line l
kept-caseless l = kept-upper (lower_group l) ∙ kept-group l

-- ---- what lines give

gives-caseless : (l : Line) (c : Class) → gives (caseless l) c ≡ gives l c
gives-caseless l as-version = refl
gives-caseless l (as-uid v) = refl
gives-caseless l (as-kind v) = refl
gives-caseless l as_dropped = refl
gives-caseless l (as-full v) = refl
gives-caseless l (as_parts ps) = refl
gives-caseless l (as-entry i e) = refl
gives-caseless l (as_member n j) = refl
gives-caseless l as-kept = rw (kept-caseless l)

-- what each line gives, in order
abbrev given : Seen → List Line → List Gives
given s ls = map (λ (c : Classed). gives c.line c.class) (classed_after s ls)

given-caseless : (s : Seen) (ls : List Line) → given s (map caseless ls) ≡ given s ls
unfolding classed_after
given-caseless s [] = refl
given-caseless s (l ∷ ls) =
    rw (classify-caseless s l, gives-caseless l (classify s l)) (ap (λ (x : List Gives). gives l (classify s l) ∷ x) (given-caseless (see s (classify s l)) ls))

gathered-given : {A : Type 0} (f : Gives → List A) (cs : List Classed) → gathered f cs ≡ flat (map f (map (λ (c : Classed). gives c.line c.class) cs))
unfolding gathered
gathered-given f cs = ap flat (sym (map-map f (λ (c : Classed). gives c.line c.class) cs))

gathered-same : {A : Type 0} (f : Gives → List A) (ls ms : List Line) → given nothing ls ≡ given nothing ms → gathered f (classed ls) ≡ gathered f (classed ms)
unfolding classed
gathered-same f ls ms e = gathered-given f (classed_after nothing ls) ∙ ap (λ (x : List Gives). flat (map f x)) e ∙ sym (gathered-given f (classed_after nothing ms))

card-given : (stem : Bytes) (n : ℕ) (ls ms : List Line) → given nothing ls ≡ given nothing ms → card_of_lines stem n ls ≡ card_of_lines stem n ms
unfolding card_of_lines card_of_classed
card-given stem n ls ms e =
    rw (
      gathered-same (λ (g : Gives). g.uid) ls ms e,
      gathered-same (λ (g : Gives). g.kind) ls ms e,
      gathered-same (λ (g : Gives). g.full) ls ms e,
      gathered-same (λ (g : Gives). g.parts) ls ms e,
      gathered-same (λ (g : Gives). g.entry) ls ms e,
      gathered-same (λ (g : Gives). g.member) ls ms e,
      gathered-same (λ (g : Gives). g.kept) ls ms e,
    )

-- lines that differ in letter case alone say the same
pub same-card : (stem : Bytes) (n : ℕ) (ls ms : List Line) → map caseless ls ≡ map caseless ms → card_of_lines stem n ls ≡ card_of_lines stem n ms
same-card stem n ls ms e =
    card-given stem n ls ms (sym (given-caseless nothing ls) ∙ ap (given nothing) e ∙ given-caseless nothing ms)

-- ---- accepted cards

-- Two cards that spell the same lines, folded and ended as they may be, get the same answer, a refusal too, where both or neither are over their room.
pub refolded-same : (stem : Bytes) (n lent : ℕ) (ls : List Bytes) (s t : Bytes) → Spells ls s → Spells ls t → ltb card_room (size_of s) ≡ ltb card_room (size_of t)
    → card_to_json stem n lent s ≡ card_to_json stem n lent t
unfolding card_to_json
refolded-same stem n lent ls s t x y r = rw (spelled-lines x, spelled-lines y, r)

-- Two accepted cards whose lines differ, besides, in the letter case of names and groups have the same JSON, byte for byte; so what comes home is the
-- same too.
pub respelled_same : (stem : Bytes) (n lent lent' : ℕ) (ls ms : List Bytes) (s t j k : Bytes) → Spells ls s → Spells ms t → map caseless (lines_of ls) ≡ map caseless (lines_of ms)
    → card_to_json stem n lent s ≡ yes j → card_to_json stem n lent' t ≡ yes k → j ≡ k
respelled_same stem n lent lent' ls ms s t j k v w e a b =
    let x = accepted-card stem n lent s j a in
    let y = accepted-card stem n lent' t k b in
    let p : ls ≡ x.raw = some_same (sym (spelled-lines v) ∙ x.raws) in
    let q : ms ≡ y.raw = some_same (sym (spelled-lines w) ∙ y.raws) in
    x.result ∙ ap print_json (same-card stem n (lines_of x.raw) (lines_of y.raw)
    (ap (λ (l : List Bytes). map caseless (lines_of l)) (sym p) ∙ e ∙ ap (λ (l : List Bytes). map caseless (lines_of l)) q)) ∙ sym y.result
