-- What lines give to the model and leave behind, for lists put together of sections.
use mathlib.Core.Path.{◌≡◌, refl, sym, ap, ap₂, ◌∙◌}
use mathlib.Core.List.{List, [], ◌∷◌, ◌++◌, map, append_assoc, append-nil}
use Prim.Native.Nat.{ℕ}
use lib.Dec.{eqb}
use Rattle.text.specs.Bytes.{flat}
use Rattle.text.proofs.Cases.{by_bool}
use Rattle.line.specs.Grammar.{Line}
use Rattle.line.proofs.Lines.{upper_line}
use Rattle.convert.specs.Classify.{Class, as-version, as-uid, as-kind, as_dropped, as-full, as_parts, as-entry, as_member, as-kept, Seen, see, classify, classed_after}
use Rattle.convert.specs.FromCard.{Gives, gives, gathered, in_map, Placed, placed}
use Rattle.convert.proofs.Cases.{classify-upper, kept-upper}
use Rattle.convert.specs.Model.{Entry}

abbrev pub no_gives : Gives
no_gives = record { uid = []; kind = []; full = []; parts = []; entry = []; member = []; kept = [] }

unfoldable pub plus : Gives → Gives → Gives
plus a b =
    record {
      uid = a.uid ++ b.uid;
      kind = a.kind ++ b.kind;
      full = a.full ++ b.full;
      parts = a.parts ++ b.parts;
      entry = a.entry ++ b.entry;
      member = a.member ++ b.member;
      kept = a.kept ++ b.kept;
    }

pub plus_assoc : (a b c : Gives) → plus (plus a b) c ≡ plus a (plus b c)
unfolding plus
plus_assoc a b c =
    rw (
      append_assoc a.uid b.uid c.uid,
      append_assoc a.kind b.kind c.kind,
      append_assoc a.full b.full c.full,
      append_assoc a.parts b.parts c.parts,
      append_assoc a.entry b.entry c.entry,
      append_assoc a.member b.member c.member,
      append_assoc a.kept b.kept c.kept,
    )

pub none-plus : (g : Gives) → plus no_gives g ≡ g
unfolding plus
none-plus g = refl

pub plus_none : (g : Gives) → plus g no_gives ≡ g
unfolding plus
plus_none g = rw (append-nil g.uid, append-nil g.kind, append-nil g.full, append-nil g.parts, append-nil g.entry, append-nil g.member, append-nil g.kept)

-- ---- what is given by all lines, and seen after them

unfoldable pub given : Seen → List Line → Gives
given s [] = no_gives
given s (l ∷ ls) = plus (gives l (classify s l)) (given (see s (classify s l)) ls)

unfoldable pub after : Seen → List Line → Seen
after s [] = s
after s (l ∷ ls) = after (see s (classify s l)) ls

pub given-none : (s : Seen) → given s [] ≡ no_gives
unfolding given
given-none s = refl

pub after_none : (s : Seen) → after s [] ≡ s
unfolding after
after_none s = refl

pub given-line : (s : Seen) (l : Line) (ls : List Line) (c : Class) → classify s l ≡ c → given s (l ∷ ls) ≡ plus (gives l c) (given (see s c) ls)
unfolding given
given-line s l ls c e = rw e

pub after_line : (s : Seen) (l : Line) (ls : List Line) (c : Class) → classify s l ≡ c → after s (l ∷ ls) ≡ after (see s c) ls
unfolding after
after_line s l ls c e = rw e

pub after-append : (s : Seen) (ls ms : List Line) → after s (ls ++ ms) ≡ after (after s ls) ms
unfolding after
after-append s [] ms = refl
after-append s (l ∷ ls) ms = after-append (see s (classify s l)) ls ms

pub given-append : (s : Seen) (ls ms : List Line) → given s (ls ++ ms) ≡ plus (given s ls) (given (after s ls) ms)
unfolding given after
given-append s [] ms = sym (none-plus (given s ms))
given-append s (l ∷ ls) ms =
    ap (plus (gives l (classify s l))) (given-append (see s (classify s l)) ls ms)
    ∙ sym (plus_assoc (gives l (classify s l)) (given (see s (classify s l)) ls) (given (after (see s (classify s l)) ls) ms))

-- ---- a section: what it gives, and what is seen after it

pub record Section (s : Seen) (ls : List Line) (g : Gives) (t : Seen) : Type 0 where
  pub gives : given s ls ≡ g
  pub leaves : after s ls ≡ t

pub no_lines : (s : Seen) → Section s [] no_gives s
no_lines s = record { gives = given-none s; leaves = after_none s }

pub one_line : (s : Seen) (l : Line) (c : Class) → classify s l ≡ c → Section s (l ∷ []) (gives l c) (see s c)
one_line s l c e =
    record { gives = given-line s l [] c e ∙ ap (plus (gives l c)) (given-none (see s c)) ∙ plus_none (gives l c); leaves = after_line s l [] c e ∙ after_none (see s c) }

pub both-sections : {s t u : Seen} {ls ms : List Line} {g h : Gives} → Section s ls g t → Section t ms h u → Section s (ls ++ ms) (plus g h) u
both-sections {s} {t} {u} {ls} {ms} {g} {h} a b =
    record {
      gives = given-append s ls ms ∙ ap₂ plus a.gives (ap (λ x. given x ms) a.leaves ∙ b.gives);
      leaves = after-append s ls ms ∙ ap (λ x. after x ms) a.leaves ∙ b.leaves;
    }

pub section-to : {s t u : Seen} {ls : List Line} {g h : Gives} → Section s ls g t → g ≡ h → t ≡ u → Section s ls h u
section-to a e f = record { gives = a.gives ∙ e; leaves = a.leaves ∙ f }

-- ---- upper-case names change nothing

gives-upper : (l : Line) (c : Class) → gives (upper_line l) c ≡ gives l c
gives-upper l as-version = refl
gives-upper l (as-uid v) = refl
gives-upper l (as-kind v) = refl
gives-upper l as_dropped = refl
gives-upper l (as-full v) = refl
gives-upper l (as_parts ps) = refl
gives-upper l (as-entry i e) = refl
gives-upper l (as_member n j) = refl
gives-upper l as-kept = rw (kept-upper l)

-- a part of the model takes what is given to it
pub gathered-given : {A : Type 0} (f : Gives → List A) → f no_gives ≡ [] → ((a b : Gives) → f (plus a b) ≡ f a ++ f b) → (s : Seen) (ls : List Line)
    → gathered f (classed_after s (map upper_line ls)) ≡ f (given s ls)
unfolding gathered classed_after flat given
gathered-given f z p s [] = sym z
gathered-given f z p s (l ∷ ls) =
    rw (classify-upper s l, gives-upper l (classify s l), p (gives l (classify s l)) (given (see s (classify s l)) ls))
    (ap (λ x. f (gives l (classify s l)) ++ x) (gathered-given f z p (see s (classify s l)) ls))

-- ---- entries, map by map

pub in_map-append : (i : ℕ) (xs ys : List Placed) → in_map i (xs ++ ys) ≡ in_map i xs ++ in_map i ys
unfolding in_map
in_map-append i [] ys = refl
in_map-append i (placed j e ∷ xs) ys = by_bool (eqb i j) (λ t. rw t (ap (λ (x : List Entry). e ∷ x) (in_map-append i xs ys))) (λ t. rw t (in_map-append i xs ys))
