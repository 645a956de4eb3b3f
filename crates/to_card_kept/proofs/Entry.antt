-- One entry: its form, then its class, then its line.
use mathlib.Core.Path.{◌≡◌, refl, sym, ap, subst, ◌∙◌}
use Rattle.to_card_pen.specs.Refusal.{no_card}
use Rattle.std.specs.Prelude.{Err}
use mathlib.Core.Bool.{Bool, true, false, ◌&&◌, not}
use mathlib.Core.List.{List, []}
use mathlib.Core.Option.{Option, none, some, map}
use Prim.Native.Nat.{ℕ}
use native.Mathlib.Omega.{arith}
use lib.ListN.{length}
use Rattle.text.specs.Choice.{chain, provided}
use Rattle.text.specs.Bytes.{Bytes, among}
use Rattle.text.proofs.Cases.{not-both, and_left, and_right}
use Rattle.text.proofs.Choices.{some_same, chain-inv, provided-inv}
use Rattle.json_text.specs.Tree.{Json, jobj, members_of}
use Rattle.line_table.specs.Table.{line_in, Sound}
use Rattle.convert.specs.Model.{Kept, Card}
use Rattle.convert.specs.Classify.{Seen, classify}
use Rattle.convert.specs.FromJson.{is_lower_word, never_kept, kept_from, kept_as_line, is_kept, kept_stands, other_members, seen_in}
use Rattle.table_sound.specs.Sound.{TellsSound}
use Rattle.table_entry.proofs.Spread.{classify-spread}
use Rattle.class_member.specs.Member.{Room}
use Rattle.class_line.specs.declared.Class.{Class}
use Rattle.class_line.specs.Class.{Classes}
use Rattle.to_card_kept_used.specs.Used.{CardIn, KeptIn}
use Rattle.to_card_kept_used.proofs.Standing.{stands-kept}
use Rattle.to_card_kept_entry.specs.table.Kept.{kept_form, formed}
use Rattle.to_card_kept_entry.specs.entry.Entry.{HoldsKept, HoldsAs, FillsKept}
use Rattle.to_card_kept_entry.proofs.fill.Composed.{fills-formed, stands-formed}
use Rattle.to_card_kept_entry.specs.writing.Line.{PutsKept as PutsLine}
use Rattle.to_card_lines.specs.declared.Penned.{Penned}
use Rattle.to_card_lines.specs.Lines.{Part, PartAs, Laid, laid}
use Rattle.to_card_lines.proofs.Laws.{lines-one, fills-as}
use Rattle.to_card_lines.proofs.Parts.{none-wrong}
use Rattle.to_card_kept.specs.Kept.{kept_part, entry_part, seen_of, LentText}
use Rattle.to_card_kept.specs.Puts.{TellsKept, EntryAt, PutsEntry}

-- ---- form and class

mapped : (o : Option Kept) (p : Kept → Bool) → chain o (λ k. provided (p k) (some (kept_part k))) ≡ map kept_part (chain o λ k. provided (p k) (some k))
mapped none p = refl
mapped (some k) p = by (p k)
  where
    by : (y : Bool) → provided y (some (kept_part k)) ≡ map kept_part (provided y (some k))
    by true = refl
    by false = refl

abbrev classed : Seen → Kept → Option Part
classed seen k = provided (is_kept (classify seen (kept_as_line k))) (some (kept_part k))

entry-formed : (seen : Seen) (j : Json) → entry_part seen j ≡ chain (formed j) (classed seen)
unfolding entry_part
entry-formed seen j = mapped (kept_from j) (kept_stands seen) ∙ ap (map kept_part) (stands-formed seen j) ∙ sym (mapped (formed j) λ k. is_kept (classify seen (kept_as_line k)))

form_type : (k : Kept) → kept_form k ≡ true → is_lower_word k.type ≡ true
unfolding kept_form
form_type k h = and_right (is_lower_word k.name && not (among k.name never_kept)) _ (and_left _ _ (and_left _ _ h))

formed-type : (j : Json) (k : Kept) → formed j ≡ some k → is_lower_word k.type ≡ true
unfolding formed
formed-type j k e =
    let i = chain-inv (kept_from j) (λ k. provided (kept_form k) (some k)) e in
    let o = provided-inv (kept_form i.0) (some i.0) i.2 in
    subst (λ (x : Kept). is_lower_word x.type ≡ true) (some_same o.1) (form_type i.0 o.0)

-- ---- the class, of the line that a table holds

pub tells-kept : {s : Bytes} {slots : List ℕ} {b : Bytes} {t : List ℕ} {full parts : Bool} {class : Class} (r : Bool) → Classes b t full parts class → KeptIn s slots b class r → TellsKept s slots b t full parts r
unfolding seen_in
tells-kept {s} {slots} r h g mm ess known n f p =
    let c : Card = record { uid = []; kind = []; full = n.full; parts = n.parts; maps = ess; members = other_members (members_of mm); kept = [] } in
    let w : CardIn s slots c =
    record { value = jobj mm; object = members_of mm; text = known.object; is = refl; slotted = known.indexed; entries = known.read; others = refl } in
    stands-kept h g c w f p

held-class : {b : Bytes} {t : List ℕ} {k : Kept} → HoldsKept b t k → (seen : Seen) → classify seen (line_in b t) ≡ classify seen (kept_as_line k)
held-class {k = k} h seen = ap (classify seen) h.held ∙ classify-spread (kept_as_line k) h.valued seen

-- ---- what is lent

pub sound-is : {b : Bytes} {t : List ℕ} (r : Bool) → TellsSound b t r → r ≡ true → Sound b t
sound-is {b} {t} r h e = subst (TellsSound b t) e h

pub sound-not : {b : Bytes} {t : List ℕ} (r : Bool) → TellsSound b t r → r ≡ false → Sound b t → ⊥
sound-not {b} {t} r h e = subst (TellsSound b t) e h

pub lent-as : {b c : Bytes} {t u : List ℕ} {scratch rest s : Bytes} → LentText b t scratch s → length c ≡ length b → length u ≡ length t → length rest ≡ length scratch → LentText c u rest s
lent-as l x y z = record { small = l.small; buffer = x ∙ l.buffer; table = omega (arith, l.table, y); text = omega (arith, l.text, z) }

pub lent-room : {b c : Bytes} {t : List ℕ} {scratch s : Bytes} → LentText b t scratch s → length c ≡ length b → Room c scratch
lent-room l x = record { fits = omega (arith, l.text, l.buffer, x); small = omega (arith, l.small, l.buffer, x) }

-- ---- the entry at a place, by what was filled

module _ (s : Bytes) (slots : List ℕ) (at : ℕ) (full parts : Bool) (room b : Bytes) (long : length b ≡ length s) (r : Bool) (c : Bytes) (u : List ℕ) (filled : FillsKept b s at r c u) where
  by_form : (x : Laid) (after : Bytes) (seen : Seen) (j : Json) → EntryAt s at j
      → ((o : Option Kept) → formed j ≡ o → HoldsAs c u r o → PartAs room x after (chain o (classed seen))) → PartAs room x after (entry_part seen j)
  by_form x after seen j e f =
      subst (PartAs room x after) (sym (entry-formed seen j))
      (f (formed j) refl (fills-formed b s at r c u filled j e.stands e.distinct (omega (arith, e.room, long))))

  pub entry-unfilled : r ≡ false → (after : Bytes) → PutsEntry s slots at full parts room (Err no_card) after
  entry-unfilled q after j e mm ess known n f p = by_form (Err no_card) after (seen_of n ess (members_of mm)) j e by
    where
      by : (o : Option Kept) → formed j ≡ o → HoldsAs c u r o → PartAs room (Err no_card) after (chain o (classed (seen_of n ess (members_of mm))))
      by none i h = refl
      by (some k) i h = not-both h.0 q

  pub entry-unsound : (Sound c u → ⊥) → (after : Bytes) → PutsEntry s slots at full parts room (Err no_card) after
  entry-unsound q after j e mm ess known n f p = by_form (Err no_card) after (seen_of n ess (members_of mm)) j e by
    where
      by : (o : Option Kept) → formed j ≡ o → HoldsAs c u r o → PartAs room (Err no_card) after (chain o (classed (seen_of n ess (members_of mm))))
      by none i h = refl
      by (some k) i h = absurd (q h.1.sound)

  module _ (x : Bool) (told : TellsKept s slots c u full parts x) where
    -- the class of the kept line
    class-told : (seen : Seen) (k : Kept) → HoldsKept c u k → x ≡ is_kept (classify seen (line_in c u)) → {y : Bool} → x ≡ y → classed seen k ≡ provided y (some (kept_part k))
    class-told seen k h t q = ap (λ (y : Bool). provided y (some (kept_part k))) (ap is_kept (sym (held-class h seen)) ∙ sym t ∙ q)

    pub entry-converts : x ≡ false → (after : Bytes) → PutsEntry s slots at full parts room (Err no_card) after
    entry-converts q after j e mm ess known n f p = by_form (Err no_card) after (seen_of n ess (members_of mm)) j e (by (seen_of n ess (members_of mm)) (told mm ess known n f p))
      where
        by : (seen : Seen) → x ≡ is_kept (classify seen (line_in c u)) → (o : Option Kept) → formed j ≡ o → HoldsAs c u r o → PartAs room (Err no_card) after (chain o (classed seen))
        by seen t none i h = refl
        by seen t (some k) i h = none-wrong room after (classed seen k) (class-told seen k h.1 t q)

    pub entry-put : r ≡ true → x ≡ true → (w : Penned) (after : Bytes) → PutsLine c u room w after → PutsEntry s slots at full parts room (laid w.bytes 1 w.carried) after
    entry-put y q w after put j e mm ess known n f p =
        by_form (laid w.bytes 1 w.carried) after (seen_of n ess (members_of mm)) j e (by (seen_of n ess (members_of mm)) (told mm ess known n f p))
      where
        by : (seen : Seen) → x ≡ is_kept (classify seen (line_in c u)) → (o : Option Kept) → formed j ≡ o → HoldsAs c u r o → PartAs room (laid w.bytes 1 w.carried) after (chain o (classed seen))
        by seen t none i h = not-both y h
        by seen t (some k) i h =
            let z = put k h.1 (formed-type j k i) in
            subst (PartAs room (laid w.bytes 1 w.carried) after) (sym (class-told seen k h.1 t q))
            (w.bytes, ap (laid w.bytes 1) z.carried, fills-as (sym (lines-one (kept_as_line k))) z.fills)
