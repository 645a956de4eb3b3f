-- The head, all after it and END are the card.
use mathlib.Core.Path.{◌≡◌, refl, sym, ap, subst, ◌∙◌}
use Rattle.to_card_lines.proofs.Parts.{all-bytes, all_lines, all-carried}
use Rattle.to_card_pen.proofs.Refusal.{not_ok}
use Rattle.to_card_pen.specs.Refusal.{no_card}
use Rattle.std.specs.Prelude.{Err}
use mathlib.Core.Bool.{Bool, false, ◌&&◌}
use mathlib.Core.List.{List, [], ◌++◌, append_assoc}
use mathlib.Core.Option.{Option, none, some, map}
use Prim.Native.Nat.{ℕ, ◌+◌, ◌-◌, ◌<◌}
use native.Mathlib.Omega.{arith}
use borrow.Rule.Slice.PartMut.{mid_of, put_mid}
use lib.ListN.{length, take, get_or}
use Rattle.text.specs.Choice.{both}
use Rattle.text.specs.Bytes.{Bytes, ascii, any, among, same}
use Rattle.text.proofs.Cases.{in_range}
use Rattle.json_text.specs.Tree.{jobj, Members, Member, members_of, field}
use Rattle.json_index.specs.Index.{Slot}
use Rattle.json_index.proofs.Fields.{first_field}
use Rattle.line_pen.specs.Pen.{Fills}
use Rattle.line_pen.proofs.Filling.{then}
use Rattle.convert.specs.Table.{reserved}
use Rattle.convert.specs.Model.{Card}
use Rattle.convert.specs.FromJson.{card_from_members, card_from_json}
use Rattle.convert.specs.Carry.{carried}
use Rattle.convert.specs.ToCard.{card_lines, print_card}
use Rattle.to_card_lines.specs.Lines.{lines_bytes, Part, join_parts, Laid, laid}
use Rattle.to_card_lines.proofs.Laws.{card-parts, lines-append, fills-as}
use Rattle.to_card_head.specs.Head.{begin, HeadAs, PutsHead}
use Rattle.to_card_sections.specs.Sections.{head_in, body_parts, sections, whole_of}
use Rattle.to_card_card.specs.Whole.{few, Object, PutsBody, CardAs, PutsWhole}
use Rattle.to_card_card.proofs.Joining.{has-few, few-none, both_first, both-second}
use Rattle.to_card_sections.proofs.Sections.{sections-are}

-- ---- the card that sections are

no-card : (ms : List Member) → sections ms ≡ none → card_from_members ms ≡ none
no-card ms e = by (card_from_members ms) (sym (sections-are ms) ∙ e)
  where
    by : (o : Option Card) → map whole_of o ≡ none → o ≡ none
    by none h = refl
    by (some c) h = let z : ◌≡◌ {A = ℕ} 0 1 = cc in absurd (omega arith)

record CardOf (ms : List Member) (p : Part) : Type 0 where
  card : Card
  is : card_from_members ms ≡ some card
  lines : card_lines card ≡ p.lines
  carries : carried card ≡ p.carried

card-of : (ms : List Member) (p : Part) → sections ms ≡ some p → CardOf ms p
card-of ms p e = by (card_from_members ms) refl (sym (sections-are ms) ∙ e)
  where
    some_is : {A : Type 0} {a b : A} → some a ≡ some b → a ≡ b
    some_is h = cc

    by : (o : Option Card) → card_from_members ms ≡ o → map whole_of o ≡ some p → CardOf ms p
    by none g h = let z : ◌≡◌ {A = ℕ} 0 1 = cc in absurd (omega arith)
    by (some c) g h = let w : whole_of c ≡ p = some_is h in record { card = c; is = g; lines = ap (λ (x : Part). x.lines) w; carries = ap (λ (x : Part). x.carried) w }

-- ---- slots of the head

new-name : (i : ℕ) → i < 4 → among (get_or reserved i []) (take i reserved) ≡ false
unfolding among any same
new-name i l = in_range (λ i. among (get_or reserved i []) (take i reserved)) (λ i. false) i 0 4 refl (omega arith) (omega arith)

module _ (s : Bytes) (slots : List ℕ) (room : Bytes) (r : Laid) (out : Bytes) (head : PutsHead s (get_or slots 0 0) (get_or slots 1 0) (get_or slots 2 0) (get_or slots 3 0) room r out) where
  module _ (mm : Members) (object : Object s slots mm) where
    head-slot : (i : ℕ) → i < 4 → Slot 15 s (get_or slots i 0) (field (get_or reserved i []) (members_of mm))
    head-slot i l = let w : i < length reserved = omega arith in subst (Slot 15 s (get_or slots i 0)) (first_field reserved i w (new-name i l) (members_of mm)) (object.indexed i)

    head-put : HeadAs room r out (head_in (members_of mm))
    head-put =
        head (field (ascii "@type") (members_of mm)) (field (ascii "version") (members_of mm)) (field (ascii "uid") (members_of mm)) (field (ascii "kind") (members_of mm))
        (head-slot 0 (omega arith)) (head-slot 1 (omega arith)) (head-slot 2 (omega arith)) (head-slot 3 (omega arith))

    -- where one of both is none
    refused : (after : Bytes) → both join_parts (head_in (members_of mm)) (body_parts (members_of mm)) ≡ none → CardAs room (Err no_card) after (card_from_json (jobj mm))
    unfolding sections card_from_json
    refused after e = subst (CardAs room (Err no_card) after) (sym (no-card (members_of mm) e)) refl

  head-none : (o : Option Part) → HeadAs room r out o → r ≡ Err no_card → o ≡ none
  head-none none h e = refl
  head-none (some p) h e = absurd (not_ok (sym e ∙ h.1))

  pub whole-first : r ≡ Err no_card → (after : Bytes) → PutsWhole s slots room (Err no_card) after
  whole-first e after mm object = refused mm object after (both_first (head_in (members_of mm)) (body_parts (members_of mm)) (head-none (head_in (members_of mm)) (head-put mm object) e))

  module _ (n l : ℕ) (c : Bool) (e : r ≡ laid n l c) (q : Laid) (last : Bytes) (body : PutsBody s slots (mid_of n (length out - n) out) q last) where
    pub whole-second : q ≡ Err no_card → (after : Bytes) → PutsWhole s slots room (Err no_card) after
    whole-second w after mm object =
        refused mm object after
        (both-second (head_in (members_of mm)) (body_parts (members_of mm)) (few-none (mid_of n (length out - n) out) last q (body_parts (members_of mm)) (body mm object) w))

    record HeadHas (o : Option Part) : Type 0 where
      part : Part
      is : o ≡ some part
      lines : l ≡ length part.lines
      carries : c ≡ part.carried
      fills : Fills room (begin ++ lines_bytes part.lines) n out

    head-has : (o : Option Part) → HeadAs room r out o → HeadHas o
    head-has none h = absurd (not_ok (sym h ∙ e))
    head-has (some p) h =
        record {
          part = p;
          is = refl;
          lines = all_lines (sym e ∙ h.1);
          carries = all-carried (sym e ∙ h.1);
          fills = subst (λ (x : ℕ). Fills room (begin ++ lines_bytes p.lines) x out) (all-bytes (sym h.1 ∙ e)) h.2;
        }

    module _ (m k : ℕ) (d : Bool) (w : q ≡ laid m k d) where
      abbrev written : Bytes
      written = put_mid n (length out - n) out last

      module _ (z : ℕ) (end : Bytes) (ends : Fills (mid_of (n + m) (length written - (n + m)) written) (ascii "END:VCARD\r\n") z end) where
        abbrev whole : Bytes
        whole = put_mid (n + m) (length written - (n + m)) written end

        few-sum : (a b : ℕ) → few (few a + few b) ≡ few (a + b)
        few-sum a b = omega arith

        pub whole-all : PutsWhole s slots room (laid (n + m + z) (few (few l + k)) (c && d)) whole
        unfolding sections card_from_json print_card
        whole-all mm object =
            let h = head-has (head_in (members_of mm)) (head-put mm object) in
            let b = has-few (body_parts (members_of mm)) (body mm object) w in
            let p : Part = join_parts h.part b.part in
            let g = card-of (members_of mm) p (ap (λ (x : Option Part). both join_parts x (body_parts (members_of mm))) h.is ∙ ap (both join_parts (some h.part)) b.is) in
            let text : ((begin ++ lines_bytes h.part.lines) ++ lines_bytes b.part.lines) ++ ascii "END:VCARD\r\n" ≡ print_card g.card =
            ap (λ (x : Bytes). x ++ ascii "END:VCARD\r\n") (append_assoc begin (lines_bytes h.part.lines) (lines_bytes b.part.lines) ∙ ap (λ (x : Bytes). begin ++ x) (sym (lines-append h.part.lines b.part.lines)))
            ∙ sym (card-parts p.lines) ∙ ap Rattle.line.specs.Write.write_card (sym g.lines) in
            let count : few (few l + k) ≡ few (length (card_lines g.card)) =
            ap (λ (x : ℕ). few (few x + k)) h.lines ∙ ap (λ (x : ℕ). few (few (length h.part.lines) + x)) b.lines ∙ few-sum (length h.part.lines) (length b.part.lines)
            ∙ ap few (sym (lib.ListN.length-append h.part.lines b.part.lines)) ∙ ap (λ (x : List Rattle.line.specs.Grammar.Line). few (length x)) (sym g.lines) in
            let carries : (c && d) ≡ carried g.card = ap (λ (x : Bool). x && d) h.carries ∙ ap (λ (x : Bool). h.part.carried && x) b.carried ∙ sym g.carries in
            subst (CardAs room (laid (n + m + z) (few (few l + k)) (c && d)) whole) (sym g.is)
            (n + m + z, ap (λ (x : ℕ). laid (n + m + z) x (c && d)) count ∙ ap (laid (n + m + z) (few (length (card_lines g.card)))) carries, fills-as text (then (then h.fills b.fills) ends))
