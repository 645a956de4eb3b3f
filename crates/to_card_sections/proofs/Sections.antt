-- The sections are the lines of the card.
use mathlib.Core.Path.{◌≡◌, refl, sym, ap, ◌∙◌}
use mathlib.Core.Bool.{Bool, true, false, ◌&&◌}
use mathlib.Core.List.{List, [], ◌∷◌, ◌++◌, map, append_assoc}
use mathlib.Core.Option
use mathlib.Core.Option.{Option, none, some}
use Rattle.text.specs.Choice.{with-some, both, chain, provided}
use Rattle.text.specs.Bytes.{Bytes, ascii, all, each}
use Rattle.json_text.specs.Tree.{Json, Member, name_of, field, as_array}
use Rattle.line.specs.Grammar.{Line}
use Rattle.convert.specs.Table.{maps, name_row}
use Rattle.convert.specs.Model.{Entry, Kept, Card}
use Rattle.convert.specs.Classify.{Seen}
use Rattle.convert.specs.Value.{filled}
use Rattle.convert.specs.FromJson.{Name, map_from, kept_from, kept_as_line, kept_stands, other_members, seen_in, standing, card_from_members}
use Rattle.convert.specs.Carry.{carried, carried_raw, carried_text, carried_param, carried_kept, carried_maps, apart_parts}
use Rattle.convert.specs.Property.{property}
use Rattle.convert.specs.ToCard.{card_lines, maps_lines, member_line, full_line, where_filled}
use Rattle.to_card_lines.specs.Lines.{Part, join_parts, parts_of}
use Rattle.to_card_head.specs.Head.{is_card, is_version, uid_in, kind_in, head_of, head_from, head_lines, start_lines}
use Rattle.to_card_members.specs.Members.{members_part}
use Rattle.to_card_name.specs.Name.{name_lines, parts_carried}
use Rattle.to_card_kept.specs.Kept.{kept_part, entry_part, kept_parts, seen_of}
use Rattle.to_card_sections.specs.Sections.{name_in, maps_part, head_in, last_parts, rest_parts, body_parts, sections, whole_of}

-- ---- kept lines

abbrev kepts_part : List Kept → Part
kepts_part ks = record { lines = map kept_as_line ks; carried = all carried_kept ks }

abbrev stand_part : Seen → List Kept → Option Part
stand_part seen ks = provided (all (kept_stands seen) ks) (some (kepts_part ks))

all_first : {A : Type 0} (p : A → Bool) (x : A) (xs : List A) → all p (x ∷ xs) ≡ (p x && all p xs)
unfolding all
all_first p x xs = refl

all_none : {A : Type 0} (p : A → Bool) → all p [] ≡ true
unfolding all
all_none p = refl

-- one more
stand-first : (seen : Seen) (k : Kept) (ks : List Kept) → both join_parts (provided (kept_stands seen k) (some (kept_part k))) (stand_part seen ks) ≡ stand_part seen (k ∷ ks)
stand-first seen k ks =
    by (kept_stands seen k) (all (kept_stands seen) ks) (all carried_kept (k ∷ ks)) (all_first carried_kept k ks) ∙ sym (ap (λ (b : Bool). provided b (some (kepts_part (k ∷ ks)))) (all_first (kept_stands seen) k ks))
  where
    by : (a b c : Bool) → c ≡ (carried_kept k && all carried_kept ks) → both join_parts (provided a (some (kept_part k))) (provided b (some (kepts_part ks)))
        ≡ provided (a && b) (some (record { lines = map kept_as_line (k ∷ ks); carried = c }))
    by true true c e = ap (λ (x : Bool). some (record { lines = map kept_as_line (k ∷ ks); carried = x })) (sym e)
    by true false c e = refl
    by false b c e = refl

kepts-are : (seen : Seen) (js : List Json) → parts_of (entry_part seen) js ≡ chain (each kept_from js) (stand_part seen)
unfolding parts_of each entry_part
kepts-are seen [] = sym (ap (λ (b : Bool). provided b (some (kepts_part []))) (all_none (kept_stands seen)) ∙ ap (λ (b : Bool). some (record { lines = []; carried = b })) (all_none carried_kept))
kepts-are seen (j ∷ js) = ap (both join_parts (entry_part seen j)) (kepts-are seen js) ∙ by (kept_from j) (each kept_from js)
  where
    by : (o : Option Kept) (os : Option (List Kept))
        → both join_parts (chain o λ k. provided (kept_stands seen k) (some (kept_part k))) (chain os (stand_part seen)) ≡ chain (both ◌∷◌ o os) (stand_part seen)
    by none os = refl
    by (some k) none = both-none (provided (kept_stands seen k) (some (kept_part k)))
      where
        both-none : (o : Option Part) → both join_parts o none ≡ none
        both-none none = refl
        both-none (some p) = refl
    by (some k) (some ks) = stand-first seen k ks

abbrev kept_in : Option Json → Option (List Kept)
kept_in o = with-some o (λ v. chain (as_array v) (each kept_from)) (some [])

kept-are : (seen : Seen) (o : Option Json) → kept_parts seen o ≡ chain (kept_in o) (stand_part seen)
unfolding kept_parts
kept-are seen none = sym (ap (λ (b : Bool). provided b (some (kepts_part []))) (all_none (kept_stands seen)) ∙ ap (λ (b : Bool). some (record { lines = []; carried = b })) (all_none carried_kept))
kept-are seen (some v) = by (as_array v)
  where
    by : (o : Option (List Json)) → chain o (parts_of (entry_part seen)) ≡ chain (chain o (each kept_from)) (stand_part seen)
    by none = refl
    by (some js) = kepts-are seen js

-- ---- a card's lines and what they carry, by section

abbrev members_only : List Member → Part
members_only ms = record { lines = map member_line (other_members ms); carried = all (λ m. carried_param (name_of m)) (other_members ms) }

abbrev head_part : Bytes → Bytes → Part
head_part u k = record { lines = head_lines u k; carried = carried_raw u }

abbrev card_of : Bytes → Bytes → Name → List (List Entry) → List Member → List Kept → Card
card_of u k n ess ms ks = record { uid = u; kind = k; full = n.full; parts = n.parts; maps = ess; members = other_members ms; kept = ks }

five : (a b c d e : List Line) → (((a ++ b) ++ c) ++ d) ++ e ≡ a ++ (b ++ (c ++ (d ++ e)))
five a b c d e = append_assoc ((a ++ b) ++ c) d e ∙ append_assoc (a ++ b) c (d ++ e) ∙ append_assoc a b (c ++ (d ++ e))

and_assoc : (a b c : Bool) → ((a && b) && c) ≡ (a && (b && c))
and_assoc true b c = refl
and_assoc false b c = refl

seven : (a b c d e f g : Bool) → (a && ((b && (c && d)) && (e && (f && g)))) ≡ ((((((a && b) && c) && d) && e) && f) && g)
seven true true true true e f g = sym (and_assoc e f g)
seven true true true false e f g = refl
seven true true false d e f g = refl
seven true false c d e f g = refl
seven false b c d e f g = refl

module _ (u k : Bytes) (n : Name) (ess : List (List Entry)) (ms : List Member) (ks : List Kept) where
  abbrev last_of : Part
  last_of = join_parts (members_only ms) (kepts_part ks)

  abbrev all-sections : Part
  all-sections = join_parts (head_part u k) (join_parts (name_lines n) (join_parts (maps_part ess) last_of))

  lines_are : all-sections.lines ≡ card_lines (card_of u k n ess ms ks)
  unfolding card_lines head_lines start_lines name_lines full_line
  lines_are =
      let kind : List Line = where_filled k (property (ascii "kind") [] k) in
      append_assoc (start_lines u) kind ((name_lines n).lines ++ (maps_lines maps ess ++ last_of.lines))
      ∙ ap (λ (x : List Line). start_lines u ++ x) (sym (five kind (name_lines n).lines (maps_lines maps ess) (map member_line (other_members ms)) (map kept_as_line ks)))

  carried-is : all-sections.carried ≡ carried (card_of u k n ess ms ks)
  unfolding carried name_lines parts_carried
  carried-is =
      seven (carried_raw u) (with-some n.full carried_text true) (all (all carried_text) n.parts) (apart_parts name_row n.parts)
      (carried_maps maps ess) (all (λ m. carried_param (name_of m)) (other_members ms)) (all carried_kept ks)

  whole_is : all-sections ≡ whole_of (card_of u k n ess ms ks)
  whole_is = ap (λ (x : List Line). record { lines = x; carried = all-sections.carried }) lines_are ∙ ap (λ (x : Bool). record { lines = card_lines (card_of u k n ess ms ks); carried = x }) carried-is

-- ---- the order in which they are judged does not matter

module _ (ms : List Member) where
  abbrev as_model : Bool → Bool → Bool → Option Bytes → Option Bytes → Option Name → Option (List (List Entry)) → Option (List Kept) → Option Card
  as_model a b f u k n e ks = provided ((a && b) && f) (chain u λ u'. chain k λ k'. chain n λ n'. chain e λ e'. chain ks λ ks'. standing (card_of u' k' n' e' ms ks'))

  abbrev after_head : Bool → Option Name → Option (List (List Entry)) → Option (List Kept) → Option Part
  after_head f n e ks =
      chain n λ n'.
      both join_parts (some (name_lines n'))
      (chain e λ e'. both join_parts (some (maps_part e')) (both join_parts (provided f (some (members_only ms))) (chain ks (stand_part (seen_of n' e' ms)))))

  both-none : (x : Option Part) → both join_parts x none ≡ none
  both-none none = refl
  both-none (some a) = refl

  none_after : (n : Option Name) (e : Option (List (List Entry))) (ks : Option (List Kept)) → after_head false n e ks ≡ none
  none_after none e ks = refl
  none_after (some n) none ks = refl
  none_after (some n) (some e) ks = refl

  judged : (u k : Bytes) (n : Name) (e : List (List Entry)) (ks : List Kept) → both join_parts (some (head_part u k)) (after_head true (some n) (some e) (some ks)) ≡ Option.map whole_of (standing (card_of u k n e ms ks))
  unfolding standing seen_in
  judged u k n e ks = by (all (kept_stands (seen_of n e ms)) ks)
    where
      by : (b : Bool) → both join_parts (some (head_part u k)) (both join_parts (some (name_lines n)) (both join_parts (some (maps_part e)) (both join_parts (some (members_only ms)) (provided b (some (kepts_part ks))))))
          ≡ Option.map whole_of (provided b (some (card_of u k n e ms ks)))
      by true = ap some (whole_is u k n e ms ks)
      by false = refl

  agree : (a b f : Bool) (u k : Option Bytes) (n : Option Name) (e : Option (List (List Entry))) (ks : Option (List Kept))
      → both join_parts (head_of a b u k) (after_head f n e ks) ≡ Option.map whole_of (as_model a b f u k n e ks)
  agree true true true (some u) (some k) (some n) (some e) (some ks) = judged u k n e ks
  agree true true true (some u) (some k) (some n) (some e) none = refl
  agree true true true (some u) (some k) (some n) none ks = refl
  agree true true true (some u) (some k) none e ks = refl
  agree true true true (some u) none n e ks = refl
  agree true true true none k n e ks = refl
  agree true true false u k n e ks = ap (both join_parts (head_of true true u k)) (none_after n e ks) ∙ both-none (head_of true true u k)
  agree true false f u k n e ks = refl
  agree false b f u k n e ks = refl

  pub sections-are : sections ms ≡ Option.map whole_of (card_from_members ms)
  unfolding sections body_parts rest_parts last_parts card_from_members head_from members_part
  sections-are =
      ap (both join_parts (head_in ms)) (by (name_in ms) (each (map_from ms) maps))
      ∙ agree (is_card (field (ascii "@type") ms)) (is_version (field (ascii "version") ms)) (all (λ m. filled (name_of m)) ms) (uid_in (field (ascii "uid") ms)) (kind_in (field (ascii "kind") ms)) (name_in ms)
      (each (map_from ms) maps) (kept_in (field (ascii "vCardProps") ms))
    where
      by : (n : Option Name) (e : Option (List (List Entry)))
          → (chain n λ n'. both join_parts (some (name_lines n')) (chain e λ e'. both join_parts (some (maps_part e')) (both join_parts (members_part ms) (kept_parts (seen_of n' e' ms) (field (ascii "vCardProps") ms)))))
          ≡ after_head (all (λ m. filled (name_of m)) ms) n e (kept_in (field (ascii "vCardProps") ms))
      by none e = refl
      by (some n) none = refl
      by (some n) (some e) =
          ap (λ (x : Option Part). both join_parts (some (name_lines n)) (both join_parts (some (maps_part e)) (both join_parts (members_part ms) x))) (kept-are (seen_of n e ms) (field (ascii "vCardProps") ms))
