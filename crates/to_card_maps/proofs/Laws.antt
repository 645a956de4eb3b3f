-- The pass over the seven maps, over plain values.
use mathlib.Core.Path.{◌≡◌, refl, sym, ap, subst, ◌∙◌}
use Rattle.to_card_pen.proofs.Refusal.{not_ok}
use Rattle.to_card_lines.proofs.Parts.{all-bytes, all_lines, all-carried}
use Rattle.to_card_pen.specs.Refusal.{no_card}
use Rattle.std.specs.Prelude.{Err}
use mathlib.Core.Bool.{Bool, true, false, ◌&&◌}
use mathlib.Core.List.{List, [], ◌∷◌, ◌++◌, map, append-nil, append_assoc}
use mathlib.Core.Option.{Option, none, some}
use Prim.Native.Nat.{ℕ, suc, ◌+◌, ◌-◌, ◌≤◌, ◌<◌}
use native.Mathlib.Omega.{arith}
use native.Mathlib.Numerals.{add-one}
use borrow.Rule.Slice.PartMut.{mid_of, put_mid}
use lib.ListN.{length, take, drop, get_or, length-append}
use lib.Seq.{drop-cons}
use Rattle.text.specs.Choice.{both}
use Rattle.text.specs.Bytes.{Bytes, any, all, among, same, each, flat, parts}
use Rattle.text.proofs.Cases.{in_range}
use Rattle.json_text.specs.Tree.{Json, Member, field}
use Rattle.line.specs.Grammar.{Line}
use Rattle.line.specs.Write.{fold, write_line}
use Rattle.json_index.specs.Index.{first_at, Slot, Indexed}
use Rattle.json_index.proofs.Fields.{first_field}
use Rattle.line_pen.specs.Pen.{Fills}
use Rattle.line_pen.proofs.Filling.{then}
use Rattle.convert.specs.Table.{Map, maps, reserved}
use Rattle.convert.specs.Model.{Entry}
use Rattle.convert.specs.FromJson.{map_from}
use Rattle.convert.specs.Carry.{carried_maps}
use Rattle.convert.specs.ToCard.{entry_line, maps_lines}
use Rattle.to_card_entry.specs.Rows.{row_names, Row, line_bytes}
use Rattle.to_card_entry.proofs.Rows.{organizations}
use Rattle.to_card_map.specs.Maps.{lines_of, carried_all, LinesAs}
use Rattle.to_card_lines.specs.Lines.{line_bytes as line_bytes_of, lines_bytes, Laid, laid}
use Rattle.to_card_lines.proofs.Laws.{lines_none, lines-append, fills-none, fills-as}
use Rattle.to_card_maps.specs.Seven.{value_as, PutsNth, MapsAs, PutsMaps}

-- ---- rows

pub row-six : {m : Map} {names kinds heads : Bytes} {count form : ℕ} → Row m names kinds count heads form → length (parts 44 names) ≡ 6
unfolding row_names
row-six r = ap length r.is-names

pub nth-is : (s : Bytes) (k j slot : ℕ) (room : Bytes) (r : Laid) (after : Bytes) → k ≡ j → ((d : Map) (o : Option Json) → Slot 15 s slot o → LinesAs (get_or maps j d) room r after (value_as (get_or maps j d) o)) → PutsNth s k slot room r after
nth-is s k j slot room r after e f l d o h = subst (λ (i : ℕ). LinesAs (get_or maps i d) room r after (value_as (get_or maps i d) o)) (sym e) (f d o h)

pub nth_last : (s : Bytes) (k slot : ℕ) (room : Bytes) (r : Laid) (after : Bytes) → (k ≡ 0 → ⊥) → (k ≡ 1 → ⊥) → (k ≡ 2 → ⊥) → (k ≡ 3 → ⊥) → (k ≡ 4 → ⊥) → (k ≡ 5 → ⊥)
    → ((d : Map) (o : Option Json) → Slot 15 s slot o → LinesAs (get_or maps 6 d) room r after (value_as (get_or maps 6 d) o)) → PutsNth s k slot room r after
nth_last s k slot room r after n₀ n₁ n₂ n₃ n₄ n₅ f l = let e : k ≡ 6 = omega arith in nth-is s k 6 slot room r after e f l

-- ---- slots

distinct : (i : ℕ) → i < 13 → among (get_or reserved i []) (take i reserved) ≡ false
unfolding among any same
distinct i l = in_range (λ i. among (get_or reserved i []) (take i reserved)) (λ i. false) i 0 13 refl (omega arith) (omega arith)

member-name : (k : ℕ) → k < 7 → get_or reserved (k + 5) [] ≡ (get_or maps k organizations).member
member-name k l = in_range (λ k. get_or reserved (k + 5) []) (λ k. (get_or maps k organizations).member) k 0 7 refl (omega arith) (omega arith)

pub slot_map : (k : ℕ) → k < 7 → (ms : List Member) → value_as (get_or maps k organizations) (first_at reserved (k + 5) ms) ≡ map_from ms (get_or maps k organizations)
unfolding map_from
slot_map k l ms =
    let i : k + 5 < 13 = omega arith in
    ap (value_as (get_or maps k organizations)) (first_field reserved (k + 5) i (distinct (k + 5) i) ms ∙ ap (λ (n : Bytes). field n ms) (member-name k l))

-- ---- lines

lines_are : (m : Map) (es : List Entry) → lines_of m es ≡ lines_bytes (map (entry_line m) es)
unfolding lines_of lines_bytes line_bytes line_bytes_of flat
lines_are m [] = refl
lines_are m (e ∷ es) = ap (λ (l : Bytes). (fold (write_line (entry_line m e)) ++ (13 ∷ 10 ∷ [])) ++ l) (lines_are m es)

count-are : (m : Map) (es : List Entry) → length es ≡ length (map (entry_line m) es)
count-are m [] = refl
count-are m (e ∷ es) = ap suc (count-are m es)

each-end : (ms : List Member) → each (map_from ms) [] ≡ some []
unfolding each
each-end ms = refl

lines_end : maps_lines [] [] ≡ []
unfolding maps_lines
lines_end = refl

carried-end : carried_maps [] [] ≡ true
unfolding carried_maps
carried-end = refl

-- ---- what is done, and what is still to come

both-none : {A B C : Type 0} (f : A → B → C) (x : Option A) → both f x none ≡ none
both-none f none = refl
both-none f (some a) = refl

record Left (ms : List Member) (rest : List Map) (ls : List Line) (ok : Bool) : Type 0 where
  fails : each (map_from ms) rest ≡ none → each (map_from ms) maps ≡ none
  goes : (ess : List (List Entry)) → each (map_from ms) rest ≡ some ess
      → (all : List (List Entry)) × (each (map_from ms) maps ≡ some all) × (maps_lines maps all ≡ ls ++ maps_lines rest ess) × (carried_maps maps all ≡ (ok && carried_maps rest ess))

left-first : (ms : List Member) → Left ms maps [] true
left-first ms = record { fails = λ e. e; goes = λ ess e. (ess, e, refl, refl) }

each-cons : (ms : List Member) (m : Map) (rest : List Map) → each (map_from ms) (m ∷ rest) ≡ both ◌∷◌ (map_from ms m) (each (map_from ms) rest)
unfolding each
each-cons ms m rest = refl

lines_cons : (m : Map) (rest : List Map) (es : List Entry) (ess : List (List Entry)) → maps_lines (m ∷ rest) (es ∷ ess) ≡ map (entry_line m) es ++ maps_lines rest ess
unfolding maps_lines
lines_cons m rest es ess = refl

carried-cons : (m : Map) (rest : List Map) (es : List Entry) (ess : List (List Entry)) → carried_maps (m ∷ rest) (es ∷ ess) ≡ (carried_all m es && carried_maps rest ess)
unfolding carried_maps carried_all
carried-cons m rest es ess = refl

and_assoc : (a b c : Bool) → (a && (b && c)) ≡ ((a && b) && c)
and_assoc true b c = refl
and_assoc false b c = refl

left-bad : {ms : List Member} {m : Map} {rest : List Map} {ls : List Line} {ok : Bool} → Left ms (m ∷ rest) ls ok → map_from ms m ≡ none → each (map_from ms) maps ≡ none
left-bad {ms} {m} {rest} l e = l.fails (each-cons ms m rest ∙ ap (λ (o : Option (List Entry)). both ◌∷◌ o (each (map_from ms) rest)) e)

left-on : {ms : List Member} {m : Map} {rest : List Map} {ls : List Line} {ok : Bool} → Left ms (m ∷ rest) ls ok → (es : List Entry) → map_from ms m ≡ some es → Left ms rest (ls ++ map (entry_line m) es) (ok && carried_all m es)
left-on {ms} {m} {rest} {ls} {ok} l es e = record {
  fails = λ f. l.fails (each-cons ms m rest ∙ ap (both ◌∷◌ (map_from ms m)) f ∙ both-none ◌∷◌ (map_from ms m));
  goes = λ ess f.
      let g = l.goes (es ∷ ess) (each-cons ms m rest ∙ ap (λ (o : Option (List Entry)). both ◌∷◌ o (each (map_from ms) rest)) e ∙ ap (both ◌∷◌ (some es)) f) in (
        g.0,
        g.1,
        g.2 ∙ ap (λ (x : List Line). ls ++ x) (lines_cons m rest es ess) ∙ sym (append_assoc ls (map (entry_line m) es) (maps_lines rest ess)),
        g.3 ∙ ap (λ (x : Bool). ok && x) (carried-cons m rest es ess) ∙ and_assoc ok (carried_all m es) (carried_maps rest ess),
      );
}

pub record Far (s : Bytes) (slots : List ℕ) (room : Bytes) (k n lines : ℕ) (ok : Bool) (out : Bytes) (ms : List Member) : Type 0 where
  done : List Line
  left : Left ms (drop k maps) done ok
  fills : Fills room (lines_bytes done) n out
  is-lines : lines ≡ length done

abbrev pub Going : Bytes → List ℕ → Bytes → ℕ → ℕ → ℕ → Bool → Bytes → Type 0
Going s slots room k n lines ok out = (ms : List Member) → Indexed 15 s reserved slots ms → Far s slots room k n lines ok out ms

pub going-first : (s : Bytes) (slots : List ℕ) (room : Bytes) → Going s slots room 0 0 0 true room
going-first s slots room ms i = record { done = []; left = left-first ms; fills = fills-as (sym lines_none) (fills-none room); is-lines = refl }

maps-as : (room : Bytes) (r : Laid) (after : Bytes) {o p : Option (List (List Entry))} → o ≡ p → MapsAs maps room r after p → MapsAs maps room r after o
maps-as room r after e x = subst (MapsAs maps room r after) (sym e) x

module _ (s : Bytes) (slots : List ℕ) (room : Bytes) (k n lines : ℕ) (ok : Bool) (out : Bytes) (going : Going s slots room k n lines ok out) where
  module _ (h : k < 7) (r : Laid) (last : Bytes) (puts : PutsNth s k (get_or slots (k + 5) 0) (mid_of n (length out - n) out) r last) where
    now-left : (ms : List Member) (f : Far s slots room k n lines ok out ms) → Left ms (get_or maps k organizations ∷ drop (k + 1) maps) f.done ok
    now-left ms f =
        let e : drop k maps ≡ get_or maps k organizations ∷ drop (k + 1) maps = drop-cons maps k organizations h ∙ ap (λ (i : ℕ). get_or maps k organizations ∷ drop i maps) (sym (add-one k)) in
        subst (λ (l : List Map). Left ms l f.done ok) e f.left

    said : (ms : List Member) → Indexed 15 s reserved slots ms → LinesAs (get_or maps k organizations) (mid_of n (length out - n) out) r last (map_from ms (get_or maps k organizations))
    said ms i = subst (LinesAs (get_or maps k organizations) (mid_of n (length out - n) out) r last) (slot_map k h ms) (puts h organizations (first_at reserved (k + 5) ms) (i (k + 5)))

    pub maps-wrong : (after : Bytes) → r ≡ Err no_card → PutsMaps s slots room (Err no_card) after
    maps-wrong after e ms i = maps-as room (Err no_card) after (left-bad (now-left ms (going ms i)) (by (map_from ms (get_or maps k organizations)) (said ms i))) refl
      where
        by : (o : Option (List Entry)) → LinesAs (get_or maps k organizations) (mid_of n (length out - n) out) r last o → o ≡ none
        by none f = refl
        by (some es) f = absurd (not_ok (sym e ∙ f.1))

    pub maps-on : (a b : ℕ) (c : Bool) → r ≡ laid a b c → Going s slots room (k + 1) (n + a) (lines + b) (ok && c) (put_mid n (length out - n) out last)
    maps-on a b c e ms i = by (map_from ms (get_or maps k organizations)) refl (said ms i)
      where
        by : (o : Option (List Entry)) → map_from ms (get_or maps k organizations) ≡ o → LinesAs (get_or maps k organizations) (mid_of n (length out - n) out) r last o → Far s slots room (k + 1) (n + a) (lines + b) (ok && c) (put_mid n (length out - n) out last) ms
        by none q f = absurd (not_ok (sym f ∙ e))
        by (some es) q f =
            let m = get_or maps k organizations in
            let g = going ms i in
            let z = sym f.1 ∙ e in
            let y : Fills (mid_of n (length out - n) out) (lines_bytes (map (entry_line m) es)) a last =
            fills-as (lines_are m es) (subst (λ (u : ℕ). Fills (mid_of n (length out - n) out) (lines_of m es) u last) (all-bytes z) f.2) in
            record {
              done = g.done ++ map (entry_line m) es;
              left = subst (Left ms (drop (k + 1) maps) (g.done ++ map (entry_line m) es)) (ap (λ (u : Bool). ok && u) (all-carried z)) (left-on (now-left ms g) es q);
              fills = fills-as (sym (lines-append g.done (map (entry_line m) es))) (then g.fills y);
              is-lines = omega (arith, g.is-lines, all_lines z, count-are m es, length-append g.done (map (entry_line m) es));
            }

  pub maps-all : 7 ≤ k → k ≤ 7 → PutsMaps s slots room (laid n lines ok) out
  maps-all h l ms i =
      let g = going ms i in
      let e : k ≡ 7 = omega arith in
      let t : Left ms [] g.done ok = subst (λ (j : ℕ). Left ms (drop j maps) g.done ok) e g.left in
      let w = t.goes [] (each-end ms) in
      let x : maps_lines maps w.0 ≡ g.done = w.2 ∙ ap (λ (y : List Line). g.done ++ y) lines_end ∙ append-nil g.done in
      maps-as room (laid n lines ok) out w.1 (
        n,
        ap (λ (y : ℕ). laid n y ok) (g.is-lines ∙ ap length (sym x)) ∙ ap (laid n (length (maps_lines maps w.0))) (and-end ok ∙ ap (λ (y : Bool). ok && y) (sym carried-end) ∙ sym w.3),
        fills-as (ap lines_bytes (sym x)) g.fills,
      )
    where
      and-end : (b : Bool) → b ≡ (b && true)
      and-end true = refl
      and-end false = refl

-- ---- bounds

pub in-part : (n : ℕ) (room out last : Bytes) {m : ℕ} → n ≤ length out → length out ≡ length room → m ≤ length (mid_of n (length out - n) out) → length last ≡ length (mid_of n (length out - n) out)
    → (n + m ≤ length (put_mid n (length out - n) out last)) × (length (put_mid n (length out - n) out last) ≡ length room)
in-part n room out last {m} h e i l = Rattle.to_card_entry.proofs.Putting.bounds n m room out last e (omega arith) i l
