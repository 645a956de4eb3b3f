-- The pass over the entries, over plain values.
use mathlib.Core.Path.{◌≡◌, refl, sym, ap, subst, ◌∙◌}
use Rattle.to_card_pen.proofs.Refusal.{not_ok}
use Rattle.to_card_pen.specs.Refusal.{no_card}
use Rattle.std.specs.Prelude.{Err}
use mathlib.Core.Bool.{Bool, true, ◌&&◌}
use mathlib.Core.List.{List, [], ◌∷◌}
use mathlib.Core.Option.{Option, none, some}
use Prim.Native.Nat.{ℕ, zero, suc, ◌+◌, ◌-◌}
use native.Mathlib.Omega.{arith}
use borrow.Rule.Slice.PartMut.{mid_of, put_mid}
use lib.ListN.{length, drop}
use Rattle.text.specs.Places.{Read}
use Rattle.std.proofs.Common.{Continue, Break}
use Rattle.text.specs.Choice.{both}
use Rattle.text.specs.Bytes.{Bytes, all}
use Rattle.text.specs.Reader.{got, loop}
use Rattle.text.specs.Places.{GivesT}
use Rattle.text.proofs.Lists.{all_head, all_tail}
use Rattle.json_text.specs.Tree.{Json, members_of, Elems, enil, econs, elems_of}
use Rattle.json_text.specs.Syntax.{sep, item, value}
use Rattle.json_text.specs.Strings.{decoded, decoded_elems, distinct_names}
use Rattle.json_access.specs.Access.{EndsAt}
use Rattle.json_index.specs.Index.{meant, json_at}
use Rattle.to_card_kept_entry.specs.strings.Strings.{size, size_elems}
use Rattle.to_card_kept_entry.proofs.strings.Elements.{item-here, elems-on, elems-none, next_elem, elems-nil, elems-cons, enil-decoded}
use Rattle.convert.specs.Classify.{Seen}
use Rattle.to_card_lines.specs.Lines.{Part, PartAs, no_lines, join_parts, parts_of, Laid, laid}
use Rattle.to_card_lines.proofs.Parts.{before, before-none, before-one, before_last, parts_none, parts-one, Done, done_none, done_on, done_all, none-wrong}
use Rattle.to_card_kept.specs.Kept.{seen_of, entry_part}
use Rattle.to_card_kept.specs.declared.Run.TheVariants.{More}
use Rattle.to_card_kept.specs.Puts.{ForKnown, EntryAt, PutsEntry, EntriesAt, PutsFrom, before_lines, PutsRun}

-- ---- the entry that is next

abbrev Gives : Bytes → ℕ → ℕ → Type 0
Gives s end j = GivesT s end (sep 93 zero suc (drop end s)) (Continue j)

abbrev Stops : Bytes → ℕ → Read → Type 0
Stops s end v = GivesT s end (sep 93 zero suc (drop end s)) (Break v)

record Next (s : Bytes) (i : ℕ) (es : Elems) : Type 0 where
  val : Json
  others : Elems
  entry : EntryAt s i val
  is : elems_of es ≡ val ∷ elems_of others
  goes : (end : ℕ) → EndsAt 14 s i end → (j : ℕ) → Gives s end j → EntriesAt s j others
  ends : (end : ℕ) → EndsAt 14 s i end → (v : Read) → Stops s end v → elems_of others ≡ []

same-others : {v : Json} {us ws ts : Elems} → econs v us ≡ ts → ts ≡ econs v ws → us ≡ ws
same-others e f = cc

size-cons : (v : Json) (es : Elems) → size_elems (econs v es) ≡ size v + size_elems es
unfolding size_elems
size-cons v es = refl

read_at : (d : ℕ) (s : Bytes) (i : ℕ) (j : Json) (u : Bytes) (v : Json) → value d (drop i s) ≡ got j u → decoded j ≡ some v → json_at d s i ≡ some v
unfolding json_at
read_at d s i j u v e q = ap meant e ∙ q

next-entry : (s : Bytes) (i : ℕ) (es : Elems) → EntriesAt s i es → Next s i es
next-entry s i es a =
    let z = item-here 14 s i a.units a.rest a.is-units in
    let n = next_elem z.val z.others es (ap decoded_elems (sym z.is) ∙ a.is) in
    let l : elems_of es ≡ n.val ∷ elems_of n.others = ap elems_of (sym n.is) ∙ elems-cons n.val n.others in
    let d : all distinct_names (n.val ∷ elems_of n.others) ≡ true = subst (λ (js : List Json). all distinct_names js ≡ true) l a.distinct in
    let m : size_elems es ≡ size n.val + size_elems n.others = ap size_elems (sym n.is) ∙ size-cons n.val n.others in
    let b = read_at 14 s i z.val z.rest-val n.val z.is-value n.is-val in
    record {
      val = n.val;
      others = n.others;
      entry = record { stands = b; distinct = all_head distinct_names n.val (elems_of n.others) d; room = omega (arith, m, a.room) };
      is = l;
      goes = λ end x j w.
          let o = elems-on 14 s i a.units a.rest a.is-units z end (x z.val z.rest-val z.is-value) j w in
          record {
            units = z.others;
            rest = a.rest;
            is-units = subst (λ (us : Elems). loop (item (value 14)) (drop j s) ≡ got us a.rest) (same-others o.2 z.is) o.1;
            is = n.is-others;
            distinct = all_tail distinct_names n.val (elems_of n.others) d;
            room = omega (arith, m, a.room);
          };
      ends = λ end x v w.
          let o = elems-none 14 s i a.units a.rest a.is-units z end (x z.val z.rest-val z.is-value) v w in
          let e : enil ≡ n.others = enil-decoded n.others (ap decoded_elems (same-others o z.is) ∙ n.is-others) in
          ap elems_of (sym e) ∙ elems-nil;
    }

-- ---- what is done and what is still to come

pub record Far (s room : Bytes) (seen : Seen) (js : List Json) (i n lines : ℕ) (ok : Bool) (out : Bytes) : Type 0 where
  pub rest : Elems
  pub entries : EntriesAt s i rest
  pub part : Part
  pub is_all : parts_of (entry_part seen) js ≡ before part (parts_of (entry_part seen) (elems_of rest))
  pub done : Done room n lines ok out part

abbrev pub Going : Bytes → List ℕ → ℕ → Bool → Bool → Bytes → ℕ → ℕ → ℕ → Bool → Bytes → Type 0
Going s slots at full parts room i n lines ok out = (es : Elems) → EntriesAt s at es → ForKnown s slots full parts λ seen. Far s room seen (elems_of es) i n lines ok out

pub going-first : (s : Bytes) (slots : List ℕ) (at : ℕ) (full parts : Bool) (room : Bytes) → Going s slots at full parts room at 0 0 true room
going-first s slots at full parts room es a mm ess known n f p = record { rest = es; entries = a; part = no_lines; is_all = before-none _; done = done_none room }

module _ (s : Bytes) (slots : List ℕ) (at : ℕ) (full parts : Bool) (room : Bytes) (i n lines : ℕ) (ok : Bool) (out : Bytes) (going : Going s slots at full parts room i n lines ok out)
    (p : Laid) (last : Bytes) (puts : PutsEntry s slots i full parts (mid_of n (length out - n) out) p last) where
  -- the entry at i, before the others
  split : (seen : Seen) (js : List Json) (g : Far s room seen js i n lines ok out) (x : Next s i g.rest)
      → parts_of (entry_part seen) js ≡ before g.part (both join_parts (entry_part seen x.val) (parts_of (entry_part seen) (elems_of x.others)))
  split seen js g x = g.is_all ∙ ap (before g.part) (ap (parts_of (entry_part seen)) x.is ∙ parts-one (entry_part seen) x.val (elems_of x.others))

  pub puts-wrong : (after : Bytes) → p ≡ Err no_card → PutsFrom s slots at full parts room (Err no_card) after
  puts-wrong after e es a mm ess known m f h =
      let seen = seen_of m ess (members_of mm) in
      let g = going es a mm ess known m f h in
      let x = next-entry s i g.rest g.entries in
      by g.part (entry_part seen x.val) (parts_of (entry_part seen) (elems_of x.others)) _ (split seen (elems_of es) g x) (puts x.val x.entry mm ess known m f h)
    where
      by : (d : Part) (o os want : Option Part) → want ≡ before d (both join_parts o os) → PartAs (mid_of n (length out - n) out) p last o → PartAs room (Err no_card) after want
      by d none os want q w = none-wrong room after want q
      by d (some c) os want q w = absurd (not_ok (sym e ∙ w.1))

  module _ (k l : ℕ) (c : Bool) (e : p ≡ laid k l c) (end : ℕ) (is-end : EndsAt 14 s i end) where
    -- one entry more is done
    further : (want : Option Part) (d : Part) (o os : Option Part) → want ≡ before d (both join_parts o os) → PartAs (mid_of n (length out - n) out) p last o → Done room n lines ok out d
        → (x : Part) × (want ≡ before x os) × Done room (n + k) (lines + l) (ok && c) (put_mid n (length out - n) out last) x
    further want d none os q w done = absurd (not_ok (sym w ∙ e))
    further want d (some x) os q w done = (join_parts d x, q ∙ before-one d x os, done_on room n lines ok out d done p last x w e)

    pub going_on : (j : ℕ) → Gives s end j → Going s slots at full parts room j (n + k) (lines + l) (ok && c) (put_mid n (length out - n) out last)
    going_on j w es a mm ess known m f h =
        let seen = seen_of m ess (members_of mm) in
        let g = going es a mm ess known m f h in
        let x = next-entry s i g.rest g.entries in
        let y = further _ g.part (entry_part seen x.val) (parts_of (entry_part seen) (elems_of x.others)) (split seen (elems_of es) g x) (puts x.val x.entry mm ess known m f h) g.done in
        record { rest = x.others; entries = x.goes end is-end j w; part = y.0; is_all = y.1; done = y.2 }

    pub puts-all : (v : Read) → Stops s end v → PutsFrom s slots at full parts room (laid (n + k) (lines + l) (ok && c)) (put_mid n (length out - n) out last)
    puts-all v w es a mm ess known m f h =
        let seen = seen_of m ess (members_of mm) in
        let g = going es a mm ess known m f h in
        let x = next-entry s i g.rest g.entries in
        let y = further _ g.part (entry_part seen x.val) (parts_of (entry_part seen) (elems_of x.others)) (split seen (elems_of es) g x) (puts x.val x.entry mm ess known m f h) g.done in
        let z : parts_of (entry_part seen) (elems_of x.others) ≡ some no_lines = ap (parts_of (entry_part seen)) (x.ends end is-end v w) ∙ parts_none (entry_part seen) in
        done_all room (n + k) (lines + l) (ok && c) _ y.0 y.2 (parts_of (entry_part seen) (elems_of es)) (y.1 ∙ ap (before y.0) z ∙ before_last y.0)

-- ---- a run that stops before the last entry

module _ (room : Bytes) (n lines : ℕ) (ok : Bool) (out last : Bytes) where
  -- the others, put into the rest of the room
  rest_put : (d : Part) (o want : Option Part) → want ≡ before d o → Done room n lines ok out d → (r : Laid) → PartAs (mid_of n (length out - n) out) r last o
      → PartAs room (before_lines n lines ok r) (put_mid n (length out - n) out last) want
  rest_put d none want q done r w = subst (PartAs room (before_lines n lines ok r) (put_mid n (length out - n) out last)) (sym q) (ap (before_lines n lines ok) w)
  rest_put d (some x) want q done r w =
      subst (λ (z : Laid). PartAs room z (put_mid n (length out - n) out last) want) (sym (ap (before_lines n lines ok) w.1))
      (done_all room (n + w.0) (lines + length x.lines) (ok && x.carried) _ (join_parts d x) (done_on room n lines ok out d done r last x w w.1) want q)

pub run_more : (s : Bytes) (slots : List ℕ) (at : ℕ) (full parts : Bool) (room : Bytes) (i n lines : ℕ) (ok : Bool) (out : Bytes) → Going s slots at full parts room i n lines ok out
    → PutsRun s slots at full parts room (More n lines ok i) out
run_more s slots at full parts room i n lines ok out going r last puts es a mm ess known m f h =
    let seen = seen_of m ess (members_of mm) in
    let g = going es a mm ess known m f h in
    rest_put room n lines ok out last g.part (parts_of (entry_part seen) (elems_of g.rest)) _ g.is_all g.done r (puts g.rest g.entries mm ess known m f h)
