-- Units of an organization: one, and the ways out of the pass over them.
use mathlib.Core.Path.{◌≡◌, refl, sym, ap, subst, ◌∙◌}
use Rattle.std.specs.Prelude.{Err}
use Rattle.to_card_pen.specs.Refusal.{no_card}
use mathlib.Core.Bool.{Bool, true, false, ◌&&◌, ◌||◌, not}
use mathlib.Core.List.{List, [], ◌∷◌, ◌++◌, map, append_assoc, append-nil}
use mathlib.Core.Option.{Option, none, some}
use Prim.Native.Nat.{ℕ, zero, suc, ◌+◌, ◌-◌, ◌<◌}
use native.Mathlib.Omega.{arith}
use borrow.Rule.Slice.PartMut.{mid_of, put_mid}
use lib.ListN.{length, drop, get_or}
use Rattle.text.specs.Places.{Read}
use Rattle.std.proofs.Common.{Continue, Break}
use Rattle.text.specs.Choice.{with-some, is_some, chain, provided}
use Rattle.text.specs.Bytes.{Bytes, ascii, any, all, among, flat, each, parts, on_head}
use Rattle.text.specs.Reader.{got, loop}
use Rattle.text.specs.Places.{byte_at, Passes, GivesT}
use Rattle.text.proofs.Cases.{not-both, not-true, not-false}
use Rattle.json_text.specs.Grammar.{is_space}
use Rattle.json_text.specs.Tree.{Json, Elems, elems_of, Member, field, as_string, as_array, as_object}
use Rattle.json_text.specs.Syntax.{sep, item, value}
use Rattle.json_text.specs.Strings.{decoded_elems}
use Rattle.json_strings.specs.Decoded.{decoded_at}
use Rattle.json_access.specs.declared.Part.{Part}
use Rattle.json_access.specs.Access.{TellsElement}
use Rattle.json_index.specs.Index.{json_at, first_at, Clear, IndexOf, Indexes}
use Rattle.json_index.proofs.Fields.{first_field, first-other}
use Rattle.line_pen.specs.Pen.{Pens}
use Rattle.line_pen.proofs.Laws.{pens-as, pens-none, pens-then}
use Rattle.convert.specs.Value.{filled}
use Rattle.convert.specs.FromJson.{only_members, unit_from}
use Rattle.to_card_params.proofs.Walk.{slot-none, slot-some, none-past}
use Rattle.to_card_value.specs.declared.Inked.{Inked}
use Rattle.to_card_value.specs.Values.{StringIs, TellsText, TellsUnit, unit_piece, unit_carried, UnitInks, units_piece, UnitsAs, UnitsFrom, units_in, TellsUnits, Ink, inked}
use Rattle.to_card_value.proofs.Elements.{not-array, empty-array, array-elements, Far, far-first, now_of}

-- ---- one unit: an object with a name alone

pub clear-two : Clear (0 ∷ 0 ∷ [])
clear-two zero = refl
clear-two (suc zero) = refl
clear-two (suc (suc i)) = refl

pub one_name : length (parts 44 (ascii "name")) < 2
unfolding parts on_head
one_name = omega arith

name-parts : parts 44 (ascii "name") ≡ ascii "name" ∷ []
unfolding parts on_head
name-parts = refl

module _ (s : Bytes) (at : ℕ) (xs : List ℕ) (c : Bool) (ix : Indexes 11 s at (ascii "name") xs c) where
  unit-of : (r : ℕ) → ((v : Json) → json_at 12 s at ≡ some v → (o : Option (List Member)) → as_object v ≡ o → IndexOf 11 s (ascii "name" ∷ []) xs c o
      → StringIs s r (chain o λ ms. provided (only_members (ascii "name" ∷ []) ms) (chain (field (ascii "name") ms) as_string))) → TellsUnit s at r
  unfolding unit_from
  unit-of r f v w =
      let i : IndexOf 11 s (ascii "name" ∷ []) xs c (as_object v) = subst (λ (ns : List Bytes). IndexOf 11 s ns xs c (as_object v)) name-parts (ix v w) in
      f v w (as_object v) refl i

  pub unit-flat : not c ≡ true → TellsUnit s at 0
  unit-flat h = unit-of 0 by
    where
      by : (v : Json) → json_at 12 s at ≡ some v → (o : Option (List Member)) → as_object v ≡ o → IndexOf 11 s (ascii "name" ∷ []) xs c o
          → StringIs s 0 (chain o λ ms. provided (only_members (ascii "name" ∷ []) ms) (chain (field (ascii "name") ms) as_string))
      by v w none e i = refl
      by v w (some ms) e i = not-both i.0 (not-true c h)

  only-is : (ms : List Member) → only_members (ascii "name" ∷ []) ms ≡ not (is_some (first_at (ascii "name" ∷ []) 1 ms))
  unfolding only_members
  only-is ms = first-other (ascii "name" ∷ []) ms

  first-is : (ms : List Member) → first_at (ascii "name" ∷ []) 0 ms ≡ field (ascii "name") ms
  unfolding among any
  first-is ms = first_field (ascii "name" ∷ []) 0 (omega arith) refl ms

  module _ (h : not c ≡ false) where
    pub unit-more : (get_or xs 1 0 ≡ 0 → ⊥) → TellsUnit s at 0
    unit-more n = unit-of 0 by
      where
        by : (v : Json) → json_at 12 s at ≡ some v → (o : Option (List Member)) → as_object v ≡ o → IndexOf 11 s (ascii "name" ∷ []) xs c o
            → StringIs s 0 (chain o λ ms. provided (only_members (ascii "name" ∷ []) ms) (chain (field (ascii "name") ms) as_string))
        by v w none e i = refl
        by v w (some ms) e i =
            let x = slot-some (i.1 1) n in
            let z : only_members (ascii "name" ∷ []) ms ≡ false = only-is ms ∙ ap (λ (o : Option Json). not (is_some o)) x.1 in
            subst (StringIs s 0) (sym (ap (λ (b : Bool). provided b (chain (field (ascii "name") ms) as_string)) z)) refl

    pub unit-is : get_or xs 1 0 ≡ 0 → (r : ℕ) → TellsText s (get_or xs 0 0) r → TellsUnit s at r
    unit-is n r t = unit-of r by
      where
        by : (v : Json) → json_at 12 s at ≡ some v → (o : Option (List Member)) → as_object v ≡ o → IndexOf 11 s (ascii "name" ∷ []) xs c o
            → StringIs s r (chain o λ ms. provided (only_members (ascii "name" ∷ []) ms) (chain (field (ascii "name") ms) as_string))
        by v w none e i = not-both (not-false c h) i
        by v w (some ms) e i =
            let z : only_members (ascii "name" ∷ []) ms ≡ true = only-is ms ∙ ap (λ (o : Option Json). not (is_some o)) (slot-none (i.1 1) n) in
            let f : first_at (ascii "name" ∷ []) 0 ms ≡ field (ascii "name") ms = first-is ms in
            subst (StringIs s r) (sym (ap (λ (b : Bool). provided b (chain (field (ascii "name") ms) as_string)) z ∙ ap (λ (o : Option Json). chain o as_string) (sym f))) (t 11 (first_at (ascii "name" ∷ []) 0 ms) (i.1 0))

-- ---- units so far

units-more : (us : List Bytes) (x : Bytes) → units_piece us ++ unit_piece x ≡ units_piece (us ++ (x ∷ []))
unfolding units_piece flat
units-more [] x = sym (append-nil (unit_piece x))
units-more (u ∷ us) x = append_assoc (unit_piece u) (flat (map unit_piece us)) (unit_piece x) ∙ ap (λ (l : Bytes). unit_piece u ++ l) (units-more us x)

all_more : (us : List Bytes) (x : Bytes) → (all unit_carried us && unit_carried x) ≡ all unit_carried (us ++ (x ∷ []))
unfolding all
all_more [] x = go (unit_carried x)
  where
    go : (b : Bool) → (true && b) ≡ (b && true)
    go true = refl
    go false = refl
all_more (u ∷ us) x = go (unit_carried u) (all unit_carried us) (unit_carried x) ∙ ap (λ (b : Bool). unit_carried u && b) (all_more us x)
  where
    go : (a b c : Bool) → ((a && b) && c) ≡ (a && (b && c))
    go true b c = refl
    go false b c = refl

any-more : (us : List Bytes) (x : Bytes) → (any filled us || filled x) ≡ any filled (us ++ (x ∷ []))
unfolding any
any-more [] x = go (filled x)
  where
    go : (b : Bool) → (false || b) ≡ (b || false)
    go true = refl
    go false = refl
any-more (u ∷ us) x = go (filled u) (any filled us) (filled x) ∙ ap (λ (b : Bool). filled u || b) (any-more us x)
  where
    go : (a b c : Bool) → ((a || b) || c) ≡ (a || (b || c))
    go true b c = refl
    go false b c = refl

no-piece : units_piece [] ≡ []
unfolding units_piece flat
no-piece = refl

no-carried : all unit_carried [] ≡ true
unfolding all
no-carried = refl

no-filled : any filled [] ≡ false
unfolding any
no-filled = refl

-- ---- the pass

pub record Going (s : Bytes) (at : ℕ) (room : Bytes) (column i n k : ℕ) (ok full : Bool) (out : Bytes) : Type 0 where
  pub bytes : Bytes
  pub pens : Pens room column bytes (record { bytes = n; column = k }) out
  pub so : (us es : Elems) (t : Bytes) → loop (item (value 12)) (drop at s) ≡ got us t → decoded_elems us ≡ some es
      → (done : List Bytes) × Far unit_from 12 s (elems_of es) t i done × (bytes ≡ units_piece done) × (ok ≡ all unit_carried done) × (full ≡ any filled done)

pub going-first : (s : Bytes) (at : ℕ) (room : Bytes) (column : ℕ) → Going s at room column at 0 column true false room
going-first s at room column = record { bytes = []; pens = pens-none room column; so = λ us es t e f. ([], far-first unit_from 12 s us es t at e f, sym no-piece, sym no-carried, sym no-filled) }

done-is : {n k : ℕ} {a b c d : Bool} → a ≡ b → c ≡ d → inked n k a c ≡ inked n k b d
done-is {n} {k} {a} {b} {c} {d} e f = ap (λ (x : Bool). inked n k x c) e ∙ ap (inked n k b) f

units-as : (room : Bytes) (column : ℕ) (r : Ink) (after : Bytes) {o p : Option (List Bytes)} → o ≡ p → UnitsAs room column r after p → UnitsAs room column r after o
units-as room column r after e x = subst (UnitsAs room column r after) (sym e) x

module _ (s : Bytes) (at : ℕ) (room : Bytes) (column i n k : ℕ) (ok full : Bool) (out : Bytes) (g : Going s at room column i n k ok full out) (r : Part) (told : TellsElement 12 s i r)
    (q : ℕ) (unit : TellsUnit s r.start q) where
  pub units-wrong : (after : Bytes) → q ≡ 0 → UnitsFrom s at room column (Err no_card) after
  units-wrong after z us es t e f =
      let y = g.so us es t e f in
      let w = now_of y.1 r told in
      units-as room column (Err no_card) after (w.fails (by (unit_from w.val) (unit w.val w.is-val))) refl
    where
      by : (o : Option Bytes) → StringIs s q o → o ≡ none
      by none h = refl
      by (some x) h = absurd (omega (arith, h.0))

  module _ (nz : q ≡ 0 → ⊥) (p : Inked) (last : Bytes) (ink : UnitInks s q (mid_of n (length out - n) out) k p last) where
    taken : (o : Option Bytes) → StringIs s q o → (x : Bytes) × (o ≡ some x) × (decoded_at s q ≡ some x)
    taken none h = absurd (nz h)
    taken (some x) h = (x, refl, h.1)

    pens-on : Pens room column (g.bytes ++ ink.bytes) (record { bytes = n + p.bytes; column = p.column }) (put_mid n (length out - n) out last)
    pens-on = pens-then g.pens ink.pens

    so_far : (done : List Bytes) (x : Bytes) → decoded_at s q ≡ some x → g.bytes ≡ units_piece done → ok ≡ all unit_carried done → full ≡ any filled done
        → (g.bytes ++ ink.bytes ≡ units_piece (done ++ (x ∷ []))) × ((ok && p.carried) ≡ all unit_carried (done ++ (x ∷ []))) × ((full || p.filled) ≡ any filled (done ++ (x ∷ [])))
    so_far done x e a b c = (
      ap (λ (l : Bytes). l ++ ink.bytes) a ∙ ap (λ (l : Bytes). units_piece done ++ l) (ink.is x e) ∙ units-more done x,
      ap (λ (l : Bool). l && p.carried) b ∙ ap (λ (l : Bool). all unit_carried done && l) (ink.carried x e) ∙ all_more done x,
      ap (λ (l : Bool). l || p.filled) c ∙ ap (λ (l : Bool). any filled done || l) (ink.filled x e) ∙ any-more done x,
    )

    pub units-on : (j : ℕ) → GivesT s r.end (sep 93 zero suc (drop r.end s)) (Continue j) → Going s at room column j (n + p.bytes) p.column (ok && p.carried) (full || p.filled) (put_mid n (length out - n) out last)
    units-on j v = record {
      bytes = g.bytes ++ ink.bytes;
      pens = pens-on;
      so = λ us es t e f.
          let y = g.so us es t e f in
          let w = now_of y.1 r told in
          let x = taken (unit_from w.val) (unit w.val w.is-val) in
          let z = so_far y.0 x.0 x.2 y.2 y.3 y.4 in
          (y.0 ++ (x.0 ∷ []), w.goes x.0 x.1 j v, z.0, z.1, z.2);
    }

    pub units-all : (v : Read) → GivesT s r.end (sep 93 zero suc (drop r.end s)) (Break v)
        → UnitsFrom s at room column (inked (n + p.bytes) p.column (ok && p.carried) (full || p.filled)) (put_mid n (length out - n) out last)
    units-all v b us es t e f =
        let y = g.so us es t e f in
        let w = now_of y.1 r told in
        let x = taken (unit_from w.val) (unit w.val w.is-val) in
        let z = so_far y.0 x.0 x.2 y.2 y.3 y.4 in
        units-as room column (inked (n + p.bytes) p.column (ok && p.carried) (full || p.filled)) (put_mid n (length out - n) out last) (w.ends x.0 x.1 v b)
        (n + p.bytes, p.column, done-is z.1 z.2, pens-as z.0 pens-on)

-- ---- by the slot

module _ (s : Bytes) (slot : ℕ) (room : Bytes) (column : ℕ) where
  no-units : UnitsAs room column (inked 0 column true false) room (some [])
  no-units = (0, column, done-is (sym no-carried) (sym no-filled), pens-as (sym no-piece) (pens-none room column))

  pub units-absent : slot ≡ 0 → TellsUnits s slot room column (inked 0 column true false) room
  unfolding units_in
  units-absent e o h = units-as room column (inked 0 column true false) room (ap (λ (x : Option Json). with-some x (λ v. chain (as_array v) (each unit_from)) (some [])) (slot-none h e)) no-units

  module _ (n : slot ≡ 0 → ⊥) where
    by_value : (r : Ink) (after : Bytes) → ((v : Json) → json_at 13 s slot ≡ some v → UnitsAs room column r after (chain (as_array v) (each unit_from))) → TellsUnits s slot room column r after
    unfolding units_in
    by_value r after g o h = let v = slot-some h n in units-as room column r after (ap (λ (x : Option Json). with-some x (λ v. chain (as_array v) (each unit_from)) (some [])) v.1) (g v.0 v.2)

    pub units-past : (after : Bytes) → length s < slot → TellsUnits s slot room column (Err no_card) after
    units-past after l = by_value (Err no_card) after (λ v e. none-past 13 s slot v l e)

    module _ (i b : ℕ) (h : Passes is_space s slot i) (e : b ≡ byte_at s i) where
      pub units-none : (after : Bytes) → (b ≡ 91 → ⊥) → TellsUnits s slot room column (Err no_card) after
      units-none after m = by_value (Err no_card) after (λ v w. units-as room column (Err no_card) after (ap (λ (o : Option (List Json)). chain o (each unit_from)) (not-array 12 s slot i b h e m v w)) refl)

      module _ (q : b ≡ 91) (j c : ℕ) (k : Passes is_space s (i + 1) j) (f : c ≡ byte_at s j) where
        each_nil : each unit_from [] ≡ some []
        unfolding each
        each_nil = refl

        pub units-empty : c ≡ 93 → TellsUnits s slot room column (inked 0 column true false) room
        units-empty m = by_value (inked 0 column true false) room (λ v w.
            units-as room column (inked 0 column true false) room (ap (λ (o : Option (List Json)). chain o (each unit_from)) (empty-array 12 s slot i b h e q j c k f m v w) ∙ each_nil) no-units)

        pub units-full : (c ≡ 93 → ⊥) → (r : Ink) (after : Bytes) → UnitsFrom s j room column r after → TellsUnits s slot room column r after
        units-full m r after g = by_value r after (λ v w.
            let o = array-elements 12 s slot i b h e q j c k f m v w in
            units-as room column r after (ap (λ (o : Option (List Json)). chain o (each unit_from)) o.5) (g o.0 o.1 o.2 o.3 o.4))
