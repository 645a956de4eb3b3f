-- Type and value after name and parameters, then the head: the whole line.
use mathlib.Core.Path.{◌≡◌, refl, sym, ap, subst, ◌∙◌}
use mathlib.Core.Bool.{Bool, true, false}
use mathlib.Core.List.{List, [], ◌∷◌, ◌++◌, append_assoc}
use mathlib.Core.Option.{Option, none, some}
use Prim.Native.Nat.{ℕ, ◌+◌, ◌-◌, ◌≤◌}
use native.Mathlib.Omega.{arith}
use lib.ListN.{length, take, drop, get_or, take-append-drop}
use lib.Seq.{take-take}
use Rattle.text.specs.Choice.{pick, chain, provided}
use Rattle.text.specs.Bytes.{Bytes, ascii}
use Rattle.text.proofs.Same.{same-swap}
use Rattle.json_text.specs.Tree.{Json, as_string}
use Rattle.json_index.specs.Index.{json_at}
use Rattle.line.specs.Grammar.{Param, param, value_count}
use Rattle.line_table.specs.Spread.{spread_line, valued}
use Rattle.line_table.specs.Table.{part, line_in, Span, Sound}
use Rattle.line_table.proofs.Rows.{Agree, rows_same, spans-same}
use Rattle.convert.specs.FromJson.{kept_as_line}
use Rattle.to_card_kept_entry.specs.strings.Strings.{size, Grew, PutAs, PutsAt, Table, runs_in}
use Rattle.to_card_kept_entry.proofs.strings.Tables.{table-longer, runs_same}
use Rattle.to_card_kept_entry.proofs.strings.Values.{not_end, end_is, not_more, more-end, more-count}
use Rattle.to_card_kept_entry.specs.declared.table.Filled.{Filled}
use Rattle.to_card_kept_entry.specs.table.Kept.{Sofar, group_in, params_in, GroupAt, Has, Stays}
use Rattle.to_card_kept_entry.proofs.table.Params.{part-is}
use Rattle.to_card_kept_entry.proofs.table.Members.{grew-stays, stays_then, group-longer}
use Rattle.to_card_kept_entry.specs.entry.Entry.{type_param, type_fits, AddedType, TypeAs, PutsType, headed_at, HoldsKept, HoldsAs, group_text, kept_of, composed_rest, FillsRest}
use Rattle.to_card_kept_entry.proofs.entry.Final.{headed-agree, headed-length, HeadAt, headed-is, runs-valued}
use Rattle.std.specs.Prelude.{Some, None}
use Rattle.to_card_kept_entry.specs.strings.Strings.{To, RowsTo, more}

-- ---- the group's place

group-part : (d : Bytes) (from to : ℕ) (g : Option Bytes) → GroupAt d from to g → part d from to ≡ group_text g
group-part d from to none h = rw (h.0, h.1)
group-part d from to (some w) h = h.1

group-span : (d : Bytes) (from to : ℕ) (g : Option Bytes) → GroupAt d from to g → Span d from to
group-span d from to none h = record { ordered = omega (arith, h.0, h.1); within = omega (arith, h.1) }
group-span d from to (some w) h = h.0

-- the line's parameters: those of the entry, then VALUE
line-params : (n : Bytes) (z : Sofar) (x v : Bytes) → params_in z ++ type_param x ≡ (kept_as_line (kept_of n z x v)).params
unfolding kept_as_line
line-params n z x v = ap (λ (y : Bool). params_in z ++ pick y [] (param (ascii "value") (x ∷ []) ∷ [])) (same-swap (ascii "unknown") x)

-- ---- the table, when all is put

module _ (b : Bytes) (t : List ℕ) (f : Filled) (e : ℕ) (z : Sofar) (has : Has b t f z) (n : f.end ≤ length b) (l : e ≤ f.end)
    (x : Bytes) (most : ℕ) (r : RowsTo) (c : Bytes) (u : List ℕ) (a : AddedType b f.end t f.rows most r c u x) (wide : 264 ≤ length u)
    (few : f.rows + length (type_param x) ≤ 64) (i : ℕ) (d v : Bytes) (g : Grew c a.end d i v) where
  abbrev rows : ℕ
  rows = f.rows + length (type_param x)

  abbrev qs : List Param
  qs = params_in z ++ type_param x

  abbrev last : List ℕ
  last = headed_at u f.from f.to e a.end i rows

  in_c : a.end ≤ length c
  in_c = omega (arith, a.stays.within, a.stays.long)

  shape : d ≡ take a.end c ++ (v ++ drop i d)
  shape = sym (take-append-drop i d) ∙ ap (λ (y : Bytes). y ++ drop i d) g.is ∙ append_assoc (take a.end c) v (drop i d)

  table : Table d u rows qs
  table = subst (λ (y : Bytes). Table y u rows qs) (sym shape) (table-longer (take a.end c) (v ++ drop i d) u rows qs (a.table (params_in z) has.table))

  stays : Stays b f.end d i
  stays = stays_then a.stays (grew-stays in_c g)

  group : GroupAt d f.from f.to (group_in z)
  group =
      let s : d ≡ take f.end b ++ drop f.end d = sym (take-append-drop f.end d) ∙ ap (λ (y : Bytes). y ++ drop f.end d) stays.is in
      subst (λ (y : Bytes). GroupAt y f.from f.to (group_in z)) (sym s) (group-longer (take f.end b) (drop f.end d) f.from f.to (group_in z) has.group)

  name : part d 0 e ≡ take e b
  name = let z : e - 0 ≡ e = omega arith in ap (λ (j : ℕ). take j d) z ∙ sym (take-take e f.end d l) ∙ ap (take e) stays.is ∙ take-take e f.end b l

  value : part d a.end i ≡ v
  value = part-is c a.end d i v in_c g

  head : HeadAt last f.from f.to e a.end i rows
  head = headed-is u f.from f.to e a.end i rows wide

  agree : Agree rows u last
  agree = headed-agree u f.from f.to e a.end i rows rows

  held : line_in d last ≡ spread_line (kept_as_line (kept_of (take e b) z x v))
  unfolding line_in kept_as_line
  held =
      let k = head in
      rw (k.at-0, k.at_1, k.at-2, k.at-3, k.at-4, k.at_5, k.at-6, group-part d f.from f.to (group_in z) group, name, value, rows_same d rows u last agree, table.rows, line-params (take e b) z x v)

  runs : runs_in d last (get_or last 6 0) ≡ (kept_as_line (kept_of (take e b) z x v)).params
  runs = ap (runs_in d last) head.at-6 ∙ runs_same d rows u last agree ∙ table.runs ∙ line-params (take e b) z x v

  sound : Sound d last
  sound =
      let k = head in
      record {
        wide = omega (arith, headed-length u f.from f.to e a.end i rows);
        few = omega (arith, k.at-6);
        group = rw (k.at-0, k.at_1) (group-span d f.from f.to (group_in z) group);
        name = rw (k.at-2, k.at-3) (record { ordered = omega arith; within = omega (arith, stays.from, stays.within, stays.long) });
        value = rw (k.at-4, k.at_5) (record { ordered = omega (arith, g.to); within = omega (arith, g.within, g.long) });
        rows = rw k.at-6 (spans-same d rows u last agree table.spans);
      }

  holds : HoldsKept d last (kept_of (take e b) z x v)
  holds = record { held = held; runs = runs; valued = ap valued (sym runs) ∙ runs-valued d last (get_or last 6 0); sound = sound }

-- ---- `put_rest`

abbrev fitting : Sofar → Json → Option Bytes
fitting z j = chain (as_string j) λ x. provided (type_fits (value_count (params_in z)) (length (params_in z)) x) (some x)

module _ (b : Bytes) (t : List ℕ) (f : Filled) (e : ℕ) (s : Bytes) (kind value : ℕ) (r : RowsTo) (c : Bytes) (u : List ℕ) (puts : PutsType b f.end t f.rows f.count s kind r c u) where
  typed : (z : Sofar) → Has b t f z → (j : Json) → json_at 13 s kind ≡ some j → f.end + (5 + size j) ≤ length b → TypeAs b f.end t f.rows (f.end + (5 + size j)) r c u (fitting z j)
  typed z h j w l =
      subst (λ (m : ℕ). TypeAs b f.end t f.rows (f.end + (5 + size j)) r c u (chain (as_string j) λ x. provided (type_fits m (length (params_in z)) x) (some x))) h.few
      (subst (λ (m : ℕ). TypeAs b f.end t f.rows (f.end + (5 + size j)) r c u (chain (as_string j) λ x. provided (type_fits f.rows m x) (some x))) h.many (puts 13 j w l))

  pub rest-untyped : r ≡ None → FillsRest b t f e s kind value false c u
  unfolding composed_rest
  rest-untyped q z h jt jv w y l = by (fitting z jt) (typed z h jt w (omega arith))
    where
      by : (o : Option Bytes) → TypeAs b f.end t f.rows (f.end + (5 + size jt)) r c u o → HoldsAs c u false (chain o λ x. chain (as_string jv) λ v. some (kept_of (take e b) z x v))
      by none p = refl
      by (some x) p = absurd (not_more (sym q ∙ p.said))

  module _ (k m : ℕ) (q : r ≡ more k m) (o : To) (d : Bytes) (put : PutsAt c k s value o d) where
    valued-at : (z : Sofar) (jt jv : Json) (x : Bytes) → AddedType b f.end t f.rows (f.end + (5 + size jt)) r c u x → json_at 13 s value ≡ some jv → f.end + (5 + size jt) + size jv ≤ length b
        → PutAs c k o d (as_string jv)
    valued-at z jt jv x p w l = put 13 jv w (omega (arith, more-end (sym p.said ∙ q), p.short, p.stays.long, l))

    pub rest-valueless : o ≡ None → FillsRest b t f e s kind value false d u
    unfolding composed_rest
    rest-valueless y z h jt jv w w' l = by (fitting z jt) (typed z h jt w (omega arith))
      where
        val : (x : Bytes) (i : Option Bytes) → PutAs c k o d i → HoldsAs d u false (chain i λ v. some (kept_of (take e b) z x v))
        val x none p = refl
        val x (some v) p = absurd (not_end (sym y ∙ p.1))

        by : (i : Option Bytes) → TypeAs b f.end t f.rows (f.end + (5 + size jt)) r c u i → HoldsAs d u false (chain i λ x. chain (as_string jv) λ v. some (kept_of (take e b) z x v))
        by none p = refl
        by (some x) p = val x (as_string jv) (valued-at z jt jv x p w' l)

    pub rest-whole : f.end ≤ length b → e ≤ f.end → 264 ≤ length u → m ≤ 64 → (i : ℕ) → o ≡ Some i → {last : List ℕ} → last ≡ headed_at u f.from f.to e k i m → FillsRest b t f e s kind value true d last
    unfolding composed_rest
    rest-whole n l wide few i y {last} is z h jt jv w w' room = by (fitting z jt) (typed z h jt w (omega arith))
      where
        val : (x : Bytes) → AddedType b f.end t f.rows (f.end + (5 + size jt)) r c u x → (j : Option Bytes) → PutAs c k o d j → HoldsAs d last true (chain j λ v. some (kept_of (take e b) z x v))
        val x a none p = absurd (not_end (sym p ∙ y))
        val x a (some v) p =
            let ke : k ≡ a.end = more-end (sym q ∙ a.said) in
            let me : m ≡ f.rows + length (type_param x) = more-count (sym q ∙ a.said) in
            let g : Grew c a.end d i v = subst (λ (j : ℕ). Grew c j d i v) ke (subst (λ (j : ℕ). Grew c k d j v) (end_is (sym p.1 ∙ y)) p.2) in
            let la : headed_at u f.from f.to e a.end i (f.rows + length (type_param x)) ≡ last =
            ap (λ (j : ℕ). headed_at u f.from f.to e j i (f.rows + length (type_param x))) (sym ke) ∙ ap (headed_at u f.from f.to e k i) (sym me) ∙ sym is in
            (refl, subst (λ (j : List ℕ). HoldsKept d j (kept_of (take e b) z x v)) la (holds b t f e z h n l x (f.end + (5 + size jt)) r c u a wide (omega (arith, me, few)) i d v g))

        by : (j : Option Bytes) → TypeAs b f.end t f.rows (f.end + (5 + size jt)) r c u j → HoldsAs d last true (chain j λ x. chain (as_string jv) λ v. some (kept_of (take e b) z x v))
        by none p = absurd (not_more (sym p ∙ q))
        by (some x) p = val x p (as_string jv) (valued-at z jt jv x p w' room)
