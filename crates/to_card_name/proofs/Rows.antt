-- The lines of FN and N.
use mathlib.Core.Path.{◌≡◌, refl, sym, ap, ◌∙◌}
use mathlib.Core.Bool.{Bool, true, false, ◌&&◌, not}
use mathlib.Core.List.{List, [], ◌∷◌, ◌++◌}
use mathlib.Core.Option.{Option, none, some}
use Prim.Native.Nat.{ℕ, ◌+◌, ◌-◌}
use native.Mathlib.Omega.{arith}
use borrow.Rule.Slice.PartMut.{mid_of, put_mid}
use lib.ListN.{length, get_or}
use Rattle.text.specs.Choice.{with-some}
use Rattle.text.specs.Bytes.{Bytes, ascii, all, any, empty, flat, joined, same, uppered, upper, between}
use Rattle.line.specs.Class.{is_bare}
use Rattle.line.specs.Grammar.{Line}
use Rattle.line.specs.Text.{write_text}
use Rattle.line.specs.Write.{width, breaks, fold, fold_from, write_value, write_values, write_params, write_group, write_line}
use Rattle.line_pen.specs.Pen.{Fills}
use Rattle.line_pen.proofs.Filling.{then}
use Rattle.to_card_pen.specs.Styles.{written_in, all_stand_in}
use Rattle.to_card_pen.proofs.Styles.{written-text, stands-text}
use Rattle.json_strings.specs.Decoded.{decoded_at}
use Rattle.convert.specs.Table.{name_row}
use Rattle.convert.specs.Model.{part, has_parts}
use Rattle.convert.specs.Value.{write_name}
use Rattle.convert.specs.FromJson.{Component, by_kind}
use Rattle.convert.specs.Carry.{carried_text, apart, apart_parts}
use Rattle.convert.specs.Property.{property}
use Rattle.convert.specs.ToCard.{line_where, derived_line}
use Rattle.to_card_value.specs.Values.{StringIs}
use Rattle.to_card_lines.specs.declared.Penned.{Penned}
use Rattle.to_card_lines.specs.Lines.{line_bytes, lines_bytes, PartAs, StringLine, laid}
use Rattle.to_card_lines.proofs.Laws.{lines_none, lines-one, lines-append, fills-none, fills-as}
use Rattle.to_card_parts.specs.Parts.{values_of}
use Rattle.to_card_order.specs.Order.{order_from, carried_order}
use Rattle.to_card_name.specs.declared.Counted.{Counted}
use Rattle.to_card_name.specs.Name.{name_of, fn_line, n_line, parts_carried, name_lines, TellsParts, TellsApart, OrderLine, FnLine, NLine, PutsAlone, PutsBoth}
use Rattle.to_card_name.proofs.Orders.{name-order, derived-order, carried-order}

-- ---- a line by its bytes

fn-bytes : (v : Bytes) → write_line (property (ascii "fn") [] v) ≡ ascii "FN:" ++ v
unfolding write_line write_group write_params uppered upper between
fn-bytes v = refl

n-bytes : (v : Bytes) → write_line (property (ascii "n") [] v) ≡ ascii "N:" ++ v
unfolding write_line write_group write_params uppered upper between
n-bytes v = refl

derived-bytes : (ps : List (List Bytes)) → write_line (derived_line ps) ≡ ascii "FN;DERIVED=TRUE:" ++ write_text false (joined (ascii " ") (flat ps))
unfolding derived_line write_line write_group write_params write_values write_value uppered upper between same all is_bare
derived-bytes ps = refl

with-end : (l : Line) (x : Bytes) → write_line l ≡ x → fold_from 0 x ++ (13 ∷ 10 ∷ []) ≡ line_bytes l
unfolding line_bytes fold
with-end l x e = ap (λ (y : Bytes). fold_from 0 y ++ (13 ∷ 10 ∷ [])) (sym e)

-- ---- FN

none-at : (s : Bytes) (q : ℕ) (f : Option Bytes) → q ≡ 0 → StringIs s q f → f ≡ none
none-at s q none e h = refl
none-at s q (some x) e h = absurd (omega (arith, h.0))

some_at : (s : Bytes) (q : ℕ) (f : Option Bytes) → (q ≡ 0 → ⊥) → StringIs s q f → (x : Bytes) × (f ≡ some x) × (decoded_at s q ≡ some x)
some_at s q none n h = absurd (n h)
some_at s q (some x) n h = (x, refl, h.1)

by-kinds : (cs : List Component) → order_from 1 32 (by_kind cs) false (ascii "0123456") ≡ write_text false (joined (ascii " ") (flat (by_kind cs)))
unfolding by_kind
by-kinds cs = derived-order _ _ _ _ _ _ _

n-kinds : (cs : List Component) → order_from 2 44 (by_kind cs) false (ascii "05;1;2;3;46;5;6") ≡ write_name (by_kind cs)
unfolding by_kind
n-kinds cs = name-order _ _ _ _ _ _ _

carried-kinds : (cs : List Component) → carried_order 2 (by_kind cs) (ascii "05;1;2;3;46;5;6") ≡ all (all carried_text) (by_kind cs)
unfolding by_kind
carried-kinds cs = carried-order _ _ _ _ _ _ _

full-line : (s : Bytes) (q : ℕ) (f : Option Bytes) (ps : List (List Bytes)) → (q ≡ 0 → ⊥) → StringIs s q f → (text : Bytes) → ((x : Bytes) → decoded_at s q ≡ some x → text ≡ x) → (ok : Bool) → ok ≡ all_stand_in 1 text
    → (fold_from 0 (ascii "FN:" ++ written_in 1 text) ++ (13 ∷ 10 ∷ []) ≡ line_bytes (fn_line (record { full = f; parts = ps }))) × (ok ≡ with-some f carried_text true)
full-line s q f ps n h text is ok e =
    let x = some_at s q f n h in
    let t : text ≡ x.0 = is x.0 x.2 in
    let y : f ≡ some text = x.1 ∙ ap some (sym t) in
    let l = property (ascii "fn") [] (write_text false text) in (
      with-end l (ascii "FN:" ++ written_in 1 text) (fn-bytes (write_text false text) ∙ ap (λ (z : Bytes). ascii "FN:" ++ z) (sym (written-text text))) ∙ ap (λ (g : Option Bytes). line_bytes (fn_line (record { full = g; parts = ps }))) (sym y),
      e ∙ stands-text text ∙ ap (λ (g : Option Bytes). with-some g carried_text true) (sym y),
    )

module _ (s : Bytes) (full at : ℕ) (m : List ℕ) (room : Bytes) where
  pub fn-full : (full ≡ 0 → ⊥) → (p : Penned) (after : Bytes) → StringLine s full 1 (ascii "FN:") room p after → FnLine s full at m room p after
  fn-full n p after g = record {
    text = fold_from 0 (ascii "FN:" ++ written_in 1 g.text) ++ (13 ∷ 10 ∷ []);
    fills = g.fills;
    says = λ f h cs l k. full-line s full f (by_kind cs) n h g.text g.is p.carried g.carried;
  }

  pub fn-derived : full ≡ 0 → (p : Penned) (after : Bytes) → OrderLine s at m 1 32 (ascii "FN;DERIVED=TRUE:") (ascii "0123456") room p after → FnLine s full at m room (record { bytes = p.bytes; carried = true }) after
  fn-derived e p after g = record {
    text = fold_from 0 (ascii "FN;DERIVED=TRUE:" ++ g.text) ++ (13 ∷ 10 ∷ []);
    fills = g.fills;
    says = λ f h cs l k.
        let y : f ≡ none = none-at s full f e h in
        let t : g.text ≡ write_text false (joined (ascii " ") (flat (by_kind cs))) = (g.says cs l k).0 ∙ by-kinds cs in (
          with-end (derived_line (by_kind cs)) (ascii "FN;DERIVED=TRUE:" ++ g.text) (derived-bytes (by_kind cs) ∙ ap (λ (z : Bytes). ascii "FN;DERIVED=TRUE:" ++ z) (sym t))
              ∙ ap (λ (o : Option Bytes). line_bytes (fn_line (name_of o cs))) (sym y),
          sym (ap (λ (o : Option Bytes). with-some o carried_text true) y),
        );
  }

-- ---- N

none-there : (ps : List (List Bytes)) → any (λ vs. not (empty vs)) ps ≡ false → (i : ℕ) → part ps i ≡ []
unfolding any
none-there [] e i = by i
  where
    by : (i : ℕ) → get_or {A = List Bytes} [] i [] ≡ []
    by Prim.Native.Nat.zero = refl
    by (Prim.Native.Nat.suc i) = refl
none-there ([] ∷ ps) e Prim.Native.Nat.zero = refl
none-there ([] ∷ ps) e (Prim.Native.Nat.suc i) = none-there ps e i
none-there ((v ∷ vs) ∷ ps) e i = let z : ◌≡◌ {A = ℕ} 0 1 = cc in absurd (omega arith)

none-carried : (ps : List (List Bytes)) → any (λ vs. not (empty vs)) ps ≡ false → all (all carried_text) ps ≡ true
unfolding any all
none-carried [] e = refl
none-carried ([] ∷ ps) e = none-carried ps e
none-carried ((v ∷ vs) ∷ ps) e = let z : ◌≡◌ {A = ℕ} 0 1 = cc in absurd (omega arith)

apart_none : (ws : List Bytes) → apart [] ws ≡ true
unfolding apart all
apart_none ws = refl

parts_none : (ps : List (List Bytes)) → has_parts ps ≡ false → parts_carried ps ≡ true
unfolding has_parts parts_carried apart_parts
parts_none ps e =
    let a : apart (part ps 0) (part ps 5) ≡ true = ap (λ (x : List Bytes). apart x (part ps 5)) (none-there ps e 0) ∙ apart_none (part ps 5) in
    let b : apart (part ps 4) (part ps 6) ≡ true = ap (λ (x : List Bytes). apart x (part ps 6)) (none-there ps e 4) ∙ apart_none (part ps 6) in
    rw (none-carried ps e, a, b)

and-end : (b : Bool) → b ≡ (b && true)
and-end true = refl
and-end false = refl

apart-kinds : (cs : List Component) (a b : Bool) → a ≡ apart (values_of 0 cs) (values_of 5 cs) → b ≡ apart (values_of 4 cs) (values_of 6 cs)
    → (a && b) ≡ apart_parts name_row (by_kind cs)
unfolding by_kind values_of apart_parts
apart-kinds cs a b e f = ap (λ (x : Bool). x && b) e ∙ ap (λ (x : Bool). apart (values_of 0 cs) (values_of 5 cs) && x) (f ∙ and-end (apart (values_of 4 cs) (values_of 6 cs)))

module _ (s : Bytes) (at : ℕ) (m : List ℕ) (room : Bytes) (b : Bool) (told : TellsParts m b) where
  pub n-none : b ≡ false → NLine s at m room (record { bytes = 0; lines = 0; carried = true }) room
  n-none e = record {
    text = [];
    fills = fills-none room;
    few = omega arith;
    says = λ cs l k.
        let h : has_parts (by_kind cs) ≡ false = sym (told cs k) ∙ e in
        (sym (ap (λ (x : Bool). lines_bytes (line_where x (n_line (by_kind cs)))) h ∙ lines_none), sym (ap (λ (x : Bool). length (line_where x (n_line (by_kind cs)))) h), sym (parts_none (by_kind cs) h));
  }

  pub n-line : b ≡ true → (p : Penned) (after : Bytes) → OrderLine s at m 2 44 (ascii "N:") (ascii "05;1;2;3;46;5;6") room p after → (c d : Bool) → TellsApart s at m 0 5 c → TellsApart s at m 4 6 d
      → NLine s at m room (record { bytes = p.bytes; lines = 1; carried = p.carried && (c && d) }) after
  unfolding parts_carried
  n-line e p after g c d tc td = record {
    text = fold_from 0 (ascii "N:" ++ g.text) ++ (13 ∷ 10 ∷ []);
    fills = g.fills;
    few = omega arith;
    says = λ cs l k.
        let h : has_parts (by_kind cs) ≡ true = sym (told cs k) ∙ e in
        let w = g.says cs l k in
        let t : g.text ≡ write_name (by_kind cs) = w.0 ∙ n-kinds cs in (
          with-end (n_line (by_kind cs)) (ascii "N:" ++ g.text) (n-bytes (write_name (by_kind cs)) ∙ ap (λ (z : Bytes). ascii "N:" ++ z) (sym t))
              ∙ sym (ap (λ (x : Bool). lines_bytes (line_where x (n_line (by_kind cs)))) h ∙ lines-one (n_line (by_kind cs))),
          sym (ap (λ (x : Bool). length (line_where x (n_line (by_kind cs)))) h),
          ap (λ (x : Bool). x && (c && d)) (w.1 ∙ carried-kinds cs) ∙ ap (λ (x : Bool). all (all carried_text) (by_kind cs) && x) (apart-kinds cs c d (tc cs l k) (td cs l k)),
        );
  }

-- ---- both

pub no-kinds : by_kind [] ≡ ([] ∷ [] ∷ [] ∷ [] ∷ [] ∷ [] ∷ [] ∷ [])
unfolding by_kind flat
no-kinds = refl

module _ (s : Bytes) (full : ℕ) (room : Bytes) where
  alone : (f : Option Bytes) (ps : List (List Bytes)) → has_parts ps ≡ false → (n : ℕ) (ok : Bool) (after text : Bytes) → Fills room text n after → text ≡ line_bytes (fn_line (record { full = f; parts = ps }))
      → ok ≡ with-some f carried_text true → PartAs room (laid n 1 ok) after (some (name_lines (record { full = f; parts = ps })))
  unfolding name_lines
  alone f ps h n ok after text w t c =
      let l : line_where (has_parts ps) (n_line ps) ≡ [] = ap (λ (x : Bool). line_where x (n_line ps)) h in
      let k : ok ≡ with-some f carried_text true && parts_carried ps = c ∙ and-end (with-some f carried_text true) ∙ ap (λ (x : Bool). with-some f carried_text true && x) (sym (parts_none ps h)) in (
        n,
        ap (λ (x : List Line). laid n (length (fn_line (record { full = f; parts = ps }) ∷ x)) ok) (sym l) ∙ ap (laid n (length (fn_line (record { full = f; parts = ps }) ∷ line_where (has_parts ps) (n_line ps)))) k,
        fills-as (t ∙ sym (lines-one (fn_line (record { full = f; parts = ps }))) ∙ ap (λ (x : List Line). lines_bytes (fn_line (record { full = f; parts = ps }) ∷ x)) (sym l)) w,
      )

  no-parts : has_parts (by_kind []) ≡ false
  unfolding has_parts any
  no-parts = ap has_parts no-kinds

  derived-none : ascii "FN;DERIVED=TRUE:\r\n" ≡ line_bytes (derived_line (by_kind []))
  unfolding line_bytes fold fold_from breaks width flat joined write_text
  derived-none = sym (ap (λ (x : Bytes). fold x ++ (13 ∷ 10 ∷ [])) (derived-bytes (by_kind []) ∙ ap (λ (ps : List (List Bytes)). ascii "FN;DERIVED=TRUE:" ++ write_text false (joined (ascii " ") (flat ps))) no-kinds))

  pub alone-derived : full ≡ 0 → (n : ℕ) (after : Bytes) → Fills room (ascii "FN;DERIVED=TRUE:\r\n") n after → PutsAlone s full room (laid n 1 true) after
  alone-derived e n after w f h =
      let y : f ≡ none = none-at s full f e h in
      alone f (by_kind []) no-parts n true after _ w (derived-none ∙ ap (λ (o : Option Bytes). line_bytes (fn_line (name_of o []))) (sym y)) (sym (ap (λ (o : Option Bytes). with-some o carried_text true) y))

  pub alone-full : (full ≡ 0 → ⊥) → (p : Penned) (after : Bytes) → StringLine s full 1 (ascii "FN:") room p after → PutsAlone s full room (laid p.bytes 1 p.carried) after
  alone-full n p after g f h =
      let w = full-line s full f (by_kind []) n h g.text g.is p.carried g.carried in
      alone f (by_kind []) no-parts p.bytes p.carried after _ g.fills w.0 w.1

  module _ (at : ℕ) (m : List ℕ) (p : Penned) (out : Bytes) (first : FnLine s full at m room p out) (t : Counted) (last : Bytes) (second : NLine s at m (mid_of p.bytes (length out - p.bytes) out) t last) where
    pub both-row : Fills room (first.text ++ second.text) (p.bytes + t.bytes) (put_mid p.bytes (length out - p.bytes) out last)
    both-row = then first.fills second.fills

    pub both-lines : PutsBoth s full at m room (laid (p.bytes + t.bytes) (1 + t.lines) (p.carried && t.carried)) (put_mid p.bytes (length out - p.bytes) out last)
    unfolding name_lines
    both-lines f h cs l k =
        let a = first.says f h cs l k in
        let b = second.says cs l k in
        let fl = fn_line (name_of f cs) in
        let nl = line_where (has_parts (by_kind cs)) (n_line (by_kind cs)) in
        let e : first.text ++ second.text ≡ lines_bytes (fl ∷ nl) =
        ap (λ (x : Bytes). x ++ second.text) (a.0 ∙ sym (lines-one fl)) ∙ ap (λ (x : Bytes). lines_bytes (fl ∷ []) ++ x) b.0 ∙ sym (lines-append (fl ∷ []) nl) in
        let c : 1 + t.lines ≡ length (fl ∷ nl) = omega (arith, b.1) in (
          p.bytes + t.bytes,
          ap (λ (x : ℕ). laid (p.bytes + t.bytes) x (p.carried && t.carried)) c
              ∙ ap (laid (p.bytes + t.bytes) (length (fl ∷ nl))) (ap (λ (x : Bool). x && t.carried) a.1 ∙ ap (λ (x : Bool). with-some f carried_text true && x) b.2),
          fills-as e both-row,
        )
