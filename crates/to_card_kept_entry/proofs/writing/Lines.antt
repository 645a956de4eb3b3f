-- A written line by its pieces, and which of its strings a line can carry.
use mathlib.Core.Path.{◌≡◌, refl, sym, ap, ◌∙◌}
use mathlib.Core.Bool.{Bool, true, false, ◌&&◌, ◌||◌, not}
use mathlib.Core.List.{List, [], ◌∷◌, ◌++◌, append-nil, append_assoc}
use Prim.Native.Nat.{ℕ, ◌+◌, ◌-◌}
use native.Mathlib.Omega.{arith}
use borrow.Author.Tests.{ne_eqb}
use borrow.Rule.Slice.PartMut.{mid_of, put_mid}
use lib.ListN.{length, get_or}
use Rattle.text.specs.Choice.{pick}
use Rattle.text.specs.Bytes.{Bytes, ascii, all, flat, same, uppered, between}
use Rattle.text.proofs.Cases.{by_bool, and_right, implied, beyond, tests}
use Rattle.text.proofs.Lists.{all_append, all-imply}
use Rattle.line.specs.Class.{is_bare, is_control, is_lower_name}
use Rattle.line.specs.Grammar.{Param, param, param_values, Line}
use Rattle.line.specs.Write.{write_value, write_values, write_params, write_group, write_line, fold, fold_from}
use Rattle.line_pen.specs.Pen.{Fills, Pens, column_from}
use Rattle.line_pen.proofs.Filling.{then}
use Rattle.line_pen.proofs.Laws.{filled, fold-append}
use Rattle.line_table.specs.Table.{part, line_in}
use Rattle.convert.specs.Model.{Kept}
use Rattle.convert.specs.Value.{filled as is-filled}
use Rattle.convert.specs.FromJson.{is_lower_word, kept_as_line}
use Rattle.convert.specs.Carry.{carried_raw, carried_param, carried_kept}
use Rattle.to_card_pen.specs.Styles.{stands_in, all_stand_in}
use Rattle.to_card_kept_entry.specs.strings.Strings.{runs_in}
use Rattle.to_card_kept_entry.specs.entry.Entry.{HoldsKept}
use Rattle.to_card_lines.specs.Lines.{line_bytes}
use Rattle.to_card_lines.proofs.Laws.{fills-as}
use Rattle.to_card_members.proofs.Pointers.{stands-param}
use Rattle.to_card_kept_entry.specs.writing.Line.{is_pointer, lead_text, row_text, params_text, carried_params, PutsKept}

-- ---- values

value-then : (a : Bool) (v t : Bytes) → write_value a v t ≡ write_value a v [] ++ t
unfolding write_value
value-then a v t =
    by_bool (a || not (all is_bare v))
    (λ e. rw e (ap (λ (x : Bytes). 34 ∷ x) (sym (append_assoc v (34 ∷ []) t))))
    (λ e. rw (e, append-nil v))

values-then : (a : Bool) (vs : List Bytes) (t : Bytes) → write_values a vs t ≡ write_values a vs [] ++ t
unfolding write_values
values-then a [] t = refl
values-then a (v ∷ []) t = value-then a v t
values-then a (v ∷ (w ∷ ws)) t =
    value-then a v (44 ∷ write_values a (w ∷ ws) t)
    ∙ ap (λ (x : Bytes). write_value a v [] ++ 44 ∷ x) (values-then a (w ∷ ws) t)
    ∙ sym (append_assoc (write_value a v []) (44 ∷ write_values a (w ∷ ws) []) t)
    ∙ ap (λ (x : Bytes). x ++ t) (sym (value-then a v (44 ∷ write_values a (w ∷ ws) [])))

-- one value more
values-more : (a : Bool) (v : Bytes) (vs : List Bytes) (w : Bytes) → write_values a (v ∷ (vs ++ (w ∷ []))) [] ≡ write_values a (v ∷ vs) [] ++ 44 ∷ write_value a w []
unfolding write_values
values-more a v [] w = value-then a v (44 ∷ write_value a w [])
values-more a v (x ∷ vs) w =
    ap (λ (z : Bytes). write_value a v (44 ∷ z)) (values-more a x vs w)
    ∙ value-then a v (44 ∷ (write_values a (x ∷ vs) [] ++ 44 ∷ write_value a w []))
    ∙ sym (append_assoc (write_value a v []) (44 ∷ write_values a (x ∷ vs) []) (44 ∷ write_value a w []))
    ∙ ap (λ (z : Bytes). z ++ 44 ∷ write_value a w []) (sym (value-then a v (44 ∷ write_values a (x ∷ vs) [])))

pub quoted-is : (v : Bytes) → 34 ∷ (v ++ 34 ∷ []) ≡ flat ((34 ∷ []) ∷ v ∷ (34 ∷ []) ∷ [])
unfolding flat
quoted-is v = refl

-- ---- parameters

pub lead-more : (m : Bool) (n : Bytes) → m ≡ true → 44 ∷ [] ≡ lead_text m n
unfolding lead_text
lead-more m n e = rw e

pub lead-new : (m : Bool) (n : Bytes) → m ≡ false → ((59 ∷ []) ++ uppered n) ++ (61 ∷ []) ≡ lead_text m n
unfolding lead_text
lead-new m n e = rw e

pub params-then : (ps : List Param) (t : Bytes) → write_params ps t ≡ params_text ps ++ 58 ∷ t
unfolding write_params params_text
params-then [] t = refl
params-then (param n vs ∷ ps) t =
    ap (λ (x : Bytes). 59 ∷ (uppered n ++ 61 ∷ x)) (values-then (is_pointer n) vs (write_params ps t) ∙ ap (λ (x : Bytes). write_values (is_pointer n) vs [] ++ x) (params-then ps t))
    ∙ ap (λ (x : Bytes). 59 ∷ (uppered n ++ 61 ∷ x)) (sym (append_assoc (write_values (is_pointer n) vs []) (params_text ps) (58 ∷ t)))
    ∙ ap (λ (x : Bytes). 59 ∷ x) (sym (append_assoc (uppered n) (61 ∷ (write_values (is_pointer n) vs [] ++ params_text ps)) (58 ∷ t)))
    ∙ ap (λ (x : Bytes). 59 ∷ (x ++ 58 ∷ t)) (sym (append_assoc (uppered n) (61 ∷ write_values (is_pointer n) vs []) (params_text ps)))

params-append : (ps qs : List Param) → params_text (ps ++ qs) ≡ params_text ps ++ params_text qs
unfolding params_text
params-append [] qs = refl
params-append (param n vs ∷ ps) qs =
    ap (λ (x : Bytes). 59 ∷ (uppered n ++ 61 ∷ write_values (is_pointer n) vs []) ++ x) (params-append ps qs)
    ∙ ap (λ (x : Bytes). 59 ∷ x) (sym (append_assoc (uppered n ++ 61 ∷ write_values (is_pointer n) vs []) (params_text ps) (params_text qs)))

params-one : (n : Bytes) (vs : List Bytes) → params_text (param n vs ∷ []) ≡ 59 ∷ (uppered n ++ 61 ∷ write_values (is_pointer n) vs [])
unfolding params_text
params-one n vs = append-nil (59 ∷ (uppered n ++ 61 ∷ write_values (is_pointer n) vs []))

-- a parameter begins
pub params-new : (ps : List Param) (n v : Bytes) → params_text ps ++ row_text false n (is_pointer n) v ≡ params_text (ps ++ (param n (v ∷ []) ∷ []))
unfolding row_text lead_text write_values
params-new ps n v =
    ap (λ (x : Bytes). params_text ps ++ 59 ∷ x) (append_assoc (uppered n) (61 ∷ []) (write_value (is_pointer n) v []))
    ∙ ap (λ (x : Bytes). params_text ps ++ x) (sym (params-one n (v ∷ [])))
    ∙ sym (params-append ps (param n (v ∷ []) ∷ []))

-- the last one has one value more
pub params_more : (ps : List Param) (n v : Bytes) (vs : List Bytes) (m w : Bytes)
    → params_text (ps ++ (param n (v ∷ vs) ∷ [])) ++ row_text true m (is_pointer n) w ≡ params_text (ps ++ (param n (v ∷ (vs ++ (w ∷ []))) ∷ []))
unfolding row_text lead_text
params_more ps n v vs m w =
    let a = is_pointer n in
    ap (λ (x : Bytes). x ++ 44 ∷ write_value a w []) (params-append ps (param n (v ∷ vs) ∷ []) ∙ ap (λ (x : Bytes). params_text ps ++ x) (params-one n (v ∷ vs)))
    ∙ append_assoc (params_text ps) (59 ∷ (uppered n ++ 61 ∷ write_values a (v ∷ vs) [])) (44 ∷ write_value a w [])
    ∙ ap (λ (x : Bytes). params_text ps ++ 59 ∷ x) (append_assoc (uppered n) (61 ∷ write_values a (v ∷ vs) []) (44 ∷ write_value a w []))
    ∙ ap (λ (x : Bytes). params_text ps ++ 59 ∷ (uppered n ++ 61 ∷ x)) (sym (values-more a v vs w))
    ∙ ap (λ (x : Bytes). params_text ps ++ x) (sym (params-one n (v ∷ (vs ++ (w ∷ [])))))
    ∙ sym (params-append ps (param n (v ∷ (vs ++ (w ∷ []))) ∷ []))

and-end : (b : Bool) → (b && true) ≡ b
and-end true = refl
and-end false = refl

and-mid : (a b c : Bool) → ((a && b) && c) ≡ (a && (b && c))
and-mid true b c = refl
and-mid false b c = refl

abbrev carried_one : Param → Bool
carried_one p = all carried_param (param_values p)

-- one parameter more
carried-snoc : (ps : List Param) (n : Bytes) (vs : List Bytes) → carried_params (ps ++ (param n vs ∷ [])) ≡ (carried_params ps && all carried_param vs)
unfolding carried_params all
carried-snoc ps n vs = all_append carried_one ps (param n vs ∷ []) ∙ ap (λ (x : Bool). all carried_one ps && x) (and-end (all carried_param vs))

-- one value more
values-snoc : (vs : List Bytes) (w : Bytes) → all carried_param (vs ++ (w ∷ [])) ≡ (all carried_param vs && carried_param w)
unfolding all
values-snoc vs w = all_append carried_param vs (w ∷ []) ∙ ap (λ (x : Bool). all carried_param vs && x) (and-end (carried_param w))

pub carried-new : (ps : List Param) (n v : Bytes) → carried_params ps && carried_param v ≡ carried_params (ps ++ (param n (v ∷ []) ∷ []))
unfolding all
carried-new ps n v = ap (λ (x : Bool). carried_params ps && x) (sym (and-end (carried_param v))) ∙ sym (carried-snoc ps n (v ∷ []))

pub carried-more : (ps : List Param) (n : Bytes) (vs : List Bytes) (w : Bytes) → carried_params (ps ++ (param n vs ∷ [])) && carried_param w ≡ carried_params (ps ++ (param n (vs ++ (w ∷ [])) ∷ []))
carried-more ps n vs w =
    ap (λ (x : Bool). x && carried_param w) (carried-snoc ps n vs)
    ∙ and-mid (carried_params ps) (all carried_param vs) (carried_param w)
    ∙ ap (λ (x : Bool). carried_params ps && x) (sym (values-snoc vs w))
    ∙ sym (carried-snoc ps n (vs ++ (w ∷ [])))

-- ---- the whole line

pub group-none : (g n : Bytes) → length g ≡ 0 → n ≡ write_group g n
unfolding write_group
group-none [] n e = refl
group-none (c ∷ g) n e = absurd (omega arith)

pub group-some : (g n : Bytes) → (length g ≡ 0 → ⊥) → (g ++ (46 ∷ [])) ++ n ≡ write_group g n
unfolding write_group
group-some [] n e = absurd (e refl)
group-some (c ∷ g) n e = append_assoc (c ∷ g) (46 ∷ []) n

group-then : (g n t : Bytes) → write_group g n ++ t ≡ write_group g (n ++ t)
unfolding write_group
group-then [] n t = refl
group-then (c ∷ g) n t = append_assoc (c ∷ g) (46 ∷ n) t

-- head, parameters, colon and value
pub line-pieces : (l : Line) → write_group l.group (uppered l.name) ++ (params_text l.params ++ 58 ∷ l.value) ≡ write_line l
unfolding write_line
line-pieces l =
    group-then l.group (uppered l.name) (params_text l.params ++ 58 ∷ l.value)
    ∙ ap (λ (x : Bytes). write_group l.group (uppered l.name ++ x)) (sym (params-then l.params l.value))

line-bytes : (l : Line) → fold_from 0 ((write_group l.group (uppered l.name) ++ params_text l.params) ++ 58 ∷ l.value) ++ (13 ∷ 10 ∷ []) ≡ line_bytes l
unfolding line_bytes fold
line-bytes l = ap (λ (x : Bytes). fold_from 0 x ++ (13 ∷ 10 ∷ [])) (append_assoc (write_group l.group (uppered l.name)) (params_text l.params) (58 ∷ l.value) ∙ line-pieces l)

-- the last piece of a line comes with the line's end
pub end-then : (y : Bytes) {room x out last : Bytes} {a c n : ℕ} → Pens room 0 x (record { bytes = a; column = c }) out → Fills (mid_of a (length out - a) out) (fold_from c y ++ (13 ∷ 10 ∷ [])) n last
    → Fills room (fold_from 0 (x ++ y) ++ (13 ∷ 10 ∷ [])) (a + n) (put_mid a (length out - a) out last)
end-then y {room} {x} {out} {last} {a} {c} {n} p f =
    fills-as
    (ap (λ (k : ℕ). fold_from 0 x ++ (fold_from k y ++ (13 ∷ 10 ∷ []))) p.stops
    ∙ sym (append_assoc (fold_from 0 x) (fold_from (column_from 0 x) y) (13 ∷ 10 ∷ []))
    ∙ ap (λ (l : Bytes). l ++ (13 ∷ 10 ∷ [])) (sym (fold-append x y 0)))
    (then (filled p) f)

-- ---- the kept line that a table holds

-- rows whose names begin at one place are one parameter
runs_line : Bytes → List ℕ → Line
runs_line b t = record { group = (line_in b t).group; name = (line_in b t).name; params = runs_in b t (get_or t 6 0); value = (line_in b t).value }

line-is : (l m : Line) → l.group ≡ m.group → l.name ≡ m.name → l.params ≡ m.params → l.value ≡ m.value → l ≡ m
line-is l m a b c d =
    ap (λ (x : Bytes). record { group = x; name = l.name; params = l.params; value = l.value }) a
    ∙ ap (λ (x : Bytes). record { group = m.group; name = x; params = l.params; value = l.value }) b
    ∙ ap (λ (x : List Param). record { group = m.group; name = m.name; params = x; value = l.value }) c
    ∙ ap (λ (x : Bytes). record { group = m.group; name = m.name; params = m.params; value = x }) d

kept_line : (b : Bytes) (t : List ℕ) (k : Kept) → HoldsKept b t k → runs_line b t ≡ kept_as_line k
unfolding runs_line
kept_line b t k h =
    line-is (runs_line b t) (kept_as_line k) (ap (λ (l : Line). l.group) h.held) (ap (λ (l : Line). l.name) h.held) h.runs (ap (λ (l : Line). l.value) h.held)

lower-stands : (c : ℕ) → is_lower_name c ≡ true → stands_in 3 c ≡ true
unfolding is_lower_name stands_in is_control between
lower-stands c h =
    implied is_lower_name (stands_in 3) 128 c refl
    (λ l. rw (beyond 97 122 c (omega (tests, l)), beyond 48 57 c (omega (tests, l)), ne_eqb c 45 (λ z. omega (tests, l, z))))
    h

-- a word in lower case is carried
word-carried : (x : Bytes) → is_lower_word x ≡ true → carried_param x ≡ true
unfolding all_stand_in
word-carried x h = sym (stands-param x) ∙ all-imply is_lower_name (stands_in 3) lower-stands x (and_right (is-filled x) _ h)

abbrev typed : Bytes → List Param
typed x = pick (same x (ascii "unknown")) [] (param (ascii "value") (x ∷ []) ∷ [])

-- VALUE is always carried
typed-carried : (x : Bytes) → is_lower_word x ≡ true → all carried_one (typed x) ≡ true
unfolding all
typed-carried x w = by_bool (same x (ascii "unknown")) (λ e. rw e) (λ e. rw (e, word-carried x w))

pub kept-carried : (k : Kept) → is_lower_word k.type ≡ true → carried_params (kept_as_line k).params && carried_raw k.value ≡ carried_kept k
unfolding kept_as_line carried_kept carried_params
kept-carried k w =
    ap (λ (x : Bool). x && carried_raw k.value)
    (all_append carried_one k.params (typed k.type) ∙ ap (λ (x : Bool). all carried_one k.params && x) (typed-carried k.type w) ∙ and-end (all carried_one k.params))

line-value : (k : Kept) → (kept_as_line k).value ≡ k.value
unfolding kept_as_line
line-value k = refl

-- the line of the table, as a kept line
module _ (b : Bytes) (t : List ℕ) where
  abbrev head : Bytes
  head = write_group (part b (get_or t 0 0) (get_or t 1 0)) (uppered (part b (get_or t 2 0) (get_or t 3 0)))

  abbrev runs : List Param
  runs = runs_in b t (get_or t 6 0)

  abbrev value : Bytes
  value = part b (get_or t 4 0) (get_or t 5 0)

  pub kept_put : {room after : Bytes} {n : ℕ} {x y : Bool} → Fills room (fold_from 0 ((head ++ params_text runs) ++ 58 ∷ value) ++ (13 ∷ 10 ∷ [])) n after → x ≡ carried_params runs → y ≡ carried_raw value
      → PutsKept b t room (record { bytes = n; carried = x && y }) after
  unfolding runs_line line_in
  kept_put {x = x} {y} f e d = λ k h w.
      let l = kept_line b t k h in
      record {
        fills = fills-as (line-bytes (runs_line b t) ∙ ap line_bytes l) f;
        carried =
            ap (λ (u : Bool). u && y) e
            ∙ ap (λ (u : Bool). carried_params runs && u) d
            ∙ ap (λ (u : Line). carried_params u.params && carried_raw u.value) l
            ∙ ap (λ (u : Bytes). carried_params (kept_as_line k).params && carried_raw u) (line-value k)
            ∙ kept-carried k w;
      }
