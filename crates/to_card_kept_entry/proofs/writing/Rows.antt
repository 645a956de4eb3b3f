-- One row after the other: what is written of the parameters so far.
use mathlib.Core.Path.{◌≡◌, refl, sym, ap, subst, ◌∙◌}
use mathlib.Core.Bool.{Bool, true, false, ◌&&◌}
use mathlib.Core.List.{List, [], ◌∷◌, ◌++◌}
use Prim.Native.Nat.{ℕ, zero, suc, ◌+◌, ◌*◌, ◌-◌, ◌<◌}
use native.Mathlib.Numerals.{add-one}
use native.Mathlib.Omega.{arith}
use borrow.Rule.Slice.PartMut.{mid_of, put_mid}
use lib.Dec.{eqb}
use lib.ListN.{length, get_or}
use Rattle.text.specs.Choice.{pick}
use Rattle.text.specs.Bytes.{Bytes, all}
use Rattle.text.proofs.Cases.{by_bool, not-both}
use Rattle.line.specs.Grammar.{Param, param}
use Rattle.line_pen.specs.Pen.{Pens}
use Rattle.line_pen.proofs.Laws.{pens-none, pens-as, pens-then}
use Rattle.line_table.specs.Table.{base, name_at, value_at}
use Rattle.to_card_pen.specs.declared.Told.{Told}
use Rattle.convert.specs.Carry.{carried_param}
use Rattle.to_card_kept_entry.specs.strings.Strings.{follows_by, add_to, runs_in}
use Rattle.to_card_kept_entry.specs.writing.Line.{is_pointer, row_text, params_text, carried_params, Tells}
use Rattle.to_card_kept_entry.proofs.writing.Lines.{params-new, params_more, carried-new, carried-more}

-- ---- a row and the one before it

pub follows_is : (t : List ℕ) (i : ℕ) → (i ≡ 0 → ⊥) → eqb (get_or t (4 * i + 4) 0) (get_or t (4 * i + 8) 0) ≡ follows_by t i (get_or t (base i) 0)
follows_is t zero n = absurd (n refl)
follows_is t (suc m) n = let e : 4 * suc m + 4 ≡ base m = omega arith in ap (λ (x : ℕ). eqb (get_or t x 0) (get_or t (base (suc m)) 0)) e

-- ---- the last parameter so far

pub record Last (quoted : Bool) (ps : List Param) : Type 0 where
  pub front : List Param
  pub name : Bytes
  pub value : Bytes
  pub values : List Bytes
  pub is : ps ≡ front ++ (param name (value ∷ values) ∷ [])
  pub pointer : quoted ≡ is_pointer name

add-last : (qs : List Param) (n : Bytes) (vs : List Bytes) (v : Bytes) → add_to (qs ++ (param n vs ∷ [])) v ≡ qs ++ (param n (vs ++ (v ∷ [])) ∷ [])
unfolding add_to
add-last [] n vs v = refl
add-last (q ∷ []) n vs v = refl
add-last (q ∷ (r ∷ qs)) n vs v = ap (λ (l : List Param). q ∷ l) (add-last (r ∷ qs) n vs v)

added : {quoted : Bool} {ps : List Param} (l : Last quoted ps) (w : Bytes) → add_to ps w ≡ l.front ++ (param l.name (l.value ∷ (l.values ++ (w ∷ []))) ∷ [])
added l w = ap (λ (x : List Param). add_to x w) l.is ∙ add-last l.front l.name (l.value ∷ l.values) w

module _ (b : Bytes) (t : List ℕ) where
  runs-new : (i : ℕ) → follows_by t i (get_or t (base i) 0) ≡ false → runs_in b t (i + 1) ≡ runs_in b t i ++ (param (name_at b t i) (value_at b t i ∷ []) ∷ [])
  unfolding runs_in
  runs-new i e = rw (add-one i, e)

  runs-more : (i : ℕ) → follows_by t i (get_or t (base i) 0) ≡ true → runs_in b t (i + 1) ≡ add_to (runs_in b t i) (value_at b t i)
  unfolding runs_in
  runs-more i e = rw (add-one i, e)

  begun : (i : ℕ) → follows_by t i (get_or t (base i) 0) ≡ true → 0 < i
  begun zero e = not-both e refl
  begun (suc i) e = omega arith

  runs_none : runs_in b t 0 ≡ []
  unfolding runs_in
  runs_none = refl

  -- ---- what is written so far

  pub record Far (room : Bytes) (column n k : ℕ) (ok quoted : Bool) (i : ℕ) (out : Bytes) : Type 0 where
    pub pens : Pens room column (params_text (runs_in b t i)) (record { bytes = n; column = k }) out
    pub carried : ok ≡ carried_params (runs_in b t i)
    pub last : 0 < i → Last quoted (runs_in b t i)

  text-none : params_text (runs_in b t 0) ≡ []
  unfolding params_text
  text-none = ap params_text runs_none

  carried_none : true ≡ carried_params (runs_in b t 0)
  unfolding carried_params all
  carried_none = sym (ap carried_params runs_none)

  pub far-first : (room : Bytes) (column : ℕ) → Far room column 0 column true false 0 room
  far-first room column = record { pens = pens-as (sym text-none) (pens-none room column); carried = carried_none; last = λ l. absurd (omega (arith, l)) }

  -- one row more
  module _ {room : Bytes} {column n k : ℕ} {ok quoted : Bool} {i : ℕ} {out : Bytes} (f : Far room column n k ok quoted i out) {more : Bool} (e : more ≡ follows_by t i (get_or t (base i) 0)) {q : Bool}
      (z : q ≡ pick more quoted (is_pointer (name_at b t i))) {p : Told} {last : Bytes}
      (g : Tells (mid_of n (length out - n) out) k (row_text more (name_at b t i) q (value_at b t i)) (carried_param (value_at b t i)) p last) where
    abbrev On : List Param → Type 0
    On ps = (params_text (runs_in b t i) ++ row_text more (name_at b t i) q (value_at b t i) ≡ params_text ps) × (carried_params (runs_in b t i) && carried_param (value_at b t i) ≡ carried_params ps) × Last q ps

    on-more : more ≡ true → On (runs_in b t (i + 1))
    on-more m =
        let v = value_at b t i in
        let l = f.last (begun i (sym e ∙ m)) in
        let a : q ≡ is_pointer l.name = z ∙ ap (λ (x : Bool). pick x quoted (is_pointer (name_at b t i))) m ∙ l.pointer in
        let r : runs_in b t (i + 1) ≡ l.front ++ (param l.name (l.value ∷ (l.values ++ (v ∷ []))) ∷ []) = runs-more i (sym e ∙ m) ∙ added l v in (
          ap (λ (x : List Param). params_text x ++ row_text more (name_at b t i) q v) l.is
              ∙ ap (λ (x : Bool). params_text (l.front ++ (param l.name (l.value ∷ l.values) ∷ [])) ++ row_text x (name_at b t i) q v) m
              ∙ ap (λ (x : Bool). params_text (l.front ++ (param l.name (l.value ∷ l.values) ∷ [])) ++ row_text true (name_at b t i) x v) a
              ∙ params_more l.front l.name l.value l.values (name_at b t i) v
              ∙ ap params_text (sym r),
          ap (λ (x : List Param). carried_params x && carried_param v) l.is ∙ carried-more l.front l.name (l.value ∷ l.values) v ∙ ap carried_params (sym r),
          record { front = l.front; name = l.name; value = l.value; values = l.values ++ (v ∷ []); is = r; pointer = a },
        )

    on-new : more ≡ false → On (runs_in b t (i + 1))
    on-new m =
        let v = value_at b t i in
        let w = name_at b t i in
        let a : q ≡ is_pointer w = z ∙ ap (λ (x : Bool). pick x quoted (is_pointer w)) m in
        let r : runs_in b t (i + 1) ≡ runs_in b t i ++ (param w (v ∷ []) ∷ []) = runs-new i (sym e ∙ m) in (
          ap (λ (x : Bool). params_text (runs_in b t i) ++ row_text x w q v) m
              ∙ ap (λ (x : Bool). params_text (runs_in b t i) ++ row_text false w x v) a
              ∙ params-new (runs_in b t i) w v
              ∙ ap params_text (sym r),
          carried-new (runs_in b t i) w v ∙ ap carried_params (sym r),
          record { front = runs_in b t i; name = w; value = v; values = []; is = r; pointer = a },
        )

    pub far-on : Far room column (n + p.bytes) p.column (ok && p.carried) q (i + 1) (put_mid n (length out - n) out last)
    far-on =
        let o : On (runs_in b t (i + 1)) = by_bool more on-more on-new in
        record {
          pens = pens-as o.0 (pens-then f.pens g.pens);
          carried = ap (λ (x : Bool). x && p.carried) f.carried ∙ ap (λ (x : Bool). carried_params (runs_in b t i) && x) g.carried ∙ o.1;
          last = λ l. o.2;
        }

  -- all rows
  pub far-all : {room : Bytes} {column n k : ℕ} {ok quoted : Bool} {i m : ℕ} {out : Bytes} → Far room column n k ok quoted i out → i ≡ m
      → Tells room column (params_text (runs_in b t m)) (carried_params (runs_in b t m)) (record { bytes = n; column = k; carried = ok }) out
  far-all {room} {column} {n} {k} {ok} {quoted} {i} {m} {out} f e =
      subst (λ (x : ℕ). Tells room column (params_text (runs_in b t x)) (carried_params (runs_in b t x)) (record { bytes = n; column = k; carried = ok }) out) e (record { pens = f.pens; carried = f.carried })
