-- A table over a buffer that grows: its rows stay, and one more joins them.
use mathlib.Core.Path.{◌≡◌, refl, sym, ap, subst, ◌∙◌}
use mathlib.Core.Bool.{Bool, true, false, not}
use mathlib.Core.List.{List, [], ◌∷◌, ◌++◌, append-nil, append_assoc}
use Prim.Native.Nat.{ℕ, zero, suc, ◌+◌, ◌-◌, ◌≤◌, ◌<◌}
use native.Mathlib.Numerals.{add-one}
use native.Mathlib.Omega.{arith}
use borrow.Author.Tests.{ne_eqb, eq-eqb}
use lib.Dec.{eqb, ltb}
use lib.ListN.{length, take, drop, get_or, length-append, length-drop}
use lib.Seq.{take-append-le, drop-append-le, drop-append_seam}
use Rattle.text.specs.Choice.{pick}
use Rattle.text.specs.Bytes.{Bytes, empty}
use Rattle.text.proofs.Cases.{by_bool, tests}
use Rattle.line.specs.Grammar.{Param, param, param_values}
use Rattle.line_table.specs.Spread.{ones, spread}
use Rattle.line_table.specs.Table.{part, base, name_at, value_at, rows_in, Span, Spans, stored}
use Rattle.line_table.proofs.Rows.{Agree, rows_none, stored-agree, stored-0, last_row, adds-row}
use Rattle.line_table.proofs.Filling.{spread-append, ones-append}
use Rattle.line_table.proofs.Same.{spread-cons, spread-nil}
use Rattle.to_card_kept_entry.specs.strings.Strings.{follows_by, add_to, runs_in, Table, opened, Adding}

-- ---- a longer buffer

pub part-longer : (p x : Bytes) (a e : ℕ) → a ≤ e → e ≤ length p → part (p ++ x) a e ≡ part p a e
part-longer p x a e h l =
    ap (take (e - a)) (drop-append-le a p x (omega arith))
    ∙ take-append-le (e - a) (drop a p) x (let z = length-drop a p in omega arith)

pub part-new : (p x : Bytes) → part (p ++ x) (length p) (length p + length x) ≡ x
part-new p x =
    let z : length p + length x - length p ≡ length x = omega arith in
    ap (λ (l : Bytes). take (length p + length x - length p) l) (drop-append_seam p x)
    ∙ ap (λ (n : ℕ). take n x) z
    ∙ lib.Seq.take_all (length x) x (omega arith)

span-longer : (p x : Bytes) {a e : ℕ} → Span p a e → Span (p ++ x) a e
span-longer p x h = record { ordered = h.ordered; within = let z = length-append p x in omega (arith, h.within) }

pub longer-span : (p x : Bytes) (a e : ℕ) → Span p a e → Span (p ++ x) a e
longer-span p x a e h = span-longer p x h

module _ (p x : Bytes) (t : List ℕ) where
  name-longer : {n : ℕ} → Spans p t n → (k : ℕ) → k < n → name_at (p ++ x) t k ≡ name_at p t k
  name-longer w k l = part-longer p x _ _ (w.name k l).ordered (w.name k l).within

  value-longer : {n : ℕ} → Spans p t n → (k : ℕ) → k < n → value_at (p ++ x) t k ≡ value_at p t k
  value-longer w k l = part-longer p x _ _ (w.value k l).ordered (w.value k l).within

  rows-longer : (n m : ℕ) → n ≤ m → Spans p t m → rows_in (p ++ x) t n ≡ rows_in p t n
  unfolding rows_in
  rows-longer zero m l w = refl
  rows-longer (suc n) m l w =
      ap (λ (r : List Param). r ++ (param (name_at (p ++ x) t n) (value_at (p ++ x) t n ∷ []) ∷ [])) (rows-longer n m (omega arith) w)
      ∙ ap (λ (y : Bytes). rows_in p t n ++ (param y (value_at (p ++ x) t n ∷ []) ∷ [])) (name-longer w n (omega arith))
      ∙ ap (λ (y : Bytes). rows_in p t n ++ (param (name_at p t n) (y ∷ []) ∷ [])) (value-longer w n (omega arith))

  runs-longer : (n m : ℕ) → n ≤ m → Spans p t m → runs_in (p ++ x) t n ≡ runs_in p t n
  unfolding runs_in
  runs-longer zero m l w = refl
  runs-longer (suc n) m l w =
      ap (λ (r : List Param). pick (follows_by t n (get_or t (base n) 0)) (add_to r (value_at (p ++ x) t n)) (r ++ (param (name_at (p ++ x) t n) (value_at (p ++ x) t n ∷ []) ∷ []))) (runs-longer n m (omega arith) w)
      ∙ ap (λ (y : Bytes). pick (follows_by t n (get_or t (base n) 0)) (add_to (runs_in p t n) (value_at (p ++ x) t n)) (runs_in p t n ++ (param y (value_at (p ++ x) t n ∷ []) ∷ []))) (name-longer w n (omega arith))
      ∙ ap (λ (y : Bytes). pick (follows_by t n (get_or t (base n) 0)) (add_to (runs_in p t n) y) (runs_in p t n ++ (param (name_at p t n) (y ∷ []) ∷ []))) (value-longer w n (omega arith))

pub table-longer : (p x : Bytes) (t : List ℕ) (m : ℕ) (qs : List Param) → Table p t m qs → Table (p ++ x) t m qs
table-longer p x t m qs h = record {
  rows = rows-longer p x t m m (omega arith) h.spans ∙ h.rows;
  runs = runs-longer p x t m m (omega arith) h.spans ∙ h.runs;
  spans = record { name = λ k l. span-longer p x (h.spans.name k l); value = λ k l. span-longer p x (h.spans.value k l) };
  begun = λ k l. let z = length-append p x in omega (arith, h.begun k l);
}

pub adding-longer : (p x : Bytes) (t : List ℕ) (m a e : ℕ) (qs : List Param) (vs : List Bytes) → Adding p t m a e qs vs → Adding (p ++ x) t m a e qs vs
adding-longer p x t m a e qs vs h = record {
  table = subst (λ (n : Bytes). Table (p ++ x) t m (qs ++ opened n vs)) (sym (part-longer p x a e h.name.ordered h.name.within)) (table-longer p x t m _ h.table);
  name = span-longer p x h.name;
  follows = h.follows;
  filled = h.filled;
}

-- ---- one row more

add-last : (qs : List Param) (n : Bytes) (vs : List Bytes) (v : Bytes) → add_to (qs ++ (param n vs ∷ [])) v ≡ qs ++ (param n (vs ++ (v ∷ [])) ∷ [])
unfolding add_to
add-last [] n vs v = refl
add-last (q ∷ []) n vs v = refl
add-last (q ∷ (r ∷ qs)) n vs v = ap (λ (l : List Param). q ∷ l) (add-last (r ∷ qs) n vs v)

-- what the row is put to: a parameter that is there, or a new one
opened-more : (qs : List Param) (n : Bytes) (vs : List Bytes) (v : Bytes)
    → pick (not (empty vs)) (add_to (qs ++ opened n vs) v) ((qs ++ opened n vs) ++ (param n (v ∷ []) ∷ [])) ≡ qs ++ opened n (vs ++ (v ∷ []))
opened-more qs n [] v = ap (λ (l : List Param). l ++ (param n (v ∷ []) ∷ [])) (append-nil qs)
opened-more qs n (w ∷ vs) v = add-last qs n (w ∷ vs) v

spread-opened : (n : Bytes) (vs : List Bytes) → spread (opened n vs) ≡ ones n vs
unfolding ones
spread-opened n [] = spread-nil
spread-opened n (v ∷ vs) = spread-cons n (v ∷ vs) [] ∙ ap (λ (l : List Param). ones n (v ∷ vs) ++ l) spread-nil ∙ append-nil (ones n (v ∷ vs))

ones-single : (n v : Bytes) → ones n (v ∷ []) ≡ param n (v ∷ []) ∷ []
unfolding ones
ones-single n v = refl

spread-more : (qs : List Param) (n : Bytes) (vs : List Bytes) (v : Bytes) → spread (qs ++ opened n vs) ++ (param n (v ∷ []) ∷ []) ≡ spread (qs ++ opened n (vs ++ (v ∷ [])))
spread-more qs n vs v =
    ap (λ (l : List Param). l ++ (param n (v ∷ []) ∷ [])) (spread-append qs (opened n vs) ∙ ap (λ (l : List Param). spread qs ++ l) (spread-opened n vs))
    ∙ append_assoc (spread qs) (ones n vs) (param n (v ∷ []) ∷ [])
    ∙ ap (λ (l : List Param). spread qs ++ l) (ap (λ (l : List Param). ones n vs ++ l) (sym (ones-single n v)) ∙ sym (ones-append n vs (v ∷ [])) ∙ sym (spread-opened n (vs ++ (v ∷ []))))
    ∙ sym (spread-append qs (opened n (vs ++ (v ∷ []))))

pub runs_same : (s : Bytes) (n : ℕ) (t u : List ℕ) → Agree n t u → runs_in s u n ≡ runs_in s t n
unfolding runs_in
runs_same s zero t u h = refl
runs_same s (suc n) t u h =
    let a : runs_in s u n ≡ runs_in s t n = runs_same s n t u (λ k l b. h k l (omega arith)) in
    let e0 = h (base n) (omega arith) (omega arith) in
    let e1 = h (base n + 1) (omega arith) (omega arith) in
    let e2 = h (base n + 2) (omega arith) (omega arith) in
    let e3 = h (base n + 3) (omega arith) (omega arith) in
    let f = follows_same n t u (get_or t (base n) 0) h in
    rw (a, e0, e1, e2, e3, f)
  where
    follows_same : (n : ℕ) (t u : List ℕ) (a : ℕ) → Agree (suc n) t u → follows_by u n a ≡ follows_by t n a
    follows_same zero t u a h = refl
    follows_same (suc n) t u a h = ap (λ (x : ℕ). eqb x a) (h (base n) (omega arith) (omega arith))

module _ (p : Bytes) (t : List ℕ) (m a e c d : ℕ) (few : m < 64) (wide : 264 ≤ length t) where
  abbrev t' : List ℕ
  t' = stored t m a e c d

  agree : Agree m t t'
  agree = stored-agree p t m a e c d few wide

  follows-kept : (k : ℕ) → follows_by t' m k ≡ follows_by t m k
  follows-kept k = by m t t' k agree
    where
      by : (m : ℕ) (t u : List ℕ) (k : ℕ) → Agree m t u → follows_by u m k ≡ follows_by t m k
      by zero t u k h = refl
      by (suc m) t u k h = ap (λ (x : ℕ). eqb x k) (h (base m) (omega arith) (omega arith))

  runs-more : runs_in p t' (m + 1) ≡ pick (follows_by t m a) (add_to (runs_in p t m) (part p c d)) (runs_in p t m ++ (param (part p a e) (part p c d ∷ []) ∷ []))
  unfolding runs_in
  runs-more =
      let l : param (name_at p t' m) (value_at p t' m ∷ []) ≡ param (part p a e) (part p c d ∷ []) = last_row p t m a e c d few wide in
      let v : value_at p t' m ≡ part p c d = head-same (ap param_values l) in
      let q = param (name_at p t' m) (value_at p t' m ∷ []) in
      ap (runs_in p t') (add-one m)
      ∙ ap (λ (y : ℕ). pick (follows_by t' m y) (add_to (runs_in p t' m) (value_at p t' m)) (runs_in p t' m ++ (q ∷ []))) (stored-0 p t m a e c d few wide)
      ∙ ap (λ (y : Bool). pick y (add_to (runs_in p t' m) (value_at p t' m)) (runs_in p t' m ++ (q ∷ []))) (follows-kept a)
      ∙ ap (λ (y : List Param). pick (follows_by t m a) (add_to y (value_at p t' m)) (y ++ (q ∷ []))) (runs_same p m t t' agree)
      ∙ ap (λ (y : Bytes). pick (follows_by t m a) (add_to (runs_in p t m) y) (runs_in p t m ++ (q ∷ []))) v
      ∙ ap (λ (y : Param). pick (follows_by t m a) (add_to (runs_in p t m) (part p c d)) (runs_in p t m ++ (y ∷ []))) l
    where
      head-same : {x y : Bytes} {xs ys : List Bytes} → x ∷ xs ≡ y ∷ ys → x ≡ y
      head-same q = cc

  begun_more : (n : ℕ) → a < n → ((k : ℕ) → k < m → get_or t (base k) 0 < n) → (k : ℕ) → k < m + 1 → get_or t' (base k) 0 < n
  begun_more n l h k q =
      by_bool (ltb k m)
      (λ w. let z = agree (base k) (omega arith) (omega (tests, w)) in subst (λ (y : ℕ). y < n) (sym z) (h k (omega (tests, w))))
      (λ w. let z : k ≡ m = omega (tests, w) in subst (λ (y : ℕ). get_or t' (base y) 0 < n) (sym z) (subst (λ (y : ℕ). y < n) (sym (stored-0 p t m a e c d few wide)) l))

  follows-last : follows_by t' (m + 1) a ≡ true
  follows-last = rw add-one (eq-eqb _ a (stored-0 p t m a e c d few wide))

not-empty : (vs : List Bytes) (x : Bytes) → not (empty (vs ++ (x ∷ []))) ≡ true
not-empty [] x = refl
not-empty (v ∷ vs) x = refl

-- a value that was just put into the buffer
pub adding-on : (p x : Bytes) (t : List ℕ) (m a e : ℕ) (qs : List Param) (vs : List Bytes) → m < 64 → 264 ≤ length t → Adding p t m a e qs vs
    → Adding (p ++ x) (stored t m a e (length p) (length p + length x)) (m + 1) a e qs (vs ++ (x ∷ []))
adding-on p x t m a e qs vs few wide h =
    let g = adding-longer p x t m a e qs vs h in
    let c = length p in
    let d = length p + length x in
    let n = part (p ++ x) a e in
    let l : length (p ++ x) ≡ d = length-append p x in
    let y : Span (p ++ x) c d = record { ordered = omega arith; within = omega (arith, l) } in
    let r = adds-row (p ++ x) t m a e c d few wide g.name y in
    let v : part (p ++ x) c d ≡ x = part-new p x in
    record {
      table = record {
        rows = r.is ∙ ap (λ (z : List Param). z ++ (param n (part (p ++ x) c d ∷ []) ∷ [])) g.table.rows ∙ ap (λ (z : Bytes). spread (qs ++ opened n vs) ++ (param n (z ∷ []) ∷ [])) v ∙ spread-more qs n vs x;
        runs =
            runs-more (p ++ x) t m a e c d few wide
            ∙ ap (λ (z : List Param). pick (follows_by t m a) (add_to z (part (p ++ x) c d)) (z ++ (param n (part (p ++ x) c d ∷ []) ∷ []))) g.table.runs
            ∙ ap (λ (z : Bytes). pick (follows_by t m a) (add_to (qs ++ opened n vs) z) ((qs ++ opened n vs) ++ (param n (z ∷ []) ∷ []))) v
            ∙ ap (λ (z : Bool). pick z (add_to (qs ++ opened n vs) x) ((qs ++ opened n vs) ++ (param n (x ∷ []) ∷ []))) g.follows
            ∙ opened-more qs n vs x;
        spans = r.spans g.table.spans;
        begun = begun_more (p ++ x) t m a e c d few wide (length (p ++ x)) (omega (arith, g.filled, g.name.within)) g.table.begun;
      };
      name = g.name;
      follows = follows-last (p ++ x) t m a e c d few wide ∙ sym (not-empty vs x);
      filled = g.filled;
    }

-- ---- a new parameter

no-follow : (p : Bytes) (t : List ℕ) (m : ℕ) (n : ℕ) → ((k : ℕ) → k < m → get_or t (base k) 0 < n) → follows_by t m n ≡ false
no-follow p t zero n h = refl
no-follow p t (suc m) n h = ne_eqb _ n (λ q. omega (arith, h m (omega arith), q))

pub adding-first : (p x : Bytes) (t : List ℕ) (m : ℕ) (qs : List Param) → 0 < length x → Table p t m qs → Adding (p ++ x) t m (length p) (length p + length x) qs []
adding-first p x t m qs l h = record {
  table = subst (Table (p ++ x) t m) (sym (append-nil qs)) (table-longer p x t m qs h);
  name = record { ordered = omega arith; within = let z = length-append p x in omega arith };
  follows = no-follow p t m (length p) h.begun;
  filled = omega arith;
}

pub table_none : (p : Bytes) (t : List ℕ) → Table p t 0 []
unfolding runs_in
table_none p t = record { rows = rows_none p t ∙ sym spread-nil; runs = refl; spans = record { name = λ k l. absurd (omega arith); value = λ k l. absurd (omega arith) }; begun = λ k l. absurd (omega arith) }
