-- The table of keys: sought the last first, and one more.
use mathlib.Core.Path.{◌≡◌, refl, sym, ap, ◌∙◌}
use mathlib.Core.Bool.{Bool, true, false, ◌||◌}
use mathlib.Core.List.{List, ◌∷◌, ◌++◌}
use Prim.Native.Nat.{ℕ, zero, suc, ◌+◌, ◌-◌, ◌*◌, ◌≤◌, ◌<◌}
use native.Mathlib.Omega.{arith}
use native.Mathlib.Numerals.{add-one}
use lib.ListN.{length, drop, get_or, set, length-set, length-append, length-drop}
use lib.Seq.{get_or-set_same, get_or-set_other, drop-append-add, drop-append-le, take-append-le}
use Rattle.text.specs.Bytes.{Bytes, any}
use Rattle.text.proofs.Cases.{split}
use Rattle.json_prints.specs.Prints.{printed}
use Rattle.convert.specs.Classify.{id, is_id}
use Rattle.line_table.specs.Table.{part, Span}
use Rattle.from_card_seen.specs.Ids.{key_at, ids_at, Listed, IdTable, with_id, Cut}

-- ---- sought

module _ (bytes ids : List ℕ) (i : ℕ) (key : Bytes) where
  pub used-none : (k : ℕ) → k ≡ 0 → any (is_id i key) (ids_at bytes ids k) ≡ false
  unfolding ids_at any
  used-none k e = rw e

  last : (k : ℕ) → 0 < k → any (is_id i key) (ids_at bytes ids k)
      ≡ is_id i key (id (get_or ids (3 * (k - 1)) 0) (key_at bytes ids (k - 1))) || any (is_id i key) (ids_at bytes ids (k - 1))
  unfolding ids_at any
  last zero h = absurd (omega arith)
  last (suc k) h = let e : suc k - 1 ≡ k = omega arith in rw e

  module _ (k : ℕ) (h : 0 < k) (b : Bool) (is : b ≡ is_id i key (id (get_or ids (3 * (k - 1)) 0) (key_at bytes ids (k - 1)))) where
    pub used-here : b ≡ true → any (is_id i key) (ids_at bytes ids k) ≡ true
    used-here e = rw (last k h, sym is ∙ e)

    pub used-later : b ≡ false → any (is_id i key) (ids_at bytes ids k) ≡ any (is_id i key) (ids_at bytes ids (k - 1))
    used-later e = rw (last k h, sym is ∙ e)

-- ---- one more

module _ (ids : List ℕ) (n i a b : ℕ) where
  pub with-length : length (with_id ids n i a b) ≡ length ids
  unfolding with_id
  with-length = simp length-set

  with-below : (m : ℕ) → m < 3 * n → get_or (with_id ids n i a b) m 0 ≡ get_or ids m 0
  unfolding with_id
  with-below m h =
      get_or-set_other (set (set ids (3 * n) i) (3 * n + 1) a) (3 * n + 2) m b 0 (λ e. omega arith)
      ∙ get_or-set_other (set ids (3 * n) i) (3 * n + 1) m a 0 (λ e. omega arith)
      ∙ get_or-set_other ids (3 * n) m i 0 (λ e. omega arith)

  module _ (room : 3 * n + 2 < length ids) where
    with-map : get_or (with_id ids n i a b) (3 * n) 0 ≡ i
    unfolding with_id
    with-map =
        get_or-set_other (set (set ids (3 * n) i) (3 * n + 1) a) (3 * n + 2) (3 * n) b 0 (λ e. omega arith)
        ∙ get_or-set_other (set ids (3 * n) i) (3 * n + 1) (3 * n) a 0 (λ e. omega arith)
        ∙ get_or-set_same ids (3 * n) i 0 (omega arith)

    with-from : get_or (with_id ids n i a b) (3 * n + 1) 0 ≡ a
    unfolding with_id
    with-from =
        get_or-set_other (set (set ids (3 * n) i) (3 * n + 1) a) (3 * n + 2) (3 * n + 1) b 0 (λ e. omega arith)
        ∙ get_or-set_same (set ids (3 * n) i) (3 * n + 1) a 0 (omega (arith, length-set ids (3 * n) i))

    with-to : get_or (with_id ids n i a b) (3 * n + 2) 0 ≡ b
    unfolding with_id
    with-to =
        get_or-set_same (set (set ids (3 * n) i) (3 * n + 1) a) (3 * n + 2) b 0
        (omega (arith, length-set (set ids (3 * n) i) (3 * n + 1) a, length-set ids (3 * n) i))

    module _ (bytes : Bytes) where
      key_below : (k : ℕ) → k < n → key_at bytes (with_id ids n i a b) k ≡ key_at bytes ids k
      key_below k h = rw (with-below (3 * k + 1) (omega arith), with-below (3 * k + 2) (omega arith))

      key-new : key_at bytes (with_id ids n i a b) n ≡ part bytes a b
      key-new = rw (with-from, with-to)

      ids-below : (k : ℕ) → k ≤ n → ids_at bytes (with_id ids n i a b) k ≡ ids_at bytes ids k
      unfolding ids_at
      ids-below zero l = refl
      ids-below (suc k) l = rw (with-below (3 * k) (omega arith), key_below k (omega arith), ids-below k (omega arith))

      pub ids_more : ids_at bytes (with_id ids n i a b) (n + 1) ≡ id i (part bytes a b) ∷ ids_at bytes ids n
      unfolding ids_at
      ids_more = rw (add-one, with-map, key-new, ids-below n (omega arith))

      pub listed_more : Listed bytes ids n → Span bytes a b → Listed bytes (with_id ids n i a b) (n + 1)
      listed_more t w = record {
        wide = omega (arith, room, with-length);
        span = λ k h.
            split n k
            (λ e. let z : k ≡ n = omega arith in rw (z, with-from, with-to) w)
            (λ e. rw (with-below (3 * k + 1) (omega arith), with-below (3 * k + 2) (omega arith)) (t.span k e));
      }

      pub table_more : (prints : List ℕ) (p : ℕ) → IdTable bytes ids prints n → n < length prints → Span bytes a b → p ≡ printed i (part bytes a b)
          → IdTable bytes (with_id ids n i a b) (set prints n p) (n + 1)
      table_more prints p t l w e = record {
        listed = listed_more t.listed w;
        long = omega (arith, l, length-set prints n p);
        print = λ k h.
            split n k
            (λ g. let z : k ≡ n = omega arith in
            rw (z, get_or-set_same prints n p 0 l, with-map, key-new) e)
            (λ g. rw (get_or-set_other prints n k p 0 (λ z. omega arith), with-below (3 * k) (omega arith), key_below k g) (t.print k g));
      }

-- ---- a part of a line is a part of the bytes

module _ {bytes s : Bytes} {at a b : ℕ} (cut : Cut bytes s at) (w : Span s a b) where
  pub cut-part : part bytes (at + a) (at + b) ≡ part s a b
  cut-part =
      let m : at + b - (at + a) ≡ b - a = omega arith in
      let d : drop (at + a) bytes ≡ drop a s ++ cut.after =
      ap (drop (at + a)) cut.is
      ∙ ap (λ k. drop (k + a) (cut.before ++ (s ++ cut.after))) (sym cut.begins)
      ∙ drop-append-add cut.before (s ++ cut.after) a
      ∙ drop-append-le a s cut.after (omega (arith, w.ordered, w.within)) in
      rw (m, d) (take-append-le (b - a) (drop a s) cut.after (omega (arith, w.within, length-drop a s)))

  pub cut-span : Span bytes (at + a) (at + b)
  cut-span = record {
    ordered = omega (arith, w.ordered);
    within = omega (arith, w.within, cut.begins, simp length-append at (ap length cut.is));
  }
