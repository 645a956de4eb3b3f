-- A structured value is written and read back by its row; so are the seven parts of N.
use mathlib.Core.Path.{◌≡◌, refl, sym, ap, ◌∙◌}
use mathlib.Core.Bool.{Bool, true, false, ◌&&◌, not}
use mathlib.Core.List.{List, [], ◌∷◌, ◌++◌, map, append-nil}
use mathlib.Core.Option.{Option, none, some}
use Prim.Native.Nat.{ℕ, zero, suc, ◌+◌, ◌<◌}
use native.Mathlib.Omega.{arith}
use lib.ListN.{length, length-map}
use lib.Dec.{ltb}
use borrow.Author.Tests.{le-leb}
use Rattle.text.specs.Choice.{with-some, is_some}
use Rattle.text.specs.Bytes.{Bytes, ascii, any, all, empty, among, joined, keep, each}
use Rattle.text.proofs.Cases.{by_bool, and_left, and_right, or-second, not-both, not-true, tests}
use Rattle.text.proofs.Choices.{none-some}
use Rattle.text.proofs.Same.{among-all}
use Rattle.text.proofs.Lists.{all_head, all_tail, all_cons, all_both, any-not, keep_all, keep-none, keep_append, all-anything}
use Rattle.line.specs.Text.{read_text, split_text, split_from, text_from, write_text}
use Rattle.line.proofs.Texts.{AllSealed, read-written, split-written, split-joined, sealed-joined, all-sealed}
use Rattle.convert.specs.Table.{Part, name_row}
use Rattle.convert.specs.Model.{has_parts, part}
use Rattle.convert.specs.Value.{filled, part_values, without, row_from, own_parts, read_name, read_parts, written_parts, write_name, write_parts}
use Rattle.convert.specs.Carry.{apart, apart_from, apart_parts}

-- ---- one part

abbrev write_part : List Bytes → Bytes
write_part vs = joined (ascii ",") (map (write_text true) vs)

part-read : (vs : List Bytes) → all filled vs ≡ true → part_values (write_part vs) ≡ some vs
unfolding part_values joined split_text split_from each read_text text_from keep
part-read [] h = refl
part-read (v ∷ vs) h = rw (split-written true 44 refl v vs, read-written true (v ∷ vs)) (ap some (keep_all filled (v ∷ vs) h))

sealed-parts : (pss : List (List Bytes)) → AllSealed 59 (map write_part pss)
sealed-parts [] = tt
sealed-parts (vs ∷ pss) = (sealed-joined 59 44 (map (write_text true) vs) refl refl (all-sealed true 59 refl vs), sealed-parts pss)

each_part : (pss : List (List Bytes)) → all (all filled) pss ≡ true → each part_values (map write_part pss) ≡ some pss
unfolding each
each_part [] h = refl
each_part (vs ∷ pss) h = rw (part-read vs (all_head (all filled) vs pss h), each_part pss (all_tail (all filled) vs pss h))

-- ---- what reading leaves out

-- all is left without none
pub without-none : (vs : List Bytes) → without [] vs ≡ vs
unfolding without among any
without-none vs = keep_all (λ v. true) vs (all-anything vs)

-- nothing is left of the others themselves
without-self : (others : List Bytes) → without others others ≡ []
unfolding without
without-self others =
    keep-none (λ v. not (among v others)) others (any-not (λ v. among v others) others ∙ ap not (among-all others others (λ v q. q)))

without-apart : (vs others : List Bytes) → apart vs others ≡ true → without others vs ≡ vs
unfolding without apart
without-apart vs others h = keep_all (λ v. not (among v others)) vs h

without-append : (others vs ws : List Bytes) → without others (vs ++ ws) ≡ without others vs ++ without others ws
unfolding without
without-append others vs ws = keep_append (λ v. not (among v others)) vs ws

-- what was appended is ignored again
own : (vs others : List Bytes) → apart vs others ≡ true → without others (vs ++ others) ≡ vs
own vs others h = rw (without-append others vs others, without-apart vs others h, without-self others, append-nil vs)

-- ---- the parts of a row

abbrev pub full : List Bytes → Bool
full vs = not (empty vs)

full-more : (vs ws : List Bytes) → full vs ≡ true → full (vs ++ ws) ≡ true
full-more [] ws h = not-both h refl
full-more (v ∷ vs) ws h = refl

-- what the part at a place repeats
abbrev repeated : List Part → ℕ → Option ℕ
repeated [] k = none
repeated (p ∷ row) zero = p.repeats
repeated (p ∷ row) (suc k) = repeated row k

-- a row whose parts repeat parts of it that repeat none: a test that computes
abbrev pub steady : List Part → Bool
steady row = all (λ (p : Part). with-some p.repeats (λ r. ltb r (length row) && not (is_some (repeated row r))) true) row

steady-at : (q : Option ℕ → Bool) (row : List Part) → all (λ (p : Part). q p.repeats) row ≡ true → (k r : ℕ) → repeated row k ≡ some r → q (some r) ≡ true
steady-at q [] h k r e = none-some e
steady-at q (p ∷ row) h zero r e = ap q (sym e) ∙ all_head (λ (p : Part). q p.repeats) p row h
steady-at q (p ∷ row) h (suc k) r e = steady-at q row (all_tail (λ (p : Part). q p.repeats) p row h) k r e

apart-at : (i : ℕ) (row : List Part) (ps : List (List Bytes)) → apart_from i row ps ≡ true → (k r : ℕ) → repeated row k ≡ some r → apart (part ps (i + k)) (part ps r) ≡ true
apart-at i [] ps h k r e = none-some e
apart-at i (p ∷ row) ps h zero r e =
    let q : i + 0 ≡ i = omega arith in
    ap (λ (n : ℕ). apart (part ps n) (part ps r)) q
    ∙ ap (λ (o : Option ℕ). with-some o (λ r. apart (part ps i) (part ps r)) true) (sym e) ∙ and_left (with-some p.repeats (λ r. apart (part ps i) (part ps r)) true) _ h
apart-at i (p ∷ row) ps h (suc k) r e =
    let q : i + suc k ≡ suc i + k = omega arith in
    ap (λ (n : ℕ). apart (part ps n) (part ps r)) q ∙ apart-at (suc i) row ps (and_right (with-some p.repeats (λ r. apart (part ps i) (part ps r)) true) _ h) k r e

module _ (f : List Bytes → List Bytes → List Bytes) where
  row-length : (i : ℕ) (row : List Part) (ps : List (List Bytes)) → length (row_from f i row ps) ≡ length row
  row-length i [] ps = refl
  row-length i (p ∷ row) ps = ap suc (row-length (suc i) row ps)

  -- the part at place n, where the part repeats o
  abbrev ruled : List (List Bytes) → ℕ → Option ℕ → List Bytes
  ruled ps n o = with-some o (λ r. f (part ps r) (part ps n)) (part ps n)

  row_from_lem : (i : ℕ) (row : List Part) (ps : List (List Bytes)) (k : ℕ) → k < length row → part (row_from f i row ps) k ≡ ruled ps (i + k) (repeated row k)
  row_from_lem i [] ps k l = absurd (omega arith)
  row_from_lem i (p ∷ row) ps zero l = let q : i ≡ i + 0 = omega arith in ap (λ (n : ℕ). ruled ps n p.repeats) q
  row_from_lem i (p ∷ row) ps (suc k) l =
      let q : suc i + k ≡ i + suc k = omega arith in
      row_from_lem (suc i) row ps k (omega arith) ∙ ap (λ (n : ℕ). ruled ps n (repeated row k)) q

  row_at : (row : List Part) (ps : List (List Bytes)) (k : ℕ) → k < length row → part (row_from f 0 row ps) k ≡ ruled ps k (repeated row k)
  row_at row ps k l = let q : 0 + k ≡ k = omega arith in row_from_lem 0 row ps k l ∙ ap (λ (n : ℕ). ruled ps n (repeated row k)) q

same_parts : (xs ys : List (List Bytes)) → length xs ≡ length ys → ((k : ℕ) → k < length xs → part xs k ≡ part ys k) → xs ≡ ys
same_parts [] [] l h = refl
same_parts [] (y ∷ ys) l h = absurd (omega arith)
same_parts (x ∷ xs) [] l h = absurd (omega arith)
same_parts (x ∷ xs) (y ∷ ys) l h = ap (λ (v : List Bytes). v ∷ xs) (h 0 (omega arith)) ∙ ap (λ (vs : List (List Bytes)). y ∷ vs) (same_parts xs ys (omega arith) (λ k q. h (suc k) (omega arith)))

filled_at : (ps : List (List Bytes)) → all (all filled) ps ≡ true → (k : ℕ) → all filled (part ps k) ≡ true
unfolding all
filled_at [] h k = refl
filled_at (p ∷ ps) h zero = and_left (all filled p) _ h
filled_at (p ∷ ps) h (suc k) = filled_at ps (and_right (all filled p) _ h) k

full_at : (ps : List (List Bytes)) → any full ps ≡ true → (k : ℕ) × (k < length ps) × (full (part ps k) ≡ true)
unfolding any
full_at [] h = not-both h refl
full_at (p ∷ ps) h = by_bool (full p) (λ e. (0, omega arith, e)) (λ e. let g = full_at ps (rw e at h) in (suc g.0, omega (arith, g.1), g.2))

at-full : (ps : List (List Bytes)) (k : ℕ) → full (part ps k) ≡ true → any full ps ≡ true
unfolding any
at-full [] k h = not-both h refl
at-full (p ∷ ps) zero h = rw h
at-full (p ∷ ps) (suc k) h = or-second (full p) _ (at-full ps k h)

split_parts : (pss : List (List Bytes)) → empty pss ≡ false → split_text 59 (joined (ascii ";") (map write_part pss)) ≡ map write_part pss
split_parts [] h = not-both refl h
split_parts (vs ∷ pss) h = split-joined 59 (write_part vs) _ refl (sealed-parts (vs ∷ pss))

module _ (row : List Part) (ps : List (List Bytes)) where
  abbrev written : List (List Bytes)
  written = written_parts row ps

  written-length : length written ≡ length row
  unfolding written_parts
  written-length = row-length (λ others vs. vs ++ others) 0 row ps

  written_at : (k : ℕ) → k < length row → part written k ≡ with-some (repeated row k) (λ r. part ps k ++ part ps r) (part ps k)
  unfolding written_parts
  written_at k l = row_at (λ others vs. vs ++ others) row ps k l

  written-filled : all (all filled) ps ≡ true → all (all filled) written ≡ true
  unfolding written_parts all
  written-filled h = by 0 row
    where
      one : (i : ℕ) (o : Option ℕ) → all filled (with-some o (λ r. part ps i ++ part ps r) (part ps i)) ≡ true
      one i none = filled_at ps h i
      one i (some r) = all_both filled (part ps i) (part ps r) (filled_at ps h i) (filled_at ps h r)

      by : (i : ℕ) (row : List Part) → all (all filled) (row_from (λ others vs. vs ++ others) i row ps) ≡ true
      by i [] = refl
      by i (p ∷ row) = all_cons (all filled) (with-some p.repeats (λ r. part ps i ++ part ps r) (part ps i)) (row_from (λ others vs. vs ++ others) (suc i) row ps) (one i p.repeats) (by (suc i) row)

  -- what is appended hides no part
  written-full : length ps ≡ length row → has_parts ps ≡ true → any full written ≡ true
  unfolding has_parts
  written-full l h =
      let g = full_at ps h in
      at-full written g.0 (ap full (written_at g.0 (omega (arith, g.1))) ∙ more (repeated row g.0) g.0 g.2)
    where
      more : (o : Option ℕ) (k : ℕ) → full (part ps k) ≡ true → full (with-some o (λ r. part ps k ++ part ps r) (part ps k)) ≡ true
      more none k e = e
      more (some r) k e = full-more (part ps k) (part ps r) e

  own_at : steady row ≡ true → apart_parts row ps ≡ true → (k : ℕ) → k < length row → part (own_parts row written) k ≡ part ps k
  unfolding own_parts apart_parts
  own_at s a k l = row_at without row written k l ∙ by (repeated row k) refl
    where
      by : (o : Option ℕ) → repeated row k ≡ o → with-some o (λ r. without (part written r) (part written k)) (part written k) ≡ part ps k
      by none e = written_at k l ∙ ap (λ (o : Option ℕ). with-some o (λ r. part ps k ++ part ps r) (part ps k)) e
      by (some r) e =
          let t = steady-at (λ o. with-some o (λ r. ltb r (length row) && not (is_some (repeated row r))) true) row s k r e in
          let m : part written k ≡ part ps k ++ part ps r = written_at k l ∙ ap (λ (o : Option ℕ). with-some o (λ r. part ps k ++ part ps r) (part ps k)) e in
          let n : part written r ≡ part ps r = written_at r (omega (tests, and_left (ltb r (length row)) _ t)) ∙ none-repeated r (repeated row r) (not-true _ (and_right (ltb r (length row)) _ t)) in
          let z : 0 + k ≡ k = omega arith in
          rw (m, n) (own (part ps k) (part ps r) (ap (λ (n : ℕ). apart (part ps n) (part ps r)) (sym z) ∙ apart-at 0 row ps a k r e))
        where
          none-repeated : (r : ℕ) (o : Option ℕ) → is_some o ≡ false → with-some o (λ q. part ps r ++ part ps q) (part ps r) ≡ part ps r
          none-repeated r none h = refl
          none-repeated r (some q) h = not-both refl h

  own-parts : steady row ≡ true → apart_parts row ps ≡ true → length ps ≡ length row → own_parts row written ≡ ps
  unfolding own_parts
  own-parts s a l =
      let m : length (own_parts row written) ≡ length row = row-length without 0 row written in
      same_parts (own_parts row written) ps (m ∙ sym l) (λ k q. own_at s a k (omega (arith, m)))

  -- what is written is read part by part
  row-parts : empty written ≡ false → all (all filled) ps ≡ true → each part_values (split_text 59 (write_parts row ps)) ≡ some written
  unfolding write_parts
  row-parts e h = rw (split_parts written e) (each_part written (written-filled h))

  -- no empty value, no value in both of two parts that are written together, and some value
  pub read-row : steady row ≡ true → empty written ≡ false → length ps ≡ length row → all (all filled) ps ≡ true → apart_parts row ps ≡ true → has_parts ps ≡ true → read_parts row (write_parts row ps) ≡ some ps
  unfolding read_parts write_parts
  read-row s e l h a n =
      let m : length (map write_part written) ≡ length row = length-map written write_part ∙ written-length in
      rw (split_parts written e, m, le-leb (length row) (length row) (omega arith), each_part written (written-filled h), written-full l n, own-parts s a l)

-- ---- N

module _ (a b c d e f g : List Bytes) where
  abbrev seven : List (List Bytes)
  seven = a ∷ b ∷ c ∷ d ∷ e ∷ f ∷ g ∷ []

  some-part : empty (written_parts name_row seven) ≡ false
  unfolding written_parts
  some-part = refl

  steady-name : steady name_row ≡ true
  unfolding all
  steady-name = refl

  apart-name : apart a f ≡ true → apart e g ≡ true → apart_parts name_row seven ≡ true
  unfolding apart_parts
  apart-name p q = rw (p, q)

  pub read-parts : all (all filled) seven ≡ true → each part_values (split_text 59 (write_name seven)) ≡ some (written_parts name_row seven)
  read-parts h = row-parts name_row seven some-part h

  pub read_name_lem : all (all filled) seven ≡ true → apart a f ≡ true → apart e g ≡ true → has_parts seven ≡ true → read_name (write_name seven) ≡ some seven
  read_name_lem h p q n = read-row name_row seven steady-name some-part refl h (apart-name p q) n
