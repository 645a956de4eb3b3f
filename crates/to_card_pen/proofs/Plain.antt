-- Bytes that stand for themselves: read and written as they are.
use mathlib.Core.Path.{◌≡◌, refl, sym, ap, subst, ◌∙◌}
use mathlib.Core.Bool.{Bool, true, false, ◌&&◌, not}
use mathlib.Core.List.{[], ◌∷◌, ◌++◌, append_assoc}
use mathlib.Core.Option.{some}
use Prim.Native.Nat.{ℕ, zero, suc, ◌+◌, ◌-◌, ◌≤◌, ◌<◌}
use native.Mathlib.Omega.{arith}
use native.Mathlib.Numerals.{add-one}
use native.Mathlib.Nat.{add-zero}
use lib.ListN.{length, take, drop}
use lib.Seq.{drop-cons, take_all}
use lib.Dec.{eqb}
use borrow.Author.Tests.{ne_eqb, le-ltb, eqb-true, eqb-false}
use borrow.Rule.Slice.PartMut.{mid_of, put_mid}
use Rattle.text.specs.Bytes.{Bytes, all, is, between}
use Rattle.text.specs.Places.{byte_at}
use Rattle.text.proofs.Places.{on-yes, on-no}
use Rattle.text.proofs.Cases.{by_bool, split, in_between, between-true, and_left, and_right, not-true}
use Rattle.json_text.specs.Strings.{before}
use Rattle.json_escapes.specs.Units.{unit}
use Rattle.json_escapes.specs.declared.Piece.TheVariants.{Of}
use Rattle.json_strings.specs.declared.Byte.{Byte}
use Rattle.json_strings.specs.declared.Byte.TheVariants.{One}
use Rattle.json_strings.specs.Decoded.{decoded_at, left, weight, byte_of, ByteIn}
use Rattle.json_strings.proofs.Laws.{left-none, left-raw, raw-is, quote-at, bare-at}
use Rattle.json_strings.proofs.NextByte.{one_left}
use Rattle.line.specs.Class.{is_control}
use Rattle.line.specs.Text.{escape}
use Rattle.line_pen.specs.declared.Pen.{Pen}
use Rattle.line_pen.specs.Pen.{Pens}
use Rattle.line_pen.proofs.Laws.{pens-as, pens-then}
use Rattle.to_card_pen.specs.Styles.{byte_in, written_in, stands_in, all_stand_in, PlainByte, PlainRun}
use Rattle.to_card_pen.proofs.Styles.{control-low, escape-none}
use Rattle.to_card_pen.proofs.Strings.{Far, written_both, stand-both}

-- ---- all of the bytes, as a part that is made of them

whole : (s : Bytes) → take (length s - 0) (drop 0 s) ≡ s
whole s = take_all (length s - 0) s (omega arith)

pub in_whole : (s : Bytes) {at : ℕ} → at ≤ length s → at ≤ length (take (length s - 0) (drop 0 s))
in_whole s {at} h = subst (λ (t : Bytes). at ≤ length t) (sym (whole s)) h

pub byte-whole : (s : Bytes) (at hold : ℕ) (r : Byte)
    → let t = take (length s - 0) (drop 0 s) in (left t at hold ≡ byte_of t r) × ByteIn t at hold r
    → (left s at hold ≡ byte_of s r) × ByteIn s at hold r
byte-whole s at hold r = subst (λ (t : Bytes). (left t at hold ≡ byte_of t r) × ByteIn t at hold r) (whole s)

-- ---- plain bytes

module _ (style b : ℕ) (h : PlainByte b true) where
  escaped : (semi : Bool) → escape semi b ≡ b ∷ []
  escaped semi =
      let z : (semi && eqb b 59) ≡ false = ap (λ (x : Bool). semi && x) (ne_eqb b 59 h.5) ∙ go semi in
      sym (escape-none semi b h.3 (λ e. omega (arith, h.0)) h.4 z)
    where
      go : (x : Bool) → (x && false) ≡ false
      go true = refl
      go false = refl

  written : byte_in style b ≡ b ∷ []
  unfolding byte_in
  written = by_bool (eqb style 1) (λ e. rw e (escaped false)) (λ e. rw e (by_bool (eqb style 2) (λ f. rw f (escaped true)) (λ f. rw f)))

  no-control : is_control b ≡ false
  no-control = sym (control-low b h.6 (λ e. omega (arith, h.0))) ∙ le-ltb b 32 h.0

  stands : true ≡ stands_in style b
  unfolding stands_in
  stands = rw (no-control, ne_eqb b 34 h.2) (by_bool (eqb style 0) (λ e. rw e) (λ e. rw e (by_bool (eqb style 3) (λ f. rw f) (λ f. rw f))))

module _ (s : Bytes) (i b : ℕ) (e : b ≡ byte_at s i) (h : PlainByte b true) where
  read : decoded_at s i ≡ before (b ∷ []) (decoded_at s (i + 1))
  unfolding unit
  read =
      raw-is s i {r = Of b (i + 1)}
      (on-no (is 34) s i b e _ _ (ne_eqb _ _ h.2) ∙ on-no (is 92) s i b e _ _ (ne_eqb _ _ h.3) ∙ on-yes (between 32 255) s i b e _ _ (in_between 32 255 b h.0 (omega (arith, h.1)))) b (i + 1) refl h.1

  plain-left : left s i 0 ≡ byte_of s (One b (i + 1) 0)
  plain-left = left-none s i ∙ read ∙ ap (before (b ∷ [])) (sym (left-none s (i + 1)))

-- ---- what comes next, by the byte that stands there, where nothing is held

and_no : (a b : Bool) → a ≡ true → a && b ≡ false → b ≡ false
and_no true b e f = f
and_no false b e f = cc

module _ (s : Bytes) (at h b : ℕ) (e : b ≡ byte_at s at) where
  pub quote-next : eqb h 0 && eqb b 34 ≡ true → left s at h ≡ some []
  quote-next q = ap (left s at) (eqb-true h 0 (and_left _ _ q)) ∙ left-none s at ∙ quote-at s at b e (eqb-true b 34 (and_right (eqb h 0) _ q))

  pub bare-next : (r : Bool) → r ≡ between 32 255 b → eqb h 0 && eqb b 34 ≡ false → eqb h 0 && (not (eqb b 92) && r) ≡ true → (b < 256) × (left s at h ≡ byte_of s (One b (at + 1) 0))
  bare-next r w n q =
      let z = and_left (eqb h 0) _ q in
      let m = and_right (eqb h 0) _ q in
      let l = between-true 32 255 b (sym w ∙ and_right (not (eqb b 92)) r m) in
      let quote = eqb-false b 34 (and_no (eqb h 0) _ z n) in
      let backslash = eqb-false b 92 (not-true (eqb b 92) (and_left _ r m)) in
      (omega (arith, l.1), ap (left s at) (eqb-true h 0 z) ∙ left-raw s at b (at + 1) (bare-at s at b e quote backslash l.0 (omega (arith, l.1))))

-- ---- runs of them

pub run_none : (s : Bytes) (h i : ℕ) → PlainRun s h i i
run_none s h i j a l = let x : ◌≡◌ {A = ℕ} 0 1 = omega arith in omega arith

pub run_more : (s : Bytes) (h a i b : ℕ) → PlainRun s h a i → h ≡ 0 → b ≡ byte_at s i → PlainByte b true → PlainRun s h a (i + 1)
run_more s h a i b w z e p j m l =
    split i j
    (λ u. let q : i ≡ j = omega arith in (z, subst (λ (x : ℕ). PlainByte x true) (e ∙ ap (byte_at s) q) p))
    (λ u. w j m u)

pub run-weight : (s : Bytes) (h i e : ℕ) → i ≤ e → weight s e h ≤ weight s i h
unfolding weight
run-weight s h i e l = omega arith

module _ (s : Bytes) (h : ℕ) where
  run-first : (i m : ℕ) → i < length s → take (suc m) (drop i s) ≡ byte_at s i ∷ take m (drop (suc i) s)
  run-first i m l = rw (drop-cons s i 256 l)

  run-rest : (i m : ℕ) → PlainRun s h i (i + suc m) → PlainRun s h (suc i) (suc i + m)
  run-rest i m w j a l = w j (omega arith) (omega arith)

  run-written : (style i m : ℕ) → i + m ≤ length s → PlainRun s h i (i + m) → written_in style (take m (drop i s)) ≡ take m (drop i s)
  unfolding written_in
  run-written style i zero l w = refl
  run-written style i (suc m) l w =
      let r : written_in style (take m (drop (suc i) s)) ≡ take m (drop (suc i) s) = run-written style (suc i) m (omega arith) (run-rest i m w) in
      rw (run-first i m (omega arith), written style (byte_at s i) (w i (omega arith) (omega arith)).1, r)

  run-stands : (style i m : ℕ) → i + m ≤ length s → PlainRun s h i (i + m) → all_stand_in style (take m (drop i s)) ≡ true
  unfolding all_stand_in all
  run-stands style i zero l w = refl
  run-stands style i (suc m) l w =
      let r : all_stand_in style (take m (drop (suc i) s)) ≡ true = run-stands style (suc i) m (omega arith) (run-rest i m w) in
      rw (run-first i m (omega arith), ← stands style (byte_at s i) (w i (omega arith) (omega arith)).1) r

  run-left : (i m : ℕ) → i + m ≤ length s → PlainRun s h i (i + m) → (y : Bytes) → left s i h ≡ some y → (u : Bytes) × (left s (i + m) h ≡ some u) × (y ≡ take m (drop i s) ++ u)
  run-left i zero l w y q = (y, ap (λ (j : ℕ). left s j h) (add-zero i) ∙ q, refl)
  run-left i (suc m) l w y q =
      let z = w i (omega arith) (omega arith) in
      let o = one_left s (ap (left s i) z.0 ∙ plain-left s i (byte_at s i) refl z.1) y q refl in
      let n : left s (suc i) h ≡ some o.0 = ap (λ (j : ℕ). left s j h) (sym (add-one i)) ∙ ap (left s (i + 1)) z.0 ∙ o.1 in
      let r = run-left (suc i) m (omega arith) (run-rest i m w) o.0 n in
      let e : i + suc m ≡ suc i + m = omega arith in
      (r.0, ap (λ (j : ℕ). left s j h) e ∙ r.1, o.2 ∙ ap (λ (t : Bytes). byte_at s i ∷ t) r.2 ∙ ap (λ (t : Bytes). t ++ r.0) (sym (run-first i m (omega arith))))

and-true : (b : Bool) → b ≡ b && true
and-true true = refl
and-true false = refl

-- a turn of the loop over such a run
module _ {s : Bytes} {at style : ℕ} {room : Bytes} {column n k : ℕ} {ok : Bool} {i h : ℕ} {out : Bytes} (f : Far s at style room column n k ok i h out) where
  far_some : (m : ℕ) → i + m ≤ length s → PlainRun s h i (i + m) → {p : Pen} {last : Bytes} → Pens (mid_of n (length out - n) out) k (take m (drop i s)) p last
      → Far s at style room column (n + p.bytes) p.column ok (i + m) h (put_mid n (length out - n) out last)
  far_some m l w {p} {last} q =
      let y = take m (drop i s) in
      record {
        done = f.done ++ y;
        rest = λ x v.
            let t = f.rest x v in
            let o = run-left s h i m l w t.0 t.1 in
            (o.0, o.1, t.2 ∙ ap (λ (z : Bytes). f.done ++ z) o.2 ∙ sym (append_assoc f.done y o.0));
        pens = pens-as (ap (λ (z : Bytes). written_in style f.done ++ z) (sym (run-written s h style i m l w)) ∙ sym (written_both style f.done y)) (pens-then f.pens q);
        stands = f.stands ∙ and-true _ ∙ ap (λ (b : Bool). all_stand_in style f.done && b) (sym (run-stands s h style i m l w)) ∙ sym (stand-both style f.done y);
      }

  pub far-run : (e : ℕ) → i ≤ e → e ≤ length s → PlainRun s h i e → {p : Pen} {last : Bytes} → Pens (mid_of n (length out - n) out) k (take (e - i) (drop i s)) p last
      → Far s at style room column (n + p.bytes) p.column ok e h (put_mid n (length out - n) out last)
  far-run e a b w {p} {last} q =
      let d : i + (e - i) ≡ e = omega arith in
      subst (λ (x : ℕ). Far s at style room column (n + p.bytes) p.column ok x h (put_mid n (length out - n) out last)) d
      (far_some (e - i) (omega arith) (subst (PlainRun s h i) (sym d) w) q)
