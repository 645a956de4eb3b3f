-- One byte after the other: names in capitals, and bytes of which it is told whether a line can carry them.
use mathlib.Core.Path.{◌≡◌, refl, sym, ap, ◌∙◌}
use mathlib.Core.Bool.{Bool, true, ◌&&◌}
use mathlib.Core.List.{[], ◌∷◌, ◌++◌}
use Prim.Native.Nat.{ℕ, ◌+◌, ◌-◌, ◌≤◌, ◌<◌}
use borrow.Rule.Slice.PartMut.{mid_of, put_mid}
use lib.ListN.{length, take, get_or}
use lib.Seq.{take_all}
use Rattle.text.specs.Bytes.{Bytes, all, upper, uppered}
use Rattle.text.proofs.Lists.{map_both}
use Rattle.line.specs.Write.{write_value}
use Rattle.line_pen.specs.declared.Pen.{Pen}
use Rattle.line_pen.specs.Pen.{Pens}
use Rattle.line_pen.proofs.Laws.{pens-none, pens-as, pens-then, one_more}
use Rattle.to_card_pen.specs.declared.Told.{Told}
use Rattle.to_card_pen.specs.Styles.{stands_in, all_stand_in}
use Rattle.convert.specs.Carry.{carried_param}
use Rattle.to_card_pen.proofs.Strings.{stand-more}
use Rattle.to_card_kept_entry.specs.writing.Line.{lead_text, row_text, Tells}

-- ---- capitals

upper-more : (s : Bytes) (i : ℕ) (c : ℕ) → i < length s → c ≡ upper (get_or s i 0) → uppered (take i s) ++ (c ∷ []) ≡ uppered (take (i + 1) s)
unfolding uppered
upper-more s i c h e = ap (λ (x : ℕ). uppered (take i s) ++ (x ∷ [])) e ∙ sym (map_both upper (take i s) (get_or s i 0 ∷ [])) ∙ ap uppered (one_more s i h)

pub upper_first : (room s : Bytes) (k : ℕ) → Pens room k (uppered (take 0 s)) (record { bytes = 0; column = k }) room
unfolding uppered
upper_first room s k = pens-none room k

pub upper-on : (s : Bytes) {room out last : Bytes} {column n k i c : ℕ} {p : Pen} → Pens room column (uppered (take i s)) (record { bytes = n; column = k }) out → i < length s → c ≡ upper (get_or s i 0)
    → Pens (mid_of n (length out - n) out) k (c ∷ []) p last → Pens room column (uppered (take (i + 1) s)) (record { bytes = n + p.bytes; column = p.column }) (put_mid n (length out - n) out last)
upper-on s {i = i} {c} f h e g = pens-as (upper-more s i c h e) (pens-then f g)

pub upper-all : (s : Bytes) {room out : Bytes} {column n k i : ℕ} → Pens room column (uppered (take i s)) (record { bytes = n; column = k }) out → length s ≤ i → Pens room column (uppered s) (record { bytes = n; column = k }) out
upper-all s {i = i} f h = pens-as (ap uppered (take_all i s h)) f

-- ---- bytes, and whether each can stand there

module _ (style : ℕ) (s : Bytes) where
  -- whether those so far can
  abbrev pub StandSofar : Bool → ℕ → Type 0
  StandSofar ok i = ok ≡ all_stand_in style (take i s)

  pub stand-first : StandSofar true 0
  unfolding all_stand_in all
  stand-first = refl

  pub stand-on : {ok c : Bool} {i : ℕ} → StandSofar ok i → i < length s → c ≡ stands_in style (get_or s i 0) → StandSofar (ok && c) (i + 1)
  stand-on {c = c} {i} f h e =
      ap (λ (x : Bool). x && c) f
      ∙ ap (λ (x : Bool). all_stand_in style (take i s) && x) e
      ∙ stand-more style (take i s) (get_or s i 0)
      ∙ ap (all_stand_in style) (one_more s i h)

  pub stand-all : {ok : Bool} {i : ℕ} → StandSofar ok i → length s ≤ i → ok ≡ all_stand_in style s
  stand-all {i = i} f h = f ∙ ap (all_stand_in style) (take_all i s h)

-- ---- pieces one after the other

-- what stands before a value, and the value
pub row-tells : (more : Bool) (n : Bytes) (quoted : Bool) (v : Bytes) {room out last : Bytes} {column : ℕ} {p : Pen} {r : Told} → Pens room column (lead_text more n) p out
    → Tells (mid_of p.bytes (length out - p.bytes) out) p.column (write_value quoted v []) (carried_param v) r last
    → Tells room column (row_text more n quoted v) (carried_param v) (record { bytes = p.bytes + r.bytes; column = r.column; carried = r.carried }) (put_mid p.bytes (length out - p.bytes) out last)
unfolding row_text
row-tells more n quoted v f g = record { pens = pens-then f g.pens; carried = g.carried }

pub tells_as : {room x y after : Bytes} {column : ℕ} {a b : Bool} {r : Told} → x ≡ y → a ≡ b → Tells room column x a r after → Tells room column y b r after
tells_as e q f = record { pens = pens-as e f.pens; carried = f.carried ∙ q }
