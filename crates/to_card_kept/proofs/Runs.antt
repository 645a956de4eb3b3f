-- What a run of entries answered, by cases.
use mathlib.Core.Path.{◌≡◌, subst}
use Rattle.std.specs.Prelude.{Err, Ok}
use mathlib.Core.Bool.{Bool}
use mathlib.Core.List.{List}
use Prim.Native.Nat.{ℕ, ◌+◌, ◌-◌, ◌≤◌}
use native.Mathlib.Omega.{arith}
use borrow.Rule.Slice.PartMut.{mid_of, put_mid}
use lib.ListN.{length, take, drop}
use Rattle.text.specs.Bytes.{Bytes}
use Rattle.to_card_kept_names.specs.Groups.{Indexes}
use Rattle.to_card_lines.specs.Lines.{LinesIn, Laid, laid}
use Rattle.to_card_kept.specs.declared.KeptLine.{KeptLine}
use Rattle.std.specs.Prelude.{Some}
use Rattle.to_card_kept.specs.declared.Run.{Run}
use Rattle.to_card_kept.specs.declared.Run.TheVariants.{Ended, More}
use Rattle.to_card_kept.specs.Puts.{Tried, AskedOnce, PutsFrom, LinesWithin, RunIn, before_lines, PutsRun}

-- a slice of the first k rows
pub index-taken : (s : Bytes) (slots places prints ends : List ℕ) (k : ℕ) → Indexes s slots places prints (take k ends) → Indexes s slots places prints (take (k - 0) (drop 0 ends))
index-taken s slots places prints ends k h = let z : k ≡ k - 0 = omega arith in subst (λ (n : ℕ). Indexes s slots places prints (take n ends)) z h

-- ---- bounds

within_in : (room most : ℕ) (r : Laid) → LinesWithin room most r → LinesIn room r
within_in room most (Ok l) h = h.0
within_in room most (Err e) h = tt

module _ (room text most : ℕ) {x : Run} (h : RunIn room text most x) where
  pub ended-within : (r : Laid) → x ≡ Ended r → LinesWithin room (text + 1) r
  ended-within r e = subst (RunIn room text most) e h

  pub ended-in : (r : Laid) → x ≡ Ended r → LinesIn room r
  ended-in r e = within_in room (text + 1) r (ended-within r e)

  pub more_within : (n lines : ℕ) (ok : Bool) (j : ℕ) → x ≡ More n lines ok j → (n ≤ room) × (lines ≤ j) × (j ≤ text) × (most ≤ lines)
  more_within n lines ok j e = subst (RunIn room text most) e h

pub all-within : (room most : ℕ) (n k : ℕ) (c : Bool) {r : Laid} → LinesWithin room most r → r ≡ laid n k c → (n ≤ room) × (k ≤ most)
all-within room most n k c h e = subst (LinesWithin room most) e h

pub asked-once : {l : KeptLine} {r : Tried} → AskedOnce r → r ≡ Some l → l.asked ≤ 1
asked-once h e = subst AskedOnce e h

-- no run is longer than the text
pub no_more : (room text : ℕ) {x : Run} → RunIn room text (text + 1) x → (n lines : ℕ) (ok : Bool) (j : ℕ) → x ≡ More n lines ok j → ⊥
no_more room text h n lines ok j e = let v = more_within room text (text + 1) h n lines ok j e in omega (arith, v.1, v.2, v.3)

-- ---- what is put

module _ (s : Bytes) (slots : List ℕ) (at : ℕ) (full parts : Bool) (room : Bytes) (x : Run) (out : Bytes) (h : PutsRun s slots at full parts room x out) where
  pub ended-puts : (r : Laid) → x ≡ Ended r → PutsFrom s slots at full parts room r out
  ended-puts r e = subst (λ (y : Run). PutsRun s slots at full parts room y out) e h

  pub more-puts : (n lines : ℕ) (ok : Bool) (j : ℕ) → x ≡ More n lines ok j → (r : Laid) (last : Bytes) → PutsFrom s slots j full parts (mid_of n (length out - n) out) r last
      → (w : Laid) → r ≡ w → PutsFrom s slots at full parts room (before_lines n lines ok w) (put_mid n (length out - n) out last)
  more-puts n lines ok j e r last g w q =
      subst (λ (y : Run). PutsRun s slots at full parts room y out) e h w last (subst (λ (y : Laid). PutsFrom s slots j full parts (mid_of n (length out - n) out) y last) q g)
