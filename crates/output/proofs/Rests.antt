-- A loop that writes, by what is left to write.
use mathlib.Core.Path.{◌≡◌, refl, sym, ap, ◌∙◌}
use Prim.Native.Nat.{ℕ, ◌+◌, ◌-◌, ◌^◌, ◌≤◌, ◌<◌}
use mir.Val.{Fits}
use mir.Syntax.{w64}
use mathlib.Core.List.{[], ◌∷◌, ◌++◌, append_assoc, append-nil}
use native.Mathlib.Nat.{lt_of_le_of_lt}
use native.Mathlib.Omega.{arith}
use lib.ListN.{length, set}
use borrow.Rule.Slice.PartMut.{mid_of, put_mid}
use Rattle.text.specs.Bytes.{Bytes}
use Rattle.output.specs.Put.{Wrote, full}
use Rattle.std.specs.Prelude.{Ok, Err}
use Rattle.output.specs.Put.{Puts, Rest}
use Rattle.output.proofs.Laws.{start, byte, no_byte, done, next, stop, more, puts-as}

pub rest_all : (room whole : Bytes) → Rest room whole whole 0 room
rest_all room whole = record { x = []; so = start room; rest = refl }

pub rest-as : {room whole todo more out : Bytes} {at : ℕ} → todo ≡ more → Rest room whole todo at out → Rest room whole more at out
rest-as e r = record { x = r.x; so = r.so; rest = ap (λ l. r.x ++ l) (sym e) ∙ r.rest }

-- one byte is stored, or there is no room for it
pub rest-byte : {room whole todo out : Bytes} {at b : ℕ} → Rest room whole (b ∷ todo) at out → at < length out
    → Rest room whole todo (at + 1) (set out at b)
rest-byte {todo = todo} {b = b} r h = record {
  x = r.x ++ (b ∷ []);
  so = byte b r.so h;
  rest = append_assoc r.x (b ∷ []) todo ∙ r.rest;
}

pub rest-no-byte : {room whole todo out : Bytes} {at b : ℕ} → Rest room whole (b ∷ todo) at out → length out ≤ at → Puts room whole (Err full) out
rest-no-byte {todo = todo} {b = b} r h = puts-as (append_assoc r.x (b ∷ []) todo ∙ r.rest) (more todo (no_byte b r.so h))

-- a writer that was lent the rest wrote the next piece, or had no room
pub rest-next : {room whole y last : Bytes} {at n : ℕ} {out : Bytes} {r : Wrote} (todo : Bytes) → Rest room whole (y ++ todo) at out
    → Puts (mid_of at (length out - at) out) y r last → r ≡ Ok n → Rest room whole todo (at + n) (put_mid at (length out - at) out last)
rest-next {y = y} todo l p e = record {
  x = l.x ++ y;
  so = next l.so p e;
  rest = append_assoc l.x y todo ∙ l.rest;
}

pub rest-stop : {room whole y last : Bytes} {at : ℕ} {out : Bytes} {r : Wrote} (todo : Bytes) → Rest room whole (y ++ todo) at out
    → Puts (mid_of at (length out - at) out) y r last → r ≡ (Err full) → Puts room whole (Err full) (put_mid at (length out - at) out last)
rest-stop {y = y} todo l p e = puts-as (append_assoc l.x y todo ∙ l.rest) (more todo (stop l.so p e))

-- nothing is left
pub rest-done : {room whole todo out : Bytes} {at : ℕ} → todo ≡ [] → Rest room whole todo at out → Puts room whole (Ok at) out
rest-done e r = puts-as (sym (append-nil r.x) ∙ ap (λ l. r.x ++ l) (sym e) ∙ r.rest) (done r.so)

-- ---- the index so far

pub rest_in : {room whole todo out : Bytes} {at : ℕ} → Rest room whole todo at out → at ≤ length out
rest_in r = omega (arith, r.so.fits, r.so.same)

pub rest-fit : {room whole todo out : Bytes} {at : ℕ} → Rest room whole todo at out → length room < 2 ^ 64 → Fits w64 at
rest-fit r h = record { fits = lt_of_le_of_lt r.so.fits h }

pub rest-same : {room whole todo out : Bytes} {at : ℕ} → Rest room whole todo at out → length out ≡ length room
rest-same r = r.so.same

-- `Rest` with what it is of, for a helper's signature: it computes
pub record Going : Type 0 where
  pub room : Bytes
  pub whole : Bytes
  pub todo : Bytes
  pub at : ℕ
  pub out : Bytes
  pub left : Rest room whole todo at out

abbrev pub going : {room whole todo out : Bytes} {at : ℕ} → Rest room whole todo at out → Going
going {room} {whole} {todo} {out} {at} r = record { room = room; whole = whole; todo = todo; at = at; out = out; left = r }
