-- A row of writers, one after the other: a whole that is `flat` of its pieces. `proof row` writes the proofs of such rows.
use mathlib.Core.Path.{◌≡◌, refl, sym, ap, ◌∙◌}
use Prim.Native.Nat.{ℕ, ◌+◌, ◌-◌, ◌^◌, ◌≤◌, ◌<◌}
use mir.Val.{Fits}
use mir.Syntax.{w64}
use mathlib.Core.List.{List, [], ◌∷◌, ◌++◌, append_assoc, append-nil}
use native.Mathlib.Nat.{lt_of_le_of_lt}
use lib.ListN.{length}
use borrow.Rule.Slice.PartMut.{mid_of, put_mid}
use Rattle.text.specs.Bytes.{Bytes, flat}
use Rattle.output.specs.Put.{Wrote, full}
use Rattle.std.specs.Prelude.{Ok, Err}
use Rattle.output.specs.Put.{Puts, Left, hd, tl}
use Rattle.output.proofs.Laws.{length-put, done, next, stop, more, puts-as, first, first-full, within}

flat-hd : (todo : List Bytes) → flat todo ≡ hd todo ++ flat (tl todo)
unfolding flat
flat-hd [] = refl
flat-hd (y ∷ ys) = refl

flat-nil : flat {A = ℕ} [] ≡ []
unfolding flat
flat-nil = refl

-- A place in a function that writes piece by piece. A helper's signature names it, and it computes.
pub record Here : Type 0 where
  pub room : Bytes
  pub whole : Bytes
  pub todo : List Bytes
  pub at : ℕ
  pub out : Bytes
  pub left : Left room whole todo at out

-- a writer that was lent the rest wrote the next piece
pub step : {room whole last : Bytes} {todo : List Bytes} {at n : ℕ} {out : Bytes} {r : Wrote} → Left room whole todo at out
    → Puts (mid_of at (length out - at) out) (hd todo) r last → r ≡ Ok n → Left room whole (tl todo) (at + n) (put_mid at (length out - at) out last)
step {todo = todo} l p e = record {
  x = l.x ++ hd todo;
  so = next l.so p e;
  rest = append_assoc l.x (hd todo) (flat (tl todo)) ∙ ap (λ m. l.x ++ m) (sym (flat-hd todo)) ∙ l.rest;
}

-- the first piece is written, or is not
pub opens : {room y last : Bytes} (ys : List Bytes) {n : ℕ} {r : Wrote} → Puts room y r last → r ≡ Ok n → Left room (flat (y ∷ ys)) ys n last
opens {y = y} ys p e = record { x = y; so = first p e; rest = sym (flat-hd (y ∷ ys)) }

pub none : {room y last : Bytes} (ys : List Bytes) {r : Wrote} → Puts room y r last → r ≡ (Err full) → Puts room (flat (y ∷ ys)) (Err full) last
none {y = y} ys p e = puts-as (sym (flat-hd (y ∷ ys))) (more (flat ys) (first-full p e))

-- all pieces are written
pub all : {room whole : Bytes} {at : ℕ} {out : Bytes} → Left room whole [] at out → Puts room whole (Ok at) out
all l = puts-as (sym (append-nil _) ∙ ap (λ m. l.x ++ m) (sym flat-nil) ∙ l.rest) (done l.so)

abbrev pub first! : {room y last : Bytes} {n : ℕ} {r : Wrote} (ys : List Bytes) → Puts room y r last → r ≡ Ok n → Here
first! {room} {y} {last} {n} ys p e = record { room = room; whole = flat (y ∷ ys); todo = ys; at = n; out = last; left = opens ys p e }

abbrev pub next! : (s : Here) {last : Bytes} {n : ℕ} {r : Wrote} → Puts (mid_of s.at (length s.out - s.at) s.out) (hd s.todo) r last → r ≡ Ok n → Here
next! s {last} {n} p e = record {
  room = s.room;
  whole = s.whole;
  todo = tl s.todo;
  at = s.at + n;
  out = put_mid s.at (length s.out - s.at) s.out last;
  left = step s.left p e;
}

-- the next piece has no room
pub stop! : (s : Here) {last : Bytes} {r : Wrote} → Puts (mid_of s.at (length s.out - s.at) s.out) (hd s.todo) r last → r ≡ (Err full)
    → Puts s.room s.whole (Err full) (put_mid s.at (length s.out - s.at) s.out last)
stop! s p e =
    let l = s.left in
    let g : flat s.todo ≡ hd s.todo ++ flat (tl s.todo) = flat-hd s.todo in
    puts-as (append_assoc l.x (hd s.todo) (flat (tl s.todo)) ∙ ap (λ m. l.x ++ m) (sym g) ∙ l.rest) (more (flat (tl s.todo)) (stop l.so p e))

pub in! : (s : Here) → s.at ≤ length s.out
in! s = within s.left.so

pub fits! : (s : Here) → s.at ≤ length s.room
fits! s = s.left.so.fits

pub same! : (s : Here) → length s.out ≡ length s.room
same! s = s.left.so.same

pub length-puts : {room x out : Bytes} {r : Wrote} → Puts room x r out → length out ≡ length room
length-puts {room} {x} p = ap length p.left ∙ length-put room x

-- an index so far fits a usize
pub fit! : (s : Here) → length s.room < 2 ^ 64 → Fits w64 s.at
fit! s h = record { fits = lt_of_le_of_lt (fits! s) h }
