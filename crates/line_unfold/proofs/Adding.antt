-- Adding to what was written so far.
use mathlib.Core.Path.{◌≡◌, refl, sym, ap, subst, ◌∙◌}
use mathlib.Core.List.{[], ◌∷◌, ◌++◌, append_assoc, append-nil}
use Prim.Native.Nat.{ℕ, ◌+◌, ◌≤◌, ◌<◌}
use native.Mathlib.Nat.{add-zero}
use native.Mathlib.Omega.{arith}
use lib.ListN.{length, take, get_or, set}
use lib.Seq.{take_all, length-take-le}
use Rattle.text.specs.Bytes.{Bytes}
use Rattle.output.specs.Put.{Sofar, Rest}
use Rattle.output.proofs.Laws.{byte, sofar-as}
use Rattle.output.proofs.Pieces.{one_more}
use Rattle.line_unfold.specs.Table.{Adds}

-- ---- byte by byte

module _ (out src : Bytes) (at : ℕ) where
  pub adds_none : Adds out at (take 0 src) (at + 0) out
  adds_none = record { is = refl; goes = λ room x so. rw (append-nil x, add-zero at) so }

  pub adds-more : (after : Bytes) (i : ℕ) → Adds out at (take i src) (at + i) after → i < length src → at + i < length after
      → Adds out at (take (i + 1) src) (at + (i + 1)) (set after (at + i) (get_or src i 0))
  adds-more after i a h l =
      let n : (at + i) + 1 ≡ at + (i + 1) = omega arith in
      record {
        is = ap (λ m. at + m) (sym (length-take-le (i + 1) src (omega arith)));
        goes = λ room x so.
            subst (λ m. Sofar room (x ++ take (i + 1) src) m (set after (at + i) (get_or src i 0))) n
            (sofar-as (append_assoc x (take i src) (get_or src i 0 ∷ []) ∙ ap (λ y. x ++ y) (one_more src i h)) (byte (get_or src i 0) (a.goes room x so) l));
      }

  pub adds-all : (after : Bytes) (i : ℕ) → Adds out at (take i src) (at + i) after → length src ≤ i → Adds out at src (at + i) after
  adds-all after i a h = subst (λ y. Adds out at y (at + i) after) (take_all i src h) a

pub rest-adds : {room whole out src after : Bytes} {at r : ℕ} (todo : Bytes) → Rest room whole (src ++ todo) at out → Adds out at src r after
    → Rest room whole todo r after
rest-adds {room} {src = src} todo l a = record {
  x = l.x ++ src;
  so = a.goes room l.x l.so;
  rest = append_assoc l.x src todo ∙ l.rest;
}
