-- What the exit of a `?` hands on: the error as it was.
use mathlib.Core.Path.{◌≡◌, sym, ap}
use Rattle.std.specs.Prelude.{Result, Ok, Err}
use Rattle.std.specs.Result.{IsErrAnd}
use Prim.Native.Nat.{ℕ}
use Rattle.text.specs.Bytes.{Bytes}
use Rattle.text.specs.Reader.{Got}
use Rattle.text.specs.Places.{Read, Gives}
use Rattle.text.proofs.Places.{gives_as}

pub same-error : {T E : Type 0} {e : E} (r : Result T E) → IsErrAnd r (λ y. y ≡ e) → r ≡ Err e
same-error (Ok x) h = absurd h
same-error (Err y) h = ap Err h

-- of a reader by place
pub handed : {A : Type 0} {s : Bytes} {at b : ℕ} {want : Got A} {r : Read} → IsErrAnd r (λ y. y ≡ b) → Gives s at want (Err b) → Gives s at want r
handed {r = r} h g = gives_as g (sym (same-error r h))
