-- What stands in a slot: whether there is a value, and its kind.
use mathlib.Core.Path.{◌≡◌, refl, sym, ap, ◌∙◌}
use mathlib.Core.Bool.{true}
use mathlib.Core.List.{[]}
use mathlib.Core.Option.{Option, none, some}
use Prim.Native.Nat.{ℕ, zero, suc, ◌<◌}
use native.Mathlib.Omega.{arith}
use lib.Dec.{eqb}
use lib.ListN.{length, drop_of_length-le}
use borrow.Author.Tests.{eq-eqb, ne_eqb, eqb-true}
use Rattle.text.specs.Bytes.{Bytes, between}
use Rattle.text.specs.Reader.{bad, on, when, past, some_of}
use Rattle.text.proofs.Readers.{not-bad}
use Rattle.text.proofs.Choices.{some_same, map-inv}
use Rattle.json_text.specs.Tree.{Json, jnull, jtrue, jfalse, jnum, jstr, jarr, jobj}
use Rattle.json_text.specs.Syntax.{skip, scalar, number, opt, int, digits, value}
use Rattle.json_text.specs.Strings.{decode, decoded, decoded_elems, decoded_members}
use Rattle.json_access.specs.declared.Kind.{Kind}
use Rattle.json_access.specs.Access.{TellsKind, kind_of}
use Rattle.json_index.specs.Index.{json_at, Slot}
use Rattle.json_walk.proofs.Values.{at-inv}
pub use Rattle.json_walk.proofs.Each.{prepend, prepend-nil, prepend-one}

-- ---- slots

pub slot-none : {d : ℕ} {s : Bytes} {x : ℕ} {o : Option Json} → Slot d s x o → x ≡ 0 → o ≡ none
slot-none {d} {s} {x} {o} h e = h.is ∙ rw (eq-eqb x 0 e)

pub slot-some : {d : ℕ} {s : Bytes} {x : ℕ} {o : Option Json} → Slot d s x o → (x ≡ 0 → ⊥) → (v : Json) × (o ≡ some v) × (json_at d s x ≡ some v)
slot-some {d} {s} {x} {o} h n = by o h
  where
    by : (p : Option Json) → Slot d s x p → (v : Json) × (p ≡ some v) × (json_at d s x ≡ some v)
    by none h = let z : eqb x 0 ≡ true = h.there in absurd (n (eqb-true x 0 z))
    by (some v) h = (v, refl, sym (h.is ∙ rw (ne_eqb x 0 n)))

-- ---- past the end no value stands

no_value : (d : ℕ) → value d [] ≡ bad []
unfolding value scalar number opt int digits some_of skip past on when between
no_value zero = refl
no_value (suc d) = refl

pub none-past : {P : Type 0} (d : ℕ) (s : Bytes) (at : ℕ) (v : Json) → length s < at → json_at d s at ≡ some v → P
none-past d s at v h w =
    let u = at-inv d s at v w in
    absurd (not-bad (sym (ap (value d) (drop_of_length-le s {i = at} (omega arith)) ∙ no_value d) ∙ u.2))

-- ---- kinds

decoded-kind : (u v : Json) → decoded u ≡ some v → kind_of u ≡ kind_of v
unfolding decoded
decoded-kind jnull v e = ap kind_of (some_same e)
decoded-kind jtrue v e = ap kind_of (some_same e)
decoded-kind jfalse v e = ap kind_of (some_same e)
decoded-kind (jnum x) v e = ap kind_of (some_same e)
decoded-kind (jstr x) v e = ap kind_of (map-inv jstr (decode x) e).2
decoded-kind (jarr x) v e = ap kind_of (map-inv jarr (decoded_elems x) e).2
decoded-kind (jobj x) v e = ap kind_of (map-inv jobj (decoded_members x) e).2

pub kind-told : (d : ℕ) (s : Bytes) (at : ℕ) (k : Kind) → TellsKind s at k → (v : Json) → json_at (suc d) s at ≡ some v → k ≡ kind_of v
kind-told d s at k t v e = let u = at-inv (suc d) s at v e in t d u.0 u.1 u.2 ∙ decoded-kind u.0 v u.3
