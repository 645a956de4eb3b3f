-- Parameter names and values.
use mathlib.Core.Path.{◌≡◌, refl, sym, ap, ◌∙◌}
use mathlib.Core.Bool.{Bool, true, false}
use mathlib.Core.List.{[], ◌∷◌, ◌++◌, append-nil}
use Rattle.text.specs.Bytes.{Bytes, ascii, flat, all, same, between, lower, upper, lowered, uppered}
use Rattle.line.specs.Class.{is_bare}
use Rattle.line.specs.Write.{write_value}
use Rattle.text.proofs.Cases.{by_bool}
use Rattle.text.proofs.Letters.{lowered-uppered, uppered-lowered}
use Rattle.text.proofs.Same.{same_true, same-eq, differ_same, same_false}

quoted-is : (v : Bytes) → flat ((34 ∷ []) ∷ v ∷ (34 ∷ []) ∷ []) ≡ 34 ∷ (v ++ 34 ∷ [])
unfolding flat
quoted-is v = refl

pub value-always : (v : Bytes) (a : Bool) → a ≡ true → flat ((34 ∷ []) ∷ v ∷ (34 ∷ []) ∷ []) ≡ write_value a v []
unfolding write_value
value-always v a e = rw e (quoted-is v)

pub value-quoted : (v : Bytes) (a : Bool) → a ≡ false → all is_bare v ≡ false → flat ((34 ∷ []) ∷ v ∷ (34 ∷ []) ∷ []) ≡ write_value a v []
unfolding write_value
value-quoted v a e b = rw (e, b) (quoted-is v)

pub value-bare : (v : Bytes) (a : Bool) → a ≡ false → all is_bare v ≡ true → v ≡ write_value a v []
unfolding write_value
value-bare v a e b = rw (e, b) (sym (append-nil v))

-- ---- JSPTR

abbrev always : Bytes → Bool
always n = same (uppered n) (ascii "JSPTR")

to-upper : uppered (ascii "jsptr") ≡ ascii "JSPTR"
unfolding uppered upper between
to-upper = refl

to-lower : lowered (ascii "JSPTR") ≡ ascii "jsptr"
unfolding lowered lower between
to-lower = refl

-- a name is JSPTR in either letter case
pub pointer-named : (n : Bytes) → same (lowered n) (ascii "jsptr") ≡ always n
pointer-named n =
    by_bool (same (lowered n) (ascii "jsptr"))
    (λ e. e ∙ sym (same-eq (sym (uppered-lowered n) ∙ ap uppered (same_true (lowered n) (ascii "jsptr") e) ∙ to-upper)))
    (λ e. e ∙ sym (differ_same (uppered n) (ascii "JSPTR") (λ q. same_false (lowered n) (ascii "jsptr") e (sym (lowered-uppered n) ∙ ap lowered q ∙ to-lower))))
