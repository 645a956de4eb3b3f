-- The library's `==` of byte slices is `same`.
use mathlib.Core.Path.{◌≡◌, refl, ap}
use mathlib.Core.Bool.{◌&&◌}
use mathlib.Core.List.{[], ◌∷◌}
use lib.Dec.{eqb}
use lib.Pointwise.{pointwise}
use Rattle.text.specs.Bytes.{Bytes, same}

pub equal-same : (s t : Bytes) → pointwise eqb s t ≡ same s t
unfolding same
equal-same [] [] = refl
equal-same [] (y ∷ t) = refl
equal-same (x ∷ s) [] = refl
equal-same (x ∷ s) (y ∷ t) = ap (λ b. eqb x y && b) (equal-same s t)
