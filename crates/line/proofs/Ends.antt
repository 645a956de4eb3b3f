-- Line ends: an LF closes a line, and where the last LF is missing one is supposed.
use mathlib.Core.Path.{◌≡◌, refl}
use mathlib.Core.Bool.{true, false}
use mathlib.Core.List.{[], ◌∷◌, ◌++◌}
use Prim.Native.Nat.{ℕ}
use native.Mathlib.Omega.{arith}
use lib.ListN.{length-append}
use lib.Dec.{eqb}
use Rattle.text.specs.Bytes.{Bytes, is, any, on_head}
use Rattle.text.proofs.Cases.{by_bool, not-both}
use Rattle.text.proofs.Lists.{any_head, any-tail}
use Rattle.line.specs.Physical.{by_lf, lacks_lf, size_of}

pub by-lf : (s t : Bytes) → any (is 10) s ≡ false → by_lf (s ++ 10 ∷ t) ≡ s ∷ by_lf t
unfolding by_lf on_head
by-lf [] t h = refl
by-lf (c ∷ s) t h = rw (any_head (is 10) c s h, by-lf s t (any-tail (is 10) c s h))

-- what comes before changes nothing
pub lacks-after : (s : Bytes) (b : ℕ) (t : Bytes) → lacks_lf (s ++ b ∷ t) ≡ lacks_lf (b ∷ t)
unfolding lacks_lf
lacks-after [] b t = refl
lacks-after (c ∷ []) b t = refl
lacks-after (c ∷ (d ∷ s)) b t = lacks-after (d ∷ s) b t

pub lacks-none : (s : Bytes) → any (is 10) s ≡ false → lacks_lf s ≡ true
unfolding lacks_lf any
lacks-none [] h = refl
lacks-none (c ∷ []) h = rw (any_head (is 10) c [] h)
lacks-none (c ∷ (d ∷ s)) h = lacks-none (d ∷ s) (any-tail (is 10) c (d ∷ s) h)

-- ---- the supposed LF, written

pub lacks-ended : (s : Bytes) → lacks_lf (s ++ 10 ∷ []) ≡ false
unfolding lacks_lf
lacks-ended s = lacks-after s 10 []

pub size-ended : (s : Bytes) → lacks_lf s ≡ true → size_of (s ++ 10 ∷ []) ≡ size_of s
unfolding size_of
size-ended s h = rw (lacks-ended s, h, length-append s (10 ∷ [])) (omega arith)

pub by-lf-ended : (c : ℕ) (s : Bytes) → lacks_lf (c ∷ s) ≡ true → by_lf ((c ∷ s) ++ 10 ∷ []) ≡ by_lf (c ∷ s)
unfolding by_lf on_head lacks_lf
by-lf-ended c [] h = by_bool (eqb c 10) (λ e. not-both h (rw e)) (λ e. rw e)
by-lf-ended c (d ∷ s) h = rw (by-lf-ended d s h)
