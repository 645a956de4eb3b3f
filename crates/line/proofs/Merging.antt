-- Equal-named parameters as one: doing it again changes nothing.
use mathlib.Core.Path.{◌≡◌, refl, ap, ◌∙◌}
use mathlib.Core.Bool.{Bool, false, not}
use mathlib.Core.List.{List, [], ◌∷◌, append-nil}
use Rattle.text.specs.Bytes.{Bytes, any, lowered, flat, keep}
use Rattle.text.proofs.Cases.{by_bool}
use Rattle.text.proofs.Letters.{lowered-lowered}
use Rattle.text.proofs.Lists.{any_head, any-tail, keep_all, keep-none, all-not}
use Rattle.line.specs.Grammar.{Param, param}
use Rattle.line.specs.Params.{named, values_named, lacking, merged}

-- lower-case names, no two equal
abbrev pub Settled : List Param → Type 0
Settled [] = Unit {0}
Settled (param n vs ∷ ps) = (lowered n ≡ n) × (any (named n) ps ≡ false) × Settled ps

pub settled-merged : (ps : List Param) → Settled ps → merged ps ≡ ps
unfolding merged values_named lacking flat
settled-merged [] h = refl
settled-merged (param n vs ∷ ps) h =
    rw (settled-merged ps h.2, h.0, keep-none (named n) ps h.1, append-nil vs, keep_all (λ p. not (named n p)) ps (all-not (named n) ps ∙ ap not h.1))

-- leaving parameters out leaves the others settled
keep-unnamed : (n : Bytes) (p : Param → Bool) (ps : List Param) → any (named n) ps ≡ false → any (named n) (keep p ps) ≡ false
unfolding keep any
keep-unnamed n p [] h = refl
keep-unnamed n p (q ∷ ps) h =
    by_bool (p q) (λ e. rw (e, any_head (named n) q ps h) (keep-unnamed n p ps (any-tail (named n) q ps h))) (λ e. rw e (keep-unnamed n p ps (any-tail (named n) q ps h)))

keep-settled : (p : Param → Bool) (ps : List Param) → Settled ps → Settled (keep p ps)
unfolding keep
keep-settled p [] h = tt
keep-settled p (param n vs ∷ ps) h =
    by_bool (p (param n vs)) (λ e. rw e (h.0, keep-unnamed n p ps h.1, keep-settled p ps h.2)) (λ e. rw e (keep-settled p ps h.2))

pub none_left : (n : Bytes) (ps : List Param) → any (named n) (lacking n ps) ≡ false
unfolding lacking keep any
none_left n [] = refl
none_left n (p ∷ ps) = by_bool (named n p) (λ e. rw e (none_left n ps)) (λ e. rw (e, e) (none_left n ps))

pub merged-settled : (ps : List Param) → Settled (merged ps)
unfolding merged lacking
merged-settled [] = tt
merged-settled (param n vs ∷ ps) = (lowered-lowered n, none_left (lowered n) (merged ps), keep-settled (λ p. not (named (lowered n) p)) (merged ps) (merged-settled ps))
