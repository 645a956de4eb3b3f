-- Parameters by name in a list that is put together of parts.
use mathlib.Core.Path.{◌≡◌, refl, ap}
use mathlib.Core.Bool.{true, false, ◌&&◌, not}
use mathlib.Core.List.{List, [], ◌∷◌, ◌++◌, map, append-nil}
use Rattle.text.specs.Bytes.{Bytes, all, same, lowered, among, flat, keep}
use Rattle.text.proofs.Lists.{keep_append, all_append, flat_append}
use Rattle.line.specs.Grammar.{Param, param, param_name, param_values}
use Rattle.line.specs.Params.{named, values_named, lacking, only_named}

map-append : (ps qs : List Param) → map param_values (ps ++ qs) ≡ map param_values ps ++ map param_values qs
map-append [] qs = refl
map-append (p ∷ ps) qs = ap (λ (x : List (List Bytes)). param_values p ∷ x) (map-append ps qs)

pub values_named-append : (n : Bytes) (ps qs : List Param) → values_named n (ps ++ qs) ≡ values_named n ps ++ values_named n qs
unfolding values_named
values_named-append n ps qs =
    rw (keep_append (named n) ps qs, map-append (keep (named n) ps) (keep (named n) qs), flat_append (map param_values (keep (named n) ps)) (map param_values (keep (named n) qs)))

pub lacking-append : (n : Bytes) (ps qs : List Param) → lacking n (ps ++ qs) ≡ lacking n ps ++ lacking n qs
unfolding lacking
lacking-append n ps qs = keep_append (λ p. not (named n p)) ps qs

pub only_named-append : (ns : List Bytes) (ps qs : List Param) → only_named ns (ps ++ qs) ≡ only_named ns ps && only_named ns qs
unfolding only_named
only_named-append ns ps qs = all_append (λ p. among (lowered (param_name p)) ns) ps qs

-- ---- one parameter

pub values_named-one : (n m : Bytes) (vs : List Bytes) → same (lowered m) n ≡ true → values_named n (param m vs ∷ []) ≡ vs
unfolding values_named keep named flat
values_named-one n m vs e = rw e (append-nil vs)

pub values_named-other : (n m : Bytes) (vs : List Bytes) → same (lowered m) n ≡ false → values_named n (param m vs ∷ []) ≡ []
unfolding values_named keep named flat
values_named-other n m vs e = rw e

pub lacking-one : (n m : Bytes) (vs : List Bytes) → same (lowered m) n ≡ true → lacking n (param m vs ∷ []) ≡ []
unfolding lacking keep named
lacking-one n m vs e = rw e

pub lacking-other : (n m : Bytes) (vs : List Bytes) → same (lowered m) n ≡ false → lacking n (param m vs ∷ []) ≡ param m vs ∷ []
unfolding lacking keep named
lacking-other n m vs e = rw e

pub only_named-one : (ns : List Bytes) (m : Bytes) (vs : List Bytes) → among (lowered m) ns ≡ true → only_named ns (param m vs ∷ []) ≡ true
unfolding only_named all
only_named-one ns m vs e = rw e

-- ---- none

pub values_named-none : (n : Bytes) → values_named n [] ≡ []
unfolding values_named keep flat
values_named-none n = refl

pub lacking-none : (n : Bytes) → lacking n [] ≡ []
unfolding lacking keep
lacking-none n = refl

pub only_named-none : (ns : List Bytes) → only_named ns [] ≡ true
unfolding only_named all
only_named-none ns = refl
