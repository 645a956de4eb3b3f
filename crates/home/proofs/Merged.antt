-- Equal-named parameters as one: what stays the same.
use mathlib.Core.Path.{◌≡◌, refl, sym, ap, ◌∙◌}
use mathlib.Core.Bool.{Bool, true, false, ◌&&◌, not}
use mathlib.Core.List.{List, [], ◌∷◌, ◌++◌, map, append-nil}
use Prim.Native.Nat.{suc, ◌+◌, ◌≤◌}
use native.Mathlib.Omega.{arith}
use lib.ListN.{length, length-append}
use Rattle.text.specs.Choice.{pick}
use Rattle.text.specs.Bytes.{Bytes, ascii, any, all, empty, same, among, lowered, flat, keep}
use Rattle.text.proofs.Cases.{by_bool, or_left, or_right, not-both}
use Rattle.text.proofs.Letters.{lowered-lowered}
use Rattle.text.proofs.Same.{same_true, same_self}
use Rattle.text.proofs.Lists.{any_head, any-tail}
use Rattle.line.specs.Grammar.{Param, param, param_name, param_values, value_count}
use Rattle.line.specs.Params.{named, values_named, lacking, only_named, merged}
use Rattle.convert.specs.Classify.{is_derived}
use Rattle.home.proofs.Alls.{All, all-joined, all-kept, all-flat}

-- ---- a list without one name

lacking-values : (n m : Bytes) (ps : List Param) → values_named n (lacking m ps) ≡ pick (same m n) [] (values_named n ps)
unfolding values_named lacking keep flat named
lacking-values n m [] = by_bool (same m n) (λ e. rw e) (λ e. rw e)
lacking-values n m (p ∷ ps) =
    by_bool (same (lowered (param_name p)) m)
    (λ q. let z = same_true (lowered (param_name p)) m q in
    by_bool (same m n)
    (λ e. rw (q, e) (lacking-values n m ps ∙ rw e))
    (λ e. rw (q, e, z, e) (lacking-values n m ps ∙ rw e)))
    (λ q. by_bool (same (lowered (param_name p)) n)
    (λ r. by_bool (same m n)
    (λ e. not-both (ap (λ (x : Bytes). same x m) (same_true (lowered (param_name p)) n r ∙ sym (same_true m n e)) ∙ same_self m) q)
    (λ e. rw (q, r, e) (ap (λ (x : List Bytes). param_values p ++ x) (lacking-values n m ps ∙ rw e))))
    (λ r. rw (q, r) (lacking-values n m ps)))

lacking-only : (ns : List Bytes) (m : Bytes) (ps : List Param) → among m ns ≡ true → only_named ns (lacking m ps) ≡ only_named ns ps
unfolding only_named lacking keep all named
lacking-only ns m [] a = refl
lacking-only ns m (p ∷ ps) a =
    by_bool (same (lowered (param_name p)) m)
    (λ q. rw (q, same_true (lowered (param_name p)) m q, a) (lacking-only ns m ps a))
    (λ q. rw q (ap (λ (x : Bool). among (lowered (param_name p)) ns && x) (lacking-only ns m ps a)))

pub lacking-none : (n m : Bytes) (ps : List Param) → any (named n) ps ≡ false → any (named n) (lacking m ps) ≡ false
unfolding lacking keep any
lacking-none n m [] h = refl
lacking-none n m (p ∷ ps) h =
    let t = lacking-none n m ps (any-tail (named n) p ps h) in
    by_bool (not (named m p)) (λ e. rw (e, any_head (named n) p ps h) t) (λ e. rw e t)

-- ---- merged

step_same : (n m : Bytes) (vs : List Bytes) (ps : List Param) → same (lowered m) n ≡ true → values_named n (param m vs ∷ ps) ≡ vs ++ values_named n ps
unfolding values_named keep named flat
step_same n m vs ps q = rw q

step_other : (n m : Bytes) (vs : List Bytes) (ps : List Param) → same (lowered m) n ≡ false → values_named n (param m vs ∷ ps) ≡ values_named n ps
unfolding values_named keep named flat
step_other n m vs ps q = rw q

pub merged-values : (n : Bytes) (ps : List Param) → values_named n (merged ps) ≡ values_named n ps
unfolding merged
merged-values n [] = refl
merged-values n (param m vs ∷ ps) =
    by_bool (same (lowered m) n)
    (λ q. head-same q ∙ ap (λ (x : List Bytes). vs ++ x) (merged-values n ps) ∙ sym (here q))
    (λ q. head-other q ∙ merged-values n ps ∙ sym (there q))
  where
    here : same (lowered m) n ≡ true → values_named n (param m vs ∷ ps) ≡ vs ++ values_named n ps
    here q = step_same n m vs ps q

    there : same (lowered m) n ≡ false → values_named n (param m vs ∷ ps) ≡ values_named n ps
    there q = step_other n m vs ps q

    head-same : same (lowered m) n ≡ true → values_named n (param (lowered m) (vs ++ values_named (lowered m) (merged ps)) ∷ lacking (lowered m) (merged ps)) ≡ vs ++ values_named n (merged ps)
    head-same q =
        let z = same_true (lowered m) n q in
        step_same n (lowered m) (vs ++ values_named (lowered m) (merged ps)) (lacking (lowered m) (merged ps)) (ap (λ (x : Bytes). same x n) (lowered-lowered m) ∙ q)
        ∙ ap (λ (x : List Bytes). (vs ++ values_named (lowered m) (merged ps)) ++ x) (lacking-values n (lowered m) (merged ps) ∙ rw q)
        ∙ append-nil (vs ++ values_named (lowered m) (merged ps))
        ∙ ap (λ (x : Bytes). vs ++ values_named x (merged ps)) z

    head-other : same (lowered m) n ≡ false → values_named n (param (lowered m) (vs ++ values_named (lowered m) (merged ps)) ∷ lacking (lowered m) (merged ps)) ≡ values_named n (merged ps)
    head-other q =
        step_other n (lowered m) (vs ++ values_named (lowered m) (merged ps)) (lacking (lowered m) (merged ps)) (ap (λ (x : Bytes). same x n) (lowered-lowered m) ∙ q)
        ∙ lacking-values n (lowered m) (merged ps) ∙ rw q

pub merged-only : (ns : List Bytes) (ps : List Param) → only_named ns (merged ps) ≡ only_named ns ps
unfolding merged only_named all
merged-only ns [] = refl
merged-only ns (param m vs ∷ ps) =
    by_bool (among (lowered m) ns)
    (λ q. rw (lowered-lowered m, q) (lacking-only ns (lowered m) (merged ps) q ∙ merged-only ns ps))
    (λ q. rw (lowered-lowered m, q))

pub merged-empty : (ps : List Param) → empty (merged ps) ≡ empty ps
unfolding merged
merged-empty [] = refl
merged-empty (param m vs ∷ ps) = refl

pub merged-none : (n : Bytes) (ps : List Param) → any (named n) ps ≡ false → any (named n) (merged ps) ≡ false
unfolding merged named any
merged-none n [] h = refl
merged-none n (param m vs ∷ ps) h =
    rw (lowered-lowered m, or_left (same (lowered m) n) _ h) (lacking-none n (lowered m) (merged ps) (merged-none n ps (or_right (same (lowered m) n) _ h)))

-- ---- what holds of names and values

abbrev pub Holds : (Bytes → Type 0) → (Bytes → Type 0) → Param → Type 0
Holds N W p = N (param_name p) × (not (empty (param_values p)) ≡ true) × All W (param_values p)

pub named-hold : (W : Bytes → Type 0) (n : Bytes) (ps : List Param) → All (λ p. All W (param_values p)) ps → All W (values_named n ps)
unfolding values_named
named-hold W n ps h = all-flat (λ p. All W (param_values p)) W param_values (λ p k. k) (keep (named n) ps) (all-kept (λ p. All W (param_values p)) (named n) ps h)

more-filled : (vs ws : List Bytes) → not (empty vs) ≡ true → not (empty (vs ++ ws)) ≡ true
more-filled [] ws h = not-both h refl
more-filled (v ∷ vs) ws h = refl

all-values : (N W : Bytes → Type 0) (ps : List Param) → All (Holds N W) ps → All (λ p. All W (param_values p)) ps
all-values N W [] h = tt
all-values N W (p ∷ ps) h = (h.0.2, all-values N W ps h.1)

pub merged-hold : (M N W : Bytes → Type 0) → ((n : Bytes) → M n → N (lowered n)) → (ps : List Param) → All (Holds M W) ps → All (Holds N W) (merged ps)
unfolding merged lacking
merged-hold M N W f [] h = tt
merged-hold M N W f (param n vs ∷ ps) h =
    let t = merged-hold M N W f ps h.1 in (
      (f n h.0.0, more-filled vs (values_named (lowered n) (merged ps)) h.0.1, all-joined W vs (values_named (lowered n) (merged ps)) h.0.2 (named-hold W (lowered n) (merged ps) (all-values N W (merged ps) t))),
      all-kept (Holds N W) (λ p. not (named (lowered n) p)) (merged ps) t,
    )

-- ---- DERIVED=TRUE alone

abbrev pub Filled : Param → Type 0
Filled p = not (empty (param_values p)) ≡ true

not-sole : (n v : Bytes) (xs : List Bytes) (ys : List Param) → (empty xs ≡ true → empty ys ≡ false) → is_derived (param n (v ∷ xs) ∷ ys) ≡ false
unfolding is_derived
not-sole n v [] ys h = by_bool (same (lowered n) (ascii "derived") && same (lowered v) (ascii "true")) (λ e. rw (e, h refl)) (λ e. rw e)
not-sole n v (x ∷ xs) ys h = refl

alone : (n v : Bytes) → is_derived (param (lowered n) (v ∷ values_named (lowered n) []) ∷ lacking (lowered n) []) ≡ is_derived (param n (v ∷ []) ∷ [])
unfolding is_derived values_named lacking keep flat
alone n v = rw (lowered-lowered n)

-- a filled parameter of another is among the values of that name, or left
one_of : (k m : Bytes) (us : List Bytes) (zs : List Param) → not (empty us) ≡ true → empty (values_named k (param m us ∷ zs)) ≡ true → empty (lacking k (param m us ∷ zs)) ≡ false
unfolding values_named lacking keep flat named
one_of k m us zs h e =
    by_bool (same (lowered m) k) (λ q. not-both (more-filled us (flat (map param_values (keep (named k) zs))) h) (ap not (rw q at e))) (λ q. rw q)

pub merged-derived : (ps : List Param) → All Filled ps → is_derived (merged ps) ≡ is_derived ps
unfolding merged is_derived
merged-derived [] h = refl
merged-derived (param n [] ∷ ps) h = not-both h.0 refl
merged-derived (param n (v ∷ []) ∷ []) h = alone n v
merged-derived (param n (v ∷ []) ∷ (param m us ∷ ps)) h =
    let qs : List Param = merged (param m us ∷ ps) in
    not-sole (lowered n) v (values_named (lowered n) qs) (lacking (lowered n) qs) (one_of (lowered n) (lowered m) (us ++ values_named (lowered m) (merged ps)) (lacking (lowered m) (merged ps)) (more-filled us (values_named (lowered m) (merged ps)) h.1.0))
    ∙ sym (by_bool (same (lowered n) (ascii "derived") && same (lowered v) (ascii "true")) (λ e. rw e) (λ e. rw e))
merged-derived (param n (v ∷ (w ∷ ws)) ∷ ps) h = refl

-- ---- counts

split-length : (n : Bytes) (ps : List Param) → length (lacking n ps) + length (keep (named n) ps) ≡ length ps
unfolding lacking keep
split-length n [] = refl
split-length n (p ∷ ps) = by_bool (named n p) (λ e. rw e (omega (arith, split-length n ps))) (λ e. rw e (omega (arith, split-length n ps)))

pub split-count : (n : Bytes) (ps : List Param) → value_count (lacking n ps) + length (values_named n ps) ≡ value_count ps
unfolding lacking keep values_named flat value_count
split-count n [] = refl
split-count n (param m vs ∷ ps) =
    by_bool (named n (param m vs))
    (λ e. rw e (omega (arith, split-count n ps, length-append vs (flat (map param_values (keep (named n) ps))))))
    (λ e. rw e (omega (arith, split-count n ps)))

pub lacking-length : (n : Bytes) (ps : List Param) → length (lacking n ps) ≤ length ps
lacking-length n ps = omega (arith, split-length n ps)

-- one parameter at least has that name, where there is a value
pub lacking-one-less : (n : Bytes) (ps : List Param) → empty (values_named n ps) ≡ false → suc (length (lacking n ps)) ≤ length ps
unfolding values_named flat
lacking-one-less n ps h = by (keep (named n) ps) (split-length n ps) h
  where
    by : (qs : List Param) → length (lacking n ps) + length qs ≡ length ps → empty (flat (map param_values qs)) ≡ false → suc (length (lacking n ps)) ≤ length ps
    by [] e h = not-both refl h
    by (q ∷ qs) e h = omega (arith, e)

pub merged-length : (ps : List Param) → length (merged ps) ≤ length ps
unfolding merged
merged-length [] = omega arith
merged-length (param n vs ∷ ps) = omega (arith, merged-length ps, lacking-length (lowered n) (merged ps))

pub merged-count : (ps : List Param) → value_count (merged ps) ≡ value_count ps
unfolding merged value_count
merged-count [] = refl
merged-count (param n vs ∷ ps) =
    omega (arith, merged-count ps, split-count (lowered n) (merged ps), length-append vs (values_named (lowered n) (merged ps)))
