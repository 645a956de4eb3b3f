-- Parameters are found by name in any letter case: upper-case names change nothing.
use mathlib.Core.Path.{◌≡◌, refl, ap}
use mathlib.Core.Bool.{Bool, ◌&&◌}
use mathlib.Core.List.{List, [], ◌∷◌, ◌++◌, map}
use Rattle.text.specs.Bytes.{Bytes, ascii, all, lowered, among, flat, keep}
use Rattle.text.proofs.Cases.{by_bool}
use Rattle.text.proofs.Letters.{lowered-uppered}
use Rattle.line.specs.Grammar.{Param, param, param_name, param_values}
use Rattle.line.specs.Params.{named, values_named, lacking, only_named, value_type, besides_value, merged}
use Rattle.line.proofs.Parameters.{upper_param}

upper-named : (n : Bytes) (p : Param) → named n (upper_param p) ≡ named n p
unfolding named
upper-named n (param m vs) = rw (lowered-uppered m)

upper-values : (p : Param) → param_values (upper_param p) ≡ param_values p
upper-values (param m vs) = refl

pub values_named-upper : (n : Bytes) (ps : List Param) → values_named n (map upper_param ps) ≡ values_named n ps
unfolding values_named keep flat
values_named-upper n [] = refl
values_named-upper n (p ∷ ps) =
    by_bool (named n p)
    (λ e. rw (upper-named n p, e, upper-values p) (ap (λ (x : List Bytes). param_values p ++ x) (values_named-upper n ps)))
    (λ e. rw (upper-named n p, e) (values_named-upper n ps))

pub lacking-upper : (n : Bytes) (ps : List Param) → lacking n (map upper_param ps) ≡ map upper_param (lacking n ps)
unfolding lacking keep
lacking-upper n [] = refl
lacking-upper n (p ∷ ps) =
    by_bool (named n p)
    (λ e. rw (upper-named n p, e) (lacking-upper n ps))
    (λ e. rw (upper-named n p, e) (ap (λ (x : List Param). upper_param p ∷ x) (lacking-upper n ps)))

pub besides_value-upper : (ps : List Param) → besides_value (map upper_param ps) ≡ map upper_param (besides_value ps)
unfolding besides_value
besides_value-upper ps = lacking-upper (ascii "value") ps

pub value_type-upper : (ps : List Param) → value_type (map upper_param ps) ≡ value_type ps
unfolding value_type
value_type-upper ps = rw (values_named-upper (ascii "value") ps)

upper-among : (ns : List Bytes) (p : Param) → among (lowered (param_name (upper_param p))) ns ≡ among (lowered (param_name p)) ns
upper-among ns (param m vs) = rw (lowered-uppered m)

pub only_named-upper : (ns : List Bytes) (ps : List Param) → only_named ns (map upper_param ps) ≡ only_named ns ps
unfolding only_named all
only_named-upper ns [] = refl
only_named-upper ns (p ∷ ps) = rw (upper-among ns p) (ap (λ (x : Bool). among (lowered (param_name p)) ns && x) (only_named-upper ns ps))

pub merged-upper : (ps : List Param) → merged (map upper_param ps) ≡ merged ps
unfolding merged
merged-upper [] = refl
merged-upper (param n vs ∷ ps) = rw (merged-upper ps, lowered-uppered n)
