-- The kept entry of a clean line.
use mathlib.Core.Path.{◌≡◌, refl, sym, ap, ◌∙◌}
use mathlib.Core.Logic.{◌⊎◌, inl, inr}
use mathlib.Core.Bool.{Bool, true, false, ◌&&◌, ◌||◌, not}
use mathlib.Core.List.{List, [], ◌∷◌, ◌++◌}
use Prim.Native.Nat.{ℕ, ◌≤◌}
use native.Mathlib.Omega.{arith}
use lib.ListN.{length, length-append}
use lib.Dec.{leb}
use borrow.Author.Tests.{le-leb, leb-true}
use Rattle.text.specs.Bytes.{Bytes, ascii, any, all, empty, same, among, between, lower, lowered}
use Rattle.text.specs.Utf8.{utf8}
use Rattle.text.proofs.Cases.{by_bool, implied, and_left, and_right, and-true, or_left, or_right, not-true, not-both, not-false}
use Rattle.text.proofs.Letters.{lowered-lowered}
use Rattle.text.proofs.Lists.{all-not}
use Rattle.line.specs.Class.{is_name, is_lower_name}
use Rattle.line.specs.Grammar.{Param, param, param_name, param_values, Line, value_count, fits, is_frame_name, accepted}
use Rattle.line.specs.Params.{named, values_named, lacking, first_or, value_type, besides_value, merged}
use Rattle.line.proofs.Merging.{Settled, merged-settled, none_left}
use Rattle.line.proofs.Parameters.{is_word}
use Rattle.line.proofs.Lines.{count-append}
use Rattle.convert.specs.Value.{filled}
use Rattle.convert.specs.Carry.{carried_param, carried_kept}
use Rattle.convert.specs.Classify.{Seen, classify}
use Rattle.convert.specs.FromCard.{kept_line}
use Rattle.convert.specs.FromJson.{is_lower_word, is_group, kept_as_line, never_kept}
use Rattle.convert.specs.Answers.{is_named, only_uri, value_fits, misused}
use Rattle.convert.proofs.KeptLines.{ProperKept, kept_line_lem, value_param}
use Rattle.home.proofs.Proper.{KeptFine}
use Rattle.home.proofs.Alls.{All, all-test, test-all, all-mono, all_two, all-kept, all-joined}
use Rattle.home.proofs.Words.{or_word}
use Rattle.home.proofs.Stands.{lower_param}
use Rattle.home.proofs.CleanLines.{name-ascii, CleanValue, CleanParam, CleanLine}
use Rattle.home.proofs.CleanTexts.{clean-raw}
use Rattle.home.proofs.Merged.{Holds, Filled, lacking-none, merged-none, merged-hold, split-count, lacking-length, lacking-one-less, merged-length, merged-count}
use Rattle.home.proofs.KeptAlike.{class-alike, kept-alike}

-- a line that no refusal names
pub record LineFine (l : Line) : Type 0 where
  pub clean : CleanLine l
  pub accept : accepted l ≡ true
  pub used : misused l ≡ false

-- ---- words in lower case

lower-name : (c : ℕ) → is_name c ≡ true → is_lower_name (lower c) ≡ true
unfolding is_name is_lower_name lower between
lower-name c h = implied is_name (λ c. is_lower_name (lower c)) 128 c refl (λ l. by_bool (is_name c) (λ q. not-both (name-ascii c q) l) (λ q. q)) h

lower-names : (s : Bytes) → all is_name s ≡ true → all is_lower_name (lowered s) ≡ true
unfolding lowered all
lower-names [] h = refl
lower-names (c ∷ s) h = rw (lower-name c (and_left (is_name c) _ h)) (lower-names s (and_right (is_name c) _ h))

pub names-word : (s : Bytes) → filled s && all is_name s ≡ true → is_lower_word (lowered s) ≡ true
unfolding lowered
names-word [] h = h
names-word (c ∷ s) h = lower-names (c ∷ s) h

word-word : (s : Bytes) → is_word s ≡ true → is_lower_word (lowered s) ≡ true
unfolding is_word
word-word s h = names-word s h

-- ---- the type

type-word : (vs : List Bytes) → value_fits vs ≡ true → is_lower_word (lowered (first_or (ascii "unknown") vs)) ≡ true
unfolding all lowered lower between is_lower_name
type-word [] h = refl
type-word (v ∷ []) h = names-word v h
type-word (v ∷ (w ∷ ws)) h = not-both refl (sym h)

-- ---- what refusal 7 leaves

module _ (l : Line) where
  abbrev three : Bool
  three =
      (is_named (ascii "uid") l && not (empty l.group && only_uri l.params))
      || (is_named (ascii "kind") l && not (empty l.group && empty l.params))

  ungrouped : misused l ≡ false → any (named (ascii "group")) l.params ≡ false
  unfolding misused
  ungrouped h = or_right three _ (or_left (three || any (named (ascii "group")) l.params) _ h)

  value-fits : misused l ≡ false → value_fits (values_named (ascii "value") l.params) ≡ true
  unfolding misused
  value-fits h = not-false (value_fits (values_named (ascii "value") l.params)) (or_right (three || any (named (ascii "group")) l.params) _ h)

-- ---- counts

-- VALUE stands there once more only where it stood
value-less : (vs : List Bytes) (t : Bytes) → t ≡ lowered (first_or (ascii "unknown") vs)
    → ((length (value_param t) ≡ 0) × (value_count (value_param t) ≡ 0)) ⊎ ((empty vs ≡ false) × (length (value_param t) ≡ 1) × (value_count (value_param t) ≡ 1))
unfolding value_count lowered lower between same
value-less [] t e = inl (rw e (refl, refl))
value-less (v ∷ vs) t e = by_bool (same t (ascii "unknown")) (λ q. inl (rw q (refl, refl))) (λ q. inr (rw q (refl, refl, refl)))

kept-fits : (ps : List Param) → fits ps ≡ true → fits (merged (besides_value ps) ++ value_param (value_type ps)) ≡ true
unfolding fits besides_value value_type
kept-fits ps h =
    let qs : List Param = lacking (ascii "value") ps in
    let t : Bytes = lowered (first_or (ascii "unknown") (values_named (ascii "value") ps)) in
    let a = leb-true (length ps) 32 (and_left _ _ h) in
    let b = leb-true (value_count ps) 64 (and_right (leb (length ps) 32) _ h) in
    let c = split-count (ascii "value") ps in
    let d = count-append (merged qs) (value_param t) in
    let e = length-append (merged qs) (value_param t) in
    elim (value-less (values_named (ascii "value") ps) t refl) [
      | inl q ↦ and-true (le-leb (length (merged qs ++ value_param t)) 32 (omega (arith, a, e, q.0, merged-length qs, lacking-length (ascii "value") ps))) (le-leb (value_count (merged qs ++ value_param t)) 64 (omega (arith, b, c, d, q.1, merged-count qs)))
      | inr q ↦ and-true (le-leb (length (merged qs ++ value_param t)) 32 (omega (arith, a, e, q.1, merged-length qs, lacking-one-less (ascii "value") ps q.0))) (le-leb (value_count (merged qs ++ value_param t)) 64 (omega (arith, b, c, d, q.2, merged-count qs, some-length (values_named (ascii "value") ps) q.0)))
    ]
  where
    some-length : (vs : List Bytes) → empty vs ≡ false → 1 ≤ length vs
    some-length [] h = not-both refl h
    some-length (v ∷ vs) h = omega arith

-- ---- parameters

abbrev LowerWord : Bytes → Type 0
LowerWord n = is_lower_word n ≡ true

abbrev KeptParam : Param → Type 0
KeptParam p = Holds LowerWord CleanValue p

kept-params : (l : Line) → CleanLine l → All KeptParam (merged (besides_value l.params))
unfolding besides_value lacking
kept-params l h =
    merged-hold (λ n. is_word n ≡ true) LowerWord CleanValue word-word (besides_value l.params)
    (all-kept (Holds (λ n. is_word n ≡ true) CleanValue) (λ p. not (named (ascii "value") p)) l.params
    (all-mono CleanParam (Holds (λ n. is_word n ≡ true) CleanValue) (λ p k. (k.0, k.1.0, k.1.1)) l.params h.params))

settled-other : (n : Bytes) (ps : List Param) → Settled ps → any (named n) ps ≡ false → any (λ p. same (param_name p) n) ps ≡ false
unfolding any named
settled-other n [] h e = refl
settled-other n (param m vs ∷ ps) h e =
    rw (← h.0, or_left (same (lowered m) n) _ e) (settled-other n ps h.2 (or_right (same (lowered m) n) _ e))

module _ (l : Line) (h : LineFine l) where
  abbrev ps : List Param
  ps = merged (besides_value l.params)

  no_value : any (named (ascii "value")) ps ≡ false
  unfolding besides_value
  no_value = merged-none (ascii "value") (besides_value l.params) (none_left (ascii "value") l.params)

  no-group : any is_group ps ≡ false
  unfolding besides_value
  no-group =
      settled-other (ascii "group") ps (merged-settled (besides_value l.params))
      (merged-none (ascii "group") (besides_value l.params) (lacking-none (ascii "group") (ascii "value") l.params (ungrouped l h.used)))

  group-word : (g : Bytes) → empty g || is_word g ≡ true → empty (lowered g) || is_lower_word (lowered g) ≡ true
  unfolding lowered
  group-word [] e = refl
  group-word (c ∷ g) e = or_word (lowered (c ∷ g)) (word-word (c ∷ g) e)

  all-filled : all (λ p. not (empty (param_values p))) ps ≡ true
  all-filled = all-test (λ p. not (empty (param_values p))) ps (all-mono KeptParam Filled (λ p k. k.1) ps (kept-params l h.clean))

  pub fine : KeptFine (kept_line l)
  unfolding kept_line
  fine =
      record {
        group = group-word l.group h.clean.group;
        params = merged-settled (besides_value l.params);
        no-group = no-group;
        values = all-filled;
        params-utf8 = all-test (λ p. all utf8 (param_values p)) ps (all-mono KeptParam (λ p. all utf8 (param_values p) ≡ true) (λ p k. all-test utf8 (param_values p) (all-mono CleanValue (λ v. utf8 v ≡ true) (λ v c. c.0.0) (param_values p) k.2)) ps (kept-params l h.clean));
        value-utf8 = h.clean.value.0;
      }

  pub clean-param : (v : Bytes) → CleanValue v → carried_param v ≡ true
  unfolding carried_param
  clean-param v c = rw (clean-raw v c.0, c.1)

  pub carry : carried_kept (kept_line l) ≡ true
  unfolding carried_kept kept_line
  carry =
      and-true
      (all-test (λ p. all carried_param (param_values p)) ps (all-mono KeptParam (λ p. all carried_param (param_values p) ≡ true) (λ p k. all-test carried_param (param_values p) (all-mono CleanValue (λ v. carried_param v ≡ true) clean-param (param_values p) k.2)) ps (kept-params l h.clean)))
      (clean-raw l.value h.clean.value)

  -- ---- as a line it is classed alike

  proper : ProperKept (kept_line l)
  unfolding kept_line value_type
  proper =
      record {
        name = lowered-lowered l.name;
        group = lowered-lowered l.group;
        word = group-word l.group h.clean.group;
        type = lowered-lowered (first_or (ascii "unknown") (values_named (ascii "value") l.params));
        params = merged-settled (besides_value l.params);
        no_value = no_value;
        no-group = no-group;
        values = all-filled;
      }

  value-filled : (t : Bytes) → All Filled (value_param t)
  value-filled t = by_bool (same t (ascii "unknown")) (λ e. rw e tt) (λ e. rw e (refl, tt))

  line-filled : All Filled (kept_as_line (kept_line l)).params
  unfolding kept_as_line kept_line
  line-filled = all-joined Filled ps (value_param (value_type l.params)) (all-mono KeptParam Filled (λ p k. k.1) ps (kept-params l h.clean)) (value-filled (value_type l.params))

  pub same_class : (s : Seen) → classify s (kept_as_line (kept_line l)) ≡ classify s l
  same_class s =
      class-alike s (kept_as_line (kept_line l)) l
      (kept-alike (kept_as_line (kept_line l)) l line-filled (all-mono CleanParam Filled (λ p k. k.1.0) l.params h.clean.params) (kept_line_lem (kept_line l) proper))

  -- ---- what stands, but for the class

  pub name-word : is_lower_word (kept_line l).name ≡ true
  unfolding kept_line
  name-word = word-word l.name h.clean.name

  pub type-lower : is_lower_word (kept_line l).type ≡ true
  unfolding kept_line value_type
  type-lower = type-word (values_named (ascii "value") l.params) (value-fits l h.used)

  pub params-lower : all lower_param (kept_line l).params ≡ true
  unfolding kept_line
  params-lower =
      all-test lower_param ps (all-mono (λ p. KeptParam p × (not (same (param_name p) (ascii "value")) ≡ true)) (λ p. lower_param p ≡ true) (λ p k. and-true k.0.0 k.1) ps (all_two KeptParam (λ p. not (same (param_name p) (ascii "value")) ≡ true) ps (kept-params l h.clean) not-values))
    where
      not-values : All (λ p. not (same (param_name p) (ascii "value")) ≡ true) ps
      not-values = test-all (λ p. not (same (param_name p) (ascii "value"))) ps (all-not (λ p. same (param_name p) (ascii "value")) ps ∙ ap not (settled-other (ascii "value") ps (merged-settled (besides_value l.params)) no_value))

  pub params_fit : fits (kept_as_line (kept_line l)).params ≡ true
  unfolding kept_as_line kept_line accepted
  params_fit = kept-fits l.params (and_left (fits l.params) _ h.accept)

  -- version, uid and kind are classed otherwise
  pub never : same (lowered l.name) (ascii "version") ≡ false → same (lowered l.name) (ascii "uid") ≡ false → same (lowered l.name) (ascii "kind") ≡ false → not (among (kept_line l).name never_kept) ≡ true
  unfolding kept_line accepted is_frame_name among any
  never a b c =
      let f = not-true (is_frame_name l.name) (and_right (fits l.params) _ h.accept) in
      rw (or_left (same (lowered l.name) (ascii "begin")) _ f, or_left (same (lowered l.name) (ascii "end")) _ (or_right (same (lowered l.name) (ascii "begin")) _ f), a, b, c)
