-- The JSON tree of a proper card is sound, whole.
use mathlib.Core.Path.{◌≡◌, refl, sym, ap, ◌∙◌}
use mathlib.Core.Bool.{Bool, true, false, ◌&&◌}
use mathlib.Core.List.{List, [], ◌∷◌, ◌++◌, map}
use mathlib.Core.Option.{Option, none, some}
use Prim.Native.Nat.{ℕ, suc}
use Rattle.text.specs.Choice.{with-some}
use Rattle.text.specs.Bytes.{Bytes, ascii, any, all, same, among, distinct, lowered}
use Rattle.text.specs.Utf8.{utf8}
use Rattle.text.proofs.Opened.{text-opened}
use Rattle.text.proofs.Cases.{and_left, and_right, or_left, or_right}
use Rattle.text.proofs.Same.{same-swap}
use Rattle.text.proofs.Lists.{all_head, all_tail}
use Rattle.json_text.specs.Tree.{jstr, Member, member, name_of, object, array}
use Rattle.json_text.proofs.Sound.{Sound}
use Rattle.line.specs.Grammar.{Param, param, param_name, param_values}
use Rattle.line.specs.Params.{named}
use Rattle.line.proofs.Merging.{Settled}
use Rattle.convert.specs.Table.{component_kinds}
use Rattle.convert.specs.Model.{Kept, has_parts}
use Rattle.convert.specs.Value.{filled}
use Rattle.convert.specs.Classify.{Seen}
use Rattle.convert.specs.FromJson.{is_lower_word, is_group, kept_stands}
use Rattle.convert.specs.ToJson.{where', where_some, components_of, name_json, values_json, param_json, kept_json}
use Rattle.home.proofs.Proper.{KeptFine, AllKeptFine}
use Rattle.home.proofs.Alls.{All, all-joined, test-all}
use Rattle.home.proofs.Stands.{lower_param, stands-inv}
use Rattle.home.proofs.SoundLists.{SoundMember}
use Rattle.home.proofs.Sublists.{Sub, none_of, left_out, taken_in, sub-distinct}
use Rattle.home.proofs.SoundCard.{object_of, array_of, all_map}
use Rattle.home.proofs.SoundEntries.{sub-where, all-where, sub-names}
use Rattle.home.proofs.Words.{name-utf8, group-utf8}

-- ---- name

component-sound : (d : ℕ) (k v : Bytes) → utf8 k ≡ true → utf8 v ≡ true → Sound (suc d) (object (member (ascii "kind") (jstr k) ∷ member (ascii "value") (jstr v) ∷ []))
unfolding text-opened
component-sound d k v a b = object_of d (member (ascii "kind") (jstr k) ∷ member (ascii "value") (jstr v) ∷ []) refl ((refl, a), ((refl, b), tt))

components-sound : (d : ℕ) (ks : List Bytes) (ps : List (List Bytes)) → all utf8 ks ≡ true → all (all (λ v. filled v && utf8 v)) ps ≡ true → All (Sound (suc d)) (components_of ks ps)
unfolding components_of
components-sound d [] ps a h = tt
components-sound d (k ∷ ks) [] a h = tt
components-sound d (k ∷ ks) (vs ∷ ps) a h =
    all-joined (Sound (suc d)) (map (λ v. object (member (ascii "kind") (jstr k) ∷ member (ascii "value") (jstr v) ∷ [])) vs) (components_of ks ps)
    (all_map (λ v. filled v && utf8 v ≡ true) (Sound (suc d)) (λ v. object (member (ascii "kind") (jstr k) ∷ member (ascii "value") (jstr v) ∷ []))
    (λ v e. component-sound d k v (all_head utf8 k ks a) (and_right (filled v) (utf8 v) e)) vs (test-all (λ v. filled v && utf8 v) vs (all_head (all (λ v. filled v && utf8 v)) vs ps h)))
    (components-sound d ks ps (all_tail utf8 k ks a) (all_tail (all (λ v. filled v && utf8 v)) vs ps h))

kinds-utf8 : all utf8 component_kinds ≡ true
unfolding text-opened
kinds-utf8 = refl

abbrev components_member : List (List Bytes) → Member
components_member ps = member (ascii "components") (array (components_of component_kinds ps))

name-words : (utf8 (ascii "full") ≡ true) × (utf8 (ascii "components") ≡ true) × (distinct (ascii "full" ∷ ascii "components" ∷ []) ≡ true)
unfolding text-opened
name-words = (refl, refl, refl)

full-sub : (full : Option Bytes) → Sub (map name_of (where_some full (λ v. member (ascii "full") (jstr v)))) (ascii "full" ∷ [])
full-sub none = left_out (ascii "full") none_of
full-sub (some v) = taken_in (ascii "full") none_of

full-sound : (d : ℕ) (full : Option Bytes) → with-some full utf8 true ≡ true → All (SoundMember d) (where_some full (λ v. member (ascii "full") (jstr v)))
full-sound d none h = tt
full-sound d (some v) h = ((name-words.0, h), tt)

pub name-sound : (d : ℕ) (full : Option Bytes) (ps : List (List Bytes)) → with-some full utf8 true ≡ true → all (all (λ v. filled v && utf8 v)) ps ≡ true → Sound (suc (suc (suc d))) (name_json full ps)
unfolding name_json
name-sound d full ps a h =
    object_of (suc (suc d)) (where_some full (λ v. member (ascii "full") (jstr v)) ++ where' (has_parts ps) (components_member ps))
    (sub-distinct (sub-names (where_some full (λ v. member (ascii "full") (jstr v))) (where' (has_parts ps) (components_member ps)) (full-sub full) (sub-where (has_parts ps) (components_member ps))) name-words.2)
    (all-joined (SoundMember (suc (suc d))) (where_some full (λ v. member (ascii "full") (jstr v))) (where' (has_parts ps) (components_member ps)) (full-sound (suc (suc d)) full a)
    (all-where (SoundMember (suc (suc d))) (has_parts ps) (components_member ps) (λ b. (name-words.1, array_of (suc d) (components_of component_kinds ps) (components-sound d component_kinds ps kinds-utf8 h)))))

-- ---- kept lines

strings-sound : (d : ℕ) (vs : List Bytes) → all utf8 vs ≡ true → All (Sound d) (map jstr vs)
strings-sound d vs h = all_map (λ v. utf8 v ≡ true) (Sound d) jstr (λ v e. e) vs (test-all utf8 vs h)

values-sound : (d : ℕ) (vs : List Bytes) → all utf8 vs ≡ true → Sound (suc d) (values_json vs)
values-sound d [] h = array_of d [] tt
values-sound d (v ∷ []) h = all_head utf8 v [] h
values-sound d (v ∷ (w ∷ ws)) h = array_of d (map jstr (v ∷ w ∷ ws)) (strings-sound d (v ∷ w ∷ ws) h)

params-sound : (d : ℕ) (ps : List Param) → all lower_param ps ≡ true → all (λ p. all utf8 (param_values p)) ps ≡ true → All (SoundMember (suc d)) (map param_json ps)
params-sound d [] a h = tt
params-sound d (param n vs ∷ ps) a h = (
  (name-utf8 n (and_left (is_lower_word n) _ (all_head lower_param (param n vs) ps a)), values-sound d vs (all_head (λ p. all utf8 (param_values p)) (param n vs) ps h)),
  params-sound d ps (all_tail lower_param (param n vs) ps a) (all_tail (λ p. all utf8 (param_values p)) (param n vs) ps h),
)

param-names : (ps : List Param) → map name_of (map param_json ps) ≡ map param_name ps
param-names [] = refl
param-names (param n vs ∷ ps) = ap (λ (x : List Bytes). n ∷ x) (param-names ps)

settled-among : (n : Bytes) (ps : List Param) → Settled ps → any (named n) ps ≡ false → among n (map param_name ps) ≡ false
unfolding any among named
settled-among n [] s h = refl
settled-among n (param m vs ∷ ps) s h =
    let e : same m n ≡ false = ap (λ (x : Bytes). same x n) (sym s.0) ∙ or_left (same (lowered m) n) _ h in
    rw (same-swap n m, e) (settled-among n ps s.2 (or_right (same (lowered m) n) _ h))

settled-distinct : (ps : List Param) → Settled ps → distinct (map param_name ps) ≡ true
unfolding distinct
settled-distinct [] s = refl
settled-distinct (param n vs ∷ ps) s = rw (settled-among n ps s.2 s.1) (settled-distinct ps s.2)

no-group-name : (ps : List Param) → any is_group ps ≡ false → among (ascii "group") (map param_name ps) ≡ false
unfolding any among
no-group-name [] h = refl
no-group-name (p ∷ ps) h = rw (same-swap (ascii "group") (param_name p), or_left (is_group p) _ h) (no-group-name ps (or_right (is_group p) _ h))

group-distinct : (b : Bool) (g : Bytes) (ps : List Param) → Settled ps → any is_group ps ≡ false → distinct (map name_of (where' b (member (ascii "group") (jstr g)) ++ map param_json ps)) ≡ true
unfolding distinct
group-distinct true g ps s h = rw (param-names ps, no-group-name ps h) (settled-distinct ps s)
group-distinct false g ps s h = rw (param-names ps) (settled-distinct ps s)

group-word : utf8 (ascii "group") ≡ true
unfolding text-opened
group-word = refl

kept-sound : (d : ℕ) (s : Seen) (k : Kept) → KeptFine k → kept_stands s k ≡ true → Sound (suc (suc (suc d))) (kept_json k)
unfolding kept_json
kept-sound d s k g h =
    let t = stands-inv s k h in
    let group : Member = member (ascii "group") (jstr k.group) in
    array_of (suc (suc d)) (jstr k.name ∷ object (where' (filled k.group) group ++ map param_json k.params) ∷ jstr k.type ∷ jstr k.value ∷ []) (
      name-utf8 k.name t.name,
      (
        object_of (suc d) (where' (filled k.group) group ++ map param_json k.params) (group-distinct (filled k.group) k.group k.params g.params g.no-group)
            (all-joined (SoundMember (suc d)) (where' (filled k.group) group) (map param_json k.params) (all-where (SoundMember (suc d)) (filled k.group) group (λ b. (group-word, group-utf8 k.group g.group)))
            (params-sound d k.params t.params g.params-utf8)),
        (name-utf8 k.type t.type, (g.value-utf8, tt)),
      ),
    )

pub all-kept-sound : (d : ℕ) (s : Seen) (ks : List Kept) → AllKeptFine ks → all (kept_stands s) ks ≡ true → All (Sound (suc (suc (suc d)))) (map kept_json ks)
all-kept-sound d s [] g h = tt
all-kept-sound d s (k ∷ ks) g h = (kept-sound d s k g.0 (all_head (kept_stands s) k ks h), all-kept-sound d s ks g.1 (all_tail (kept_stands s) k ks h))
