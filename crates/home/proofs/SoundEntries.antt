-- The JSON of proper entries is sound.
use mathlib.Core.Path.{◌≡◌, refl, sym, ap, subst, ◌∙◌}
use mathlib.Core.Bool.{Bool, true, false, ◌&&◌, not}
use mathlib.Core.List.{List, [], ◌∷◌, ◌++◌, map, map-append}
use Prim.Native.Nat.{ℕ, zero, suc}
use lib.ListN.{length, get_or}
use lib.Dec.{eqb, leb}
use Rattle.text.specs.Bytes.{Bytes, ascii, any, all, empty, among, distinct, keep}
use Rattle.text.specs.Utf8.{utf8}
use Rattle.text.proofs.Opened.{text-opened}
use Rattle.text.proofs.Cases.{by_bool, and_right, not-both}
use Rattle.text.proofs.Lists.{all_head, all_tail, all-imply, keep-swap}
use Rattle.json_text.specs.Tree.{Json, jtrue, jstr, Member, member, name_of, object, array}
use Rattle.json_text.proofs.Sound.{Sound}
use Rattle.line.specs.Class.{is_key}
use Rattle.convert.specs.Table.{Form, text, single, uri, phone, organization, Map, maps, type_names, feature-type, json_type, context_codes, feature_codes, in_order}
use Rattle.convert.specs.Value.{filled, is_key_text}
use Rattle.convert.specs.ToJson.{where', content_json}
use Rattle.home.proofs.Alls.{All, all-joined, test-all}
use Rattle.home.proofs.Clean.{is_ascii, ascii-utf8, utf8-none, head-utf8}
use Rattle.home.proofs.SoundLists.{SoundMember}
use Rattle.home.proofs.Sublists.{Sub, none_of, left_out, taken_in, sub-nothing, sub-append, sub-keep, sub-map, sub-distinct}
use Rattle.home.proofs.SoundCard.{object_of, array_of, all_map}
use Rattle.home.proofs.Words.{no_key}

-- ---- members that are there or not

pub sub-where : (b : Bool) (m : Member) → Sub (map name_of (where' b m)) (name_of m ∷ [])
sub-where true m = taken_in (name_of m) none_of
sub-where false m = left_out (name_of m) none_of

pub all-where : (P : Member → Type 0) (b : Bool) (m : Member) → (b ≡ true → P m) → All P (where' b m)
all-where P true m h = (h refl, tt)
all-where P false m h = tt

-- names in order, part by part
pub sub-names : (xs ys : List Member) {us vs : List Bytes} → Sub (map name_of xs) us → Sub (map name_of ys) vs → Sub (map name_of (xs ++ ys)) (us ++ vs)
sub-names xs ys {us} {vs} s t = subst (λ (ns : List Bytes). Sub ns (us ++ vs)) (sym (map-append name_of xs ys)) (sub-append s t)

-- ---- keys

key-ascii : (c : ℕ) → is_key c ≡ true → is_ascii c ≡ true
key-ascii c h = by_bool (is_ascii c) (λ e. e) (λ e. not-both h (no_key c e))

pub key-utf8 : (k : Bytes) → is_key_text k ≡ true → utf8 k ≡ true
unfolding is_key_text
key-utf8 k h = ascii-utf8 k (all-imply is_key is_ascii key-ascii k (and_right (filled k && leb (length k) 255) (all is_key k) h))

-- ---- strings

-- ---- contexts and features

abbrev pub type_json : ℕ → Bytes
type_json c = json_type (get_or type_names c (feature-type [] []))

abbrev pub in_group : List ℕ → ℕ → Bool
in_group group c = any (eqb c) group

-- the codes of an entry that belong to a group, in the table's order
pub codes-sub : (group codes : List ℕ) → in_order codes ≡ codes → keep (in_group group) (context_codes ++ feature_codes) ≡ group → Sub (keep (in_group group) codes) group
unfolding in_order
codes-sub group codes o g =
    subst (λ (x : List ℕ). Sub x group) (keep-swap (in_group codes) (in_group group) (context_codes ++ feature_codes) ∙ ap (keep (in_group group)) o)
    (subst (λ (x : List ℕ). Sub (keep (in_group codes) (keep (in_group group) (context_codes ++ feature_codes))) x) g (sub-keep (in_group codes) (keep (in_group group) (context_codes ++ feature_codes))))

flag-names : (cs : List ℕ) → map name_of (map (λ c. member (type_json c) jtrue) cs) ≡ map type_json cs
flag-names [] = refl
flag-names (c ∷ cs) = ap (λ (x : List Bytes). type_json c ∷ x) (flag-names cs)

pub sub-every : {A : Type 0} (P : A → Type 0) {xs ys : List A} → Sub xs ys → All P ys → All P xs
sub-every P none_of h = tt
sub-every P (left_out y s) h = sub-every P s h.1
sub-every P (taken_in y s) h = (h.0, sub-every P s h.1)

pub flags-sound : (d : ℕ) (group codes : List ℕ) → Sub codes group → distinct (map type_json group) ≡ true → All (λ c. utf8 (type_json c) ≡ true) group
    → Sound (suc d) (object (map (λ c. member (type_json c) jtrue) codes))
flags-sound d group codes s e u =
    object_of d (map (λ c. member (type_json c) jtrue) codes) (ap distinct (flag-names codes) ∙ sub-distinct (sub-map type_json s) e)
    (all_map (λ c. utf8 (type_json c) ≡ true) (SoundMember d) (λ c. member (type_json c) jtrue) (λ c h. (h, tt)) codes (sub-every (λ c. utf8 (type_json c) ≡ true) s u))

-- ---- what holds of every row of the table

abbrev pub entry_names : Map → List Bytes
entry_names m = ascii "kind" ∷ m.content ∷ ascii "units" ∷ ascii "contexts" ∷ ascii "features" ∷ ascii "pref" ∷ []

pub record Row (m : Map) : Type 0 where
  pub differ : distinct (entry_names m) ≡ true
  pub content : utf8 m.content ≡ true
  pub kinds : all utf8 m.kinds ≡ true
  pub member : utf8 m.member ≡ true

pub rows : All Row maps
unfolding text-opened
rows = (
  record { differ = refl; content = refl; kinds = refl; member = refl },
  (
    record { differ = refl; content = refl; kinds = refl; member = refl },
    (
      record { differ = refl; content = refl; kinds = refl; member = refl },
      (
        record { differ = refl; content = refl; kinds = refl; member = refl },
        (
          record { differ = refl; content = refl; kinds = refl; member = refl },
          (
            record { differ = refl; content = refl; kinds = refl; member = refl },
            (record { differ = refl; content = refl; kinds = refl; member = refl }, tt),
          ),
        ),
      ),
    ),
  ),
)

pub group-names : (distinct (map type_json context_codes) ≡ true) × (distinct (map type_json feature_codes) ≡ true)
unfolding text-opened
group-names = (refl, refl)

pub group-utf8 : All (λ c. utf8 (type_json c) ≡ true) context_codes × All (λ c. utf8 (type_json c) ≡ true) feature_codes
unfolding text-opened
group-utf8 = ((refl, (refl, tt)), (refl, (refl, (refl, (refl, (refl, (refl, (refl, tt))))))))

pub group-codes : (keep (in_group context_codes) (context_codes ++ feature_codes) ≡ context_codes) × (keep (in_group feature_codes) (context_codes ++ feature_codes) ≡ feature_codes)
unfolding keep any
group-codes = (refl, refl)

pub word-utf8 : (utf8 (ascii "kind") ≡ true) × (utf8 (ascii "units") ≡ true) × (utf8 (ascii "name") ≡ true) × (utf8 (ascii "contexts") ≡ true) × (utf8 (ascii "features") ≡ true) × (utf8 (ascii "pref") ≡ true)
unfolding text-opened
word-utf8 = (refl, refl, refl, refl, refl, refl)

-- ---- the members of an entry

pub one_name : (n : Bytes) (j : Json) → distinct (map name_of (member n j ∷ [])) ≡ true
unfolding distinct among any
one_name n j = refl

unit-sound : (d : ℕ) (u : Bytes) → utf8 u ≡ true → Sound (suc d) (object (member (ascii "name") (jstr u) ∷ []))
unit-sound d u h = object_of d (member (ascii "name") (jstr u) ∷ []) (one_name (ascii "name") (jstr u)) ((word-utf8.2, h), tt)

units-sound : (d : ℕ) (us : List Bytes) → all utf8 us ≡ true → Sound (suc (suc d)) (array (map (λ u. object (member (ascii "name") (jstr u) ∷ [])) us))
units-sound d us h =
    array_of (suc d) (map (λ u. object (member (ascii "name") (jstr u) ∷ [])) us)
    (all_map (λ u. utf8 u ≡ true) (Sound (suc d)) (λ u. object (member (ascii "name") (jstr u) ∷ [])) (unit-sound d) us (test-all utf8 us h))

pub content-sub : (f : Form) (n : Bytes) (vs : List Bytes) → Sub (map name_of (content_json f n vs)) (n ∷ ascii "units" ∷ [])
unfolding content_json
content-sub text n vs = taken_in n (left_out (ascii "units") none_of)
content-sub single n vs = taken_in n (left_out (ascii "units") none_of)
content-sub uri n vs = taken_in n (left_out (ascii "units") none_of)
content-sub phone n vs = taken_in n (left_out (ascii "units") none_of)
content-sub organization n [] = sub-nothing (n ∷ ascii "units" ∷ [])
content-sub organization n (v ∷ vs) =
    sub-names (where' (filled v) (member n (jstr v))) (where' (not (empty vs)) (member (ascii "units") (array (map (λ u. object (member (ascii "name") (jstr u) ∷ [])) vs))))
    (sub-where (filled v) (member n (jstr v))) (sub-where (not (empty vs)) (member (ascii "units") (array (map (λ u. object (member (ascii "name") (jstr u) ∷ [])) vs))))

pub content-sound : (d : ℕ) (f : Form) (n : Bytes) (vs : List Bytes) → utf8 n ≡ true → all utf8 vs ≡ true → All (SoundMember (suc (suc d))) (content_json f n vs)
unfolding content_json
content-sound d text n vs a h = ((a, head-utf8 vs h), tt)
content-sound d single n vs a h = ((a, head-utf8 vs h), tt)
content-sound d uri n vs a h = ((a, head-utf8 vs h), tt)
content-sound d phone n vs a h = ((a, head-utf8 vs h), tt)
content-sound d organization n [] a h = tt
content-sound d organization n (v ∷ vs) a h =
    all-joined (SoundMember (suc (suc d))) (where' (filled v) (member n (jstr v))) (where' (not (empty vs)) (member (ascii "units") (array (map (λ u. object (member (ascii "name") (jstr u) ∷ [])) vs))))
    (all-where (SoundMember (suc (suc d))) (filled v) (member n (jstr v)) (λ e. (a, all_head utf8 v vs h)))
    (all-where (SoundMember (suc (suc d))) (not (empty vs)) (member (ascii "units") (array (map (λ u. object (member (ascii "name") (jstr u) ∷ [])) vs))) (λ e. (word-utf8.1, units-sound d vs (all_tail utf8 v vs h))))

pub get_d-utf8 : (ks : List Bytes) (i : ℕ) → all utf8 ks ≡ true → utf8 (get_or ks i []) ≡ true
get_d-utf8 [] i h = utf8-none
get_d-utf8 (k ∷ ks) zero h = all_head utf8 k ks h
get_d-utf8 (k ∷ ks) (suc i) h = get_d-utf8 ks i (all_tail utf8 k ks h)
