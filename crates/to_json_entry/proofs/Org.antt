-- ORG: its parts as the name and the units.
use mathlib.Core.Path.{◌≡◌, refl, sym, ap, ◌∙◌}
use mathlib.Core.Bool.{Bool, true, false, ◌||◌, not}
use mathlib.Core.List.{List, [], ◌∷◌, ◌++◌, map, append_assoc, append-nil, tail}
use mathlib.Core.Option.{some}
use Prim.Native.Nat.{ℕ, zero, suc, ◌+◌, ◌-◌, ◌≤◌, ◌<◌}
use native.Mathlib.Omega.{arith}
use lib.Dec.{ltb}
use lib.ListN.{length, take, drop}
use borrow.Author.Tests.{lt-ltb, le-ltb}
use Rattle.text.specs.Choice.{pick, is_some}
use Rattle.text.specs.Bytes.{Bytes, ascii, empty, any, keep, each, flat}
use Rattle.text.proofs.Cases.{by_bool}
use Rattle.text.proofs.Choices.{both-inv, some_same}
use Rattle.line.specs.Text.{read_text, split_text}
use Rattle.json_text.specs.Tree.{Json, Member, member, object, array, jstr, from_members}
use Rattle.json_text.specs.Compact.{spelled, spelled_all, quoted, written, written_members, members_after}
use Rattle.line_text.specs.Read.{plain_text}
use Rattle.line_text.specs.Split.{PartEnds}
use Rattle.convert.specs.Table.{organization}
use Rattle.convert.specs.Value.{filled, head_or, organized}
use Rattle.convert.specs.ToJson.{content_json}
use Rattle.convert_put.specs.Pieces.{content_piece, value_piece, member_bytes, inside}
use Rattle.convert_put.proofs.Compact.{quoted-append}
use Rattle.convert_put.proofs.Entries.{string_bytes}
use Rattle.convert_values.specs.Values.{texts_of, Readable}
use Rattle.to_json_items.specs.Items.{lead, opening, listed, elems}
use Rattle.convert_values.proofs.Texts.{plain-empty, rest-good, plain-is, each-plain}
use Rattle.convert_entry.proofs.Entry.{rest_part}
use Rattle.to_json_items.proofs.Arrays.{array-bytes, first-items, listed-some}
use Rattle.to_json_entry.specs.Entry.{string_piece, org_name, units_piece, units_after, org_piece}

never : {P : Type 0} → false ≡ true → P
never e = absurd (let z : ◌≡◌ {A = ℕ} 0 1 = cc in omega arith)

-- ---- the name

pub name-empty : (i : ℕ) (u : Bytes) → length u ≡ 0 → [] ≡ org_name i u
unfolding org_name
name-empty i [] e = refl
name-empty i (c ∷ u) e = absurd (omega (arith, e))

pub name-filled : (i : ℕ) (u : Bytes) → (length u ≡ 0 → ⊥) → string_piece i false u ≡ org_name i u
unfolding org_name
name-filled i [] n = absurd (n refl)
name-filled i (c ∷ u) n = refl

-- ---- the units

pub units-more : (k : ℕ) (us : List Bytes) → listed k false us ++ (pick (empty us) [] (93 ∷ []) ++ []) ≡ units_piece k us
unfolding units_piece flat
units-more k us = refl

listed-none : (k : ℕ) → length (listed k false []) ≡ 0
unfolding listed
listed-none k = refl

pub units-none : (k : ℕ) (us : List Bytes) → length (listed k false us) ≡ 0 → listed k false us ≡ units_piece k us
unfolding units_piece flat
units-none k [] e = sym (append-nil (listed k false []))
units-none k (u ∷ us) e = absurd (omega (arith, listed-some k false u us))

pub units-some : (k : ℕ) (us : List Bytes) → (length (listed k false us) ≡ 0 → ⊥) → listed k false us ++ (93 ∷ []) ≡ units_piece k us
unfolding units_piece flat
units-some k [] n = absurd (n (listed-none k))
units-some k (u ∷ us) n = refl

pub after_none : (k : ℕ) (v : Bytes) (e : ℕ) → length v ≤ e → [] ≡ units_piece k (units_after v e)
unfolding units_piece flat listed keep
after_none k v e l = sym (ap (λ b. units_piece k (keep filled (map plain_text (pick b (split_text 59 (drop (e + 1) v)) [])))) (le-ltb e (length v) l))

after-some : (k : ℕ) (v : Bytes) (e : ℕ) → e < length v → units_piece k (keep filled (texts_of 59 (drop (e + 1) v))) ≡ units_piece k (units_after v e)
after-some k v e l = sym (ap (λ b. units_piece k (keep filled (map plain_text (pick b (split_text 59 (drop (e + 1) v)) [])))) (lt-ltb e (length v) l))

-- ---- both, by the first part

taken-filled : (e : ℕ) (v : Bytes) → e ≤ length v → ltb 0 e ≡ not (empty (take e v))
taken-filled zero v l = refl
taken-filled (suc e) [] l = absurd (omega (arith, l))
taken-filled (suc e) (c ∷ v) l = lt-ltb 0 (suc e) (omega arith)

pub org-parts : (i : ℕ) (v : Bytes) (e : ℕ) → PartEnds 59 v 0 e
    → flat (org_name i (take (e - 0) v) ∷ units_piece (pick (ltb 0 e) 7 8) (units_after v e) ∷ []) ≡ org_piece i (split_text 59 v)
unfolding org_piece
org-parts i v e p =
    let z : e - 0 ≡ e = omega arith in
    ap (λ b. flat (org_name i (take (e - 0) v) ∷ units_piece (pick b 7 8) (units_after v e) ∷ [])) (taken-filled e v (p.within (omega arith)) ∙ ap (λ n. not (empty (take n v))) (sym z))
    ∙ sym (ap (org_piece i) p.parts)

pub kind-named : (named : Bool) → named ≡ true → ◌≡◌ {A = ℕ} 7 (pick named 7 8)
kind-named named e = rw e

pub kind-alone : (named : Bool) → named ≡ false → ◌≡◌ {A = ℕ} 8 (pick named 7 8)
kind-alone named e = rw e

pub rest-readable : (v : Bytes) (e : ℕ) → PartEnds 59 v 0 e → Readable 59 v → e < length v → Readable 59 (take (length v - (e + 1)) (drop (e + 1) v))
rest-readable v e p g l = ap (λ w. is_some (each read_text (split_text 59 w))) (rest_part v (e + 1)) ∙ rest-good 59 v 0 e p g l

pub rest-units : (k : ℕ) (v : Bytes) (e : ℕ) → e < length v → units_piece k (keep filled (texts_of 59 (take (length v - (e + 1)) (drop (e + 1) v)))) ≡ units_piece k (units_after v e)
rest-units k v e l = ap (λ w. units_piece k (keep filled (texts_of 59 w))) (rest_part v (e + 1)) ∙ after-some k v e l

-- ---- as members

abbrev unit : Bytes → Json
unit u = object (member (ascii "name") (jstr u) ∷ [])

named : (x : Bytes) → quoted (ascii "name") (58 ∷ x) ≡ ascii "\"name\":" ++ x
unfolding quoted spelled_all spelled
named x = refl

unit-is : (t : Bytes) → written (unit t) [] ≡ ascii "{\"name\":" ++ (quoted t [] ++ (125 ∷ []))
unfolding written written_members members_after from_members
unit-is t = ap (λ (x : Bytes). 123 ∷ x) (named (quoted t (125 ∷ []))) ∙ ap (λ (x : Bytes). ascii "{\"name\":" ++ x) (quoted-append t [] (125 ∷ []))

abbrev units : List Bytes → Member
units us = member (ascii "units") (array (map unit us))

units-member : (us : List Bytes) → member_bytes (units us) ≡ ascii "\"units\":[" ++ (elems false (map unit us) ++ (93 ∷ []))
unfolding member_bytes quoted spelled_all spelled
units-member us = ap (λ (x : Bytes). ascii "\"units\":" ++ x) (array-bytes (map unit us) [])

module _ (x : Bytes) (xs : List Bytes) where
  abbrev us : List Bytes
  us = x ∷ xs

  units-listed : (k : ℕ) → lead k ≡ ascii "{\"name\":" → units_piece k us ≡ opening k ++ (elems false (map unit us) ++ (93 ∷ []))
  unfolding units_piece flat
  units-listed k l =
      ap (λ (b : Bytes). b ++ (93 ∷ [])) (first-items k unit (λ t. unit-is t ∙ ap (λ (b : Bytes). b ++ (quoted t [] ++ (125 ∷ []))) (sym l)) x xs)
      ∙ append_assoc (opening k) (elems false (map unit us)) (93 ∷ [])

  -- alone, and after a name
  units-alone : inside false (units us ∷ []) ≡ flat ([] ∷ units_piece 8 us ∷ [])
  unfolding inside flat lead opening
  units-alone = ap (λ (b : Bytes). b ++ []) (units-member us ∙ sym (units-listed 8 refl))

  units-after : inside true (units us ∷ []) ≡ units_piece 7 us
  unfolding inside lead opening
  units-after = ap (λ (b : Bytes). 44 ∷ b) (append-nil (member_bytes (units us)) ∙ units-member us) ∙ sym (units-listed 7 refl)

-- ---- ORG's strings

no-units : (x : Bytes) → x ≡ flat (x ∷ units_piece 7 [] ∷ [])
unfolding units_piece flat listed
no-units x = sym (append-nil x)

two : (x y : Bytes) → x ++ y ≡ flat (x ∷ y ∷ [])
unfolding flat
two x y = ap (λ (z : Bytes). x ++ z) (sym (append-nil y))

no-any : false ≡ any filled []
unfolding any
no-any = refl

any-later : (t : Bytes) (ts : List Bytes) → empty t ≡ true → any filled (t ∷ ts) ≡ any filled ts
unfolding any
any-later t ts e = ap (λ b. not b || any filled ts) e

keep_some : (ts : List Bytes) → any filled ts ≡ true → empty (keep filled ts) ≡ false
unfolding any keep
keep_some [] e = never e
keep_some (t ∷ ts) e = by_bool (filled t) (λ b. rw b) (λ b. rw b (keep_some ts (rw b at e)))

pub record OrgOf (n : Bytes) (i : ℕ) (v : Bytes) (ts : List Bytes) : Type 0 where
  pub c : Member
  pub cs : List Member
  pub is : content_json organization n ts ≡ c ∷ cs
  pub bytes : inside false (c ∷ cs) ≡ org_piece i (split_text 59 v)

module _ (n : Bytes) (i : ℕ) (row : quoted n (58 ∷ []) ≡ content_piece i) where
  string-is : (u t : Bytes) → plain_text u ≡ t → inside false (member n (jstr t) ∷ []) ≡ string_piece i false u
  unfolding value_piece
  string-is u t e = string_bytes n t ∙ ap (λ (x : Bytes). flat (x ∷ quoted t [] ∷ [])) row ∙ ap (λ (x : Bytes). flat (content_piece i ∷ quoted x [] ∷ [])) (sym e)

  joined : (a b : Member) → inside false (a ∷ b ∷ []) ≡ inside false (a ∷ []) ++ inside true (b ∷ [])
  unfolding inside
  joined a b = ap (λ (x : Bytes). x ++ (44 ∷ (member_bytes b ++ []))) (sym (append-nil (member_bytes a)))

  -- by whether the name is filled, and whether there are units
  cases : (u t : Bytes) (xs : List Bytes) → plain_text u ≡ t → empty t ≡ empty u → (empty t ≡ true → empty xs ≡ false)
      → (c : Member) × (cs : List Member) × (content_json organization n (t ∷ xs) ≡ c ∷ cs)
      × (inside false (c ∷ cs) ≡ flat (org_name i u ∷ units_piece (pick (not (empty u)) 7 8) xs ∷ []))
  unfolding content_json org_name
  cases u [] [] p e f = never (sym (f refl))
  cases [] [] (x ∷ xs) p e f = (units (x ∷ xs), [], refl, units-alone x xs)
  cases (a ∷ u) [] (x ∷ xs) p e f = never (sym e)
  cases [] (b ∷ t) xs p e f = never e
  cases (a ∷ u) (b ∷ t) [] p e f = (member n (jstr (b ∷ t)), [], refl, string-is (a ∷ u) (b ∷ t) p ∙ no-units (string_piece i false (a ∷ u)))
  cases (a ∷ u) (b ∷ t) (x ∷ xs) p e f = (
    member n (jstr (b ∷ t)),
    units (x ∷ xs) ∷ [],
    refl,
    joined (member n (jstr (b ∷ t))) (units (x ∷ xs)) ∙ ap (λ (y : Bytes). y ++ inside true (units (x ∷ xs) ∷ [])) (string-is (a ∷ u) (b ∷ t) p)
        ∙ ap (λ (y : Bytes). string_piece i false (a ∷ u) ++ y) (units-after x xs) ∙ two (string_piece i false (a ∷ u)) (units_piece 7 (x ∷ xs)),
  )

  pub org_of : (v : Bytes) (us ts : List Bytes) → split_text 59 v ≡ us → each read_text us ≡ some ts → any filled ts ≡ true → OrgOf n i v (organized ts)
  unfolding organized org_piece each
  org_of v [] ts s e a = never (no-any ∙ ap (any filled) (some_same e) ∙ a)
  org_of v (u ∷ us) ts s e a =
      let q = both-inv ◌∷◌ (read_text u) (each read_text us) e in
      let t : Bytes = q.0 in
      let later : List Bytes = q.1 in
      let g : is_some (read_text u) ≡ true = ap is_some q.2 in
      let p : plain_text u ≡ t = plain-is u t q.2 in
      let m : map plain_text us ≡ later = each-plain us later q.3 in
      let z : empty t ≡ true → empty (keep filled later) ≡ false = λ y. keep_some later (sym (any-later t later y) ∙ ap (any filled) q.4 ∙ a) in
      let k = cases u t (keep filled later) p (sym (ap empty p) ∙ plain-empty u g) z in
      record {
        c = k.0;
        cs = k.1;
        is = ap (λ (l : List Bytes). content_json organization n (head_or [] l ∷ keep filled (tail l))) (sym q.4) ∙ k.2;
        bytes =
            k.3
            ∙ ap (λ l. flat (org_name i u ∷ units_piece (pick (not (empty u)) 7 8) (keep filled l) ∷ [])) (sym m)
            ∙ ap (org_piece i) (sym s);
      }
