-- Kept entries from sound JSON.
use mathlib.Core.Path.{◌≡◌, refl, sym, ap, subst, ◌∙◌}
use mathlib.Core.Bool.{true, false, ◌||◌, not}
use mathlib.Core.List.{List, [], ◌∷◌, map}
use mathlib.Core.Option.{some}
use Prim.Native.Nat.{ℕ}
use Rattle.text.specs.Choice.{chain, provided}
use Rattle.text.specs.Bytes.{Bytes, any, all, empty, distinct, lowered, keep, each}
use Rattle.text.specs.Utf8.{utf8}
use Rattle.text.proofs.Cases.{and_left, not-true}
use Rattle.text.proofs.Choices.{none-some, some_same, provided-inv, chain-inv, map-inv}
use Rattle.text.proofs.Lists.{all_cons, all-not, keep-passes}
use Rattle.json_text.specs.Tree.{Json, jnull, jtrue, jfalse, jnum, jstr, jarr, jobj, Member, member, name_of, as_string, as_array, as_object, elems_of}
use Rattle.json_text.proofs.Sound.{Sound}
use Rattle.line.specs.Grammar.{Param, param, param_name, param_values}
use Rattle.convert.specs.Model.{Kept}
use Rattle.convert.specs.Classify.{Seen}
use Rattle.convert.specs.FromJson.{is_lower_word, strings, param_from, is_group, group_from, kept_from_four, kept_from, kept_stands}
use Rattle.home.proofs.Proper.{KeptFine}
use Rattle.home.proofs.Alls.{All, all-test, test-all, all-mono, all-kept, each-gives, each-called, kept-distinct}
use Rattle.home.proofs.SoundLists.{SoundMember, string-sound, array-sound, object-sound}
use Rattle.home.proofs.Words.{word-lowered, or_word, distinct-settled}
use Rattle.home.proofs.Stands.{Stands, stands-inv, lower_param}

-- ---- parameters

abbrev FineValues : List Bytes → Type 0
FineValues vs = (not (empty vs) ≡ true) × (all utf8 vs ≡ true)

strings-fine : (d : ℕ) (j : Json) (vs : List Bytes) → Sound d j → strings j ≡ some vs → FineValues vs
strings-fine d jnull vs h e = none-some e
strings-fine d jtrue vs h e = none-some e
strings-fine d jfalse vs h e = none-some e
strings-fine d (jnum x) vs h e = none-some e
strings-fine d (jstr s) vs h e = subst FineValues (some_same e) (refl, all_cons utf8 s [] h (all-test utf8 [] tt))
strings-fine d (jarr es) vs h e =
    let o = array-sound d (jarr es) (elems_of es) h refl in
    let i = chain-inv (each as_string (elems_of es)) (λ vs. provided (not (empty vs)) (some vs)) e in
    let p = provided-inv (not (empty i.0)) (some i.0) i.2 in
    subst FineValues (some_same p.1) (p.0, all-test utf8 i.0 (each-gives as_string (Sound o.0) (λ s. utf8 s ≡ true) (string-sound o.0) (elems_of es) i.0 o.2 i.1))
strings-fine d (jobj ms) vs h e = none-some e

abbrev FineParam : Param → Type 0
FineParam p = FineValues (param_values p)

param-fine : (d : ℕ) (m : Member) (p : Param) → SoundMember d m → param_from m ≡ some p → FineParam p
param-fine d (member n j) p h e = let i = map-inv (λ vs. param n vs) (strings j) e in subst FineParam i.2 (strings-fine d j i.0 h.1 i.1)

param-called : (m : Member) (p : Param) → param_from m ≡ some p → param_name p ≡ name_of m
param-called (member n j) p e = let i = map-inv (λ vs. param n vs) (strings j) e in ap param_name (sym i.2)

-- ---- the group

group-fine : (ps : List Param) (g : Bytes) → group_from ps ≡ some g → empty g || is_lower_word g ≡ true
group-fine [] g e = ap (λ (g : Bytes). empty g || is_lower_word g) (sym (some_same e))
group-fine (param n [] ∷ ps) g e = none-some e
group-fine (param n (h ∷ []) ∷ ps) g e =
    let p = provided-inv (is_lower_word h) (some h) e in
    let w : is_lower_word g ≡ true = ap is_lower_word (sym (some_same p.1)) ∙ p.0 in
    or_word g w
group-fine (param n (h ∷ (i ∷ is)) ∷ ps) g e = none-some e

-- ---- the entry, where it stands

abbrev others : List Param → List Param
others ps = keep (λ p. not (is_group p)) ps

no-others : (ps : List Param) → any is_group (others ps) ≡ false
no-others ps = not-true (any is_group (others ps)) (sym (all-not is_group (others ps)) ∙ keep-passes (λ p. not (is_group p)) ps)

four-fine : (d : ℕ) (js : List Json) (k : Kept) (s : Seen) → All (Sound d) js → kept_from_four js ≡ some k → Stands s k → KeptFine k
four-fine d [] k s h e w = none-some e
four-fine d (n ∷ []) k s h e w = none-some e
four-fine d (n ∷ (ps ∷ [])) k s h e w = none-some e
four-fine d (n ∷ (ps ∷ (t ∷ []))) k s h e w = none-some e
four-fine d (n ∷ (ps ∷ (t ∷ (v ∷ [])))) k s h e w =
    let a = chain-inv (as_string n) _ e in
    let b = chain-inv (chain (as_object ps) (each param_from)) _ a.2 in
    let g = chain-inv (group_from (keep is_group b.0)) _ b.2 in
    let c = chain-inv (as_string t) _ g.2 in
    let f = chain-inv (as_string v) _ c.2 in
    let o = chain-inv (as_object ps) (each param_from) b.1 in
    let l = object-sound d ps o.0 h.1.0 o.1 in
    let q : others b.0 ≡ k.params = ap (λ (k : Kept). k.params) (some_same f.2) in
    let fine : All FineParam (others b.0) =
    all-kept FineParam (λ p. not (is_group p)) b.0 (each-gives param_from (SoundMember l.0) FineParam (param-fine l.0) o.0 b.0 l.3 o.2) in
    let called : distinct (map param_name (others b.0)) ≡ true =
    kept-distinct param_name (λ p. not (is_group p)) b.0 (ap distinct (each-called param_from name_of param_name param-called o.0 b.0 o.2) ∙ l.2) in
    let low = all-mono (λ p. lower_param p ≡ true) (λ p. lowered (param_name p) ≡ param_name p) (λ p r. word-lowered (param_name p) (and_left (is_lower_word (param_name p)) _ r)) k.params (test-all lower_param k.params w.params) in
    record {
      group = ap (λ (k : Kept). empty k.group || is_lower_word k.group) (sym (some_same f.2)) ∙ group-fine (keep is_group b.0) g.0 g.1;
      params = distinct-settled k.params low (subst (λ (x : List Param). distinct (map param_name x) ≡ true) q called);
      no-group = subst (λ (x : List Param). any is_group x ≡ false) q (no-others b.0);
      values = subst (λ (x : List Param). all (λ p. not (empty (param_values p))) x ≡ true) q (all-test (λ p. not (empty (param_values p))) (others b.0) (all-mono FineParam (λ p. not (empty (param_values p)) ≡ true) (λ p r. r.0) (others b.0) fine));
      params-utf8 = subst (λ (x : List Param). all (λ p. all utf8 (param_values p)) x ≡ true) q (all-test (λ p. all utf8 (param_values p)) (others b.0) (all-mono FineParam (λ p. all utf8 (param_values p) ≡ true) (λ p r. r.1) (others b.0) fine));
      value-utf8 = ap (λ (k : Kept). utf8 k.value) (sym (some_same f.2)) ∙ string-sound d v f.0 h.1.1.1.0 f.1;
    }
four-fine d (n ∷ (ps ∷ (t ∷ (v ∷ (w ∷ ws))))) k s h e u = none-some e

pub kept_fine : (d : ℕ) (s : Seen) (j : Json) (k : Kept) → Sound d j → kept_from j ≡ some k → kept_stands s k ≡ true → KeptFine k
unfolding kept_from
kept_fine d s j k h e w =
    let i = chain-inv (as_array j) kept_from_four e in
    let o = array-sound d j i.0 h i.1 in
    four-fine o.0 i.0 k s o.2 i.2 (stands-inv s k w)
