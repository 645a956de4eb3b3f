-- Every line of a card stands for what StandsFor says, whatever its class.
use mathlib.Core.Path.{◌≡◌, refl, sym, ap, ap₂, subst, ◌∙◌}
use mathlib.Core.Bool.{Bool, true, false, ◌&&◌, not}
use mathlib.Core.List.{List, [], ◌∷◌, ◌++◌, map}
use mathlib.Core.Option.{Option, none, some}
use Prim.Native.Nat.{ℕ}
use lib.ListN.{length}
use lib.Dec.{eqb, leb}
use Rattle.text.specs.Choice.{with-some, provided}
use Rattle.text.specs.Bytes.{Bytes, ascii, empty, any, same, among, lowered, flat, each}
use Rattle.text.proofs.Cases.{by_bool, and_left}
use Rattle.text.proofs.Choices.{some_same}
use Rattle.json_text.specs.Tree.{Json, jstr, Member, member, object, array}
use Rattle.json_text.specs.Read.{reading}
use Rattle.line.specs.Grammar.{Param, param, Line}
use Rattle.line.specs.Params.{values_named, only_named, value_type, besides_value, merged}
use Rattle.line.specs.Text.{read_text, split_text}
use Rattle.convert.specs.Table.{slot_of, name_row, component_kinds, reserved}
use Rattle.convert.specs.Value.{filled, part_values, without, own_parts, read_name, read_parts}
use Rattle.convert.specs.Pointer.{push, pointed_from, pointed}
use Rattle.convert.specs.Classify.{Class, as-version, as-uid, as-kind, as_dropped, as-full, as_parts, as-entry, as_member, as-kept, Seen, see, bare, is_derived, full_class, parts_class, sole, member_name, member_value, member_class, entry_of, entry_class, classify, Classed, classed_after}
use Rattle.convert.specs.FromCard.{kept_line}
use Rattle.convert.specs.ToJson.{where', components_of, values_json, param_json, kept_json}
use Rattle.convert.specs.Answers.{is_named}
use Rattle.home.specs.Allowed.{plain, name_strings, part_strings}
use Rattle.home.specs.StandsFor as S
use Rattle.home.proofs.Known.{on_provided, on_chain, on_some}
use Rattle.home.proofs.NormalCardRest.{values-besides, sole-inv}
use Rattle.home.proofs.AllowedLines.{tree-read}
use Rattle.home.proofs.LineSays.{own-derived, entry-alone}
use Rattle.home.proofs.PairedEntries.{stand_entry, entry-stands}

-- what stands for a line of this class
abbrev pub stand_of : Line → Class → S.Stand
stand_of l as-version = S.nothing-stands
stand_of l (as-uid v) = S.a-uid v
stand_of l (as-kind v) = S.a-kind v
stand_of l as_dropped = S.nothing-stands
stand_of l (as-full v) = S.a-full v
stand_of l (as_parts ps) = S.components (components_of component_kinds ps)
stand_of l (as-entry i e) = stand_entry i e
stand_of l (as_member n j) = S.a-member n j
stand_of l as-kept = S.a-prop (kept_json (kept_line l))

-- ---- kept lines

params-paired : (ps : List Param) → map param_json ps ≡ map S.parameter ps
params-paired [] = refl
params-paired (param n vs ∷ ps) = ap₂ ◌∷◌ (ap (member n) (values vs)) (params-paired ps)
  where
    values : (vs : List Bytes) → values_json vs ≡ S.one_or_several vs
    values [] = refl
    values (v ∷ []) = refl
    values (v ∷ (w ∷ ws)) = refl

group-paired : (g : Bytes) → where' (filled g) (member (ascii "group") (jstr g)) ≡ S.where_text (ascii "group") g
group-paired [] = refl
group-paired (c ∷ g) = refl

pub kept-paired : (l : Line) → kept_json (kept_line l) ≡ S.kept l
unfolding kept_json kept_line S.kept
kept-paired l =
    ap (λ (ms : List Member). array (jstr (lowered l.name) ∷ object ms ∷ jstr (value_type l.params) ∷ jstr l.value ∷ []))
    (ap₂ ◌++◌ (group-paired (lowered l.group)) (params-paired (merged (besides_value l.params))))

kept-stands : (l : Line) → S.StandsFor l (stand_of l as-kept)
kept-stands l = subst (λ (j : Json). S.StandsFor l (S.a-prop j)) (sym (kept-paired l)) S.kept_line

-- ---- N

name-paired : (came : List (List Bytes)) → components_of component_kinds (own_parts name_row came) ≡ S.name_components came
unfolding components_of own_parts without S.name_components S.of_kind flat
name-paired came = refl

parts-stand : (l : Line) (ps : List (List Bytes)) → is_named (ascii "n") l ≡ true → read_name l.value ≡ some ps → S.StandsFor l (stand_of l (as_parts ps))
unfolding read_parts name_strings part_strings part_values
parts-stand l ps n e =
    on_provided (leb (length (split_text 59 l.value)) 7) _ e λ few a.
    on_chain (each part_values (split_text 59 l.value)) _ a λ came p b.
    on_provided (any (λ vs. not (empty vs)) came) (some (own_parts name_row came)) b λ t r.
    subst (λ (js : List Json). S.StandsFor l (S.components js)) (sym (name-paired came) ∙ ap (components_of component_kinds) (some_same r)) (S.parts n p)

-- ---- JSPROP

pushed : (c : ℕ) (o : Option Bytes) → push c o ≡ S.after c o
pushed c none = refl
pushed c (some s) = refl

pub part-name : (p : Bytes) → pointed_from false p ≡ S.part_name p
unfolding pointed_from S.part_name
part-name [] = refl
part-name (c ∷ []) = by_bool (eqb c 126) (λ q. rw q) (λ q. by_bool (eqb c 47) (λ r. rw (q, r)) (λ r. rw (q, r)))
part-name (c ∷ (d ∷ p)) =
    by_bool (eqb c 126)
    (λ q. by_bool (eqb d 48) (λ r. rw (q, r) (pushed 126 (pointed_from false p) ∙ ap (S.after 126) (part-name p)))
    (λ r. by_bool (eqb d 49) (λ t. rw (q, r, t) (pushed 47 (pointed_from false p) ∙ ap (S.after 47) (part-name p))) (λ t. rw (q, r, t))))
    (λ q. by_bool (eqb c 47) (λ r. rw (q, r)) (λ r. rw (q, r) (pushed c (pointed_from false (d ∷ p)) ∙ ap (S.after c) (part-name (d ∷ p)))))

member-stands : (s : Seen) (l : Line) (n : Bytes) (j : Json) → is_named (ascii "jsprop") l ≡ true → member_name s (besides_value l.params) ≡ some n → member_value l.value ≡ some j
    → S.StandsFor l (S.a-member n j)
unfolding member_name member_value pointed same
member-stands s l n j a m v =
    let ps : List Param = besides_value l.params in
    on_chain (provided (only_named (ascii "jsptr" ∷ []) ps) (sole (values_named (ascii "jsptr") ps))) _ m λ p c d.
    on_provided (only_named (ascii "jsptr" ∷ []) ps) (sole (values_named (ascii "jsptr") ps)) c λ t r.
    on_chain (provided (not (empty p)) (pointed_from false p)) _ d λ x f g.
    on_provided (not (empty p)) (pointed_from false p) f λ u k.
    on_provided (not (among x reserved) && not (among x s.members)) (some x) g λ new y.
    on_chain (read_text l.value) _ v λ came b w.
    let one : values_named (ascii "jsptr") l.params ≡ p ∷ [] = sym (values-besides (ascii "jsptr") l.params refl) ∙ sole-inv (values_named (ascii "jsptr") ps) p r in
    S.jsprop a one (sym (part-name p) ∙ k ∙ y) b (tree-read (reading 15 came) j w)

-- ---- all classes

module _ (s : Seen) (l : Line) where
  full-stands : is_named (ascii "fn") l ≡ true → S.StandsFor l (stand_of l (full_class s l))
  unfolding full_class
  full-stands n =
      let o : Option Bytes = provided (plain l && not s.full) (read_text l.value) in
      by_bool (bare l && is_derived (besides_value l.params))
      (λ d. rw d (S.dropped n (ap (λ (x : Bool). bare l && x) (own-derived s l (besides_value l.params)) ∙ d)))
      (λ d. rw d (on_some o (λ e. rw e (kept-stands l)) (λ v e. rw e (on_provided (plain l && not s.full) (read_text l.value) e λ t r. S.full n (and_left (plain l) _ t) r))))

  name-stands : is_named (ascii "n") l ≡ true → S.StandsFor l (stand_of l (parts_class s l))
  unfolding parts_class
  name-stands n =
      let o : Option (List (List Bytes)) = provided (plain l && not s.parts) (read_name l.value) in
      on_some o (λ e. rw e (kept-stands l)) (λ ps e. rw e (on_provided (plain l && not s.parts) (read_name l.value) e λ t r. parts-stand l ps n r))

  jsprop-stands : is_named (ascii "jsprop") l ≡ true → S.StandsFor l (stand_of l (member_class s l))
  unfolding member_class
  jsprop-stands n =
      let o : Option Bytes = member_name s (besides_value l.params) in
      on_some (provided (bare l) o) (λ e. rw e (kept-stands l))
      (λ m e. on_some (member_value l.value) (λ v. rw (e, v) (kept-stands l)) (λ j v. rw (e, v) (on_provided (bare l) o e λ t r. member-stands s l m j n r v)))

  map-stands : S.StandsFor l (stand_of l (with-some (slot_of (lowered l.name)) (λ w. entry_class s w l) as-kept))
  unfolding entry_class
  map-stands =
      on_some (slot_of (lowered l.name)) (λ n. rw n (kept-stands l))
      (λ w h. on_some (entry_of s w l) (λ n. rw (h, n) (kept-stands l)) (λ e q. rw (h, q) (entry-stands l w e h (entry-alone s w l e q))))

  pub class-stands : S.StandsFor l (stand_of l (classify s l))
  unfolding classify
  class-stands =
      by_bool (is_named (ascii "version") l) (λ a. rw a (S.version a)) λ a.
      by_bool (is_named (ascii "uid") l) (λ b. rw (a, b) (S.uid b)) λ b.
      by_bool (is_named (ascii "kind") l) (λ c. rw (a, b, c) (S.kind c)) λ c.
      by_bool (is_named (ascii "fn") l) (λ d. rw (a, b, c, d) (full-stands d)) λ d.
      by_bool (is_named (ascii "n") l) (λ e. rw (a, b, c, d, e) (name-stands e)) λ e.
      by_bool (is_named (ascii "jsprop") l) (λ f. rw (a, b, c, d, e, f) (jsprop-stands f)) λ f.
      rw (a, b, c, d, e, f) map-stands

-- what stands for each line, in order
abbrev pub stands_of : List Classed → List S.Stand
stands_of cs = map (λ (c : Classed). stand_of c.line c.class) cs

pub lines-stand : (s : Seen) (ls : List Line) → S.AllStandFor ls (stands_of (classed_after s ls))
unfolding classed_after
lines-stand s [] = S.no_line
lines-stand s (l ∷ ls) = S.next-line (class-stands s l) (lines-stand (see s (classify s l)) ls)
