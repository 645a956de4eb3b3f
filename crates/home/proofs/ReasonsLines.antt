-- Every line is kept exactly where it has a reason.
use mathlib.Core.Path.{◌≡◌, refl, sym, ap, ap₂, subst, ◌∙◌}
use mathlib.Core.Bool.{Bool, true, false, ◌&&◌, ◌||◌, not}
use mathlib.Core.List.{List, [], ◌∷◌}
use mathlib.Core.Option.{Option, none, some}
use lib.ListN.{length}
use lib.Dec.{leb}
use Rattle.text.specs.Choice.{provided, chain, with-some, is_some}
use Rattle.text.specs.Bytes.{Bytes, ascii, any, all, empty, same, among, lower, lowered, between, keep, flat, each}
use Rattle.text.proofs.Cases.{by_bool, not-both, and_left, and_right, or-second}
use Rattle.text.proofs.Lists.{any-not, any_head, any-tail}
use Rattle.text.proofs.Same.{same_true}
use Rattle.json_text.specs.Read.{Reading, tree, refused, reading}
use Rattle.line.specs.Grammar.{Param, Line}
use Rattle.line.specs.Params.{values_named, only_named, lacking, value_type, besides_value}
use Rattle.line.specs.Text.{read_text, split_text}
use Rattle.convert.specs.Table.{Slot, slot_from, slot_of, position, name_row, reserved}
use Rattle.convert.specs.Value.{part_values, own_parts, read_name, read_parts}
use Rattle.convert.specs.Pointer.{pointed_from, pointed}
use Rattle.convert.specs.Classify.{Class, as-version, as-uid, as-kind, as_dropped, as-full, as_parts, as-entry, as_member, as-kept, Seen, see, bare, is_derived, full_class, parts_class, sole, tree_of, member_name, member_value, member_class, entry_of, entry_class, classify, classed_after}
use Rattle.convert.specs.Answers.{is_named, only_uri, misused}
use Rattle.home.specs.Allowed.{plain, name_strings, part_strings, carries}
use Rattle.home.specs.Reasons.{Paired, is_full, is_components, is_member, is_prop, earlier, bad_escape, all_empty, member_names, points_new, is_tree, no_json, reasons_for, has_reason, KeptByReason, no_line, next-line}
use Rattle.home.proofs.NormalCardRest.{values-besides}
use Rattle.home.proofs.LineSays.{class-says, comes, carries-class}
use Rattle.home.proofs.PairedEntries.{slot}
use Rattle.home.proofs.PairedLines.{part-name, stand_of, stands_of}
use Rattle.home.proofs.ReasonsSeen.{Knows, known_next}
use Rattle.home.proofs.ReasonsEntries.{some-provided, and_one, or-none, some_of, nickname-kept, email-kept, tel-kept, url-kept, note-kept, title-kept, role_kept, org-kept}

-- ---- kept, by the class

abbrev kept_class : Class → Bool
kept_class as-version = false
kept_class (as-uid v) = false
kept_class (as-kind v) = false
kept_class as_dropped = false
kept_class (as-full v) = false
kept_class (as_parts ps) = false
kept_class (as-entry i e) = false
kept_class (as_member n j) = false
kept_class as-kept = true

prop-kept : (l : Line) (c : Class) → is_prop (stand_of l c) ≡ kept_class c
prop-kept l as-version = refl
prop-kept l (as-uid v) = refl
prop-kept l (as-kind v) = refl
prop-kept l as_dropped = refl
prop-kept l (as-full v) = refl
prop-kept l (as_parts ps) = refl
prop-kept l (as-entry i e) = refl
prop-kept l (as_member n j) = refl
prop-kept l as-kept = refl

-- kept exactly where r, if the line comes to JSON at all
abbrev By : Bool → Class → Type 0
By r c = kept_class c ≡ comes c && r

and_none : (b : Bool) → b && false ≡ false
and_none true = refl
and_none false = refl

-- a value, or else kept
by_value : {A : Type 0} (o : Option A) (f : A → Class) (r : Bool) → ((a : A) → kept_class (f a) ≡ false) → not (is_some o) ≡ r → By r (with-some o f as-kept)
by_value none f r h e = e
by_value (some a) f r h e = h a ∙ sym (ap (λ (b : Bool). comes (f a) && b) (sym e) ∙ and_none (comes (f a)))

-- ---- FN and N

only_none : (ps : List Param) → only_named [] ps ≡ empty ps
unfolding only_named all among any
only_none [] = refl
only_none (p ∷ ps) = refl

full-reasons : (g u o f r : Bool) → not ((g && u && o && not f) && r) ≡ some_of (false ∷ not g ∷ not o ∷ not (u || false) ∷ false ∷ false ∷ false ∷ f ∷ false ∷ not r ∷ false ∷ false ∷ false ∷ false ∷ false ∷ false ∷ false ∷ [])
unfolding any
full-reasons false u o f r = refl
full-reasons true false true f r = refl
full-reasons true false false f r = refl
full-reasons true true false f r = refl
full-reasons true true true true r = refl
full-reasons true true true false true = refl
full-reasons true true true false false = refl

-- X: N's strings
name-reasons : (g u o f few : Bool) (x : Option (List (List Bytes))) (k : List (List Bytes) → List (List Bytes)) → not ((g && u && o && not f) && is_some (provided few (chain x λ ps. provided (any (λ vs. not (empty vs)) ps) (some (k ps)))))
    ≡ some_of (false ∷ not g ∷ not o ∷ not (u || false) ∷ false ∷ false ∷ false ∷ false ∷ f ∷ not (is_some x) ∷ false ∷ not few ∷ all_empty x ∷ false ∷ false ∷ false ∷ false ∷ [])
unfolding any
name-reasons false u o f few x k = refl
name-reasons true false true f few x k = refl
name-reasons true false false f few x k = refl
name-reasons true true false f few x k = refl
name-reasons true true true true few x k = refl
name-reasons true true true false false none k = refl
name-reasons true true true false false (some ps) k = refl
name-reasons true true true false true none k = refl
name-reasons true true true false true (some ps) k =
    ap not (some-provided (any (λ vs. not (empty vs)) ps) (some (k ps)) ∙ and_one (any (λ vs. not (empty vs)) ps) ∙ any-not empty ps) ∙ twice (all empty ps) ∙ sym (or-none (all empty ps))
  where
    twice : (b : Bool) → not (not b) ≡ b
    twice true = refl
    twice false = refl

-- ---- JSPROP

some-tree : (r : Reading) → is_some (tree_of r) ≡ is_tree r
some-tree (tree j) = refl
some-tree (refused n) = refl

member-reasons : (g u o p : Bool) (t : Option Bytes) → not ((g && u) && (o && p) && is_some (chain t λ s. tree_of (reading 15 s)))
    ≡ some_of (false ∷ not g ∷ not o ∷ not (u || false) ∷ false ∷ false ∷ false ∷ false ∷ false ∷ not (is_some t) ∷ false ∷ false ∷ false ∷ false ∷ false ∷ not p ∷ no_json t ∷ [])
unfolding any
member-reasons false u o p t = refl
member-reasons true false true p t = refl
member-reasons true false false p t = refl
member-reasons true true false p t = refl
member-reasons true true true false none = refl
member-reasons true true true false (some s) = refl
member-reasons true true true true none = refl
member-reasons true true true true (some s) = ap not (some-tree (reading 15 s)) ∙ sym (or-none (not (is_tree (reading 15 s))))

-- a name and a value, or else kept
by_two : {A B : Type 0} (o : Option A) (p : Option B) (f : A → B → Class) (r : Bool) → ((a : A) (b : B) → kept_class (f a b) ≡ false) → not (is_some o && is_some p) ≡ r
    → By r (with-some o (λ a. with-some p (f a) as-kept) as-kept)
by_two none p f r h e = e
by_two (some a) p f r h e = by_value p (f a) r (h a) e

module _ (s : Seen) (before : List Paired) (h : Knows s before) (l : Line) where
  new-name : (q : Option Bytes) → is_some (chain q λ n. provided (not (among n reserved) && not (among n s.members)) (some n))
      ≡ with-some q (λ n. not (among n member_names) && not (earlier (is_member n) before)) false
  new-name none = refl
  new-name (some n) =
      some-provided (not (among n reserved) && not (among n s.members)) (some n) ∙ and_one (not (among n reserved) && not (among n s.members))
      ∙ ap (λ (b : Bool). not (among n reserved) && not b) (h.members n)

  pointed-new : (o : Bool) (vs : List Bytes) → is_some (chain (provided o (sole vs)) λ p. chain (pointed p) λ n. provided (not (among n reserved) && not (among n s.members)) (some n)) ≡ o && points_new before vs
  unfolding pointed
  pointed-new false vs = refl
  pointed-new true [] = refl
  pointed-new true (p ∷ []) = by_bool (not (empty p)) (λ q. rw (q, ← part-name p) (new-name (pointed_from false p))) (λ q. rw q)
  pointed-new true (p ∷ (q ∷ ps)) = refl

  abbrev reasons : Bytes → Bool
  reasons n = some_of (reasons_for n before l)

  full_by : By (reasons (ascii "fn")) (full_class s l)
  unfolding full_class among any same bad_escape
  full_by =
      by_bool (bare l && is_derived (besides_value l.params)) (λ d. rw d)
      (λ d. rw d (by_value (provided (plain l && not s.full) (read_text l.value)) as-full (reasons (ascii "fn")) (λ v. refl)
      (ap not (some-provided (plain l && not s.full) (read_text l.value) ∙ ap₂ (λ (o f : Bool). (bare l && o && not f) && is_some (read_text l.value)) (sym (only_none (besides_value l.params))) h.full)
      ∙ full-reasons (empty l.group) (same (value_type l.params) (ascii "unknown")) (only_named [] (besides_value l.params)) (earlier is_full before) (is_some (read_text l.value)))))

  parts-by : By (reasons (ascii "n")) (parts_class s l)
  unfolding parts_class among any same bad_escape read_parts name_strings part_strings part_values
  parts-by =
      by_value (provided (plain l && not s.parts) (read_name l.value)) as_parts (reasons (ascii "n")) (λ v. refl)
      (ap not (some-provided (plain l && not s.parts) (read_name l.value) ∙ ap₂ (λ (o f : Bool). (bare l && o && not f) && is_some (read_name l.value)) (sym (only_none (besides_value l.params))) h.parts)
      ∙ name-reasons (empty l.group) (same (value_type l.params) (ascii "unknown")) (only_named [] (besides_value l.params)) (earlier is_components before) (leb (length (split_text 59 l.value)) 7)
      (each part_values (split_text 59 l.value)) (own_parts name_row))

  member-by : By (reasons (ascii "jsprop")) (member_class s l)
  unfolding member_class member_name member_value among any same bad_escape
  member-by =
      let ps : List Param = besides_value l.params in
      let o : Bool = only_named (ascii "jsptr" ∷ []) ps in
      by_two (provided (bare l) (member_name s ps)) (member_value l.value) as_member (reasons (ascii "jsprop")) (λ n j. refl)
      (ap (λ (b : Bool). not (b && is_some (member_value l.value)))
      (some-provided (bare l) (member_name s ps) ∙ ap (λ (b : Bool). bare l && b) (pointed-new o (values_named (ascii "jsptr") ps) ∙ ap (λ (vs : List Bytes). o && points_new before vs) (values-besides (ascii "jsptr") l.params refl)))
      ∙ member-reasons (empty l.group) (same (value_type l.params) (ascii "unknown")) o (points_new before (values_named (ascii "jsptr") l.params)) (read_text l.value))

-- ---- UID and KIND: what they must not have is refused

uid-fits : (ps : List Param) → only_uri ps ≡ true → (only_named [] (besides_value ps) ≡ true) × (same (value_type ps) (ascii "unknown") || same (value_type ps) (ascii "uri") ≡ true)
unfolding only_uri only_named besides_value lacking value_type values_named keep flat all lowered lower between same
uid-fits [] e = (refl, refl)
uid-fits (p ∷ ps) e =
    (only_none (besides_value (p ∷ ps)) ∙ and_left (empty (besides_value (p ∷ ps))) _ e, or-second (same (value_type (p ∷ ps)) (ascii "unknown")) (same (value_type (p ∷ ps)) (ascii "uri")) (and_right (empty (besides_value (p ∷ ps))) _ e))

kind_fits : (ps : List Param) → empty ps ≡ true → (only_named [] (besides_value ps) ≡ true) × (same (value_type ps) (ascii "unknown") ≡ true)
unfolding only_named besides_value lacking value_type values_named keep flat all lowered lower between same
kind_fits [] e = (refl, refl)
kind_fits (p ∷ ps) e = not-both e refl

module _ (before : List Paired) (l : Line) (used : misused l ≡ false) where
  uid-used : is_named (ascii "uid") l ≡ true → empty l.group && only_uri l.params ≡ true
  unfolding misused
  uid-used n = by_bool (empty l.group && only_uri l.params) (λ e. e) (λ e. not-both (bad e) used)
    where
      bad : empty l.group && only_uri l.params ≡ false → misused l ≡ true
      bad e = rw (n, e)

  kind-used : is_named (ascii "kind") l ≡ true → empty l.group && empty l.params ≡ true
  unfolding misused same
  kind-used n = by_bool (empty l.group && empty l.params) (λ e. e) (λ e. not-both (bad e) used)
    where
      bad : empty l.group && empty l.params ≡ false → misused l ≡ true
      bad e = rw (same_true (lowered l.name) (ascii "kind") n, e)

  uid-by : is_named (ascii "uid") l ≡ true → some_of (reasons_for (ascii "uid") before l) ≡ false
  unfolding among any same bad_escape
  uid-by n =
      let u = uid-used n in
      let f = uid-fits l.params (and_right (empty l.group) _ u) in
      rw (and_left (empty l.group) _ u, f.0, f.1)

  kind-by : is_named (ascii "kind") l ≡ true → some_of (reasons_for (ascii "kind") before l) ≡ false
  unfolding among any same bad_escape
  kind-by n =
      let u = kind-used n in
      let f = kind_fits l.params (and_right (empty l.group) _ u) in
      rw (and_left (empty l.group) _ u, f.0, f.1)

-- ---- all lines

module _ (s : Seen) (before : List Paired) (h : Knows s before) (l : Line) where
  abbrev name : Bytes
  name = lowered l.name

  abbrev entry : Class
  entry = with-some (slot_of name) (λ w. entry_class s w l) as-kept

  -- a line of that name, of the map of that slot
  map-by : (x : Bytes) (w : Slot) → same name x ≡ true → slot_of x ≡ some w → not (is_some (entry_of s w l)) ≡ some_of (reasons_for x before l) → By (some_of (reasons_for name before l)) entry
  unfolding entry_class
  map-by x w q o e =
      subst (λ (n : Bytes). By (some_of (reasons_for n before l)) (with-some (slot_of n) (λ w. entry_class s w l) as-kept)) (sym (same_true name x q))
      (rw o (by_value (entry_of s w l) (as-entry w.index) (some_of (reasons_for x before l)) (λ a. refl) e))

  -- a line of no name of the table
  other-by : same name (ascii "uid") ≡ false → same name (ascii "kind") ≡ false → same name (ascii "fn") ≡ false → same name (ascii "n") ≡ false → same name (ascii "jsprop") ≡ false → By (some_of (reasons_for name before l)) entry
  unfolding slot_of slot_from position among any
  other-by a b c d e =
      by_bool (same name (ascii "nickname")) (λ q. map-by (ascii "nickname") (slot 0 0) q (unfold same in refl) (nickname-kept s before h l)) λ q0.
      by_bool (same name (ascii "email")) (λ q. map-by (ascii "email") (slot 1 0) q (unfold same in refl) (email-kept s before h l)) λ q1.
      by_bool (same name (ascii "tel")) (λ q. map-by (ascii "tel") (slot 2 0) q (unfold same in refl) (tel-kept s before h l)) λ q2.
      by_bool (same name (ascii "url")) (λ q. map-by (ascii "url") (slot 3 0) q (unfold same in refl) (url-kept s before h l)) λ q3.
      by_bool (same name (ascii "note")) (λ q. map-by (ascii "note") (slot 4 0) q (unfold same in refl) (note-kept s before h l)) λ q4.
      by_bool (same name (ascii "title")) (λ q. map-by (ascii "title") (slot 5 0) q (unfold same in refl) (title-kept s before h l)) λ q5.
      by_bool (same name (ascii "role")) (λ q. map-by (ascii "role") (slot 5 1) q (unfold same in refl) (role_kept s before h l)) λ q6.
      by_bool (same name (ascii "org")) (λ q. map-by (ascii "org") (slot 6 0) q (unfold same in refl) (org-kept s before h l)) λ q7.
      rw (a, b, c, d, e, q0, q1, q2, q3, q4, q5, q6, q7)

-- by the line's name, whatever r is
class-by : (s : Seen) (l : Line) (r : Bool) → (is_named (ascii "uid") l ≡ true → r ≡ false) → (is_named (ascii "kind") l ≡ true → r ≡ false) → (is_named (ascii "fn") l ≡ true → By r (full_class s l))
    → (is_named (ascii "n") l ≡ true → By r (parts_class s l)) → (is_named (ascii "jsprop") l ≡ true → By r (member_class s l))
    → (is_named (ascii "uid") l ≡ false → is_named (ascii "kind") l ≡ false → is_named (ascii "fn") l ≡ false → is_named (ascii "n") l ≡ false → is_named (ascii "jsprop") l ≡ false
    → By r (with-some (slot_of (lowered l.name)) (λ w. entry_class s w l) as-kept)) → By r (classify s l)
unfolding classify
class-by s l r u k f n m o =
    by_bool (is_named (ascii "version") l) (λ a. rw a) λ a.
    by_bool (is_named (ascii "uid") l) (λ b. rw (a, b, u b)) λ b.
    by_bool (is_named (ascii "kind") l) (λ c. rw (a, b, c, k c)) λ c.
    by_bool (is_named (ascii "fn") l) (λ d. rw (a, b, c, d) (f d)) λ d.
    by_bool (is_named (ascii "n") l) (λ e. rw (a, b, c, d, e) (n e)) λ e.
    by_bool (is_named (ascii "jsprop") l) (λ g. rw (a, b, c, d, e, g) (m g)) λ g.
    rw (a, b, c, d, e, g) (o b c d e g)

module _ (s : Seen) (before : List Paired) (h : Knows s before) (l : Line) (used : misused l ≡ false) where
  by_name : (x : Bytes) {A : Type 0} (P : Bool → A → Type 0) (a : A) → is_named x l ≡ true → P (some_of (reasons_for x before l)) a → P (some_of (reasons_for (lowered l.name) before l)) a
  by_name x P a q p = subst (λ (n : Bytes). P (some_of (reasons_for n before l)) a) (sym (same_true (lowered l.name) x q)) p

  line-by : is_prop (stand_of l (classify s l)) ≡ carries l && has_reason before l
  unfolding has_reason
  line-by =
      let r : Bool = some_of (reasons_for (lowered l.name) before l) in
      prop-kept l (classify s l)
      ∙ class-by s l r (λ q. by_name (ascii "uid") (λ (b c : Bool). b ≡ c) false q (uid-by before l used q)) (λ q. by_name (ascii "kind") (λ (b c : Bool). b ≡ c) false q (kind-by before l used q))
      (λ q. by_name (ascii "fn") By (full_class s l) q (full_by s before h l)) (λ q. by_name (ascii "n") By (parts_class s l) q (parts-by s before h l))
      (λ q. by_name (ascii "jsprop") By (member_class s l) q (member-by s before h l)) (other-by s before h l)
      ∙ ap (λ (b : Bool). b && r) (sym (carries-class s l))

pub lines-by : (s : Seen) (before : List Paired) → Knows s before → (ls : List Line) → any misused ls ≡ false → KeptByReason before ls (stands_of (classed_after s ls))
unfolding classed_after
lines-by s before h [] u = no_line
lines-by s before h (l ∷ ls) u =
    next-line (line-by s before h l (any_head misused l ls u))
    (lines-by (see s (classify s l)) (record { line = l; stand = stand_of l (classify s l) } ∷ before) (known_next s before h l (classify s l) (class-says s l)) ls (any-tail misused l ls u))
