-- What stands for a card's lines is one JSON: two texts of which `JsonStands` holds are equal. So a converter that pairs a word otherwise, or keeps a line otherwise, than 01
-- has no part in demand 2, whatever it is.
use mathlib.Core.Path.{◌≡◌, refl, sym, ap, ap₂, subst, ◌∙◌}
use mathlib.Core.Bool.{Bool, true, false, ◌&&◌}
use mathlib.Core.List.{List, [], ◌∷◌, ◌++◌}
use mathlib.Core.Option.{Option, none, some}
use Prim.Native.Nat.{ℕ, ◌≤◌, ◌<◌}
use native.Mathlib.Omega.{arith}
use lib.ListN.{length}
use Rattle.text.specs.Choice.{pick}
use Rattle.text.specs.Bytes.{Bytes, ascii, any, empty, same, among, lowered, flat, each}
use Rattle.text.proofs.Cases.{by_bool, not-both, and_right, split}
use Rattle.text.proofs.Same.{same_true}
use Rattle.json_text.specs.Tree.{Json, jnull, jstr, Member, member, object}
use Rattle.json_text.specs.Read.{Reading, tree, refused, reading}
use Rattle.json_text.specs.Compact.{compact}
use Rattle.line.specs.Grammar.{Param, Line}
use Rattle.line.specs.Params.{values_named, value_type, besides_value}
use Rattle.line.specs.Text.{read_text, split_text}
use Rattle.convert.specs.Keys.{numbered, fresh}
use Rattle.convert.specs.Classify.{nothing, classed_after}
use Rattle.convert.specs.Answers.{Answer, yes, misused, card_to_json}
use Rattle.convert.proofs.Fresh.{number_from, fresh-numbered, fresh-unused, fresh-least}
use Rattle.home.specs.Allowed.{untyped, plain, name_strings, only_derived, carries}
use Rattle.home.specs.StandsFor as S
use Rattle.home.specs.Reasons.{Paired, is_prop, has_reason, KeptByReason, next-line}
use Rattle.home.specs.JsonStands.{JsonStands}
use Rattle.home.specs.Demand2.{lines, Demand2}
use Rattle.home.proofs.PairedLines.{stands_of, lines-stand}
use Rattle.home.proofs.PairedWhole.{positive}
use Rattle.home.proofs.ReasonsSeen.{nothing_known}
use Rattle.home.proofs.ReasonsLines.{lines-by}
use Rattle.home.proofs.JsonStands.{card-stands}

-- ---- one thing stands for a line that is not kept

abbrev or-empty : {A : Type 0} → Option (List A) → List A
or-empty (some v) = v
or-empty none = []

abbrev text_of : Line → Bytes
text_of l = or-empty (read_text l.value)

abbrev json_of : Reading → Json
json_of (tree j) = j
json_of (refused n) = jnull

abbrev head : List Bytes → Bytes
head [] = []
head (v ∷ vs) = v

abbrev stand_for : Bytes → Line → S.Stand
stand_for n l =
    pick (same n (ascii "version")) S.nothing-stands
    (pick (same n (ascii "uid")) (S.a-uid l.value)
    (pick (same n (ascii "kind")) (S.a-kind (lowered l.value))
    (pick (same n (ascii "fn")) (pick (untyped l && only_derived (besides_value l.params)) S.nothing-stands (S.a-full (text_of l)))
    (pick (same n (ascii "n")) (S.components (S.name_components (or-empty (name_strings l.value))))
    (pick (same n (ascii "nickname")) (S.entry_of (ascii "nicknames") l (member (ascii "name") (jstr (text_of l)) ∷ (S.contexts l ++ S.pref l)))
    (pick (same n (ascii "email")) (S.entry_of (ascii "emails") l (member (ascii "address") (jstr (text_of l)) ∷ (S.contexts l ++ S.pref l)))
    (pick (same n (ascii "tel")) (S.entry_of (ascii "phones") l (member (ascii "number") (jstr (pick (same (value_type l.params) (ascii "uri")) l.value (text_of l))) ∷ (S.contexts l ++ S.features l ++ S.pref l)))
    (pick (same n (ascii "url")) (S.entry_of (ascii "links") l (member (ascii "uri") (jstr l.value) ∷ (S.contexts l ++ S.pref l)))
    (pick (same n (ascii "note")) (S.entry_of (ascii "notes") l (member (ascii "note") (jstr (text_of l)) ∷ []))
    (pick (same n (ascii "title")) (S.entry_of (ascii "titles") l (member (ascii "kind") (jstr (ascii "title")) ∷ member (ascii "name") (jstr (text_of l)) ∷ []))
    (pick (same n (ascii "role")) (S.entry_of (ascii "titles") l (member (ascii "kind") (jstr (ascii "role")) ∷ member (ascii "name") (jstr (text_of l)) ∷ []))
    (pick (same n (ascii "org")) (S.entry_of (ascii "organizations") l (S.organization (or-empty (each read_text (split_text 59 l.value)))))
    (S.a-member (or-empty (S.part_name (head (values_named (ascii "jsptr") l.params)))) (json_of (reading 15 (text_of l))))))))))))))))

none-derived : (ps : List Param) → empty ps ≡ true → only_derived ps ≡ false
none-derived [] h = refl
none-derived (p ∷ ps) h = not-both h refl

module _ (l : Line) where
  abbrev name : Bytes
  name = lowered l.name

  by_name : (x : Bytes) (t : S.Stand) → same name x ≡ true → t ≡ stand_for x l → t ≡ stand_for name l
  by_name x t q e = e ∙ sym (ap (λ (n : Bytes). stand_for n l) (same_true name x q))

  plain-full : plain l ≡ true → untyped l && only_derived (besides_value l.params) ≡ false
  plain-full p = rw (none-derived (besides_value l.params) (and_right (untyped l) _ p)) (none (untyped l))
    where
      none : (b : Bool) → b && false ≡ false
      none true = refl
      none false = refl

  one-stand : (t : S.Stand) → S.StandsFor l t → is_prop t ≡ false → t ≡ stand_for name l
  unfolding same
  one-stand t (S.version q) k = by_name (ascii "version") t q refl
  one-stand t (S.dropped q d) k = by_name (ascii "fn") t q (rw d)
  one-stand t (S.uid q) k = by_name (ascii "uid") t q refl
  one-stand t (S.kind q) k = by_name (ascii "kind") t q refl
  one-stand t (S.full q p r) k = by_name (ascii "fn") t q (rw (plain-full p, r))
  one-stand t (S.parts q r) k = by_name (ascii "n") t q (rw r)
  one-stand t (S.nickname q r) k = by_name (ascii "nickname") t q (rw r)
  one-stand t (S.email q r) k = by_name (ascii "email") t q (rw r)
  one-stand t (S.tel q u r) k = by_name (ascii "tel") t q (rw (u, r))
  one-stand t (S.tel-uri q u) k = by_name (ascii "tel") t q (rw u)
  one-stand t (S.url q) k = by_name (ascii "url") t q refl
  one-stand t (S.note q r) k = by_name (ascii "note") t q (rw r)
  one-stand t (S.title q r) k = by_name (ascii "title") t q (rw r)
  one-stand t (S.role q r) k = by_name (ascii "role") t q (rw r)
  one-stand t (S.org q r) k = by_name (ascii "org") t q (rw r)
  one-stand t (S.jsprop q p h r j) k = by_name (ascii "jsprop") t q (rw (p, h, r, j))
  one-stand t S.kept_line k = not-both refl k

  one_kept : (t : S.Stand) → S.StandsFor l t → is_prop t ≡ true → t ≡ S.a-prop (S.kept l)
  one_kept t (S.version q) k = not-both k refl
  one_kept t (S.dropped q d) k = not-both k refl
  one_kept t (S.uid q) k = not-both k refl
  one_kept t (S.kind q) k = not-both k refl
  one_kept t (S.full q p r) k = not-both k refl
  one_kept t (S.parts q r) k = not-both k refl
  one_kept t (S.nickname q r) k = not-both k refl
  one_kept t (S.email q r) k = not-both k refl
  one_kept t (S.tel q u r) k = not-both k refl
  one_kept t (S.tel-uri q u) k = not-both k refl
  one_kept t (S.url q) k = not-both k refl
  one_kept t (S.note q r) k = not-both k refl
  one_kept t (S.title q r) k = not-both k refl
  one_kept t (S.role q r) k = not-both k refl
  one_kept t (S.org q r) k = not-both k refl
  one_kept t (S.jsprop q p h r j) k = not-both k refl
  one_kept t S.kept_line k = refl

  same-stand : (t u : S.Stand) → S.StandsFor l t → S.StandsFor l u → is_prop t ≡ is_prop u → t ≡ u
  same-stand t u a b e =
      by_bool (is_prop t) (λ q. one_kept t a q ∙ sym (one_kept u b (sym e ∙ q))) (λ q. one-stand t a q ∙ sym (one-stand u b (sym e ∙ q)))

-- ---- the same for all lines

-- what one line of the list gives
heads : (l : Line) (ls : List Line) (us : List S.Stand) → S.AllStandFor (l ∷ ls) us → (u : S.Stand) × (vs : List S.Stand) × (us ≡ u ∷ vs) × S.StandsFor l u × S.AllStandFor ls vs
heads l ls us (S.next-line {t = u} {ts = vs} a h) = (u, vs, refl, a, h)

reason-heads : (before : List Paired) (l : Line) (ls : List Line) (u : S.Stand) (vs : List S.Stand) → KeptByReason before (l ∷ ls) (u ∷ vs)
    → (is_prop u ≡ carries l && has_reason before l) × KeptByReason (record { line = l; stand = u } ∷ before) ls vs
reason-heads before l ls u vs (next-line e h) = (e, h)

none-stand : (us : List S.Stand) → S.AllStandFor [] us → us ≡ []
none-stand us S.no_line = refl

same-stands : (before : List Paired) (ls : List Line) (ts us : List S.Stand) → S.AllStandFor ls ts → S.AllStandFor ls us → KeptByReason before ls ts → KeptByReason before ls us → ts ≡ us
same-stands before [] ts us a b p q = none-stand ts a ∙ sym (none-stand us b)
same-stands before (l ∷ ls) ts us a b p q =
    let x = heads l ls ts a in
    let y = heads l ls us b in
    let v = reason-heads before l ls x.0 x.1 (subst (KeptByReason before (l ∷ ls)) x.2 p) in
    let w = reason-heads before l ls y.0 y.1 (subst (KeptByReason before (l ∷ ls)) y.2 q) in
    let e : x.0 ≡ y.0 = same-stand l x.0 y.0 x.3 y.3 (v.0 ∙ sym w.0) in
    let r : KeptByReason (record { line = l; stand = y.0 } ∷ before) ls x.1 = subst (λ (t : S.Stand). KeptByReason (record { line = l; stand = t } ∷ before) ls x.1) e v.1 in
    x.2 ∙ ap₂ ◌∷◌ e (same-stands (record { line = l; stand = y.0 } ∷ before) ls x.1 y.1 x.4 y.4 r w.1) ∙ sym y.2

-- what stands for the lines is what the converter's classes say
pub the-stands : (stem : Bytes) (n : ℕ) (ls : List Line) (j : Bytes) (h : JsonStands stem n ls j) → any misused ls ≡ false → h.stands ≡ stands_of (classed_after nothing ls)
the-stands stem n ls j h u = same-stands [] ls h.stands (stands_of (classed_after nothing ls)) h.each_line (lines-stand nothing ls) h.reasons (lines-by nothing [] nothing_known ls u)

-- ---- keys

abbrev first_key : Bytes → List Bytes → List Bytes → Bytes
first_key p used [] = fresh p used
first_key p used (k ∷ ks) = k

abbrev keys_of : Bytes → List Bytes → List S.Unkeyed → List Bytes
keys_of p used [] = []
keys_of p used (e ∷ es) = first_key p used e.ids ∷ keys_of p (first_key p used e.ids ∷ used) es

-- the smallest number that is free
smallest : (p : Bytes) (used : List Bytes) (n : ℕ) → 1 ≤ n → among (S.numbered p n) used ≡ false → ((i : ℕ) → 1 ≤ i → i < n → among (S.numbered p i) used ≡ true) → S.numbered p n ≡ fresh p used
unfolding numbered fresh
smallest p used n one free least =
    let m : ℕ = number_from (length used) p 1 used in
    let i : fresh p used ≡ S.numbered p m = fresh-numbered (length used) p 1 used in
    let u : among (S.numbered p m) used ≡ false = ap (λ (k : Bytes). among k used) (sym i) ∙ fresh-unused p used in
    split n m
    (λ a. split m n (λ b. let e : n ≡ m = omega arith in ap (S.numbered p) e ∙ sym i) (λ b. not-both (fresh-least p used n one (omega arith)) free))
    (λ a. not-both (least m (positive (length used) p 1 used) a) u)

one_list : {p : Bytes} {used ks : List Bytes} {es : List S.Unkeyed} → S.KeysFor p used es ks → ks ≡ keys_of p used es
one_list S.no-entry = refl
one_list {p} {used} (S.given-key {k = k} h) = ap (λ (ks : List Bytes). k ∷ ks) (one_list h)
one_list {p} {used} (S.made-key {ks = ks} {es = es} {n = n} a b c h) =
    let i : S.numbered p n ≡ fresh p used = smallest p used n a b c in
    ap₂ (λ (k : Bytes) (js : List Bytes). k ∷ js) i (one_list h ∙ ap (λ (k : Bytes). keys_of p (k ∷ used) es) i)

-- ---- the whole

abbrev map_of : Bytes → Bytes → List S.Stand → List Member
map_of x p ts = S.where_any x (S.under_keys (keys_of p (S.ids_in (S.all_of (S.entry_in x) ts)) (S.all_of (S.entry_in x) ts)) (S.all_of (S.entry_in x) ts))

one_map : (x p : Bytes) (ts : List S.Stand) (ms : List Member) → S.MapOf ts x p ms → ms ≡ map_of x p ts
one_map x p ts ms h = h.whole ∙ ap (λ (ks : List Bytes). S.where_any x (S.under_keys ks (S.all_of (S.entry_in x) ts))) (one_list h.right)

abbrev maps_of : List S.Stand → List Member
maps_of ts =
    flat (map_of (ascii "nicknames") (ascii "NICK") ts ∷ map_of (ascii "emails") (ascii "EMAIL") ts ∷ map_of (ascii "phones") (ascii "PHONE") ts ∷ map_of (ascii "links") (ascii "LINK") ts
    ∷ map_of (ascii "notes") (ascii "NOTE") ts ∷ map_of (ascii "titles") (ascii "TITLE") ts ∷ map_of (ascii "organizations") (ascii "ORG") ts ∷ [])

one-maps : (ts : List S.Stand) (ms : List Member) → S.MapsOf ts ms → ms ≡ maps_of ts
one-maps ts ms h =
    h.whole
    ∙ ap flat (ap₂ ◌∷◌ (one_map _ _ ts _ h.nickname) (ap₂ ◌∷◌ (one_map _ _ ts _ h.email) (ap₂ ◌∷◌ (one_map _ _ ts _ h.phone) (ap₂ ◌∷◌ (one_map _ _ ts _ h.link)
    (ap₂ ◌∷◌ (one_map _ _ ts _ h.note) (ap₂ ◌∷◌ (one_map _ _ ts _ h.title) (ap₂ ◌∷◌ (one_map _ _ ts _ h.organization) refl)))))))

-- one text
pub one-json : (stem : Bytes) (n : ℕ) (ls : List Line) (i j : Bytes) → JsonStands stem n ls i → JsonStands stem n ls j → i ≡ j
one-json stem n ls i j a b =
    let e : a.stands ≡ b.stands = same-stands [] ls a.stands b.stands a.each_line b.each_line a.reasons b.reasons in
    let m : a.maps ≡ b.maps = one-maps a.stands a.maps a.maps-are ∙ ap maps_of e ∙ sym (one-maps b.stands b.maps b.maps-are) in
    a.text ∙ ap₂ (λ (ts : List S.Stand) (ms : List Member). compact (object (S.json_of stem n ts ms))) e m ∙ sym b.text

-- Whatever two converters meet demand 2: where the first gives JSON for a card that 01 accepts, it is 01's.
pub only-json : (f : (stem : Bytes) (n lent : ℕ) (card : Bytes) → Answer) (g : (lent : ℕ) (json : Bytes) → Answer) → Demand2 f g
    → (stem : Bytes) (n lent lent' : ℕ) (s i j : Bytes) → card_to_json stem n lent s ≡ yes i → f stem n lent' s ≡ yes j → j ≡ i
only-json f g d stem n lent lent' s i j a b = one-json stem n (lines s) j i (d.json-stands stem n lent' s j b) (card-stands stem n lent s i a)
