-- The components as an array, and the member `name`.
use mathlib.Core.Path.{◌≡◌, refl, sym, ap, ◌∙◌}
use mathlib.Core.Bool.{Bool, true, false, ◌||◌, not}
use mathlib.Core.List.{List, [], ◌∷◌, ◌++◌, map, append_assoc, append-nil}
use mathlib.Core.Option.{Option, none, some}
use Prim.Native.Nat.{ℕ, suc, ◌+◌, ◌-◌, ◌≤◌, ◌<◌}
use native.Mathlib.Omega.{arith}
use native.Mathlib.Numerals.{add-one}
use lib.Dec.{ltb}
use lib.ListN.{length}
use borrow.Author.Tests.{lt-ltb}
use borrow.Rule.Slice.PartMut.{mid_of, put_mid}
use Rattle.text.specs.Choice.{pick, is_some, with-some}
use Rattle.text.specs.Bytes.{Bytes, ascii, empty, flat}
use Rattle.line.specs.Text.{read_text}
use Rattle.json_text.specs.Tree.{Json, Member, member, object, array, jstr, from_members}
use Rattle.json_text.specs.Compact.{spelled, spelled_all, quoted, written, written_members, members_after}
use Rattle.output.specs.Put.{Puts, Rest}
use Rattle.output.specs.Put.{Wrote, full}
use Rattle.std.specs.Prelude.{Ok, Err}
use Rattle.output.proofs.Laws.{said-bytes}
use Rattle.output.proofs.Rests.{rest-as, rest-next, rest-stop}
use Rattle.line_text.specs.Read.{plain_text}
use Rattle.convert.specs.Table.{component_kinds}
use Rattle.convert.specs.Model.{has_parts, no_parts}
use Rattle.convert.specs.Value.{read_name}
use Rattle.convert.specs.ToJson.{where', where_some, components_of, name_json}
use Rattle.convert.proofs.CardParts.{has-no-parts}
use Rattle.home.proofs.NormalCardParts.{name-read}
use Rattle.convert_put.specs.Pieces.{member_bytes, inside, after}
use Rattle.convert_put.proofs.Compact.{quoted-append, inside-append, inside-object}
use Rattle.to_json_items.specs.Items.{lead, opening, listed, elems}
use Rattle.convert_values.proofs.Texts.{plain-is}
use Rattle.to_json_items.proofs.Arrays.{elems-append, array-bytes, Item, all-items, listed-some}
use Rattle.to_json_name.specs.Name.{values_of, components_from, NameSound, full_piece, parts_piece, NamesSound, full_of, parts_of, name_bytes}
use Rattle.to_json_name.proofs.Parts.{name-seven}

-- ---- one component

abbrev comp : Bytes → Bytes → Json
comp κ t = object (member (ascii "kind") (jstr κ) ∷ member (ascii "value") (jstr t) ∷ [])

three : (a b c y : Bytes) → flat (a ∷ b ∷ c ∷ []) ++ y ≡ a ++ (b ++ (c ++ y))
unfolding flat
three a b c y = simp (append-nil, append_assoc)

spelled-comp : (κ t : Bytes) → written (comp κ t) [] ≡ ascii "{\"kind\":" ++ quoted κ (ascii ",\"value\":" ++ quoted t (125 ∷ []))
unfolding written written_members members_after from_members quoted spelled_all spelled
spelled-comp κ t = refl

comp-is : (κ t : Bytes) → written (comp κ t) [] ≡ flat (ascii "{\"kind\":" ∷ quoted κ [] ∷ ascii ",\"value\":" ∷ []) ++ (quoted t [] ++ (125 ∷ []))
comp-is κ t =
    spelled-comp κ t
    ∙ ap (λ (x : Bytes). ascii "{\"kind\":" ++ x) (quoted-append κ [] (ascii ",\"value\":" ++ quoted t (125 ∷ [])))
    ∙ ap (λ (x : Bytes). ascii "{\"kind\":" ++ (quoted κ [] ++ (ascii ",\"value\":" ++ x))) (quoted-append t [] (125 ∷ []))
    ∙ sym (three (ascii "{\"kind\":") (quoted κ []) (ascii ",\"value\":") (quoted t [] ++ (125 ∷ [])))

-- ---- kinds and parts go together

abbrev Tied : Bytes → ℕ → List Bytes → List (List Bytes) → Type 0
Tied v k [] ps = Unit {0}
Tied v k (κ ∷ ks) [] = ⊥
Tied v k (κ ∷ ks) (p ∷ ps) = (p ≡ values_of v k) × ((Item k (comp κ) × (opening k ≡ [])) × Tied v (suc k) ks ps)

map-empty : (f : Bytes → Json) (ts : List Bytes) → empty (map f ts) ≡ empty ts
map-empty f [] = refl
map-empty f (t ∷ ts) = refl

tied-bytes : (v : Bytes) (k : ℕ) (ks : List Bytes) (ps : List (List Bytes)) (b : Bool) → Tied v k ks ps → elems b (components_of ks ps) ≡ components_from (length ks) v k b
unfolding components_of components_from elems
tied-bytes v k [] ps b x = refl
tied-bytes v k (κ ∷ ks) [] b x = absurd x
tied-bytes v k (κ ∷ ks) (p ∷ ps) b x =
    elems-append b (map (comp κ) p) (components_of ks ps)
    ∙ ap (λ c. elems b (map (comp κ) p) ++ elems (b || not c) (components_of ks ps)) (map-empty (comp κ) p)
    ∙ ap (λ (l : Bytes). l ++ elems (b || not (empty p)) (components_of ks ps)) (sym (all-items k (comp κ) x.1.0.0 x.1.0.1 b p))
    ∙ ap (λ (l : Bytes). listed k b p ++ l) (tied-bytes v (suc k) ks ps (b || not (empty p)) x.1.1)
    ∙ ap (λ q. listed k b q ++ components_from (length ks) v (suc k) (b || not (empty q))) x.0

seven-tied : (v : Bytes) → Tied v 0 component_kinds (values_of v 0 ∷ values_of v 1 ∷ values_of v 2 ∷ values_of v 3 ∷ values_of v 4 ∷ values_of v 5 ∷ values_of v 6 ∷ [])
unfolding lead opening
seven-tied v = (
  refl,
  (
    (comp-is (ascii "surname"), refl),
    (
      refl,
      (
        (comp-is (ascii "given"), refl),
        (
          refl,
          (
            (comp-is (ascii "given2"), refl),
            (
              refl,
              (
                (comp-is (ascii "title"), refl),
                (refl, ((comp-is (ascii "credential"), refl), (refl, ((comp-is (ascii "surname2"), refl), (refl, ((comp-is (ascii "generation"), refl), tt)))))),
              ),
            ),
          ),
        ),
      ),
    ),
  ),
)

pub components-bytes : (v : Bytes) (ps : List (List Bytes)) → read_name v ≡ some ps
    → flat ((91 ∷ []) ∷ components_from 7 v 0 false ∷ (93 ∷ []) ∷ []) ≡ written (array (components_of component_kinds ps)) []
unfolding flat
components-bytes v ps e =
    sym (ap (λ l. written (array (components_of component_kinds l)) []) (name-seven v ps e).is
    ∙ array-bytes (components_of component_kinds _) []
    ∙ ap (λ (x : Bytes). 91 ∷ (x ++ (93 ∷ []))) (tied-bytes v 0 component_kinds _ false (seven-tied v)))

some_of : {A : Type 0} (o : Option A) → is_some o ≡ true → (a : A) × (o ≡ some a)
some_of (some a) e = (a, refl)
some_of none e = absurd (let z : ◌≡◌ {A = ℕ} 0 1 = cc in omega arith)

pub good-name : (v : Bytes) → is_some (read_name v) ≡ true → NameSound v
good-name v e = let q = some_of (read_name v) e in (name-seven v q.0 q.1).good

-- ---- the loop over the parts

turn : (v : Bytes) (k : ℕ) (b : Bool) → k < 7 → components_from (7 - k) v k b ≡ listed k b (values_of v k) ++ components_from (7 - (k + 1)) v (k + 1) (b || not (empty (values_of v k)))
unfolding components_from
turn v k b l = let e : 7 - k ≡ suc (7 - (k + 1)) = omega arith in rw (e, add-one)

pub no-parts : (v : Bytes) (k : ℕ) (b : Bool) → 7 ≤ k → components_from (7 - k) v k b ≡ []
unfolding components_from
no-parts v k b l = let e : 7 - k ≡ 0 = omega arith in rw e

none-listed : (k : ℕ) (b : Bool) → length (listed k b []) ≡ 0
unfolding listed
none-listed k b = refl

some_written : (k : ℕ) (b : Bool) (vs : List Bytes) (n : ℕ) → n ≡ length (listed k b vs) → not (empty vs) ≡ ltb 0 n
some_written k b [] n e = sym (ap (ltb 0) (e ∙ none-listed k b))
some_written k b (t ∷ ts) n e = sym (lt-ltb 0 n (omega (arith, e, listed-some k b t ts)))

module _ (v : Bytes) (k : ℕ) (b : Bool) (l : k < 7) {room whole out last : Bytes} {at : ℕ} {r : Wrote} (h : Rest room whole (components_from (7 - k) v k b) at out)
    (w : Puts (mid_of at (length out - at) out) (listed k b (values_of v k)) r last) where
  abbrev later : Bytes
  later = components_from (7 - (k + 1)) v (k + 1) (b || not (empty (values_of v k)))

  pub parts-full : r ≡ (Err full) → Puts room whole (Err full) (put_mid at (length out - at) out last)
  parts-full e = rest-stop later (rest-as (turn v k b l) h) w e

  pub parts-on : (n : ℕ) → r ≡ Ok n → Rest room whole (components_from (7 - (k + 1)) v (k + 1) (b || ltb 0 n)) (at + n) (put_mid at (length out - at) out last)
  parts-on n e =
      rest-as (ap (λ c. components_from (7 - (k + 1)) v (k + 1) (b || c))
      (some_written k b (values_of v k) n (said-bytes (mid_of at (length out - at) out) (listed k b (values_of v k)) n (sym w.said ∙ e)).0))
      (rest-next later (rest-as (turn v k b l) h) w e)

-- ---- the member

abbrev fulls : Option Bytes → List Member
fulls o = where_some o (λ v. member (ascii "full") (jstr v))

full-read : (v : Bytes) (o : Option Bytes) → read_text v ≡ o → is_some o ≡ true → (inside false (fulls o) ≡ full_piece true v) × (not (empty (fulls o)) ≡ true)
unfolding inside member_bytes full_piece written flat quoted spelled_all spelled
full-read v (some t) e g = (ap (λ x. ascii "\"full\":" ++ (quoted x [] ++ [])) (sym (plain-is v t e)), refl)
full-read v none e g = absurd (let z : ◌≡◌ {A = ℕ} 0 1 = cc in omega arith)

full-members : (full : Bool) (v : Bytes) → (full ≡ true → is_some (read_text v) ≡ true) → (inside false (fulls (full_of full v)) ≡ full_piece full v) × (not (empty (fulls (full_of full v))) ≡ full)
unfolding inside full_piece
full-members true v g = full-read v (read_text v) refl (g refl)
full-members false v g = (refl, refl)

abbrev comps : List (List Bytes) → List Member
comps ps = where' (has_parts ps) (member (ascii "components") (array (components_of component_kinds ps)))

one-comps : (full : Bool) (x : Bytes) (j : Json) → written j [] ≡ x
    → inside full (member (ascii "components") j ∷ []) ≡ flat (pick full (ascii ",\"components\":") (ascii "\"components\":") ∷ x ∷ [])
unfolding inside member_bytes flat quoted spelled_all spelled
one-comps true x j e = ap (λ (y : Bytes). ascii ",\"components\":" ++ (y ++ [])) e
one-comps false x j e = ap (λ (y : Bytes). ascii "\"components\":" ++ (y ++ [])) e

parts-read : (full : Bool) (v : Bytes) (o : Option (List (List Bytes))) → read_name v ≡ o → is_some o ≡ true → inside full (comps (with-some o (λ ps. ps) no_parts)) ≡ parts_piece full true v
unfolding parts_piece
parts-read full v (some ps) e g =
    ap (λ b. inside full (where' b (member (ascii "components") (array (components_of component_kinds ps))))) (name-read v ps e).1
    ∙ one-comps full _ (array (components_of component_kinds ps)) (sym (components-bytes v ps e))
parts-read full v none e g = absurd (let z : ◌≡◌ {A = ℕ} 0 1 = cc in omega arith)

parts-members : (full parts : Bool) (v : Bytes) → (parts ≡ true → is_some (read_name v) ≡ true) → inside full (comps (parts_of parts v)) ≡ parts_piece full parts v
unfolding inside parts_piece
parts-members full true v g = parts-read full v (read_name v) refl (g refl)
parts-members full false v g = ap (λ b. inside full (where' b (member (ascii "components") (array (components_of component_kinds no_parts))))) has-no-parts

named-object : (ms : List Member) → after (member (ascii "name") (object ms) ∷ []) ≡ ascii ",\"name\":{" ++ (inside false ms ++ (125 ∷ []))
unfolding after member_bytes quoted spelled_all spelled
named-object ms = append-nil (44 ∷ (34 ∷ 110 ∷ 97 ∷ 109 ∷ 101 ∷ 34 ∷ 58 ∷ written (object ms) [])) ∙ ap (λ (x : Bytes). ascii ",\"name\":" ++ x) (inside-object ms [])

four : (a b c d : Bytes) → a ++ ((b ++ c) ++ d) ≡ flat (a ∷ b ∷ c ∷ d ∷ [])
unfolding flat
four a b c d = simp (append-nil, append_assoc)

pub name-some : (full : Bool) (fv : Bytes) (parts : Bool) (nv : Bytes) → NamesSound full fv parts nv → full || parts ≡ true
    → flat (ascii ",\"name\":{" ∷ full_piece full fv ∷ parts_piece full parts nv ∷ (125 ∷ []) ∷ []) ≡ name_bytes full fv parts nv
unfolding name_bytes name_json
name-some full fv parts nv g e =
    let f = full-members full fv g.text in
    let F : List Member = fulls (full_of full fv) in
    let P : List Member = comps (parts_of parts nv) in
    sym (ap (λ b. after (where' b (member (ascii "name") (object (F ++ P))))) e
    ∙ named-object (F ++ P)
    ∙ ap (λ (x : Bytes). ascii ",\"name\":{" ++ (x ++ (125 ∷ [])))
    (inside-append false F P ∙ ap (λ (x : Bytes). x ++ inside (not (empty F)) P) f.0 ∙ ap (λ b. full_piece full fv ++ inside b P) f.1
    ∙ ap (λ (x : Bytes). full_piece full fv ++ x) (parts-members full parts nv g.name))
    ∙ four (ascii ",\"name\":{") (full_piece full fv) (parts_piece full parts nv) (125 ∷ []))

pub name-none : (full : Bool) (fv : Bytes) (parts : Bool) (nv : Bytes) → full || parts ≡ false → [] ≡ name_bytes full fv parts nv
unfolding name_bytes after
name-none full fv parts nv e = sym (ap (λ b. after (where' b (member (ascii "name") (name_json (full_of full fv) (parts_of parts nv))))) e)

-- ---- pieces that are there or not

pub full-on : (full : Bool) (v : Bytes) → full ≡ true → flat (ascii "\"full\":" ∷ quoted (plain_text v) [] ∷ []) ≡ full_piece full v
unfolding full_piece
full-on full v e = rw e

pub full-off : (full : Bool) (v : Bytes) → full ≡ false → [] ≡ full_piece full v
unfolding full_piece
full-off full v e = rw e

pub parts-there : (full parts : Bool) (v : Bytes) → parts ≡ true
    → flat (pick full (ascii ",\"components\":") (ascii "\"components\":") ∷ flat ((91 ∷ []) ∷ components_from 7 v 0 false ∷ (93 ∷ []) ∷ []) ∷ []) ≡ parts_piece full parts v
unfolding parts_piece
parts-there full parts v e = rw e

pub parts-off : (full parts : Bool) (v : Bytes) → parts ≡ false → [] ≡ parts_piece full parts v
unfolding parts_piece
parts-off full parts v e = rw e

pub head-after : (full : Bool) → full ≡ true → ascii ",\"components\":" ≡ pick full (ascii ",\"components\":") (ascii "\"components\":")
head-after full e = rw e

pub head_first : (full : Bool) → full ≡ false → ascii "\"components\":" ≡ pick full (ascii ",\"components\":") (ascii "\"components\":")
head_first full e = rw e
