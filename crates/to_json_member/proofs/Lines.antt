-- What a JSPROP line's class says of its pointer and its value.
use mathlib.Core.Path.{◌≡◌, refl, sym, ap, ◌∙◌}
use mathlib.Core.Bool.{Bool, true, false, ◌&&◌, ◌||◌, not}
use mathlib.Core.List.{List, [], ◌∷◌, ◌++◌, map, append-nil}
use mathlib.Core.Option.{Option, none, some}
use Prim.Native.Nat.{ℕ, suc, ◌-◌, ◌≤◌}
use native.Mathlib.Omega.{arith}
use lib.Dec.{eqb}
use lib.ListN.{length, take, drop, get_or, length-append, length-take, length-drop}
use lib.Seq.{take_at}
use Rattle.text.specs.Choice.{pick, with-some, chain, provided}
use Rattle.text.specs.Bytes.{Bytes, ascii, same, among, lowered, keep, flat}
use Rattle.text.proofs.Cases.{by_bool}
use Rattle.text.proofs.Choices.{provided-inv, chain-inv, some_same, none-some}
use Rattle.line.specs.Grammar.{Param, Line, param_name, param_values}
use Rattle.line.specs.Params.{named, values_named, only_named, besides_value}
use Rattle.line.specs.Text.{push, escaped, text_from, read_text}
use Rattle.json_text.specs.Tree.{Json, member}
use Rattle.json_text.specs.Read.{Reading, tree, refused, reading}
use Rattle.json_text.specs.Compact.{spelled_all, quoted, written, compact}
use Rattle.line_text.specs.Read.{plain_text}
use Rattle.output.specs.Put.{Puts}
use Rattle.output.specs.Put.{Wrote, full}
use Rattle.std.specs.Prelude.{Ok, Err}
use Rattle.output.proofs.Laws.{said-bytes, said-full, put-fits}
use Rattle.json_compact.specs.Squeezed.{squeezed}
use Rattle.json_compact.proofs.Text.{squeezed-compact}
use Rattle.convert.specs.Table.{reserved, position}
use Rattle.convert.specs.Pointer.{pointed}
use Rattle.convert.specs.Classify.{Seen, as_member, as-kept, bare, sole, tree_of, member_name, member_value, member_class}
use Rattle.line_table.specs.Table.{part, line_in}
use Rattle.convert_params.specs.Row.{kind_of, is_kind, values_kind, First, Row}
use Rattle.convert_entry.proofs.Named.{kind-same}
use Rattle.to_json_kept_values.proofs.Names.{values-besides}
use Rattle.convert_put.specs.Pieces.{member_bytes}
use Rattle.convert_pointer.specs.Name.{name_in, Pointing}
use Rattle.convert_pointer.proofs.Pointers.{is-pointing, is_name}

-- ---- the class

pub record Pointed (l : Line) (n : Bytes) (j : Json) : Type 0 where
  pub pointer : Bytes
  pub text : Bytes
  pub sole-is : values_named (ascii "jsptr") (besides_value l.params) ≡ pointer ∷ []
  pub name-is : pointed pointer ≡ some n
  pub text-is : read_text l.value ≡ some text
  pub tree_is : reading 15 text ≡ tree j

same-member : {n m : Bytes} {i j : Json} → as_member n i ≡ as_member m j → (n ≡ m) × (i ≡ j)
same-member e = (cc, cc)

class-inv : (o : Option Bytes) (v : Option Json) (n : Bytes) (j : Json) → with-some o (λ m. with-some v (as_member m) as-kept) as-kept ≡ as_member n j → (o ≡ some n) × (v ≡ some j)
class-inv (some m) (some i) n j e = (ap some (same-member e).0, ap some (same-member e).1)
class-inv (some m) none n j e = absurd (let z : ◌≡◌ {A = ℕ} 0 1 = cc in omega arith)
class-inv none v n j e = absurd (let z : ◌≡◌ {A = ℕ} 0 1 = cc in omega arith)

sole-inv : (vs : List Bytes) (p : Bytes) → sole vs ≡ some p → vs ≡ p ∷ []
sole-inv [] p e = none-some e
sole-inv (v ∷ []) p e = ap (λ x. x ∷ []) (some_same e)
sole-inv (v ∷ (w ∷ ws)) p e = none-some e

tree-inv : (r : Reading) (j : Json) → tree_of r ≡ some j → r ≡ tree j
tree-inv (tree k) j e = ap tree (some_same e)
tree-inv (refused n) j e = none-some e

pub pointed-of : (s : Seen) (l : Line) (n : Bytes) (j : Json) → member_class s l ≡ as_member n j → Pointed l n j
unfolding member_class member_name member_value
pointed-of s l n j e =
    let ps : List Param = besides_value l.params in
    let a = class-inv (provided (bare l) (member_name s ps)) (member_value l.value) n j e in
    let b = provided-inv (bare l) (member_name s ps) a.0 in
    let c = chain-inv (provided (only_named (ascii "jsptr" ∷ []) ps) (sole (values_named (ascii "jsptr") ps))) (λ p. chain (pointed p) λ n. provided (not (among n reserved) && not (among n s.members)) (some n)) b.1 in
    let d = provided-inv (only_named (ascii "jsptr" ∷ []) ps) (sole (values_named (ascii "jsptr") ps)) c.1 in
    let f = chain-inv (pointed c.0) (λ n. provided (not (among n reserved) && not (among n s.members)) (some n)) c.2 in
    let g = provided-inv (not (among f.0 reserved) && not (among f.0 s.members)) (some f.0) f.2 in
    let h = chain-inv (read_text l.value) (λ t. tree_of (reading 15 t)) a.1 in
    record {
      pointer = c.0;
      text = h.0;
      sole-is = sole-inv (values_named (ascii "jsptr") ps) c.0 d.1;
      name-is = f.1 ∙ g.1;
      text-is = h.1;
      tree_is = tree-inv (reading 15 h.0) j h.2;
    }

-- ---- the pointer's place

keep_same : {A : Type 0} (p q : A → Bool) → ((x : A) → p x ≡ q x) → (xs : List A) → keep p xs ≡ keep q xs
unfolding keep
keep_same p q h [] = refl
keep_same p q h (x ∷ xs) = ap (λ b. pick b (x ∷ keep p xs) (keep p xs)) (h x) ∙ ap (λ l. pick (q x) (x ∷ l) l) (keep_same p q h xs)

kind-jsptr : kind_of (ascii "jsptr") ≡ 4
unfolding kind_of position same
kind-jsptr = refl

is-jsptr : (p : Param) → is_kind 4 p ≡ named (ascii "jsptr") p
unfolding is_kind named
is-jsptr p = kind-same 4 (lowered (param_name p)) (ascii "jsptr") (omega arith) kind-jsptr refl

not-value : same (ascii "jsptr") (ascii "value") ≡ false
unfolding same
not-value = refl

pointers : (ps : List Param) → values_kind 4 ps ≡ values_named (ascii "jsptr") (besides_value ps)
unfolding values_kind values_named
pointers ps = ap (λ l. flat (map param_values l)) (keep_same (is_kind 4) (named (ascii "jsptr")) is-jsptr ps) ∙ sym (values-besides (ascii "jsptr") ps not-value)

row : (n : Bytes) (j : Json) → flat ((34 ∷ []) ∷ spelled_all n ∷ (34 ∷ 58 ∷ []) ∷ compact j ∷ []) ≡ member_bytes (member n j)
unfolding flat member_bytes quoted compact
row n j = ap (λ (x : Bytes). 34 ∷ (spelled_all n ++ (34 ∷ 58 ∷ x))) (append-nil (written j []))

module _ (s : Bytes) (t : List ℕ) {C F T : List ℕ} (r : Row s C F T (line_in s t).params) {n : Bytes} {j : Json} (x : Pointed (line_in s t) n j) where
  sole-kind : values_kind 4 (line_in s t).params ≡ x.pointer ∷ []
  sole-kind = pointers (line_in s t).params ∙ x.sole-is

  pub first-pointer : First s (get_or F 4 0) (get_or T 4 0) (values_kind 4 (line_in s t).params)
  first-pointer = (r.held 4 (omega arith)).first (let z : get_or C 4 0 ≡ 1 = (r.held 4 (omega arith)).count ∙ ap length sole-kind in omega arith)

  pub pointer-here : part s (get_or F 4 0) (get_or T 4 0) ≡ x.pointer
  pointer-here = head-same (sym first-pointer.is ∙ sole-kind)
    where
      head-same : {a b : Bytes} {us vs : List Bytes} → a ∷ us ≡ b ∷ vs → a ≡ b
      head-same e = cc

  points-here : pointed (part s (get_or F 4 0) (get_or T 4 0)) ≡ some n
  points-here = ap pointed pointer-here ∙ x.name-is

  pub pointing-here : Pointing (part s (get_or F 4 0) (get_or T 4 0))
  pointing-here = is-pointing _ n points-here

  name-here : name_in (part s (get_or F 4 0) (get_or T 4 0)) ≡ n
  name-here = is_name _ n points-here

  -- ---- the value

  value-plain : plain_text (part s (get_or t 4 0) (get_or t 5 0)) ≡ x.text
  unfolding plain_text line_in
  value-plain = ap (λ o. with-some o (λ m. m) []) x.text-is

  pub member-bytes : (u : Bytes) → u ≡ plain_text (part s (get_or t 4 0) (get_or t 5 0))
      → flat ((34 ∷ []) ∷ spelled_all (name_in (part s (get_or F 4 0) (get_or T 4 0))) ∷ (34 ∷ 58 ∷ []) ∷ squeezed u ∷ []) ≡ member_bytes (member n j)
  member-bytes u e =
      ap (λ m. flat ((34 ∷ []) ∷ spelled_all m ∷ (34 ∷ 58 ∷ []) ∷ squeezed u ∷ [])) name-here
      ∙ ap (λ y. flat ((34 ∷ []) ∷ spelled_all n ∷ (34 ∷ 58 ∷ []) ∷ y ∷ [])) (ap squeezed (e ∙ value-plain) ∙ squeezed-compact 15 x.text j x.tree_is)
      ∙ row n j

-- ---- the scratch

short-push : (c : ℕ) (o : Option Bytes) (t : Bytes) (m : ℕ) → push c o ≡ some t → ((u : Bytes) → o ≡ some u → length u ≤ m) → length t ≤ suc m
short-push c none t m e h = none-some e
short-push c (some u) t m e h = let z : length t ≡ suc (length u) = ap length (sym (some_same e)) in omega (arith, h u refl)

short_escape : (c : ℕ) (o : Option Bytes) (t : Bytes) (m : ℕ) → escaped c o ≡ some t → ((u : Bytes) → o ≡ some u → length u ≤ m) → length t ≤ suc m
unfolding escaped
short_escape c o t m e h =
    by_bool (eqb c 92 || eqb c 44 || eqb c 59)
    (λ b. short-push c o t m (rw b at e) h)
    (λ b. by_bool (eqb c 110 || eqb c 78) (λ d. short-push 10 o t m (rw (b, d) at e) h) (λ d. none-some (rw (b, d) at e)))

short : (b : Bool) (s t : Bytes) → text_from b s ≡ some t → length t ≤ length s
unfolding text_from
short true [] t e = none-some e
short false [] t e = let z : length t ≡ 0 = ap length (sym (some_same e)) in omega arith
short true (c ∷ s) t e = short_escape c (text_from false s) t (length s) e (λ u q. short false s u q)
short false (c ∷ s) t e =
    by_bool (eqb c 92)
    (λ b. let h : length t ≤ length s = short true s t (rw b at e) in omega arith)
    (λ b. short-push c (text_from false s) t (length s) (rw b at e) (λ u q. short false s u q))

plain-short : (v : Bytes) → length (plain_text v) ≤ length v
unfolding plain_text read_text
plain-short v = by (text_from false v) refl
  where
    by : (o : Option Bytes) → text_from false v ≡ o → length (with-some o (λ t. t) []) ≤ length v
    by (some t) e = short false v t e
    by none e = omega arith

pub never-full : {P : Type 0} (room v : Bytes) {r : Wrote} {out : Bytes} → Puts room (plain_text v) r out → length v ≤ length room → r ≡ (Err full) → P
never-full room v p l e = absurd (omega (arith, said-full room (plain_text v) (sym p.said ∙ e), plain-short v))

pub scratch-holds : (room v : Bytes) {r : Wrote} {out : Bytes} (k : ℕ) → Puts room (plain_text v) r out → r ≡ Ok k → (take (k - 0) out ≡ plain_text v) × (k ≤ length out)
scratch-holds room v {out = out} k p e =
    let q = said-bytes room (plain_text v) k (sym p.said ∙ e) in
    let z : k - 0 ≡ length (plain_text v) = omega (arith, q.0) in
    let w : out ≡ plain_text v ++ drop (length (plain_text v)) room = p.left ∙ put-fits room (plain_text v) (omega (arith, q.0, q.1)) in
    (ap (λ m. take m out) z ∙ ap (take (length (plain_text v))) w ∙ take_at (plain_text v) (drop (length (plain_text v)) room) (length (plain_text v)) refl, omega (arith, q.0, ap length w, length-append (plain_text v) (drop (length (plain_text v)) room)))

pub value-fits : (s : Bytes) (a b : ℕ) {m : ℕ} → length s ≤ m → length (part s a b) ≤ m
value-fits s a b h = simp (length-take, length-drop) (omega arith)
