-- The parameters of a kept line, row by row.
use mathlib.Core.Path.{◌≡◌, refl, sym, ap, ◌∙◌}
use mathlib.Core.Bool.{Bool, true, false, ◌||◌, ◌&&◌, not}
use mathlib.Core.List.{List, [], ◌∷◌, ◌++◌, map, map-append, append-nil, append_assoc}
use Prim.Native.Nat.{ℕ, zero, suc, ◌+◌, ◌-◌, ◌≤◌, ◌<◌}
use native.Mathlib.Omega.{arith}
use lib.ListN.{get_or}
use Rattle.text.specs.Choice.{pick}
use Rattle.text.specs.Bytes.{Bytes, ascii, same, lowered, empty, flat, any, keep}
use Rattle.json_text.specs.Tree.{Json, Member, member}
use Rattle.json_text.specs.Compact.{quoted, written}
use Rattle.line.specs.Grammar.{param}
use Rattle.line.specs.Params.{values_named, besides_value, lacking, named}
use Rattle.convert.specs.FromCard.{kept_line}
use Rattle.convert.specs.ToJson.{values_json, param_json}
use Rattle.convert_put.specs.Pieces.{member_bytes, inside}
use Rattle.convert_put.proofs.Compact.{quoted-append, inside-append}
use Rattle.output.specs.Put.{Puts, Sofar}
use Rattle.std.specs.Prelude.{Ok, Err}
use Rattle.output.specs.Put.{full}
use Rattle.output.proofs.Laws.{start, done, more, puts-as, sofar-as}
use Rattle.line_table.specs.Table.{name_at, rows_in, line_in}
use Rattle.line_table.specs.Spread.{names_of}
use Rattle.line_table.proofs.Rows.{rows_none, line-rows}
use Rattle.to_json_kept_values.specs.Kept.{has_member}
use Rattle.to_json_kept_values.proofs.Names.{kept-names-more, kept-params, values-besides}
use Rattle.to_json_kept.specs.Entry.{param_piece}

-- ---- the names so far

abbrev pub names : Bytes → List ℕ → ℕ → List Bytes
names s t k = names_of (besides_value (rows_in s t k))

abbrev pub member_of : Bytes → List ℕ → Bytes → Member
member_of s t n = member n (values_json (values_named n (besides_value (line_in s t).params)))

-- the members of the first k rows
abbrev pub members : Bytes → List ℕ → ℕ → List Member
members s t k = map (member_of s t) (names s t k)

names-on : (s : Bytes) (t : List ℕ) (k d m : ℕ) → m ≡ d + k → (rest : List Bytes) × (names s t m ≡ names s t k ++ rest)
names-on s t k zero m e = let z : m ≡ k = omega arith in ([], ap (names s t) z ∙ sym (append-nil (names s t k)))
names-on s t k (suc d) m e =
    let q = names-on s t k d (d + k) refl in
    let z : m ≡ (d + k) + 1 = omega arith in
    let one : List Bytes = pick (has_member s t (d + k)) (lowered (name_at s t (d + k)) ∷ []) [] in (
      q.0 ++ one,
      ap (names s t) z ∙ kept-names-more s t (d + k) ∙ ap (λ (l : List Bytes). l ++ one) q.1 ∙ append_assoc (names s t k) q.0 one,
    )

no_names : (s : Bytes) (t : List ℕ) → names s t 0 ≡ []
unfolding besides_value lacking keep names_of
no_names s t = ap (λ ps. names_of (besides_value ps)) (rows_none s t)

-- ---- one member more

or-false : (b : Bool) → b || false ≡ b
or-false true = refl
or-false false = refl

picked : (on : Bool) (f : Bytes → Member) (x : Bytes) → map f (pick on (x ∷ []) []) ≡ pick on (f x ∷ []) []
picked true f x = refl
picked false f x = refl

members-more : (s : Bytes) (t : List ℕ) (k : ℕ) (on : Bool) → on ≡ has_member s t k
    → members s t (k + 1) ≡ members s t k ++ pick on (member_of s t (lowered (name_at s t k)) ∷ []) []
members-more s t k on e =
    ap (map (member_of s t)) (kept-names-more s t k ∙ ap (λ b. names s t k ++ pick b (lowered (name_at s t k) ∷ []) []) (sym e))
    ∙ map-append (member_of s t) (names s t k) (pick on (lowered (name_at s t k) ∷ []) [])
    ∙ ap (λ l. members s t k ++ l) (picked on (member_of s t) (lowered (name_at s t k)))

not-value : (v a : Bool) → not v && a ≡ true → v ≡ false
not-value true a e = sym e
not-value false a e = refl

member-piece : (b : Bool) (x : Bytes) (j : Json) → flat (pick b (44 ∷ []) [] ∷ quoted x [] ∷ (58 ∷ []) ∷ written j [] ∷ []) ≡ pick b (44 ∷ []) [] ++ (member_bytes (member x j) ++ [])
unfolding flat member_bytes
member-piece b x j =
    ap (λ (l : Bytes). pick b (44 ∷ []) [] ++ l)
    (ap (λ (l : Bytes). quoted x [] ++ (58 ∷ l)) (append-nil (written j []))
    ∙ sym (quoted-append x [] (58 ∷ written j []))
    ∙ sym (append-nil (quoted x (58 ∷ written j []))))

inside_one : (b on : Bool) (s : Bytes) (t : List ℕ) (k : ℕ) → on ≡ has_member s t k
    → inside b (pick on (member_of s t (lowered (name_at s t k)) ∷ []) []) ≡ pick on (param_piece b s t (name_at s t k)) []
unfolding inside
inside_one b true s t k e =
    let x : Bytes = lowered (name_at s t k) in
    let n : same x (ascii "value") ≡ false = not-value (same x (ascii "value")) (not (any (named x) (rows_in s t k))) (sym e) in
    ap (λ vs. pick b (44 ∷ []) [] ++ (member_bytes (member x (values_json vs)) ++ [])) (values-besides x (line_in s t).params n)
    ∙ sym (member-piece b x (values_json (values_named x (line_in s t).params)))
inside_one b false s t k e = refl

begun_more : (g : Bool) (ms : List Member) (on : Bool) (m : Member) → (g || not (empty ms)) || on ≡ g || not (empty (ms ++ pick on (m ∷ []) []))
begun_more true ms on m = refl
begun_more false [] true m = refl
begun_more false [] false m = refl
begun_more false (u ∷ ms) on m = refl

-- ---- the loop

pub record Going (s : Bytes) (t : List ℕ) (grouped : Bool) (out₀ : List ℕ) (n : ℕ) (out : List ℕ) (at k : ℕ) (begun : Bool) : Type 0 where
  pub upto : k ≤ n
  pub so : Sofar out₀ (inside grouped (members s t k)) at out
  pub is : begun ≡ grouped || not (empty (members s t k))

pub going_start : (s : Bytes) (t : List ℕ) (g : Bool) (out : List ℕ) (n : ℕ) → Going s t g out n out 0 0 g
unfolding inside
going_start s t g out n = record {
  upto = omega arith;
  so = sofar-as (sym (ap (λ l. inside g (map (member_of s t) l)) (no_names s t))) (start out);
  is = sym (ap (λ l. g || not (empty (map (member_of s t) l))) (no_names s t) ∙ or-false g);
}

whole-params : (s : Bytes) (t : List ℕ) → members s t (get_or t 6 0) ≡ map param_json (kept_line (line_in s t)).params
whole-params s t =
    ap (λ ps. map (member_of s t) (names_of (besides_value ps))) (sym (line-rows s t))
    ∙ named-params (names_of (besides_value (line_in s t).params))
    ∙ ap (map param_json) (sym (kept-params s t))
  where
    named-params : (ns : List Bytes) → map (member_of s t) ns ≡ map param_json (map (λ n. param n (values_named n (besides_value (line_in s t).params))) ns)
    named-params [] = refl
    named-params (n ∷ ns) = ap (λ l. member_of s t n ∷ l) (named-params ns)

module _ (s : Bytes) (t : List ℕ) {g : Bool} {out₀ : List ℕ} {n : ℕ} {out : List ℕ} {at k : ℕ} {begun : Bool} (h : Going s t g out₀ n out at k begun) (l : k < n)
    (on : Bool) (e : on ≡ has_member s t k) where
  abbrev piece : Bytes
  piece = pick on (param_piece begun s t (name_at s t k)) []

  one_more : inside g (members s t k) ++ piece ≡ inside g (members s t (k + 1))
  one_more =
      sym (ap (inside g) (members-more s t k on e)
      ∙ inside-append g (members s t k) (pick on (member_of s t (lowered (name_at s t k)) ∷ []) [])
      ∙ ap (λ c. inside g (members s t k) ++ inside c (pick on (member_of s t (lowered (name_at s t k)) ∷ []) [])) (sym h.is)
      ∙ ap (λ (p : Bytes). inside g (members s t k) ++ p) (inside_one begun on s t k e))

  pub going_on : {at' : ℕ} {out' : List ℕ} → Sofar out₀ (inside g (members s t k) ++ piece) at' out' → Going s t g out₀ n out' at' (k + 1) (begun || on)
  going_on so = record {
    upto = omega arith;
    so = sofar-as one_more so;
    is =
        ap (λ b. b || on) h.is
        ∙ begun_more g (members s t k) on (member_of s t (lowered (name_at s t k)))
        ∙ sym (ap (λ ms. g || not (empty ms)) (members-more s t k on e));
  }

  pub going-full : {out' : List ℕ} → Puts out₀ (inside g (members s t k) ++ piece) (Err full) out' → n ≡ get_or t 6 0
      → Puts out₀ (inside g (map param_json (kept_line (line_in s t)).params)) (Err full) out'
  going-full p is =
      let z : get_or t 6 0 ≡ (n - (k + 1)) + (k + 1) = omega (arith, is) in
      let q = names-on s t (k + 1) (n - (k + 1)) (get_or t 6 0) z in
      let ms : List Member = members s t (k + 1) in
      let rest : List Member = map (member_of s t) q.0 in
      let w : members s t (get_or t 6 0) ≡ ms ++ rest = ap (map (member_of s t)) q.1 ∙ map-append (member_of s t) (names s t (k + 1)) q.0 in
      puts-as (ap (λ (x : Bytes). x ++ inside (g || not (empty ms)) rest) one_more ∙ sym (inside-append g ms rest) ∙ ap (inside g) (sym w ∙ whole-params s t))
      (more (inside (g || not (empty ms)) rest) p)

pub going-all : (s : Bytes) (t : List ℕ) {g : Bool} {out₀ : List ℕ} {n : ℕ} {out : List ℕ} {at k : ℕ} {begun : Bool} → Going s t g out₀ n out at k begun → n ≤ k → n ≡ get_or t 6 0
    → Puts out₀ (inside g (map param_json (kept_line (line_in s t)).params)) (Ok at) out
going-all s t {g = g} {n = n} {k = k} h l is =
    let z : k ≡ get_or t 6 0 = omega (arith, h.upto) in
    puts-as (ap (inside g) (ap (members s t) z ∙ whole-params s t)) (done h.so)

-- ---- whether a row begins a parameter

pub is-value : (s : Bytes) (t : List ℕ) (k : ℕ) {v : Bool} → v ≡ same (lowered (name_at s t k)) (ascii "value") → v ≡ true → false ≡ has_member s t k
is-value s t k e f = sym (ap (λ b. not b && not (any (named (lowered (name_at s t k))) (rows_in s t k))) (sym e ∙ f))

pub is-other : (s : Bytes) (t : List ℕ) (k : ℕ) {v r : Bool} → v ≡ same (lowered (name_at s t k)) (ascii "value") → v ≡ false
    → r ≡ not (any (named (lowered (name_at s t k))) (rows_in s t k)) → r ≡ has_member s t k
is-other s t k e f g = g ∙ sym (ap (λ b. not b && not (any (named (lowered (name_at s t k))) (rows_in s t k))) (sym e ∙ f))
