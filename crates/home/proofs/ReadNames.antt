-- What a clean value gives as N: seven parts of filled values, and some value.
use mathlib.Core.Path.{◌≡◌, refl, sym, ap, subst, ◌∙◌}
use mathlib.Core.Bool.{Bool, true, false, ◌&&◌, not}
use mathlib.Core.List.{List, [], ◌∷◌}
use mathlib.Core.Option.{some}
use Prim.Native.Nat.{ℕ, zero, suc, ◌≤◌, ◌<◌}
use native.Mathlib.Omega.{arith}
use lib.ListN.{length}
use lib.Dec.{leb}
use Rattle.text.specs.Choice.{provided}
use Rattle.text.specs.Bytes.{Bytes, any, all, empty, among, keep, each}
use Rattle.text.specs.Utf8.{utf8}
use Rattle.text.proofs.Cases.{by_bool, tests, and-true, or_left, or_right, not-both}
use Rattle.text.proofs.Choices.{some_same, provided-inv, chain-inv, map-inv}
use Rattle.text.proofs.Lists.{keep-passes, each-length, not_full}
use Rattle.line.specs.Text.{read_text, split_text}
use Rattle.convert.specs.Model.{has_parts, part}
use Rattle.convert.specs.Table.{name_row}
use Rattle.convert.specs.Value.{filled, part_values, without, own_parts, read_name, read_parts}
use Rattle.convert.specs.Carry.{carried_text, apart}
use Rattle.convert.proofs.Names.{without-none, full}
use Rattle.home.proofs.Alls.{All, all-test, test-all, all-mono, all_two, all-kept, each-gives}
use Rattle.home.proofs.Clean.{Clean}
use Rattle.home.proofs.CleanTexts.{CleanText, text-clean, split-clean}

abbrev Value : Bytes → Type 0
Value v = CleanText v × (filled v ≡ true)

part-values : (s : Bytes) (vs : List Bytes) → Clean s → part_values s ≡ some vs → All Value vs
unfolding part_values
part-values s vs h e =
    let i = map-inv (keep filled) (each read_text (split_text 44 s)) e in
    let k = each-gives read_text Clean CleanText text-clean (split_text 44 s) i.0 (split-clean 44 s refl h) i.1 in
    subst (All Value) i.2 (all_two CleanText (λ v. filled v ≡ true) (keep filled i.0) (all-kept CleanText filled i.0 k) (test-all filled (keep filled i.0) (keep-passes filled i.0)))

-- ---- parts by number

part-all : (P : Bytes → Type 0) (ps : List (List Bytes)) (i : ℕ) → All (All P) ps → All P (part ps i)
part-all P [] i h = tt
part-all P (p ∷ ps) zero h = h.0
part-all P (p ∷ ps) (suc i) h = part-all P ps i h.1

own-all : (P : Bytes → Type 0) (ps : List (List Bytes)) → All (All P) ps → All (All P) (own_parts name_row ps)
unfolding own_parts without
own-all P ps h =
    (all-kept P _ (part ps 0) (part-all P ps 0 h), (part-all P ps 1 h, (part-all P ps 2 h, (part-all P ps 3 h, (all-kept P _ (part ps 4) (part-all P ps 4 h), (part-all P ps 5 h, (part-all P ps 6 h, tt)))))))

own-apart : (ps : List (List Bytes)) → (apart (part (own_parts name_row ps) 0) (part (own_parts name_row ps) 5) ≡ true) × (apart (part (own_parts name_row ps) 4) (part (own_parts name_row ps) 6) ≡ true)
unfolding own_parts without apart
own-apart ps = (keep-passes (λ v. not (among v (part ps 5))) (part ps 0), keep-passes (λ v. not (among v (part ps 6))) (part ps 4))

-- ---- a value is left

none-full : (ps : List (List Bytes)) (n : ℕ) → length ps ≤ n → ((i : ℕ) → i < n → part ps i ≡ []) → any full ps ≡ false
unfolding any
none-full [] n l h = refl
none-full (p ∷ ps) zero l h = absurd (omega arith)
none-full (p ∷ ps) (suc n) l h =
    let z : p ≡ [] = h 0 (omega arith) in
    rw z (none-full ps n (omega arith) (λ i k. h (suc i) (omega arith)))

still : (ps : List (List Bytes)) → has_parts (own_parts name_row ps) ≡ false → (i : ℕ) → i < 7 → part ps i ≡ []
unfolding has_parts own_parts any
still ps e =
    let a : Bool = full (without (part ps 5) (part ps 0)) in
    let e₁ = or_right a _ e in
    let e₂ = or_right (full (part ps 1)) _ e₁ in
    let e₃ = or_right (full (part ps 2)) _ e₂ in
    let e₄ = or_right (full (part ps 3)) _ e₃ in
    let e₅ = or_right (full (without (part ps 6) (part ps 4))) _ e₄ in
    let e₆ = or_right (full (part ps 5)) _ e₅ in
    let z₅ : part ps 5 ≡ [] = not_full (part ps 5) (or_left (full (part ps 5)) _ e₅) in
    let z₆ : part ps 6 ≡ [] = not_full (part ps 6) (or_left (full (part ps 6)) _ e₆) in
    let z₀ : part ps 0 ≡ [] = sym (without-none (part ps 0)) ∙ ap (λ (x : List Bytes). without x (part ps 0)) (sym z₅) ∙ not_full (without (part ps 5) (part ps 0)) (or_left a _ e) in
    let z₄ : part ps 4 ≡ [] = sym (without-none (part ps 4)) ∙ ap (λ (x : List Bytes). without x (part ps 4)) (sym z₆) ∙ not_full (without (part ps 6) (part ps 4)) (or_left (full (without (part ps 6) (part ps 4))) _ e₄) in
    seven z₀ (not_full (part ps 1) (or_left (full (part ps 1)) _ e₁)) (not_full (part ps 2) (or_left (full (part ps 2)) _ e₂)) (not_full (part ps 3) (or_left (full (part ps 3)) _ e₃)) z₄ z₅ z₆
  where
    seven : part ps 0 ≡ [] → part ps 1 ≡ [] → part ps 2 ≡ [] → part ps 3 ≡ [] → part ps 4 ≡ [] → part ps 5 ≡ [] → part ps 6 ≡ [] → (i : ℕ) → i < 7 → part ps i ≡ []
    seven a b c d e f g zero l = a
    seven a b c d e f g (suc zero) l = b
    seven a b c d e f g (suc (suc zero)) l = c
    seven a b c d e f g (suc (suc (suc zero))) l = d
    seven a b c d e f g (suc (suc (suc (suc zero)))) l = e
    seven a b c d e f g (suc (suc (suc (suc (suc zero))))) l = f
    seven a b c d e f g (suc (suc (suc (suc (suc (suc zero)))))) l = g
    seven a b c d e f g (suc (suc (suc (suc (suc (suc (suc i))))))) l = absurd (omega arith)

own-parts : (ps : List (List Bytes)) → length ps ≤ 7 → any full ps ≡ true → has_parts (own_parts name_row ps) ≡ true
own-parts ps l h = by_bool (has_parts (own_parts name_row ps)) (λ e. e) (λ e. not-both h (none-full ps 7 l (still ps e)))

-- ---- the name

pub record NameWell (ps : List (List Bytes)) : Type 0 where
  pub seven : length ps ≡ 7
  pub whole : all (all (λ v. filled v && utf8 v)) ps ≡ true
  pub carry : all (all carried_text) ps ≡ true
  pub apart-0 : apart (part ps 0) (part ps 5) ≡ true
  pub apart-4 : apart (part ps 4) (part ps 6) ≡ true

all-parts : (p : Bytes → Bool) → ((v : Bytes) → Value v → p v ≡ true) → (ps : List (List Bytes)) → All (All Value) ps → all (all p) ps ≡ true
all-parts p g ps h = all-test (all p) ps (all-mono (All Value) (λ vs. all p vs ≡ true) (λ vs k. all-test p vs (all-mono Value (λ v. p v ≡ true) g vs k)) ps h)

well : (rs : List (List Bytes)) → All (All Value) (own_parts name_row rs) → NameWell (own_parts name_row rs)
unfolding own_parts
well rs k =
    record {
      seven = refl;
      whole = all-parts (λ v. filled v && utf8 v) (λ v g. and-true g.1 g.0.0) (own_parts name_row rs) k;
      carry = all-parts carried_text (λ v g. g.0.1) (own_parts name_row rs) k;
      apart-0 = (own-apart rs).0;
      apart-4 = (own-apart rs).1;
    }

pub name-well : (v : Bytes) (ps : List (List Bytes)) → Clean v → read_name v ≡ some ps → NameWell ps × (has_parts ps ≡ true)
unfolding read_parts
name-well v ps h e =
    let p = provided-inv (leb (length (split_text 59 v)) 7) _ e in
    let i = chain-inv (each part_values (split_text 59 v)) (λ ps. provided (any (λ vs. not (empty vs)) ps) (some (own_parts name_row ps))) p.1 in
    let q = provided-inv (any full i.0) (some (own_parts name_row i.0)) i.2 in
    let k = own-all Value i.0 (each-gives part_values Clean (All Value) part-values (split_text 59 v) i.0 (split-clean 59 v refl h) i.1) in
    let l : length i.0 ≤ 7 = omega (tests, p.0, each-length part_values (split_text 59 v) i.0 i.1) in
    subst (λ (x : List (List Bytes)). NameWell x × (has_parts x ≡ true)) (some_same q.1) (well i.0 k, own-parts i.0 l q.0)
