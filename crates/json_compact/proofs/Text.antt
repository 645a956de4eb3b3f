-- THE TIE: a JSON text is squeezed to its tree's compact text.
use mathlib.Core.Path.{◌≡◌, refl, ap, ◌∙◌}
use mathlib.Core.Bool.{true, false}
use mathlib.Core.List.{[], ◌∷◌}
use mathlib.Core.Logic.{◌⊎◌, inl, inr}
use mathlib.Core.Option.{Option, none, some}
use Prim.Native.Nat.{ℕ}
use native.Mathlib.Omega.{arith}
use lib.ListN.{length}
use lib.Dec.{eqb}
use borrow.Author.Tests.{eqb-true}
use Rattle.text.specs.Choice.{pick, with-some}
use Rattle.text.specs.Bytes.{Bytes, is, between}
use Rattle.text.specs.Reader.{Got, got, bad, first, on, past}
use Rattle.text.proofs.Cases.{by_bool}
use Rattle.text.proofs.Readers.{not-bad, got-what, bind_inv, when-inv}
use Rattle.json_text.specs.Grammar.{is_space}
use Rattle.json_text.specs.Tree.{Json}
use Rattle.json_text.specs.Syntax.{skip, value, text}
use Rattle.json_text.specs.Strings.{decoded, distinct_names}
use Rattle.json_text.specs.Compact.{written, compact}
use Rattle.json_text.specs.Read.{tree, refused, sound, reading_of, reading}
use Rattle.output.specs.Put.{Wrote}
use Rattle.output.specs.Put.{Puts}
use Rattle.output.proofs.Laws.{puts-as}
use Rattle.json_compact.specs.Compacts.{Compacts}
use Rattle.json_compact.specs.Squeezed.{piece, squeezed}
use Rattle.json_compact.proofs.Pieces.{squeezed-nil, squeezed-bad}
use Rattle.json_compact.proofs.Firsts.{space-first}
use Rattle.json_compact.proofs.Whole.{value-tied}

-- ---- nothing but white space

no-piece : (t : Bytes) → squeezed (256 ∷ t) ≡ []
unfolding piece on is_space between
no-piece t = squeezed-bad (256 ∷ t) (256 ∷ t) (omega arith) refl

only-space : (t : Bytes) → eqb (first (skip t)) 256 ≡ true → squeezed t ≡ []
unfolding skip past
only-space [] e = squeezed-nil
only-space (c ∷ t) e =
    by_bool (is_space c)
    (λ q. space-first c t q ∙ only-space t (rw q at e))
    (λ q. ap (λ (x : ℕ). squeezed (x ∷ t)) (eqb-true c 256 (rw q at e)) ∙ no-piece t)

-- ---- texts

text-tied : (d : ℕ) (s : Bytes) (u : Json) (t : Bytes) → text d s ≡ got u t → (k : Json) → decoded u ≡ some k → squeezed s ≡ compact k
unfolding text compact
text-tied d s u t e k y =
    let i = bind_inv (value d s) _ e in
    by i.0 i.1 i.2 (when-inv (is 256) (got i.0) bad (skip i.1) i.3)
  where
    by : (v : Json) (w : Bytes) → value d s ≡ got v w → ((eqb (first (skip w)) 256 ≡ true) × (got v (skip w) ≡ got u t)) ⊎ ((eqb (first (skip w)) 256 ≡ false) × (bad (skip w) ≡ got u t)) → squeezed s ≡ written k []
    by v w x (inl q) = (value-tied d s v w x).so k (ap decoded (got-what q.1) ∙ y) [] (only-space w q.0)
    by v w x (inr q) = absurd (not-bad q.1)

not-refused : {n : ℕ} {j : Json} → refused n ≡ tree j → ⊥
not-refused e = let r : ◌≡◌ {A = ℕ} 0 1 = cc in omega arith

same-tree : {i j : Json} → tree i ≡ tree j → i ≡ j
same-tree e = cc

sound-decoded : (u j : Json) → sound u ≡ tree j → decoded u ≡ some j
unfolding sound
sound-decoded u j e = by (decoded u) refl e
  where
    by : (x : Option Json) → decoded u ≡ x → with-some x (λ k. pick (distinct_names k) (tree k) (refused 0)) (refused 0) ≡ tree j → decoded u ≡ some j
    by none q f = absurd (not-refused f)
    by (some k) q f = by_bool (distinct_names k) (λ n. q ∙ ap some (same-tree (rw n at f))) (λ n. absurd (not-refused (rw n at f)))

pub squeezed-compact : (d : ℕ) (s : Bytes) (k : Json) → reading d s ≡ tree k → squeezed s ≡ compact k
unfolding reading
squeezed-compact d s k e = by (text d s) refl e
  where
    by : (x : Got Json) → text d s ≡ x → reading_of (length s) x ≡ tree k → squeezed s ≡ compact k
    by (got u t) q f = text-tied d s u t q k (sound-decoded u k f)
    by (bad t) q f = absurd (not-refused f)

-- ---- what was written of such a text

pub compacts : (s : Bytes) {room out : Bytes} {r : Wrote} → Puts room (squeezed s) r out → Compacts s room r out
compacts s p = record { puts = p; of_tree = λ d k e. puts-as (squeezed-compact d s k e) p }
