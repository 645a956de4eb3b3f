-- The pieces of a kept line as one entry of vCardProps.
use mathlib.Core.Path.{◌≡◌, refl, sym, ap, ◌∙◌}
use mathlib.Core.Bool.{Bool, true, false, not}
use mathlib.Core.List.{List, [], ◌∷◌, ◌++◌, map, append-nil, append_assoc}
use Prim.Native.Nat.{ℕ, ◌+◌, ◌≤◌, ◌<◌}
use native.Mathlib.Omega.{arith}
use lib.Dec.{ltb}
use lib.ListN.{length, get_or}
use borrow.Author.Tests.{lt-ltb, le-ltb, ltb-true, ltb-false}
use Rattle.text.specs.Choice.{pick}
use Rattle.text.specs.Bytes.{Bytes, ascii, between, same, lower, lowered, empty, flat}
use Rattle.text.proofs.Cases.{by_bool}
use Rattle.json_text.specs.Tree.{jstr, Member, member, object, array, from_elems}
use Rattle.json_text.specs.Compact.{spelled, spelled_all, quoted, written, written_elems, elems_after}
use Rattle.line.specs.Params.{values_named, value_type, first_or}
use Rattle.line.proofs.Named.{values_named-append, values_named-none}
use Rattle.convert.specs.Value.{filled}
use Rattle.convert.specs.FromCard.{kept_line}
use Rattle.convert.specs.ToJson.{where', param_json, kept_json}
use Rattle.convert_put.specs.Pieces.{member_bytes, inside}
use Rattle.convert_put.proofs.Compact.{quoted-append, inside-append, inside-object}
use Rattle.line_table.specs.Table.{part, Span, name_at, value_at, rows_in, line_in}
use Rattle.line_table.proofs.Rows.{rows_none, rows_split, line-rows}
use Rattle.to_json_kept_values.proofs.Lists.{values-more}
use Rattle.table_entry.proofs.Entry.{part-empty, part-some}
use Rattle.to_json_kept.specs.Entry.{group_piece, head_piece, tail_piece, ValueRow}

-- ---- the type

-- no VALUE in the first k rows
abbrev pub Untyped : Bytes → List ℕ → ℕ → Type 0
Untyped s t k = values_named (ascii "value") (rows_in s t k) ≡ []

pub untyped-start : (s : Bytes) (t : List ℕ) → Untyped s t 0
untyped-start s t = ap (values_named (ascii "value")) (rows_none s t) ∙ values_named-none (ascii "value")

pub untyped-on : (s : Bytes) (t : List ℕ) (k : ℕ) (r : Bool) → r ≡ same (lowered (name_at s t k)) (ascii "value") → r ≡ false → Untyped s t k → Untyped s t (k + 1)
untyped-on s t k r e f h = values-more (ascii "value") s t k false (sym f ∙ e) ∙ append-nil (values_named (ascii "value") (rows_in s t k)) ∙ h

pub untyped-all : (s : Bytes) (t : List ℕ) (k : ℕ) → Untyped s t k → k ≡ get_or t 6 0 → ValueRow s t k
unfolding value_type
untyped-all s t k h e = record {
  upto = omega arith;
  is =
      ap (λ ps. lowered (first_or (ascii "unknown") (values_named (ascii "value") ps))) (line-rows s t ∙ ap (rows_in s t) (sym e))
      ∙ ap (λ vs. lowered (first_or (ascii "unknown") vs)) h
      ∙ ap (λ b. lowered (pick b (value_at s t k) (ascii "unknown"))) (sym (le-ltb k (get_or t 6 0) (omega arith)));
}

pub typed-here : (s : Bytes) (t : List ℕ) (k : ℕ) (r : Bool) → r ≡ same (lowered (name_at s t k)) (ascii "value") → r ≡ true → Untyped s t k → k < get_or t 6 0 → ValueRow s t k
unfolding value_type
typed-here s t k r e f h l =
    let q = rows_split s t (get_or t 6 0) (k + 1) (omega arith) in
    let w : values_named (ascii "value") (rows_in s t (k + 1)) ≡ value_at s t k ∷ [] =
    values-more (ascii "value") s t k true (sym f ∙ e) ∙ ap (λ (vs : List Bytes). vs ++ (value_at s t k ∷ [])) h in
    record {
      upto = omega arith;
      is =
          ap (λ ps. lowered (first_or (ascii "unknown") (values_named (ascii "value") ps))) (line-rows s t ∙ q.1)
          ∙ ap (λ vs. lowered (first_or (ascii "unknown") vs)) (values_named-append (ascii "value") (rows_in s t (k + 1)) q.0 ∙ ap (λ (vs : List Bytes). vs ++ values_named (ascii "value") q.0) w)
          ∙ ap (λ b. lowered (pick b (value_at s t k) (ascii "unknown"))) (sym (lt-ltb k (get_or t 6 0) l));
    }

pub type-none : (s : Bytes) (t : List ℕ) (k : ℕ) → ValueRow s t k → get_or t 6 0 ≤ k → ascii "\"unknown\"" ≡ quoted (value_type (line_in s t).params) []
unfolding lowered lower between quoted spelled_all spelled
type-none s t k v h = sym (ap (λ x. quoted x []) (v.is ∙ ap (λ b. lowered (pick b (value_at s t k) (ascii "unknown"))) (le-ltb k (get_or t 6 0) h)))

pub type-some : (s : Bytes) (t : List ℕ) (k : ℕ) → ValueRow s t k → k < get_or t 6 0 → quoted (lowered (value_at s t k)) [] ≡ quoted (value_type (line_in s t).params) []
type-some s t k v h = sym (ap (λ x. quoted x []) (v.is ∙ ap (λ b. lowered (pick b (value_at s t k) (ascii "unknown"))) (lt-ltb k (get_or t 6 0) h)))

-- ---- the group

pub group_empty : (g : Bytes) → length g ≡ 0 → [] ≡ group_piece g
unfolding group_piece
group_empty [] e = refl
group_empty (x ∷ g) e = absurd (omega (arith, e))

pub group-filled : (g : Bytes) → (length g ≡ 0 → ⊥) → flat (ascii "\"group\":" ∷ quoted (lowered g) [] ∷ []) ≡ group_piece g
unfolding group_piece
group-filled [] n = absurd (n refl)
group-filled (x ∷ g) n = refl

abbrev group_members : Bytes → List Member
group_members g = where' (filled (lowered g)) (member (ascii "group") (jstr (lowered g)))

group-bytes : (g : Bytes) → group_piece g ≡ inside false (group_members g)
unfolding group_piece lowered inside member_bytes quoted spelled_all spelled written flat
group-bytes [] = refl
group-bytes (x ∷ g) = refl

group-there : (g : Bytes) → not (empty (group_members g)) ≡ not (empty g)
unfolding lowered
group-there [] = refl
group-there (x ∷ g) = refl

-- a span has bytes where it begins before it ends
pub span_filled : (s : Bytes) (a b : ℕ) → Span s a b → ltb a b ≡ not (empty (part s a b))
span_filled s a b h =
    by_bool (ltb a b) (λ e. e ∙ sym (ap not (part-some s a b (ltb-true a b e) h.within))) (λ e. e ∙ sym (ap not (part-empty s a b (ltb-false a b e))))

-- ---- the whole

seam : (n g i t : Bytes) → (91 ∷ (n ++ (44 ∷ 123 ∷ (g ++ [])))) ++ (i ++ (t ++ [])) ≡ 91 ∷ (n ++ (44 ∷ 123 ∷ (g ++ (i ++ t))))
seam n g i t = simp (append-nil, append_assoc)

module _ (name group type value : Bytes) (ms : List Member) where
  abbrev I : Bytes
  I = inside (not (empty group)) ms

  abbrev ending : Bytes
  ending = flat ((125 ∷ 44 ∷ []) ∷ quoted type [] ∷ (44 ∷ []) ∷ quoted value [] ∷ (93 ∷ []) ∷ [])

  ending-is : 125 ∷ 44 ∷ quoted type (44 ∷ quoted value (93 ∷ [])) ≡ ending
  unfolding flat
  ending-is =
      ap (λ (x : Bytes). 125 ∷ 44 ∷ x)
      (ap (λ (x : Bytes). quoted type (44 ∷ x)) (quoted-append value [] (93 ∷ [])) ∙ quoted-append type [] (44 ∷ (quoted value [] ++ (93 ∷ []))))

  object-is : (u : Bytes) → written (object (group_members group ++ ms)) u ≡ 123 ∷ (group_piece group ++ (I ++ (125 ∷ u)))
  object-is u =
      inside-object (group_members group ++ ms) u
      ∙ ap (λ (x : Bytes). 123 ∷ (x ++ (125 ∷ u)))
      (inside-append false (group_members group) ms
      ∙ ap (λ (x : Bytes). x ++ inside (not (empty (group_members group))) ms) (sym (group-bytes group))
      ∙ ap (λ b. group_piece group ++ inside b ms) (group-there group))
      ∙ ap (λ (x : Bytes). 123 ∷ x) (append_assoc (group_piece group) I (125 ∷ u))

  entry-is : flat (head_piece name group ∷ I ∷ ending ∷ []) ≡ written (array (jstr (lowered name) ∷ object (group_members group ++ ms) ∷ jstr type ∷ jstr value ∷ [])) []
  unfolding flat written written_elems elems_after from_elems
  entry-is =
      seam (quoted (lowered name) []) (group_piece group) I ending
      ∙ ap (λ (x : Bytes). 91 ∷ (quoted (lowered name) [] ++ (44 ∷ 123 ∷ (group_piece group ++ (I ++ x))))) (sym ending-is)
      ∙ ap (λ (x : Bytes). 91 ∷ (quoted (lowered name) [] ++ (44 ∷ x))) (sym (object-is (44 ∷ quoted type (44 ∷ quoted value (93 ∷ [])))))
      ∙ ap (λ (x : Bytes). 91 ∷ x) (sym (quoted-append (lowered name) [] (44 ∷ written (object (group_members group ++ ms)) (44 ∷ quoted type (44 ∷ quoted value (93 ∷ []))))))

pub kept-bytes : (s : Bytes) (t : List ℕ) → Span s (get_or t 0 0) (get_or t 1 0)
    → flat (head_piece (part s (get_or t 2 0) (get_or t 3 0)) (part s (get_or t 0 0) (get_or t 1 0))
    ∷ inside (ltb (get_or t 0 0) (get_or t 1 0)) (map param_json (kept_line (line_in s t)).params)
    ∷ tail_piece s t (part s (get_or t 4 0) (get_or t 5 0)) ∷ [])
    ≡ written (kept_json (kept_line (line_in s t))) []
unfolding kept_json kept_line line_in
kept-bytes s t h =
    let ms : List Member = map param_json (kept_line (line_in s t)).params in
    ap (λ b. flat (head_piece (line_in s t).name (line_in s t).group ∷ inside b ms ∷ tail_piece s t (line_in s t).value ∷ [])) (span_filled s (get_or t 0 0) (get_or t 1 0) h)
    ∙ entry-is (line_in s t).name (line_in s t).group (value_type (line_in s t).params) (line_in s t).value ms

-- ---- a piece that is there or not

pub piece-on : (on : Bool) (p : Bytes) → on ≡ true → p ≡ pick on p []
piece-on on p e = rw e

pub piece-off : (on : Bool) (p : Bytes) → on ≡ false → [] ≡ pick on p []
piece-off on p e = rw e
