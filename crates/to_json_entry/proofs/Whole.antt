-- What the code writes of a converted line.
use mathlib.Core.Path.{◌≡◌, refl, sym, ap, ◌∙◌}
use mathlib.Core.Bool.{Bool, true, not}
use mathlib.Core.List.{List, [], ◌∷◌}
use mathlib.Core.Option.{some}
use Prim.Native.Nat.{ℕ, zero, suc, ◌≤◌}
use native.Mathlib.Omega.{arith}
use lib.ListN.{length, get_or}
use Rattle.text.specs.Bytes.{Bytes, ascii, empty, all, flat}
use Rattle.text.proofs.Lists.{all_head, all_tail}
use borrow.Author.Tests.{eqb-true}
use lib.Dec.{eqb}
use Rattle.line.specs.Grammar.{Param}
use Rattle.line.specs.Params.{values_named, besides_value, value_type}
use Rattle.json_text.specs.Tree.{member, jstr}
use Rattle.convert.specs.Table.{Slot}
use Rattle.convert.specs.Model.{Entry}
use Rattle.convert.specs.Classify.{Seen, types_from, entry_of}
use Rattle.convert.specs.ToJson.{where', entry_json}
use Rattle.convert_types.specs.Marks.{marks, told, split}
use Rattle.convert_params.specs.Row.{values_kind, Row}
use Rattle.line_table.specs.Table.{part, line_in}
use Rattle.convert_entry.specs.Rows.{Is, type_number}
use Rattle.convert_entry.proofs.Named.{prefs}
use Rattle.convert_entry.proofs.Tests.{first-pref}
use Rattle.convert_put.specs.Pieces.{entry_pieces, member_bytes, before}
use Rattle.convert_put.proofs.Entries.{entry-bytes}
use Rattle.to_json_entry.specs.Entry.{keyed, RowPieces, strings_piece, StringsSound}
use Rattle.to_json_entry.proofs.Fields.{Fields, fields, marked-types, raw_of, pref-none, pref-first}
use Rattle.to_json_entry.proofs.Strings.{RowContent, StringsOf, strings-of, good_of}

no_length : (us : List Bytes) → 0 ≡ length us → us ≡ []
no_length [] e = refl
no_length (u ∷ us) e = absurd (omega (arith, e))

zero-at : (l : List ℕ) → all (λ x. eqb x 0) l ≡ true → (m : ℕ) → get_or l m 0 ≡ 0
zero-at [] e m = refl
zero-at (x ∷ l) e zero = eqb-true x 0 (all_head (λ x. eqb x 0) x l e)
zero-at (x ∷ l) e (suc m) = zero-at l (all_tail (λ x. eqb x 0) x l e) m

abbrev pub nine : List ℕ
nine = 0 ∷ 0 ∷ 0 ∷ 0 ∷ 0 ∷ 0 ∷ 0 ∷ 0 ∷ 0 ∷ []

pub nine-zero : (c : ℕ) → get_or nine c 0 ≡ 0
unfolding all
nine-zero = zero-at nine refl

pub nine-long : 9 ≤ length nine
nine-long = omega arith

module _ (s : Bytes) (t : List ℕ) {i types form : ℕ} (seen : Seen) (w : Slot) (e : Entry) (is : Is w i types form) (x : entry_of seen w (line_in s t) ≡ some e) where
  abbrev ps : List Param
  ps = (line_in s t).params

  abbrev v : Bytes
  v = part s (get_or t 4 0) (get_or t 5 0)

  abbrev of-line : Fields w (line_in s t) e
  of-line = fields seen w (line_in s t) e x

  pub strings-are : (kind : ℕ) → RowContent w.map.content i → kind ≡ type_number (value_type ps) → StringsOf w.map.form w.map.content i form kind v (flat e.parts)
  unfolding line_in
  strings-are kind c k = rw is.form at (strings-of w.map.form w.map.content (value_type ps) v (flat e.parts) kind i c k of-line.texts)

  pub strings-good : (kind : ℕ) → kind ≡ type_number (value_type ps) → StringsSound form (raw_of form kind) v
  unfolding line_in
  strings-good kind k = rw is.form at (good_of w.map.form (value_type ps) v (flat e.parts) kind k of-line.texts)

  module _ {C F T : List ℕ} (r : Row s C F T ps) where
    pub no-pref : get_or C 1 0 ≡ 0 → e.pref ≡ []
    no-pref z = pref-none (values_named (ascii "pref") (besides_value ps)) e.pref (sym (prefs ps) ∙ no_length (values_kind 1 ps) (sym z ∙ (r.held 1 (omega arith)).count)) of-line.pref

    pub the-pref : (get_or C 1 0 ≡ 0 → ⊥) → e.pref ≡ part s (get_or F 1 0) (get_or T 1 0)
    the-pref n =
        let f = first-pref r n in
        pref-first (values_named (ascii "pref") (besides_value ps)) f.others _ e.pref (sym (prefs ps) ∙ f.is) of-line.pref

  pub line-bytes : (kind vk : ℕ) (key p : Bytes) (b : Bool) (row : List ℕ) → RowPieces w i kind → vk ≡ type_number (value_type ps)
      → told b row ≡ marks types (split (values_named (ascii "type") ps)) nine → e.pref ≡ p
      → entry_pieces key kind (strings_piece i form (raw_of form vk) v) row p ≡ member_bytes (entry_json w.map (keyed key e))
  line-bytes kind vk key p b row rd k m pf =
      let y = strings-are vk rd.content k in
      let q = marked-types types ps e.types b nine row nine-long nine-zero (ap (λ n. types_from n (values_named (ascii "type") (besides_value ps))) (sym is.types) ∙ of-line.types) m in
      ap (entry_pieces key kind (strings_piece i form (raw_of form vk) v) row) (sym pf)
      ∙ sym (entry-bytes w.map (keyed key e) y.c y.cs q.0 kind (strings_piece i form (raw_of form vk) v) row
      y.is
      y.bytes
      (ap (λ c. before (where' (not (empty w.map.kinds)) (member (ascii "kind") (jstr (get_or w.map.kinds c []))))) of-line.which ∙ rd.kinds)
      q.1
      q.2)
