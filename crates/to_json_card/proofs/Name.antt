-- The name, from the first FN and the first N that convert.
use mathlib.Core.Path.{◌≡◌, refl, sym, ap, ◌∙◌}
use mathlib.Core.Bool.{Bool, true, false, ◌||◌}
use mathlib.Core.List.{List, [], ◌∷◌, ◌++◌}
use mathlib.Core.Option.{none, some}
use Prim.Native.Nat.{ℕ, ◌+◌}
use native.Mathlib.Omega.{arith}
use lib.Dec.{ltb}
use lib.ListN.{drop, get_or}
use Rattle.text.specs.Choice.{with-some, is_some}
use Rattle.text.specs.Bytes.{Bytes, ascii}
use Rattle.text.proofs.Cases.{tests}
use Rattle.json_text.specs.Tree.{member}
use Rattle.line.specs.Grammar.{Line, read_line}
use Rattle.line.specs.Text.{read_text}
use Rattle.line_table.specs.Table.{part, Holds}
use Rattle.line_unfold.specs.Table.{line_at}
use Rattle.convert.specs.Model.{no_parts, has_parts}
use Rattle.convert.specs.Value.{read_name}
use Rattle.convert.specs.Classify.{Seen, Class, as-version, as-uid, as-kind, as_dropped, as-full, as_parts, as-entry, as_member, as-kept, Classed}
use Rattle.convert.specs.FromCard.{Gives, gives, gathered, first_of, or_else}
use Rattle.convert.specs.ToJson.{where', name_json}
use Rattle.convert.proofs.CardParts.{has-no-parts}
use Rattle.convert_entry.specs.Rows.{code_of}
use Rattle.convert_put.specs.Pieces.{after}
use Rattle.table_entry.proofs.Entry.{value-is}
use Rattle.from_card_lines.specs.Classified.{Classified}
use Rattle.home.proofs.Classes.{Fact}
use Rattle.home.proofs.NormalCardParts.{name-read}
use Rattle.text.proofs.Choices.{none-some, some_same}
use Rattle.to_json_name.specs.Name.{NamesSound, full_of, parts_of, name_bytes}
use Rattle.to_json_sections.specs.Sections.{FirstOf, full_in, parts_in, name_in}
use Rattle.to_json_sections.proofs.Lines.{entry-low, fact_of}
use Rattle.to_json_sections.proofs.Firsts.{none-there, first-there}
use Rattle.to_json_card.specs.Card.{ValueOf}

-- ---- the value of a line

pub value-unread : (s v : Bytes) → read_line s ≡ none → ValueOf s v
value-unread s v e l q = none-some (sym e ∙ q)

pub value_read : {s t : List ℕ} → Holds s t → ValueOf s (part s (get_or t 4 0) (get_or t 5 0))
value_read {s} {t} h l q = sym (value-is s t) ∙ ap (λ (x : Line). x.value) h.held ∙ ap (λ (x : Line). x.value) (some_same (sym h.is ∙ q))

-- ---- FN

full-other : (l : Line) (x : Class) → (code_of x ≡ 21 → ⊥) → (gives l x).full ≡ []
full-other l (as-full v) n = absurd (n refl)
full-other l as-kept n = refl
full-other l (as-entry i e) n = refl
full-other l as-version n = refl
full-other l (as-uid v) n = refl
full-other l (as-kind v) n = refl
full-other l as_dropped n = refl
full-other l (as_parts v) n = refl
full-other l (as_member a j) n = refl

full-this : (s : Seen) (l : Line) (x : Class) → Fact s l x → code_of x ≡ 21 → (v : Bytes) × (read_text l.value ≡ some v) × ((gives l x).full ≡ v ∷ [])
full-this s l (as-full v) f h = (v, f.0, refl)
full-this s l as-kept f h = absurd (omega (arith, h))
full-this s l (as-entry i e) f h = absurd (omega (arith, h, entry-low s l i e f))
full-this s l as-version f h = absurd (omega (arith, h))
full-this s l (as-uid v) f h = absurd (omega (arith, h))
full-this s l (as-kind v) f h = absurd (omega (arith, h))
full-this s l as_dropped f h = absurd (omega (arith, h))
full-this s l (as_parts v) f h = absurd (omega (arith, h))
full-this s l (as_member n j) f h = absurd (omega (arith, h))

-- ---- N

parts-other : (l : Line) (x : Class) → (code_of x ≡ 22 → ⊥) → (gives l x).parts ≡ []
parts-other l (as_parts v) n = absurd (n refl)
parts-other l as-kept n = refl
parts-other l (as-entry i e) n = refl
parts-other l as-version n = refl
parts-other l (as-uid v) n = refl
parts-other l (as-kind v) n = refl
parts-other l as_dropped n = refl
parts-other l (as-full v) n = refl
parts-other l (as_member a j) n = refl

parts-this : (s : Seen) (l : Line) (x : Class) → Fact s l x → code_of x ≡ 22 → (ps : List (List Bytes)) × (read_name l.value ≡ some ps) × ((gives l x).parts ≡ ps ∷ [])
parts-this s l (as_parts v) f h = (v, f.0, refl)
parts-this s l as-kept f h = absurd (omega (arith, h))
parts-this s l (as-entry i e) f h = absurd (omega (arith, h, entry-low s l i e f))
parts-this s l as-version f h = absurd (omega (arith, h))
parts-this s l (as-uid v) f h = absurd (omega (arith, h))
parts-this s l (as-kind v) f h = absurd (omega (arith, h))
parts-this s l as_dropped f h = absurd (omega (arith, h))
parts-this s l (as-full v) f h = absurd (omega (arith, h))
parts-this s l (as_member n j) f h = absurd (omega (arith, h))

-- ---- both

record FullTold (cs : List Classed) (b : Bool) (v : Bytes) : Type 0 where
  is : full_of b v ≡ full_in cs
  there : b ≡ is_some (full_in cs)
  good : b ≡ true → is_some (read_text v) ≡ true

record PartsTold (cs : List Classed) (b : Bool) (v : Bytes) : Type 0 where
  is : parts_of b v ≡ parts_in cs
  there : b ≡ has_parts (parts_in cs)
  good : b ≡ true → is_some (read_name v) ≡ true

module _ {scratch starts codes : List ℕ} {n : ℕ} {cs : List Classed} (h : Classified scratch starts codes n cs) where
  full-told : {r : ℕ} (first : FirstOf codes n 21 r) {s : Bytes} (v : Bytes) → s ≡ line_at scratch starts r → ValueOf s v → (b : Bool) → ltb r n ≡ b → FullTold cs b v
  unfolding full_in
  full-told {r} first v q w false e =
      let z : full_in cs ≡ none = ap first_of (none-there (λ (g : Gives). g.full) 21 full-other h first (omega tests)) in
      record { is = sym z; there = sym (ap is_some z); good = λ x. absurd (let y : ◌≡◌ {A = ℕ} 0 1 = cc in omega arith) }
  full-told {r} first v q w true e =
      let a = first-there (λ (g : Gives). g.full) 21 full-other h first (omega tests) in
      let t = full-this a.1.seen a.0.line a.0.class (fact_of a.1) a.2 in
      let z : full_in cs ≡ some t.0 = ap first_of (a.3 ∙ ap (λ x. x ++ gathered (λ (g : Gives). g.full) (drop (r + 1) cs)) t.2) in
      let y : read_text v ≡ some t.0 = ap read_text (w a.0.line (ap read_line q ∙ a.1.read)) ∙ t.1 in
      record { is = y ∙ sym z; there = sym (ap is_some z); good = λ x. ap is_some y }

  parts-told : {r : ℕ} (first : FirstOf codes n 22 r) {s : Bytes} (v : Bytes) → s ≡ line_at scratch starts r → ValueOf s v → (b : Bool) → ltb r n ≡ b → PartsTold cs b v
  unfolding parts_in
  parts-told {r} first v q w false e =
      let z : parts_in cs ≡ no_parts = ap (λ x. or_else (first_of x) no_parts) (none-there (λ (g : Gives). g.parts) 22 parts-other h first (omega tests)) in
      record { is = sym z; there = sym (ap has_parts z ∙ has-no-parts); good = λ x. absurd (let y : ◌≡◌ {A = ℕ} 0 1 = cc in omega arith) }
  parts-told {r} first v q w true e =
      let a = first-there (λ (g : Gives). g.parts) 22 parts-other h first (omega tests) in
      let t = parts-this a.1.seen a.0.line a.0.class (fact_of a.1) a.2 in
      let z : parts_in cs ≡ t.0 = ap (λ x. or_else (first_of x) no_parts) (a.3 ∙ ap (λ x. x ++ gathered (λ (g : Gives). g.parts) (drop (r + 1) cs)) t.2) in
      let y : read_name v ≡ some t.0 = ap read_name (w a.0.line (ap read_line q ∙ a.1.read)) ∙ t.1 in
      record { is = ap (λ o. with-some o (λ ps. ps) no_parts) y ∙ sym z; there = sym (ap has_parts z ∙ (name-read v t.0 y).1); good = λ x. ap is_some y }

  module _ {i k : ℕ} (f : FirstOf codes n 21 i) (p : FirstOf codes n 22 k) {s u : Bytes} (fv nv : Bytes) (a : s ≡ line_at scratch starts i) (b : ValueOf s fv) (c : u ≡ line_at scratch starts k) (d : ValueOf u nv) where
    pub names-good : NamesSound (ltb i n) fv (ltb k n) nv
    names-good = record { text = (full-told f fv a b (ltb i n) refl).good; name = (parts-told p nv c d (ltb k n) refl).good }

    pub name-is : name_bytes (ltb i n) fv (ltb k n) nv ≡ name_in cs
    unfolding name_bytes name_in
    name-is =
        let F = full-told f fv a b (ltb i n) refl in
        let P = parts-told p nv c d (ltb k n) refl in
        ap (λ o. after (where' (ltb i n || ltb k n) (member (ascii "name") (name_json o (parts_of (ltb k n) nv))))) F.is
        ∙ ap (λ o. after (where' (ltb i n || ltb k n) (member (ascii "name") (name_json (full_in cs) o)))) P.is
        ∙ ap (λ x. after (where' (x || ltb k n) (member (ascii "name") (name_json (full_in cs) (parts_in cs))))) F.there
        ∙ ap (λ x. after (where' (is_some (full_in cs) || x) (member (ascii "name") (name_json (full_in cs) (parts_in cs))))) P.there
