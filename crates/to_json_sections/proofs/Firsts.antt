-- The first line of a number: UID and KIND.
use mathlib.Core.Path.{◌≡◌, refl, sym, ap, ◌∙◌}
use mathlib.Core.Bool.{true, false}
use mathlib.Core.List.{List, [], ◌∷◌, ◌++◌}
use mathlib.Core.Option.{none}
use Prim.Native.Nat.{ℕ, zero, suc, ◌+◌, ◌≤◌, ◌<◌}
use native.Mathlib.Omega.{arith}
use native.Mathlib.Numerals.{add-one}
use lib.ListN.{drop, get_or}
use Rattle.text.specs.Bytes.{Bytes, lowered}
use Rattle.text.proofs.Choices.{some_same, none-some}
use Rattle.line.specs.Grammar.{Line, read_line}
use Rattle.line_table.specs.Table.{part, Holds}
use Rattle.line_unfold.specs.Table.{line_at}
use Rattle.convert.specs.Classify.{Seen, Class, as-version, as-uid, as-kind, as_dropped, as-full, as_parts, as-entry, as_member, as-kept, Classed}
use Rattle.convert.specs.FromCard.{Gives, gives, gathered, first_of, or_else, made_uid}
use Rattle.convert_entry.specs.Rows.{code_of}
use Rattle.table_entry.proofs.Entry.{value-is}
use Rattle.from_card_lines.specs.Classified.{Classified}
use Rattle.from_card_lines.proofs.Lines.{LineOf, line_of, no_more}
use Rattle.home.proofs.Classes.{Fact}
use Rattle.convert_put.specs.Pieces.{after}
use Rattle.to_json_head.specs.Head.{uid_of, kind_bytes}
use Rattle.to_json_sections.specs.Sections.{FirstOf, uid_in, kind_in, kind_member}
use Rattle.to_json_sections.proofs.Lines.{entry-low, gathered-cons, gathered_none, fact_of}

-- ---- any section

module _ {A : Type 0} (f : Gives → List A) (q : ℕ) (other : (l : Line) (x : Class) → (code_of x ≡ q → ⊥) → f (gives l x) ≡ [])
    {scratch starts codes : List ℕ} {n : ℕ} {cs : List Classed} (h : Classified scratch starts codes n cs) {r : ℕ} (first : FirstOf codes n q r) where
  skipped : (k : ℕ) → k ≤ r → gathered f cs ≡ gathered f (drop k cs)
  skipped zero l = refl
  skipped (suc k) l =
      let b : k < n = omega (arith, first.within) in
      let c = line_of h k b in
      let e : (code_of c.0.class ≡ q → ⊥) = λ e. first.before k (omega arith) (c.1.code ∙ e) in
      skipped k (omega arith)
      ∙ ap (gathered f) c.2
      ∙ gathered-cons f c.0 (drop (k + 1) cs)
      ∙ ap (λ x. x ++ gathered f (drop (k + 1) cs)) (other c.0.line c.0.class e)
      ∙ ap (λ i. gathered f (drop i cs)) (add-one k)

  pub none-there : n ≤ r → gathered f cs ≡ []
  none-there l = skipped r (omega arith) ∙ ap (gathered f) (no_more h r l) ∙ gathered_none f

  pub first-there : (l : r < n) → (c : Classed) × LineOf scratch starts codes r c × (code_of c.class ≡ q) × (gathered f cs ≡ f (gives c.line c.class) ++ gathered f (drop (r + 1) cs))
  first-there l =
      let c = line_of h r l in
      (c.0, c.1, sym c.1.code ∙ first.here l, skipped r (omega arith) ∙ ap (gathered f) c.2 ∙ gathered-cons f c.0 (drop (r + 1) cs))

-- ---- the value of a line in its table

pub value-held : {scratch starts codes : List ℕ} {k : ℕ} {c : Classed} {s t : List ℕ} → LineOf scratch starts codes k c → s ≡ line_at scratch starts k → Holds s t
    → part s (get_or t 4 0) (get_or t 5 0) ≡ c.line.value
value-held {c = c} {s} {t} a q h =
    sym (value-is s t) ∙ ap (λ (l : Line). l.value) h.held ∙ ap (λ (l : Line). l.value) (some_same (sym h.is ∙ ap read_line q ∙ a.read))

pub line-unread : {P : Type 0} {scratch starts codes : List ℕ} {k : ℕ} {c : Classed} {s : List ℕ} → LineOf scratch starts codes k c → s ≡ line_at scratch starts k → read_line s ≡ none → P
line-unread a q e = none-some (sym e ∙ ap read_line q ∙ a.read)

-- ---- UID

uid-other : (l : Line) (x : Class) → (code_of x ≡ 19 → ⊥) → (gives l x).uid ≡ []
uid-other l (as-uid v) n = absurd (n refl)
uid-other l as-kept n = refl
uid-other l (as-entry i e) n = refl
uid-other l as-version n = refl
uid-other l (as-kind v) n = refl
uid-other l as_dropped n = refl
uid-other l (as-full v) n = refl
uid-other l (as_parts v) n = refl
uid-other l (as_member a j) n = refl

uid-this : (s : Seen) (l : Line) (x : Class) → Fact s l x → code_of x ≡ 19 → (gives l x).uid ≡ l.value ∷ []
uid-this s l (as-uid v) f h = ap (λ v. v ∷ []) f.1
uid-this s l as-kept f h = absurd (omega (arith, h))
uid-this s l (as-entry i e) f h = absurd (omega (arith, h, entry-low s l i e f))
uid-this s l as-version f h = absurd (omega (arith, h))
uid-this s l (as-kind v) f h = absurd (omega (arith, h))
uid-this s l as_dropped f h = absurd (omega (arith, h))
uid-this s l (as-full v) f h = absurd (omega (arith, h))
uid-this s l (as_parts v) f h = absurd (omega (arith, h))
uid-this s l (as_member n j) f h = absurd (omega (arith, h))

-- ---- KIND

kind-other : (l : Line) (x : Class) → (code_of x ≡ 20 → ⊥) → (gives l x).kind ≡ []
kind-other l (as-kind v) n = absurd (n refl)
kind-other l as-kept n = refl
kind-other l (as-entry i e) n = refl
kind-other l as-version n = refl
kind-other l (as-uid v) n = refl
kind-other l as_dropped n = refl
kind-other l (as-full v) n = refl
kind-other l (as_parts v) n = refl
kind-other l (as_member a j) n = refl

kind-this : (s : Seen) (l : Line) (x : Class) → Fact s l x → code_of x ≡ 20 → (gives l x).kind ≡ lowered l.value ∷ []
kind-this s l (as-kind v) f h = ap (λ v. v ∷ []) f.1
kind-this s l as-kept f h = absurd (omega (arith, h))
kind-this s l (as-entry i e) f h = absurd (omega (arith, h, entry-low s l i e f))
kind-this s l as-version f h = absurd (omega (arith, h))
kind-this s l (as-uid v) f h = absurd (omega (arith, h))
kind-this s l as_dropped f h = absurd (omega (arith, h))
kind-this s l (as-full v) f h = absurd (omega (arith, h))
kind-this s l (as_parts v) f h = absurd (omega (arith, h))
kind-this s l (as_member n j) f h = absurd (omega (arith, h))

module _ {scratch starts codes : List ℕ} {n : ℕ} {cs : List Classed} (h : Classified scratch starts codes n cs) where
  module _ {r : ℕ} (first : FirstOf codes n 19 r) (stem : Bytes) (number : ℕ) where
    pub uid-made : (v : Bytes) → n ≤ r → uid_of false v stem number ≡ uid_in stem number cs
    unfolding uid_in
    uid-made v l = sym (ap (λ x. or_else (first_of x) (made_uid stem number)) (none-there (λ (g : Gives). g.uid) 19 uid-other h first l))

    pub uid-given : (l : r < n) {s t : List ℕ} → s ≡ line_at scratch starts r → Holds s t → uid_of true (part s (get_or t 4 0) (get_or t 5 0)) stem number ≡ uid_in stem number cs
    unfolding uid_in
    uid-given l q o =
        let a = first-there (λ (g : Gives). g.uid) 19 uid-other h first l in
        value-held a.1 q o
        ∙ sym (ap (λ x. or_else (first_of x) (made_uid stem number))
        (a.3 ∙ ap (λ x. x ++ gathered (λ (g : Gives). g.uid) (drop (r + 1) cs)) (uid-this a.1.seen a.0.line a.0.class (fact_of a.1) a.2)))

  module _ {r : ℕ} (first : FirstOf codes n 20 r) where
    pub kind-none : n ≤ r → [] ≡ kind_member (kind_in cs)
    unfolding kind_in kind_member after
    kind-none l = sym (ap (λ x. kind_member (or_else (first_of x) [])) (none-there (λ (g : Gives). g.kind) 20 kind-other h first l))

    pub kind-given : (l : r < n) {s t : List ℕ} → s ≡ line_at scratch starts r → Holds s t → kind_bytes (part s (get_or t 4 0) (get_or t 5 0)) ≡ kind_member (kind_in cs)
    unfolding kind_in kind_member kind_bytes
    kind-given l q o =
        let a = first-there (λ (g : Gives). g.kind) 20 kind-other h first l in
        ap (λ x. kind_member (lowered x)) (value-held a.1 q o)
        ∙ sym (ap (λ x. kind_member (or_else (first_of x) []))
        (a.3 ∙ ap (λ x. x ++ gathered (λ (g : Gives). g.kind) (drop (r + 1) cs)) (kind-this a.1.seen a.0.line a.0.class (fact_of a.1) a.2)))

  -- the line that was found is a line
  pub found-unread : {P : Type 0} {q r : ℕ} → FirstOf codes n q r → (l : r < n) {s : List ℕ} → s ≡ line_at scratch starts r → read_line s ≡ none → P
  found-unread first l q e = line-unread (line_of h _ l).1 q e
