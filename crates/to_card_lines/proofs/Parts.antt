-- A loop that writes one part after the other: what is done, and one part more.
use mathlib.Core.Path.{◌≡◌, refl, sym, ap, subst, ◌∙◌}
use Rattle.to_card_pen.proofs.Refusal.{ok-is}
use Rattle.to_card_lines.specs.declared.Lines.{Lines}
use Rattle.to_card_pen.specs.Refusal.{no_card}
use Rattle.std.specs.Prelude.{Err}
use mathlib.Core.Bool.{Bool, true, false, ◌&&◌}
use mathlib.Core.List.{List, [], ◌∷◌, append-nil, append_assoc}
use mathlib.Core.Option.{Option, none, some}
use Prim.Native.Nat.{ℕ, ◌+◌, ◌-◌}
use native.Mathlib.Omega.{arith}
use borrow.Rule.Slice.PartMut.{mid_of, put_mid}
use lib.ListN.{length, length-append}
use Rattle.text.specs.Choice.{both}
use Rattle.text.specs.Bytes.{Bytes}
use Rattle.line.specs.Grammar.{Line}
use Rattle.line_pen.specs.Pen.{Fills}
use Rattle.line_pen.proofs.Filling.{then}
use Rattle.to_card_lines.specs.Lines.{lines_bytes, Part, PartAs, no_lines, join_parts, parts_of, Laid, laid}
use Rattle.to_card_lines.proofs.Laws.{lines_none, lines-append, fills-none, fills-as}

-- a part before others
abbrev pub before : Part → Option Part → Option Part
before p none = none
before p (some q) = some (join_parts p q)

part-is : {a b : List Line} {c d : Bool} → a ≡ b → c ≡ d → ◌≡◌ {A = Part} (record { lines = a; carried = c }) (record { lines = b; carried = d })
part-is {a} {b} {c} {d} e f = ap (λ (x : List Line). record { lines = x; carried = c }) e ∙ ap (λ (x : Bool). record { lines = b; carried = x }) f

and_assoc : (a b c : Bool) → ((a && b) && c) ≡ (a && (b && c))
and_assoc true b c = refl
and_assoc false b c = refl

and-end : (b : Bool) → (b && true) ≡ b
and-end true = refl
and-end false = refl

pub before-none : (o : Option Part) → o ≡ before no_lines o
before-none none = refl
before-none (some q) = refl

pub before-one : (p x : Part) (o : Option Part) → before p (both join_parts (some x) o) ≡ before (join_parts p x) o
before-one p x none = refl
before-one p x (some q) = ap some (part-is (sym (append_assoc p.lines x.lines q.lines)) (sym (and_assoc p.carried x.carried q.carried)))

pub before_last : (p : Part) → before p (some no_lines) ≡ some p
before_last p = ap some (part-is (append-nil p.lines) (and-end p.carried))

pub parts_none : {A : Type 0} (f : A → Option Part) → parts_of f [] ≡ some no_lines
unfolding parts_of
parts_none f = refl

pub parts-one : {A : Type 0} (f : A → Option Part) (x : A) (xs : List A) → parts_of f (x ∷ xs) ≡ both join_parts (f x) (parts_of f xs)
unfolding parts_of
parts-one f x xs = refl

-- ---- what is written so far

pub record Done (room : Bytes) (n lines : ℕ) (ok : Bool) (out : Bytes) (p : Part) : Type 0 where
  pub fills : Fills room (lines_bytes p.lines) n out
  pub is-lines : lines ≡ length p.lines
  pub is_ok : ok ≡ p.carried

pub done_none : (room : Bytes) → Done room 0 0 true room no_lines
done_none room = record { fills = fills-as (sym lines_none) (fills-none room); is-lines = refl; is_ok = refl }

-- what two equal answers say
pub all-bytes : {a b c d : ℕ} {e f : Bool} → laid a c e ≡ laid b d f → a ≡ b
all-bytes q = ap (λ (l : Lines). l.bytes) (ok-is q)

pub all_lines : {a b c d : ℕ} {e f : Bool} → laid a c e ≡ laid b d f → c ≡ d
all_lines q = ap (λ (l : Lines). l.lines) (ok-is q)

pub all-carried : {a b c d : ℕ} {e f : Bool} → laid a c e ≡ laid b d f → e ≡ f
all-carried q = ap (λ (l : Lines). l.carries) (ok-is q)

module _ (room : Bytes) (n lines : ℕ) (ok : Bool) (out : Bytes) (p : Part) (done : Done room n lines ok out p) (r : Laid) (last : Bytes) where
  -- one part more is written
  pub done_on : (x : Part) → PartAs (mid_of n (length out - n) out) r last (some x) → {k l : ℕ} {c : Bool} → r ≡ laid k l c
      → Done room (n + k) (lines + l) (ok && c) (put_mid n (length out - n) out last) (join_parts p x)
  done_on x w {k} {l} {c} e =
      let a : w.0 ≡ k = all-bytes (sym w.1 ∙ e) in
      let b : length x.lines ≡ l = all_lines (sym w.1 ∙ e) in
      let v : x.carried ≡ c = all-carried (sym w.1 ∙ e) in
      let g : Fills (mid_of n (length out - n) out) (lines_bytes x.lines) k last = subst (λ (u : ℕ). Fills (mid_of n (length out - n) out) (lines_bytes x.lines) u last) a w.2 in
      record {
        fills = fills-as (sym (lines-append p.lines x.lines)) (then done.fills g);
        is-lines = omega (arith, done.is-lines, length-append p.lines x.lines);
        is_ok = ap (λ (u : Bool). u && c) done.is_ok ∙ ap (λ (u : Bool). p.carried && u) (sym v);
      }

-- all is written
pub done_all : (room : Bytes) (n lines : ℕ) (ok : Bool) (out : Bytes) (p : Part) → Done room n lines ok out p → (o : Option Part) → o ≡ some p → PartAs room (laid n lines ok) out o
done_all room n lines ok out p d o e =
    subst (PartAs room (laid n lines ok) out) (sym e) (n, ap (λ (x : ℕ). laid n x ok) d.is-lines ∙ ap (laid n (length p.lines)) d.is_ok, d.fills)

-- a part that is none
pub none-wrong : (room after : Bytes) (o : Option Part) → o ≡ none → PartAs room (Err no_card) after o
none-wrong room after o e = subst (PartAs room (Err no_card) after) (sym e) refl
