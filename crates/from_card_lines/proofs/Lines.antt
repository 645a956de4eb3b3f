-- The lines of a classified card one by one, in their order.
use mathlib.Core.Path.{◌≡◌, refl, sym, ap, ◌∙◌}
use mathlib.Core.List.{List, [], ◌∷◌, map, head-eq_of_cons-eq, tail-eq_of_cons-eq}
use mathlib.Core.Option.{some}
use Prim.Native.Nat.{ℕ, zero, suc, ◌+◌, ◌≤◌, ◌<◌}
use native.Mathlib.Omega.{arith}
use native.Mathlib.Numerals.{add-one}
use lib.ListN.{length, drop, get_or, drop_of_length-le}
use lib.Seq.{get_or-take}
use Rattle.text.specs.Bytes.{Bytes, each}
use Rattle.text.proofs.Choices.{both-inv, some_same}
use Rattle.text.proofs.Lists.{each-length}
use Rattle.line.specs.Grammar.{read_line}
use Rattle.line_unfold.specs.Table.{line_at}
use Rattle.line_unfold.proofs.Lookup.{line-is}
use Rattle.convert.specs.Classify.{Seen, Classed, classify}
use Rattle.convert_entry.specs.Rows.{code_of}
use Rattle.from_card_lines.specs.Classified.{Turned, Classified}

-- the line k, what it was read as, and the number of its class
pub record LineOf (scratch starts codes : List ℕ) (k : ℕ) (c : Classed) : Type 0 where
  pub read : read_line (line_at scratch starts k) ≡ some c.line
  pub code : get_or codes k 0 ≡ code_of c.class
  pub seen : Seen
  pub turn : c.class ≡ classify seen c.line

-- the same over the lists alone
record At (raw : List Bytes) (cs : List Classed) (k : ℕ) : Type 0 where
  c : Classed
  read : read_line (get_or raw k []) ≡ some c.line
  code : get_or (map (λ (c : Classed). code_of c.class) cs) k 0 ≡ code_of c.class
  seen : Seen
  turn : c.class ≡ classify seen c.line
  rest : drop k cs ≡ c ∷ drop (suc k) cs

no_lines : {P : Type 0} (c : Classed) (cs : List Classed) → each read_line [] ≡ some (map (λ (c : Classed). c.line) (c ∷ cs)) → P
unfolding each
no_lines c cs e = absurd (let z : ◌≡◌ {A = ℕ} 0 (suc (length (map (λ (c : Classed). c.line) cs))) = ap length (some_same e) in omega (arith, z))

at : (raw : List Bytes) (cs : List Classed) → each read_line raw ≡ some (map (λ (c : Classed). c.line) cs) → Turned cs → (k : ℕ) → k < length cs → At raw cs k
unfolding each
at raw [] e t k h = absurd (omega arith)
at [] (c ∷ cs) e t k h = no_lines c cs e
at (r ∷ raw) (c ∷ cs) e t zero h =
    let b = both-inv ◌∷◌ (read_line r) (each read_line raw) e in
    record { c = c; read = b.2 ∙ ap some (head-eq_of_cons-eq b.4); code = refl; seen = t.0.0; turn = t.0.1; rest = refl }
at (r ∷ raw) (c ∷ cs) e t (suc k) h =
    let b = both-inv ◌∷◌ (read_line r) (each read_line raw) e in
    let a = at raw cs (b.3 ∙ ap some (tail-eq_of_cons-eq b.4)) t.1 k (omega arith) in
    record { c = a.c; read = a.read; code = a.code; seen = a.seen; turn = a.turn; rest = a.rest }

length-lines : (cs : List Classed) → length (map (λ (c : Classed). c.line) cs) ≡ length cs
length-lines [] = refl
length-lines (c ∷ cs) = ap suc (length-lines cs)

module _ {scratch starts codes : List ℕ} {n : ℕ} {cs : List Classed} (h : Classified scratch starts codes n cs) where
  pub count-is : length cs ≡ n
  count-is = sym (length-lines cs) ∙ each-length read_line h.raw (map (λ (c : Classed). c.line) cs) h.read ∙ sym h.laid.count

  pub few-lines : n ≤ 512
  few-lines = h.laid.few

  pub line_of : (k : ℕ) → k < n → (c : Classed) × LineOf scratch starts codes k c × (drop k cs ≡ c ∷ drop (k + 1) cs)
  line_of k l =
      let a = at h.raw cs h.read h.turns k (omega (arith, count-is)) in (
        a.c,
        record {
          read = ap read_line (line-is h.raw n scratch starts h.laid k l) ∙ a.read;
          code = sym (get_or-take n codes k 0 l) ∙ ap (λ x. get_or x k 0) h.numbers ∙ a.code;
          seen = a.seen;
          turn = a.turn;
        },
        rw add-one a.rest,
      )

  pub no_more : (k : ℕ) → n ≤ k → drop k cs ≡ []
  no_more k l = let h : length cs ≤ k = omega (arith, count-is) in drop_of_length-le cs h
