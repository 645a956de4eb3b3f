-- Where no byte of the lines is odd, none of them is garbled; where none is a control, each is asked for UTF-8 alone.
use mathlib.Core.Path.{◌≡◌, refl, sym, ap, ◌∙◌}
use mathlib.Core.Bool.{Bool, true, false, ◌||◌, ◌&&◌, not}
use mathlib.Core.List.{List, [], ◌∷◌}
use Prim.Native.Nat.{ℕ, zero, suc, ◌+◌, ◌-◌, ◌≤◌, ◌<◌}
use native.Mathlib.Omega.{arith}
use lib.ListN.{length, take, drop, get_or, length-take}
use borrow.Author.Tests.{not-true}
use Rattle.std.specs.Prelude.{Some, None}
use Rattle.text.specs.Bytes.{Bytes, flat, any}
use Rattle.text.specs.Utf8.{utf8}
use Rattle.text.proofs.Cases.{or_left, or_right}
use Rattle.text.proofs.Lists.{any_append}
use Rattle.line.specs.Class.{is_control}
use Rattle.line_unfold.specs.Table.{Laid, line_at}
use Rattle.line_unfold.proofs.Turns.{marks-length}
use Rattle.line_unfold.proofs.Lookup.{line-is, lines_end}
use Rattle.line_class.specs.Odd.{is_odd}
use Rattle.line_class.proofs.Odd.{plain}
use Rattle.convert.specs.Answers.{garbled, first_from}
use Rattle.from_card_garbled.specs.Garbled.{found, OfLines, TellsGarbled}
use Rattle.from_card_garbled.proofs.First.{first_on, first-here, first-end, first-none}

garbled-is : (l : Bytes) → garbled l ≡ (not (utf8 l) || any is_control l)
unfolding garbled
garbled-is l = refl

pub none-garbled : (raw : List Bytes) → any is_odd (flat raw) ≡ false → any garbled raw ≡ false
unfolding any flat
none-garbled [] e = refl
none-garbled (l ∷ raw) e =
    let h = sym (any_append is_odd l (flat raw)) ∙ e in
    rw (garbled-is l ∙ plain l (or_left (any is_odd l) (any is_odd (flat raw)) h)) (none-garbled raw (or_right (any is_odd l) (any is_odd (flat raw)) h))

-- ---- the bytes of all lines, as the code takes them

module _ {raw : List Bytes} {n : ℕ} {scratch starts : List ℕ} (laid : Laid raw n scratch starts) where
  pub lines-whole : take (get_or starts n 0 - 0) (drop 0 scratch) ≡ flat raw
  lines-whole =
      let e : get_or starts n 0 - 0 ≡ length (flat raw) = omega (arith, lines_end laid) in
      rw e laid.bytes

  pub starts-long : n < length starts
  starts-long =
      let a : length (take (n + 1) starts) ≡ suc (length raw) = ap length laid.starts ∙ marks-length 0 raw in
      omega (arith, laid.count, simp length-take at a)

  pub scratch-long : get_or starts n 0 ≤ length scratch
  scratch-long =
      let a : length (take (length (flat raw)) scratch) ≡ length (flat raw) = ap length laid.bytes in
      omega (arith, lines_end laid, simp length-take at a)

-- ---- one of them

-- as `is_garbled_in` answers it
abbrev pub garbled_in : Bool → Bytes → Bool
garbled_in clean l = not (utf8 l) || (not clean && any is_control l)

any_of : (p : ℕ → Bool) (raw : List Bytes) (k : ℕ) → any p (flat raw) ≡ false → any p (get_or raw k []) ≡ false
unfolding any flat
any_of p [] k e = refl
any_of p (l ∷ raw) zero e = or_left (any p l) (any p (flat raw)) (sym (any_append p l (flat raw)) ∙ e)
any_of p (l ∷ raw) (suc k) e = any_of p raw k (or_right (any p l) (any p (flat raw)) (sym (any_append p l (flat raw)) ∙ e))

-- where no line has a control, it is not asked
unasked : (clean : Bool) (raw : List Bytes) (k : ℕ) → clean ≡ not (any is_control (flat raw)) → garbled (get_or raw k []) ≡ garbled_in clean (get_or raw k [])
unasked true raw k e = garbled-is (get_or raw k []) ∙ ap (λ b. not (utf8 (get_or raw k [])) || b) (any_of is_control raw k (not-true (any is_control (flat raw)) (sym e)))
unasked false raw k e = garbled-is (get_or raw k [])

pub none_at_all : {scratch starts : List ℕ} {n : ℕ} (all : Bytes) → OfLines scratch starts n (λ raw. all ≡ flat raw) → any is_odd all ≡ false → TellsGarbled scratch starts n None
none_at_all all is h raw laid = sym (ap found (first-none garbled 1 raw (none-garbled raw (ap (any is_odd) (sym (is raw laid)) ∙ h))))

-- ---- the answers

-- none of the first k is garbled
abbrev pub Sought : List ℕ → List ℕ → ℕ → ℕ → Type 0
Sought scratch starts n k = OfLines scratch starts n (λ raw. first_from 1 garbled raw ≡ first_from (k + 1) garbled (drop k raw))

module _ {scratch starts : List ℕ} {n k : ℕ} (sought : Sought scratch starts n k) where
  pub sought-end : n ≤ k → TellsGarbled scratch starts n None
  sought-end h raw laid =
      let l : length raw ≤ k = omega (arith, laid.count) in
      sym (ap found (sought raw laid ∙ first-end garbled [] raw k l))

  module _ (all : Bytes) (is : OfLines scratch starts n (λ raw. all ≡ flat raw)) (h : k < n) (b : Bool) (e : b ≡ garbled_in (not (any is_control all)) (line_at scratch starts k)) where
    line-garbled : (raw : List Bytes) → Laid raw n scratch starts → garbled (get_or raw k []) ≡ b
    line-garbled raw laid =
        unasked (not (any is_control all)) raw k (ap (λ x. not (any is_control x)) (is raw laid))
        ∙ ap (garbled_in (not (any is_control all))) (sym (line-is raw n scratch starts laid k h))
        ∙ sym e

    pub sought-on : b ≡ false → Sought scratch starts n (k + 1)
    sought-on f raw laid =
        let l : k < length raw = omega (arith, laid.count) in
        sought raw laid ∙ first_on garbled [] raw k l (line-garbled raw laid ∙ f)

    pub sought-here : b ≡ true → TellsGarbled scratch starts n (Some (k + 1))
    sought-here t raw laid =
        let l : k < length raw = omega (arith, laid.count) in
        sym (ap found (sought raw laid ∙ first-here garbled [] raw k l (line-garbled raw laid ∙ t)))
