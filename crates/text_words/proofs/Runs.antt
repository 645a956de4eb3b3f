-- A run of bytes that pass a test, by words and by bytes.
use mathlib.Core.Path.{◌≡◌, refl, sym, ap, subst, ◌∙◌}
use mathlib.Core.Bool.{Bool, true, false}
use mathlib.Core.List.{[], ◌∷◌}
use Prim.Native.Nat.{ℕ, zero, suc, ◌+◌, ◌-◌, ◌≤◌, ◌<◌}
use native.Mathlib.Nat.{add-zero}
use native.Mathlib.Omega.{arith}
use native.Mathlib.Numerals.{add-one}
use lib.ListN.{length, drop, get_or, length-drop, drop_of_length-le}
use lib.Seq.{drop-cons, drop-drop, get_or-drop}
use Rattle.text.specs.Bytes.{Bytes}
use Rattle.text.specs.Reader.{taken}
use Rattle.text.proofs.Cases.{by_bool}
use Rattle.text_words.specs.Words.{word, Loaded, mark, passing, Marks, FirstMark}
use Rattle.text_words.proofs.Firsts.{none-marked, some-marked}

-- ---- by bytes

module _ (p : ℕ → Bool) where
  taken-cons : (c : ℕ) (s : Bytes) → p c ≡ true → length (taken p (c ∷ s)) ≡ suc (length (taken p s))
  unfolding taken
  taken-cons c s e = rw e

  taken-stop : (c : ℕ) (s : Bytes) → p c ≡ false → length (taken p (c ∷ s)) ≡ 0
  unfolding taken
  taken-stop c s e = rw e

  taken-nil : length (taken p []) ≡ 0
  unfolding taken
  taken-nil = refl

  -- where the run of a text from a place on ends
  abbrev pub run_end : Bytes → ℕ → ℕ
  run_end s i = i + length (taken p (drop i s))

  pub run_on : (s : Bytes) (i : ℕ) → i < length s → p (get_or s i 0) ≡ true → run_end s i ≡ run_end s (i + 1)
  run_on s i h e =
      let a : length (taken p (drop i s)) ≡ suc (length (taken p (drop (i + 1) s))) = rw (drop-cons s i 0, add-one) (taken-cons _ _ e) in
      omega arith

  pub run-stops : (s : Bytes) (i : ℕ) → i < length s → p (get_or s i 0) ≡ false → run_end s i ≡ i
  run-stops s i h e = let a : length (taken p (drop i s)) ≡ 0 = rw (drop-cons s i 0) (taken-stop _ _ e) in omega arith

  pub run_out : (s : Bytes) (i : ℕ) → length s ≤ i → run_end s i ≡ i
  run_out s i h = let a : length (taken p (drop i s)) ≡ 0 = rw (drop_of_length-le s h) taken-nil in omega arith

  -- ---- by words

  whole_run : (n : ℕ) (l : Bytes) → n ≤ length l → passing n (λ i. p (get_or l i 0)) ≡ n → length (taken p l) ≡ n + length (taken p (drop n l))
  unfolding passing
  whole_run zero l h e = omega arith
  whole_run (suc n) [] h e = absurd (omega arith)
  whole_run (suc n) (c ∷ l) h e =
      by_bool (p c)
      (λ q. let y : suc (passing n (λ i. p (get_or l i 0))) ≡ suc n = rw q at e in let z = whole_run n l (omega arith) (omega arith) in taken-cons c l q ∙ omega arith)
      (λ q. let y : 0 ≡ suc n = rw q at e in absurd (omega arith))

  part-run : (n : ℕ) (l : Bytes) → n ≤ length l → passing n (λ i. p (get_or l i 0)) < n → length (taken p l) ≡ passing n (λ i. p (get_or l i 0))
  unfolding passing
  part-run zero l h e = absurd (omega arith)
  part-run (suc n) [] h e = absurd (omega arith)
  part-run (suc n) (c ∷ l) h e =
      by_bool (p c)
      (λ q. let y : suc (passing n (λ i. p (get_or l i 0))) < suc n = rw q at e in rw q (taken-cons c l q ∙ ap suc (part-run n l (omega arith) (omega arith))))
      (λ q. rw q (taken-stop c l q))

  module _ (s : Bytes) (i : ℕ) (l : i + 8 ≤ length s) where
    -- the bytes of the word at a place
    abbrev pub bytes : ℕ → ℕ
    bytes k = get_or (drop i s) k 0

    enough : 8 ≤ length (drop i s)
    enough = rw (length-drop i s) (omega arith)

    pub word-passes : word 8 (λ k. mark (p (bytes k))) ≡ 0 → run_end s i ≡ run_end s (i + 8)
    word-passes e =
        let a = whole_run 8 (drop i s) enough (none-marked 8 (λ k. p (bytes k)) e) in
        let b : length (taken p (drop 8 (drop i s))) ≡ length (taken p (drop (i + 8) s)) = rw (drop-drop 8 i s) in
        omega arith

    pub word-stops : (word 8 (λ k. mark (p (bytes k))) ≡ 0 → ⊥) → run_end s i ≡ i + passing 8 (λ k. p (bytes k))
    word-stops e = ap (λ (x : ℕ). i + x) (part-run 8 (drop i s) enough (some-marked 8 (λ k. p (bytes k)) e))

-- ---- what a run's end says

within_in : (p : ℕ → Bool) (l : Bytes) → length (taken p l) ≤ length l
unfolding taken
within_in p [] = omega arith
within_in p (c ∷ l) = by_bool (p c) (λ e. rw e (omega (arith, within_in p l))) (λ e. rw e (omega arith))

pub run-within : (p : ℕ → Bool) (s : Bytes) (i : ℕ) → i ≤ length s → run_end p s i ≤ length s
run-within p s i h = omega (arith, within_in p (drop i s), length-drop i s)

each_in : (p : ℕ → Bool) (l : Bytes) (k : ℕ) → k < length (taken p l) → p (get_or l k 0) ≡ true
unfolding taken
each_in p [] k h = absurd (omega arith)
each_in p (c ∷ l) zero h = by_bool (p c) (λ e. e) (λ e. let z : 0 < 0 = rw e at h in absurd (omega arith))
each_in p (c ∷ l) (suc k) h =
    by_bool (p c)
    (λ e. let z : suc k < suc (length (taken p l)) = rw e at h in each_in p l k (omega arith))
    (λ e. let z : suc k < 0 = rw e at h in absurd (omega arith))

-- each byte of the run passes
pub run-each : (p : ℕ → Bool) (s : Bytes) (i k : ℕ) → i ≤ k → k < run_end p s i → p (get_or s k 0) ≡ true
run-each p s i k l h =
    let e : i + (k - i) ≡ k = omega arith in
    let a : p (get_or (drop i s) (k - i) 0) ≡ true = each_in p (drop i s) (k - i) (omega arith) in
    rw (get_or-drop, e) at a

stops-in : (p : ℕ → Bool) (l : Bytes) → length (taken p l) < length l → p (get_or l (length (taken p l)) 0) ≡ false
unfolding taken
stops-in p [] h = absurd (omega arith)
stops-in p (c ∷ l) h =
    by_bool (p c)
    (λ e. let z : suc (length (taken p l)) < suc (length l) = rw e at h in rw e (stops-in p l (omega arith)))
    (λ e. rw e e)

-- the byte at its end does not
pub run-last : (p : ℕ → Bool) (s : Bytes) (i : ℕ) → i ≤ length s → run_end p s i < length s → p (get_or s (run_end p s i) 0) ≡ false
run-last p s i l h =
    let b = length-drop i s in
    let a : p (get_or (drop i s) (length (taken p (drop i s))) 0) ≡ false = stops-in p (drop i s) (omega arith) in
    rw get_or-drop at a

-- what holds at its start, and is handed on over each byte that passes, holds at its end
chain-to : (P : ℕ → Type 0) (p : ℕ → Bool) (s : Bytes) (at n : ℕ) → at + n ≤ run_end p s at → P at
    → ((k : ℕ) → at ≤ k → k < run_end p s at → p (get_or s k 0) ≡ true → P k → P (k + 1)) → P (at + n)
chain-to P p s at zero l h g = subst P (sym (add-zero at)) h
chain-to P p s at (suc n) l h g =
    let e : at + n + 1 ≡ at + suc n = omega arith in
    subst P e (g (at + n) (omega arith) (omega arith) (run-each p s at (at + n) (omega arith) (omega arith)) (chain-to P p s at n (omega arith) h g))

pub run-chain : (P : ℕ → Type 0) (p : ℕ → Bool) (s : Bytes) (at : ℕ) → at ≤ length s → P at
    → ((k : ℕ) → at ≤ k → k < length s → p (get_or s k 0) ≡ true → P k → P (k + 1)) → P (run_end p s at)
run-chain P p s at l h g =
    chain-to P p s at (length (taken p (drop at s))) (omega arith) h (λ k a b e x. g k a (omega (arith, run-within p s at l)) e x)

-- ---- the turns of a loop over words, for any test

module _ (p : ℕ → Bool) (s : Bytes) (i w m : ℕ) (load : Loaded 8 s i w) (mk : Marks p w m) where
  marked : m ≡ word 8 (λ k. mark (p (get_or (drop i s) k 0)))
  marked = mk (λ k. get_or (drop i s) k 0) load.small load.is

  pub turn_on : i + 8 ≤ length s → m ≡ 0 → run_end p s i ≡ run_end p s (i + 8)
  turn_on l e = word-passes p s i l (sym marked ∙ e)

  pub turn-stops : (k : ℕ) → FirstMark m k → i + 8 ≤ length s → (m ≡ 0 → ⊥) → run_end p s i ≡ i + k
  turn-stops k h l e = word-stops p s i l (λ z. e (marked ∙ z)) ∙ ap (λ (x : ℕ). i + x) (sym (h (λ j. p (get_or (drop i s) j 0)) marked))

  pub turn-within : (k : ℕ) → FirstMark m k → i + 8 ≤ length s → (m ≡ 0 → ⊥) → i + k ≤ length s
  turn-within k h l e = omega (arith, turn-stops k h l e, run-within p s i (omega arith))
