-- Texts that are written byte by byte, each byte as some bytes: they stay in UTF-8 where only ASCII bytes change, and pass tests byte by byte.
use mathlib.Core.Path.{◌≡◌, refl, sym, ap, ◌∙◌}
use mathlib.Core.Bool.{Bool, true, false, ◌&&◌}
use mathlib.Core.List.{[], ◌∷◌, ◌++◌}
use Prim.Native.Nat.{ℕ}
use native.Mathlib.Omega.{arith}
use lib.Dec.{eqb}
use borrow.Author.Tests.{ltb-false, le-ltb, ne_eqb}
use Rattle.text.specs.Bytes.{Bytes, all, between}
use Rattle.text.specs.Utf8.{Due, start, due, broken, lead, tails, next, run, utf8}
use Rattle.text.proofs.Cases.{by_bool, by_below, between-true, not-both}
use Rattle.text.proofs.Lists.{all_head, all_tail, all_both}
use Rattle.text.proofs.Characters.{run-append, utf8-run, run-utf8, not_start, later, later-lead, later-tails, later-bounds}
use Rattle.json_text.specs.Compact.{spelled, spelled_all}
use Rattle.line.specs.Text.{escape, write_text}
use Rattle.convert.specs.Pointer.{pointer}
use Rattle.convert.proofs.Pointers.{no_pointer, spelt}
use Rattle.home.proofs.Clean.{is_ascii, ascii_run, ascii-next}

due-step : (a b k c : ℕ) (s : Bytes) → between a b c ≡ true → run (due a b k) (c ∷ s) ≡ run (tails k) s
unfolding run next
due-step a b k c s q = rw q

module _ (f : ℕ → Bytes) (F : Bytes → Bytes) (none : F [] ≡ []) (step : (c : ℕ) (s : Bytes) → F (c ∷ s) ≡ f c ++ F s) where
  pub expand-all : (p q : ℕ → Bool) → ((c : ℕ) → p c ≡ true → all q (f c) ≡ true) → (s : Bytes) → all p s ≡ true → all q (F s) ≡ true
  unfolding all
  expand-all p q h [] k = rw none
  expand-all p q h (c ∷ s) k = rw (step c s) (all_both q (f c) (F s) (h c (all_head p c s k)) (expand-all p q h s (all_tail p c s k)))

  module _ (low : (c : ℕ) → is_ascii c ≡ true → all is_ascii (f c) ≡ true) (high : (c : ℕ) → is_ascii c ≡ false → f c ≡ c ∷ []) where
    expand-run : (d : Due) (s : Bytes) → later d ≡ true → run d s ≡ start → run d (F s) ≡ start
    unfolding run next
    expand-run d [] l u = rw none u
    expand-run start (c ∷ s) l u =
        by_bool (is_ascii c)
        (λ e. rw (step c s, run-append start (f c) (F s), ascii_run (f c) (low c e)) (expand-run start s refl (ap (λ (d : Due). run d s) (sym (ascii-next c e)) ∙ u)))
        (λ e. rw (step c s, high c e) (expand-run (lead c) s (later-lead c) u))
    expand-run (due a b k) (c ∷ s) l u =
        let m = later-bounds a b k l in
        by_bool (between a b c)
        (λ q. let n = between-true a b c q in rw (step c s, high c (le-ltb c 128 (omega (arith, m.0, n.0)))) (due-step a b k c (F s) q ∙ expand-run (tails k) s (later-tails k m.2) (rw q at u)))
        (λ q. absurd (not_start s (rw q at u)))
    expand-run broken (c ∷ s) l u = absurd (not_start s u)

    pub expand-utf8 : (s : Bytes) → utf8 s ≡ true → utf8 (F s) ≡ true
    expand-utf8 s u = run-utf8 (F s) (expand-run start s refl (utf8-run s u))

-- ---- TEXT

text-none : (k : Bool) → write_text k [] ≡ []
unfolding write_text
text-none k = refl

text-step : (k : Bool) (c : ℕ) (s : Bytes) → write_text k (c ∷ s) ≡ escape k c ++ write_text k s
unfolding write_text
text-step k c s = refl

escape-low : (k : Bool) (c : ℕ) → is_ascii c ≡ true → all is_ascii (escape k c) ≡ true
unfolding escape all
escape-low true c e = by_below (λ c. all is_ascii (escape true c)) (λ c. true) c 128 refl (λ l. not-both e l)
escape-low false c e = by_below (λ c. all is_ascii (escape false c)) (λ c. true) c 128 refl (λ l. not-both e l)

no-semi : (k : Bool) (c : ℕ) → eqb c 59 ≡ false → k && eqb c 59 ≡ false
no-semi true c e = e
no-semi false c e = refl

pub escape-high : (k : Bool) (c : ℕ) → is_ascii c ≡ false → escape k c ≡ c ∷ []
unfolding escape
escape-high k c l =
    let h = ltb-false c 128 l in
    rw (ne_eqb c 92 (omega arith), ne_eqb c 10 (omega arith), ne_eqb c 44 (omega arith), no-semi k c (ne_eqb c 59 (omega arith)))

pub text-utf8 : (k : Bool) (s : Bytes) → utf8 s ≡ true → utf8 (write_text k s) ≡ true
text-utf8 k = expand-utf8 (escape k) (write_text k) (text-none k) (text-step k) (escape-low k) (escape-high k)

pub text-all : (k : Bool) (p q : ℕ → Bool) → ((c : ℕ) → p c ≡ true → all q (escape k c) ≡ true) → (s : Bytes) → all p s ≡ true → all q (write_text k s) ≡ true
text-all k = expand-all (escape k) (write_text k) (text-none k) (text-step k)

-- ---- JSPTR

pointer-step : (c : ℕ) (s : Bytes) → pointer (c ∷ s) ≡ spelt c ++ pointer s
unfolding pointer
pointer-step c s = refl

coded-all : (q : ℕ → Bool) → q 126 ≡ true → q 48 ≡ true → q 49 ≡ true → (c : ℕ) → q c ≡ true → all q (spelt c) ≡ true
unfolding all
coded-all q a b d c h = by_bool (eqb c 126) (λ e. rw (e, a, b)) (λ e. by_bool (eqb c 47) (λ f. rw (e, f, a, d)) (λ f. rw (e, f, h)))

coded-high : (c : ℕ) → is_ascii c ≡ false → spelt c ≡ c ∷ []
coded-high c l = let h = ltb-false c 128 l in rw (ne_eqb c 126 (omega arith), ne_eqb c 47 (omega arith))

pub pointer-utf8 : (s : Bytes) → utf8 s ≡ true → utf8 (pointer s) ≡ true
pointer-utf8 = expand-utf8 spelt pointer no_pointer pointer-step (coded-all is_ascii refl refl refl) coded-high

pub pointer-all : (q : ℕ → Bool) → q 126 ≡ true → q 48 ≡ true → q 49 ≡ true → (s : Bytes) → all q s ≡ true → all q (pointer s) ≡ true
pointer-all q a b d = expand-all spelt pointer no_pointer pointer-step q q (coded-all q a b d)

-- ---- JSON strings

spelled_none : spelled_all [] ≡ []
unfolding spelled_all
spelled_none = refl

spelled_step : (c : ℕ) (s : Bytes) → spelled_all (c ∷ s) ≡ spelled c ++ spelled_all s
unfolding spelled_all
spelled_step c s = refl

spelled-low : (c : ℕ) → is_ascii c ≡ true → all is_ascii (spelled c) ≡ true
unfolding spelled all
spelled-low c e = by_below (λ c. all is_ascii (spelled c)) (λ c. true) c 128 refl (λ l. not-both e l)

pub spelled-high : (c : ℕ) → is_ascii c ≡ false → spelled c ≡ c ∷ []
unfolding spelled
spelled-high c l =
    let h = ltb-false c 128 l in
    rw (ne_eqb c 34 (omega arith), ne_eqb c 92 (omega arith), ne_eqb c 8 (omega arith), ne_eqb c 9 (omega arith), ne_eqb c 10 (omega arith), ne_eqb c 12 (omega arith), ne_eqb c 13 (omega arith), le-ltb c 32 (omega arith), ne_eqb c 127 (omega arith))

pub spelled-utf8 : (s : Bytes) → utf8 s ≡ true → utf8 (spelled_all s) ≡ true
spelled-utf8 = expand-utf8 spelled spelled_all spelled_none spelled_step spelled-low spelled-high

pub spelled-all : (p q : ℕ → Bool) → ((c : ℕ) → p c ≡ true → all q (spelled c) ≡ true) → (s : Bytes) → all p s ≡ true → all q (spelled_all s) ≡ true
spelled-all = expand-all spelled spelled_all spelled_none spelled_step
