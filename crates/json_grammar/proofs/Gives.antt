-- The other way: a reader gives something for every word of a set, and leaves what follows. Rows, and strings.
use mathlib.Core.Path.{◌≡◌, refl, sym, ap, subst, ◌∙◌}
use mathlib.Core.Bool.{true}
use mathlib.Core.List.{[], ◌∷◌, ◌++◌, append_assoc}
use mathlib.Core.Logic.{◌⊎◌, inl, inr}
use Prim.Native.Nat.{ℕ, zero, suc, ◌+◌, ◌*◌, ◌≤◌}
use native.Mathlib.Omega.{arith}
use lib.ListN.{length}
use borrow.Author.Tests.{lt-ltb, le-ltb}
use Rattle.text.specs.Bytes.{Bytes, is, between}
use Rattle.text.specs.Utf8.{Due, start, due, broken, lead, tails, next, run, at_start}
use Rattle.text.specs.Reader.{Got, got, bind, under, on, Step, more, last, turns, loop}
use Rattle.text.proofs.Cases.{by_bool, not-both, implied, other, tests, testing, beyond}
use Rattle.text.proofs.Characters.{utf8-run, run-utf8, not_start, lead-no-start}
use Rattle.text.proofs.Readers.{takes-moves, loop-enough, turns_more, turns-last}
use Rattle.json_text.specs.Grammar.{Lang, One, ◌then◌, Many, none_more, one_more, is_hex, is_short, is_plain, Wide, Character}
use Rattle.json_text.specs.Syntax.{hex_val, hex, hex4, short, escape, is_lead, tail_bytes, following, push, character, characters}
use Rattle.json_text.proofs.Takes.{takes-character}
use Rattle.json_grammar.proofs.Tests.{on-yes, on-no}
use Rattle.json_grammar.proofs.Turns.{Loop}
use Rattle.json_grammar.proofs.Rows.{one-is}
use Rattle.json_grammar.proofs.Units.{Rest, not-due, Escape, Turn}

pub record Gives {A : Type 0} (R : Bytes → Got A) (u w : Bytes) : Type 0 where
  pub what : A
  pub gives : R (u ++ w) ≡ got what w

-- ---- rows

pub gives-bind : {A B : Type 0} {R : Bytes → Got A} {K : A → Bytes → Got B} (u v w : Bytes) → Gives R u (v ++ w) → ((a : A) → Gives (K a) v w) → Gives (λ s. bind (R s) K) (u ++ v) w
gives-bind u v w x k = record { what = (k x.what).what; gives = rw (append_assoc u v w, x.gives) (k x.what).gives }

gives_row : {A B : Type 0} {P Q : Lang} {R : Bytes → Got A} {K : A → Bytes → Got B} → ((u w : Bytes) → P u → Gives R u w) → ((a : A) (u w : Bytes) → Q u → Gives (K a) u w)
    → (u w : Bytes) → (P then Q) u → Gives (λ s. bind (R s) K) u w
gives_row {A} {B} {P} {Q} {R} {K} r k u w x = subst (λ (z : Bytes). Gives (λ s. bind (R s) K) z w) (sym x.2) (gives-bind x.0 x.1 w (r x.0 (x.1 ++ w) x.3) (λ a. k a x.1 w x.4))

pub gives-last : {A B : Type 0} {R : Bytes → Got A} (f : A → B) (u w : Bytes) → Gives R u w → Gives (λ s. bind (R s) (λ a t. got (f a) t)) u w
gives-last f u w x = record { what = f x.what; gives = rw x.gives }

-- ---- escapes

hex-all : (u w : Bytes) → One is_hex u → Gives hex u w
unfolding hex
hex-all u w x = record { what = hex_val x.0; gives = rw x.1 (on-yes is_hex _ _ x.0 w x.2) }

hex4-all : (u w : Bytes) → (One is_hex then One is_hex then One is_hex then One is_hex) u → Gives hex4 u w
unfolding hex4
hex4-all = gives_row hex-all λ a. gives_row hex-all λ b. gives_row hex-all λ c. λ u w x. gives-last (λ d. a * 4096 + b * 256 + c * 16 + d) u w (hex-all u w x)

escape-all : (u w : Bytes) → Escape u → Gives escape u w
unfolding escape is_short
escape-all u w (inl x) =
    record { what = short x.0; gives = rw x.1 (on-no (is 117) _ _ (x.0 ∷ w) (other is_short x.0 117 x.2 refl) ∙ on-yes is_short _ _ x.0 w x.2) }
escape-all u w (inr x) =
    let h = hex4-all x.1 w x.4 in
    record { what = 256 + h.what; gives = rw (x.2, one-is 117 x.0 x.3) (on-yes (is 117) _ _ 117 (x.1 ++ w) refl ∙ ap (under (λ v. 256 + v)) h.gives) }

-- ---- characters of several bytes

rest-next : (low high k c : ℕ) (u : Bytes) → between low high c ≡ true → Rest (due low high k) (c ∷ u) → Rest (tails k) u
unfolding Rest run next
rest-next low high k c u h r = (rw h at r.0, λ a b e q. r.1 (c ∷ a) b (ap (λ (z : Bytes). c ∷ z) e) (rw h q))

rest_in : (low high k c : ℕ) (u : Bytes) → Rest (due low high k) (c ∷ u) → between low high c ≡ true
unfolding Rest run next
rest_in low high k c u r = by_bool (between low high c) (λ h. h) (λ h. absurd (not_start u (rw h at r.0)))

rest_some : (low high k : ℕ) → Rest (due low high k) [] → ⊥
unfolding Rest run
rest_some low high k r = not-due r.0

rest-none : (u : Bytes) → Rest start u → u ≡ []
unfolding Rest run
rest-none u r = r.1 [] u refl refl

tails-all : (k : ℕ) (u w : Bytes) → Rest (tails k) u → tail_bytes k (u ++ w) ≡ got u w
unfolding tail_bytes
tails-all zero u w r = rw (rest-none u r)
tails-all (suc k) [] w r = absurd (rest_some 0x80 0xbf k r)
tails-all (suc k) (c ∷ u) w r =
    let h = rest_in 0x80 0xbf k c u r in
    on-yes (between 0x80 0xbf) _ _ c (u ++ w) h ∙ ap (under (λ cs. c ∷ cs)) (tails-all k u w (rest-next 0x80 0xbf k c u h r))

following-all : (low high k : ℕ) (u w : Bytes) → Rest (due low high k) u → following (due low high k) (u ++ w) ≡ got u w
unfolding following
following-all low high k [] w r = absurd (rest_some low high k r)
following-all low high k (c ∷ u) w r =
    let h = rest_in low high k c u r in
    on-yes (between low high) _ _ c (u ++ w) h ∙ ap (under (λ cs. c ∷ cs)) (tails-all k u w (rest-next low high k c u h r))

-- ---- one character

abbrev Goes : {B : Type 0} → (Bytes → Got (Step B)) → Bytes → Bytes → Type 0
Goes {B} f s w = (g : B → B) × (f s ≡ got (more g) w)

-- neither quote, backslash nor a byte by itself
high : (c : ℕ) (s : Bytes) → 128 ≤ c → is_lead c ≡ true → character (c ∷ s) ≡ under (λ cs. more (λ us. c ∷ (cs ++ us))) (following (lead c) s)
unfolding character
high c s l h =
    on-no (is 34) _ _ (c ∷ s) (omega testing) ∙ on-no (is 92) _ _ (c ∷ s) (omega testing) ∙ on-no (between 32 127) _ _ (c ∷ s) (beyond 32 127 c l) ∙ on-yes is_lead _ _ c s h

wide-rest : (c : ℕ) (u : Bytes) → Wide (c ∷ u) → Rest (lead c) u
unfolding Wide Rest run next
wide-rest c u x = (utf8-run (c ∷ u) x.0, λ a b e q. only a b (x.3 (c ∷ a) b (ap (λ (z : Bytes). c ∷ z) e) (run-utf8 (c ∷ a) q)))
  where
    only : (a b : Bytes) → (c ∷ a ≡ []) ⊎ (b ≡ []) → b ≡ []
    only a b (inl e) = let r : suc (length a) ≡ 0 = ap length e in absurd (omega arith)
    only a b (inr e) = e

wide-all : (u w : Bytes) → Wide u → Goes character (u ++ w) w
unfolding Wide is_lead Rest
wide-all [] w x = absurd (omega (arith, x.2))
wide-all (c ∷ u) w x = by (lead c) refl (wide-rest c u x)
  where
    by : (d : Due) → lead c ≡ d → Rest d u → Goes character (c ∷ u ++ w) w
    by start e r = not-both (ap at_start e) (lead-no-start c (le-ltb c 128 x.1))
    by (due low high' k) e r =
        ((λ us. c ∷ (u ++ us)), high c (u ++ w) x.1 (rw (lt-ltb 127 c x.1, e)) ∙ ap (λ d. under (λ cs. more (λ us. c ∷ (cs ++ us))) (following d (u ++ w))) e ∙ ap (under (λ cs. more (λ us. c ∷ (cs ++ us)))) (following-all low high' k u w r))
    by broken e r = absurd (not_start u r.0)

plain-all : (c : ℕ) (s : Bytes) → is_plain c ≡ true → character (c ∷ s) ≡ got (push c) s
unfolding character is_plain between
plain-all c s h =
    on-no (is 34) _ _ (c ∷ s) (other is_plain c 34 h refl) ∙ on-no (is 92) _ _ (c ∷ s) (other is_plain c 92 h refl)
    ∙ on-yes (between 32 127) _ _ c s (implied is_plain (between 32 127) 128 c refl (λ l. rw (beyond 32 33 c (omega tests), beyond 35 91 c (omega tests), beyond 93 127 c (omega tests))) h)

slash : (u s w : Bytes) → Gives escape u w → s ≡ 92 ∷ (u ++ w) → Goes character s w
unfolding character
slash u s w x e = ((λ us. x.what ∷ us), rw e (on-no (is 34) _ _ (92 ∷ (u ++ w)) refl ∙ on-yes (is 92) _ _ 92 (u ++ w) refl ∙ ap (under push) x.gives))

slashed : {Q : Lang} (u w : Bytes) → (One (is 92) then Q) u → ((v : Bytes) → Q v → Escape v) → Goes character (u ++ w) w
slashed u w x h = slash x.1 (u ++ w) w (escape-all x.1 w (h x.1 x.4)) (ap (λ (z : Bytes). z ++ w) (x.2 ∙ ap (λ (z : Bytes). z ++ x.1) (one-is 92 x.0 x.3)))

character-all : (u w : Bytes) → Character u → Goes character (u ++ w) w
unfolding Character
character-all u w (inl x) = ((λ us. x.0 ∷ us), rw x.1 (plain-all x.0 w x.2))
character-all u w (inr (inl x)) = wide-all u w x
character-all u w (inr (inr (inl x))) = slashed u w x (λ v q. inl q)
character-all u w (inr (inr (inr x))) = slashed u w x (λ v q. inr q)

quote-all : (w : Bytes) → character (34 ∷ w) ≡ got (last []) w
unfolding character on
quote-all w = refl

-- ---- strings

-- in some number of turns
abbrev pub Runs : {B : Type 0} → (Bytes → Got (Step B)) → Bytes → Bytes → Type 0
Runs {B} f s w = (n : ℕ) × (b : B) × (turns f n s ≡ got b w)

runs-all : (u w : Bytes) → Many Character u → Runs character (u ++ 34 ∷ w) w
runs-all u w (none_more s e) = (1, [], turns-last character 0 (u ++ 34 ∷ w) w [] (ap (λ (z : Bytes). character (z ++ 34 ∷ w)) e ∙ quote-all w))
runs-all u w (one_more s a b e p ps) =
    let r = runs-all b w ps in
    let c = character-all a (b ++ 34 ∷ w) p in
    (suc r.0, c.0 r.1, turns_more character r.0 (u ++ 34 ∷ w) (b ++ 34 ∷ w) c.0 r.1 w (ap character (ap (λ (z : Bytes). z ++ 34 ∷ w) e ∙ append_assoc a b (34 ∷ w)) ∙ c.1) r.2)

pub characters-all : (u w : Bytes) → Loop Turn u → Gives characters u w
unfolding characters
characters-all u w x =
    let r = runs-all x.0 w x.3 in
    let e : u ++ w ≡ x.0 ++ 34 ∷ w = ap (λ (z : Bytes). z ++ w) (x.2 ∙ ap (λ (z : Bytes). x.0 ++ z) (one-is 34 x.1 x.4)) ∙ append_assoc x.0 (34 ∷ []) w in
    record { what = r.1; gives = ap (loop character) e ∙ loop-enough character (takes-moves character takes-character) r.0 (x.0 ++ 34 ∷ w) r.1 w r.2 }
