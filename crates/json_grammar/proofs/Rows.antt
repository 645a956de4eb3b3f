-- Rows of readers: one byte of a class, what ends a row, and that there is something to read.
use mathlib.Core.Path.{◌≡◌, refl, ap, ◌∙◌}
use mathlib.Core.Bool.{Bool, true, false}
use mathlib.Core.List.{[], ◌∷◌, ◌++◌, append_assoc}
use Prim.Native.Nat.{ℕ}
use lib.Dec.{eqb}
use borrow.Author.Tests.{eqb-true}
use Rattle.text.specs.Bytes.{Bytes, is}
use Rattle.text.specs.Reader.{Got, got, bad, bind, under, on, one}
use Rattle.json_text.specs.Grammar.{Lang, One, ◌then◌, Many, none_more, one_more}
use Rattle.json_grammar.proofs.Forms.{Reads, reads-got, reads-bad, reads-under, reads-bind}
use Rattle.json_grammar.proofs.Tests.{reads_on, reads_same}

-- one byte of a class
pub reads-class : {A : Type 0} {L : A → Lang} (p : ℕ → Bool) (k : ℕ → A) → p 256 ≡ false → ((c : ℕ) → p c ≡ true → L (k c) (c ∷ [])) → Reads L (on p (λ c t. got (k c) t) bad)
reads-class {A} {L} p k z l = reads_on p z (λ c h. reads-got (k c) (l c h)) (λ c h. (k c, [], l c h)) (reads-bad {L = λ x u. ⊥}) (λ a u h e. absurd e)

pub reads-one : (b : ℕ) → eqb 256 b ≡ false → Reads (λ (c : ℕ). One (is b)) (one b)
unfolding one
reads-one b z = reads-class (is b) (λ c. c) z (λ c h. (c, refl, h))

-- the last of a row
bind-got : {A B : Type 0} (f : A → B) (x : Got A) → bind x (λ a t. got (f a) t) ≡ under f x
bind-got f (got a t) = refl
bind-got f (bad t) = refl

pub reads-last : {A B : Type 0} {L : Lang} {R : Bytes → Got A} (f : A → B) → Reads (λ (a : A). L) R → Reads (λ (b : B). L) (λ s. bind (R s) (λ a t. got (f a) t))
reads-last {A} {B} {L} {R} f r = reads_same (λ s. bind-got f (R s)) (reads-under f (λ a u l. l) r)

-- there is something of a set
abbrev pub Has : Lang → Type 0
Has L = (v : Bytes) × L v

pub has-then : {P Q : Lang} → Has P → Has Q → Has (P then Q)
has-then p q = (p.0 ++ q.0, (p.0, q.0, refl, p.1, q.1))

pub a_byte : (p : ℕ → Bool) (c : ℕ) → p c ≡ true → Has (One p)
a_byte p c h = (c ∷ [], (c, refl, h))

-- a row of readers that each read one set
pub reads-row : {A B : Type 0} {P Q : Lang} {R : Bytes → Got A} {K : A → Bytes → Got B} → B → Reads (λ (a : A). P) R → Has Q → ((a : A) → Reads (λ (b : B). Q) (K a)) → Reads (λ (b : B). P then Q) (λ s. bind (R s) K)
reads-row b r h k = reads-bind r k (b, h.0, h.1)

-- ---- sets

-- a byte before
pub byte-then : {Q : Lang} (p : ℕ → Bool) (c : ℕ) (u : Bytes) → p c ≡ true → Q u → (One p then Q) (c ∷ u)
byte-then p c u h q = (c ∷ [], u, refl, (c, refl, h), q)

pub one-is : (b : ℕ) (u : Bytes) → One (is b) u → u ≡ b ∷ []
one-is b u x = x.1 ∙ ap (λ (c : ℕ). c ∷ []) (eqb-true x.0 b x.2)

pub then_is : {P Q : Lang} (x y : Bytes) → ((u : Bytes) → P u → u ≡ x) → ((u : Bytes) → Q u → u ≡ y) → (u : Bytes) → (P then Q) u → u ≡ x ++ y
then_is x y f g u m = m.2 ∙ ap (λ (z : Bytes). z ++ m.1) (f m.0 m.3) ∙ ap (λ (z : Bytes). x ++ z) (g m.1 m.4)

pub many-append : {P : Lang} (a b : Bytes) → Many P a → Many P b → Many P (a ++ b)
many-append a b (none_more s e) m = rw e m
many-append a b (one_more s x y e p ps) m = one_more (a ++ b) x (y ++ b) (ap (λ (z : Bytes). z ++ b) e ∙ append_assoc x y b) p (many-append y b ps m)
