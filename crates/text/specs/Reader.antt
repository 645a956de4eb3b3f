-- Readers of a byte list: what was read and the rest, or the rest from the first byte that does not fit.
-- Both grammars (JSON and vCard lines) are written with these few forms, so that code is proved against one set of laws.
use Rattle.std.specs.Prelude.{Bool, ℕ, zero, suc, length}
use mathlib.Core.List.{[], ◌∷◌, tail}
use Rattle.text.specs.Choice.{pick}
use Rattle.text.specs.Bytes.{Bytes, is}

pub data Got (A : Type 0) : Type 0 where
  got : A → Bytes → Got A
  bad : Bytes → Got A

abbrev pub bind : {A B : Type 0} → Got A → (A → Bytes → Got B) → Got B
bind (got a t) k = k a t
bind (bad t) k = bad t

abbrev pub under : {A B : Type 0} → (A → B) → Got A → Got B
under f (got a t) = got (f a) t
under f (bad t) = bad t

-- the first byte, and 256, which is no byte, where there is none
abbrev pub first : Bytes → ℕ
first [] = 256
first (c ∷ s) = c

-- by the first byte: with it and what follows, or with all of it
unfoldable pub on : {A : Type 0} → (ℕ → Bool) → (ℕ → Bytes → Got A) → (Bytes → Got A) → Bytes → Got A
on p f g t = pick (p (first t)) (f (first t) (tail t)) (g t)

-- by the first byte, which is left where it is
unfoldable pub when : {A : Type 0} → (ℕ → Bool) → (Bytes → Got A) → (Bytes → Got A) → Bytes → Got A
when p f g t = pick (p (first t)) (f t) (g t)

-- a loop's turn: it adds to what the later turns read, or it is the last
pub data Step (B : Type 0) : Type 0 where
  more : (B → B) → Step B
  last : B → Step B

abbrev pub after : {B : Type 0} → Step B → Bytes → (Bytes → Got B) → Got B
after (more g) t k = under g (k t)
after (last b) t k = got b t

unfoldable pub turns : {B : Type 0} → (Bytes → Got (Step B)) → ℕ → Bytes → Got B
turns f zero s = bad s
turns f (suc n) s = bind (f s) (λ w t. after w t (turns f n))

-- every turn but the last takes one byte at least, so these turns are enough
unfoldable pub loop : {B : Type 0} → (Bytes → Got (Step B)) → Bytes → Got B
loop f s = turns f (suc (length s)) s

-- what passes a test at the front, and the rest
unfoldable pub taken : (ℕ → Bool) → Bytes → Bytes
taken p [] = []
taken p (c ∷ s) = pick (p c) (c ∷ taken p s) []

unfoldable pub past : (ℕ → Bool) → Bytes → Bytes
past p [] = []
past p (c ∷ s) = pick (p c) (past p s) (c ∷ s)

-- the byte b
unfoldable pub one : ℕ → Bytes → Got ℕ
one b = on (is b) got bad

-- one byte at least that passes a test, and as many as follow
unfoldable pub some_of : (ℕ → Bool) → Bytes → Got Bytes
some_of p = when p (λ t. got (taken p t) (past p t)) bad

-- as many bytes as pass a test, perhaps none
unfoldable pub run_of : (ℕ → Bool) → Bytes → Got Bytes
run_of p t = got (taken p t) (past p t)
