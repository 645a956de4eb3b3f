-- What code that reads a text by places gives, said by a reader of lists (Reader.antt) at `drop at s`.
use Rattle.std.specs.Prelude.{◌≡◌, Bool, ℕ, ◌≤◌, ◌<◌, length, drop, get_or}
use Rattle.std.specs.Prelude.{Result, Ok, Err}
use Rattle.std.proofs.Common.{ControlFlow, Continue, Break}
use Rattle.text.specs.Bytes.{Bytes}
use Rattle.text.specs.Reader.{Got, got, bad, Step, more, last, past}

-- where a reader ended: the place after what it read, or the first place at which nothing can go on
abbrev pub Read : Type 0
Read = Result ℕ ℕ

-- how a loop's turn ended: it goes on at a place, or is done
abbrev pub Turn : Type 0
Turn = ControlFlow Read ℕ

-- the byte at a place, and 256, which is no byte, past the end
abbrev pub byte_at : Bytes → ℕ → ℕ
byte_at s i = get_or s i 256

-- the place lies from `at` to the end
abbrev pub Within : ℕ → ℕ → Read → Type 0
Within at n (Ok e) = (at ≤ e) × (e ≤ n)
Within at n (Err b) = (at ≤ b) × (b ≤ n)

abbrev pub WithinT : ℕ → ℕ → Turn → Type 0
WithinT at n (Continue j) = (at < j) × (j ≤ n)
WithinT at n (Break r) = Within at n r

-- an answer by place is an answer with what was read, less what was read
abbrev pub Agree : {A : Type 0} → Bytes → Got A → Read → Type 0
Agree s (got a t) (Ok e) = t ≡ drop e s
Agree s (got a t) (Err b) = ⊥
Agree s (bad t) (Ok e) = ⊥
Agree s (bad t) (Err b) = t ≡ drop b s

abbrev pub AgreeT : {B : Type 0} → Bytes → Got (Step B) → Turn → Type 0
AgreeT s (got (more g) t) (Continue j) = t ≡ drop j s
AgreeT s (got (more g) t) (Break r) = ⊥
AgreeT s (got (last b) t) (Continue j) = ⊥
AgreeT s (got (last b) t) (Break r) = Agree s (got b t) r
AgreeT {B = B} s (bad t) (Continue j) = ⊥
AgreeT {B = B} s (bad t) (Break r) = Agree {A = B} s (bad t) r

-- a function that reads s from `at` on answers r, where the reader of lists gives `want`
pub record Gives {A : Type 0} (s : Bytes) (at : ℕ) (want : Got A) (r : Read) : Type 0 where
  pub is : Agree s want r
  pub within : Within at (length s) r

pub record GivesT {B : Type 0} (s : Bytes) (at : ℕ) (want : Got (Step B)) (r : Turn) : Type 0 where
  pub is : AgreeT s want r
  pub within : WithinT at (length s) r

-- the place r after the bytes that pass a test
pub record Passes (p : ℕ → Bool) (s : Bytes) (at r : ℕ) : Type 0 where
  pub is : past p (drop at s) ≡ drop r s
  pub from : at ≤ r
  pub to : r ≤ length s
