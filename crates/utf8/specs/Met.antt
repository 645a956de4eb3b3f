-- What a reader of characters answers, by place.
use Rattle.std.specs.Prelude.{◌≡◌, Bool, true, false, ℕ, ◌+◌, ◌≤◌, ◌<◌, length, drop}
use Rattle.text.specs.Bytes.{Bytes}
use Rattle.text.specs.Utf8.{Due, start, due, at_start, tails, run}
use Rattle.text.specs.Places.{Read}
use Rattle.std.specs.Prelude.{Ok, Err}

-- from a on there are whole characters where there are from b on
abbrev pub Alike : Bytes → ℕ → ℕ → Type 0
Alike s a b = run start (drop a s) ≡ run start (drop b s)

-- a byte from low to high is due: it stands there, or no whole characters follow
abbrev pub NextIs : Bytes → ℕ → ℕ → ℕ → Bool → Type 0
NextIs s at low high true = (at < length s) × ((k : ℕ) → run (due low high k) (drop at s) ≡ run (tails k) (drop (at + 1) s))
NextIs s at low high false = (k : ℕ) → at_start (run (due low high k) (drop at s)) ≡ false

-- what is due stands there, and a character may begin after it; or no whole characters follow
abbrev pub Met : Due → Bytes → ℕ → Read → Type 0
Met d s at (Ok e) = (at ≤ e) × (e ≤ length s) × (run d (drop at s) ≡ run start (drop e s))
Met d s at (Err x) = at_start (run d (drop at s)) ≡ false

-- the same for one character
abbrev pub OneMore : Bytes → ℕ → Read → Type 0
OneMore s at (Ok e) = (at < e) × (e ≤ length s) × Alike s at e
OneMore s at (Err x) = at_start (run start (drop at s)) ≡ false
