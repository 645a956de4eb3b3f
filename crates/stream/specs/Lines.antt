-- What the plain reader does at a line's end, in 01's words and for every line, cut anywhere: in an open card of any length, and outside one.
use Rattle.std.specs.Prelude.{◌≡◌, true, not, [], ◌∷◌, ◌++◌, ◌⊎◌, ℕ, suc, length, eqb}
use Rattle.std.proofs.Math.Option.{Option, none, some}
use Rattle.text.specs.Bytes.{Bytes, ascii, all, lowered}
use Rattle.line.specs.Physical.{without_cr}
use Rattle.stream.specs.Plain.{Reader, Tells, more, refuses, closes}
use Rattle.stream.specs.Calls.{piece, asked}

-- a line's bytes w without LF, and the CR before its LF if there is one: "a CR just before belongs to the end"
pub record LineText (w cr : Bytes) : Type 0 where
  pub no-lf : all (λ c. not (eqb c 10)) w ≡ true
  pub line-end : ((cr ≡ []) × (without_cr w ≡ w)) ⊎ (cr ≡ 13 ∷ [])

-- the line, begun in a and ended by a piece b, is read: its answer, and the reader after it
abbrev pub Reads : (stem : Bytes) (card : Option Bytes) (a b : Bytes) (n : ℕ) → Tells → Reader → Type 0
Reads stem card a b n t r = asked (piece stem (b ++ 10 ∷ [])) (record { card = card; begun = a; number = n }) ≡ record { what = t; consumed = suc (length b); then = r }

pub record LinesRead : Type 0 where
  -- "Outside a card, BEGIN:VCARD opens one with the next number"
  pub begin-outside : (stem a b w cr : Bytes) (n : ℕ) → LineText w cr → a ++ b ≡ w ++ cr → lowered w ≡ ascii "begin:vcard"
      → Reads stem none a b n more (record { card = some (w ++ cr ++ 10 ∷ []); begun = []; number = suc n })
  -- "an empty line goes"
  pub empty-outside : (stem a b cr : Bytes) (n : ℕ) → LineText [] cr → a ++ b ≡ cr → Reads stem none a b n more (record { card = none; begun = []; number = n })
  -- "any other answers 1"
  pub other-outside : (stem a b w cr : Bytes) (n : ℕ) → LineText w cr → a ++ b ≡ w ++ cr → (w ≡ [] → ⊥) → (lowered w ≡ ascii "begin:vcard" → ⊥)
      → Reads stem none a b n (refuses 1) (record { card = none; begun = []; number = n })
  -- "Inside, it answers 2 and opens the next"
  pub begin-inside : (stem c a b w cr : Bytes) (n : ℕ) → LineText w cr → a ++ b ≡ w ++ cr → lowered w ≡ ascii "begin:vcard"
      → Reads stem (some c) a b n (refuses 2) (record { card = some (w ++ cr ++ 10 ∷ []); begun = []; number = suc n })
  -- "END:VCARD closes it, whole (BEGIN to END, line ends included)"
  pub end-inside : (stem c a b w cr : Bytes) (n : ℕ) → LineText w cr → a ++ b ≡ w ++ cr → lowered w ≡ ascii "end:vcard"
      → Reads stem (some c) a b n (closes (record { bytes = c ++ (w ++ cr ++ 10 ∷ []); stem = stem; number = n })) (record { card = none; begun = []; number = n })
  -- "Any other line joins the card": an empty one too
  pub other-inside : (stem c a b w cr : Bytes) (n : ℕ) → LineText w cr → a ++ b ≡ w ++ cr → (lowered w ≡ ascii "begin:vcard" → ⊥) → (lowered w ≡ ascii "end:vcard" → ⊥)
      → Reads stem (some c) a b n more (record { card = some (c ++ (w ++ cr ++ 10 ∷ [])); begun = []; number = n })
