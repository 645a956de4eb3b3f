-- BEGIN in an open card, in 01's words and for every open card: of any length, with any number, cut anywhere.
use Rattle.std.specs.Prelude.{◌≡◌, [], ◌∷◌, ◌++◌, ◌⊎◌, ℕ, suc, ◌+◌, ◌≤◌, length, drop, set, ltb}
use Rattle.std.proofs.Math.Option.{some}
use Rattle.text.specs.Choice.{pick}
use Rattle.text.specs.Bytes.{Bytes, ascii, lowered}
use Rattle.convert.specs.Answers.{no}
use Rattle.stream.specs.Plain.{Reader, refuses, Told}
use Rattle.stream.specs.Calls.{piece, end, shows, reply_of, asked}
use Rattle.stream.specs.Buffer.{buffer_by}

-- BEGIN:VCARD in any letter case, and the CR before its LF if there is one
pub record BeginLine (w cr : Bytes) : Type 0 where
  pub any-case : lowered w ≡ ascii "begin:vcard"
  pub line-end : (cr ≡ []) ⊎ (cr ≡ 13 ∷ [])

-- a card is open, and this much of a line is begun
abbrev pub inside : Bytes → Bytes → ℕ → Reader
inside c a n = record { card = some c; begun = a; number = n }

-- "answers 2 and opens the next", with so many bytes consumed
abbrev pub two-and-next : ℕ → Bytes → ℕ → Told
two-and-next k l n = record { what = refuses 2; consumed = k; then = record { card = some l; begun = []; number = suc n } }

-- "a consumed byte is stored in the card buffer at its distance from the start of the open card .. if under 32,768"
unfoldable pub stored_from : ℕ → Bytes → Bytes → Bytes
stored_from at d [] = d
stored_from at d (b ∷ bs) = stored_from (suc at) (pick (ltb at 32768) (set d at b) d) bs

-- "whose BEGIN line is then put at the front in capitals, line end as read. No other buffer byte changes."
abbrev pub capitals : Bytes → Bytes → Bytes
capitals cr d = ascii "BEGIN:VCARD" ++ cr ++ 10 ∷ [] ++ drop (12 + length cr) d

pub record BeginInside : Type 0 where
  -- "BEGIN in an open card answers 2 and opens the next"; "2 beats 3": the card c may have any length and number. The line begins in a and ends in this piece
  pub in-a-piece : (stem c a b rest w cr : Bytes) (n : ℕ) → BeginLine w cr → a ++ b ≡ w ++ cr
      → asked (piece stem (b ++ 10 ∷ rest)) (inside c a n) ≡ two-and-next (suc (length b)) (w ++ cr ++ 10 ∷ []) n
  -- "an end call reads one supposed LF and consumes nothing"
  pub at-the-end : (stem c w cr : Bytes) (n : ℕ) → BeginLine w cr → asked (end stem) (inside c (w ++ cr) n) ≡ two-and-next 0 (w ++ cr ++ 10 ∷ []) n
  -- the reply that a caller sees
  pub reply : (k n : ℕ) (l : Bytes) → reply_of (two-and-next k l n) ≡ record { shown = shows (no 2 0); consumed = k }
  -- the card buffer, of 13 bytes at least
  pub front : (stem c a b rest w cr : Bytes) (n : ℕ) (d : Bytes) → BeginLine w cr → a ++ b ≡ w ++ cr → 13 ≤ length d
      → buffer_by (piece stem (b ++ 10 ∷ rest)) (inside c a n) d ≡ capitals cr (stored_from (length c + length a) d (b ++ 10 ∷ []))
  pub front-at-the-end : (stem c w cr : Bytes) (n : ℕ) (d : Bytes) → BeginLine w cr → 13 ≤ length d
      → buffer_by (end stem) (inside c (w ++ cr) n) d ≡ capitals cr d
