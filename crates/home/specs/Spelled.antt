-- How a card's unfolded lines may be spelled, 01's section 'Lines' read backwards: BEGIN and END whole, each line between them broken at any places into physical
-- lines, each physical line ended by LF or CR LF, the last LF left out or not.
use Rattle.std.specs.Prelude.{◌≡◌, true, false, List, [], ◌∷◌, ◌++◌, ℕ}
use Rattle.text.specs.Bytes.{Bytes, is, any}
use Rattle.text.specs.Reader.{first}
use Rattle.line.specs.Class.{is_blank}
use Rattle.line.specs.Physical.{without_cr, is_begin, is_end}

-- ---- line ends

-- A line and its end. "A CR just before belongs to the end": a line that itself ends with CR takes CR LF.
pub data Ended : (line bytes : Bytes) → Type 0 where
  by-lf : {l : Bytes} → without_cr l ≡ l → Ended l (l ++ 10 ∷ [])
  by-cr-lf : {l : Bytes} → Ended l (l ++ 13 ∷ 10 ∷ [])

-- physical lines, one after the other; none has an LF inside, and the end of the last may be missing
pub data Ends : (lines : List Bytes) (bytes : Bytes) → Type 0 where
  none_left : Ends [] []
  one_line : {l b c : Bytes} {ls : List Bytes} → any (is 10) l ≡ false → Ended l b → Ends ls c → Ends (l ∷ ls) (b ++ c)
  no_end : {c : ℕ} {l : Bytes} → any (is 10) (c ∷ l) ≡ false → Ends (without_cr (c ∷ l) ∷ []) (c ∷ l)

-- ---- folds

-- what a line goes on with: physical lines, each after one space or tab
pub data GoesOn : (rest : Bytes) (lines : List Bytes) → Type 0 where
  no_more : GoesOn [] []
  after-blank : {b : ℕ} {q r : Bytes} {ps : List Bytes} → is_blank b ≡ true → GoesOn r ps → GoesOn (q ++ r) ((b ∷ q) ∷ ps)

-- Unfolded lines, broken. A first piece may be empty; it begins with no space or tab, and is not BEGIN:VCARD or END:VCARD.
pub data Broken : (unfolded physical : List Bytes) → Type 0 where
  no_line : Broken [] []
  one-broken : {p r : Bytes} {ps ls qs : List Bytes} → is_blank (first p) ≡ false → is_begin p ≡ false → is_end p ≡ false → GoesOn r ps → Broken ls qs
      → Broken ((p ++ r) ∷ ls) (p ∷ (ps ++ qs))

-- the bytes s spell the unfolded lines
pub record Spells (unfolded : List Bytes) (s : Bytes) : Type 0 where
  pub begin : Bytes
  pub physical : List Bytes
  pub end : Bytes
  pub begins : is_begin begin ≡ true
  pub ends : is_end end ≡ true
  pub broken : Broken unfolded physical
  pub ended : Ends (begin ∷ (physical ++ end ∷ [])) s
