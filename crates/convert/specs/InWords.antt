-- Tests that the converter shares with the normal forms, said once more in 01's words, with their characters and numbers written out: laws for every text of bytes.
use Rattle.std.specs.Prelude.{◌≡◌, Bool, true, false, ◌&&◌, not, [], ◌∷◌, ℕ, ◌≤◌, length, take, eqb, leb}
use Rattle.text.specs.Choice.{pick}
use Rattle.text.specs.Bytes.{Bytes, ascii, any, all, same, lowered}
use Rattle.text.specs.Decimal.{decimal}
use Rattle.text.specs.Listed.{of_bytes}
use Rattle.line.specs.Grammar.{Line}
use Rattle.line.specs.Text.{write_text}
use Rattle.convert.specs.Table.{phone}
use Rattle.convert.specs.Value.{is_key_text, is_pref, is_tel_uri, write_as, written_type}
use Rattle.convert.specs.Answers.{is_stem_text, is_card_number, is_version_line}

-- one of these bytes
abbrev pub one_of : Bytes → ℕ → Bool
one_of cs c = any (eqb c) cs

-- from lo to hi bytes, each one of these
abbrev pub made_of : (lo hi : ℕ) → Bytes → Bytes → Bool
made_of lo hi cs s = leb lo (length s) && leb (length s) hi && all (one_of cs) s

-- "a control (0-31 but tab, 127)"
abbrev pub controls : Bytes
controls =
    0 ∷ 1 ∷ 2 ∷ 3 ∷ 4 ∷ 5 ∷ 6 ∷ 7 ∷ 8 ∷ 10 ∷ 11 ∷ 12 ∷ 13 ∷ 14 ∷ 15 ∷ 16 ∷ 17 ∷ 18 ∷ 19 ∷ 20 ∷ 21 ∷ 22 ∷ 23 ∷ 24 ∷ 25 ∷ 26 ∷ 27 ∷ 28 ∷ 29 ∷ 30 ∷ 31 ∷ 127 ∷ []

-- "the number begins `tel:` and has no control but tab"
abbrev pub begins-tel : Bytes → Bool
begins-tel v = same (take 4 v) (ascii "tel:") && not (any (one_of controls) v)

-- 1 to 100 in decimal digits
pub record Pref (p : Bytes) : Type 0 where
  pub n : ℕ
  pub from : 1 ≤ n
  pub to : n ≤ 100
  pub is : p ≡ decimal n

-- VERSION:4.0, the name in any case, nothing else
pub record Version (l : Line) : Type 0 where
  pub group : l.group ≡ []
  pub name : lowered l.name ≡ ascii "version"
  pub params : l.params ≡ []
  pub value : l.value ≡ ascii "4.0"

pub record InWords : Type 0 where
  -- "keys are 1 to 255 of A-Z a-z 0-9 - _"
  pub keys : (s : Bytes) → of_bytes s ≡ true → is_key_text s ≡ made_of 1 255 (ascii "ABCDEFGHIJKLMNOPQRSTUVWXYZabcdefghijklmnopqrstuvwxyz0123456789-_") s
  -- "UID stem not 1 to 200 characters of A-Z a-z 0-9 : - _, or given card number not 1 to 999,999"
  pub stems : (s : Bytes) → of_bytes s ≡ true → is_stem_text s ≡ made_of 1 200 (ascii "ABCDEFGHIJKLMNOPQRSTUVWXYZabcdefghijklmnopqrstuvwxyz0123456789:-_") s
  pub numbers : (n : ℕ) → is_card_number n ≡ leb 1 n && leb n 999999
  -- "PREF is 1 to 100, no leading zero": exactly the decimals of these numbers
  pub prefs : (p : Bytes) → is_pref p ≡ true → Pref p
  pub all-prefs : (p : Bytes) → Pref p → is_pref p ≡ true
  -- "TEL has VALUE=uri when the number begins `tel:` and has no control but tab"; it is written raw then, else as TEXT
  pub tel : (v : Bytes) → of_bytes v ≡ true → is_tel_uri v ≡ begins-tel v
  pub tel-value : (v : Bytes) → of_bytes v ≡ true → written_type phone (v ∷ []) ≡ pick (begins-tel v) (ascii "uri" ∷ []) []
  pub tel-written : (v : Bytes) → of_bytes v ≡ true → write_as phone (v ∷ []) ≡ pick (begins-tel v) v (write_text false v)
  -- "first line is not VERSION:4.0 (name in any case, nothing else)"
  pub version : (l : Line) → is_version_line l ≡ true → Version l
  pub every-version : (l : Line) → Version l → is_version_line l ≡ true
