-- The tests and maps of bytes said once more, apart from their definitions: each as the list of its bytes, over all of 0 to 255.
use Rattle.std.specs.Prelude.{◌≡◌, Bool, not, List, [], ◌∷◌, ◌++◌, map, ℕ, zero, suc, ltb}
use Rattle.text.specs.Bytes.{Bytes, ascii, all, same, joined, keep, is_digit, is_upper, is_lower, is_letter, lower, upper}
use Rattle.text.specs.Decimal.{decimal}

-- every number is a byte
abbrev pub of_bytes : Bytes → Bool
of_bytes s = all (λ c. ltb c 256) s

-- n numbers from lo on
abbrev pub count_from : ℕ → ℕ → List ℕ
count_from lo zero = []
count_from lo (suc n) = lo ∷ count_from (suc lo) n

-- the bytes that a test takes, in order
unfoldable pub bytes_that : (ℕ → Bool) → Bytes
bytes_that p = keep p (count_from 0 256)

-- the bytes for which a map gives more or other than themselves, each with what it gives
unfoldable pub changes : (ℕ → Bytes) → List Bytes
changes f = map (λ c. c ∷ f c) (keep (λ c. not (same (f c) (c ∷ []))) (count_from 0 256))

-- ---- this layer's own

pub record ListedText : Type 0 where
  pub digits : bytes_that is_digit ≡ ascii "0123456789"
  pub uppers : bytes_that is_upper ≡ ascii "ABCDEFGHIJKLMNOPQRSTUVWXYZ"
  pub lowers : bytes_that is_lower ≡ ascii "abcdefghijklmnopqrstuvwxyz"
  pub letters : bytes_that is_letter ≡ ascii "ABCDEFGHIJKLMNOPQRSTUVWXYZabcdefghijklmnopqrstuvwxyz"
  -- letter case changes the letters and nothing else
  pub made-lower : joined [] (changes (λ c. lower c ∷ [])) ≡ ascii "AaBbCcDdEeFfGgHhIiJjKkLlMmNnOoPpQqRrSsTtUuVvWwXxYyZz"
  pub made-upper : joined [] (changes (λ c. upper c ∷ [])) ≡ ascii "aAbBcCdDeEfFgGhHiIjJkKlLmMnNoOpPqQrRsStTuUvVwWxXyYzZ"
  -- numbers in decimal digits
  pub decimals : joined (ascii " ") (map decimal (count_from 0 131))
      ≡ ascii "0 1 2 3 4 5 6 7 8 9 10 11 12 13 14 15 16 17 18 19 20 21 22 23 24 25 26 27 28 29 30 31 32 33 34 35 36 37 38 39 40 41 42 43 44 "
      ++ ascii "45 46 47 48 49 50 51 52 53 54 55 56 57 58 59 60 61 62 63 64 65 66 67 68 69 70 71 72 73 74 75 76 77 78 79 80 81 82 83 84 85 86 87 "
      ++ ascii "88 89 90 91 92 93 94 95 96 97 98 99 100 101 102 103 104 105 106 107 108 109 110 111 112 113 114 115 116 117 118 119 120 121 122 "
      ++ ascii "123 124 125 126 127 128 129 130"
  pub large : map decimal (999 ∷ 1000 ∷ 32768 ∷ 999999 ∷ []) ≡ ascii "999" ∷ ascii "1000" ∷ ascii "32768" ∷ ascii "999999" ∷ []
