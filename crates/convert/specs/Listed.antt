-- Strings of forms, made keys, VERSION and TEL said once more as lists and worked cases: what is taken of a whole range, and both ends of each length.
use Rattle.std.specs.Prelude.{◌≡◌, eqb}
use Rattle.std.proofs.Math.Bool.{true, false, not}
use mathlib.Core.List.{List, [], ◌∷◌, ◌++◌, map}
use Rattle.std.proofs.Math.ListN.{replicate}
use Rattle.std.proofs.Math.Dec.{ltb}
use Rattle.text.specs.Bytes.{Bytes, ascii, joined, flat, keep}
use Rattle.text.specs.Listed.{count_from, bytes_that}
use Rattle.convert.specs.Value.{is_key_text, is_pref}
use Rattle.convert.specs.Keys.{keys}
use Rattle.convert.specs.FromJson.{is_lower_word}
use Rattle.convert.specs.Carry.{carried_raw, carried_text, carried_param}
use Rattle.convert.specs.Answers.{is_stem_text, is_card_number, garbled, value_fits, emptied}
use Rattle.convert.specs.InWords.{controls}
use Rattle.convert.specs.Worked.{card, lines, made, json, home_lines, Case, converts, refuses, comes_home, turns-away, returns_as, given, wanted}

-- all strings of digits one longer than these
abbrev pub longer : List Bytes → List Bytes
longer ss = flat (map (λ d. map (λ s. d ∷ s) ss) (ascii "0123456789"))

-- all strings of up to three digits, and those of four that begin with 00
abbrev pub digit_strings : List Bytes
digit_strings =
    [] ∷ (longer ([] ∷ []) ++ longer (longer ([] ∷ [])) ++ longer (longer (longer ([] ∷ []))) ++ map (λ s. ascii "00" ++ s) (longer (longer ([] ∷ []))))

-- ---- worked cases

-- 6: VERSION:4.0, "name in any case, nothing else"
unfoldable pub versions : List Case
versions =
    converts (card "version:4.0|FN:a") (made "")
    ∷ converts (card "VeRsIoN:4.0|FN:a") (made "")
    ∷ refuses (card "VERSION;X=1:4.0|FN:a") 6 0
    ∷ refuses (card "VERSION;VALUE=text:4.0|FN:a") 6 0
    ∷ refuses (card "g.VERSION:4.0|FN:a") 6 0
    ∷ refuses (card "VERSION:4.1|FN:a") 6 0
    ∷ refuses (card "VERSION:3.0|FN:a") 6 0
    ∷ refuses (card "VERSION:4.0 |FN:a") 6 0
    ∷ refuses (card "VERSION: 4.0|FN:a") 6 0
    ∷ refuses (card "VERSION:4.00|FN:a") 6 0
    ∷ refuses (card "VERSION:4|FN:a") 6 0
    ∷ refuses (card "VERSION:|FN:a") 6 0
    ∷ refuses (card "VERSION:4\\.0|FN:a") 6 0
    ∷ refuses (card "VERSIONS:4.0|FN:a") 6 0
    ∷ refuses (card "FN:a|VERSION:4.0") 6 0
    ∷ []

-- "TEL has VALUE=uri when the number begins `tel:` and has no control but tab"; 13: "a control but tab (LF allowed in TEXT)"
unfoldable pub phone_numbers : List Case
phone_numbers =
    comes_home (json ",'phones':{'k':{'number':'tel:+1'}}") (home_lines "FN;DERIVED=TRUE:^|TEL;PROP-ID=k;VALUE=uri:tel:+1")
    ∷ comes_home (json ",'phones':{'k':{'number':'tel:'}}") (home_lines "FN;DERIVED=TRUE:^|TEL;PROP-ID=k;VALUE=uri:tel:")
    ∷ comes_home (json ",'phones':{'k':{'number':'tel:a,b;c\\\\ d'}}") (home_lines "FN;DERIVED=TRUE:^|TEL;PROP-ID=k;VALUE=uri:tel:a,b;c\\ d")
    ∷ comes_home (json ",'phones':{'k':{'number':'tel:a\\tb'}}") (home_lines "FN;DERIVED=TRUE:^|TEL;PROP-ID=k;VALUE=uri:tel:a\tb")
    ∷ comes_home (json ",'phones':{'k':{'number':'tel:a\\nb,c'}}") (home_lines "FN;DERIVED=TRUE:^|TEL;PROP-ID=k:tel:a\\nb\\,c")
    ∷ comes_home (json ",'phones':{'k':{'number':'TEL:1,2'}}") (home_lines "FN;DERIVED=TRUE:^|TEL;PROP-ID=k:TEL:1\\,2")
    ∷ comes_home (json ",'phones':{'k':{'number':'tel'}}") (home_lines "FN;DERIVED=TRUE:^|TEL;PROP-ID=k:tel")
    ∷ comes_home (json ",'phones':{'k':{'number':' tel:1'}}") (home_lines "FN;DERIVED=TRUE:^|TEL;PROP-ID=k: tel:1")
    ∷ comes_home (json ",'phones':{'k':{'number':''}}") (home_lines "FN;DERIVED=TRUE:^|TEL;PROP-ID=k:")
    ∷ turns-away (json ",'phones':{'k':{'number':'tel:\\u007f'}}") 13 0
    ∷ turns-away (json ",'phones':{'k':{'number':'tel:\\r'}}") 13 0
    -- the same rule in the normal form: VALUE comes where it was not, and where the rule wants it, it stays
    ∷ returns_as (card "VERSION:4.0|UID:u|FN:a|TEL:tel:1\\,2") (home_lines "FN:a^|TEL;PROP-ID=PHONE-1;VALUE=uri:tel:1,2")
    ∷ returns_as (card "VERSION:4.0|UID:u|FN:a|TEL;VALUE=uri:tel:1\\,2") (home_lines "FN:a^|TEL;PROP-ID=PHONE-1;VALUE=uri:tel:1\\,2")
    ∷ returns_as (card "VERSION:4.0|UID:u|FN:a|TEL:tel:1\\n2") (home_lines "FN:a^|TEL;PROP-ID=PHONE-1:tel:1\\n2")
    ∷ []

-- twelve lines of one map; the second time with a PROP-ID that a made key would have had
unfoldable pub twelve : List Case
twelve =
    converts (lines "TEL:1|TEL:2|TEL:3|TEL:4|TEL:5|TEL:6|TEL:7|TEL:8|TEL:9|TEL:10|TEL:11|TEL:12")
    (made ",'phones':{'PHONE-1':{'number':'1'},'PHONE-2':{'number':'2'},'PHONE-3':{'number':'3'},'PHONE-4':{'number':'4'},'PHONE-5':{'number':'5'},'PHONE-6':{'number':'6'},'PHONE-7':{'number':'7'},'PHONE-8':{'number':'8'},'PHONE-9':{'number':'9'},'PHONE-10':{'number':'10'},'PHONE-11':{'number':'11'},'PHONE-12':{'number':'12'}}")
    ∷ converts (lines "TEL:1|TEL:2|TEL:3|TEL:4|TEL;PROP-ID=PHONE-10:5|TEL:6|TEL:7|TEL:8|TEL:9|TEL:10|TEL:11|TEL:12")
    (made ",'phones':{'PHONE-1':{'number':'1'},'PHONE-2':{'number':'2'},'PHONE-3':{'number':'3'},'PHONE-4':{'number':'4'},'PHONE-10':{'number':'5'},'PHONE-5':{'number':'6'},'PHONE-6':{'number':'7'},'PHONE-7':{'number':'8'},'PHONE-8':{'number':'9'},'PHONE-9':{'number':'10'},'PHONE-11':{'number':'11'},'PHONE-12':{'number':'12'}}")
    ∷ []

pub record ListedConvert : Type 0 where
  -- "PREF is 1 to 100, no leading zero"
  pub prefs : joined (ascii " ") (keep is_pref digit_strings)
      ≡ ascii "1 2 3 4 5 6 7 8 9 10 11 12 13 14 15 16 17 18 19 20 21 22 23 24 25 26 27 28 29 30 31 32 33 34 35 36 37 38 39 40 41 42 43 44 45 46 "
      ++ ascii "47 48 49 50 51 52 53 54 55 56 57 58 59 60 61 62 63 64 65 66 67 68 69 70 71 72 73 74 75 76 77 78 79 80 81 82 83 84 85 86 87 88 89 "
      ++ ascii "90 91 92 93 94 95 96 97 98 99 100"
  pub no-prefs : keep is_pref (ascii "+1" ∷ ascii "-1" ∷ ascii " 1" ∷ ascii "1 " ∷ ascii "1.0" ∷ ascii "1e1" ∷ ascii "1,2" ∷ ascii "a" ∷ ascii "/" ∷ ascii ":" ∷ ascii "1000" ∷ []) ≡ []
  -- "keys are 1 to 255 of A-Z a-z 0-9 - _"
  pub key-bytes : bytes_that (λ c. is_key_text (c ∷ [])) ≡ ascii "-0123456789ABCDEFGHIJKLMNOPQRSTUVWXYZ_abcdefghijklmnopqrstuvwxyz"
  pub key-ends : bytes_that (λ c. is_key_text (ascii "ab" ++ c ∷ [])) ≡ ascii "-0123456789ABCDEFGHIJKLMNOPQRSTUVWXYZ_abcdefghijklmnopqrstuvwxyz"
  pub key-lengths : map (λ n. is_key_text (replicate n 107)) (0 ∷ 1 ∷ 2 ∷ 254 ∷ 255 ∷ 256 ∷ 257 ∷ []) ≡ false ∷ true ∷ true ∷ true ∷ true ∷ false ∷ false ∷ []
  -- "UID stem not 1 to 200 characters of A-Z a-z 0-9 : - _, or given card number not 1 to 999,999"
  pub stem-bytes : bytes_that (λ c. is_stem_text (c ∷ [])) ≡ ascii "-0123456789:ABCDEFGHIJKLMNOPQRSTUVWXYZ_abcdefghijklmnopqrstuvwxyz"
  pub stem-ends : bytes_that (λ c. is_stem_text (ascii "ab" ++ c ∷ [])) ≡ ascii "-0123456789:ABCDEFGHIJKLMNOPQRSTUVWXYZ_abcdefghijklmnopqrstuvwxyz"
  pub stem-lengths : map (λ n. is_stem_text (replicate n 107)) (0 ∷ 1 ∷ 2 ∷ 199 ∷ 200 ∷ 201 ∷ 202 ∷ []) ≡ false ∷ true ∷ true ∷ true ∷ true ∷ false ∷ false ∷ []
  pub card-numbers : map is_card_number (0 ∷ 1 ∷ 2 ∷ 999998 ∷ 999999 ∷ 1000000 ∷ 1000001 ∷ []) ≡ false ∷ true ∷ true ∷ true ∷ true ∷ false ∷ false ∷ []
  -- 4: "not UTF-8 after unfolding, or a control (0-31 but tab, 127)", of lines of one byte: controls, and from 128 on no byte is a character
  pub garbled-bytes : bytes_that (λ c. garbled (c ∷ [])) ≡ controls ++ count_from 128 128
  -- 7: VALUE "not a name"; 9: "KIND empty or not of name characters": of one byte these are
  pub value-bytes : bytes_that (λ c. value_fits ((c ∷ []) ∷ [])) ≡ ascii "-0123456789ABCDEFGHIJKLMNOPQRSTUVWXYZabcdefghijklmnopqrstuvwxyz"
  pub kind-bytes : bytes_that (λ c. not (emptied (record { group = []; name = ascii "Kind"; params = []; value = c ∷ [] })))
      ≡ ascii "-0123456789ABCDEFGHIJKLMNOPQRSTUVWXYZabcdefghijklmnopqrstuvwxyz"
  pub kind-ends : bytes_that (λ c. not (emptied (record { group = []; name = ascii "KIND"; params = []; value = ascii "org" ++ c ∷ [] })))
      ≡ ascii "-0123456789ABCDEFGHIJKLMNOPQRSTUVWXYZabcdefghijklmnopqrstuvwxyz"
  pub emptied-ones : map emptied (record { group = []; name = ascii "KIND"; params = []; value = [] } ∷ record { group = []; name = ascii "uid"; params = []; value = [] } ∷ record { group = []; name = ascii "FN"; params = []; value = [] } ∷ [])
      ≡ true ∷ true ∷ false ∷ []
  -- 12: "a kind no KIND line gives": lower-case names
  pub kind-words : bytes_that (λ c. is_lower_word (c ∷ [])) ≡ ascii "-0123456789abcdefghijklmnopqrstuvwxyz"
  -- 13: "a control but tab (LF allowed in TEXT), `"` in a parameter": what is not carried
  pub not-raw : bytes_that (λ c. not (carried_raw (c ∷ []))) ≡ controls
  pub not-text : bytes_that (λ c. not (carried_text (c ∷ []))) ≡ keep (λ c. not (eqb c 10)) controls
  pub not-parameter : bytes_that (λ c. not (carried_param (c ∷ []))) ≡ keep (λ c. ltb c 32) controls ++ ascii "\"" ++ 127 ∷ []
  -- "the prefix, hyphen, smallest positive number no converted line of that map has as PROP-ID or earlier key"
  pub made-keys : joined (ascii " ") (keys (ascii "K") (replicate 25 []))
      ≡ ascii "K-1 K-2 K-3 K-4 K-5 K-6 K-7 K-8 K-9 K-10 K-11 K-12 K-13 K-14 K-15 K-16 K-17 K-18 K-19 K-20 K-21 K-22 K-23 K-24 K-25"
  pub keys-around : joined (ascii " ") (keys (ascii "K") (replicate 9 [] ++ (ascii "K-11" ∷ []) ++ replicate 3 [] ++ (ascii "K-10" ∷ ascii "K-2" ∷ ascii "K-01" ∷ []) ++ replicate 2 []))
      ≡ ascii "K-1 K-3 K-4 K-5 K-6 K-7 K-8 K-9 K-12 K-11 K-13 K-14 K-15 K-10 K-2 K-01 K-16 K-17"
  -- worked cases
  pub versions-hold : map given versions ≡ map wanted versions
  pub numbers-hold : map given phone_numbers ≡ map wanted phone_numbers
  pub twelve-hold : map given twelve ≡ map wanted twelve
