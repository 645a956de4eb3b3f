-- What strings stand for: units to bytes, surrogate pairs joined; and no two equal names in one object.
use Rattle.std.specs.Prelude.{Bool, true, ◌&&◌, List, [], ◌∷◌, ◌++◌, ℕ, zero, suc, ◌+◌, ◌-◌, ◌*◌, ltb}
use Rattle.std.proofs.Math.Option.{Option, none, some, map}
use Rattle.text.specs.Choice.{pick, both}
use Rattle.text.specs.Bytes.{Bytes, between, distinct}
use Rattle.text.specs.Utf8.{encode}
use Rattle.json_text.specs.Tree.{Json, jnull, jtrue, jfalse, jnum, jstr, jarr, jobj, Elems, enil, econs, Members, mnil, mcons}

abbrev pub is_high : ℕ → Bool
is_high v = between 0xd800 0xdbff v

abbrev pub is_low : ℕ → Bool
is_low v = between 0xdc00 0xdfff v

-- the code point of a surrogate pair
abbrev pub joined_pair : ℕ → ℕ → ℕ
joined_pair hi lo = 0x10000 + (hi - 0xd800) * 0x400 + (lo - 0xdc00)

abbrev pub before : Bytes → Option Bytes → Option Bytes
before p none = none
before p (some s) = some (p ++ s)

-- the bytes that units stand for, none where a surrogate is alone; the number is the high surrogate just before, 0 for none
unfoldable pub decode_after : ℕ → Bytes → Option Bytes
decode_after zero [] = some []
decode_after (suc h) [] = none
decode_after zero (u ∷ us) =
    let v : ℕ = u - 256 in
    let byte : Option Bytes = before (u ∷ []) (decode_after 0 us) in
    let high : Option Bytes = decode_after v us in
    let point : Option Bytes = before (encode v) (decode_after 0 us) in
    let wide : Option Bytes = pick (is_high v) high (pick (is_low v) none point) in
    pick (ltb u 256) byte wide
decode_after (suc h) (u ∷ us) =
    let point : Option Bytes = before (encode (joined_pair (suc h) (u - 256))) (decode_after 0 us) in
    pick (ltb 255 u && is_low (u - 256)) point none

unfoldable pub decode : Bytes → Option Bytes
decode us = decode_after 0 us

-- a tree with every string and name decoded, none where one has a lone surrogate
unfoldable mutual
  pub decoded : Json → Option Json
  decoded jnull = some jnull
  decoded jtrue = some jtrue
  decoded jfalse = some jfalse
  decoded (jnum x) = some (jnum x)
  decoded (jstr us) = map jstr (decode us)
  decoded (jarr es) = map jarr (decoded_elems es)
  decoded (jobj ms) = map jobj (decoded_members ms)

  pub decoded_elems : Elems → Option Elems
  decoded_elems enil = some enil
  decoded_elems (econs j es) = both econs (decoded j) (decoded_elems es)

  pub decoded_members : Members → Option Members
  decoded_members mnil = some mnil
  decoded_members (mcons k j ms) = both (λ (f : Members → Members) rest. f rest) (both (λ n v rest. mcons n v rest) (decode k) (decoded j)) (decoded_members ms)

-- the names of an object
unfoldable pub names : Members → List Bytes
names mnil = []
names (mcons k j ms) = k ∷ names ms

-- no object has two equal names
unfoldable mutual
  pub distinct_names : Json → Bool
  distinct_names jnull = true
  distinct_names jtrue = true
  distinct_names jfalse = true
  distinct_names (jnum x) = true
  distinct_names (jstr s) = true
  distinct_names (jarr es) = distinct_elems es
  distinct_names (jobj ms) = distinct (names ms) && distinct_members ms

  pub distinct_elems : Elems → Bool
  distinct_elems enil = true
  distinct_elems (econs j es) = distinct_names j && distinct_elems es

  pub distinct_members : Members → Bool
  distinct_members mnil = true
  distinct_members (mcons k j ms) = distinct_names j && distinct_members ms
