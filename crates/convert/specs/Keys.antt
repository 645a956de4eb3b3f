-- Keys: the PROP-ID, or else the prefix, a hyphen and the smallest positive number that no converted line of that map has as
-- PROP-ID (before or after it) or earlier key.
use Rattle.std.specs.Prelude.{not, List, [], ◌∷◌, ◌++◌, ℕ, zero, suc, length}
use Prim.Native.Char.{code}
use Rattle.text.specs.Choice.{pick}
use Rattle.text.specs.Bytes.{Bytes, among, empty, keep}
use Rattle.text.specs.Decimal.{decimal}

unfoldable pub numbered : Bytes → ℕ → Bytes
numbered prefix n = prefix ++ code "-" ∷ decimal n

-- the first of n, n + 1, .. that is not used; so many are tried
unfoldable pub fresh_from : ℕ → Bytes → ℕ → List Bytes → Bytes
fresh_from zero prefix n used = numbered prefix n
fresh_from (suc tries) prefix n used =
    let later : Bytes = fresh_from tries prefix (suc n) used in
    pick (among (numbered prefix n) used) later (numbered prefix n)

-- used keys can block no more numbers than there are keys
unfoldable pub fresh : Bytes → List Bytes → Bytes
fresh prefix used = fresh_from (length used) prefix 1 used

abbrev pub key_or : Bytes → List Bytes → Bytes → Bytes
key_or prefix used k = pick (empty k) (fresh prefix used) k

abbrev pub keyed : Bytes → (Bytes → List Bytes) → List Bytes
keyed k later = k ∷ later k

unfoldable pub keys_after : Bytes → List Bytes → List Bytes → List Bytes
keys_after prefix used [] = []
keys_after prefix used (k ∷ ks) = keyed (key_or prefix used k) (λ j. keys_after prefix (j ∷ used) ks)

-- the keys of a map's entries, from their PROP-IDs (empty where there is none)
unfoldable pub keys : Bytes → List Bytes → List Bytes
keys prefix ids = keys_after prefix (keep (λ k. not (empty k)) ids) ids
