-- Byte strings as lists of numbers, and tests on them. Nothing here knows of vCard or JSON.
use Rattle.std.specs.Prelude.{Bool, true, false, ◌&&◌, ◌||◌, not, List, [], ◌∷◌, ◌++◌, map, ℕ, ◌+◌, ◌-◌, leb, eqb}
use Rattle.std.proofs.Math.Option.{Option, some}
pub use Prim.Native.Char.{code}  -- contracts in .rt files can only take it from here
use Prim.Native.String.{String, [] as []ˢ, ◌∷◌ as ◌∷ˢ◌}
use Rattle.text.specs.Choice.{pick, both}

abbrev pub Bytes : Type 0
Bytes = List ℕ

-- The bytes of an ASCII text, for names and examples.
abbrev pub ascii : String → Bytes
ascii []ˢ = []
ascii (c ∷ˢ s) = code c ∷ ascii s

-- ---- tests

abbrev pub is : ℕ → ℕ → Bool
is b c = eqb c b

-- one of the bytes from lo to hi
unfoldable pub between : ℕ → ℕ → ℕ → Bool
between lo hi c = leb lo c && leb c hi

abbrev pub is_digit : ℕ → Bool
is_digit c = between (code "0") (code "9") c

abbrev pub is_upper : ℕ → Bool
is_upper c = between (code "A") (code "Z") c

abbrev pub is_lower : ℕ → Bool
is_lower c = between (code "a") (code "z") c

abbrev pub is_letter : ℕ → Bool
is_letter c = is_upper c || is_lower c

unfoldable pub any : {A : Type 0} → (A → Bool) → List A → Bool
any p [] = false
any p (x ∷ xs) = p x || any p xs

unfoldable pub all : {A : Type 0} → (A → Bool) → List A → Bool
all p [] = true
all p (x ∷ xs) = p x && all p xs

abbrev pub empty : {A : Type 0} → List A → Bool
empty [] = true
empty (x ∷ xs) = false

-- ---- equal bytes

unfoldable pub same : Bytes → Bytes → Bool
same [] [] = true
same [] (y ∷ ys) = false
same (x ∷ xs) [] = false
same (x ∷ xs) (y ∷ ys) = eqb x y && same xs ys

-- one of these byte strings
unfoldable pub among : Bytes → List Bytes → Bool
among s ss = any (same s) ss

-- no two of these byte strings are equal
unfoldable pub distinct : List Bytes → Bool
distinct [] = true
distinct (s ∷ ss) = not (among s ss) && distinct ss

-- begins with these bytes
unfoldable pub begins : Bytes → Bytes → Bool
begins [] s = true
begins (p ∷ ps) [] = false
begins (p ∷ ps) (c ∷ s) = eqb c p && begins ps s

-- ---- letter case, of ASCII letters alone

unfoldable pub lower : ℕ → ℕ
lower c = pick (is_upper c) (c + 32) c

unfoldable pub upper : ℕ → ℕ
upper c = pick (is_lower c) (c - 32) c

unfoldable pub lowered : Bytes → Bytes
lowered s = map lower s

unfoldable pub uppered : Bytes → Bytes
uppered s = map upper s

-- ---- parts

-- what stands between the bytes d: always one part at least
unfoldable pub on_head : ℕ → List Bytes → List Bytes
on_head c [] = (c ∷ []) ∷ []
on_head c (x ∷ xs) = (c ∷ x) ∷ xs

unfoldable pub parts : ℕ → Bytes → List Bytes
parts d [] = [] ∷ []
parts d (c ∷ s) = pick (eqb c d) ([] ∷ parts d s) (on_head c (parts d s))

-- byte strings with a separator between them
unfoldable pub joined : Bytes → List Bytes → Bytes
joined d [] = []
joined d (s ∷ []) = s
joined d (s ∷ (t ∷ ts)) = s ++ (d ++ joined d (t ∷ ts))

unfoldable pub flat : {A : Type 0} → List (List A) → List A
flat [] = []
flat (s ∷ ss) = s ++ flat ss

unfoldable pub keep : {A : Type 0} → (A → Bool) → List A → List A
keep p [] = []
keep p (x ∷ xs) = pick (p x) (x ∷ keep p xs) (keep p xs)

-- the images of all, or none where one has none
unfoldable pub each : {A B : Type 0} → (A → Option B) → List A → Option (List B)
each f [] = some []
each f (x ∷ xs) = both ◌∷◌ (f x) (each f xs)
