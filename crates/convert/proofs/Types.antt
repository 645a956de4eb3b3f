-- TYPE: codes of the table are written as their names and read back.
use mathlib.Core.Path.{◌≡◌, refl}
use mathlib.Core.Bool.{Bool, true}
use mathlib.Core.List.{List, [], ◌∷◌, map}
use mathlib.Core.Option.{Option, none, some}
use Prim.Native.Nat.{ℕ}
use lib.ListN.{get_or, take}
use lib.Dec.{ltb}
use Rattle.text.specs.Choice.{pick}
use Rattle.text.specs.Bytes.{Bytes, all, same, lower, lowered, between, on_head, parts, flat, each}
use Rattle.text.proofs.Cases.{by_below, up_to, tests, not-both}
use Rattle.text.proofs.Lists.{all_head, all_tail}
use Rattle.convert.specs.Table.{feature-type, type_names, vcard_type, position, in_order}
use Rattle.convert.specs.Classify.{types_from}

abbrev pub type_text : ℕ → Bytes
type_text t = vcard_type (get_or type_names t (feature-type [] []))

abbrev pub code_of : ℕ → Bytes → Option ℕ
code_of n v = position (λ t. same (lowered v) (vcard_type t)) (take n type_names)

-- every code below n, for every n up to 9, all by computation
abbrev found : ℕ → ℕ → Option ℕ
found n t = pick (ltb t n) (code_of n (type_text t)) none

abbrev wanted : ℕ → ℕ → Option ℕ
wanted n t = pick (ltb t n) (some t) none

all_found : (n : ℕ) → ltb n 10 ≡ true → map (found n) (up_to 10) ≡ map (wanted n) (up_to 10)
unfolding position same lowered lower between
all_found n h = by_below (λ n. map (found n) (up_to 10)) (λ n. map (wanted n) (up_to 10)) n 10 refl (λ l. not-both h l)

code_read : (n t : ℕ) → ltb n 10 ≡ true → ltb t n ≡ true → code_of n (type_text t) ≡ some t
code_read n t h l =
    let e : found n t ≡ wanted n t = by_below (found n) (wanted n) t 10 (all_found n h) (λ k. absurd (omega tests)) in
    rw l at e

-- no name has a comma
one-part : (n t : ℕ) → ltb n 10 ≡ true → ltb t n ≡ true → parts 44 (type_text t) ≡ type_text t ∷ []
unfolding parts on_head
one-part n t h l = by_below (λ t. parts 44 (type_text t)) (λ t. type_text t ∷ []) t 9 refl (λ k. absurd (omega tests))

-- codes of a map that takes the first n
abbrev pub below : ℕ → ℕ → Bool
below n t = ltb t n

parts-codes : (n : ℕ) (ts : List ℕ) → ltb n 10 ≡ true → all (below n) ts ≡ true → flat (map (parts 44) (map type_text ts)) ≡ map type_text ts
unfolding flat
parts-codes n [] h k = refl
parts-codes n (t ∷ ts) h k = rw (one-part n t h (all_head (below n) t ts k), parts-codes n ts h (all_tail (below n) t ts k))

codes-read : (n : ℕ) (ts : List ℕ) → ltb n 10 ≡ true → all (below n) ts ≡ true → each (code_of n) (map type_text ts) ≡ some ts
unfolding each
codes-read n [] h k = refl
codes-read n (t ∷ ts) h k = rw (code_read n t h (all_head (below n) t ts k), codes-read n ts h (all_tail (below n) t ts k))

pub types-read : (n : ℕ) (ts : List ℕ) → ltb n 10 ≡ true → all (below n) ts ≡ true → in_order ts ≡ ts → types_from n (map type_text ts) ≡ some ts
unfolding types_from
types-read n ts h k o = rw (parts-codes n ts h k, codes-read n ts h k, o)
