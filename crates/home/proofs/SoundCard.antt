-- The JSON tree of a proper card is sound: its strings are UTF-8, its names differ, its depth is at most 16.
use mathlib.Core.Path.{◌≡◌, refl, ap, subst, ◌∙◌}
use mathlib.Core.Bool.{Bool, true, false, ◌&&◌, not}
use mathlib.Core.List.{List, [], ◌∷◌, map, append-nil}
use Prim.Native.Nat.{ℕ, suc}
use lib.ListN.{length}
use lib.Dec.{eqb, leb}
use Rattle.text.specs.Bytes.{Bytes, is, all, distinct, is_digit, between}
use Rattle.text.specs.Decimal as D
use Rattle.text.specs.Reader.{got, on, some_of}
use Rattle.text.proofs.Cases.{and_left, and_right, not-true, not-both, other}
use Rattle.text.proofs.Lists.{all_head}
use Rattle.text.proofs.Readers.{some-of-run}
use Rattle.json_text.specs.Tree.{Json, Member, member, name_of, from_members, from_elems, object, array}
use Rattle.json_text.specs.Strings.{names}
use Rattle.json_text.specs.Syntax.{opt, int, frac, exp, digits, number}
use Rattle.json_text.specs.Grammar.{is_e}
use Rattle.json_text.proofs.Sound.{Sound, SoundElems, SoundMembers}
use Rattle.json_text.proofs.Numbers.{Spelled}
use Rattle.json_text.proofs.Fine.{digit-256}
use Rattle.convert.specs.Value.{is_pref}
use Rattle.home.proofs.Alls.{All}
use Rattle.home.proofs.SoundLists.{SoundMember}

-- ---- objects and arrays from lists

names-from : (ms : List Member) → names (from_members ms) ≡ map name_of ms
unfolding names from_members
names-from [] = refl
names-from (member n j ∷ ms) = ap (λ (x : List Bytes). n ∷ x) (names-from ms)

members-from : (d : ℕ) (ms : List Member) → All (SoundMember d) ms → SoundMembers d (from_members ms)
unfolding from_members
members-from d [] h = tt
members-from d (member n j ∷ ms) h = (h.0.0, h.0.1, members-from d ms h.1)

pub object_of : (d : ℕ) (ms : List Member) → distinct (map name_of ms) ≡ true → All (SoundMember d) ms → Sound (suc d) (object ms)
object_of d ms e h = (d, refl, ap distinct (names-from ms) ∙ e, members-from d ms h)

elems-from : (d : ℕ) (js : List Json) → All (Sound d) js → SoundElems d (from_elems js)
unfolding from_elems
elems-from d [] h = tt
elems-from d (j ∷ js) h = (h.0, elems-from d js h.1)

pub array_of : (d : ℕ) (js : List Json) → All (Sound d) js → Sound (suc d) (array js)
array_of d js h = (d, refl, elems-from d js h)

-- an image of each
pub all_map : {A B : Type 0} (P : A → Type 0) (Q : B → Type 0) (f : A → B) → ((x : A) → P x → Q (f x)) → (xs : List A) → All P xs → All Q (map f xs)
all_map P Q f k [] h = tt
all_map P Q f k (x ∷ xs) h = (k x h.0, all_map P Q f k xs h.1)

-- ---- PREF is a number that JSON spells so

digits-read : (c : ℕ) (s : Bytes) → all is_digit (c ∷ s) ≡ true → digits (c ∷ s) ≡ got (c ∷ s) []
unfolding digits
digits-read c s h = subst (λ (t : Bytes). some_of is_digit (c ∷ t) ≡ got (c ∷ s) []) (append-nil s) (some-of-run is_digit c s [] h digit-256)

digits_number : (c : ℕ) (s : Bytes) → eqb c 45 ≡ false → eqb c 48 ≡ false → all is_digit (c ∷ s) ≡ true → number (c ∷ s) ≡ got (c ∷ s) []
unfolding number opt int frac exp on is_e
digits_number c s m z h = rw (m, z, digits-read c s h) (simp append-nil)

no_minus : (c : ℕ) → is_digit c ≡ true → eqb c 45 ≡ false
unfolding between
no_minus c h = other is_digit c 45 h refl

pub pref-spelled : (p : Bytes) → is_pref p ≡ true → Spelled p
unfolding is_pref all
pref-spelled [] h = not-both h refl
pref-spelled (c ∷ s) h =
    let l : Bool = leb (length (c ∷ s)) 3 in
    let d : Bool = all is_digit (c ∷ s) in
    let z : Bool = not (is 48 c) in
    let h₃ : l && d && z ≡ true = and_left (l && d && z) (leb (D.number (c ∷ s)) 100) h in
    let e : d ≡ true = and_right l d (and_left (l && d) z h₃) in
    (c ∷ s, [], digits_number c s (no_minus c (all_head is_digit c s e)) (not-true (is 48 c) (and_right (l && d) z h₃)) e)
