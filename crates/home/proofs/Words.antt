-- Words in lower case, and lists of parameters that are settled.
use mathlib.Core.Path.{◌≡◌, refl, ap₂}
use mathlib.Core.Bool.{Bool, true, false, ◌||◌, not}
use mathlib.Core.List.{List, [], ◌∷◌, map}
use Prim.Native.Nat.{ℕ}
use lib.Dec.{ltb}
use borrow.Author.Tests.{ne_eqb}
use Rattle.text.specs.Choice.{pick}
use Rattle.text.specs.Bytes.{Bytes, any, all, empty, same, among, distinct, between, lower, lowered}
use Rattle.text.proofs.Cases.{by_bool, by_below, tests, beyond, and_left, and_right, or_left, or_right, not-true, not-both}
use Rattle.text.proofs.Same.{same-swap}
use Rattle.text.proofs.Lists.{all_head, all_tail, all-imply}
use Rattle.line.specs.Class.{is_lower_name, is_key, is_name}
use Rattle.line.specs.Grammar.{Param, param, param_name}
use Rattle.line.specs.Params.{named}
use Rattle.line.proofs.Merging.{Settled}
use Rattle.line.proofs.Parameters.{is_word}
use Rattle.convert.specs.FromJson.{is_lower_word}
use Rattle.text.specs.Utf8.{utf8}
use Rattle.home.proofs.Alls.{All}
use Rattle.home.proofs.Clean.{is_ascii, ascii-utf8, utf8-none}

-- ---- from 128 on there is no name and no key

pub no_name : (c : ℕ) → ltb c 128 ≡ false → is_name c ≡ false
unfolding is_name
no_name c l = rw (beyond 65 90 c (omega tests), beyond 97 122 c (omega tests), beyond 48 57 c (omega tests), ne_eqb c 45 (omega tests))

pub no_key : (c : ℕ) → ltb c 128 ≡ false → is_key c ≡ false
unfolding is_key
no_key c l = rw (no_name c l, ne_eqb c 95 (omega tests))

-- ---- lower case

name-lower : (c : ℕ) → is_lower_name c ≡ true → is_name c ≡ true
unfolding is_lower_name is_name
name-lower c h = or-more (between 65 90 c) (between 97 122 c) (between 48 57 c) _ h
  where
    or-more : (u l d m : Bool) → l || d || m ≡ true → u || l || d || m ≡ true
    or-more true l d m h = refl
    or-more false l d m h = h

no-lower-name : (c : ℕ) → ltb c 128 ≡ false → is_lower_name c ≡ false
no-lower-name c l = by_bool (is_lower_name c) (λ e. not-both (name-lower c e) (no_name c l)) (λ e. e)

lower-name : (c : ℕ) → is_lower_name c ≡ true → lower c ≡ c
unfolding is_lower_name lower between
lower-name c h =
    let e : pick (is_lower_name c) (lower c) 0 ≡ pick (is_lower_name c) c 0 =
    by_below (λ c. pick (is_lower_name c) (lower c) 0) (λ c. pick (is_lower_name c) c 0) c 128 refl (λ l. rw (no-lower-name c l)) in
    rw h at e

pub lower-names : (s : Bytes) → all is_lower_name s ≡ true → lowered s ≡ s
unfolding lowered
lower-names [] h = refl
lower-names (c ∷ s) h = ap₂ ◌∷◌ (lower-name c (all_head is_lower_name c s h)) (lower-names s (all_tail is_lower_name c s h))

pub word-lowered : (s : Bytes) → is_lower_word s ≡ true → lowered s ≡ s
word-lowered s h = lower-names s (and_right (not (empty s)) _ h)

pub group-lowered : (s : Bytes) → empty s || is_lower_word s ≡ true → lowered s ≡ s
unfolding lowered
group-lowered [] h = refl
group-lowered (c ∷ s) h = word-lowered (c ∷ s) h

-- they are words of the grammar
pub names-lower : (s : Bytes) → all is_lower_name s ≡ true → all is_name s ≡ true
names-lower s h = all-imply is_lower_name is_name name-lower s h

pub word-lower : (s : Bytes) → is_lower_word s ≡ true → is_word s ≡ true
unfolding is_word
word-lower [] h = h
word-lower (c ∷ s) h = names-lower (c ∷ s) h

pub group-lower : (s : Bytes) → empty s || is_lower_word s ≡ true → empty s || all is_name s ≡ true
group-lower [] h = refl
group-lower (c ∷ s) h = names-lower (c ∷ s) h

pub or_word : (s : Bytes) → is_lower_word s ≡ true → empty s || is_lower_word s ≡ true
or_word [] h = refl
or_word (c ∷ s) h = h

-- ---- settled parameters

abbrev Lowered : Param → Type 0
Lowered p = lowered (param_name p) ≡ param_name p

none_named : (n : Bytes) (ps : List Param) → All Lowered ps → among n (map param_name ps) ≡ false → any (named n) ps ≡ false
unfolding any among named
none_named n [] h e = refl
none_named n (p ∷ ps) h e =
    rw (h.0, same-swap (param_name p) n, or_left (same n (param_name p)) _ e) (none_named n ps h.1 (or_right (same n (param_name p)) _ e))

pub distinct-settled : (ps : List Param) → All Lowered ps → distinct (map param_name ps) ≡ true → Settled ps
unfolding distinct
distinct-settled [] h e = tt
distinct-settled (param n vs ∷ ps) h e =
    (h.0, none_named n ps h.1 (not-true (among n (map param_name ps)) (and_left _ _ e)), distinct-settled ps h.1 (and_right (not (among n (map param_name ps))) _ e))

-- ---- words are ASCII

lower-ascii : (c : ℕ) → is_lower_name c ≡ true → is_ascii c ≡ true
lower-ascii c h = by_bool (is_ascii c) (λ e. e) (λ e. not-both h (no-lower-name c e))

pub name-utf8 : (s : Bytes) → is_lower_word s ≡ true → utf8 s ≡ true
name-utf8 s h = ascii-utf8 s (all-imply is_lower_name is_ascii lower-ascii s (and_right (not (empty s)) _ h))

pub group-utf8 : (g : Bytes) → empty g || is_lower_word g ≡ true → utf8 g ≡ true
group-utf8 [] h = utf8-none
group-utf8 (c ∷ g) h = name-utf8 (c ∷ g) h
