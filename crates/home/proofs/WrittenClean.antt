-- Clean bytes: UTF-8 without a control but tab. What is put together of clean bytes is clean; compact JSON is.
use mathlib.Core.Path.{◌≡◌, refl, sym, ◌∙◌}
use mathlib.Core.Bool.{Bool, true, false, ◌&&◌, not}
use mathlib.Core.List.{List, [], ◌∷◌, ◌++◌}
use Prim.Native.Nat.{ℕ}
use native.Mathlib.Omega.{arith}
use lib.Dec.{ltb}
use borrow.Author.Tests.{ltb-false, le-ltb, ne_eqb}
use Rattle.text.specs.Choice.{pick}
use Rattle.text.specs.Bytes.{Bytes, ascii, is, any, all, between, joined}
use Rattle.text.specs.Utf8.{utf8}
use Rattle.text.proofs.Cases.{by_below, implied, beyond, and_left, and_right, not-true}
use Rattle.text.proofs.Lists.{all-not, all-imply, any-neither, all-anything}
use Rattle.text.proofs.Characters.{utf8_append}
use Rattle.json_text.specs.Tree.{Json, jnull, jtrue, jfalse, jnum, jstr, jarr, jobj, Elems, enil, econs, Members, mnil, mcons}
use Rattle.json_text.specs.Compact.{spelled, spelled_all, quoted, written, written_elems, elems_after, written_members, members_after, compact}
use Rattle.json_text.specs.Grammar.{is_e}
use Rattle.json_text.proofs.Numbers.{Spelled}
use Rattle.json_text.proofs.Sound.{Sound, SoundElems, SoundMembers}
use Rattle.line.specs.Class.{is_control}
use Rattle.line.specs.Text.{escape, write_text}
use Rattle.convert.specs.Carry.{carried_raw, carried_text}
use Rattle.home.proofs.Expanded.{escape-high, text-utf8, text-all, spelled-high, spelled-utf8, spelled-all}
use Rattle.home.proofs.NumberBytes.{is_number, number_fits}
use Rattle.home.proofs.Clean.{is_ascii, ascii-utf8, Clean, clean-none}
use Rattle.home.proofs.Alls.{All}
use Rattle.home.proofs.CleanTexts.{is_plain, clean-text as clean-carried}

-- printed in ASCII
abbrev pub is_printed : ℕ → Bool
is_printed c = ltb c 128 && not (is_control c)

abbrev quiet : ℕ → Bool
quiet c = not (is_control c)

none_any : (s : Bytes) → all quiet s ≡ true → any is_control s ≡ false
none_any s h = not-true (any is_control s) (sym (all-not is_control s) ∙ h)

pub clean-append : (s t : Bytes) → Clean s → Clean t → Clean (s ++ t)
clean-append s t a b = (utf8_append s t a.0 b.0, any-neither is_control s t a.1 b.1)

pub clean-printed : (s : Bytes) → all is_printed s ≡ true → Clean s
clean-printed s h =
    (ascii-utf8 s (all-imply is_printed is_ascii (λ c e. and_left (is_ascii c) _ e) s h), none_any s (all-imply is_printed quiet (λ c e. and_right (is_ascii c) _ e) s h))

-- printed bytes before clean ones
pub clean-before : (s t : Bytes) → all is_printed s ≡ true → Clean t → Clean (s ++ t)
clean-before s t h c = clean-append s t (clean-printed s h) c

pub clean-joined : (d : Bytes) (ss : List Bytes) → all is_printed d ≡ true → All Clean ss → Clean (joined d ss)
unfolding joined
clean-joined d [] h c = clean-none
clean-joined d (s ∷ []) h c = c.0
clean-joined d (s ∷ (t ∷ ts)) h c = clean-append s (d ++ joined d (t ∷ ts)) c.0 (clean-before d (joined d (t ∷ ts)) h (clean-joined d (t ∷ ts) h c.1))

-- ---- raw values and TEXT

pub raw-clean : (s : Bytes) → utf8 s ≡ true → carried_raw s ≡ true → Clean s
unfolding carried_raw
raw-clean s u h = (u, not-true (any is_control s) h)

high-quiet : (c : ℕ) → is_ascii c ≡ false → is_control c ≡ false
unfolding is_control
high-quiet c l = let h = ltb-false c 128 l in rw (le-ltb c 32 (omega arith), ne_eqb c 127 (omega arith))

high-escape : (k : Bool) (c : ℕ) → is_ascii c ≡ false → pick (is_plain c) (all quiet (escape k c)) true ≡ true
unfolding all
high-escape k c l = rw (escape-high k c l, high-quiet c l)

escape-quiet : (k : Bool) (c : ℕ) → pick (is_plain c) (all quiet (escape k c)) true ≡ true
unfolding escape all is_control
escape-quiet true c = by_below (λ c. pick (is_plain c) (all quiet (escape true c)) true) (λ c. true) c 128 refl (high-escape true c)
escape-quiet false c = by_below (λ c. pick (is_plain c) (all quiet (escape false c)) true) (λ c. true) c 128 refl (high-escape false c)

escape-carried : (k : Bool) (c : ℕ) → is_plain c ≡ true → all quiet (escape k c) ≡ true
escape-carried k c h = let r = escape-quiet k c in rw h at r

pub text-clean : (k : Bool) (s : Bytes) → utf8 s ≡ true → carried_text s ≡ true → Clean (write_text k s)
unfolding carried_text
text-clean k s u h = (text-utf8 k s u, none_any (write_text k s) (text-all k is_plain quiet (escape-carried k) s (all-not (λ c. is_control c && not (is 10 c)) s ∙ h)))

-- what is clean may be written as TEXT
pub clean-text : (k : Bool) (s : Bytes) → Clean s → Clean (write_text k s)
unfolding carried_text
clean-text k s c = text-clean k s c.0 (clean-carried s c).1

-- ---- compact JSON

high-spelled : (c : ℕ) → is_ascii c ≡ false → all quiet (spelled c) ≡ true
unfolding all
high-spelled c l = rw (spelled-high c l, high-quiet c l)

spelled-quiet : (c : ℕ) → all quiet (spelled c) ≡ true
unfolding spelled all is_control
spelled-quiet c = by_below (λ c. all quiet (spelled c)) (λ c. true) c 128 refl (λ l. high-spelled c l)

spelled-clean : (s : Bytes) → utf8 s ≡ true → Clean (spelled_all s)
spelled-clean s u = (spelled-utf8 s u, none_any (spelled_all s) (spelled-all (λ c. true) quiet (λ c h. spelled-quiet c) s (all-anything s)))

high-number : (c : ℕ) → is_ascii c ≡ false → is_number c ≡ false
unfolding is_number is_e
high-number c l =
    let h = ltb-false c 128 l in
    rw (beyond 48 57 c (omega arith), ne_eqb c 101 (omega arith), ne_eqb c 69 (omega arith), ne_eqb c 43 (omega arith), ne_eqb c 45 (omega arith), ne_eqb c 46 (omega arith))

number-printed : (c : ℕ) → is_number c ≡ true → is_printed c ≡ true
unfolding is_number is_e is_control between
number-printed c h = implied is_number is_printed 128 c refl (λ l. high-number c l) h

number-clean : (x : Bytes) → Spelled x → Clean x
number-clean x n = clean-printed x (all-imply is_number is_printed number-printed x (number_fits x n))

quoted-clean : (s t : Bytes) → utf8 s ≡ true → Clean t → Clean (quoted s t)
unfolding quoted is_control all
quoted-clean s t u c = clean-before (ascii "\"") _ refl (clean-append (spelled_all s) (34 ∷ t) (spelled-clean s u) (clean-before (ascii "\"") t refl c))

mutual
  unfolding written written_elems elems_after written_members members_after is_control all

  pub written-clean : (j : Json) (d : ℕ) (t : Bytes) → Sound d j → Clean t → Clean (written j t)
  written-clean jnull d t h c = clean-before (ascii "null") t refl c
  written-clean jtrue d t h c = clean-before (ascii "true") t refl c
  written-clean jfalse d t h c = clean-before (ascii "false") t refl c
  written-clean (jnum x) d t h c = clean-append x t (number-clean x h) c
  written-clean (jstr s) d t h c = quoted-clean s t h c
  written-clean (jarr es) d t h c = clean-before (ascii "[") _ refl (elems-clean es h.0 t h.2 c)
  written-clean (jobj ms) d t h c = clean-before (ascii "{") _ refl (members-clean ms h.0 t h.3 c)

  elems-clean : (es : Elems) (d : ℕ) (t : Bytes) → SoundElems d es → Clean t → Clean (written_elems es t)
  elems-clean enil d t h c = clean-before (ascii "]") t refl c
  elems-clean (econs j es) d t h c = written-clean j d (elems_after es t) h.0 (after-elems es d t h.1 c)

  after-elems : (es : Elems) (d : ℕ) (t : Bytes) → SoundElems d es → Clean t → Clean (elems_after es t)
  after-elems enil d t h c = clean-before (ascii "]") t refl c
  after-elems (econs j es) d t h c = clean-before (ascii ",") _ refl (written-clean j d (elems_after es t) h.0 (after-elems es d t h.1 c))

  members-clean : (ms : Members) (d : ℕ) (t : Bytes) → SoundMembers d ms → Clean t → Clean (written_members ms t)
  members-clean mnil d t h c = clean-before (ascii "}") t refl c
  members-clean (mcons k j ms) d t h c = quoted-clean k _ h.0 (clean-before (ascii ":") _ refl (written-clean j d (members_after ms t) h.1 (after-members ms d t h.2 c)))

  after-members : (ms : Members) (d : ℕ) (t : Bytes) → SoundMembers d ms → Clean t → Clean (members_after ms t)
  after-members mnil d t h c = clean-before (ascii "}") t refl c
  after-members (mcons k j ms) d t h c =
      clean-before (ascii ",") _ refl (quoted-clean k _ h.0 (clean-before (ascii ":") _ refl (written-clean j d (members_after ms t) h.1 (after-members ms d t h.2 c))))

pub compact-clean : (j : Json) (d : ℕ) → Sound d j → Clean (compact j)
unfolding compact
compact-clean j d h = written-clean j d [] h clean-none
