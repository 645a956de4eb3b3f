-- What the number of its name says of a line's class.
use mathlib.Core.Path.{◌≡◌, refl, ap, ◌∙◌}
use mathlib.Core.Bool.{true, false}
use mathlib.Core.List.{[], ◌∷◌}
use mathlib.Core.Option.{none}
use Prim.Native.Nat.{ℕ, ◌+◌, ◌<◌, ◌≤◌}
use native.Mathlib.Omega.{arith}
use lib.Dec.{eqb}
use lib.ListN.{get_or}
use borrow.Author.Tests.{eqb-false, ne_eqb}
use Rattle.text.specs.Bytes.{Bytes, ascii, same, any, lowered}
use Rattle.text.proofs.Cases.{by_bool, not-both, NoneOf, by_keys_p}
use Rattle.text.proofs.Same.{same_true}
use Rattle.line.specs.Grammar.{Line}
use Rattle.convert.specs.Table.{Map, maps, text, Slot, slot_of, slot_from, position}
use Rattle.convert.specs.Classify.{Seen, as-version, as-uid, as-kind, as-kept, full_class, parts_class, member_class, entry_class, classify}
use Rattle.convert_entry.proofs.Classes.{of-slot}
use Rattle.class_properties.specs.Names.{name_number, types_of, form_of, Slotted}
use Rattle.class_properties.proofs.Numbers.{words_of, words-of, sole-word, number-differs, number_bound, number-version, number-uid, number-kind, number-fn, number-n, number-jsprop, number-nickname, number-email, number-tel, number-url, number-note, number-title, number-role, number-org}

-- ---- maps

abbrev no_map : Map
no_map = record { member = []; prefix = []; properties = []; kinds = []; content = []; form = text; parameters = []; types = 0 }

-- the slot of the map i, and which of its properties
abbrev slot_at : ℕ → ℕ → Slot
slot_at i which = record { index = i; map = get_or maps i no_map; which = which }

slot-nickname : Slotted (ascii "nickname") 0
unfolding slot_of slot_from position same types_of form_of
slot-nickname = record { slot = slot_at 0 0; is = refl; row = record { index = refl; types = refl; parameters = refl; form = refl } }

slot-email : Slotted (ascii "email") 1
unfolding slot_of slot_from position same types_of form_of
slot-email = record { slot = slot_at 1 0; is = refl; row = record { index = refl; types = refl; parameters = refl; form = refl } }

slot-tel : Slotted (ascii "tel") 2
unfolding slot_of slot_from position same types_of form_of
slot-tel = record { slot = slot_at 2 0; is = refl; row = record { index = refl; types = refl; parameters = refl; form = refl } }

slot-url : Slotted (ascii "url") 3
unfolding slot_of slot_from position same types_of form_of
slot-url = record { slot = slot_at 3 0; is = refl; row = record { index = refl; types = refl; parameters = refl; form = refl } }

slot-note : Slotted (ascii "note") 4
unfolding slot_of slot_from position same types_of form_of
slot-note = record { slot = slot_at 4 0; is = refl; row = record { index = refl; types = refl; parameters = refl; form = refl } }

slot-title : Slotted (ascii "title") 5
unfolding slot_of slot_from position same types_of form_of
slot-title = record { slot = slot_at 5 0; is = refl; row = record { index = refl; types = refl; parameters = refl; form = refl } }

slot-role : Slotted (ascii "role") 5
unfolding slot_of slot_from position same types_of form_of
slot-role = record { slot = slot_at 5 1; is = refl; row = record { index = refl; types = refl; parameters = refl; form = refl } }

slot-org : Slotted (ascii "org") 6
unfolding slot_of slot_from position same types_of form_of
slot-org = record { slot = slot_at 6 0; is = refl; row = record { index = refl; types = refl; parameters = refl; form = refl } }

at-word : {n w : Bytes} {i : ℕ} → n ≡ w → Slotted w i → Slotted n i
at-word e h = record { slot = h.slot; is = ap slot_of e ∙ h.is; row = h.row }

title-or-role : (n : Bytes) → any (same n) (ascii "title" ∷ ascii "role" ∷ []) ≡ true → Slotted n 5
unfolding any
title-or-role n h =
    by_bool (same n (ascii "title"))
    (λ e. at-word (same_true n (ascii "title") e) slot-title)
    (λ e. by_bool (same n (ascii "role")) (λ d. at-word (same_true n (ascii "role") d) slot-role) (λ d. let z : false ≡ true = rw (e, d) at h in not-both z refl))

low : (i : ℕ) → eqb i 0 ≡ false → eqb i 1 ≡ false → eqb i 2 ≡ false → eqb i 3 ≡ false → 4 ≤ i
low i a b c d = omega (arith, eqb-false i 0 a, eqb-false i 1 b, eqb-false i 2 c, eqb-false i 3 d)

high : (i : ℕ) → 4 ≤ i → eqb i 4 ≡ false → eqb i 5 ≡ false → eqb i 6 ≡ false → 7 ≤ i
high i l a b c = omega (arith, eqb-false i 4 a, eqb-false i 5 b, eqb-false i 6 c)

none-else : (n : Bytes) (i : ℕ) → NoneOf i (0 ∷ 1 ∷ 2 ∷ 3 ∷ 4 ∷ 5 ∷ 6 ∷ []) → name_number n ≡ 16 + i → ⊥
none-else n i (a, (b, (c, (d, (e, (f, (g, _))))))) h = let l = high i (low i a b c d) e f g in omega (arith, number_bound n)

-- a name whose number is 16 + i is one of the map i
pub slotted : (n : Bytes) (i : ℕ) → name_number n ≡ 16 + i → Slotted n i
unfolding words_of
slotted n i =
    by_keys_p (λ i. name_number n ≡ 16 + i → Slotted n i) i (0 ∷ 1 ∷ 2 ∷ 3 ∷ 4 ∷ 5 ∷ 6 ∷ []) (
      λ e. at-word (sole-word n (ascii "nickname") 16 refl (omega arith) e) slot-nickname,
      (
        λ e. at-word (sole-word n (ascii "email") 17 refl (omega arith) e) slot-email,
        (
          λ e. at-word (sole-word n (ascii "tel") 18 refl (omega arith) e) slot-tel,
          (
            λ e. at-word (sole-word n (ascii "url") 19 refl (omega arith) e) slot-url,
            (
              λ e. at-word (sole-word n (ascii "note") 20 refl (omega arith) e) slot-note,
              (
                λ e. title-or-role n (words-of n 21 (omega arith) e),
                (λ e. at-word (sole-word n (ascii "org") 22 refl (omega arith) e) slot-org, tt),
              ),
            ),
          ),
        ),
      ),
    )
    (λ o e. absurd (none-else n i o e))

-- a name of another number
other : (n w : Bytes) (k : ℕ) → name_number w ≡ k → (name_number n ≡ k → ⊥) → same n w ≡ false
other n w k h d = number-differs n w (ne_eqb (name_number n) (name_number w) (λ e. d (e ∙ h)))

-- no other name is one of a map
pub unslotted : (n : Bytes) → name_number n < 16 → slot_of n ≡ none
unfolding slot_of slot_from position
unslotted n l =
    rw (
      other n (ascii "nickname") 16 number-nickname (λ e. omega arith),
      other n (ascii "email") 17 number-email (λ e. omega arith),
      other n (ascii "tel") 18 number-tel (λ e. omega arith),
      other n (ascii "url") 19 number-url (λ e. omega arith),
      other n (ascii "note") 20 number-note (λ e. omega arith),
      other n (ascii "title") 21 number-title (λ e. omega arith),
      other n (ascii "role") 21 number-role (λ e. omega arith),
      other n (ascii "org") 22 number-org (λ e. omega arith),
    )

-- ---- all lines

module _ (seen : Seen) (l : Line) where
  abbrev n : Bytes
  n = lowered l.name

  pub version-class : name_number n ≡ 1 → classify seen l ≡ as-version
  unfolding classify words_of same
  version-class e = rw (sole-word n (ascii "version") 1 refl (omega arith) e)

  pub uid-class : name_number n ≡ 2 → classify seen l ≡ as-uid l.value
  unfolding classify words_of same
  uid-class e = rw (sole-word n (ascii "uid") 2 refl (omega arith) e)

  pub kind-class : name_number n ≡ 3 → classify seen l ≡ as-kind (lowered l.value)
  unfolding classify words_of same
  kind-class e = rw (sole-word n (ascii "kind") 3 refl (omega arith) e)

  pub full-class : name_number n ≡ 4 → classify seen l ≡ full_class seen l
  unfolding classify words_of same
  full-class e = rw (sole-word n (ascii "fn") 4 refl (omega arith) e)

  pub parts-class : name_number n ≡ 5 → classify seen l ≡ parts_class seen l
  unfolding classify words_of same
  parts-class e = rw (sole-word n (ascii "n") 5 refl (omega arith) e)

  pub member-class : name_number n ≡ 6 → classify seen l ≡ member_class seen l
  unfolding classify words_of same
  member-class e = rw (sole-word n (ascii "jsprop") 6 refl (omega arith) e)

  pub map-class : (i : ℕ) → name_number n ≡ 16 + i → (h : Slotted n i) → classify seen l ≡ entry_class seen h.slot l
  map-class i e h = of-slot seen l h.slot h.is

  pub other-class : name_number n ≡ 0 → classify seen l ≡ as-kept
  unfolding classify
  other-class e =
      rw (
        other n (ascii "version") 1 number-version (λ d. omega arith),
        other n (ascii "uid") 2 number-uid (λ d. omega arith),
        other n (ascii "kind") 3 number-kind (λ d. omega arith),
        other n (ascii "fn") 4 number-fn (λ d. omega arith),
        other n (ascii "n") 5 number-n (λ d. omega arith),
        other n (ascii "jsprop") 6 number-jsprop (λ d. omega arith),
        unslotted n (omega arith),
      )
