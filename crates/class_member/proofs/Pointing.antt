-- Pointers by their bytes: two are equal where the names are, and a reserved name is its own pointer.
use mathlib.Core.Path.{◌≡◌, refl, sym, ap, ◌∙◌}
use mathlib.Core.Bool.{Bool, true, false, ◌&&◌, ◌||◌, not}
use mathlib.Core.List.{List, [], ◌∷◌}
use mathlib.Core.Option.{Option, none, some}
use Prim.Native.Nat.{ℕ, suc, ◌+◌, ◌≤◌, ◌<◌}
use native.Mathlib.Numerals.{add-one}
use native.Mathlib.Omega.{arith}
use lib.Dec.{eqb}
use lib.ListN.{length, take, drop, get_or, drop_of_length-le}
use lib.Seq.{drop-cons}
use borrow.Author.Tests.{eqb-true}
use Rattle.text.specs.Choice.{is_some}
use Rattle.text.specs.Bytes.{Bytes, ascii, any, same, among}
use Rattle.text.proofs.Cases.{by_bool, not-both}
use Rattle.text.proofs.Choices.{some_same}
use Rattle.text.proofs.Same.{same_true, same-eq, among-append}
use Rattle.convert.specs.Table.{reserved}
use Rattle.convert.specs.Pointer.{push, pointed_from, pointed, pointer}
use Rattle.convert.proofs.Pointers.{pointer-pointed}
use Rattle.class_member.specs.Member.{points_on, Pointers}

-- ---- byte by byte

push-some : (c : ℕ) (o : Option Bytes) → is_some (push c o) ≡ is_some o
push-some c none = refl
push-some c (some t) = refl

point-byte : (b : Bool) (c : ℕ) (s : Bytes) → is_some (pointed_from b (c ∷ s)) ≡ points_on b c && is_some (pointed_from (not b && eqb c 126) s)
unfolding pointed_from
point-byte true c s =
    by_bool (eqb c 48)
    (λ e. rw e (push-some 126 (pointed_from false s)))
    (λ e. by_bool (eqb c 49) (λ f. rw (e, f) (push-some 47 (pointed_from false s))) (λ f. rw (e, f)))
point-byte false c s =
    by_bool (eqb c 126)
    (λ e. rw (eqb-true c 126 e))
    (λ e. by_bool (eqb c 47) (λ f. rw (e, f)) (λ f. rw (e, f) (push-some c (pointed_from false s))))

pub point-on : (p : Bytes) (i : ℕ) (b : Bool) → i < length p → points_on b (get_or p i 0) ≡ true
    → is_some (pointed_from b (drop i p)) ≡ is_some (pointed_from (not b && eqb (get_or p i 0) 126) (drop (i + 1) p))
point-on p i b l e = rw (add-one, drop-cons p i 0 l) (point-byte b (get_or p i 0) (drop (suc i) p) ∙ rw e)

pub point-off : (p : Bytes) (i : ℕ) (b : Bool) → i < length p → points_on b (get_or p i 0) ≡ false → is_some (pointed_from b (drop i p)) ≡ false
point-off p i b l e = rw (drop-cons p i 0 l) (point-byte b (get_or p i 0) (drop (suc i) p) ∙ rw e)

ends : (b : Bool) → is_some (pointed_from b []) ≡ not b
unfolding pointed_from
ends true = refl
ends false = refl

pub point-end : (p : Bytes) (i : ℕ) (b : Bool) → length p ≤ i → is_some (pointed_from b (drop i p)) ≡ not b
point-end p i b l = rw (drop_of_length-le p l) (ends b)

pub point-none : (p : Bytes) → length p ≡ 0 → is_some (pointed p) ≡ false
unfolding pointed
point-none [] e = refl
point-none (c ∷ p) e = absurd (omega (arith, e))

pub point-some : (p : Bytes) → (length p ≡ 0 → ⊥) → is_some (pointed_from false p) ≡ is_some (pointed p)
unfolding pointed
point-some [] n = absurd (n refl)
point-some (c ∷ p) n = refl

-- ---- names by pointers

-- two pointers are equal bytes exactly where the names are equal
pub same-pointed : (p q n m : Bytes) → pointed p ≡ some n → pointed q ≡ some m → same n m ≡ same p q
same-pointed p q n m a b =
    by_bool (same p q)
    (λ e. same-eq (some_same (sym a ∙ ap pointed (same_true p q e) ∙ b)) ∙ sym e)
    (λ e. by_bool (same n m)
    (λ f. not-both (same-eq (sym (pointer-pointed p n a) ∙ ap pointer (same_true n m f) ∙ pointer-pointed q m b)) e)
    (λ f. f ∙ sym e))

-- the name is one of those that some pointers point at, exactly where its pointer is one of them
pub among-pointers : (p n : Bytes) → pointed p ≡ some n → (qs ms : List Bytes) → Pointers qs ms → among n ms ≡ among p qs
unfolding among any
among-pointers p n a [] [] h = refl
among-pointers p n a [] (m ∷ ms) h = absurd h
among-pointers p n a (q ∷ qs) [] h = absurd h
among-pointers p n a (q ∷ qs) (m ∷ ms) h = rw (same-pointed p q n m a h.0) (ap (λ b. same p q || b) (among-pointers p n a qs ms h.1))

reserved-plain : Pointers reserved reserved
unfolding pointed pointed_from
reserved-plain = (refl, (refl, (refl, (refl, (refl, (refl, (refl, (refl, (refl, (refl, (refl, (refl, (refl, tt)))))))))))))

-- no reserved name has a tilde or a slash: its pointer is compared as it stands
pub among-reserved : (p n : Bytes) → pointed p ≡ some n → among n reserved ≡ among p (take 5 reserved) || among p (drop 5 reserved)
among-reserved p n a = among-pointers p n a reserved reserved reserved-plain ∙ among-append p (take 5 reserved) (drop 5 reserved)

pub is_word : (p w : Bytes) (ws : List Bytes) → among w ws ≡ true → same p w ≡ true → true ≡ among p ws
is_word p w ws h e = sym (ap (λ x. among x ws) (same_true p w e) ∙ h)

-- ---- the reserved names, one by one

or-none : (b : Bool) → b || false ≡ b
or-none true = refl
or-none false = refl

pub word-type : among (ascii "@type") (take 5 reserved) ≡ true
unfolding among any same
word-type = refl

pub word-version : among (ascii "version") (take 5 reserved) ≡ true
unfolding among any same
word-version = refl

pub word-uid : among (ascii "uid") (take 5 reserved) ≡ true
unfolding among any same
word-uid = refl

pub word-kind : among (ascii "kind") (take 5 reserved) ≡ true
unfolding among any same
word-kind = refl

pub word-nicknames : among (ascii "nicknames") (drop 5 reserved) ≡ true
unfolding among any same
word-nicknames = refl

pub word-emails : among (ascii "emails") (drop 5 reserved) ≡ true
unfolding among any same
word-emails = refl

pub word-phones : among (ascii "phones") (drop 5 reserved) ≡ true
unfolding among any same
word-phones = refl

pub word-links : among (ascii "links") (drop 5 reserved) ≡ true
unfolding among any same
word-links = refl

pub word-notes : among (ascii "notes") (drop 5 reserved) ≡ true
unfolding among any same
word-notes = refl

pub word-titles : among (ascii "titles") (drop 5 reserved) ≡ true
unfolding among any same
word-titles = refl

pub word-organizations : among (ascii "organizations") (drop 5 reserved) ≡ true
unfolding among any same
word-organizations = refl

pub last-head : (p : Bytes) → same p (ascii "@type") ≡ false → same p (ascii "version") ≡ false → same p (ascii "uid") ≡ false → same p (ascii "kind") ≡ false → among p (take 5 reserved) ≡ same p (ascii "name")
unfolding among any
last-head p a b c d = rw (a, b, c, d) (or-none (same p (ascii "name")))

pub last-section : (p : Bytes) → same p (ascii "nicknames") ≡ false → same p (ascii "emails") ≡ false → same p (ascii "phones") ≡ false → same p (ascii "links") ≡ false → same p (ascii "notes") ≡ false → same p (ascii "titles") ≡ false → same p (ascii "organizations") ≡ false → among p (drop 5 reserved) ≡ same p (ascii "vCardProps")
unfolding among any
last-section p a b c d e f g = rw (a, b, c, d, e, f, g) (or-none (same p (ascii "vCardProps")))
