-- UID and KIND: the line that is there, or made.
use mathlib.Core.Path.{◌≡◌, refl, sym, ap, ◌∙◌}
use mathlib.Core.Bool.{true, false, ◌&&◌, ◌||◌, not}
use mathlib.Core.List.{List, [], ◌∷◌, ◌++◌, map}
use mathlib.Core.Option.{none}
use Prim.Native.Nat.{ℕ}
use Rattle.text.specs.Bytes.{Bytes, ascii, any, all, empty, same, among, lower, lowered}
use Rattle.text.specs.Decimal.{decimal}
use Rattle.text.proofs.Cases.{not-both, or_left, or_right, not-true}
use Rattle.text.proofs.Lists.{all_head}
use Rattle.line.specs.Class.{is_name}
use Rattle.line.specs.Grammar.{Line}
use Rattle.convert.specs.Value.{filled}
use Rattle.convert.specs.Classify.{Class, as-version, as-uid, as-kind, as_dropped, as-full, as_parts, as-entry, as_member, as-kept, Seen, classed_after}
use Rattle.convert.specs.FromCard.{Gives, gives, gathered, first_of, or_else, made_uid}
use Rattle.convert.specs.Property.{property}
use Rattle.convert.specs.ToCard.{where_filled}
use Rattle.convert.specs.Answers.{second_from, emptied, is_named}
use Rattle.convert.specs.NormalCard.{uids, kinds, section, or_made}
use Rattle.home.proofs.Images.{AtMostOne, empty-map}
use Rattle.home.proofs.Classes.{Fact, Agrees, gathered-section, elsewhere}
use Rattle.home.proofs.Once.{ByName, few, one-named, gathered-all}

-- one value, or a made one
pub one-or-made : {A : Type 0} (G : A → Line) (xs : List A) (d : A) → AtMostOne xs → or_made (map G xs) (G d) ≡ G (or_else (first_of xs) d) ∷ []
one-or-made G [] d h = refl
one-or-made G (x ∷ []) d h = refl
one-or-made G (x ∷ (y ∷ ys)) d h = absurd h

-- ---- UID

abbrev uid-line : Bytes → Line
uid-line v = property (ascii "uid") [] v

uid-agrees : (s : Seen) (l : Line) (c : Class) → Fact s l c → Agrees (λ (g : Gives). g.uid) uids uid-line (λ (l : Line). uid-line l.value) l c
uid-agrees s l as-version h = refl
uid-agrees s l (as-uid v) h = rw h.1
uid-agrees s l (as-kind v) h = refl
uid-agrees s l as_dropped h = refl
uid-agrees s l (as-full v) h = refl
uid-agrees s l (as_parts ps) h = refl
uid-agrees s l (as-entry i e) h = rw (elsewhere i 1 refl)
uid-agrees s l (as_member n j) h = refl
uid-agrees s l as-kept h = refl

pub uid-named : ByName (λ (g : Gives). g.uid) (ascii "uid")
uid-named s l as-version h n = refl
uid-named s l (as-uid v) h n = not-both h.0 n
uid-named s l (as-kind v) h n = refl
uid-named s l as_dropped h n = refl
uid-named s l (as-full v) h n = refl
uid-named s l (as_parts ps) h n = refl
uid-named s l (as-entry i e) h n = refl
uid-named s l (as_member m j) h n = refl
uid-named s l as-kept h n = refl

pub uid-part : (stem : Bytes) (n : ℕ) (s : Seen) (ls : List Line) → second_from 1 [] ls ≡ none
    → uid-line (or_else (first_of (gathered (λ (g : Gives). g.uid) (classed_after s ls))) (made_uid stem n)) ∷ []
    ≡ or_made (map (λ (l : Line). property (ascii "uid") [] l.value) (section uids (classed_after s ls))) (property (ascii "uid") [] (stem ++ 45 ∷ decimal n))
unfolding made_uid same among any
uid-part stem n s ls h =
    sym (one-or-made uid-line (gathered (λ (g : Gives). g.uid) (classed_after s ls)) (made_uid stem n) (one-named (λ (g : Gives). g.uid) (ascii "uid") uid-named (λ l c. (few l c).0) refl 1 [] s ls h))
    ∙ ap (λ (x : List Line). or_made x (uid-line (stem ++ 45 ∷ decimal n))) (gathered-section (λ (g : Gives). g.uid) uids uid-line (λ (l : Line). uid-line l.value) uid-agrees s ls)

-- ---- KIND

abbrev kind-line : Bytes → Line
kind-line v = property (ascii "kind") [] v

kind-agrees : (s : Seen) (l : Line) (c : Class) → Fact s l c → Agrees (λ (g : Gives). g.kind) kinds kind-line (λ (l : Line). kind-line (lowered l.value)) l c
kind-agrees s l as-version h = refl
kind-agrees s l (as-uid v) h = refl
kind-agrees s l (as-kind v) h = rw h.1
kind-agrees s l as_dropped h = refl
kind-agrees s l (as-full v) h = refl
kind-agrees s l (as_parts ps) h = refl
kind-agrees s l (as-entry i e) h = rw (elsewhere i 2 refl)
kind-agrees s l (as_member n j) h = refl
kind-agrees s l as-kept h = refl

pub kind-named : ByName (λ (g : Gives). g.kind) (ascii "kind")
kind-named s l as-version h n = refl
kind-named s l (as-uid v) h n = refl
kind-named s l (as-kind v) h n = not-both h.0 n
kind-named s l as_dropped h n = refl
kind-named s l (as-full v) h n = refl
kind-named s l (as_parts ps) h n = refl
kind-named s l (as-entry i e) h n = refl
kind-named s l (as_member m j) h n = refl
kind-named s l as-kept h n = refl

-- KIND has a value
valued : (l : Line) → is_named (ascii "kind") l ≡ true → emptied l ≡ false → filled (lowered l.value) ≡ true
unfolding emptied lowered
valued l n e =
    let a : is_named (ascii "kind") l && (empty l.value || not (all is_name l.value)) ≡ false = or_right (is_named (ascii "uid") l && empty l.value) _ e in
    let b : empty l.value || not (all is_name l.value) ≡ false = rw n at a in
    rw (empty-map lower l.value, or_left (empty l.value) _ b)

pub kind-filled : (s : Seen) (l : Line) (c : Class) → Fact s l c → emptied l ≡ false → all filled (gives l c).kind ≡ true
unfolding all
kind-filled s l as-version h e = refl
kind-filled s l (as-uid v) h e = refl
kind-filled s l (as-kind v) h e = rw (h.1, valued l h.0 e)
kind-filled s l as_dropped h e = refl
kind-filled s l (as-full v) h e = refl
kind-filled s l (as_parts ps) h e = refl
kind-filled s l (as-entry i x) h e = refl
kind-filled s l (as_member m j) h e = refl
kind-filled s l as-kept h e = refl

kind-there : (ks : List Bytes) → AtMostOne ks → all filled ks ≡ true → where_filled (or_else (first_of ks) []) (kind-line (or_else (first_of ks) [])) ≡ map kind-line ks
kind-there [] o h = refl
kind-there (k ∷ []) o h = rw (not-true (empty k) (all_head filled k [] h))
kind-there (k ∷ (j ∷ ks)) o h = absurd o

pub kind-part : (s : Seen) (ls : List Line) → second_from 1 [] ls ≡ none → any emptied ls ≡ false
    → where_filled (or_else (first_of (gathered (λ (g : Gives). g.kind) (classed_after s ls))) []) (kind-line (or_else (first_of (gathered (λ (g : Gives). g.kind) (classed_after s ls))) []))
    ≡ map (λ (l : Line). property (ascii "kind") [] (lowered l.value)) (section kinds (classed_after s ls))
unfolding same among any
kind-part s ls h e =
    kind-there (gathered (λ (g : Gives). g.kind) (classed_after s ls)) (one-named (λ (g : Gives). g.kind) (ascii "kind") kind-named (λ l c. (few l c).1) refl 1 [] s ls h) (gathered-all (λ (g : Gives). g.kind) filled emptied kind-filled s ls e)
    ∙ gathered-section (λ (g : Gives). g.kind) kinds kind-line (λ (l : Line). kind-line (lowered l.value)) kind-agrees s ls
