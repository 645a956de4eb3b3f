-- TEXT: what is written is read back, and split only where it was joined.
use mathlib.Core.Path.{◌≡◌, refl, sym, ap, ◌∙◌}
use mathlib.Core.Bool.{Bool, true, false, ◌&&◌, ◌||◌}
use mathlib.Core.List.{List, [], ◌∷◌, ◌++◌, map, append_assoc, append-nil}
use mathlib.Core.Option.{some}
use Prim.Native.Nat.{ℕ}
use lib.Dec.{eqb}
use borrow.Author.Tests.{eqb-true, eq-eqb}
use Rattle.text.specs.Bytes.{Bytes, ascii, on_head, joined, each}
use Rattle.text.proofs.Cases.{by_bool, by_keys, not-both}
use Rattle.text.proofs.Lists.{each_map}
use Rattle.line.specs.Text.{push, escaped, text_from, read_text, split_from, split_text, escape, write_text}

-- ---- reading

read_step : (k : Bool) (r : Bytes) (c : ℕ) → text_from false (escape k c ++ r) ≡ push c (text_from false r)
unfolding text_from escape escaped
read_step true r c =
    by_keys (λ c. text_from false (escape true c ++ r)) (λ c. push c (text_from false r)) c (92 ∷ 10 ∷ 44 ∷ 59 ∷ []) refl (λ n. cc)
read_step false r c =
    by_keys (λ c. text_from false (escape false c ++ r)) (λ c. push c (text_from false r)) c (92 ∷ 10 ∷ 44 ∷ []) refl (λ n. cc)

pub read-write : (k : Bool) (s : Bytes) → read_text (write_text k s) ≡ some s
unfolding read_text text_from write_text
read-write k [] = refl
read-write k (c ∷ s) = rw (read_step k (write_text k s) c, read-write k s)

-- each of several
pub read-written : (k : Bool) (vs : List Bytes) → each read_text (map (write_text k) vs) ≡ some vs
read-written k vs = each_map (write_text k) read_text (read-write k) vs

pub write-append : (k : Bool) (s t : Bytes) → write_text k (s ++ t) ≡ write_text k s ++ write_text k t
unfolding write_text
write-append k [] t = refl
write-append k (c ∷ s) t = rw (write-append k s t, append_assoc (escape k c))

-- ---- texts with no bare separator

-- bytes before the first part
unfoldable pub prefixed : Bytes → List Bytes → List Bytes
prefixed [] l = l
prefixed (c ∷ s) l = on_head c (prefixed s l)

prefixed-append : (s t : Bytes) (l : List Bytes) → prefixed (s ++ t) l ≡ prefixed s (prefixed t l)
unfolding prefixed
prefixed-append [] t l = refl
prefixed-append (c ∷ s) t l = rw (prefixed-append s t l)

prefixed-part : (s p : Bytes) (l : List Bytes) → prefixed s (p ∷ l) ≡ (s ++ p) ∷ l
unfolding prefixed on_head
prefixed-part [] p l = refl
prefixed-part (c ∷ s) p l = rw (prefixed-part s p l)

-- no bare d stands in s, and no escape is left open at its end
abbrev pub Sealed : ℕ → Bytes → Type 0
Sealed d s = (r : Bytes) → split_from false d (s ++ r) ≡ prefixed s (split_from false d r)

pub sealed-none : (d : ℕ) → Sealed d []
unfolding prefixed
sealed-none d r = refl

pub sealed-append : (d : ℕ) (s t : Bytes) → Sealed d s → Sealed d t → Sealed d (s ++ t)
sealed-append d s t a b r = rw (append_assoc s t r, a (t ++ r), b r) (sym (prefixed-append s t (split_from false d r)))

pub sealed-byte : (d c : ℕ) → eqb c 92 ≡ false → eqb c d ≡ false → Sealed d (c ∷ [])
unfolding split_from prefixed
sealed-byte d c e f r = rw (e, f)

-- the flag k escapes d
abbrev pub escapes : Bool → ℕ → Bool
escapes k d = eqb d 44 || (k && eqb d 59)

step-comma : (k : Bool) (c : ℕ) → Sealed 44 (escape k c)
unfolding split_from escape prefixed
step-comma true c r =
    by_keys (λ c. split_from false 44 (escape true c ++ r)) (λ c. prefixed (escape true c) (split_from false 44 r)) c (92 ∷ 10 ∷ 44 ∷ 59 ∷ []) refl (λ n. cc)
step-comma false c r =
    by_keys (λ c. split_from false 44 (escape false c ++ r)) (λ c. prefixed (escape false c) (split_from false 44 r)) c (92 ∷ 10 ∷ 44 ∷ []) refl (λ n. cc)

step-semicolon : (c : ℕ) → Sealed 59 (escape true c)
unfolding split_from escape prefixed
step-semicolon c r =
    by_keys (λ c. split_from false 59 (escape true c ++ r)) (λ c. prefixed (escape true c) (split_from false 59 r)) c (92 ∷ 10 ∷ 44 ∷ 59 ∷ []) refl (λ n. cc)

step-escape : (k : Bool) (d : ℕ) → escapes k d ≡ true → (c : ℕ) → Sealed d (escape k c)
step-escape k d h c = by_bool (eqb d 44) (λ e. rw (eqb-true d 44 e) (step-comma k c)) (λ e. semicolon k (eqb d 59) refl (rw e at h))
  where
    semicolon : (k b : Bool) → eqb d 59 ≡ b → k && eqb d 59 ≡ true → Sealed d (escape k c)
    semicolon true b q e = rw (eqb-true d 59 e) (step-semicolon c)
    semicolon false b q e = λ r. cc

-- written text has no bare separator that its flag escapes
pub sealed-written : (k : Bool) (d : ℕ) → escapes k d ≡ true → (s : Bytes) → Sealed d (write_text k s)
unfolding write_text
sealed-written k d h [] = sealed-none d
sealed-written k d h (c ∷ s) = sealed-append d (escape k c) (write_text k s) (step-escape k d h c) (sealed-written k d h s)

-- ---- splitting

-- the separator itself, which is no backslash
pub split-part : (d : ℕ) (s r : Bytes) → eqb d 92 ≡ false → Sealed d s → split_text d (s ++ d ∷ r) ≡ s ∷ split_text d r
unfolding split_text split_from
split-part d s r e a = a (d ∷ r) ∙ rw (e, eq-eqb d d refl, prefixed-part s [] (split_from false d r), append-nil s)

pub split-last : (d : ℕ) (s : Bytes) → Sealed d s → split_text d s ≡ s ∷ []
unfolding split_text split_from
split-last d s a = ap (split_from false d) (sym (append-nil s)) ∙ a [] ∙ prefixed-part s [] [] ∙ ap (λ (x : Bytes). x ∷ []) (append-nil s)

abbrev pub AllSealed : ℕ → List Bytes → Type 0
AllSealed d [] = Unit {0}
AllSealed d (p ∷ ps) = Sealed d p × AllSealed d ps

pub split-joined : (d : ℕ) (p : Bytes) (ps : List Bytes) → eqb d 92 ≡ false → AllSealed d (p ∷ ps) → split_text d (joined (d ∷ []) (p ∷ ps)) ≡ p ∷ ps
unfolding joined
split-joined d p [] e a = split-last d p a.0
split-joined d p (q ∷ qs) e a = rw (split-part d p (joined (d ∷ []) (q ∷ qs)) e a.0, split-joined d q qs e a.1)

pub all-sealed : (k : Bool) (d : ℕ) → escapes k d ≡ true → (vs : List Bytes) → AllSealed d (map (write_text k) vs)
all-sealed k d h [] = tt
all-sealed k d h (v ∷ vs) = (sealed-written k d h v, all-sealed k d h vs)

no-backslash : (k : Bool) (d : ℕ) → escapes k d ≡ true → eqb d 92 ≡ false
no-backslash true d h = by_bool (eqb d 92) (λ e. not-both (rw (eqb-true d 92 e) at h) refl) (λ e. e)
no-backslash false d h = by_bool (eqb d 92) (λ e. not-both (rw (eqb-true d 92 e) at h) refl) (λ e. e)

-- joined written parts come back
pub split-written : (k : Bool) (d : ℕ) → escapes k d ≡ true → (v : Bytes) (vs : List Bytes) → split_text d (joined (d ∷ []) (map (write_text k) (v ∷ vs))) ≡ map (write_text k) (v ∷ vs)
split-written k d h v vs = split-joined d (write_text k v) (map (write_text k) vs) (no-backslash k d h) (all-sealed k d h (v ∷ vs))

-- another separator between sealed parts
pub sealed-joined : (d e : ℕ) (ps : List Bytes) → eqb e 92 ≡ false → eqb e d ≡ false → AllSealed d ps → Sealed d (joined (e ∷ []) ps)
unfolding joined
sealed-joined d e [] p q a = sealed-none d
sealed-joined d e (s ∷ []) p q a = a.0
sealed-joined d e (s ∷ (t ∷ ts)) p q a =
    sealed-append d s (e ∷ joined (e ∷ []) (t ∷ ts)) a.0 (sealed-append d (e ∷ []) (joined (e ∷ []) (t ∷ ts)) (sealed-byte d e p q) (sealed-joined d e (t ∷ ts) p q a.1))

-- worked example
lists : split_text 44 (ascii "a\\,b,c") ≡ ascii "a\\,b" ∷ ascii "c" ∷ []
unfolding split_text split_from on_head
lists = refl
