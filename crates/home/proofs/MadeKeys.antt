-- Keys are key texts, in a card of at most 512 lines.
use mathlib.Core.Path.{◌≡◌, refl, sym, ap, subst}
use mathlib.Core.Bool.{Bool, true, false, ◌&&◌, ◌||◌, not}
use mathlib.Core.List.{List, [], ◌∷◌, ◌++◌}
use Prim.Native.Nat.{ℕ, zero, suc, ◌+◌, ◌≤◌, ◌<◌}
use native.Mathlib.Omega.{arith}
use lib.ListN.{length, length-append}
use lib.Dec.{leb}
use borrow.Author.Tests.{le-leb}
use Rattle.text.specs.Choice.{pick}
use Rattle.text.specs.Bytes.{Bytes, all, empty, among, is_digit, between, keep}
use Rattle.text.specs.Decimal.{digits_before, decimal}
use Rattle.text.proofs.Cases.{by_bool, by_below, tests, and-true, and_left, and_right, implied, beyond}
use Rattle.text.proofs.Lists.{all_both, all-imply, all_cons, length-keep}
use Rattle.text.proofs.Decimals.{decimal-digits}
use Rattle.line.specs.Class.{is_name, is_key}
use Rattle.convert.specs.Value.{is_key_text}
use Rattle.convert.specs.Keys.{numbered, fresh, keys_after, keys}
use Rattle.convert.proofs.Fresh.{number_from, fresh-numbered, fresh-filled}

-- ---- the number of a made key

number_bound : (f : ℕ) (p : Bytes) (n : ℕ) (used : List Bytes) → number_from f p n used ≤ n + f
unfolding number_from
number_bound zero p n used = omega arith
number_bound (suc f) p n used =
    by_bool (among (numbered p n) used) (λ e. rw e (omega (arith, number_bound f p (suc n) used))) (λ e. rw e (omega arith))

-- at most 4 digits below 1100
short : (n : ℕ) → n < 1100 → leb (length (decimal n)) 4 ≡ true
unfolding decimal digits_before
short n l = by_below (λ n. leb (length (decimal n)) 4) (λ n. true) n 1100 refl (λ h. absurd (omega tests))

digit-key : (c : ℕ) → is_digit c ≡ true → is_key c ≡ true
unfolding is_key is_name between
digit-key c h = implied is_digit is_key 128 c refl (λ l. beyond 48 57 c (omega tests)) h

hyphen-key : is_key 45 ≡ true
unfolding is_key is_name between
hyphen-key = refl

-- a prefix of keys
abbrev pub is_prefix : Bytes → Bool
is_prefix p = all is_key p && leb (length p) 200

numbered-key : (p : Bytes) (n : ℕ) → is_prefix p ≡ true → n < 1100 → leb (length (numbered p n)) 255 && all is_key (numbered p n) ≡ true
unfolding numbered
numbered-key p n h l =
    and-true
    (le-leb (length (p ++ 45 ∷ decimal n)) 255 (omega (tests, length-append p (45 ∷ decimal n), short n l, and_right (all is_key p) (leb (length p) 200) h)))
    (all_both is_key p (45 ∷ decimal n) (and_left (all is_key p) _ h) (all_cons is_key 45 (decimal n) hyphen-key (all-imply is_digit is_key digit-key (decimal n) (decimal-digits n))))

made : (p : Bytes) (used : List Bytes) → fresh p used ≡ numbered p (number_from (length used) p 1 used)
unfolding fresh
made p used = fresh-numbered (length used) p 1 used

fresh-key : (p : Bytes) (used : List Bytes) → is_prefix p ≡ true → length used ≤ 1024 → is_key_text (fresh p used) ≡ true
unfolding is_key_text
fresh-key p used h l =
    let n : ℕ = number_from (length used) p 1 used in
    let e : fresh p used ≡ numbered p n = made p used in
    let k = numbered-key p n h (omega (arith, number_bound (length used) p 1 used)) in
    let k' : leb (length (fresh p used)) 255 && all is_key (fresh p used) ≡ true = subst (λ (x : Bytes). leb (length x) 255 && all is_key x ≡ true) (sym e) k in
    rw (fresh-filled p used, and_left (leb (length (fresh p used)) 255) _ k', and_right (leb (length (fresh p used)) 255) _ k')

-- ---- all keys

abbrev pub is_id_text : Bytes → Bool
is_id_text k = empty k || is_key_text k

keys-after : (p : Bytes) (used ks : List Bytes) → is_prefix p ≡ true → length used + length ks ≤ 1024 → all is_id_text ks ≡ true → all is_key_text (keys_after p used ks) ≡ true
unfolding keys_after all
keys-after p used [] h l a = refl
keys-after p used (k ∷ ks) h l a =
    by_bool (empty k)
    (λ e. rw (e, fresh-key p used h (omega arith)) (keys-after p (fresh p used ∷ used) ks h (omega arith) (and_right (is_id_text k) _ a)))
    (λ e. rw (e, given e) (keys-after p (k ∷ used) ks h (omega arith) (and_right (is_id_text k) _ a)))
  where
    given : empty k ≡ false → is_key_text k ≡ true
    given e = rw e at (and_left (is_id_text k) _ a)

pub keys-texts : (p : Bytes) (ids : List Bytes) → is_prefix p ≡ true → length ids ≤ 512 → all is_id_text ids ≡ true → all is_key_text (keys p ids) ≡ true
unfolding keys
keys-texts p ids h l a = keys-after p (keep (λ k. not (empty k)) ids) ids h (omega (arith, length-keep (λ k. not (empty k)) ids)) a

after-length : (p : Bytes) (used ks : List Bytes) → length (keys_after p used ks) ≡ length ks
unfolding keys_after
after-length p used [] = refl
after-length p used (k ∷ ks) = ap suc (after-length p (pick (empty k) (fresh p used) k ∷ used) ks)

pub keys_length : (p : Bytes) (ids : List Bytes) → length (keys p ids) ≡ length ids
unfolding keys
keys_length p ids = after-length p (keep (λ k. not (empty k)) ids) ids
