-- Units of a string: what they stand for has no more bytes than their spelling.
use mathlib.Core.Path.{◌≡◌, refl, sym, ap}
use mathlib.Core.Bool.{true, false, ◌&&◌}
use mathlib.Core.List.{[], ◌∷◌, ◌++◌}
use mathlib.Core.Option.{Option, none, some}
use Prim.Native.Nat.{ℕ, zero, suc, ◌+◌, ◌-◌, ◌*◌, ◌≤◌, ◌<◌}
use native.Mathlib.Omega.{arith}
use lib.Dec.{ltb}
use lib.ListN.{length, length-append}
use borrow.Author.Tests.{lt-ltb, le-ltb, ltb-true, ltb-false, ne_eqb}
use Rattle.text.specs.Choice.{pick}
use Rattle.text.specs.Bytes.{Bytes, is, between}
use Rattle.text.specs.Utf8.{Due, start, due, broken, lead, encode}
use Rattle.text.specs.Reader.{more, last}
use Rattle.text.proofs.Cases.{by_bool, tests, not-both, and_left, and_right, between-true, implied}
use Rattle.text.proofs.Choices.{none-some, some_same}
use Rattle.text.proofs.Characters.{lead_high}
use Rattle.text.proofs.Fine.{fine-takes}
use Rattle.text.proofs.Readers.{Takes, takes-bind, takes-got}
use Rattle.json_text.specs.Grammar.{is_short}
use Rattle.json_text.specs.Syntax.{hex4, short, escape, leads, is_lead, tail_bytes, following, push, character, characters}
use Rattle.json_text.specs.Strings.{is_high, is_low, joined_pair, before, decode_after, decode}
use Rattle.json_text.proofs.Fine.{hex-fine, short-256, plain-256, tail-256, lead-256, due_below, below-256, lead-below}
use Rattle.to_card_kept_entry.proofs.room.Costs.{Pays, Within, Adds, pays-got, pays-bad, pays-on, pays-under, pays-under-one, pays-takes, pays-loop}

-- how many bytes a unit stands for at most: a code of \u is spelled with six
unfoldable pub room_of : ℕ → ℕ
room_of u = pick (ltb u 256) 1 4

unfoldable pub weigh : Bytes → ℕ
weigh [] = 0
weigh (u ∷ us) = room_of u + weigh us

byte-room : (u : ℕ) → ltb u 256 ≡ true → room_of u ≡ 1
unfolding room_of
byte-room u e = rw e

wide_room : (u : ℕ) → ltb u 256 ≡ false → room_of u ≡ 4
unfolding room_of
wide_room u e = rw e

code-room : (v : ℕ) → room_of (256 + v) ≡ 4
code-room v = wide_room (256 + v) (le-ltb (256 + v) 256 (omega arith))

weigh-append : (us vs : Bytes) → weigh (us ++ vs) ≡ weigh us + weigh vs
unfolding weigh
weigh-append [] vs = omega arith
weigh-append (u ∷ us) vs = omega (arith, weigh-append us vs)

-- ---- decoded

encode-short : (v : ℕ) → length (encode v) ≤ 4
unfolding encode
encode-short v =
    by_bool (ltb v 0x80) (λ a. rw a (omega arith)) (λ a.
    by_bool (ltb v 0x800) (λ b. rw (a, b) (omega arith)) (λ b.
    by_bool (ltb v 0x10000) (λ c. rw (a, b, c) (omega arith)) (λ c. rw (a, b, c) (omega arith))))

before-short : (p : Bytes) (o : Option Bytes) (x : Bytes) (m k : ℕ) → before p o ≡ some x → length p ≤ m → ((y : Bytes) → o ≡ some y → length y ≤ k) → length x ≤ m + k
before-short p none x m k e l h = none-some e
before-short p (some y) x m k e l h = omega (arith, ap length (sym (some_same e)), length-append p y, h y refl)

decode-after : (h : ℕ) (us x : Bytes) → decode_after h us ≡ some x → length x ≤ weigh us
unfolding decode_after weigh
decode-after zero [] x e = omega (arith, ap length (sym (some_same e)))
decode-after (suc h) [] x e = none-some e
decode-after zero (u ∷ us) x e =
    by_bool (ltb u 256)
    (λ a. rw (byte-room u a) (before-short (u ∷ []) (decode_after 0 us) x 1 (weigh us) (rw a at e) (omega arith) (λ y q. decode-after 0 us y q)))
    (λ a.
    by_bool (is_high (u - 256))
    (λ b. let h = decode-after (u - 256) us x (rw (a, b) at e) in omega arith)
    (λ b.
    by_bool (is_low (u - 256))
    (λ c. none-some (rw (a, b, c) at e))
    (λ c. rw (wide_room u a) (before-short (encode (u - 256)) (decode_after 0 us) x 4 (weigh us) (rw (a, b, c) at e) (encode-short (u - 256)) (λ y q. decode-after 0 us y q)))))
decode-after (suc h) (u ∷ us) x e =
    by_bool (ltb 255 u && is_low (u - 256))
    (λ a. let z : 255 < u = ltb-true 255 u (and_left (ltb 255 u) _ a) in
    rw (wide_room u (le-ltb u 256 (omega arith))) (before-short (encode (joined_pair (suc h) (u - 256))) (decode_after 0 us) x 4 (weigh us) (rw a at e) (encode-short (joined_pair (suc h) (u - 256))) (λ y q. decode-after 0 us y q)))
    (λ a. none-some (rw a at e))

pub decode-weigh : (us x : Bytes) → decode us ≡ some x → length x ≤ weigh us
unfolding decode
decode-weigh us x e = decode-after 0 us x e

-- ---- read

takes-hex4 : Takes 4 hex4
unfolding hex4
takes-hex4 = takes-bind (fine-takes hex-fine) λ a. takes-bind (fine-takes hex-fine) λ b. takes-bind (fine-takes hex-fine) λ c. takes-bind (fine-takes hex-fine) λ d. takes-got (a * 4096 + b * 256 + c * 16 + d)

no_short : (c : ℕ) → ltb c 128 ≡ false → is_short c ≡ false
unfolding is_short
no_short c l =
    let h : 128 ≤ c = ltb-false c 128 l in
    rw (ne_eqb c 34 (λ z. omega arith), ne_eqb c 92 (λ z. omega arith), ne_eqb c 47 (λ z. omega arith), ne_eqb c 98 (λ z. omega arith), ne_eqb c 102 (λ z. omega arith), ne_eqb c 110 (λ z. omega arith), ne_eqb c 114 (λ z. omega arith), ne_eqb c 116 (λ z. omega arith))

short-byte : (c : ℕ) → is_short c ≡ true → ltb (short c) 256 ≡ true
unfolding is_short short
short-byte c h = implied is_short (λ c. ltb (short c) 256) 128 c refl (no_short c) h

pays-escape : Pays (Within room_of) 1 escape
unfolding escape
pays-escape =
    pays-on (Within room_of) 1 (is 117) refl
    (λ x q. pays-under (λ v k. 4 + 2 ≤ k) (Within room_of) 2 (λ v. 256 + v) (λ v k l. omega (arith, code-room v, l)) (pays-takes 4 2 takes-hex4))
    (pays-on (Within room_of) 1 is_short short-256 (λ x q. pays-got (Within room_of) 2 (short x) (omega (arith, byte-room (short x) (short-byte x q)))) (pays-bad (Within room_of) 1))

between-byte : (low high c : ℕ) → ltb high 256 ≡ true → between low high c ≡ true → room_of c ≡ 1
between-byte low high c h e = let i = between-true low high c e in byte-room c (lt-ltb c 256 (omega (tests, i.1, h)))

cons-weigh : (c : ℕ) → room_of c ≡ 1 → (cs : Bytes) (k : ℕ) → weigh cs ≤ k → weigh (c ∷ cs) ≤ suc k
unfolding weigh
cons-weigh c e cs k h = omega arith

nil-weigh : (k : ℕ) → weigh [] ≤ k
unfolding weigh
nil-weigh k = omega arith

pays-tails : (k c : ℕ) → Pays (Within weigh) c (tail_bytes k)
unfolding tail_bytes
pays-tails zero c = pays-got (Within weigh) c [] (nil-weigh c)
pays-tails (suc k) c =
    pays-on (Within weigh) c (between 0x80 0xbf) tail-256
    (λ x q. pays-under-one (Within weigh) (Within weigh) c (λ cs. x ∷ cs) (cons-weigh x (between-byte 0x80 0xbf x refl q)) (pays-tails k c)) (pays-bad (Within weigh) c)

pays-following : (d : Due) → due_below d ≡ true → (c : ℕ) → Pays (Within weigh) c (following d)
unfolding following
pays-following start z c = pays-got (Within weigh) c [] (nil-weigh c)
pays-following (due low high k) z c =
    pays-on (Within weigh) c (between low high) (below-256 low high z)
    (λ x q. pays-under-one (Within weigh) (Within weigh) c (λ cs. x ∷ cs) (cons-weigh x (between-byte low high x z q)) (pays-tails k c)) (pays-bad (Within weigh) c)
pays-following broken z c = pays-bad (Within weigh) c

lead-byte : (c : ℕ) → is_lead c ≡ true → room_of c ≡ 1
unfolding is_lead
lead-byte c e = byte-room c (by_bool (ltb c 256) (λ q. q) (λ q. not-both (and_right (ltb 127 c) _ e) (ap leads (lead_high c q))))

push-adds : (u k : ℕ) → room_of u ≤ k → Adds weigh (push u) k
unfolding weigh
push-adds u k h us = omega arith

lead-adds : (c : ℕ) → room_of c ≡ 1 → (cs : Bytes) (k : ℕ) → weigh cs ≤ k → Adds weigh (more (λ us. c ∷ (cs ++ us))) (suc k)
unfolding weigh
lead-adds c e cs k h us = omega (arith, weigh-append cs us)

pays-character : Pays (Adds weigh) 0 character
unfolding character
pays-character =
    pays-on (Adds weigh) 0 (is 34) refl (λ x q. pays-got (Adds weigh) 1 (last []) (nil-weigh 1))
    (pays-on (Adds weigh) 0 (is 92) refl (λ x q. pays-under (Within room_of) (Adds weigh) 1 push push-adds pays-escape)
    (pays-on (Adds weigh) 0 (between 32 127) plain-256 (λ x q. pays-got (Adds weigh) 1 (push x) (push-adds x 1 (omega (arith, between-byte 32 127 x refl q))))
    (pays-on (Adds weigh) 0 is_lead lead-256
    (λ x q. pays-under-one (Within weigh) (Adds weigh) 0 (λ cs. more (λ us. x ∷ (cs ++ us))) (lead-adds x (lead-byte x q)) (pays-following (lead x) (lead-below x) 0)) (pays-bad (Adds weigh) 0))))

pub pays-characters : Pays (Within weigh) 0 characters
unfolding characters
pays-characters = pays-loop weigh character pays-character
