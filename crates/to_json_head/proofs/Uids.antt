-- The pieces of a card's head.
use mathlib.Core.Path.{◌≡◌, refl, sym, ap, ◌∙◌}
use mathlib.Core.Bool.{Bool, true, false}
use mathlib.Core.List.{[], ◌∷◌, ◌++◌, append_assoc}
use Prim.Native.Nat.{ℕ}
use native.Mathlib.Omega.{arith}
use lib.ListN.{length}
use borrow.Author.Tests.{ne_eqb, le-ltb}
use Rattle.text.specs.Bytes.{Bytes, ascii, all, is_digit, lowered, flat}
use Rattle.text.specs.Decimal.{decimal}
use Rattle.text.proofs.Cases.{between-true}
use Rattle.text.proofs.Lists.{all_head, all_tail}
use Rattle.text.proofs.Decimals.{decimal-digits}
use Rattle.json_text.specs.Compact.{spelled, spelled_all, quoted, written}
use Rattle.json_write.specs.Pieces.{bare}
use Rattle.json_write.proofs.Spelling.{bare-one}
use Rattle.convert.specs.FromCard.{made_uid}
use Rattle.convert_put.specs.Pieces.{member_bytes, after}
use Rattle.to_json_head.specs.Head.{uid_of, start_bytes, kind_bytes}

-- ---- a made uid

spelled-append : (s t : Bytes) → spelled_all (s ++ t) ≡ spelled_all s ++ spelled_all t
unfolding spelled_all
spelled-append [] t = refl
spelled-append (c ∷ s) t = ap (λ (x : Bytes). spelled c ++ x) (spelled-append s t) ∙ sym (append_assoc (spelled c) (spelled_all s) (spelled_all t))

digit-spelled : (c : ℕ) → is_digit c ≡ true → spelled c ≡ c ∷ []
unfolding bare
digit-spelled c e =
    let b = between-true 48 57 c e in
    sym (bare-one c (rw (ne_eqb c 34 (λ q. omega arith), ne_eqb c 92 (λ q. omega arith), le-ltb c 32 (omega arith), ne_eqb c 127 (λ q. omega arith))))

digits-spelled : (s : Bytes) → all is_digit s ≡ true → spelled_all s ≡ s
unfolding spelled_all
digits-spelled [] e = refl
digits-spelled (c ∷ s) e =
    ap (λ (x : Bytes). x ++ spelled_all s) (digit-spelled c (all_head is_digit c s e)) ∙ ap (λ (x : Bytes). c ∷ x) (digits-spelled s (all_tail is_digit c s e))

hyphen : (s : Bytes) → spelled_all (45 ∷ s) ≡ 45 ∷ spelled_all s
unfolding spelled_all spelled
hyphen s = refl

pub made_bytes : (stem : Bytes) (n : ℕ)
    → flat ((34 ∷ []) ∷ spelled_all stem ∷ (45 ∷ []) ∷ decimal n ∷ (34 ∷ []) ∷ []) ≡ quoted (made_uid stem n) []
unfolding flat quoted made_uid
made_bytes stem n =
    let d : spelled_all (45 ∷ decimal n) ≡ 45 ∷ decimal n = hyphen (decimal n) ∙ ap (λ (x : Bytes). 45 ∷ x) (digits-spelled (decimal n) (decimal-digits n)) in
    ap (λ (x : Bytes). 34 ∷ x)
    (ap (λ (x : Bytes). spelled_all stem ++ (x ++ (34 ∷ []))) (sym d)
    ∙ sym (append_assoc (spelled_all stem) (spelled_all (45 ∷ decimal n)) (34 ∷ []))
    ∙ ap (λ (x : Bytes). x ++ (34 ∷ [])) (sym (spelled-append stem (45 ∷ decimal n))))

pub uid-given : (given : Bool) (uid stem : Bytes) (n : ℕ) → given ≡ true → quoted uid [] ≡ quoted (uid_of given uid stem n) []
uid-given given uid stem n e = rw e

pub uid-made : (given : Bool) (uid stem : Bytes) (n : ℕ) → given ≡ false → quoted (made_uid stem n) [] ≡ quoted (uid_of given uid stem n) []
uid-made given uid stem n e = rw e

-- ---- the start, and kind

pub start-bytes : (uid : Bytes) → flat (ascii "{\"@type\":\"Card\",\"version\":\"1.0\",\"uid\":" ∷ quoted uid [] ∷ []) ≡ start_bytes uid
unfolding start_bytes member_bytes after written flat quoted spelled_all spelled
start-bytes uid = refl

pub kind-none : (v : Bytes) → length v ≡ 0 → [] ≡ kind_bytes v
unfolding kind_bytes after lowered
kind-none [] e = refl
kind-none (x ∷ v) e = absurd (omega (arith, e))

pub kind-some : (v : Bytes) → (length v ≡ 0 → ⊥) → flat (ascii ",\"kind\":" ∷ quoted (lowered v) [] ∷ []) ≡ kind_bytes v
unfolding kind_bytes member_bytes after lowered written flat quoted spelled_all spelled
kind-some [] n = absurd (n refl)
kind-some (x ∷ v) n = refl
