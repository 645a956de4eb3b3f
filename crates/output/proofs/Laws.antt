-- The laws of `put`: how writers compose.
use mathlib.Core.Path.{◌≡◌, refl, sym, ap, subst, ◌∙◌}
use Prim.Native.Nat.{ℕ, suc, ◌+◌, ◌-◌, ◌≤◌, ◌<◌}
use mathlib.Core.List.{[], ◌∷◌, ◌++◌, append_assoc, append-nil}
use native.Mathlib.Omega.{arith}
use native.Mathlib.Numerals.{add-one}
use lib.ListN.{length, take, drop, set, get_or, length-append, length-take, length-drop, length-set, drop_of_length-le}
use native.Mathlib.Nat.{lt_of_not-le}
use native.Mathlib.Decide.{dec_le}
use borrow.Rule.Slice.PartMut.{mid_of, post_of, put_mid}
use lib.Seq.{take-nil, take_all, take-append-add, take-append-le, drop-drop, take_at, drop_at, set_at, drop-cons}
use borrow.Author.Tests.{le-leb, lt-leb}
use Rattle.std.specs.Prelude.{Ok, Err, IsErr}
use Rattle.text.proofs.Cases.{not-both}
use Rattle.text.specs.Bytes.{Bytes}
use Rattle.output.specs.Put.{Wrote, full, put, answer, Puts, Sofar}

-- two numbers, one way or the other
pub split {ℓ} : {X : Type ℓ} (a b : ℕ) → (a ≤ b → X) → (b < a → X) → X
split a b f g = elim (dec_le a b) [ yes h ↦ f h | no h ↦ g (lt_of_not-le h) ]

-- what fits is written whole
pub put-fits : (room x : Bytes) → length x ≤ length room → put room x ≡ x ++ drop (length x) room
unfolding put
put-fits room x h = rw take_all

-- what does not fit fills the room, whatever was to follow
pub put-over : (room x y : Bytes) → length room < length x → put room (x ++ y) ≡ put room x
unfolding put
put-over room x y h =
    let h₁ : length room ≤ length x = omega arith in
    let h₂ : length room ≤ length (x ++ y) = simp length-append (omega arith) in
    rw (take-append-le, drop_of_length-le room h₁, drop_of_length-le room h₂)

-- writing x and then y to the rest is writing x ++ y
pub put_then : (room x y : Bytes) → length x ≤ length room → put room (x ++ y) ≡ x ++ put (drop (length x) room) y
unfolding put
put_then room x y h =
    let e : length room ≡ length x + (length room - length x) = omega arith in
    let t : take (length room) (x ++ y) ≡ x ++ take (length room - length x) y = ap (λ n. take n (x ++ y)) e ∙ take-append-add x y _ in
    rw t (simp (length-append, length-drop, drop-drop, append_assoc))

pub length-put : (room x : Bytes) → length (put room x) ≡ length room
unfolding put
length-put room x = simp (length-append, length-take, length-drop) (omega arith)

answer-fits : (room x : Bytes) → length x ≤ length room → answer room x ≡ Ok (length x)
unfolding answer
answer-fits room x h = simp (le-leb _ _ h)

answer-over : (room x : Bytes) → length room < length x → answer room x ≡ (Err full)
unfolding answer
answer-over room x h = simp (lt-leb _ _ h)

-- what an answer says
pub said-bytes : (room x : Bytes) (n : ℕ) → answer room x ≡ Ok n → (n ≡ length x) × (n ≤ length room)
said-bytes room x n e =
    split (length x) (length room)
    (λ h. let p : n ≡ length x = cc (answer-fits room x h) in (p, omega arith))
    (λ h. let z : ◌≡◌ {A = ℕ} 0 1 = cc (answer-over room x h) in omega arith)

pub said-full : (room x : Bytes) → answer room x ≡ (Err full) → length room < length x
said-full room x e =
    split (length x) (length room)
    (λ h. let z : ◌≡◌ {A = ℕ} 0 1 = cc (answer-fits room x h) in omega arith)
    (λ h. h)

-- nothing is written yet
pub start : (room : Bytes) → Sofar room [] 0 room
unfolding put
start room = record { is = refl; fits = omega arith; same = refl; left = simp take-nil }

-- all is written
pub done : {room x : Bytes} {at : ℕ} {out : Bytes} → Sofar room x at out → Puts room x (Ok at) out
done {room} {x} s =
    let h : length x ≤ length room = omega arith in
    record { said = cc (answer-fits room x h); left = s.left }

-- what is lent from at on, after x
rest-is : {room x : Bytes} {at : ℕ} {out : Bytes} → Sofar room x at out → mid_of at (length out - at) out ≡ drop (length x) room
rest-is {room} {x} {at} {out} s =
    let h : length x ≤ length room = omega arith in
    let e : out ≡ x ++ drop (length x) room = s.left ∙ put-fits room x h in
    let d : drop at out ≡ drop (length x) room = ap (drop at) e ∙ drop_at x _ at (sym s.is) in
    let g : length (drop (length x) room) ≤ length out - at = simp length-drop (omega arith) in
    ap (take (length out - at)) d ∙ take_all _ _ g

back_is : {room x : Bytes} {at : ℕ} {out : Bytes} → Sofar room x at out → (last : Bytes) → put_mid at (length out - at) out last ≡ x ++ last
back_is {room} {x} {at} {out} s last =
    let h : length x ≤ length room = omega arith in
    let e : out ≡ x ++ drop (length x) room = s.left ∙ put-fits room x h in
    let t : take at out ≡ x = ap (take at) e ∙ take_at x _ at (sym s.is) in
    let g : length (drop at out) ≤ length out - at = simp length-drop (omega arith) in
    let z : post_of at (length out - at) out ≡ [] = drop_of_length-le (drop at out) g in
    rw (t, z, append-nil)

-- a writer that was lent the rest wrote y
pub next : {room x y last : Bytes} {at n : ℕ} {out : Bytes} {r : Wrote} → Sofar room x at out
    → Puts (mid_of at (length out - at) out) y r last → r ≡ Ok n → Sofar room (x ++ y) (at + n) (put_mid at (length out - at) out last)
next {room} {x} {y} {last} {at} {n} {out} {r} s p e =
    let h : length x ≤ length room = omega arith in
    let p₁ : r ≡ answer (drop (length x) room) y = p.said ∙ ap (λ l. answer l y) (rest-is s) in
    let p₂ : last ≡ put (drop (length x) room) y = p.left ∙ ap (λ l. put l y) (rest-is s) in
    let q : (n ≡ length y) × (n ≤ length (drop (length x) room)) = said-bytes _ _ n (sym p₁ ∙ e) in
    let q₂ : n ≤ length room - length x = rw length-drop at q.1 in
    let l : put_mid at (length out - at) out last ≡ put room (x ++ y) = back_is s last ∙ ap (λ m. x ++ m) p₂ ∙ sym (put_then room x y h) in
    record {
      is = simp length-append (omega arith);
      fits = omega arith;
      same = ap length l ∙ length-put room (x ++ y);
      left = l;
    }

-- a writer that was lent the rest had no room
pub stop : {room x y last : Bytes} {at : ℕ} {out : Bytes} {r : Wrote} → Sofar room x at out
    → Puts (mid_of at (length out - at) out) y r last → r ≡ (Err full) → Puts room (x ++ y) (Err full) (put_mid at (length out - at) out last)
stop {room} {x} {y} {last} {at} {out} {r} s p e =
    let h : length x ≤ length room = omega arith in
    let p₁ : r ≡ answer (drop (length x) room) y = p.said ∙ ap (λ l. answer l y) (rest-is s) in
    let p₂ : last ≡ put (drop (length x) room) y = p.left ∙ ap (λ l. put l y) (rest-is s) in
    let q : length (drop (length x) room) < length y = said-full _ _ (sym p₁ ∙ e) in
    let q₂ : length room - length x < length y = rw length-drop at q in
    let q₃ : length room < length (x ++ y) = simp length-append (omega arith) in
    record {
      said = sym (answer-over room (x ++ y) q₃);
      left = back_is s last ∙ ap (λ m. x ++ m) p₂ ∙ sym (put_then room x y h);
    }

-- what was to follow changes nothing where there is no room
pub more : {room x out : Bytes} (z : Bytes) → Puts room x (Err full) out → Puts room (x ++ z) (Err full) out
more {room} {x} {out} z p =
    let q : length room < length x = said-full room x (sym p.said) in
    let q₃ : length room < length (x ++ z) = simp length-append (omega arith) in
    record {
      said = sym (answer-over room (x ++ z) q₃);
      left = p.left ∙ sym (put-over room x z q);
    }

-- one byte is stored
pub byte : {room x : Bytes} {at : ℕ} {out : Bytes} (b : ℕ) → Sofar room x at out → at < length out → Sofar room (x ++ (b ∷ [])) (at + 1) (set out at b)
byte {room} {x} {at} {out} b s lt =
    let h : length x ≤ length room = omega arith in
    let g : length x < length room = omega arith in
    let h₂ : length (x ++ (b ∷ [])) ≤ length room = simp length-append (omega arith) in
    let e : out ≡ x ++ drop (length x) room = s.left ∙ put-fits room x h in
    let e₂ : out ≡ x ++ get_or room (length x) 0 ∷ drop (suc (length x)) room = rw (drop-cons room (length x) 0) at e in
    let e₃ : set out at b ≡ x ++ b ∷ drop (suc (length x)) room = ap (λ l. set l at b) e₂ ∙ set_at x _ _ b at (sym s.is) in
    record {
      is = simp length-append (omega arith);
      fits = omega arith;
      same = simp length-set s.same;
      left = e₃ ∙ sym (put-fits room (x ++ (b ∷ [])) h₂ ∙ simp (append_assoc, length-append, add-one));
    }

nothing : (b : ℕ) → put [] (b ∷ []) ≡ []
unfolding put
nothing b = refl

-- there is no room for one more
pub no_byte : {room x : Bytes} {at : ℕ} {out : Bytes} (b : ℕ) → Sofar room x at out → length out ≤ at → Puts room (x ++ (b ∷ [])) (Err full) out
no_byte {room} {x} {at} {out} b s h =
    let g : length x ≤ length room = omega arith in
    let q : length room < length (x ++ (b ∷ [])) = simp length-append (omega arith) in
    let k : length room ≤ length x = omega arith in
    let z : drop (length x) room ≡ [] = drop_of_length-le room k in
    let l : put room (x ++ (b ∷ [])) ≡ x ++ put (drop (length x) room) (b ∷ []) = put_then room x (b ∷ []) g in
    let m : put [] (b ∷ []) ≡ [] = nothing b in
    record {
      said = sym (answer-over room (x ++ (b ∷ [])) q);
      left = s.left ∙ put-fits room x g ∙ ap (λ r. x ++ r) z ∙ sym (l ∙ ap (λ r. x ++ put r (b ∷ [])) z ∙ ap (λ r. x ++ r) m);
    }

-- the same bytes, said in another way
pub puts-as : {room x y out : Bytes} {r : Wrote} → x ≡ y → Puts room x r out → Puts room y r out
puts-as {room} {x} {y} {out} {r} e p = subst (λ l. Puts room l r out) e p

pub sofar-as : {room x y out : Bytes} {at : ℕ} → x ≡ y → Sofar room x at out → Sofar room y at out
sofar-as {room} {x} {y} {out} {at} e p = subst (λ l. Sofar room l at out) e p

-- the first writer is lent the whole room
pub first : {room y last : Bytes} {n : ℕ} {r : Wrote} → Puts room y r last → r ≡ Ok n → Sofar room y n last
first {room} {y} {last} {n} {r} p e =
    let q : (n ≡ length y) × (n ≤ length room) = said-bytes room y n (sym p.said ∙ e) in
    record { is = q.0; fits = q.1; same = ap length p.left ∙ length-put room y; left = p.left }

pub first-full : {room y last : Bytes} {r : Wrote} → Puts room y r last → r ≡ (Err full) → Puts room y (Err full) last
first-full {room} {y} {last} {r} p e = record { said = sym e ∙ p.said; left = p.left }

-- what `?` hands on: there is one way not to fit
pub failed : {room x out : Bytes} {r : Wrote} → IsErr r → Puts room x (Err full) out → Puts room x r out
failed {r = Ok n} h p = not-both h refl
failed {r = Err e} h p = p

-- an index so far is within the room, and one more writer's count does not wrap
pub within : {room x : Bytes} {at : ℕ} {out : Bytes} → Sofar room x at out → at ≤ length out
within s = omega arith

-- `Sofar` with what it is of, for a helper's signature: it computes
pub record Spot : Type 0 where
  pub room : Bytes
  pub x : Bytes
  pub at : ℕ
  pub out : Bytes
  pub so : Sofar room x at out
