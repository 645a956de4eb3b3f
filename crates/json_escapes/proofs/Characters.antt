-- The characters of a string that the grammar reads are its units, one after the other.
use mathlib.Core.Path.{◌≡◌, refl, ap, subst, ◌∙◌}
use mathlib.Core.Bool.{Bool, true, false}
use mathlib.Core.List.{[], ◌∷◌, ◌++◌}
use Prim.Native.Nat.{ℕ, zero, suc, ◌≤◌, ◌<◌}
use native.Mathlib.Omega.{arith}
use lib.ListN.{length, get_or}
use lib.Dec.{eqb, leb, ltb}
use borrow.Author.Tests.{ltb-true, le-leb, lt-leb, leb-true, leb-false, le-ltb, ne_eqb}
use Rattle.text.specs.Choice.{pick}
use Rattle.text.specs.Bytes.{Bytes, is, between}
use Rattle.text.specs.Utf8.{Due, start, due, broken, lead, by_row}
use Rattle.text.specs.Reader.{Got, got, bad, under, on, Step, more, last, after, turns, loop}
use Rattle.text.proofs.Places.{by_bool, Between-in}
use Rattle.text.proofs.Fine.{Fine, not-bad, got-rest, got-what, bind_inv, under-inv, fine-got, fine-bad, fine-weak, fine-under, fine-on, fine-loop, loop-more, loop-last, loop-bad}
use Rattle.json_text.specs.Syntax.{escape, is_lead, tail_bytes, following, character, characters}
use Rattle.json_text.proofs.Fine.{escape-fine, below-256, plain-256, lead-256, due_below, lead-below}
use Rattle.json_escapes.specs.Units.{push, unit, units}

any-256 : between 32 255 256 ≡ false
unfolding between
any-256 = refl

pub unit-fine : Fine 1 unit
unfolding unit
unit-fine =
    fine-on (is 34) refl (omega arith) (λ c. fine-got (last [])) (fine-on (is 92) refl (omega arith) (λ c. fine-under push (fine-weak escape-fine))
    (fine-on (between 32 255) any-256 (omega arith) (λ c. fine-got (push c)) (fine-bad 1)))

-- ---- the bytes of a character of several
data Raws : Bytes → Type 0 where
  none_more : Raws []
  one_more : {c : ℕ} {s : Bytes} → 128 ≤ c → c ≤ 255 → Raws s → Raws (c ∷ s)

pub in_between : (lo hi b : ℕ) → lo ≤ b → b ≤ hi → between lo hi b ≡ true
unfolding between
in_between lo hi b l h = rw (le-leb lo b l, le-leb b hi h)

raw-unit : (c : ℕ) (s : Bytes) → 128 ≤ c → c ≤ 255 → unit (c ∷ s) ≡ got (push c) s
unfolding unit on
raw-unit c s l h = rw (ne_eqb c 34 (λ e. omega arith), ne_eqb c 92 (λ e. omega arith), in_between 32 255 c (omega arith) h)

under-under : {A B C : Type 0} (f : B → C) (g : A → B) (x : Got A) → under f (under g x) ≡ under (λ a. f (g a)) x
under-under f g (got a t) = refl
under-under f g (bad t) = refl

under-id : (x : Got Bytes) → x ≡ under (λ us. [] ++ us) x
under-id (got a t) = refl
under-id (bad t) = refl

raws : {cs : Bytes} → Raws cs → (v : Bytes) → loop unit (cs ++ v) ≡ under (λ us. cs ++ us) (loop unit v)
raws none_more v = under-id (loop unit v)
raws {cs = c ∷ cs} (one_more l h r) v =
    loop-more unit unit-fine.less (c ∷ (cs ++ v)) (cs ++ v) (λ us. c ∷ us) (raw-unit c (cs ++ v) l h)
    ∙ ap (under (λ us. c ∷ us)) (raws r v) ∙ under-under (λ us. c ∷ us) (λ us. cs ++ us) (loop unit v)

-- what a character of several bytes has after its first
abbrev RawFirst : (Bytes → Got Bytes) → Type 0
RawFirst F = (s cs v : Bytes) → F s ≡ got cs v → (s ≡ cs ++ v) × Raws cs

nothing-raw : RawFirst (λ s. got [] s)
nothing-raw s cs v e = (got-rest e ∙ ap (λ (x : Bytes). x ++ v) (got-what e), subst Raws (got-what e) none_more)

one-raw : (low high : ℕ) → 128 ≤ low → ltb high 256 ≡ true → (F : Bytes → Got Bytes) → RawFirst F → RawFirst (λ s. on (between low high) (λ c t. under (λ cs. c ∷ cs) (F t)) bad s)
unfolding on
one-raw low high l z F r [] cs v e = absurd (not-bad (rw (below-256 low high z) at e))
one-raw low high l z F r (c ∷ s) cs v e =
    by_bool (between low high c)
    (λ q. let i = under-inv (λ (cs : Bytes). c ∷ cs) (F s) (rw q at e) in
    let k = r s i.0 v i.1 in
    let b = Between-in low high c q in
    (ap (λ (x : Bytes). c ∷ x) k.0 ∙ ap (λ (x : Bytes). x ++ v) i.2, subst Raws i.2 (one_more (omega arith) (omega (arith, ltb-true high 256 z)) k.1)))
    (λ q. absurd (not-bad (rw q at e)))

tails-raw : (k : ℕ) → RawFirst (tail_bytes k)
unfolding tail_bytes
tails-raw zero = nothing-raw
tails-raw (suc k) = one-raw 0x80 0xbf (omega arith) refl (tail_bytes k) (tails-raw k)

abbrev due_low : Due → Bool
due_low start = true
due_low (due low high k) = leb 128 low
due_low broken = true

row_low : (b : Bool) (d e : Due) → due_low d ≡ true → due_low e ≡ true → due_low (pick b d e) ≡ true
row_low true d e p q = p
row_low false d e p q = q

lead_low : (c : ℕ) → due_low (lead c) ≡ true
unfolding lead by_row
lead_low c =
    row_low (ltb c 128) start _ refl
    (row_low (between 0xc2 0xdf c) _ _ refl (row_low (between 0xe0 0xe0 c) _ _ refl (row_low (between 0xe1 0xec c) _ _ refl (row_low (between 0xed 0xed c) _ _ refl
    (row_low (between 0xee 0xef c) _ _ refl (row_low (between 0xf0 0xf0 c) _ _ refl (row_low (between 0xf1 0xf3 c) _ _ refl (row_low (between 0xf4 0xf4 c) _ _ refl refl))))))))

following-raw : (d : Due) → due_low d ≡ true → due_below d ≡ true → RawFirst (following d)
unfolding following
following-raw start l z = nothing-raw
following-raw (due low high k) l z = one-raw low high (leb-true 128 low l) z (tail_bytes k) (tails-raw k)
following-raw broken l z = λ s cs v e. absurd (not-bad e)

-- the first byte itself
above : (lo hi c : ℕ) → hi < c → between lo hi c ≡ false
unfolding between
above lo hi c l = by_bool (leb lo c) (λ p. rw (p, lt-leb c hi l)) (λ p. rw p)

lead-raw : (c : ℕ) → is_lead c ≡ true → (128 ≤ c) × (c ≤ 255)
unfolding is_lead lead by_row
lead-raw c e =
    by_bool (ltb 127 c)
    (λ p. by_bool (leb c 255) (λ q. let l = ltb-true 127 c p in (omega arith, leb-true c 255 q))
    (λ q. let l = leb-false c 255 q in
    let m : (lo hi : ℕ) → hi < 256 → between lo hi c ≡ false = λ lo hi h. above lo hi c (omega arith) in
    let n : ltb c 128 ≡ false = le-ltb c 128 (omega arith) in
    let z : false ≡ true = rw (p, n, m 0xc2 0xdf (omega arith), m 0xe0 0xe0 (omega arith), m 0xe1 0xec (omega arith), m 0xed 0xed (omega arith), m 0xee 0xef (omega arith), m 0xf0 0xf0 (omega arith), m 0xf1 0xf3 (omega arith), m 0xf4 0xf4 (omega arith)) at e in
    let r : ◌≡◌ {A = ℕ} 0 1 = cc in absurd (omega arith)))
    (λ p. let z : false ≡ true = rw p at e in let r : ◌≡◌ {A = ℕ} 0 1 = cc in absurd (omega arith))

-- ---- one character
loop-after : (s : Bytes) (w : Step Bytes) (v : Bytes) → unit s ≡ got w v → loop unit s ≡ after w v (loop unit)
loop-after s (more g) v e = loop-more unit unit-fine.less s v g e
loop-after s (last b) v e = loop-last unit unit-fine.less s v b e

wide-after : (c : ℕ) (s cs : Bytes) (w : Step Bytes) (v : Bytes) → is_lead c ≡ true → following (lead c) s ≡ got cs v → more (λ (us : Bytes). c ∷ (cs ++ us)) ≡ w
    → loop unit (c ∷ s) ≡ after w v (loop unit)
wide-after c s cs w v l e q =
    let b = lead-raw c l in
    let r = following-raw (lead c) (lead_low c) (lead-below c) s cs v e in
    ap (λ (x : Bytes). loop unit (c ∷ x)) r.0 ∙ raws (one_more b.0 b.1 r.1) v ∙ ap (λ (x : Step Bytes). after x v (loop unit)) q

-- where a unit is a whole character
module _ (c : ℕ) (s : Bytes) where
  unit-quote : eqb c 34 ≡ true → unit (c ∷ s) ≡ got (last []) s
  unfolding unit on
  unit-quote p = rw p

  unit-slash : eqb c 34 ≡ false → eqb c 92 ≡ true → unit (c ∷ s) ≡ under push (escape s)
  unfolding unit on
  unit-slash p q = rw (p, q)

  unit-ascii : eqb c 34 ≡ false → eqb c 92 ≡ false → between 32 127 c ≡ true → unit (c ∷ s) ≡ got (push c) s
  unfolding unit on
  unit-ascii p q r = let b = Between-in 32 127 c r in rw (p, q, in_between 32 255 c b.0 (omega arith))

char_after : (s : Bytes) (w : Step Bytes) (v : Bytes) → character s ≡ got w v → loop unit s ≡ after w v (loop unit)
unfolding character on
char_after [] w v e = absurd (not-bad (rw (plain-256, lead-256) at e))
char_after (c ∷ s) w v e =
    by_bool (eqb c 34) (λ p. loop-after (c ∷ s) w v (unit-quote c s p ∙ (rw p at e)))
    (λ p. by_bool (eqb c 92) (λ q. loop-after (c ∷ s) w v (unit-slash c s p q ∙ (rw (p, q) at e)))
    (λ q. by_bool (between 32 127 c) (λ r. loop-after (c ∷ s) w v (unit-ascii c s p q r ∙ (rw (p, q, r) at e)))
    (λ r. by_bool (is_lead c)
    (λ l. let i = under-inv (λ cs. more (λ (us : Bytes). c ∷ (cs ++ us))) (following (lead c) s) (rw (p, q, r, l) at e) in wide-after c s i.0 w v l i.1 i.2)
    (λ l. absurd (not-bad (rw (p, q, r, l) at e))))))

-- a character that starts with a byte from 128 up has no other
raws-high : {x : Bytes} → Raws x → (k : ℕ) → k < length x → 128 ≤ get_or x k 0
raws-high none_more k h = absurd (omega arith)
raws-high (one_more l m r) zero h = l
raws-high (one_more l m r) (suc k) h = raws-high r k (omega arith)

pub wide-bytes : (c : ℕ) (s v : Bytes) (g : Bytes → Bytes) → 128 ≤ c → character (c ∷ s) ≡ got (more g) v
    → (x : Bytes) × (s ≡ x ++ v) × ((k : ℕ) → k < length x → 128 ≤ get_or x k 0)
unfolding character on
wide-bytes c s v g l e =
    let p = ne_eqb c 34 (λ z. omega arith) in
    let q = ne_eqb c 92 (λ z. omega arith) in
    let r = above 32 127 c (omega arith) in
    by_bool (is_lead c)
    (λ w. let i = under-inv (λ cs. more (λ (us : Bytes). c ∷ (cs ++ us))) (following (lead c) s) (rw (p, q, r, w) at e) in
    let f = following-raw (lead c) (lead_low c) (lead-below c) s i.0 v i.1 in
    (i.0, f.0, raws-high f.1))
    (λ w. absurd (not-bad (rw (p, q, r, w) at e)))

-- ---- THE LAW
rest-same : (n : ℕ) (w : Step Bytes) (v us t : Bytes) → ((us : Bytes) → turns character n v ≡ got us t → loop unit v ≡ got us t)
    → after w v (turns character n) ≡ got us t → after w v (loop unit) ≡ got us t
rest-same n (more g) v us t r e = let i = under-inv g (turns character n v) e in rw (r i.0 i.1) (ap (λ (x : Bytes). got x t) i.2)
rest-same n (last b) v us t r e = e

turns_same : (n : ℕ) (s us t : Bytes) → turns character n s ≡ got us t → loop unit s ≡ got us t
unfolding turns
turns_same zero s us t e = absurd (not-bad e)
turns_same (suc n) s us t e =
    let i = bind_inv (character s) (λ w v. after w v (turns character n)) e in
    char_after s i.0 i.1 i.2 ∙ rest-same n i.0 i.1 us t (λ us q. turns_same n i.1 us t q) i.3

pub units-same : (s us t : Bytes) → characters s ≡ got us t → units s ≡ got us t
unfolding characters units loop
units-same s us t e = turns_same (suc (length s)) s us t e

-- ---- the units of a string, by its first byte
pub units-fine : Fine 1 units
unfolding units
units-fine = fine-loop unit unit-fine

module _ (c : ℕ) (s : Bytes) where
  pub units-quote : eqb c 34 ≡ true → units (c ∷ s) ≡ got [] s
  unfolding units unit on
  units-quote p = loop-last unit unit-fine.less (c ∷ s) s [] (rw p)

  module _ (p : eqb c 34 ≡ false) (q : eqb c 92 ≡ false) where
    pub units-byte : between 32 255 c ≡ true → units (c ∷ s) ≡ under (λ us. c ∷ us) (units s)
    unfolding units unit on
    units-byte r = loop-more unit unit-fine.less (c ∷ s) s (λ us. c ∷ us) (rw (p, q, r))

    pub units-no-byte : between 32 255 c ≡ false → units (c ∷ s) ≡ bad (c ∷ s)
    unfolding units unit on
    units-no-byte r = loop-bad unit unit-fine.less (c ∷ s) (c ∷ s) (rw (p, q, r))
