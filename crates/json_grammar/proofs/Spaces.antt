-- White space before a part does not matter; what a mark is.
use mathlib.Core.Path.{◌≡◌, refl, sym, ap, ◌∙◌}
use mathlib.Core.Bool.{true, false}
use mathlib.Core.List.{[], ◌∷◌, ◌++◌, append_assoc}
use Prim.Native.Nat.{ℕ, zero, suc}
use lib.Dec.{eqb}
use borrow.Author.Tests.{eqb-true, eq-eqb}
use Rattle.text.specs.Bytes.{Bytes, between, is_digit}
use Rattle.text.specs.Reader.{Got, got, bad, first, on, when, more, last, taken, past, one, some_of}
use Rattle.text.proofs.Cases.{by_bool, by_keys_p, not-both}
use Rattle.text.proofs.Readers.{not-bad, taken-all}
use Rattle.json_text.specs.Tree.{Json}
use Rattle.json_text.specs.Grammar.{One, Many, none_more, one_more, is_space, is_e, Ws, Mark}
use Rattle.json_text.specs.Syntax.{skip, token, opt, digits, int, number, scalar, sep, name, elements, pairs, value}
use Rattle.json_text.proofs.Numbers.{Stops}
use Rattle.json_grammar.proofs.Tests.{taken-past, all-many}
use Rattle.json_grammar.proofs.Rows.{one-is}

skip-many : (x s : Bytes) → Many (One is_space) x → past is_space (x ++ s) ≡ past is_space s
unfolding past
skip-many x s (none_more z e) = ap (λ (z : Bytes). past is_space (z ++ s)) e
skip-many x s (one_more z a b e m ms) = ap (λ (z : Bytes). past is_space (z ++ s)) (e ∙ ap (λ (z : Bytes). z ++ b) m.1) ∙ rw m.2 (skip-many b s ms)

pub skip-ws : (x s : Bytes) → Ws x → skip (x ++ s) ≡ skip s
unfolding skip Ws
skip-ws x s w = skip-many x s w

-- ---- readers that begin with white space

pub value-ws : (d : ℕ) (x s : Bytes) → Ws x → value d (x ++ s) ≡ value d s
unfolding value
value-ws zero x s w = ap scalar (skip-ws x s w)
value-ws (suc d) x s w = rw (skip-ws x s w)

pub token-ws : (b : ℕ) (x s : Bytes) → Ws x → token b (x ++ s) ≡ token b s
unfolding token
token-ws b x s w = ap (one b) (skip-ws x s w)

pub name-ws : (x s : Bytes) → Ws x → name (x ++ s) ≡ name s
unfolding name
name-ws x s w = rw (token-ws 34 x s w)

sep-ws : {B : Type 0} (close : ℕ) (b : B) (g : B → B) (x s : Bytes) → Ws x → sep close b g (x ++ s) ≡ sep close b g s
unfolding sep
sep-ws close b g x s w = rw (skip-ws x s w)

module _ (rd : Bytes → Got Json) where
  pub elements-ws : (x s : Bytes) → Ws x → elements rd (x ++ s) ≡ elements rd s
  unfolding elements
  elements-ws x s w = rw (skip-ws x s w)

  pub pairs-ws : (x s : Bytes) → Ws x → pairs rd (x ++ s) ≡ pairs rd s
  unfolding pairs
  pairs-ws x s w = rw (skip-ws x s w)

-- what skip passes over
pub skipped : (s : Bytes) → (x : Bytes) × Ws x × (s ≡ x ++ skip s)
unfolding skip Ws
skipped s = (taken is_space s, all-many is_space (taken is_space s) (taken-all is_space s), taken-past is_space s)

-- ---- marks

pub mark-cases : (k : ℕ) (u : Bytes) → Mark k u → (x : Bytes) × (y : Bytes) × Ws x × Ws y × (u ≡ x ++ k ∷ y)
unfolding Mark
mark-cases k u m =
    let r = m.4 in
    (m.0, r.1, m.3, r.4, m.2 ∙ ap (λ (z : Bytes). m.0 ++ z) (r.2 ∙ ap (λ (z : Bytes). z ++ r.1) (one-is k r.0 r.3)))

pub mark-before : (k : ℕ) (u s x y : Bytes) → u ≡ x ++ k ∷ y → u ++ s ≡ x ++ (k ∷ (y ++ s))
mark-before k u s x y e = ap (λ (z : Bytes). z ++ s) e ∙ append_assoc x (k ∷ y) s

-- after a value: a comma, or what closes
sep-comma : {B : Type 0} (close : ℕ) (b : B) (g : B → B) (t : Bytes) → eqb 44 close ≡ false → sep close b g (44 ∷ t) ≡ got (more g) t
unfolding sep on skip past is_space
sep-comma close b g t z = rw z

sep-close : {B : Type 0} (close : ℕ) (b : B) (g : B → B) (t : Bytes) → is_space close ≡ false → sep close b g (close ∷ t) ≡ got (last b) t
unfolding sep on skip past
sep-close close b g t z = rw (z, eq-eqb close close refl)

module _ {B : Type 0} (close : ℕ) (b : B) (g : B → B) (v m s : Bytes) (w : Ws v) where
  pub sep-more : eqb 44 close ≡ false → Mark 44 m → (y : Bytes) × Ws y × (sep close b g (v ++ (m ++ s)) ≡ got (more g) (y ++ s))
  sep-more z k =
      let c = mark-cases 44 m k in
      (c.1, c.3, sep-ws close b g v (m ++ s) w ∙ ap (sep close b g) (mark-before 44 m s c.0 c.1 c.4) ∙ sep-ws close b g c.0 (44 ∷ (c.1 ++ s)) c.2 ∙ sep-comma close b g (c.1 ++ s) z)

  pub sep-last : is_space close ≡ false → Mark close m → (y : Bytes) × Ws y × (sep close b g (v ++ (m ++ s)) ≡ got (last b) (y ++ s))
  sep-last z k =
      let c = mark-cases close m k in
      (c.1, c.3, sep-ws close b g v (m ++ s) w ∙ ap (sep close b g) (mark-before close m s c.0 c.1 c.4) ∙ sep-ws close b g c.0 (close ∷ (c.1 ++ s)) c.2 ∙ sep-close close b g (c.1 ++ s) z)

-- ---- no number goes on with them

space-stops : (k : ℕ) → is_space k ≡ true → (is_digit k ≡ false) × (eqb k 46 ≡ false) × (is_e k ≡ false)
unfolding is_space is_e between
space-stops k h =
    by_keys_p (λ k. is_space k ≡ true → (is_digit k ≡ false) × (eqb k 46 ≡ false) × (is_e k ≡ false)) k (32 ∷ 9 ∷ 10 ∷ 13 ∷ [])
    (λ h. (refl, refl, refl), (λ h. (refl, refl, refl), (λ h. (refl, refl, refl), (λ h. (refl, refl, refl), tt))))
    (λ n h. not-both h (rw (n.0, n.1.0, n.1.1.0, n.1.1.1.0))) h

pub stops-ws : (x s : Bytes) → Ws x → Stops s → Stops (x ++ s)
unfolding Ws
stops-ws x s (none_more z e) h = rw e h
stops-ws x s (one_more z a b e m ms) h = rw (e, m.1) (space-stops m.0 m.2)

pub stops-mark : (k : ℕ) (u s : Bytes) → Mark k u → Stops (k ∷ []) → Stops (u ++ s)
stops-mark k u s m h = let c = mark-cases k u m in rw (mark-before k u s c.0 c.1 c.4) (stops-ws c.0 (k ∷ (c.1 ++ s)) c.2 h)

-- ---- a value does not begin with a closing bracket

bracket : (d : ℕ) (t : Bytes) → value d (93 ∷ t) ≡ bad (93 ∷ t)
unfolding value skip past is_space on when scalar number opt int digits some_of between
bracket zero t = refl
bracket (suc d) t = refl

first-93 : (s : Bytes) → eqb (first s) 93 ≡ true → (t : Bytes) × (s ≡ 93 ∷ t)
first-93 [] e = not-both e refl
first-93 (c ∷ s) e = (s, ap (λ (x : ℕ). x ∷ s) (eqb-true c 93 e))

pub no-bracket : (d : ℕ) (s : Bytes) (j : Json) (t : Bytes) → value d s ≡ got j t → eqb (first (skip s)) 93 ≡ false
no-bracket d s j t e =
    by_bool (eqb (first (skip s)) 93)
    (λ h.
    let x = skipped s in
    let y = first-93 (skip s) h in
    let v : value d s ≡ bad (93 ∷ y.0) = ap (value d) x.2 ∙ value-ws d x.0 (skip s) x.1 ∙ ap (value d) y.1 ∙ bracket d y.0 in
    absurd (not-bad (sym v ∙ e)))
    (λ h. h)
