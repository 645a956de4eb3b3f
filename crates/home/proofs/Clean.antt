-- Texts in UTF-8 without controls: they may be cut at ASCII bytes.
use mathlib.Core.Path.{◌≡◌, refl, sym, ap, subst, ◌∙◌}
use mathlib.Core.Bool.{Bool, true, false, ◌&&◌}
use mathlib.Core.List.{List, [], ◌∷◌, ◌++◌, append-nil}
use Prim.Native.Nat.{ℕ}
use native.Mathlib.Omega.{arith}
use lib.Dec.{ltb}
use Rattle.text.specs.Bytes.{Bytes, any, all, between}
use Rattle.text.specs.Utf8.{Due, start, due, broken, lead, next, run, utf8}
use Rattle.text.specs.Reader.{taken, past}
use Rattle.text.proofs.Cases.{by_bool, and_right, tests, below, or_left, or_right}
use Rattle.text.proofs.Lists.{all_head, all_tail, all_append, any_append}
use Rattle.text.proofs.Characters.{run-append, utf8-run, run-utf8, not_start, later, later-lead, later-tails, later-bounds, is_byte, utf8-bytes}
use Rattle.line.specs.Class.{is_control}
use Rattle.convert.specs.Value.{head_or}

-- ---- what is due after some bytes

pub later-next : (d : Due) (c : ℕ) → later d ≡ true → later (next d c) ≡ true
unfolding next
later-next start c l = later-lead c
later-next (due low high k) c l =
    by_bool (between low high c) (λ e. rw e (later-tails k (later-bounds low high k l).2)) (λ e. rw e)
later-next broken c l = refl

later-run : (d : Due) (s : Bytes) → later d ≡ true → later (run d s) ≡ true
unfolding run
later-run d [] l = l
later-run d (c ∷ s) l = later-run (next d c) s (later-next d c l)

abbrev pub is_ascii : ℕ → Bool
is_ascii c = ltb c 128

pub ascii-next : (c : ℕ) → is_ascii c ≡ true → next start c ≡ start
unfolding next lead
ascii-next c a = rw a

-- an ASCII byte stands only where a character may start
pub ascii-due : (d : Due) (c : ℕ) (t : Bytes) → later d ≡ true → is_ascii c ≡ true → run (next d c) t ≡ start → d ≡ start
unfolding next
ascii-due start c t l a e = refl
ascii-due (due low high k) c t l a e =
    let b = later-bounds low high k l in
    absurd (not_start t (rw (below low high c (omega (tests, b.0))) at e))
ascii-due broken c t l a e = absurd (not_start t e)

pub cut_left : (s : Bytes) (c : ℕ) (t : Bytes) → is_ascii c ≡ true → utf8 (s ++ c ∷ t) ≡ true → utf8 s ≡ true
unfolding run
cut_left s c t a u =
    let e : run (run start s) (c ∷ t) ≡ start = sym (run-append start s (c ∷ t)) ∙ utf8-run (s ++ c ∷ t) u in
    run-utf8 s (ascii-due (run start s) c t (later-run start s refl) a e)

-- what follows whole characters
pub cut_right : (s t : Bytes) → utf8 s ≡ true → utf8 (s ++ t) ≡ true → utf8 t ≡ true
cut_right s t e u = run-utf8 t (ap (λ (d : Due). run d t) (sym (utf8-run s e)) ∙ sym (run-append start s t) ∙ utf8-run (s ++ t) u)

pub utf8-none : utf8 [] ≡ true
unfolding utf8 run
utf8-none = refl

pub ascii_run : (s : Bytes) → all is_ascii s ≡ true → run start s ≡ start
unfolding run
ascii_run [] h = refl
ascii_run (c ∷ s) h = ap (λ (d : Due). run d s) (ascii-next c (all_head is_ascii c s h)) ∙ ascii_run s (all_tail is_ascii c s h)

pub ascii-utf8 : (s : Bytes) → all is_ascii s ≡ true → utf8 s ≡ true
ascii-utf8 s h = run-utf8 s (ascii_run s h)

pub head-utf8 : (vs : List Bytes) → all utf8 vs ≡ true → utf8 (head_or [] vs) ≡ true
head-utf8 [] h = utf8-none
head-utf8 (v ∷ vs) h = all_head utf8 v vs h

-- ---- clean texts

abbrev pub Clean : Bytes → Type 0
Clean s = (utf8 s ≡ true) × (any is_control s ≡ false)

pub clean-none : Clean []
unfolding any
clean-none = (utf8-none, refl)

pub clean-right : (s t : Bytes) → utf8 s ≡ true → Clean (s ++ t) → Clean t
clean-right s t u h = (cut_right s t u h.0, or_right (any is_control s) (any is_control t) (sym (any_append is_control s t) ∙ h.1))

pub clean-left : (s t : Bytes) → utf8 s ≡ true → Clean (s ++ t) → Clean s
clean-left s t u h = (u, or_left (any is_control s) (any is_control t) (sym (any_append is_control s t) ∙ h.1))

-- past one ASCII byte
pub clean-tail : (c : ℕ) (s : Bytes) → is_ascii c ≡ true → Clean (c ∷ s) → Clean s
unfolding all
clean-tail c s a h = clean-right (c ∷ []) s (ascii-utf8 (c ∷ []) (rw a)) h

-- ---- runs of a class

module _ (p : ℕ → Bool) where
  pub taken-past : (s : Bytes) → taken p s ++ past p s ≡ s
  unfolding taken past
  taken-past [] = refl
  taken-past (c ∷ s) = by_bool (p c) (λ e. rw e (ap (λ (x : Bytes). c ∷ x) (taken-past s))) (λ e. rw e)

  past_first : (s : Bytes) (c : ℕ) (t : Bytes) → past p s ≡ c ∷ t → p c ≡ false
  unfolding past
  past_first [] c t e = absurd (nil-cons e)
    where
      nil-cons : {c : ℕ} {t : Bytes} → [] ≡ c ∷ t → ⊥
      nil-cons e = let r : ◌≡◌ {A = ℕ} 0 1 = cc in omega arith
  past_first (b ∷ s) c t e =
      by_bool (p b) (λ q. past_first s c t (rw q at e)) (λ q. let r : b ∷ s ≡ c ∷ t = rw q at e in let f : b ≡ c = cc in rw (← f) q)

  cut-taken : (s v t : Bytes) → utf8 s ≡ true → v ++ t ≡ s → ((c : ℕ) (u : Bytes) → t ≡ c ∷ u → p c ≡ false) → ((c : ℕ) → is_byte c ≡ true → p c ≡ false → is_ascii c ≡ true) → utf8 v ≡ true
  cut-taken s v [] u e f g = subst (λ (x : Bytes). utf8 x ≡ true) (sym e ∙ append-nil v) u
  cut-taken s v (c ∷ t) u e f g =
      let w : utf8 (v ++ c ∷ t) ≡ true = ap utf8 e ∙ u in
      let b : all is_byte v && all is_byte (c ∷ t) ≡ true = sym (all_append is_byte v (c ∷ t)) ∙ utf8-bytes (v ++ c ∷ t) w in
      cut_left v c t (g c (all_head is_byte c t (and_right (all is_byte v) _ b)) (f c t refl)) w

  -- a class that only ASCII bytes end
  pub taken-clean : (s : Bytes) → ((c : ℕ) → is_byte c ≡ true → p c ≡ false → is_ascii c ≡ true) → Clean s → Clean (taken p s) × Clean (past p s)
  taken-clean s g h =
      let u = cut-taken s (taken p s) (past p s) h.0 (taken-past s) (past_first s) g in
      let k : Clean (taken p s ++ past p s) = subst Clean (sym (taken-past s)) h in
      (clean-left (taken p s) (past p s) u k, clean-right (taken p s) (past p s) u k)
