-- Clean values read as TEXT, and split at bare separators.
use mathlib.Core.Path.{◌≡◌, refl, sym, ap, subst, ◌∙◌}
use mathlib.Core.Bool.{Bool, true, false, ◌&&◌, not}
use mathlib.Core.List.{List, [], ◌∷◌}
use mathlib.Core.Option.{Option, none, some}
use Prim.Native.Nat.{ℕ}
use lib.Dec.{eqb}
use borrow.Author.Tests.{eqb-true}
use Rattle.text.specs.Bytes.{Bytes, is, any, on_head}
use Rattle.text.specs.Utf8.{Due, start, next, run, utf8}
use Rattle.text.proofs.Cases.{by_bool, or_left, or_right, not-both}
use Rattle.text.proofs.Choices.{none-some, some_same}
use Rattle.text.proofs.Lists.{any_none, any-imply}
use Rattle.text.proofs.Characters.{utf8-run, run-utf8, later}
use Rattle.line.specs.Class.{is_control}
use Rattle.line.specs.Text.{push, escaped, text_from, read_text, split_from, split_text}
use Rattle.convert.specs.Carry.{carried_text, carried_raw}
use Rattle.home.proofs.Alls.{All, all_two}
use Rattle.home.proofs.Clean.{is_ascii, ascii-next, ascii-due, later-next, Clean}

-- ---- reading

push-inv : (c : ℕ) (x : Option Bytes) (v : Bytes) → push c x ≡ some v → (u : Bytes) × (x ≡ some u) × (c ∷ u ≡ v)
push-inv c none v e = none-some e
push-inv c (some u) v e = (u, refl, some_same e)

-- an escape stands for one ASCII byte: one of those allowed in TEXT
abbrev pub is_plain : ℕ → Bool
is_plain c = not (is_control c && not (is 10 c))

abbrev Escaped : Option Bytes → Bytes → Type 0
Escaped r v = (c : ℕ) × (is_ascii c ≡ true) × (is_plain c ≡ true) × (push c r ≡ some v)

escaped-inv : (c : ℕ) (r : Option Bytes) (v : Bytes) → escaped c r ≡ some v → (is_ascii c ≡ true) × Escaped r v
unfolding escaped is_control
escaped-inv c r v e =
    by_bool (eqb c 92) (λ q. let z = eqb-true c 92 q in (rw z, (92, refl, refl, rw z at e)))
    (λ q. by_bool (eqb c 44) (λ p. let z = eqb-true c 44 p in (rw z, (44, refl, refl, rw z at e)))
    (λ p. by_bool (eqb c 59) (λ o. let z = eqb-true c 59 o in (rw z, (59, refl, refl, rw z at e)))
    (λ o. by_bool (eqb c 110) (λ n. let z = eqb-true c 110 n in (rw z, (10, refl, refl, rw z at e)))
    (λ n. by_bool (eqb c 78) (λ m. let z = eqb-true c 78 m in (rw z, (10, refl, refl, rw z at e)))
    (λ m. none-some (rw (q, p, o, n, m) at e))))))

-- after a backslash a character may start
abbrev pub due_at : Bool → Due → Due
due_at true d = start
due_at false d = d

text-run : (b : Bool) (d : Due) (s v : Bytes) → later d ≡ true → run (due_at b d) s ≡ start → text_from b s ≡ some v → run (due_at b d) v ≡ start
unfolding text_from run
text-run true d [] v l u e = none-some e
text-run false d [] v l u e = subst (λ (x : Bytes). run d x ≡ start) (some_same e) u
text-run true d (c ∷ s) v l u e =
    let i = escaped-inv c (text_from false s) v e in
    let j = push-inv i.1.0 (text_from false s) v i.1.3 in
    let t : run start j.0 ≡ start = text-run false start s j.0 refl (ap (λ (x : Due). run x s) (sym (ascii-next c i.0)) ∙ u) j.1 in
    subst (λ (x : Bytes). run start x ≡ start) j.2 (ap (λ (x : Due). run x j.0) (ascii-next i.1.0 i.1.1) ∙ t)
text-run false d (c ∷ s) v l u e =
    by_bool (eqb c 92)
    (λ q. let a : is_ascii c ≡ true = rw (eqb-true c 92 q) in
    let z : d ≡ start = ascii-due d c s l a u in
    let w : run (next start c) s ≡ start = subst (λ (x : Due). run (next x c) s ≡ start) z u in
    subst (λ (x : Due). run x v ≡ start) (sym z) (text-run true start s v refl (ap (λ (x : Due). run x s) (sym (ascii-next c a)) ∙ w) (rw q at e)))
    (λ q. let j = push-inv c (text_from false s) v (rw q at e) in
    subst (λ (x : Bytes). run d x ≡ start) j.2 (text-run false (next d c) s j.0 (later-next d c l) u j.1))

abbrev bars : ℕ → Bool
bars c = is_control c && not (is 10 c)

control-bars : (c : ℕ) → is_control c ≡ false → bars c ≡ false
control-bars c h = rw h

not_plain : (c : ℕ) → is_plain c ≡ true → bars c ≡ false
not_plain c h = by_bool (bars c) (λ e. not-both h (ap not e)) (λ e. e)

text-plain : (b : Bool) (s v : Bytes) → any is_control s ≡ false → text_from b s ≡ some v → any bars v ≡ false
unfolding text_from any
text-plain true [] v h e = none-some e
text-plain false [] v h e = rw (← some_same e)
text-plain true (c ∷ s) v h e =
    let i = escaped-inv c (text_from false s) v e in
    let j = push-inv i.1.0 (text_from false s) v i.1.3 in
    subst (λ (x : Bytes). any bars x ≡ false) j.2 (any_none bars i.1.0 j.0 (not_plain i.1.0 i.1.2) (text-plain false s j.0 (or_right (is_control c) _ h) j.1))
text-plain false (c ∷ s) v h e =
    by_bool (eqb c 92)
    (λ q. text-plain true s v (or_right (is_control c) _ h) (rw q at e))
    (λ q. let j = push-inv c (text_from false s) v (rw q at e) in
    subst (λ (x : Bytes). any bars x ≡ false) j.2 (any_none bars c j.0 (control-bars c (or_left (is_control c) _ h)) (text-plain false s j.0 (or_right (is_control c) _ h) j.1)))

-- a string that TEXT can carry
abbrev pub CleanText : Bytes → Type 0
CleanText v = (utf8 v ≡ true) × (carried_text v ≡ true)

pub text-clean : (s v : Bytes) → Clean s → read_text s ≡ some v → CleanText v
unfolding read_text carried_text
text-clean s v h e = (run-utf8 v (text-run false start s v refl (utf8-run s h.0) e), ap not (text-plain false s v h.1 e))

pub clean-text : (v : Bytes) → Clean v → CleanText v
unfolding carried_text
clean-text v h = (h.0, ap not (any-imply is_control bars control-bars v h.1))

pub clean-raw : (v : Bytes) → Clean v → carried_raw v ≡ true
unfolding carried_raw
clean-raw v h = ap not h.1

-- ---- splitting

abbrev SplitRun : Due → List Bytes → Type 0
SplitRun d [] = ⊥
SplitRun d (x ∷ xs) = (run d x ≡ start) × All (λ y. utf8 y ≡ true) xs

on-head-run : (d : Due) (c : ℕ) (xs : List Bytes) → SplitRun (next d c) xs → SplitRun d (on_head c xs)
unfolding on_head run
on-head-run d c [] h = absurd h
on-head-run d c (x ∷ xs) h = h

all-run : (xs : List Bytes) → SplitRun start xs → All (λ y. utf8 y ≡ true) xs
all-run [] h = tt
all-run (x ∷ xs) h = (run-utf8 x h.0, h.1)

split-run : (b : Bool) (sep : ℕ) (d : Due) (s : Bytes) → is_ascii sep ≡ true → later d ≡ true → run d s ≡ start → SplitRun d (split_from b sep s)
unfolding split_from run
split-run true sep d [] a l u = (u, tt)
split-run false sep d [] a l u = (u, tt)
split-run true sep d (c ∷ s) a l u = on-head-run d c (split_from false sep s) (split-run false sep (next d c) s a (later-next d c l) u)
split-run false sep d (c ∷ s) a l u =
    by_bool (eqb c 92)
    (λ q. rw q (on-head-run d c (split_from true sep s) (split-run true sep (next d c) s a (later-next d c l) u)))
    (λ q. by_bool (eqb c sep)
    (λ p. let k : is_ascii c ≡ true = ap is_ascii (eqb-true c sep p) ∙ a in
    let z : d ≡ start = ascii-due d c s l k u in
    let w : run start s ≡ start = ap (λ (x : Due). run x s) (sym (ascii-next c k)) ∙ subst (λ (x : Due). run (next x c) s ≡ start) z u in
    rw (q, p) (z, all-run (split_from false sep s) (split-run false sep start s a refl w)))
    (λ p. rw (q, p) (on-head-run d c (split_from false sep s) (split-run false sep (next d c) s a (later-next d c l) u))))

abbrev NoControl : Bytes → Type 0
NoControl x = any is_control x ≡ false

on-head-control : (c : ℕ) (xs : List Bytes) → is_control c ≡ false → All NoControl xs → All NoControl (on_head c xs)
unfolding on_head any
on-head-control c [] e h = (rw e, tt)
on-head-control c (x ∷ xs) e h = (rw (e, h.0), h.1)

split-control : (b : Bool) (sep : ℕ) (s : Bytes) → NoControl s → All NoControl (split_from b sep s)
unfolding split_from any
split-control true sep [] h = (refl, tt)
split-control false sep [] h = (refl, tt)
split-control true sep (c ∷ s) h = on-head-control c (split_from false sep s) (or_left (is_control c) _ h) (split-control false sep s (or_right (is_control c) _ h))
split-control false sep (c ∷ s) h =
    let n = or_left (is_control c) _ h in
    let t = or_right (is_control c) _ h in
    by_bool (eqb c 92)
    (λ q. rw q (on-head-control c (split_from true sep s) n (split-control true sep s t)))
    (λ q. by_bool (eqb c sep)
    (λ p. rw (q, p) (refl, split-control false sep s t))
    (λ p. rw (q, p) (on-head-control c (split_from false sep s) n (split-control false sep s t))))

pub split-clean : (sep : ℕ) (s : Bytes) → is_ascii sep ≡ true → Clean s → All Clean (split_text sep s)
unfolding split_text
split-clean sep s a h =
    all_two (λ x. utf8 x ≡ true) NoControl (split_from false sep s) (all-run (split_from false sep s) (split-run false sep start s a refl (utf8-run s h.0))) (split-control false sep s h.1)
