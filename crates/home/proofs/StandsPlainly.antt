-- What it says that all lines stand: each line that came has its line, unknown ones unchanged, and there are as many as came.
use mathlib.Core.Path.{◌≡◌, refl, sym, ap, subst, ◌∙◌}
use mathlib.Core.Logic.{◌⊎◌, inl, inr}
use mathlib.Core.Bool.{true, false, ◌&&◌, not}
use mathlib.Core.List.{List, [], ◌∷◌}
use Prim.Native.Nat.{ℕ, suc, ◌+◌}
use native.Mathlib.Omega.{arith}
use lib.ListN.{length, length-append}
use Rattle.text.specs.Bytes.{Bytes, ascii, any, same, among, lowered, keep}
use Rattle.text.proofs.Cases.{by_bool, not-both, or_left, or_right}
use Rattle.line.specs.Grammar.{Line}
use Rattle.convert.specs.Answers.{yes, is_named, card_to_json, json_to_card}
use Rattle.home.specs.Allowed.{entry_names, SameKept, Converted, uid, kind, full, parts, entry, member, Into, here, later, AllStand, no_more, one_more, carries, new_lines}
use Rattle.home.specs.Members.{Pairwise, no-pair, pair}
use Rattle.home.specs.StandsFor.{Stand, AllStandFor, no_line, next-line}
use Rattle.home.specs.Reasons as R
use Rattle.home.specs.Reasons.{Paired, is_prop, KeptByReason}
use Rattle.home.specs.Turns.{kept_lines, converted_lines, LinesStand}
use Rattle.home.specs.JsonStands.{JsonStands}
use Rattle.home.proofs.Alls.{In, in_left, in_right}
use Rattle.home.proofs.Respelled.{lines}
use Rattle.home.proofs.Standing.{as_many}
use Rattle.home.proofs.JsonStands.{card-stands}
use Rattle.home.proofs.HomeAgain.{every-line-comes-home}

-- ---- a line has its line

into-there : {A : Type 0} {x : A} {xs ys : List A} → Into x xs ys → In x ys
into-there here = inl refl
into-there (later i) = inr (into-there i)

into-others : {A : Type 0} {x : A} {xs ys : List A} (z : A) → Into x xs ys → In z xs → In z ys
into-others z here h = inr h
into-others z (later i) (inl e) = inl e
into-others z (later i) (inr h) = inr (into-others z i h)

pub line-stands : {new ls hs : List Line} (l : Line) → AllStand new ls hs → In l ls → (h : Line) × In h hs × Converted l h
line-stands l no_more e = absurd e
line-stands l (one_more {h = h} a s i) (inl e) = (h, into-there i, subst (λ (x : Line). Converted x h) (sym e) a)
line-stands l (one_more a s i) (inr e) = let t = line-stands l s e in (t.0, into-others t.0 i t.1, t.2)

pair-stands : {ls hs : List Line} (l : Line) → Pairwise SameKept ls hs → In l ls → (h : Line) × In h hs × SameKept l h
pair-stands l no-pair e = absurd e
pair-stands l (pair {y = h} a s) (inl e) = (h, inl refl, subst (λ (x : Line). SameKept x h) (sym e) a)
pair-stands l (pair a s) (inr e) = let t = pair-stands l s e in (t.0, inr t.1, t.2)

-- a line is converted or kept
in_one : {ls : List Line} {ts : List Stand} (l : Line) → AllStandFor ls ts → In l ls → carries l ≡ true → In l (converted_lines ls ts) ⊎ In l (kept_lines ls ts)
unfolding converted_lines kept_lines
in_one l no_line i c = absurd i
in_one l (next-line {l = x} {ls = ls} {t = t} {ts = ts} a s) (inl e) c =
    let d : carries x ≡ true = ap carries (sym e) ∙ c in
    by_bool (is_prop t) (λ p. inr (rw p (inl e))) (λ p. inl (rw (d, p) (inl e)))
in_one l (next-line {l = x} {ls = ls} {t = t} {ts = ts} a s) (inr i) c = further (in_one l s i c)
  where
    further : In l (converted_lines ls ts) ⊎ In l (kept_lines ls ts) → In l (converted_lines (x ∷ ls) (t ∷ ts)) ⊎ In l (kept_lines (x ∷ ls) (t ∷ ts))
    further (inl i) = inl (by_bool (carries x && not (is_prop t)) (λ p. rw p (inr i)) (λ p. rw p i))
    further (inr i) = inr (by_bool (is_prop t) (λ p. rw p (inr i)) (λ p. rw p i))

-- as many as are carried
in_all : {before : List Paired} {ls : List Line} {ts : List Stand} → KeptByReason before ls ts → length (converted_lines ls ts) + length (kept_lines ls ts) ≡ length (keep carries ls)
unfolding converted_lines kept_lines keep
in_all R.no_line = refl
in_all (R.next-line {before} {l} {ls} {t} {ts} e h) =
    let r : length (converted_lines ls ts) + length (kept_lines ls ts) ≡ length (keep carries ls) = in_all h in
    by_bool (carries l)
    (λ c. by_bool (is_prop t) (λ p. rw (c, p) (omega (arith, r))) (λ p. rw (c, p) (omega (arith, r))))
    (λ c. let p : is_prop t ≡ false = e ∙ rw c in rw (c, p) r)

pairs-length : {ls hs : List Line} → Pairwise SameKept ls hs → length hs ≡ length ls
pairs-length no-pair = refl
pairs-length (pair a s) = ap suc (pairs-length s)

-- ---- unknown lines

-- the names that are known besides those of the maps
abbrev known_names : List Bytes
known_names = ascii "version" ∷ ascii "uid" ∷ ascii "kind" ∷ ascii "fn" ∷ ascii "n" ∷ ascii "jsprop" ∷ []

abbrev pub Unknown : Line → Type 0
Unknown l = (among (lowered l.name) known_names ≡ false) × (among (lowered l.name) entry_names ≡ false)

-- none of the names is the line's
not_named : (l : Line) → Unknown l
    → (is_named (ascii "version") l ≡ false) × (is_named (ascii "uid") l ≡ false) × (is_named (ascii "kind") l ≡ false) × (is_named (ascii "fn") l ≡ false) × (is_named (ascii "n") l ≡ false) × (is_named (ascii "jsprop") l ≡ false)
unfolding among any
not_named l u =
    let n : Bytes = lowered l.name in
    let a = or_right (same n (ascii "version")) _ u.0 in
    let b = or_right (same n (ascii "uid")) _ a in
    let c = or_right (same n (ascii "kind")) _ b in
    let d = or_right (same n (ascii "fn")) _ c in
    let e = or_right (same n (ascii "n")) _ d in
    (or_left _ _ u.0, or_left _ _ a, or_left _ _ b, or_left _ _ c, or_left _ _ d, or_left _ _ e)

pub unknown-kept : (l h : Line) → Unknown l → Converted l h → ⊥
unknown-kept l h u (uid b p q e) = not-both b.0 (not_named l u).1
unknown-kept l h u (kind b p q e) = not-both b.0 (not_named l u).2
unknown-kept l h u (full b p q v x y) = not-both b.0 (not_named l u).3
unknown-kept l h u (parts b p q s) = not-both b.0 (not_named l u).4
unknown-kept l h u (entry s) = not-both s.listed u.1
unknown-kept l h u (member b s) = not-both b.0 (not_named l u).5

unknown-carries : (l : Line) → Unknown l → carries l ≡ true
unfolding carries
unknown-carries l u = let n = not_named l u in rw (n.0, n.3)

-- ---- of a card that came home

module _ (stem : Bytes) (n lent lent' : ℕ) (s j b : Bytes) (out : card_to_json stem n lent s ≡ yes j) (back : json_to_card lent' j ≡ yes b) where
  stands : JsonStands stem n (lines s) j
  stands = card-stands stem n lent s j out

  stand : LinesStand (new_lines stem n (lines s)) (lines s) stands.stands (lines b)
  stand = every-line-comes-home stem n lent lent' s j b out back stands

  -- each line but VERSION and a derived FN has a line that says what it says
  pub line-comes-home : (l : Line) → In l (lines s) → carries l ≡ true → (h : Line) × In h (lines b) × (Converted l h ⊎ SameKept l h)
  line-comes-home l i c = found (in_one l stands.each_line i c)
    where
      found : In l (converted_lines (lines s) stands.stands) ⊎ In l (kept_lines (lines s) stands.stands) → (h : Line) × In h (lines b) × (Converted l h ⊎ SameKept l h)
      found (inl k) = let t = line-stands l stand.converted k in (t.0, rw stand.whole (in_left t.0 stand.front stand.back t.1), inl t.2)
      found (inr k) = let t = pair-stands l stand.kept k in (t.0, rw stand.whole (in_right t.0 stand.front stand.back t.1), inr t.2)

  -- a line of an unknown name is kept as it is
  pub unknown-comes-home : (l : Line) → In l (lines s) → Unknown l → (h : Line) × In h (lines b) × SameKept l h
  unknown-comes-home l i u = let t = line-comes-home l i (unknown-carries l u) in (t.0, t.1, kept t.0 t.2)
    where
      kept : (h : Line) → Converted l h ⊎ SameKept l h → SameKept l h
      kept h (inl c) = absurd (unknown-kept l h u c)
      kept h (inr k) = k

  -- as many lines as came, and the new ones
  pub as-many-come-home : length (lines b) ≡ length (keep carries (lines s)) + length (new_lines stem n (lines s))
  as-many-come-home =
      rw (stand.whole, length-append stand.front stand.back) (omega (arith, as_many stand.converted, pairs-length stand.kept, in_all stands.reasons))
