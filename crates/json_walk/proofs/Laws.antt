-- Laws for a caller's loop, which keeps the last answer m in a variable: `first_member` gives the first, and after each value `next_member` from where
-- it ended. Its invariant is `InText` of m, and of whatever value stands there: some members o that m tells of (`TellsMembers d s o t m`), with what has
-- been done beside them. Its measure is `ahead`. Where m is a member, `told-member` gives it and what is left after it; at the end, `told-end` and `told_none`.
use mathlib.Core.Path.{◌≡◌, refl, sym, subst}
use mathlib.Core.List.{List, []}
use mathlib.Core.Option.{Option, none, some}
use Prim.Native.Nat.{ℕ, suc, ◌-◌, ◌≤◌, ◌<◌}
use native.Mathlib.Omega.{arith}
use lib.ListN.{drop}
use Rattle.text.specs.Bytes.{Bytes}
use Rattle.json_text.specs.Tree.{Json, Member as Named}
use Rattle.json_walk.specs.declared.Member.{Member}
use Rattle.json_walk.specs.declared.Member.TheVariants.{At as Member-At, End as Member-End, NoObject}
use Rattle.json_walk.specs.declared.Element.{Element}
use Rattle.json_walk.specs.declared.Element.TheVariants.{At as Element-At, End as Element-End, NoArray}
use Rattle.json_walk.specs.Walk.{FirstMember, FirstElement, TellsMembers, TellsElements, MemberIn, ElementIn}

-- ---- members

module _ (d : ℕ) (s t : Bytes) where
  -- a member: then there are some, and it is the first
  pub told-member : (o : Option (List Named)) (q a : ℕ) → TellsMembers d s o t (Member-At q a) → (ms : List Named) × (o ≡ some ms) × FirstMember d s ms t q a
  told-member none q a h = let z : ◌≡◌ {A = ℕ} 0 1 = cc in absurd (omega arith)
  told-member (some ms) q a h = (ms, refl, h)

  -- the end: then there are none
  pub told-end : (o : Option (List Named)) (x : ℕ) → TellsMembers d s o t (Member-End x) → (o ≡ some []) × (t ≡ drop x s)
  told-end none x h = let z : ◌≡◌ {A = ℕ} 0 1 = cc in absurd (omega arith)
  told-end (some ms) x h = rw h.0 (refl, h.1)

  pub told_none : (o : Option (List Named)) → TellsMembers d s o t NoObject → o ≡ none
  told_none none h = refl
  told_none (some ms) h = absurd h

-- no member: what the code knows where a pattern does not fit
abbrev pub Over : Member → Type 0
Over (Member-At q a) = ⊥
Over (Member-End x) = Unit {0}
Over NoObject = Unit {0}

pub is-over : (r : Member) → ((q a : ℕ) → r ≡ Member-At q a → ⊥) → Over r
is-over (Member-At q a) h = absurd (h q a refl)
is-over (Member-End x) h = tt
is-over NoObject h = tt

-- how much of a text of n bytes is ahead: a measure
abbrev pub ahead : ℕ → Member → ℕ
ahead n (Member-At q a) = suc (n - a)
ahead n (Member-End x) = 0
ahead n NoObject = 0

-- the places of an answer are within a text of n bytes
abbrev pub InText : ℕ → Member → Type 0
InText n r = (p : ℕ) × MemberIn p n r

pub in-text : (n : ℕ) (r : Member) (q a : ℕ) → r ≡ Member-At q a → InText n r → (q ≤ n) × (a ≤ n)
in-text n r q a e h = let i = subst (MemberIn h.0 n) e h.1 in (i.0, i.2)

-- the next member stands after the value that begins at a and ends at z
pub less-ahead : (n : ℕ) (r next : Member) (q a z : ℕ) → r ≡ Member-At q a → InText n r → (a ≤ n → a ≤ z) → MemberIn z n next → ahead n next < ahead n r
less-ahead n r next q a z e h l i =
    let b = in-text n r q a e h in
    subst (λ x. ahead n next < ahead n x) (sym e) (by next i (l b.1) b.1)
  where
    by : (x : Member) → MemberIn z n x → a ≤ z → a ≤ n → ahead n x < suc (n - a)
    by (Member-At p b) i l m = omega (arith, i.1, i.2)
    by (Member-End x) i l m = omega arith
    by NoObject i l m = omega arith

-- ---- elements

module _ (d : ℕ) (s t : Bytes) where
  pub told-element : (o : Option (List Json)) (a : ℕ) → TellsElements d s o t (Element-At a) → (vs : List Json) × (o ≡ some vs) × FirstElement d s vs t a
  told-element none a h = let z : ◌≡◌ {A = ℕ} 0 1 = cc in absurd (omega arith)
  told-element (some vs) a h = (vs, refl, h)

  pub told-last : (o : Option (List Json)) (x : ℕ) → TellsElements d s o t (Element-End x) → (o ≡ some []) × (t ≡ drop x s)
  told-last none x h = let z : ◌≡◌ {A = ℕ} 0 1 = cc in absurd (omega arith)
  told-last (some vs) x h = rw h.0 (refl, h.1)

  pub told-no-array : (o : Option (List Json)) → TellsElements d s o t NoArray → o ≡ none
  told-no-array none h = refl
  told-no-array (some vs) h = absurd h

-- no element: what the code knows where a pattern does not fit
abbrev pub OverArray : Element → Type 0
OverArray (Element-At a) = ⊥
OverArray (Element-End x) = Unit {0}
OverArray NoArray = Unit {0}

pub is-over-array : (r : Element) → ((a : ℕ) → r ≡ Element-At a → ⊥) → OverArray r
is-over-array (Element-At a) h = absurd (h a refl)
is-over-array (Element-End x) h = tt
is-over-array NoArray h = tt

abbrev pub ahead_of : ℕ → Element → ℕ
ahead_of n (Element-At a) = suc (n - a)
ahead_of n (Element-End x) = 0
ahead_of n NoArray = 0

abbrev pub ArrayInText : ℕ → Element → Type 0
ArrayInText n r = (p : ℕ) × ElementIn p n r

pub array-in-text : (n : ℕ) (r : Element) (a : ℕ) → r ≡ Element-At a → ArrayInText n r → a ≤ n
array-in-text n r a e h = (subst (ElementIn h.0 n) e h.1).1

pub less-ahead-of : (n : ℕ) (r next : Element) (a z : ℕ) → r ≡ Element-At a → ArrayInText n r → (a ≤ n → a ≤ z) → ElementIn z n next → ahead_of n next < ahead_of n r
less-ahead-of n r next a z e h l i =
    let b = array-in-text n r a e h in
    subst (λ x. ahead_of n next < ahead_of n x) (sym e) (by next i (l b) b)
  where
    by : (x : Element) → ElementIn z n x → a ≤ z → a ≤ n → ahead_of n x < suc (n - a)
    by (Element-At b) i l m = omega (arith, i.0, i.1)
    by (Element-End x) i l m = omega arith
    by NoArray i l m = omega arith
