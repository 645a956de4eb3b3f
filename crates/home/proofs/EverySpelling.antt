-- Every card is a spelling of its unfolded lines, where the first of them begins with no space or tab: so `Spelled` leaves no such card out.
use mathlib.Core.Path.{◌≡◌, refl, sym, ap, subst, ◌∙◌}
use mathlib.Core.Bool.{Bool, true, false, not, ◌||◌}
use mathlib.Core.List.{List, [], ◌∷◌, ◌++◌, map, tail, append_assoc}
use mathlib.Core.Logic.{◌⊎◌, inl, inr}
use mathlib.Core.Option.{Option, none, some}
use Prim.Native.Nat.{ℕ}
use lib.Dec.{eqb}
use borrow.Author.Tests.{eqb-true}
use Rattle.text.specs.Choice.{with-some}
use Rattle.text.specs.Bytes.{Bytes, is, any, on_head}
use Rattle.text.specs.Reader.{first}
use Rattle.text.proofs.Cases.{by_bool, not-both, not-true, or_left, or_right}
use Rattle.text.proofs.Choices.{none-some, some_same, both-inv}
use Rattle.text.proofs.Lists.{any_append}
use Rattle.line.specs.Class.{is_blank}
use Rattle.line.specs.Physical.{by_lf, without_cr, physical, is_begin, is_end, up_to_end, framed}
use Rattle.line.specs.Unfold.{rest, unfold'}
use Rattle.line.proofs.Frame.{Inner}
use Rattle.convert.specs.Answers.{raw_lines}
use Rattle.home.specs.Spelled.{Ended, by-lf, by-cr-lf, Ends, none_left, one_line, no_end, GoesOn, no_more, after-blank, Broken, no_line, one-broken, Spells}

-- ---- line ends

-- lines up to their LF, a CR before it included
data Raw : List Bytes → Bytes → Type 0 where
  raw-none : Raw [] []
  raw-line : {l c : Bytes} {ls : List Bytes} → any (is 10) l ≡ false → Raw ls c → Raw (l ∷ ls) (l ++ 10 ∷ c)
  raw-open : {c : ℕ} {l : Bytes} → any (is 10) (c ∷ l) ≡ false → Raw ((c ∷ l) ∷ []) (c ∷ l)

no-lf : (c : ℕ) (l : Bytes) → eqb c 10 ≡ false → any (is 10) l ≡ false → any (is 10) (c ∷ l) ≡ false
unfolding any
no-lf c l e h = rw (e, h)

onto : (c : ℕ) {ls : List Bytes} {s : Bytes} → eqb c 10 ≡ false → Raw ls s → Raw (on_head c ls) (c ∷ s)
unfolding on_head any
onto c e raw-none = raw-open (no-lf c [] e refl)
onto c e (raw-line {l = l} h r) = raw-line {l = c ∷ l} (no-lf c l e h) r
onto c e (raw-open {c = d} {l = l} h) = raw-open (no-lf c (d ∷ l) e h)

raw_of : (s : Bytes) → Raw (by_lf s) s
unfolding by_lf any
raw_of [] = raw-none
raw_of (c ∷ s) = by_bool (eqb c 10) (λ e. rw e (rw (eqb-true c 10 e) (raw-line {l = []} refl (raw_of s)))) (λ e. rw e (onto c e (raw_of s)))

-- a CR at the end, or none
cr-or-none : (l : Bytes) → (without_cr l ≡ l) ⊎ (l ≡ without_cr l ++ 13 ∷ [])
unfolding without_cr
cr-or-none [] = inl refl
cr-or-none (c ∷ []) = by_bool (eqb c 13) (λ e. inr (rw e (ap (λ (x : ℕ). x ∷ []) (eqb-true c 13 e)))) (λ e. inl (rw e))
cr-or-none (c ∷ (d ∷ s)) = by (cr-or-none (d ∷ s))
  where
    by : (without_cr (d ∷ s) ≡ d ∷ s) ⊎ (d ∷ s ≡ without_cr (d ∷ s) ++ 13 ∷ []) → (without_cr (c ∷ (d ∷ s)) ≡ c ∷ (d ∷ s)) ⊎ (c ∷ (d ∷ s) ≡ without_cr (c ∷ (d ∷ s)) ++ 13 ∷ [])
    by (inl e) = inl (ap (λ (x : Bytes). c ∷ x) e)
    by (inr e) = inr (ap (λ (x : Bytes). c ∷ x) e)

ended_of : (l : Bytes) → any (is 10) l ≡ false → (any (is 10) (without_cr l) ≡ false) × Ended (without_cr l) (l ++ 10 ∷ [])
ended_of l h = by (cr-or-none l)
  where
    by : (without_cr l ≡ l) ⊎ (l ≡ without_cr l ++ 13 ∷ []) → (any (is 10) (without_cr l) ≡ false) × Ended (without_cr l) (l ++ 10 ∷ [])
    by (inl e) = (ap (any (is 10)) e ∙ h, subst (λ (x : Bytes). Ended x (l ++ 10 ∷ [])) (sym e) (by-lf e))
    by (inr e) =
        let n : any (is 10) (without_cr l) || any (is 10) (13 ∷ []) ≡ false = sym (any_append (is 10) (without_cr l) (13 ∷ [])) ∙ ap (any (is 10)) (sym e) ∙ h in
        let p : l ++ 10 ∷ [] ≡ without_cr l ++ 13 ∷ 10 ∷ [] = ap (λ (x : Bytes). x ++ 10 ∷ []) e ∙ append_assoc (without_cr l) (13 ∷ []) (10 ∷ []) in
        (or_left (any (is 10) (without_cr l)) _ n, subst (λ (x : Bytes). Ended (without_cr l) x) (sym p) by-cr-lf)

ends_of : {ls : List Bytes} {s : Bytes} → Raw ls s → Ends (map without_cr ls) s
ends_of raw-none = none_left
ends_of (raw-line {l = l} {c = c} {ls = ls} h r) =
    let e = ended_of l h in
    subst (λ (x : Bytes). Ends (without_cr l ∷ map without_cr ls) x) (append_assoc l (10 ∷ []) c) (one_line e.0 e.1 (ends_of r))
ends_of (raw-open h) = no_end h

physical-ends : (s : Bytes) → Ends (physical s) s
unfolding physical
physical-ends s = ends_of (raw_of s)

-- ---- the frame

record Framed (ls qs : List Bytes) : Type 0 where
  end : Bytes
  is : ls ≡ qs ++ end ∷ []
  ends : is_end end ≡ true
  inner : Inner qs

up-inv : (ls : List Bytes) {qs : List Bytes} → up_to_end ls ≡ some qs → Framed ls qs
unfolding up_to_end
up-inv [] e = none-some e
up-inv (l ∷ []) {qs} e =
    by_bool (is_end l) (λ t. subst (Framed (l ∷ [])) (some_same (rw t at e)) (record { end = l; is = refl; ends = t; inner = tt })) (λ t. none-some (rw t at e))
up-inv (l ∷ (m ∷ ls)) e =
    by_bool (is_begin l || is_end l) (λ t. none-some (rw t at e))
    (λ t. let i = both-inv ◌∷◌ (some l) (up_to_end (m ∷ ls)) (rw t at e) in
    let f = up-inv (m ∷ ls) i.3 in
    let h : l ≡ i.0 = some_same i.2 in
    subst (Framed (l ∷ (m ∷ ls))) i.4
    (record {
      end = f.end;
      is = ap (λ (x : List Bytes). l ∷ x) f.is ∙ ap (λ (x : Bytes). x ∷ (i.1 ++ f.end ∷ [])) h;
      ends = f.ends;
      inner = (subst (λ (x : Bytes). is_begin x ≡ false) h (or_left (is_begin l) _ t), subst (λ (x : Bytes). is_end x ≡ false) h (or_right (is_begin l) _ t), f.inner);
    }))

-- ---- folds

-- physical lines: what goes on with the line before, and the lines after it
record Parted (qs : List Bytes) : Type 0 where
  goes : List Bytes
  after : List Bytes
  r : Bytes
  ls : List Bytes
  whole : qs ≡ goes ++ after
  goes_on : GoesOn r goes
  broken : Broken ls after
  rests : rest qs ≡ record { goes_on = r; lines = ls }

-- a line that begins with a blank has a first byte
blank-first : (l : Bytes) → is_blank (first l) ≡ true → (b : ℕ) × (q : Bytes) × (l ≡ b ∷ q) × (is_blank b ≡ true)
unfolding is_blank
blank-first [] h = not-both h refl
blank-first (b ∷ q) h = (b, q, refl, h)

rest-blank : (l q r : Bytes) (qs ls : List Bytes) → is_blank (first l) ≡ true → tail l ≡ q → rest qs ≡ record { goes_on = r; lines = ls } → rest (l ∷ qs) ≡ record { goes_on = q ++ r; lines = ls }
unfolding rest
rest-blank l q r qs ls b t e = rw (b, t, e)

parted : (qs : List Bytes) → Inner qs → Parted qs
unfolding rest
parted [] h = record { goes = []; after = []; r = []; ls = []; whole = refl; goes_on = no_more; broken = no_line; rests = refl }
parted (l ∷ qs) h = step (parted qs h.2)
  where
    step : Parted qs → Parted (l ∷ qs)
    step p =
        by_bool (is_blank (first l))
        (λ b. let f = blank-first l b in
        record {
          goes = l ∷ p.goes;
          after = p.after;
          r = f.1 ++ p.r;
          ls = p.ls;
          whole = ap (λ (x : List Bytes). l ∷ x) p.whole;
          goes_on = subst (λ (x : Bytes). GoesOn (f.1 ++ p.r) (x ∷ p.goes)) (sym f.2) (after-blank f.3 p.goes_on);
          broken = p.broken;
          rests = rest-blank l f.1 p.r qs p.ls b (ap tail f.2) p.rests;
        })
        (λ b. record {
          goes = [];
          after = l ∷ qs;
          r = [];
          ls = (l ++ p.r) ∷ p.ls;
          whole = refl;
          goes_on = no_more;
          broken = subst (λ (x : List Bytes). Broken ((l ++ p.r) ∷ p.ls) (l ∷ x)) (sym p.whole) (one-broken b h.0 h.1 p.goes_on p.broken);
          rests = rw (b, p.rests);
        })

-- the first line begins with no space or tab
abbrev pub first_plain : List Bytes → Bool
first_plain [] = true
first_plain (l ∷ ls) = not (is_blank (first l))

first_plain_lem : (p r : Bytes) → not (is_blank (first (p ++ r))) ≡ true → is_blank (first p) ≡ false
unfolding is_blank
first_plain_lem [] r h = refl
first_plain_lem (c ∷ p) r h = not-true (is_blank c) h

unfold-broken : (qs : List Bytes) → Inner qs → first_plain (unfold' qs) ≡ true → Broken (unfold' qs) qs
unfolding unfold'
unfold-broken [] h f = no_line
unfold-broken (l ∷ qs) h f =
    let p = parted qs h.2 in
    let e : unfold' (l ∷ qs) ≡ (l ++ p.r) ∷ p.ls = rw p.rests in
    subst (λ (x : List Bytes). Broken x (l ∷ qs)) (sym e)
    (subst (λ (x : List Bytes). Broken ((l ++ p.r) ∷ p.ls) (l ∷ x)) (sym p.whole)
    (one-broken (first_plain_lem l p.r (ap first_plain (sym e) ∙ f)) h.0 h.1 p.goes_on p.broken))

-- ---- THE LAW

pub every-spelling : (s : Bytes) (ls : List Bytes) → raw_lines s ≡ some ls → first_plain ls ≡ true → Spells ls s
unfolding raw_lines framed
every-spelling s ls e f = by (physical s) refl e
  where
    by : (ps : List Bytes) → physical s ≡ ps → with-some (framed ps) (λ qs. some (unfold' qs)) none ≡ some ls → Spells ls s
    by [] q e = none-some e
    by (b ∷ ps) q e = by_bool (is_begin b) (λ t. up (up_to_end ps) refl (rw t at e) t) (λ t. none-some (rw t at e))
      where
        up : (o : Option (List Bytes)) → up_to_end ps ≡ o → with-some o (λ qs. some (unfold' qs)) none ≡ some ls → is_begin b ≡ true → Spells ls s
        up none u e t = none-some e
        up (some qs) u e t =
            let x = up-inv ps u in
            let w : unfold' qs ≡ ls = some_same e in
            record {
              begin = b;
              physical = qs;
              end = x.end;
              begins = t;
              ends = x.ends;
              broken = subst (λ (y : List Bytes). Broken y qs) w (unfold-broken qs x.inner (ap first_plain w ∙ f));
              ended = subst (λ (y : List Bytes). Ends y s) (q ∙ ap (λ (y : List Bytes). b ∷ y) x.is) (physical-ends s);
            }
