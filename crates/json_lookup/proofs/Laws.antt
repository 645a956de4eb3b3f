-- Laws of the look-up, over plain values.
use mathlib.Core.Path.{◌≡◌, refl, sym, ap, subst, ◌∙◌}
use mathlib.Core.Bool.{Bool, true, false}
use mathlib.Core.Logic.{◌⊎◌, ⊎_elim}
use mathlib.Core.List.{List, [], ◌∷◌}
use mathlib.Core.Option.{Option, none, some}
use Prim.Native.Nat.{ℕ, zero, suc, ◌+◌, ◌-◌, ◌≤◌}
use native.Mathlib.Omega.{arith}
use lib.ListN.{length, take, drop, length-drop, take-append-drop}
use lib.Dec.{leb}
use borrow.Author.Tests.{eq-eqb, ne_eqb}
use Rattle.text.specs.Places.{Read}
use Rattle.std.proofs.Common.{Break}
use Rattle.text.specs.Choice.{with-some}
use Rattle.text.specs.Bytes.{Bytes, is, same}
use Rattle.text.specs.Reader.{Got, got, bad, bind, first, on, when, Step, more, last, after, loop}
use Rattle.text.specs.Places.{byte_at, GivesT}
use Rattle.text.proofs.Places.{by_bool, on-yes, on-no}
use Rattle.text.proofs.Fine.{Takes, got-what, bind_inv, under-inv, loop-more, loop-split}
use Rattle.json_text.specs.Tree.{Json, jobj}
use Rattle.json_text.specs.Syntax.{skip, name, sep, pair, value, text}
use Rattle.json_text.specs.Strings.{decode}
use Rattle.json_text.specs.Read.{Reading, tree, refused, reading_of, reading}
use Rattle.json_text.specs.Lookup.{Span, span_of, spans, given, found, is_tree, room, look_up}
use Rattle.json_text.proofs.Fine.{name-fine, value-fine, sep-fine}
use Rattle.json_marks.proofs.Laws.{skip-to}
use Rattle.json_strings.specs.Decoded.{decoded_at, spells}
use Rattle.json_marks.proofs.Separators.{sep-adds, sep-go, sep-stop}
use Rattle.std.specs.Prelude.{Ok, Err}
use Rattle.json_read.specs.declared.Fault.{Fault}
use Rattle.json_read.specs.declared.Fault.TheVariants.{Large}
use Rattle.json_read.specs.Verdict.{Verdict, verdict_of, verdict}
use Rattle.json_access.specs.Access.{EndsAt, TellsHead}
use Rattle.json_walk.specs.declared.Member.{Member}
use Rattle.json_walk.specs.declared.Member.TheVariants.{At, End, NoObject}
use Rattle.json_walk.specs.Walk.{Opens, NoneOpens, GoesOn, FirstReads, NextReads}
use Rattle.json_walk.proofs.Laws.{Over}
use Rattle.json_walk.proofs.Steps.{value-from}
use Rattle.json_walk.proofs.Values.{some-object}
use Rattle.json_access.specs.declared.Part.{Part}
use Rattle.json_lookup.proofs.Spans.{span_at, span-turn, spanned}
use Rattle.json_lookup.specs.Finds.{nowhere, place_of, FindsIn}

-- ---- members
span-takes : (d : ℕ) → Takes (span_of d)
unfolding span_of
span-takes d s a w e =
    let p = bind_inv (name s) _ e in
    let q = bind_inv (value d p.1) _ p.3 in
    let b = name-fine.less s p.0 p.1 p.2 in
    let c = (value-fine d).less p.1 q.0 q.1 q.2 in
    let f = (sep-fine 125 (span_at p.0 p.1 q.1 ∷ []) (λ ps. span_at p.0 p.1 q.1 ∷ ps) refl).less q.1 a w q.3 in
    omega arith

spans-tail : (x : Span) (f : Bytes → Got (List Span)) (w : Step (List Span)) (v : Bytes) (rest : List Span) (t : Bytes)
    → (w ≡ last (x ∷ [])) ⊎ (w ≡ more (λ ps. x ∷ ps)) → after w v f ≡ got rest t → (ps : List Span) × (rest ≡ x ∷ ps)
spans-tail x f w v rest t o e =
    ⊎_elim (λ q. ([], sym (got-what (rw q at e))))
    (λ q. let i = under-inv (λ (ps : List Span). x ∷ ps) (f v) (rw q at e) in (i.0, sym i.2)) o

module _ (s : Bytes) where
  -- the member that is next
  record Here (i : ℕ) (rest : List Span) : Type 0 where
    key : Bytes
    rest-key : Bytes
    val : Json
    rest-val : Bytes
    others : List Span
    is_name : name (drop i s) ≡ got key rest-key
    is-value : value 15 rest-key ≡ got val rest-val
    turn : span_of 15 (drop i s) ≡ sep 125 (span_at key rest-key rest-val ∷ []) (λ ps. span_at key rest-key rest-val ∷ ps) rest-val
    is : rest ≡ span_at key rest-key rest-val ∷ others

  span-here : (i : ℕ) (rest : List Span) (t : Bytes) → loop (span_of 15) (drop i s) ≡ got rest t → Here i rest
  unfolding span_of
  span-here i rest t e =
      let l = loop-split (span_of 15) (span-takes 15) (drop i s) rest t e in
      let a = bind_inv (name (drop i s)) (λ k t. bind (value 15 t) λ j u. sep 125 (span_at k t u ∷ []) (λ ps. span_at k t u ∷ ps) u) l.2 in
      let b = bind_inv (value 15 a.1) (λ j u. sep 125 (span_at a.0 a.1 u ∷ []) (λ ps. span_at a.0 a.1 u ∷ ps) u) a.3 in
      let x = span_at a.0 a.1 b.1 in
      let r = spans-tail x (loop (span_of 15)) l.0 l.1 rest t (sep-adds (x ∷ []) (λ ps. x ∷ ps) 125 b.1 l.0 l.1 b.3) l.3 in
      record { key = a.0; rest-key = a.1; val = b.0; rest-val = b.1; others = r.0; is_name = a.2; is-value = b.2; turn = span-turn 15 (drop i s) a.0 a.1 b.0 b.1 a.2 b.2; is = r.1 }

-- ---- the search: none of the members so far has the name, and the spans from the place of the next name on are still to be looked through
pub record Todo (s m : Bytes) (q a : ℕ) : Type 0 where
  pub place : ℕ
  pub spans-left : List Span
  pub after-all : Bytes
  pub reads : loop (span_of 15) (drop place s) ≡ got spans-left after-all
  pub told : TellsHead s place (record { name = q; start = a })
  pub same-found : found (length s) m (given (spans 15 s)) ≡ found (length s) m spans-left

abbrev pub Seeking : Bytes → Bytes → Member → Type 0
Seeking s m (At q a) = (j : Json) (t : Bytes) → text 16 s ≡ got j t → Todo s m q a
Seeking s m (End x) = FindsIn s m nowhere
Seeking s m NoObject = FindsIn s m nowhere

matched : (k m : Bytes) (q : Option Bytes) → q ≡ decode k → spells q m ≡ with-some (decode k) (same m) false
matched k m q e = ap (λ (x : Option Bytes). spells x m) e ∙ go (decode k)
  where
    go : (x : Option Bytes) → spells x m ≡ with-some x (same m) false
    go none = refl
    go (some y) = refl

module _ (s m : Bytes) (r : Member) (seeking : Seeking s m r) (q a : ℕ) (is-r : r ≡ At q a) (b : Bool) (eb : b ≡ spells (decoded_at s q) m) (z : ℕ) (ends : EndsAt 15 s a z) where
  -- the member that is next
  record Next (j : Json) (t : Bytes) : Type 0 where
    todo : Todo s m q a
    here : Here s todo.place todo.spans-left
    begins : skip here.rest-key ≡ drop a s
    ends_at : here.rest-val ≡ drop z s
    is_found : with-some (decode here.key) (same m) false ≡ b

  next : (j : Json) (t : Bytes) → text 16 s ≡ got j t → Next j t
  next j t x =
      let y : Todo s m q a = subst (Seeking s m) is-r seeking j t x in
      let h = span-here s y.place y.spans-left y.after-all y.reads in
      let k = y.told h.key h.rest-key h.is_name in
      record {
        todo = y;
        here = h;
        begins = k.1;
        ends_at = ends h.val h.rest-val (value-from 15 s h.rest-key a k.1 h.val h.rest-val h.is-value);
        is_found = sym (matched h.key m _ k.0) ∙ sym eb;
      }

  pub found_here : b ≡ true → a ≤ z → z ≤ length s → FindsIn s m (record { start = a; end = z })
  unfolding found
  found_here f l h j t x =
      let n = next j t x in
      let y = n.here in
      let c : with-some (decode y.key) (same m) false ≡ true = n.is_found ∙ f in
      let o : length s - length (skip y.rest-key) ≡ a = rw (n.begins, length-drop a s) (omega arith) in
      let p : length (skip y.rest-key) - length y.rest-val ≡ z - a = rw (n.begins, n.ends_at, length-drop a s, length-drop z s) (omega arith) in
      let w : a + (z - a) ≡ z = omega arith in
      sym (ap place_of (n.todo.same-found ∙ ap (found (length s) m) y.is) ∙ rw (c, o, p, w))

  module _ (f : b ≡ false) where
    goes : (j : ℕ) → GoesOn s z 125 j → (p g : ℕ) → TellsHead s j (record { name = p; start = g }) → Seeking s m (At p g)
    unfolding found
    goes i w p g told j t x =
        let n = next j t x in
        let y = n.here in
        let v = span_at y.key y.rest-key y.rest-val in
        let c : with-some (decode y.key) (same m) false ≡ false = n.is_found ∙ f in
        let e : span_of 15 (drop n.todo.place s) ≡ got (more (λ ps. v ∷ ps)) (drop i s) = y.turn ∙ ap (sep 125 (v ∷ []) (λ ps. v ∷ ps)) n.ends_at ∙ sep-go (v ∷ []) (λ ps. v ∷ ps) 125 w in
        let l = under-inv (λ (ps : List Span). v ∷ ps) (loop (span_of 15) (drop i s)) (sym (loop-more (span_of 15) (span-takes 15) (drop n.todo.place s) (drop i s) (λ ps. v ∷ ps) e) ∙ n.todo.reads) in
        record { place = i; spans-left = l.0; after-all = n.todo.after-all; reads = l.1; told = told; same-found = n.todo.same-found ∙ ap (found (length s) m) (sym l.2) ∙ rw c }

    over : (v : Read) → GivesT s z (sep 125 zero suc (drop z s)) (Break v) → FindsIn s m nowhere
    unfolding found
    over v w j t x =
        let n = next j t x in
        let y = n.here in
        let p = span_at y.key y.rest-key y.rest-val in
        let c : with-some (decode y.key) (same m) false ≡ false = n.is_found ∙ f in
        let l = loop-split (span_of 15) (span-takes 15) (drop n.todo.place s) n.todo.spans-left n.todo.after-all n.todo.reads in
        let o = sep-stop (p ∷ []) (λ ps. p ∷ ps) 125 w l.0 l.1 (sym (ap (sep 125 (p ∷ []) (λ ps. p ∷ ps)) n.ends_at) ∙ sym y.turn ∙ l.2) in
        sym (ap place_of (n.todo.same-found ∙ ap (found (length s) m) (sym (got-what (rw o at l.3)))) ∙ rw c)

    pub seeking-on : z ≤ length s → (x : Member) → NextReads s z x → Seeking s m x
    seeking-on l (At p g) (i, w, told) = goes i w p g told
    seeking-on l (End x) h = let v = h l in over v.0 v.1
    seeking-on l NoObject h = absurd h

-- no member is left
pub not_found : (s m : Bytes) (r : Member) → Over r → Seeking s m r → FindsIn s m nowhere
not_found s m (At q a) h seeking = absurd h
not_found s m (End x) h seeking = seeking
not_found s m NoObject h seeking = seeking

-- ---- a text
module _ (s m : Bytes) where
  no-object : NoneOpens s 0 123 → FindsIn s m nowhere
  unfolding spans found on
  no-object n j t x = sym (rw (ne_eqb (first (skip s)) 123 n))

  module _ (j : ℕ) (o : Opens s 0 123 j) where
    opened : spans 15 s ≡ on (is 125) (λ c t. got [] t) (loop (span_of 15)) (drop j s)
    unfolding spans
    opened =
        ap (on (is 123) _ bad) (skip-to o.to-mark) ∙ on-yes (is 123) s o.mark (byte_at s o.mark) refl _ _ (eq-eqb _ _ o.is-mark)
        ∙ ap (on (is 125) _ _) (skip-to o.inside)

    no_member : byte_at s j ≡ 125 → FindsIn s m nowhere
    unfolding found
    no_member p y t x = sym (ap (λ (x : Got (List Span)). place_of (found (length s) m (given x))) (opened ∙ on-yes (is 125) s j (byte_at s j) refl _ _ (eq-eqb _ _ p)))

    some-member : (byte_at s j ≡ 125 → ⊥) → (q a : ℕ) → TellsHead s j (record { name = q; start = a }) → Seeking s m (At q a)
    unfolding text loop
    some-member n q a told y t x =
        let v = bind_inv (value 16 s) (λ j t. when (is 256) (got j) bad (skip t)) x in
        let u = under-inv jobj (loop (pair (value 15)) (drop j s)) (sym (some-object 15 s 0 j o n) ∙ v.2) in
        let p = spanned 15 s (suc (length (drop j s))) (drop j s) u.0 v.1 (take j s, sym (take-append-drop j s)) u.1 in
        let l : spans 15 s ≡ got p.0 v.1 = opened ∙ on-no (is 125) s j (byte_at s j) refl _ _ (ne_eqb _ _ n) ∙ p.1 in
        record { place = j; spans-left = p.0; after-all = v.1; reads = p.1; told = told; same-found = ap (λ (z : Got (List Span)). found (length s) m (given z)) l }

  pub seeking-first : (r : Member) → FirstReads s 0 r → Seeking s m r
  seeking-first (At q a) (j, o, n, told) = some-member j o n q a told
  seeking-first (End x) (j, o, e, p) = no_member j o e
  seeking-first NoObject n = no-object n

-- ---- by the reader's verdict
module _ (s m : Bytes) where
  refused-by : (x : Reading) → (verdict_of x ≡ Ok tt → ⊥) → is_tree x ≡ false
  refused-by (tree j) n = absurd (n refl)
  refused-by (refused k) n = refl

  pub not_sound : (v : Verdict) → v ≡ verdict 16 s → (v ≡ Ok tt → ⊥) → nowhere ≡ place_of (look_up s m)
  unfolding verdict look_up
  not_sound v e n =
      by_bool (leb (length s) room)
      (λ p. sym (rw (p, refused-by (reading 16 s) (λ z. n (e ∙ rw p z)))))
      (λ p. sym (rw p))

  tree-by : (x : Reading) → verdict_of x ≡ Ok tt → is_tree x ≡ true
  tree-by (tree j) e = refl
  tree-by (refused k) e = let r : ◌≡◌ {A = ℕ} 0 1 = cc in absurd (omega arith)

  got-by : (n : ℕ) (x : Got Json) → is_tree (reading_of n x) ≡ true → (j : Json) × (t : Bytes) × (x ≡ got j t)
  got-by n (got j t) e = (j, t, refl)
  got-by n (bad t) e = let r : ◌≡◌ {A = ℕ} 0 1 = cc in absurd (omega arith)

  pub is-sound : (v : Verdict) → v ≡ verdict 16 s → v ≡ Ok tt → (r : Part) → FindsIn s m r → r ≡ place_of (look_up s m)
  unfolding verdict look_up reading
  is-sound v e q r finds =
      by_bool (leb (length s) room)
      (λ p. let k : is_tree (reading_of (length s) (text 16 s)) ≡ true = tree-by (reading_of (length s) (text 16 s)) (sym (rw p at e) ∙ q) in
      let g = got-by (length s) (text 16 s) k in
      finds g.0 g.1 g.2 ∙ sym (rw (p, k)))
      (λ p. let z : ◌≡◌ {A = Verdict} (Err Large) (Ok tt) = sym (rw p at e) ∙ q in let r : ◌≡◌ {A = ℕ} 0 1 = cc in absurd (omega arith))

pub no-fault : {v : Verdict} {f : Fault} → v ≡ Err f → v ≡ Ok tt → ⊥
no-fault p q = let r : ◌≡◌ {A = ℕ} 0 1 = cc in omega arith
