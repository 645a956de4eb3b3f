-- Whole values: organizations, and any form.
use mathlib.Core.Path.{◌≡◌, refl, sym, ap, subst, ◌∙◌}
use Rattle.to_card_value.specs.declared.Inked.{Inked}
use Rattle.to_card_value.specs.declared.Put.{Put}
use Rattle.to_card_pen.proofs.Refusal.{ok-is, not_ok}
use Rattle.std.specs.Prelude.{Err}
use Rattle.to_card_pen.specs.Refusal.{no_card}
use mathlib.Core.Bool.{Bool, true, false, ◌&&◌, ◌||◌, not}
use mathlib.Core.List.{List, [], ◌∷◌, ◌++◌, map, append_assoc, append-nil}
use mathlib.Core.Option
use mathlib.Core.Option.{Option, none, some}
use Prim.Native.Nat.{ℕ, ◌+◌, ◌-◌, ◌≤◌}
use native.Mathlib.Omega.{arith}
use borrow.Rule.Slice.PartMut.{mid_of, put_mid}
use lib.Dec.{eqb}
use lib.ListN.{length, take, drop, length-append, length-take, length-drop}
use borrow.Author.Tests.{eq-eqb, ne_eqb, eqb-true}
use Rattle.text.specs.Choice.{pick, with-some, chain, provided}
use Rattle.text.specs.Bytes.{Bytes, ascii, is, any, all, begins, flat, joined, keep}
use Rattle.text.proofs.Cases.{by_bool, not-true, not-false, and_left, and_right, or_left, or_right}
use Rattle.json_text.specs.Tree.{Json, as_string}
use Rattle.json_strings.specs.Decoded.{decoded_at}
use Rattle.line.specs.Class.{is_control}
use Rattle.line.specs.Text.{write_text}
use Rattle.line_pen.specs.declared.Pen.{Pen}
use Rattle.line_pen.specs.Pen.{Pens}
use Rattle.line_pen.proofs.Laws.{pens-as, pens-then, filled as Fills-of}
use Rattle.to_card_pen.specs.declared.Told.{Told}
use Rattle.to_card_pen.specs.Styles.{written_in, all_stand_in}
use Rattle.to_card_pen.proofs.Styles.{written-raw, written-text, written-parts, stands-raw, stands-text}
use Rattle.convert.specs.Value.{filled, is_tel_uri}
use Rattle.convert.specs.Carry.{carried_raw, carried_text}
use Rattle.to_card_params.proofs.Walk.{slot-none, slot-some}
use Rattle.to_card_value.specs.Values.{StringIs, TellsString, TellsText, blank_of, tel_of, Inks, unit_piece, unit_carried, InkIn, units_piece, UnitsAs, units_in, TellsUnits, name_in, NameAs, TellsName, org_in, texts_in, value_in, carried_in, ValueAs, TellsOrg, TellsValue, Ink, inked, Written, written}
use Rattle.to_card_value.proofs.Pieces.{stands_parts}

-- ---- answers

done-bytes : {n k m l : ℕ} {c f d g : Bool} → inked n k c f ≡ inked m l d g → n ≡ m
done-bytes e = ap (λ (t : Inked). t.bytes) (ok-is e)

done-column : {n k m l : ℕ} {c f d g : Bool} → inked n k c f ≡ inked m l d g → k ≡ l
done-column e = ap (λ (t : Inked). t.column) (ok-is e)

done-carried : {n k m l : ℕ} {c f d g : Bool} → inked n k c f ≡ inked m l d g → c ≡ d
done-carried e = ap (λ (t : Inked). t.carried) (ok-is e)

done-filled : {n k m l : ℕ} {c f d g : Bool} → inked n k c f ≡ inked m l d g → f ≡ g
done-filled e = ap (λ (t : Inked). t.filled) (ok-is e)

pub line-bytes : {a b : ℕ} {c d : Bool} → written a c ≡ written b d → a ≡ b
line-bytes e = ap (λ (p : Put). p.bytes) (ok-is e)

pub line-carried : {a b : ℕ} {c d : Bool} → written a c ≡ written b d → c ≡ d
line-carried e = ap (λ (p : Put). p.carries) (ok-is e)

done-is : {n k : ℕ} {a b c d : Bool} → a ≡ b → c ≡ d → inked n k a c ≡ inked n k b d
done-is {n} {k} {a} {b} {c} {d} e f = ap (λ (x : Bool). inked n k x c) e ∙ ap (inked n k b) f

pub ink-in : {room n k : ℕ} {c f : Bool} {r : Ink} → InkIn room r → r ≡ inked n k c f → n ≤ room
ink-in {room} {n} {k} {c} {f} {r} h e = subst (InkIn room) e h

-- ---- bounds of a part that is lent, whatever was written

pub part_length : (n : ℕ) (out last : Bytes) → n ≤ length out → length last ≡ length (mid_of n (length out - n) out) → length (put_mid n (length out - n) out last) ≡ length out
part_length n out last h e =
    let m : length (take (length out - n) (drop n out)) ≡ length out - n = simp (length-take, length-drop) (omega arith) in
    simp (length-append, length-take, length-drop) (omega arith)

pub part_in : (n : ℕ) (out : Bytes) {k : ℕ} → n ≤ length out → k ≤ length (mid_of n (length out - n) out) → n + k ≤ length out
part_in n out {k} h e =
    let m : length (take (length out - n) (drop n out)) ≡ length out - n = simp (length-take, length-drop) (omega arith) in
    omega arith

-- ---- the name of an organization

no_text : write_text true [] ≡ []
unfolding write_text
no_text = refl

no-carried : carried_text [] ≡ true
unfolding carried_text any
no-carried = refl

name-as : (room : Bytes) (column : ℕ) (r : Ink) (after : Bytes) {o p : Option Bytes} → o ≡ p → NameAs room column r after p → NameAs room column r after o
name-as room column r after e x = subst (NameAs room column r after) (sym e) x

module _ (s : Bytes) (slot : ℕ) (room : Bytes) (column : ℕ) (after : Bytes) where
  pub name-absent : {p : Pen} → slot ≡ 0 → Pens room column (ascii ":") p after → TellsName s slot room column (inked p.bytes p.column true false) after
  unfolding name_in
  name-absent {p} e q o h = name-as room column (inked p.bytes p.column true false) after (ap (λ (x : Option Json). with-some x as_string (some [])) (slot-none h e))
      (p.bytes, p.column, done-is (sym no-carried) refl, pens-as (ap (λ (x : Bytes). ascii ":" ++ x) (sym no_text)) q)

  module _ (n : slot ≡ 0 → ⊥) (q : ℕ) (t : TellsString s slot q) where
    by_value : (r : Ink) → ((x : Option Bytes) → StringIs s q x → NameAs room column r after x) → TellsName s slot room column r after
    unfolding name_in
    by_value r g o h = let v = slot-some h n in name-as room column r after (ap (λ (x : Option Json). with-some x as_string (some [])) v.1) (g (as_string v.0) (t 13 v.0 v.2))

    pub name-wrong : q ≡ 0 → TellsName s slot room column (Err no_card) after
    name-wrong e = by_value (Err no_card) by
      where
        by : (x : Option Bytes) → StringIs s q x → NameAs room column (Err no_card) after x
        by none h = refl
        by (some x) h = absurd (omega (arith, h.0))

    pub name-there : {p : Told} {b : Bool} → (q ≡ 0 → ⊥) → Inks s q (ascii ":") 2 room column p after → b ≡ blank_of (decoded_at s q) → TellsName s slot room column (inked p.bytes p.column p.carried (not b)) after
    name-there {p} {b} m i e = by_value (inked p.bytes p.column p.carried (not b)) by
      where
        by : (x : Option Bytes) → StringIs s q x → NameAs room column (inked p.bytes p.column p.carried (not b)) after x
        by none h = absurd (m h)
        by (some x) h = (
          p.bytes,
          p.column,
          done-is (i.carried ∙ stands_parts i.text ∙ ap carried_text (i.is x h.1)) (ap not (e ∙ ap blank_of h.1)),
          pens-as (ap (λ (y : Bytes). ascii ":" ++ y) (ap (written_in 2) (i.is x h.1) ∙ written-parts x)) i.pens,
        )

-- ---- name and units

org-is : (c u : Option Json) → org_in c u ≡ (chain (name_in c) λ n. chain (units_in u) λ us. provided (any filled (n ∷ us)) (some (n ∷ keep filled us)))
unfolding org_in name_in units_in any
org-is none none = refl
org-is none (some u) = refl
org-is (some c) u = refl

joined-flat : (d x : Bytes) (xs : List Bytes) → joined d (x ∷ xs) ≡ x ++ flat (map (λ y. d ++ y) xs)
unfolding joined flat
joined-flat d x [] = sym (append-nil x)
joined-flat d x (y ∷ ys) = ap (λ (l : Bytes). x ++ (d ++ l)) (joined-flat d y ys) ∙ ap (λ (l : Bytes). x ++ l) (sym (append_assoc d y (flat (map (λ y. d ++ y) ys))))

units-joined : (us : List Bytes) → flat (map (λ y. ascii ";" ++ y) (map (write_text true) (keep filled us))) ≡ units_piece us
unfolding units_piece flat keep unit_piece
units-joined [] = refl
units-joined (u ∷ us) = by_bool (filled u) (λ e. rw (e, units-joined us)) (λ e. rw (e, units-joined us))

units-carried : (us : List Bytes) → all carried_text (keep filled us) ≡ all unit_carried us
unfolding all keep unit_carried
units-carried [] = refl
units-carried (u ∷ us) = by_bool (filled u) (λ e. rw (e, units-carried us)) (λ e. rw (e, units-carried us))

org-value : (n : Bytes) (us : List Bytes) → (ascii ":" ++ write_text true n) ++ units_piece us ≡ value_in 4 (n ∷ keep filled us)
unfolding value_in
org-value n us = ap (λ (l : Bytes). ascii ":" ++ l) (ap (λ (l : Bytes). write_text true n ++ l) (sym (units-joined us)) ∙ sym (joined-flat (ascii ";") (write_text true n) (map (write_text true) (keep filled us))))

org-carried : (n : Bytes) (us : List Bytes) → (carried_text n && all unit_carried us) ≡ carried_in 4 (n ∷ keep filled us)
unfolding carried_in all
org-carried n us = ap (λ (b : Bool). carried_text n && b) (sym (units-carried us))

value_as : (form : ℕ) (room : Bytes) (column : ℕ) (r : Written) (after : Bytes) {o p : Option (List Bytes)} → o ≡ p → ValueAs form room column r after p → ValueAs form room column r after o
value_as form room column r after e x = subst (ValueAs form room column r after) (sym e) x

module _ (s : Bytes) (name units : ℕ) (room : Bytes) (column : ℕ) (out : Bytes) (x : Ink) (named : TellsName s name room column x out) where
  pub org-no-name : (after : Bytes) → x ≡ Err no_card → TellsOrg s name units room column (Err no_card) after
  org-no-name after e c u h g = value_as 4 room column (Err no_card) after (org-is c u) (by (name_in c) (named c h))
    where
      by : (o : Option Bytes) → NameAs room column x out o → ValueAs 4 room column (Err no_card) after (chain o λ n. chain (units_in u) λ us. provided (any filled (n ∷ us)) (some (n ∷ keep filled us)))
      by none p = refl
      by (some n) p = absurd (not_ok (sym e ∙ p.2))

  module _ (n k : ℕ) (ok f : Bool) (e : x ≡ inked n k ok f) (last : Bytes) (y : Ink) (told : TellsUnits s units (mid_of n (length out - n) out) k y last) where
    name_done : (o : Option Bytes) → NameAs room column x out o → (v : Bytes) × (o ≡ some v) × (ok ≡ carried_text v) × (f ≡ filled v) × Pens room column (ascii ":" ++ write_text true v) (record { bytes = n; column = k }) out
    name_done none p = absurd (not_ok (sym p ∙ e))
    name_done (some v) p =
        let z = sym e ∙ p.2 in (
          v,
          refl,
          done-carried z,
          done-filled z,
          subst (λ (a : ℕ). Pens room column (ascii ":" ++ write_text true v) (record { bytes = a; column = k }) out) (sym (done-bytes z))
              (subst (λ (a : ℕ). Pens room column (ascii ":" ++ write_text true v) (record { bytes = p.0; column = a }) out) (sym (done-column z)) p.3),
        )

    pub org-no-units : (after : Bytes) → y ≡ Err no_card → TellsOrg s name units room column (Err no_card) after
    org-no-units after q c u h g =
        let v = name_done (name_in c) (named c h) in
        value_as 4 room column (Err no_card) after (org-is c u ∙ ap (λ (o : Option Bytes). chain o λ n. chain (units_in u) λ us. provided (any filled (n ∷ us)) (some (n ∷ keep filled us))) v.1) (by v.0 (units_in u) (told u g))
      where
        by : (v : Bytes) (o : Option (List Bytes)) → UnitsAs (mid_of n (length out - n) out) k y last o → ValueAs 4 room column (Err no_card) after (chain o λ us. provided (any filled (v ∷ us)) (some (v ∷ keep filled us)))
        by v none p = refl
        by v (some us) p = absurd (not_ok (sym q ∙ p.2))

    module _ (m l : ℕ) (every any' : Bool) (q : y ≡ inked m l every any') where
      units-done : (o : Option (List Bytes)) → UnitsAs (mid_of n (length out - n) out) k y last o
          → (us : List Bytes) × (o ≡ some us) × (every ≡ all unit_carried us) × (any' ≡ any filled us) × Pens (mid_of n (length out - n) out) k (units_piece us) (record { bytes = m; column = l }) last
      units-done none p = absurd (not_ok (sym p ∙ q))
      units-done (some us) p =
          let z = sym q ∙ p.2 in (
            us,
            refl,
            done-carried z,
            done-filled z,
            subst (λ (a : ℕ). Pens (mid_of n (length out - n) out) k (units_piece us) (record { bytes = a; column = l }) last) (sym (done-bytes z))
                (subst (λ (a : ℕ). Pens (mid_of n (length out - n) out) k (units_piece us) (record { bytes = p.0; column = a }) last) (sym (done-column z)) p.3),
          )

      org-both : (c u : Option Json) (v : Bytes) (us : List Bytes) → name_in c ≡ some v → units_in u ≡ some us → f ≡ filled v → any' ≡ any filled us → org_in c u ≡ provided (f || any') (some (v ∷ keep filled us))
      unfolding any
      org-both c u v us a b i j =
          org-is c u ∙ ap (λ (o : Option Bytes). chain o λ n. chain (units_in u) λ us. provided (any filled (n ∷ us)) (some (n ∷ keep filled us))) a
          ∙ ap (λ (o : Option (List Bytes)). chain o λ us. provided (any filled (v ∷ us)) (some (v ∷ keep filled us))) b
          ∙ ap (λ (t : Bool). provided (t || any filled us) (some (v ∷ keep filled us))) (sym i) ∙ ap (λ (t : Bool). provided (f || t) (some (v ∷ keep filled us))) (sym j)

      pub org-nothing : (after : Bytes) → not (f || any') ≡ true → TellsOrg s name units room column (Err no_card) after
      org-nothing after t c u h g =
          let v = name_done (name_in c) (named c h) in
          let w = units-done (units_in u) (told u g) in
          value_as 4 room column (Err no_card) after (org-both c u v.0 w.0 v.1 w.1 v.3 w.3 ∙ ap (λ (b : Bool). provided b (some (v.0 ∷ keep filled w.0))) (not-true (f || any') t)) refl

      pub org-line : not (f || any') ≡ false → TellsOrg s name units room column (written (n + m) (ok && every)) (put_mid n (length out - n) out last)
      org-line t c u h g =
          let v = name_done (name_in c) (named c h) in
          let w = units-done (units_in u) (told u g) in
          value_as 4 room column (written (n + m) (ok && every)) (put_mid n (length out - n) out last)
          (org-both c u v.0 w.0 v.1 w.1 v.3 w.3 ∙ ap (λ (b : Bool). provided b (some (v.0 ∷ keep filled w.0))) (not-false (f || any') t)) (
            n + m,
            ap (written (n + m)) (ap (λ (b : Bool). b && every) v.2 ∙ ap (λ (b : Bool). carried_text v.0 && b) w.2 ∙ org-carried v.0 w.0),
            Fills-of (pens-as (org-value v.0 w.0) (pens-then v.4 w.4)),
          )

-- ---- any form

and-end : (b : Bool) → b ≡ (b && true)
and-end true = refl
and-end false = refl

one-raw : (x : Bytes) → carried_raw x ≡ all carried_raw (x ∷ [])
unfolding all
one-raw x = and-end (carried_raw x)

one-text : (x : Bytes) → carried_text x ≡ all carried_text (x ∷ [])
unfolding all
one-text x = and-end (carried_text x)

tel-raw : (x : Bytes) → is_tel_uri x ≡ true → carried_raw x ≡ true
unfolding is_tel_uri carried_raw
tel-raw x e = and_right (begins (ascii "tel:") x) (not (any is_control x)) e

control-less : (x : Bytes) → any is_control x ≡ false → any (λ c. is_control c && not (is 10 c)) x ≡ false
unfolding any
control-less [] e = refl
control-less (c ∷ x) e = rw (or_left (is_control c) (any is_control x) e) (control-less x (or_right (is_control c) (any is_control x) e))

raw-text : (x : Bytes) → carried_raw x ≡ true → carried_text x ≡ true
unfolding carried_raw carried_text
raw-text x e = ap not (control-less x (not-true (any is_control x) e))

-- how one string stands in a line, by the form
module _ (form : ℕ) (n : form ≡ 4 → ⊥) (x : Bytes) where
  tel-value : (eqb form 3 && is_tel_uri x) ≡ true → ascii ";VALUE=uri:" ++ written_in 0 x ≡ value_in form (x ∷ [])
  unfolding value_in
  tel-value e = rw (ne_eqb form 4 n, e, written-raw x)

  tel-carried : (eqb form 3 && is_tel_uri x) ≡ true → all_stand_in 0 x ≡ carried_in form (x ∷ [])
  unfolding carried_in
  tel-carried e =
      let f : form ≡ 3 = eqb-true form 3 (and_left _ (is_tel_uri x) e) in
      let r : carried_raw x ≡ true = tel-raw x (and_right (eqb form 3) _ e) in
      let o : (form ≡ 2 → ⊥) = λ z. omega arith in
      stands-raw x ∙ r ∙ rw (ne_eqb form 2 o) (sym (raw-text x r) ∙ one-text x)

  raw-value : (eqb form 3 && is_tel_uri x) ≡ false → form ≡ 2 → ascii ":" ++ written_in 0 x ≡ value_in form (x ∷ [])
  unfolding value_in
  raw-value e f = rw (ne_eqb form 4 n, e, eq-eqb form 2 f, written-raw x)

  raw_carried : form ≡ 2 → all_stand_in 0 x ≡ carried_in form (x ∷ [])
  unfolding carried_in
  raw_carried f = rw (eq-eqb form 2 f) (stands-raw x ∙ one-raw x)

  text-value : (eqb form 3 && is_tel_uri x) ≡ false → (form ≡ 2 → ⊥) → ascii ":" ++ written_in 1 x ≡ value_in form (x ∷ [])
  unfolding value_in
  text-value e f = rw (ne_eqb form 4 n, e, ne_eqb form 2 f, written-text x)

  text-carried : (form ≡ 2 → ⊥) → all_stand_in 1 x ≡ carried_in form (x ∷ [])
  unfolding carried_in
  text-carried f = rw (ne_eqb form 2 f) (stands-text x ∙ one-text x)

module _ (s : Bytes) (content units form : ℕ) (room : Bytes) (column : ℕ) (after : Bytes) where
  pub value-org : (r : Written) → form ≡ 4 → TellsOrg s content units room column r after → TellsValue s content units form room column r after
  unfolding texts_in
  value-org r e g c u h k = subst (λ (f : ℕ). ValueAs f room column r after (texts_in f c u)) (sym e) (g c u h k)

  module _ (n : form ≡ 4 → ⊥) (q : ℕ) (t : TellsText s content q) where
    by-text : (r : Written) → ((x : Option Bytes) → StringIs s q x → ValueAs form room column r after (Option.map (λ v. v ∷ []) x)) → TellsValue s content units form room column r after
    unfolding texts_in
    by-text r g c u h k = value_as form room column r after (ap (λ (b : Bool). pick b (org_in c u) (Option.map (λ v. v ∷ []) (chain c as_string))) (ne_eqb form 4 n)) (g (chain c as_string) (t 13 c h))

    pub value_none : q ≡ 0 → TellsValue s content units form room column (Err no_card) after
    value_none e = by-text (Err no_card) by
      where
        by : (x : Option Bytes) → StringIs s q x → ValueAs form room column (Err no_card) after (Option.map (λ v. v ∷ []) x)
        by none h = refl
        by (some x) h = absurd (omega (arith, h.0))

    module _ (m : q ≡ 0 → ⊥) (tel : Bool) (is-tel : tel ≡ (eqb form 3 && tel_of (decoded_at s q))) (p : Told) where
      some-value : (x : Bytes) (lead : Bytes) (style : ℕ) → decoded_at s q ≡ some x → Inks s q lead style room column p after → lead ++ written_in style x ≡ value_in form (x ∷ []) → all_stand_in style x ≡ carried_in form (x ∷ [])
          → ValueAs form room column (written p.bytes p.carried) after (some (x ∷ []))
      some-value x lead style e i a b =
          (p.bytes, ap (written p.bytes) (i.carried ∙ ap (all_stand_in style) (i.is x e) ∙ b), Fills-of (pens-as (ap (λ (y : Bytes). lead ++ written_in style y) (i.is x e) ∙ a) i.pens))

      tel-of : (x : Bytes) → decoded_at s q ≡ some x → (eqb form 3 && is_tel_uri x) ≡ tel
      tel-of x e = sym (is-tel ∙ ap (λ (o : Option Bytes). eqb form 3 && tel_of o) e)

      pub value-tel : tel ≡ true → Inks s q (ascii ";VALUE=uri:") 0 room column p after → TellsValue s content units form room column (written p.bytes p.carried) after
      value-tel e i = by-text (written p.bytes p.carried) by
        where
          by : (x : Option Bytes) → StringIs s q x → ValueAs form room column (written p.bytes p.carried) after (Option.map (λ v. v ∷ []) x)
          by none h = absurd (m h)
          by (some x) h = some-value x (ascii ";VALUE=uri:") 0 h.1 i (tel-value form n x (tel-of x h.1 ∙ e)) (tel-carried form n x (tel-of x h.1 ∙ e))

      pub value-raw : tel ≡ false → form ≡ 2 → Inks s q (ascii ":") 0 room column p after → TellsValue s content units form room column (written p.bytes p.carried) after
      value-raw e f i = by-text (written p.bytes p.carried) by
        where
          by : (x : Option Bytes) → StringIs s q x → ValueAs form room column (written p.bytes p.carried) after (Option.map (λ v. v ∷ []) x)
          by none h = absurd (m h)
          by (some x) h = some-value x (ascii ":") 0 h.1 i (raw-value form n x (tel-of x h.1 ∙ e) f) (raw_carried form n x f)

      pub value-text : tel ≡ false → (form ≡ 2 → ⊥) → Inks s q (ascii ":") 1 room column p after → TellsValue s content units form room column (written p.bytes p.carried) after
      value-text e f i = by-text (written p.bytes p.carried) by
        where
          by : (x : Option Bytes) → StringIs s q x → ValueAs form room column (written p.bytes p.carried) after (Option.map (λ v. v ∷ []) x)
          by none h = absurd (m h)
          by (some x) h = some-value x (ascii ":") 1 h.1 i (text-value form n x (tel-of x h.1 ∙ e) f) (text-carried form n x f)
