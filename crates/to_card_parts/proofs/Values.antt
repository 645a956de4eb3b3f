-- Values with a mark between them, one more at a time; and one value written.
use mathlib.Core.Path.{◌≡◌, refl, sym, ap, subst, ◌∙◌}
use mathlib.Core.Bool.{Bool, true, false, ◌&&◌, ◌||◌, not}
use mathlib.Core.List.{List, [], ◌∷◌, ◌++◌, map, append-nil, append_assoc}
use mathlib.Core.Option.{some}
use Prim.Native.Nat.{ℕ, ◌+◌, ◌-◌}
use borrow.Rule.Slice.PartMut.{mid_of, put_mid}
use lib.ListN.{length}
use Rattle.text.specs.Choice.{pick}
use Rattle.text.specs.Bytes.{Bytes, all, empty, flat}
use Rattle.text.proofs.Lists.{map_both, flat_append}
use Rattle.json_strings.specs.Decoded.{decoded_at}
use Rattle.line_pen.specs.declared.Pen.{Pen}
use Rattle.line_pen.specs.Pen.{Pens}
use Rattle.line_pen.proofs.Laws.{pens-none, pens-then}
use Rattle.to_card_pen.specs.declared.Told.{Told}
use Rattle.to_card_pen.specs.Styles.{written_in, all_stand_in, Writes}
use Rattle.convert.specs.Value.{filled}
use Rattle.convert.specs.FromJson.{Component, of_kind}
use Rattle.to_card_head.specs.Head.{TellsFilled}
use Rattle.to_card_parts.specs.declared.Inked.{Inked}
use Rattle.to_card_parts.specs.Parts.{values_of, list_from, Says, value_if, InksOne}

-- ---- values of a kind

pub values-none : (i : ℕ) → values_of i [] ≡ []
unfolding values_of flat
values-none i = refl

pub values-more : (i : ℕ) (cs : List Component) (c : Component) → values_of i (cs ++ (c ∷ [])) ≡ values_of i cs ++ of_kind i c
unfolding values_of flat
values-more i cs c = ap flat (map_both (of_kind i) cs (c ∷ [])) ∙ flat_append (map (of_kind i) cs) (of_kind i c ∷ []) ∙ ap (λ (x : List Bytes). flat (map (of_kind i) cs) ++ x) (append-nil (of_kind i c))

-- ---- lists with a mark

pub or-false : (b : Bool) → b || false ≡ b
or-false true = refl
or-false false = refl

or-true : (b : Bool) → b || true ≡ true
or-true true = refl
or-true false = refl

pub list-append : (mark : ℕ) (b : Bool) (xs ys : List Bytes) → list_from mark b (xs ++ ys) ≡ list_from mark b xs ++ list_from mark (b || not (empty xs)) ys
unfolding list_from
list-append mark b [] ys = ap (λ (c : Bool). list_from mark c ys) (sym (or-false b))
list-append mark b (x ∷ xs) ys =
    ap (λ (t : Bytes). pick b (mark ∷ x) x ++ t) (list-append mark true xs ys) ∙ sym (append_assoc (pick b (mark ∷ x) x) (list_from mark true xs) (list_from mark true ys))
    ∙ ap (λ (c : Bool). (pick b (mark ∷ x) x ++ list_from mark true xs) ++ list_from mark c ys) (sym (or-true b))

pub empty-map : (f : Bytes → Bytes) (xs : List Bytes) → empty (map f xs) ≡ empty xs
empty-map f [] = refl
empty-map f (x ∷ xs) = refl

or-empty : (b : Bool) (xs ys : List Bytes) → ((b || not (empty xs)) || not (empty ys)) ≡ b || not (empty (xs ++ ys))
or-empty true xs ys = refl
or-empty false [] ys = refl
or-empty false (x ∷ xs) ys = refl

pub all_append : (p : Bytes → Bool) (xs ys : List Bytes) → all p (xs ++ ys) ≡ all p xs && all p ys
unfolding all
all_append p [] ys = refl
all_append p (x ∷ xs) ys = ap (λ (b : Bool). p x && b) (all_append p xs ys) ∙ go (p x) (all p xs) (all p ys)
  where
    go : (a b c : Bool) → (a && (b && c)) ≡ ((a && b) && c)
    go true b c = refl
    go false b c = refl

pub says_none : (style mark : ℕ) (begun : Bool) → Says style mark begun [] [] begun true
unfolding list_from all
says_none style mark begun = record { is-text = refl; is-begun = sym (or-false begun); is_carried = refl }

pub says_then : (style mark : ℕ) (begun : Bool) (vs ws : List Bytes) {t u : Bytes} {b b' c c' : Bool} → Says style mark begun vs t b c → Says style mark b ws u b' c'
    → Says style mark begun (vs ++ ws) (t ++ u) b' (c && c')
says_then style mark begun vs ws {t} {u} {b} {b'} {c} {c'} p q = record {
  is-text =
      ap (λ (x : Bytes). x ++ u) p.is-text
      ∙ ap (λ (x : Bytes). list_from mark begun (map (written_in style) vs) ++ x)
      (q.is-text ∙ ap (λ (x : Bool). list_from mark x (map (written_in style) ws)) (p.is-begun ∙ ap (λ (x : Bool). begun || not x) (sym (empty-map (written_in style) vs))))
      ∙ sym (list-append mark begun (map (written_in style) vs) (map (written_in style) ws)) ∙ ap (list_from mark begun) (sym (map_both (written_in style) vs ws));
  is-begun = q.is-begun ∙ ap (λ (x : Bool). x || not (empty ws)) p.is-begun ∙ or-empty begun vs ws;
  is_carried = ap (λ (x : Bool). x && c') p.is_carried ∙ ap (λ (x : Bool). all (all_stand_in style) vs && x) q.is_carried ∙ sym (all_append (all_stand_in style) vs ws);
}

pub says-as : {style mark : ℕ} {begun : Bool} {vs ws : List Bytes} {t : Bytes} {b c : Bool} → vs ≡ ws → Says style mark begun vs t b c → Says style mark begun ws t b c
says-as {style} {mark} {begun} {vs} {ws} {t} {b} {c} e p = subst (λ (l : List Bytes). Says style mark begun l t b c) e p

-- ---- one value

and-false : (a : Bool) → a && false ≡ false
and-false true = refl
and-false false = refl

and-end : (b : Bool) → b ≡ (b && true)
and-end true = refl
and-end false = refl

nothing : (style mark : ℕ) (begun : Bool) (vs : List Bytes) → vs ≡ [] → Says style mark begun vs [] begun true
nothing style mark begun vs e = says-as (sym e) (says_none style mark begun)

one_value : (style mark : ℕ) (begun : Bool) (x t : Bytes) (c : Bool) → t ≡ pick begun (mark ∷ written_in style x) (written_in style x) → c ≡ all_stand_in style x → Says style mark begun (x ∷ []) t true c
unfolding list_from all
one_value style mark begun x t c e q = record { is-text = e ∙ sym (append-nil (pick begun (mark ∷ written_in style x) (written_in style x))); is-begun = sym (or-true begun); is_carried = q ∙ and-end (all_stand_in style x) }

module _ (s : Bytes) (at style mark : ℕ) (wanted begun : Bool) (room : Bytes) (column : ℕ) where
  pub one-unwanted : wanted ≡ false → InksOne s at style mark wanted begun room column (record { bytes = 0; column = column; begun = begun; carried = true }) room
  one-unwanted e = record { text = []; pens = pens-none room column; says = λ x w. nothing style mark begun (value_if wanted x) (ap (λ (b : Bool). value_if b x) e) }

  pub one_wanted : wanted ≡ true → {r : Inked} {after : Bytes} → InksOne s at style mark true begun room column r after → InksOne s at style mark wanted begun room column r after
  one_wanted e {r} {after} h = subst (λ (w : Bool). InksOne s at style mark w begun room column r after) (sym e) h

  module _ (b : Bool) (told : TellsFilled s at b) where
    pub one-empty : b ≡ false → InksOne s at style mark wanted begun room column (record { bytes = 0; column = column; begun = begun; carried = true }) room
    one-empty e = record {
      text = [];
      pens = pens-none room column;
      says = λ x w. nothing style mark begun (value_if wanted x) (ap (λ (f : Bool). pick (wanted && f) (x ∷ []) []) (sym (told x w) ∙ e) ∙ ap (λ (f : Bool). pick f (x ∷ []) []) (and-false wanted));
    }

    module _ (is-wanted : wanted ≡ true) (is-filled : b ≡ true) where
      value-is : (x : Bytes) → decoded_at s at ≡ some x → x ∷ [] ≡ value_if wanted x
      value-is x w = sym (ap (λ (f : Bool). pick (f && filled x) (x ∷ []) []) is-wanted ∙ ap (λ (f : Bool). pick f (x ∷ []) []) (sym (told x w) ∙ is-filled))

      pub one-first : begun ≡ false → (t : Told) (after : Bytes) → Writes s at style room column t after
          → InksOne s at style mark wanted begun room column (record { bytes = t.bytes; column = t.column; begun = true; carried = t.carried }) after
      one-first e t after w = record {
        text = written_in style w.text;
        pens = w.pens;
        says = λ x q. says-as (value-is x q) (one_value style mark begun x (written_in style w.text) t.carried
            (ap (written_in style) (w.is x q) ∙ sym (ap (λ (f : Bool). pick f (mark ∷ written_in style x) (written_in style x)) e)) (w.carried ∙ ap (all_stand_in style) (w.is x q)));
      }

      pub one_later : begun ≡ true → (p : Pen) (out : Bytes) → Pens room column (mark ∷ []) p out → (t : Told) (last : Bytes) → Writes s at style (mid_of p.bytes (length out - p.bytes) out) p.column t last
          → InksOne s at style mark wanted begun room column (record { bytes = p.bytes + t.bytes; column = t.column; begun = true; carried = t.carried }) (put_mid p.bytes (length out - p.bytes) out last)
      one_later e p out g t last w = record {
        text = mark ∷ written_in style w.text;
        pens = pens-then g w.pens;
        says = λ x q. says-as (value-is x q) (one_value style mark begun x (mark ∷ written_in style w.text) t.carried
            (ap (λ (y : Bytes). mark ∷ written_in style y) (w.is x q) ∙ sym (ap (λ (f : Bool). pick f (mark ∷ written_in style x) (written_in style x)) e)) (w.carried ∙ ap (all_stand_in style) (w.is x q)));
      }
