-- The type of a line as its parameter VALUE.
use mathlib.Core.Path.{◌≡◌, refl, sym, ap, subst, ◌∙◌}
use mathlib.Core.Bool.{Bool, true, false, ◌&&◌}
use mathlib.Core.List.{List, [], ◌∷◌, ◌++◌, append-nil}
use mathlib.Core.Option.{Option, none, some, map}
use Prim.Native.Nat.{ℕ, ◌+◌, ◌-◌, ◌≤◌, ◌<◌}
use native.Mathlib.Omega.{arith}
use borrow.Author.Tests.{le-leb, lt-leb}
use lib.Dec.{leb}
use lib.ListN.{length, take, drop, length-append}
use Rattle.text.specs.Choice.{pick, chain, provided}
use Rattle.text.specs.Bytes.{Bytes, ascii, flat}
use Rattle.json_text.specs.Tree.{Json, as_string}
use Rattle.json_strings.specs.Decoded.{decoded_at, spells}
use Rattle.json_index.specs.Index.{json_at}
use Rattle.to_card_value.specs.Values.{StringIs, TellsString}
use Rattle.line.specs.Grammar.{Param, param}
use Rattle.convert.specs.FromJson.{is_lower_word}
use Rattle.to_card_kept_entry.specs.strings.Strings.{size, Grew, Table, capped, Added, AddAs, RowsIn, AddsValue}
use Rattle.to_card_kept_entry.proofs.strings.Putting.{grew, string-size}
use Rattle.to_card_kept_entry.proofs.strings.Values.{not_more, more-end, grew_then}
use Rattle.to_card_kept_entry.specs.table.Kept.{ParamAs}
use Rattle.to_card_kept_entry.proofs.table.Params.{part-is, param-table}
use Rattle.to_card_kept_entry.proofs.table.Members.{grew-stays}
use Rattle.to_card_kept_entry.specs.entry.Entry.{typed_as, PutsTyped, is_unknown, type_param, type_fits, TypeAs, PutsType}
use Rattle.to_card_kept_entry.proofs.entry.Words.{string-there}
use Rattle.std.specs.Prelude.{None}
use Rattle.to_card_kept_entry.specs.strings.Strings.{RowsTo, more}

abbrev word : Bytes
word = ascii "value"

flat-one : (x : Bytes) → flat (x ∷ []) ≡ x
unfolding flat
flat-one x = append-nil x

module _ (b : Bytes) (n : ℕ) (t : List ℕ) (m : ℕ) (s : Bytes) (at : ℕ) (h : n ≤ length b) (c : Bytes) (a : ℕ) (g : Grew b n c a word) (r : RowsTo) (d : Bytes) (u : List ℕ) (adds : AddsValue c a t m n a s at r d u) where
  value_as : (e : ℕ) (v : Json) → json_at e s at ≡ some v → n + (5 + size v) ≤ length b → AddAs c a t m n a r d u (capped m (map (λ y. y ∷ []) (as_string v)))
  value_as e v w l = adds e v w (omega (arith, g.to, g.long, l))

  pub typed_wrong : r ≡ None → PutsTyped b n t m s at None d u
  typed_wrong z e v w l = by (as_string v) (value_as e v w l)
    where
      by : (o : Option Bytes) → AddAs c a t m n a r d u (capped m (map (λ y. y ∷ []) o)) → ParamAs b n t m None d u word (chain o (typed_as m))
      by none p = refl
      by (some x) p = fit (leb (m + 1) 64) p
        where
          fit : (q : Bool) → AddAs c a t m n a r d u (provided q (some (x ∷ []))) → ParamAs b n t m None d u word (provided q (provided (is_lower_word x) (some (x ∷ []))))
          fit true p = absurd (not_more (sym z ∙ p.said))
          fit false p = refl

  module _ (i k : ℕ) (z : r ≡ more i k) where
    got : (x : Bytes) → Added c a t m n a r d u (x ∷ []) → Grew c a d i x
    got x p = subst (Grew c a d i) (flat-one x) (subst (λ (y : ℕ). Grew c a d y (flat (x ∷ []))) (more-end (sym p.said ∙ z)) p.grew)

    part_of : (x : Bytes) → Added c a t m n a r d u (x ∷ []) → take (i - a) (drop a d) ≡ x
    part_of x p = part-is c a d i x (omega (arith, g.within, g.long)) (got x p)

    pub typed-other : is_lower_word (take (i - a) (drop a d)) ≡ false → PutsTyped b n t m s at None d u
    typed-other y e v w l = by (as_string v) (value_as e v w l)
      where
        by : (o : Option Bytes) → AddAs c a t m n a r d u (capped m (map (λ y. y ∷ []) o)) → ParamAs b n t m None d u word (chain o (typed_as m))
        by none p = refl
        by (some x) p = fit (leb (m + 1) 64) p
          where
            fit : (q : Bool) → AddAs c a t m n a r d u (provided q (some (x ∷ []))) → ParamAs b n t m None d u word (provided q (provided (is_lower_word x) (some (x ∷ []))))
            fit true p = subst (λ (q : Bool). ParamAs b n t m None d u word (provided q (some (x ∷ [])))) (sym (ap is_lower_word (sym (part_of x p)) ∙ y)) refl
            fit false p = refl

    pub typed-all : is_lower_word (take (i - a) (drop a d)) ≡ true → PutsTyped b n t m s at (more i k) d u
    typed-all y e v w l = by (as_string v) (value_as e v w l)
      where
        by : (o : Option Bytes) → AddAs c a t m n a r d u (capped m (map (λ y. y ∷ []) o)) → ParamAs b n t m (more i k) d u word (chain o (typed_as m))
        by none p = absurd (not_more (sym p ∙ z))
        by (some x) p = fit (leb (m + 1) 64) p
          where
            fit : (q : Bool) → AddAs c a t m n a r d u (provided q (some (x ∷ []))) → ParamAs b n t m (more i k) d u word (provided q (provided (is_lower_word x) (some (x ∷ []))))
            fit true p =
                subst (λ (q : Bool). ParamAs b n t m (more i k) d u word (provided q (some (x ∷ [])))) (sym (ap is_lower_word (sym (part_of x p)) ∙ y))
                (record { end = p.end; said = sym z ∙ p.said; grew = grew_then g p.grew; adds = param-table b n t m h c a word g (omega arith) r d u (x ∷ []) refl p })
            fit false p = absurd (not_more (sym p ∙ z))

-- ---- unknown, or VALUE

module _ (b : Bytes) (n : ℕ) (t : List ℕ) (m c : ℕ) (s : Bytes) (at q : ℕ) (told : TellsString s at q) (h : n ≤ length b) where
  pub type-none : q ≡ 0 → (after : Bytes) (u : List ℕ) → PutsType b n t m c s at None after u
  type-none e after u d v w l = by (as_string v) (told d v w)
    where
      by : (o : Option Bytes) → StringIs s q o → TypeAs b n t m (n + (5 + size v)) None after u (chain o λ x. provided (type_fits m c x) (some x))
      by none h = refl
      by (some x) h = absurd (omega (arith, h.0, e))

  module _ (z : q ≡ 0 → ⊥) where
    of-text : (r : RowsTo) (after : Bytes) (u : List ℕ) (d : ℕ) (v : Json) → json_at d s at ≡ some v
        → ((x : Bytes) → as_string v ≡ some x → decoded_at s q ≡ some x → TypeAs b n t m (n + (5 + size v)) r after u (provided (type_fits m c x) (some x)))
        → TypeAs b n t m (n + (5 + size v)) r after u (chain (as_string v) λ x. provided (type_fits m c x) (some x))
    of-text r after u d v w f =
        let o = string-there s q (as_string v) (told d v w) z in
        subst (λ (y : Option Bytes). TypeAs b n t m (n + (5 + size v)) r after u (chain y λ x. provided (type_fits m c x) (some x))) (sym o.1) (f o.0 o.1 o.2)

    unknown-is : (x : Bytes) (y : Bool) → decoded_at s q ≡ some x → spells (decoded_at s q) (ascii "unknown") ≡ y → is_unknown x ≡ y
    unknown-is x y e p = sym (ap (λ (o : Option Bytes). spells o (ascii "unknown")) e) ∙ p

    module _ (p : spells (decoded_at s q) (ascii "unknown") ≡ true) where
      pub unknown-many : 32 < c → PutsType b n t m c s at None b t
      unknown-many k d v w l = of-text None b t d v w λ x e f.
          let g : type_fits m c x ≡ false = ap (λ (y : Bool). pick y (leb c 32) (leb (c + 1) 32 && (leb (m + 1) 64 && is_lower_word x))) (unknown-is x true f p) ∙ lt-leb _ _ k in
          subst (λ (y : Bool). TypeAs b n t m (n + (5 + size v)) None b t (provided y (some x))) (sym g) refl

      pub unknown-fits : c ≤ 32 → PutsType b n t m c s at (more n m) b t
      unknown-fits k d v w l = of-text (more n m) b t d v w λ x e f.
          let i = unknown-is x true f p in
          let g : type_fits m c x ≡ true = ap (λ (y : Bool). pick y (leb c 32) (leb (c + 1) 32 && (leb (m + 1) 64 && is_lower_word x))) i ∙ le-leb _ _ k in
          let ps : type_param x ≡ [] = ap (λ (y : Bool). pick y [] (param (ascii "value") (x ∷ []) ∷ [])) i in
          let ln : m ≡ m + length (type_param x) = let z = ap length ps in omega (arith, z) in
          subst (λ (y : Bool). TypeAs b n t m (n + (5 + size v)) (more n m) b t (provided y (some x))) (sym g) (record {
            end = n;
            said = ap (more n) ln;
            stays = record { long = refl; from = omega arith; within = h; is = refl };
            short = omega arith;
            table = λ qs y. subst (λ (o : List Param). Table (take n b) t (m + length (type_param x)) (qs ++ o)) (sym ps) (subst (Table (take n b) t (m + length (type_param x))) (sym (append-nil qs)) (subst (λ (o : ℕ). Table (take n b) t o qs) ln y));
          })

    module _ (p : spells (decoded_at s q) (ascii "unknown") ≡ false) where
      pub value-many : 32 ≤ c → PutsType b n t m c s at None b t
      value-many k d v w l = of-text None b t d v w λ x e f.
          let g : type_fits m c x ≡ false = ap (λ (y : Bool). pick y (leb c 32) (leb (c + 1) 32 && (leb (m + 1) 64 && is_lower_word x))) (unknown-is x false f p) ∙ ap (λ (y : Bool). y && (leb (m + 1) 64 && is_lower_word x)) (lt-leb (c + 1) 32 (omega arith)) in
          subst (λ (y : Bool). TypeAs b n t m (n + (5 + size v)) None b t (provided y (some x))) (sym g) refl

      pub value-typed : c < 32 → (r : RowsTo) (after : Bytes) (u : List ℕ) → PutsTyped b n t m s at r after u → PutsType b n t m c s at r after u
      value-typed k r after u put d v w l = of-text r after u d v w λ x e f.
          let i = unknown-is x false f p in
          let g : type_fits m c x ≡ (leb (m + 1) 64 && is_lower_word x) = ap (λ (y : Bool). pick y (leb c 32) (leb (c + 1) 32 && (leb (m + 1) 64 && is_lower_word x))) i ∙ ap (λ (y : Bool). y && (leb (m + 1) 64 && is_lower_word x)) (le-leb (c + 1) 32 (omega arith)) in
          let a : ParamAs b n t m r after u word (typed_as m x) = subst (λ (y : Option Bytes). ParamAs b n t m r after u word (chain y (typed_as m))) e (put d v w l) in
          subst (λ (y : Bool). TypeAs b n t m (n + (5 + size v)) r after u (provided y (some x))) (sym g) (by x i (string-size v x e) (leb (m + 1) 64) (is_lower_word x) a)
        where
          by : (x : Bytes) → is_unknown x ≡ false → length x ≤ size v → (y o : Bool) → ParamAs b n t m r after u word (provided y (provided o (some (x ∷ [])))) → TypeAs b n t m (n + (5 + size v)) r after u (provided (y && o) (some x))
          by x i sz false o a = a
          by x i sz true false a = a
          by x i sz true true a =
              let ps : type_param x ≡ param word (x ∷ []) ∷ [] = ap (λ (y : Bool). pick y [] (param word (x ∷ []) ∷ [])) i in
              let ln : m + 1 ≡ m + length (type_param x) = let z = ap length ps in omega (arith, z) in
              let fl : length (word ++ flat (x ∷ [])) ≡ 5 + length x = length-append word (flat (x ∷ [])) ∙ ap (λ (y : Bytes). 5 + length y) (flat-one x) in
              record {
                end = a.end;
                said = a.said ∙ ap (more a.end) ln;
                stays = grew-stays h a.grew;
                short = omega (arith, a.grew.to, fl, sz);
                table = λ qs y.
                    subst (λ (o : List Param). Table (take a.end after) u (m + length (type_param x)) (qs ++ o)) (sym ps)
                    (subst (λ (o : Bytes). Table o u (m + length (type_param x)) (qs ++ (param word (x ∷ []) ∷ []))) (sym a.grew.is)
                    (subst (λ (o : ℕ). Table (take n b ++ (word ++ flat (x ∷ []))) u o (qs ++ (param word (x ∷ []) ∷ []))) ln (a.adds qs y)));
              }

-- no room for the name: there is none for the strings either
pub typed-full : (b : Bytes) (n : ℕ) (t : List ℕ) (m : ℕ) (s : Bytes) (at : ℕ) → length b < n + 5 → (after : Bytes) (u : List ℕ) → PutsTyped b n t m s at None after u
typed-full b n t m s at h after u d v w l = absurd (omega arith)

pub typed-rows : {b : Bytes} {n : ℕ} {c : Bytes} {a : ℕ} → Grew b n c a word → {i k : ℕ} → RowsIn a (length c) (more i k) → RowsIn n (length b) (more i k)
typed-rows g h = (omega (arith, g.to, h.0), omega (arith, h.1, g.long), h.2)
