-- One parameter: its name, then its values.
use mathlib.Core.Path.{◌≡◌, refl, sym, ap, subst, ◌∙◌}
use mathlib.Core.Bool.{Bool, true, false, ◌&&◌, not}
use mathlib.Core.List.{List, [], ◌∷◌, ◌++◌, append_assoc}
use mathlib.Core.Option.{Option, none, some}
use Prim.Native.Nat.{ℕ, ◌+◌, ◌-◌, ◌≤◌, ◌<◌}
use native.Mathlib.Omega.{arith}
use lib.Dec.{leb}
use lib.ListN.{length, take, drop, length-append, take-append-drop}
use lib.Seq.{length-take-le, drop_at, take-append_seam}
use Rattle.text.specs.Choice.{chain, provided}
use Rattle.text.specs.Bytes.{Bytes, ascii, empty, each, flat, same}
use Rattle.text.proofs.Cases.{and_left, and-true}
use Rattle.text.proofs.Same.{same-swap}
use Rattle.text.proofs.Choices.{none-some, some_same, chain-inv, provided-inv}
use Rattle.json_text.specs.Tree.{Json, jnull, jtrue, jfalse, jnum, jstr, jarr, jobj, elems_of, as_string}
use Rattle.json_strings.specs.Decoded.{decoded_at, text_at, spells}
use Rattle.json_strings.proofs.NextByte.{text-some}
use Rattle.line.specs.Grammar.{Param, param}
use Rattle.line_table.specs.Table.{part}
use Rattle.convert.specs.FromJson.{strings, is_lower_word}
use Rattle.to_card_kept_entry.specs.strings.Strings.{size, Grew, Puts, Within, PutAs, Table, opened, Adding, capped, Added, AddAs, RowsIn, AddsValues}
use Rattle.to_card_kept_entry.proofs.strings.Putting.{put_as}
use Rattle.to_card_kept_entry.proofs.strings.Tables.{part-longer, part-new, adding-first}
use Rattle.to_card_kept_entry.proofs.strings.Values.{not_end, end_is, grew_then}
use Rattle.to_card_kept_entry.proofs.strings.Whole.{strings-size}
use Rattle.to_card_kept_entry.specs.table.Kept.{good_name, fit_param, ParamAs, PutsParam}
use Rattle.std.specs.Prelude.{Some, None}
use Rattle.to_card_kept_entry.specs.strings.Strings.{To, RowsTo, more}

-- the bytes that were put last
pub part-is : (b : Bytes) (n : ℕ) (after : Bytes) (k : ℕ) (x : Bytes) → n ≤ length b → Grew b n after k x → take (k - n) (drop n after) ≡ x
part-is b n after k x h g =
    let m : length (take n b) ≡ n = length-take-le n b h in
    let z : k - n ≡ length x = omega (arith, g.to) in
    let f : after ≡ take n b ++ (x ++ drop k after) = sym (take-append-drop k after) ∙ ap (λ (y : Bytes). y ++ drop k after) g.is ∙ append_assoc (take n b) x (drop k after) in
    ap (λ (y : Bytes). take (k - n) (drop n y)) f
    ∙ ap (take (k - n)) (drop_at (take n b) (x ++ drop k after) n m)
    ∙ ap (λ (y : ℕ). take y (x ++ drop k after)) z
    ∙ take-append_seam x (drop k after)

pub word-filled : (x : Bytes) → is_lower_word x ≡ true → 0 < length x
word-filled [] e = let z : ◌≡◌ {A = ℕ} 0 1 = cc in omega arith
word-filled (c ∷ x) e = omega arith

fit_none : (m : ℕ) (k : Bytes) (v : Json) → good_name k ≡ false → fit_param m k v ≡ none
fit_none m k v e = by (capped m (strings v))
  where
    by : (o : Option (List Bytes)) → chain o (λ vs. provided (good_name k) (some vs)) ≡ none
    by none = refl
    by (some vs) = ap (λ (t : Bool). provided t (some vs)) e

fit-good : (m : ℕ) (k : Bytes) (v : Json) → good_name k ≡ true → fit_param m k v ≡ capped m (strings v)
fit-good m k v e = by (capped m (strings v))
  where
    by : (o : Option (List Bytes)) → chain o (λ vs. provided (good_name k) (some vs)) ≡ o
    by none = refl
    by (some vs) = ap (λ (t : Bool). provided t (some vs)) e

strings-some : (v : Json) (ws : List Bytes) → strings v ≡ some ws → not (empty ws) ≡ true
strings-some jnull ws q = none-some q
strings-some jtrue ws q = none-some q
strings-some jfalse ws q = none-some q
strings-some (jnum x) ws q = none-some q
strings-some (jstr x) ws q = ap (λ (y : List Bytes). not (empty y)) (sym (some_same q))
strings-some (jarr es) ws q =
    let i = chain-inv (each as_string (elems_of es)) (λ vs. provided (not (empty vs)) (some vs)) q in
    let j = provided-inv (not (empty i.0)) (some i.0) i.2 in
    ap (λ (y : List Bytes). not (empty y)) (sym (some_same j.1)) ∙ j.0
strings-some (jobj ms) ws q = none-some q

capped-inv : (m : ℕ) (o : Option (List Bytes)) (ws : List Bytes) → capped m o ≡ some ws → o ≡ some ws
capped-inv m none ws q = none-some q
capped-inv m (some vs) ws q = (provided-inv (leb (m + length vs) 64) (some vs) q).1

-- how long its values are
pub strings-bound : (m : ℕ) (k : Bytes) (v : Json) (ws : List Bytes) → fit_param m k v ≡ some ws → length (flat ws) ≤ size v
strings-bound m k v ws e =
    let i = chain-inv (capped m (strings v)) (λ vs. provided (good_name k) (some vs)) e in
    let j = provided-inv (good_name k) (some i.0) i.2 in
    strings-size v ws (capped-inv m (strings v) ws (i.1 ∙ j.1))

opened_some : (n : Bytes) (ws : List Bytes) → not (empty ws) ≡ true → opened n ws ≡ param n ws ∷ []
opened_some n [] e = let z : ◌≡◌ {A = ℕ} 0 1 = cc in absurd (omega arith)
opened_some n (w ∷ ws) e = refl

-- the table with the values of a parameter whose name was put before them
pub param-table : (b : Bytes) (n : ℕ) (t : List ℕ) (m : ℕ) → n ≤ length b → (c : Bytes) (i : ℕ) (k : Bytes) → Grew b n c i k → 0 < length k → (r' : RowsTo) (d : Bytes) (u : List ℕ) (ws : List Bytes)
    → not (empty ws) ≡ true → Added c i t m n i r' d u ws → (qs : List Param) → Table (take n b) t m qs → Table (take n b ++ (k ++ flat ws)) u (m + length ws) (qs ++ (param k ws ∷ []))
param-table b n t m h c i k g f r' d u ws ne a qs tb =
    let len : length (take n b) ≡ n = length-take-le n b h in
    let a0 : Adding (take n b ++ k) t m (length (take n b)) (length (take n b) + length k) qs [] = adding-first (take n b) k t m qs f tb in
    let a1 : Adding (take n b ++ k) t m n (n + length k) qs [] = subst (λ (y : ℕ). Adding (take n b ++ k) t m y (y + length k) qs []) len a0 in
    let a2 : Adding (take n b ++ k) t m n i qs [] = subst (λ (y : ℕ). Adding (take n b ++ k) t m n y qs []) (sym g.to) a1 in
    let a3 : Adding (take i c) t m n i qs [] = subst (λ (y : Bytes). Adding y t m n i qs []) (sym g.is) a2 in
    let a4 : Adding (take i c ++ flat ws) u (m + length ws) n i qs ws = a.adds qs [] a3 in
    let a5 : Adding ((take n b ++ k) ++ flat ws) u (m + length ws) n i qs ws = subst (λ (y : Bytes). Adding (y ++ flat ws) u (m + length ws) n i qs ws) g.is a4 in
    let pk : part ((take n b ++ k) ++ flat ws) n i ≡ k =
    part-longer (take n b ++ k) (flat ws) n i (omega (arith, g.to)) (let z = length-append (take n b) k in omega (arith, g.to, len, z))
    ∙ ap (λ (y : ℕ). part (take n b ++ k) n y) g.to ∙ ap (λ (y : ℕ). part (take n b ++ k) y (y + length k)) (sym len) ∙ part-new (take n b) k in
    let t5 : Table ((take n b ++ k) ++ flat ws) u (m + length ws) (qs ++ (param k ws ∷ [])) =
    subst (λ (y : List Param). Table ((take n b ++ k) ++ flat ws) u (m + length ws) (qs ++ y)) (ap (λ (y : Bytes). opened y ws) pk ∙ opened_some k ws ne) a5.table in
    subst (λ (y : Bytes). Table y u (m + length ws) (qs ++ (param k ws ∷ []))) (append_assoc (take n b) k (flat ws)) t5

module _ (b : Bytes) (n : ℕ) (t : List ℕ) (m : ℕ) (s : Bytes) (q at : ℕ) (h : n ≤ length b) (r : To) (c : Bytes) (p : Puts b n (text_at s q) r c) where
  name-put : (k : Bytes) (v : Json) → decoded_at s q ≡ some k → n + (length k + size v) ≤ length b → PutAs b n r c (some k)
  name-put k v e l = put_as b n k r c (omega arith) (subst (λ (z : Bytes). Puts b n z r c) (text-some s q k e) p)

  pub param-full : r ≡ None → PutsParam b n t m s q at None c t
  param-full z k v e w l = absurd (not_end (sym z ∙ (name-put k v e l).1))

  module _ (i : ℕ) (z : r ≡ Some i) where
    pub name_in : Grew b n c i (text_at s q)
    name_in = subst (λ (y : To). Puts b n (text_at s q) y c) z p

    name-grew : (k : Bytes) (v : Json) → decoded_at s q ≡ some k → n + (length k + size v) ≤ length b → Grew b n c i k
    name-grew k v e l = let o = name-put k v e l in subst (λ (y : ℕ). Grew b n c y k) (end_is (sym o.1 ∙ z)) o.2

    word-is : (k : Bytes) (v : Json) → decoded_at s q ≡ some k → n + (length k + size v) ≤ length b → is_lower_word k ≡ is_lower_word (take (i - n) (drop n c))
    word-is k v e l = ap is_lower_word (sym (part-is b n c i k h (name-grew k v e l)))

    pub param-other : is_lower_word (take (i - n) (drop n c)) ≡ false → PutsParam b n t m s q at None c t
    param-other y k v e w l =
        let g : good_name k ≡ false = ap (λ (x : Bool). x && not (same k (ascii "value"))) (word-is k v e l ∙ y) in
        subst (ParamAs b n t m None c t k) (sym (fit_none m k v g)) refl

    pub param-value : spells (decoded_at s q) (ascii "value") ≡ true → PutsParam b n t m s q at None c t
    param-value y k v e w l =
        let x : same k (ascii "value") ≡ true = same-swap k (ascii "value") ∙ sym (ap (λ (o : Option Bytes). spells o (ascii "value")) e) ∙ y in
        let g : good_name k ≡ false = ap (λ (y : Bool). is_lower_word k && not y) x ∙ and-false (is_lower_word k) in
        subst (ParamAs b n t m None c t k) (sym (fit_none m k v g)) refl
      where
        and-false : (y : Bool) → (y && false) ≡ false
        and-false true = refl
        and-false false = refl

    module _ (y : is_lower_word (take (i - n) (drop n c)) ≡ true) (x : spells (decoded_at s q) (ascii "value") ≡ false) (r' : RowsTo) (d : Bytes) (u : List ℕ) (adds : AddsValues c i t m n i s at r' d u) where
      good : (k : Bytes) (v : Json) → decoded_at s q ≡ some k → n + (length k + size v) ≤ length b → good_name k ≡ true
      good k v e l =
          let f : same k (ascii "value") ≡ false = same-swap k (ascii "value") ∙ sym (ap (λ (o : Option Bytes). spells o (ascii "value")) e) ∙ x in
          and-true (word-is k v e l ∙ y) (ap not f)

      pub param-all : PutsParam b n t m s q at r' d u
      param-all k v e w l =
          let g = name-grew k v e l in
          let sz : i + size v ≤ length c = omega (arith, g.to, g.long, l) in
          subst (ParamAs b n t m r' d u k) (sym (fit-good m k v (good k v e l))) (by k v g (word-filled k (and_left (is_lower_word k) _ (good k v e l))) (capped m (strings v)) refl (adds v w sz))
        where
          by : (k : Bytes) (v : Json) → Grew b n c i k → 0 < length k → (o : Option (List Bytes)) → capped m (strings v) ≡ o → AddAs c i t m n i r' d u o → ParamAs b n t m r' d u k o
          by k v g f none e a = a
          by k v g f (some ws) e a = record {
            end = a.end;
            said = a.said;
            grew = grew_then g a.grew;
            adds = param-table b n t m h c i k g f r' d u ws (strings-some v ws (capped-inv m (strings v) ws e)) a;
          }

-- ---- bounds

pub rows-lower : (n i room room' : ℕ) (r : RowsTo) → n ≤ i → room ≡ room' → RowsIn i room r → RowsIn n room' r
rows-lower n i room room' (Some r) h e g = (omega (arith, g.0, h), omega (arith, g.1, e), g.2)
rows-lower n i room room' None h e g = tt

pub to_in : {n room k : ℕ} {r : To} → Within n room r → r ≡ Some k → (n ≤ k) × (k ≤ room)
to_in {n} {room} {k} {r} h e = subst (Within n room) e h
