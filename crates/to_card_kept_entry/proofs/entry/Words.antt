-- Names in lower case.
use mathlib.Core.Path.{◌≡◌, refl, sym, ap, subst, ◌∙◌}
use mathlib.Core.Bool.{Bool, true, false, ◌&&◌, not}
use mathlib.Core.List.{List, [], ◌∷◌}
use mathlib.Core.Option.{Option, none, some}
use Prim.Native.Nat.{ℕ, ◌+◌, ◌-◌, ◌≤◌}
use native.Mathlib.Omega.{arith}
use borrow.Author.Tests.{eq-eqb, ne_eqb}
use lib.Dec.{eqb}
use lib.ListN.{length, take, drop}
use Rattle.text.specs.Choice.{pick, is_some, chain, provided}
use Rattle.text.specs.Bytes.{Bytes, ascii, all, among, parts, on_head}
use Rattle.json_text.specs.Tree.{jnull, member, as_string}
use Rattle.json_strings.specs.Decoded.{decoded_at, text_at}
use Rattle.json_strings.proofs.NextByte.{text-some}
use Rattle.json_index.specs.Index.{placed, first_at}
use Rattle.json_index.proofs.Fields.{first-other}
use Rattle.to_card_value.specs.Values.{StringIs, TellsString}
use Rattle.convert.specs.FromJson.{is_lower_word, never_kept}
use Rattle.to_card_kept_entry.specs.strings.Strings.{Grew, Puts, PutAs}
use Rattle.to_card_kept_entry.proofs.strings.Putting.{put_as, string-size}
use Rattle.to_card_kept_entry.proofs.strings.Values.{not_end, end_is}
use Rattle.to_card_kept_entry.proofs.table.Params.{part-is}
use Rattle.to_card_kept_entry.specs.entry.Entry.{PutsWord, line_name, PutsName}
use Rattle.std.specs.Prelude.{Some, None}
use Rattle.to_card_kept_entry.specs.strings.Strings.{To}

module _ (b : Bytes) (n : ℕ) (s : Bytes) (q : ℕ) (h : n ≤ length b) (r : To) (c : Bytes) (p : Puts b n (text_at s q) r c) where
  put : (x : Bytes) → decoded_at s q ≡ some x → n + length x ≤ length b → PutAs b n r c (some x)
  put x e l = put_as b n x r c l (subst (λ (z : Bytes). Puts b n z r c) (text-some s q x e) p)

  pub word-full : r ≡ None → PutsWord b n s q None c
  word-full z x e l = absurd (not_end (sym z ∙ (put x e l).1))

  module _ (i : ℕ) (z : r ≡ Some i) where
    pub word_in : Grew b n c i (text_at s q)
    word_in = subst (λ (y : To). Puts b n (text_at s q) y c) z p

    grew : (x : Bytes) → decoded_at s q ≡ some x → n + length x ≤ length b → Grew b n c i x
    grew x e l = let o = put x e l in subst (λ (y : ℕ). Grew b n c y x) (end_is (sym o.1 ∙ z)) o.2

    pub word-other : is_lower_word (take (i - n) (drop n c)) ≡ false → PutsWord b n s q None c
    word-other y x e l =
        let f : is_lower_word x ≡ false = ap is_lower_word (sym (part-is b n c i x h (grew x e l))) ∙ y in
        subst (PutAs b n None c) (sym (ap (λ (t : Bool). provided t (some x)) f)) refl

    pub word-is : is_lower_word (take (i - n) (drop n c)) ≡ true → PutsWord b n s q (Some i) c
    word-is y x e l =
        let f : is_lower_word x ≡ true = ap is_lower_word (sym (part-is b n c i x h (grew x e l))) ∙ y in
        subst (PutAs b n (Some i) c) (sym (ap (λ (t : Bool). provided t (some x)) f)) (i, refl, grew x e l)

-- ---- the line's name

pub string-there : (s : Bytes) (q : ℕ) (o : Option Bytes) → StringIs s q o → (q ≡ 0 → ⊥) → (x : Bytes) × (o ≡ some x) × (decoded_at s q ≡ some x)
string-there s q none h n = absurd (n h)
string-there s q (some x) h n = (x, refl, h.1)

never-names : parts 44 (ascii "begin,end,version,uid,kind") ≡ never_kept
unfolding parts on_head
never-names = refl

-- a name that is none of the list
placed-none : (n : Bytes) (ns : List Bytes) → eqb (placed (some n) ns) (length ns) ≡ not (among n ns)
unfolding first_at all
placed-none n ns = by (eqb (placed (some n) ns) (length ns)) (among n ns) (first-other ns (member n jnull ∷ []))
  where
    by : (e a : Bool) → (a && true) ≡ not (is_some (pick e (some jnull) none)) → e ≡ not a
    by true true h = h
    by true false h = refl
    by false true h = refl
    by false false h = h

module _ (b : Bytes) (n : ℕ) (s : Bytes) (at q : ℕ) (told : TellsString s at q) where
  pub name-none : q ≡ 0 → (after : Bytes) → PutsName b n s at None after
  name-none e after d v w l = by (as_string v) (told d v w)
    where
      by : (o : Option Bytes) → StringIs s q o → PutAs b n None after (chain o line_name)
      by none h = refl
      by (some x) h = absurd (omega (arith, h.0, e))

  module _ (z : q ≡ 0 → ⊥) (k : ℕ) (is-k : k ≡ placed (decoded_at s q) (parts 44 (ascii "begin,end,version,uid,kind"))) where
    free : (x : Bytes) → decoded_at s q ≡ some x → not (among x never_kept) ≡ eqb k 5
    free x e = sym (ap (λ (y : ℕ). eqb y 5) (is-k ∙ ap (λ (o : Option Bytes). placed o (parts 44 (ascii "begin,end,version,uid,kind"))) e ∙ ap (placed (some x)) never-names) ∙ placed-none x never_kept)

    pub name-never : (k ≡ 5 → ⊥) → (after : Bytes) → PutsName b n s at None after
    name-never y after d v w l =
        let o = string-there s q (as_string v) (told d v w) z in
        subst (λ (u : Option Bytes). PutAs b n None after (chain u line_name)) (sym o.1)
        (subst (λ (u : Bool). PutAs b n None after (provided u (provided (is_lower_word o.0) (some o.0)))) (sym (free o.0 o.2 ∙ ne_eqb k 5 y)) refl)

    pub name-word : k ≡ 5 → (r : To) (after : Bytes) → PutsWord b n s q r after → PutsName b n s at r after
    name-word y r after p d v w l =
        let o = string-there s q (as_string v) (told d v w) z in
        subst (λ (u : Option Bytes). PutAs b n r after (chain u line_name)) (sym o.1)
        (subst (λ (u : Bool). PutAs b n r after (provided u (provided (is_lower_word o.0) (some o.0)))) (sym (free o.0 o.2 ∙ eq-eqb k 5 y)) (p o.0 o.2 (omega (arith, string-size v o.0 o.1, l))))
