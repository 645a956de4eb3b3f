-- A string after those that are in a buffer already.
use mathlib.Core.Path.{◌≡◌, refl, sym, ap, subst, ◌∙◌}
use mathlib.Core.Bool.{Bool, false}
use mathlib.Core.List.{[], ◌∷◌, ◌++◌, append_assoc}
use mathlib.Core.Option.{Option, none, some}
use Prim.Native.Nat.{ℕ, ◌+◌, ◌-◌, ◌≤◌, ◌<◌}
use native.Mathlib.Omega.{arith}
use borrow.Rule.Slice.PartMut.{mid_of, put_mid, same_len_mid, mid_len}
use lib.ListN.{length, take, drop, length-take}
use lib.Seq.{take-append-add, take-append_seam}
use Rattle.text.specs.Bytes.{Bytes, all}
use Rattle.output.specs.Put.{Wrote, full}
use Rattle.std.specs.Prelude.{Ok, Err}
use Rattle.output.specs.Put.{Puts}
use Rattle.output.proofs.Laws.{said-bytes, said-full, put-fits, length-put}
use Rattle.json_text.specs.Tree.{Json, jnull, jtrue, jfalse, jnum, jstr, jarr, jobj, as_string}
use Rattle.line.specs.Class.{is_lower_name}
use Rattle.convert.specs.FromJson.{is_lower_word}
use Rattle.text.proofs.Choices.{none-some, some_same}
use Rattle.json_strings.specs.Decoded.{decoded_at, text_at}
use Rattle.json_strings.proofs.NextByte.{text-some}
use Rattle.to_card_value.specs.Values.{StringIs, TellsString}
use Rattle.to_card_kept_entry.specs.strings.Strings.{size, Grew, Puts as PutsTo, Within, PutAs, PutsAt}
use Rattle.std.specs.Prelude.{Some, None}
use Rattle.to_card_kept_entry.specs.strings.Strings.{To}

pub room-length : (b : Bytes) (n : ℕ) → n ≤ length b → length (mid_of n (length b - n) b) ≡ length b - n
room-length b n h = mid_len n (length b) b (omega arith)

module _ (b : Bytes) (n : ℕ) (h : n ≤ length b) (x last : Bytes) (r : Wrote) (p : Puts (mid_of n (length b - n) b) x r last) where
  pub part_same : length (put_mid n (length b - n) b last) ≡ length b
  part_same = same_len_mid n (length b - n) b last (ap length p.left ∙ length-put (mid_of n (length b - n) b) x)

  pub grew : {k : ℕ} → r ≡ Ok k → Grew b n (put_mid n (length b - n) b last) (n + k) x
  grew {k} e =
      let q = said-bytes (mid_of n (length b - n) b) x k (sym p.said ∙ e) in
      let f : length x ≤ length (mid_of n (length b - n) b) = omega (arith, q.0, q.1) in
      let l : last ≡ x ++ drop (length x) (mid_of n (length b - n) b) = p.left ∙ put-fits (mid_of n (length b - n) b) x f in
      let m : length (take n b) ≡ n = simp length-take (omega arith) in
      let z : n + k ≡ length (take n b) + length x = omega (arith, m, q.0) in
      record {
        long = part_same;
        is =
            ap (λ (y : Bytes). take (n + k) (take n b ++ (y ++ drop (length b - n) (drop n b)))) l
            ∙ ap (λ (i : ℕ). take i (take n b ++ ((x ++ drop (length x) (mid_of n (length b - n) b)) ++ drop (length b - n) (drop n b)))) z
            ∙ take-append-add (take n b) ((x ++ drop (length x) (mid_of n (length b - n) b)) ++ drop (length b - n) (drop n b)) (length x)
            ∙ ap (λ (y : Bytes). take n b ++ take (length x) y) (append_assoc x (drop (length x) (mid_of n (length b - n) b)) (drop (length b - n) (drop n b)))
            ∙ ap (λ (y : Bytes). take n b ++ y) (take-append_seam x (drop (length x) (mid_of n (length b - n) b) ++ drop (length b - n) (drop n b)));
        to = ap (λ (i : ℕ). n + i) q.0;
        within = omega (arith, q.1, room-length b n h);
      }

  pub no_room : r ≡ (Err full) → (length (put_mid n (length b - n) b last) ≡ length b) × (length b < n + length x)
  no_room e = (part_same, omega (arith, said-full (mid_of n (length b - n) b) x (sym p.said ∙ e), room-length b n h))

-- ---- a value that is a string

pub puts-long : (b : Bytes) (n : ℕ) (x : Bytes) (r : To) (after : Bytes) → PutsTo b n x r after → length after ≡ length b
puts-long b n x (Some k) after p = p.long
puts-long b n x None after p = p.0

pub puts-within : (b : Bytes) (n : ℕ) (x : Bytes) (r : To) (after : Bytes) → PutsTo b n x r after → Within n (length b) r
puts-within b n x (Some k) after p = (omega (arith, p.to), p.within)
puts-within b n x None after p = tt

pub put_as : (b : Bytes) (n : ℕ) (x : Bytes) (r : To) (after : Bytes) → n + length x ≤ length b → PutsTo b n x r after → PutAs b n r after (some x)
put_as b n x (Some k) after h p = (k, refl, p)
put_as b n x None after h p = absurd (omega (arith, p.1, h))

pub string-size : (v : Json) (x : Bytes) → as_string v ≡ some x → length x ≤ size v
unfolding size
string-size jnull x e = none-some e
string-size jtrue x e = none-some e
string-size jfalse x e = none-some e
string-size (jnum y) x e = none-some e
string-size (jstr y) x e = let z : length y ≡ length x = ap length (some_same e) in omega arith
string-size (jarr es) x e = none-some e
string-size (jobj ms) x e = none-some e

module _ (b : Bytes) (n : ℕ) (s : Bytes) (at q : ℕ) (told : TellsString s at q) where
  pub string-of : (o : Option Bytes) → StringIs s q o → (q ≡ 0 → ⊥) → (x : Bytes) × (o ≡ some x) × (decoded_at s q ≡ some x)
  string-of none h n = absurd (n h)
  string-of (some x) h n = (x, refl, h.1)

  pub no-string : q ≡ 0 → (after : Bytes) → PutsAt b n s at None after
  no-string e after d v w l = by (as_string v) (told d v w)
    where
      by : (o : Option Bytes) → StringIs s q o → PutAs b n None after o
      by none h = refl
      by (some x) h = absurd (omega (arith, h.0, e))

  pub a-string : (q ≡ 0 → ⊥) → (r : To) (after : Bytes) → PutsTo b n (text_at s q) r after → PutsAt b n s at r after
  a-string z r after p d v w l =
      let o = string-of (as_string v) (told d v w) z in
      let g : n + length o.0 ≤ length b = omega (arith, string-size v o.0 o.1, l) in
      subst (PutAs b n r after) (sym o.1) (put_as b n o.0 r after g (subst (λ (y : Bytes). PutsTo b n y r after) (text-some s q o.0 o.2) p))

-- ---- a word

pub word_none : (w : Bytes) → length w ≡ 0 → false ≡ is_lower_word w
word_none [] e = refl
word_none (x ∷ w) e = absurd (omega arith)

pub word_some : (w : Bytes) (r : Bool) → (length w ≡ 0 → ⊥) → r ≡ all is_lower_name w → r ≡ is_lower_word w
word_some [] r n e = absurd (n refl)
word_some (x ∷ w) r n e = e
