-- The items of a list, one after the other.
use mathlib.Core.Path.{◌≡◌, refl, sym, ap, ◌∙◌}
use mathlib.Core.Bool.{Bool, true, false, ◌||◌}
use mathlib.Core.List.{List, [], ◌∷◌, ◌++◌, map}
use Prim.Native.Nat.{ℕ, zero, suc, ◌+◌, ◌-◌, ◌≤◌, ◌<◌}
use native.Mathlib.Omega.{arith}
use lib.Dec.{ltb}
use lib.ListN.{length, take, drop, get_or}
use borrow.Author.Tests.{ne_eqb, le-ltb, lt-ltb}
use borrow.Rule.Slice.PartMut.{mid_of, put_mid}
use Rattle.text.specs.Choice.{pick}
use Rattle.text.specs.Bytes.{Bytes, ascii, keep, flat}
use Rattle.text.proofs.Cases.{by_bool}
use Rattle.line.specs.Text.{split_text}
use Rattle.convert.specs.Table.{component_kinds}
use Rattle.json_text.specs.Compact.{quoted}
use Rattle.output.specs.Put.{Puts, Rest}
use Rattle.output.specs.Put.{Wrote, full}
use Rattle.std.specs.Prelude.{Ok, Err}
use Rattle.output.proofs.Rests.{rest_all, rest-as, rest-next, rest-stop, rest-done}
use Rattle.line_text.specs.Read.{plain_text}
use Rattle.line_text.specs.Split.{PartEnds}
use Rattle.to_json_items.specs.Items.{lead, opening, item_head, item_piece, listed, is_own}
use Rattle.convert_values.specs.Values.{texts_of, Readable}
use Rattle.convert_values.proofs.Texts.{rest-good}

-- ---- heads

seven : (k : ℕ) → ltb (suc (suc (suc (suc (suc (suc (suc k))))))) 7 ≡ false
seven k = le-ltb (suc (suc (suc (suc (suc (suc (suc k))))))) 7 (omega arith)

pub no_lead : (k : ℕ) → (k ≡ 0 → ⊥) → (k ≡ 1 → ⊥) → (k ≡ 2 → ⊥) → (k ≡ 3 → ⊥) → (k ≡ 4 → ⊥) → (k ≡ 5 → ⊥) → (k ≡ 6 → ⊥) → ascii "{\"name\":" ≡ lead k
unfolding lead
no_lead zero a b c d e f g = absurd (a refl)
no_lead (suc zero) a b c d e f g = absurd (b refl)
no_lead (suc (suc zero)) a b c d e f g = absurd (c refl)
no_lead (suc (suc (suc zero))) a b c d e f g = absurd (d refl)
no_lead (suc (suc (suc (suc zero)))) a b c d e f g = absurd (e refl)
no_lead (suc (suc (suc (suc (suc zero))))) a b c d e f g = absurd (f refl)
no_lead (suc (suc (suc (suc (suc (suc zero)))))) a b c d e f g = absurd (g refl)
no_lead (suc (suc (suc (suc (suc (suc (suc k))))))) a b c d e f g = ap (λ x. pick x (flat (ascii "{\"kind\":" ∷ quoted (get_or component_kinds (suc (suc (suc (suc (suc (suc (suc k))))))) []) [] ∷ ascii ",\"value\":" ∷ [])) (ascii "{\"name\":")) (sym (seven k))

pub head-begun : (begun : Bool) (k : ℕ) → begun ≡ true → 44 ∷ [] ≡ item_head begun k
unfolding item_head
head-begun b k e = rw e

pub head-named : (begun : Bool) (k : ℕ) → begun ≡ false → k ≡ 7 → ascii ",\"units\":[" ≡ item_head begun k
unfolding item_head opening
head-named b k e f = rw (e, f)

pub head_first : (begun : Bool) (k : ℕ) → begun ≡ false → k ≡ 8 → ascii "\"units\":[" ≡ item_head begun k
unfolding item_head opening
head_first b k e f = rw (e, f)

pub head-none : (begun : Bool) (k : ℕ) → begun ≡ false → (k ≡ 7 → ⊥) → (k ≡ 8 → ⊥) → [] ≡ item_head begun k
unfolding item_head opening
head-none b k e f g = rw (e, ne_eqb k 7 f, ne_eqb k 8 g)

pub piece-on : (on : Bool) (p : Bytes) → on ≡ true → p ≡ pick on p []
piece-on on p e = rw e

pub piece-off : (on : Bool) (p : Bytes) → on ≡ false → [] ≡ pick on p []
piece-off on p e = rw e

-- ---- the loop

or-true : (b : Bool) → true ≡ b || true
or-true true = refl
or-true false = refl

or-false : (b : Bool) → b ≡ b || false
or-false true = refl
or-false false = refl

one-item : (k : ℕ) (b : Bool) (p : Bytes → Bool) (t : Bytes) (ts : List Bytes) → listed k b (keep p (t ∷ ts)) ≡ pick (p t) (item_piece b k t) [] ++ listed k (b || p t) (keep p ts)
unfolding listed keep
one-item k b p t ts =
    by_bool (p t)
    (λ e. rw e (ap (λ c. item_piece b k t ++ listed k c (keep p ts)) (or-true b)))
    (λ e. rw e (ap (λ c. listed k c (keep p ts)) (or-false b)))

pub no_items : (k : ℕ) (b : Bool) (p : Bytes → Bool) → listed k b (keep p []) ≡ []
unfolding listed keep
no_items k b p = refl

-- what is left to write from the part that begins at i
abbrev pub todo : ℕ → ℕ → List Bytes → Bytes → ℕ → Bool → Bytes
todo k d others v i begun = listed k begun (keep (is_own others) (texts_of d (drop i v)))

pub record Putting (k d : ℕ) (others : List Bytes) (v : Bytes) (whole room out : Bytes) (at i : ℕ) (begun : Bool) : Type 0 where
  pub upto : i ≤ length v
  pub good : Readable d (drop i v)
  pub rest : Rest room whole (todo k d others v i begun) at out

pub putting-start : (k d : ℕ) (others : List Bytes) (v room : Bytes) (begun : Bool) → Readable d v → Putting k d others v (listed k begun (keep (is_own others) (texts_of d v))) room room 0 0 begun
putting-start k d others v room begun g = record { upto = omega arith; good = g; rest = rest_all room (listed k begun (keep (is_own others) (texts_of d v))) }

module _ (k d : ℕ) (others : List Bytes) (v : Bytes) {whole room out : Bytes} {at i : ℕ} {begun : Bool} (h : Putting k d others v whole room out at i begun)
    (e : ℕ) (p : PartEnds d v i e) (on : Bool) (own : on ≡ is_own others (plain_text (take (e - i) (drop i v)))) where
  abbrev t : Bytes
  t = plain_text (take (e - i) (drop i v))

  abbrev later : List Bytes
  later = map plain_text (pick (ltb e (length v)) (split_text d (drop (e + 1) v)) [])

  abbrev piece : Bytes
  piece = pick on (item_piece begun k t) []

  turn : Rest room whole (piece ++ listed k (begun || on) (keep (is_own others) later)) at out
  turn =
      rest-as (ap (λ ts. listed k begun (keep (is_own others) (map plain_text ts))) p.parts
      ∙ one-item k begun (is_own others) t later
      ∙ ap (λ b. pick b (item_piece begun k t) [] ++ listed k (begun || b) (keep (is_own others) later)) (sym own)) h.rest

  module _ {r : Wrote} {last : Bytes} (w : Puts (mid_of at (length out - at) out) piece r last) where
    pub putting-full : r ≡ (Err full) → Puts room whole (Err full) (put_mid at (length out - at) out last)
    putting-full f = rest-stop (listed k (begun || on) (keep (is_own others) later)) turn w f

    module _ (n : ℕ) (f : r ≡ Ok n) where
      pub wrote : Rest room whole (listed k (begun || on) (keep (is_own others) later)) (at + n) (put_mid at (length out - at) out last)
      wrote = rest-next (listed k (begun || on) (keep (is_own others) later)) turn w f

      pub putting-last : length v ≤ e → Puts room whole (Ok (at + n)) (put_mid at (length out - at) out last)
      putting-last l =
          rest-done (ap (λ b. listed k (begun || on) (keep (is_own others) (map plain_text (pick b (split_text d (drop (e + 1) v)) [])))) (le-ltb e (length v) l) ∙ no_items k (begun || on) (is_own others)) wrote

      pub putting-on : e < length v → Putting k d others v whole room (put_mid at (length out - at) out last) (at + n) (e + 1) (begun || on)
      putting-on l = record {
        upto = omega arith;
        good = rest-good d v i e p h.good l;
        rest = rest-as (ap (λ b. listed k (begun || on) (keep (is_own others) (map plain_text (pick b (split_text d (drop (e + 1) v)) [])))) (lt-ltb e (length v) l)) wrote;
      }
