-- What the caller sees: the room of the card, then the order of 3 (bytes), 11 and the rest.
use mathlib.Core.Path.{◌≡◌, refl, sym, ap, subst, ◌∙◌}
use Rattle.to_card_pen.specs.Refusal.{no_card}
use mathlib.Core.Bool.{false}
use mathlib.Core.List.{List, []}
use Prim.Native.Nat.{ℕ, ◌-◌, ◌≤◌, ◌<◌}
use native.Mathlib.Omega.{arith}
use lib.ListN.{length, take, length-take}
use borrow.Author.Tests.{le-leb}
use Rattle.text.specs.Choice.{pick}
use Rattle.text.specs.Bytes.{Bytes}
use Rattle.json_text.specs.Tree.{Json}
use Rattle.json_text.specs.Read.{Reading, tree, refused as unread, reading}
use Rattle.json_index.specs.Index.{Indexes}
use Rattle.std.specs.Prelude.{Ok, Err}
use Rattle.json_read.specs.Verdict.{Verdict, verdict, verdict_of, number, InWords}
use Rattle.json_read.specs.declared.Fault.TheVariants.{Large, NotJson}
use Rattle.convert.specs.Answers.{Answer, no, yes, card_room, json_room, json_to_card}
use Rattle.served.specs.Served.{Outcome, refused, Made, made_refused, made_full, Serves}
use Rattle.served_put.specs.Lent.{fit_lent}
use Rattle.served_put.proofs.Serving.{serves-refused, serves-as}
use Rattle.to_card_card.specs.Whole.{card_names}
use Rattle.to_card_card.proofs.Names.{card-other}
use Rattle.json_to_card.specs.Inner.{Reads, inner, becomes, fit}
use Rattle.json_to_card.specs.Making.{Makes}
use Rattle.json_to_card.proofs.Making.{made-wrong}
use Rattle.json_to_card.proofs.Inner.{answer-is, too_long, the_rest, fit-large, fit-lent}

-- ---- the result

module _ (out : Bytes) (a : Answer) (room : Bytes) (m : Made) (after : Bytes) (made : Makes a room m after) where
  pub of-refused : (n p : ℕ) → m ≡ made_refused n p → Serves out (fit (length out) a) (refused n p) out
  of-refused n p e = serves-refused out _ n p (ap (fit (length out)) (subst (λ x. Makes a room x after) e made))

  pub of-full : m ≡ made_full → card_room < length room → Serves out (fit (length out) a) (refused 3 0) out
  of-full e h =
      let f : Makes a room made_full after = subst (λ x. Makes a room x after) e made in
      serves-refused out _ 3 0 (ap (fit (length out)) f.1 ∙ fit-large (length out) f.0 (omega (arith, f.2, h)))

  module _ (k : ℕ) (e : m ≡ Ok k) where
    is-card : Makes a room (Ok k) after
    is-card = subst (λ x. Makes a room x after) e made

    pub card-fits : k ≤ length after
    card-fits = omega (arith, is-card.3, is-card.4)

    pub of-card : (r : Outcome) (out' : Bytes) → length room ≤ 32769 → Serves out (fit_lent (length out) (take (k - 0) after)) r out' → Serves out (fit (length out) a) r out'
    of-card r out' h s =
        let t : Bytes = take (k - 0) after in
        let l : length t ≤ card_room = simp (length-take) (omega (arith, is-card.3, h)) in
        serves-as out _ _ r out' (sym (fit-lent (length out) t l) ∙ ap (λ x. fit (length out) (yes x)) is-card.2 ∙ sym (ap (fit (length out)) is-card.1)) s

-- ---- the order

module _ (s : Bytes) (r : Verdict) (said : r ≡ verdict 16 s) (words : InWords 16 s r) where
  judged : length s ≤ json_room → r ≡ verdict_of (reading 16 s)
  unfolding verdict
  judged h = said ∙ ap (λ b. pick b (verdict_of (reading 16 s)) (Err Large)) (le-leb (length s) json_room h)

  -- 3
  pub read-large : r ≡ Err Large → becomes s ≡ no 3 0
  read-large e = too_long s (words.over-room.0 (ap number e))

  -- 11
  no-json : (p : ℕ) (x : Reading) → verdict_of x ≡ Err (NotJson p) → inner x ≡ no 11 p
  no-json p (tree j) q = let z : ◌≡◌ {A = ℕ} 0 1 = cc in absurd (omega (arith, z))
  no-json p (unread n) q = let z : n ≡ p = cc in ap (no 11) z

  pub read-not-json : (p : ℕ) → r ≡ Err (NotJson p) → becomes s ≡ no 11 p
  read-not-json p e =
      let h : length s ≤ json_room = (words.no-json.0 (ap number e)).0 in
      the_rest s h ∙ no-json p (reading 16 s) (sym (judged h) ∙ e)

  is-tree : (x : Reading) → verdict_of x ≡ Ok tt → (j : Json) × (x ≡ tree j)
  is-tree (tree j) q = (j, refl)
  is-tree (unread n) q = let z : ◌≡◌ {A = ℕ} 0 1 = cc in absurd (omega (arith, z))

  module _ (e : r ≡ Ok tt) where
    pub read_short : length s ≤ json_room
    read_short = (words.json.0 (ap number e)).0

    pub read-sound : Reads s
    read-sound = let t = is-tree (reading 16 s) (sym (judged read_short) ∙ e) in record { value = t.0; is = t.1 }

    -- 12: no object
    pub read-not-object : (xs : List ℕ) → Indexes 15 s 0 card_names xs false → becomes s ≡ no 12 0
    read-not-object xs index = the_rest s read_short ∙ made-wrong s [] (Err no_card) [] read-sound (card-other s [] xs false index refl []) refl

    -- then what its members say
    pub read-object : becomes s ≡ inner (reading 16 s)
    read-object = the_rest s read_short

-- ---- what is seen

pub served-no : (out s : Bytes) (n p : ℕ) → becomes s ≡ no n p → Serves out (fit (length out) (becomes s)) (refused n p) out
served-no out s n p e = serves-refused out _ n p (ap (fit (length out)) e)

pub served-as : (out : Bytes) (a b : Answer) (o : Outcome) (after : Bytes) → b ≡ a → Serves out (fit (length out) a) o after → Serves out (fit (length out) b) o after
served-as out a b o after e v = serves-as out _ _ o after (ap (fit (length out)) (sym e)) v

-- the promise of the service
pub seen : (s out : Bytes) (o : Outcome) (after : Bytes) → Serves out (fit (length out) (becomes s)) o after
    → Serves out (json_to_card (length out) s) o after
seen s out o after v = serves-as out _ _ o after (sym (answer-is (length out) s)) v

-- the same where the lent output was handed on as it was
pub seen-left : (s out lent : Bytes) (o : Outcome) (after : Bytes) → lent ≡ out → Serves lent (fit (length lent) (becomes s)) o after
    → Serves out (json_to_card (length out) s) o after
seen-left s out lent o after e v = seen s out o after (subst (λ x. Serves x (fit (length x) (becomes s)) o after) e v)
