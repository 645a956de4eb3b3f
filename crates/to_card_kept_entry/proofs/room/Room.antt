-- The strings and names of a value have no more bytes than its text.
use mathlib.Core.Path.{◌≡◌, refl, sym, ap}
use mathlib.Core.Bool.{false}
use mathlib.Core.Option.{some}
use Prim.Native.Nat.{ℕ, zero, suc, ◌+◌, ◌≤◌}
use native.Mathlib.Omega.{arith}
use lib.Dec.{eqb}
use lib.ListN.{length, drop, length-drop}
use Rattle.text.specs.Bytes.{Bytes, is}
use Rattle.text.specs.Reader.{Got, more, last}
use Rattle.text.proofs.Choices.{some_same, map-inv, both-inv}
use Rattle.text.proofs.Fine.{fine-takes}
use Rattle.text.proofs.Readers.{takes_one}
use Rattle.json_text.specs.Tree.{Json, jnull, jtrue, jfalse, jnum, jstr, jarr, jobj, Elems, enil, econs, Members, mnil, mcons}
use Rattle.json_text.specs.Syntax.{four, scalar, sep, name, item, elements, pair, pairs, value}
use Rattle.json_text.specs.Strings.{decode, decoded, decoded_elems, decoded_members}
use Rattle.json_text.proofs.Fine.{token-fine, number-fine}
use Rattle.json_index.specs.Index.{json_at}
use Rattle.json_index.proofs.Laws.{next_of}
use Rattle.json_index.proofs.Objects.{at-inv}
use Rattle.to_card_kept_entry.specs.strings.Strings.{size, size_elems, size_members}
use Rattle.to_card_kept_entry.proofs.room.Costs.{Pays, Within, Any, Adds, pays-got, pays-bad, pays-on, pays-when, pays-skip, pays-lift, pays-under, pays-bind, pays-takes, pays-any, pays-loop}
use Rattle.to_card_kept_entry.proofs.room.Units.{weigh, decode-weigh, pays-characters}

-- ---- a tree as it is read, its strings not decoded

unfoldable mutual
  cost : Json → ℕ
  cost jnull = 0
  cost jtrue = 0
  cost jfalse = 0
  cost (jnum x) = 0
  cost (jstr us) = weigh us
  cost (jarr es) = cost_elems es
  cost (jobj ms) = cost_members ms

  cost_elems : Elems → ℕ
  cost_elems enil = 0
  cost_elems (econs j es) = cost j + cost_elems es

  cost_members : Members → ℕ
  cost_members mnil = 0
  cost_members (mcons k j ms) = weigh k + cost j + cost_members ms

mutual
  unfolding decoded size cost

  size-cost : (j v : Json) → decoded j ≡ some v → size v ≤ cost j
  size-cost jnull v e = omega (arith, ap size (sym (some_same e)))
  size-cost jtrue v e = omega (arith, ap size (sym (some_same e)))
  size-cost jfalse v e = omega (arith, ap size (sym (some_same e)))
  size-cost (jnum x) v e = omega (arith, ap size (sym (some_same e)))
  size-cost (jstr us) v e = let i = map-inv jstr (decode us) e in omega (arith, ap size (sym i.2), decode-weigh us i.0 i.1)
  size-cost (jarr es) v e = let i = map-inv jarr (decoded_elems es) e in omega (arith, ap size (sym i.2), size-elems es i.0 i.1)
  size-cost (jobj ms) v e = let i = map-inv jobj (decoded_members ms) e in omega (arith, ap size (sym i.2), size-members ms i.0 i.1)

  size-elems : (us es : Elems) → decoded_elems us ≡ some es → size_elems es ≤ cost_elems us
  size-elems enil es e = omega (arith, ap size_elems (sym (some_same e)))
  size-elems (econs j us) es e =
      let i = both-inv econs (decoded j) (decoded_elems us) e in
      omega (arith, ap size_elems (sym i.4), size-cost j i.0 i.2, size-elems us i.1 i.3)

  size-members : (us ms : Members) → decoded_members us ≡ some ms → size_members ms ≤ cost_members us
  size-members mnil ms e = omega (arith, ap size_members (sym (some_same e)))
  size-members (mcons k j us) ms e =
      let n = next_of k j us ms e in
      omega (arith, ap size_members (sym n.is), decode-weigh k n.key n.is-key, size-cost j n.val n.is-val, size-members us n.others n.is-others)

-- ---- read

string-cost : (us : Bytes) (k : ℕ) → weigh us ≤ k → cost (jstr us) ≤ k
unfolding cost
string-cost us k h = h

free-number : (x : Bytes) (k : ℕ) → cost (jnum x) ≤ k
unfolding cost
free-number x k = omega arith

pays-four : (a b c d : ℕ) (j : Json) → eqb 256 a ≡ false → eqb 256 b ≡ false → eqb 256 c ≡ false → eqb 256 d ≡ false → ((k : ℕ) → cost j ≤ k) → Pays (Within cost) 0 (four a b c d j)
unfolding four
pays-four a b c d j p q r u f =
    pays-bind Any (Within cost) 0 (pays-any 1 0 (takes_one a p)) λ x k t.
    pays-bind Any (Within cost) k (pays-any 1 k (takes_one b q)) λ x k t.
    pays-bind Any (Within cost) k (pays-any 1 k (takes_one c r)) λ x k t.
    pays-bind Any (Within cost) k (pays-any 1 k (takes_one d u)) λ x k t. pays-got (Within cost) k j (f k)

pays-scalar : Pays (Within cost) 0 scalar
unfolding scalar cost
pays-scalar =
    pays-on (Within cost) 0 (is 34) refl (λ x q. pays-under (Within weigh) (Within cost) 1 jstr string-cost (pays-lift (Within weigh) 0 1 (omega arith) pays-characters))
    (pays-when (Within cost) 0 (is 116) (pays-four 116 114 117 101 jtrue refl refl refl refl (λ k. omega arith))
    (pays-on (Within cost) 0 (is 102) refl (λ x q. pays-lift (Within cost) 0 1 (omega arith) (pays-four 97 108 115 101 jfalse refl refl refl refl (λ k. omega arith)))
    (pays-when (Within cost) 0 (is 110) (pays-four 110 117 108 108 jnull refl refl refl refl (λ k. omega arith))
    (pays-under Any (Within cost) 0 jnum (λ x k t. free-number x k) (pays-any 1 0 (fine-takes number-fine))))))

-- a value's turn, where k bytes pay for it
pays-sep : {B : Type 0} (μ : B → ℕ) (close : ℕ) → eqb 256 close ≡ false → (k : ℕ) (b : B) (g : B → B) → μ b ≤ k → ((c : B) → μ (g c) ≤ k + μ c) → Pays (Adds μ) k (sep close b g)
unfolding sep
pays-sep μ close z k b g h f =
    pays-skip (Adds μ) k
    (pays-on (Adds μ) k (is close) z (λ x q. pays-got (Adds μ) (suc k) (last b) (omega arith))
    (pays-on (Adds μ) k (is 44) refl (λ x q. pays-got (Adds μ) (suc k) (more g) (λ c. omega (arith, f c))) (pays-bad (Adds μ) k)))

pays-name : Pays (Within weigh) 0 name
unfolding name
pays-name =
    pays-bind Any (Within weigh) 0 (pays-any 1 0 (fine-takes (token-fine 34 refl))) λ q k t.
    pays-bind (Within weigh) (Within weigh) k (pays-lift (Within weigh) 0 k (omega arith) pays-characters) λ us m h.
    pays-bind (λ c n. 1 + m ≤ n) (Within weigh) m (pays-takes 1 m (fine-takes (token-fine 58 refl))) λ c n g. pays-got (Within weigh) n us (omega arith)

module _ (rd : Bytes → Got Json) (h : Pays (Within cost) 0 rd) where
  pays-item : Pays (Adds cost_elems) 0 (item rd)
  unfolding item cost
  pays-item = pays-bind (Within cost) (Adds cost_elems) 0 h λ j k l. pays-sep cost_elems 93 refl k (econs j enil) (econs j) (omega arith) (λ c. omega arith)

  pays-elements : Pays (Within cost_elems) 0 (elements rd)
  unfolding elements cost
  pays-elements =
      pays-skip (Within cost_elems) 0
      (pays-on (Within cost_elems) 0 (is 93) refl (λ x q. pays-got (Within cost_elems) 1 enil (omega arith)) (pays-loop cost_elems (item rd) pays-item))

  pays-pair : Pays (Adds cost_members) 0 (pair rd)
  unfolding pair cost
  pays-pair =
      pays-bind (Within weigh) (Adds cost_members) 0 pays-name λ k m l.
      pays-bind (λ j n. weigh k + cost j ≤ n) (Adds cost_members) m (λ s j w e. let i = h s j w e in (m + i.0, omega (arith, i.1), omega (arith, i.2))) λ j n g.
      pays-sep cost_members 125 refl n (mcons k j mnil) (mcons k j) (omega arith) (λ c. omega arith)

  pays-pairs : Pays (Within cost_members) 0 (pairs rd)
  unfolding pairs cost
  pays-pairs =
      pays-skip (Within cost_members) 0
      (pays-on (Within cost_members) 0 (is 125) refl (λ x q. pays-got (Within cost_members) 1 mnil (omega arith)) (pays-loop cost_members (pair rd) pays-pair))

array-cost : (es : Elems) (k : ℕ) → cost_elems es ≤ k → cost (jarr es) ≤ k
unfolding cost
array-cost es k h = h

object-cost : (ms : Members) (k : ℕ) → cost_members ms ≤ k → cost (jobj ms) ≤ k
unfolding cost
object-cost ms k h = h

pays-value : (d : ℕ) → Pays (Within cost) 0 (value d)
unfolding value
pays-value zero = pays-skip (Within cost) 0 pays-scalar
pays-value (suc d) =
    pays-skip (Within cost) 0
    (pays-on (Within cost) 0 (is 91) refl
    (λ x q. pays-under (Within cost_elems) (Within cost) 1 jarr array-cost (pays-lift (Within cost_elems) 0 1 (omega arith) (pays-elements (value d) (pays-value d))))
    (pays-on (Within cost) 0 (is 123) refl
    (λ x q. pays-under (Within cost_members) (Within cost) 1 jobj object-cost (pays-lift (Within cost_members) 0 1 (omega arith) (pays-pairs (value d) (pays-value d)))) pays-scalar))

-- ---- the room of a value that stands at a place

pub room : (d : ℕ) (s : Bytes) (p : ℕ) (v : Json) → json_at d s p ≡ some v → size v ≤ length s
room d s p v e =
    let u = at-inv d s p v e in
    let i = pays-value d (drop p s) u.0 u.1 u.2 in
    omega (arith, i.1, i.2, size-cost u.0 v u.3, length-drop p s)
