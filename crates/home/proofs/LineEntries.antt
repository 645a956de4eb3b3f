-- The entry that a line gives: proper but for its key, which may be empty until one is made.
use mathlib.Core.Path.{◌≡◌, refl, sym, ap, subst, ◌∙◌}
use mathlib.Core.Bool.{Bool, true, false, ◌&&◌, ◌||◌, not}
use mathlib.Core.List.{List, [], ◌∷◌, map}
use mathlib.Core.Option.{some}
use Prim.Native.Nat.{ℕ}
use lib.ListN.{length, take}
use lib.Dec.{ltb}
use borrow.Author.Tests.{lt-ltb}
use Rattle.text.specs.Bytes.{Bytes, ascii, any, all, empty, same, among, lowered, parts, flat, each}
use Rattle.text.proofs.Cases.{by_bool, and_left, and_right, not-both, or-second, tests}
use Rattle.text.proofs.Choices.{none-some, some_same, provided-inv, chain-inv, map-inv}
use Rattle.text.proofs.Same.{same_true}
use Rattle.text.proofs.Lists.{all_none, keep-none}
use Rattle.line.specs.Grammar.{Param, param_name, Line}
use Rattle.line.specs.Params.{named, values_named, only_named, value_type, besides_value}
use Rattle.convert.specs.Table.{Map, Slot, type_names, vcard_type, in_order}
use Rattle.convert.specs.Model.{Entry, singly}
use Rattle.convert.specs.Value.{is_key_text, is_pref, read_as, takes_type}
use Rattle.convert.specs.Classify.{Seen, is_id, key_from, pref_from, types_from, entry_of}
use Rattle.convert.proofs.Forms.{flat-singly}
use Rattle.convert.proofs.Orders.{in_order-again}
use Rattle.convert.proofs.Types.{below, code_of}
use Rattle.home.proofs.Alls.{All, all-test, each-gives}
use Rattle.home.proofs.Positions.{position-inside, take-length, in_order-all}
use Rattle.home.proofs.CleanLines.{CleanLine}
use Rattle.home.proofs.ReadForms.{ReadWell, read-well}

pub record Drawn (m : Map) (e : Entry) : Type 0 where
  pub key : empty e.key || is_key_text e.key ≡ true
  pub texts : ReadWell m.form (flat e.parts)
  pub one_each : singly (flat e.parts) ≡ e.parts
  pub codes : all (below m.types) e.types ≡ true
  pub order : in_order e.types ≡ e.types
  pub pref : empty e.pref || (among (ascii "pref") m.parameters && is_pref e.pref) ≡ true
  pub which : ltb e.which (length m.properties) ≡ true

-- ---- PROP-ID: none, or a key text that is new

pub key-inv : (s : Seen) (i : ℕ) (ks : List Bytes) (k : Bytes) → key_from s i ks ≡ some k
    → (empty k || is_key_text k ≡ true) × (empty k || not (any (is_id i k) s.ids) ≡ true)
key-inv s i [] k e = subst (λ (k : Bytes). (empty k || is_key_text k ≡ true) × (empty k || not (any (is_id i k) s.ids) ≡ true)) (some_same e) (refl, refl)
key-inv s i (j ∷ []) k e =
    let p = provided-inv (is_key_text j && not (any (is_id i j) s.ids)) (some j) e in
    subst (λ (k : Bytes). (empty k || is_key_text k ≡ true) × (empty k || not (any (is_id i k) s.ids) ≡ true)) (some_same p.1)
    (or-second (empty j) _ (and_left (is_key_text j) _ p.0), or-second (empty j) _ (and_right (is_key_text j) _ p.0))
key-inv s i (j ∷ (l ∷ ks)) k e = none-some e

-- ---- PREF: none where the map does not take it

pub unnamed : (ns : List Bytes) (n : Bytes) (ps : List Param) → only_named ns ps ≡ true → among n ns ≡ false → values_named n ps ≡ []
unfolding only_named values_named flat named
unnamed ns n ps h e =
    rw (keep-none (named n) ps (all_none (λ p. among (lowered (param_name p)) ns) (named n) (λ p q. by_bool (named n p) (λ r. not-both (ap (λ (x : Bytes). among x ns) (sym (same_true (lowered (param_name p)) n r)) ∙ q) e) (λ r. r)) ps h))

pref-text : (vs : List Bytes) (p : Bytes) → pref_from vs ≡ some p → empty p || is_pref p ≡ true
pref-text [] p e = ap (λ (p : Bytes). empty p || is_pref p) (sym (some_same e))
pref-text (q ∷ []) p e =
    let i = provided-inv (is_pref q) (some q) e in
    or-second (empty p) (is_pref p) (ap is_pref (sym (some_same i.1)) ∙ i.0)
pref-text (q ∷ (r ∷ rs)) p e = none-some e

no-pref : (vs : List Bytes) (p : Bytes) → vs ≡ [] → pref_from vs ≡ some p → empty p ≡ true
no-pref vs p z e = let f : some [] ≡ some p = rw z at e in ap (λ (p : Bytes). empty p) (sym (some_same f))

pref-inv : (ns : List Bytes) (ps : List Param) (p : Bytes) → only_named ns ps ≡ true → pref_from (values_named (ascii "pref") ps) ≡ some p
    → empty p || (among (ascii "pref") ns && is_pref p) ≡ true
pref-inv ns ps p h e =
    by_bool (among (ascii "pref") ns)
    (λ q. rw q (pref-text (values_named (ascii "pref") ps) p e))
    (λ q. rw (no-pref (values_named (ascii "pref") ps) p (unnamed ns (ascii "pref") ps h q) e))

-- ---- TYPE

code_below : (n : ℕ) (v : Bytes) (c : ℕ) → code_of n v ≡ some c → below n c ≡ true
code_below n v c e = lt-ltb c n (omega (tests, position-inside (λ t. same (lowered v) (vcard_type t)) (take n type_names) c e, take-length n type_names))

pub types-inv : (n : ℕ) (vs : List Bytes) (ts : List ℕ) → types_from n vs ≡ some ts → (all (below n) ts ≡ true) × (in_order ts ≡ ts)
unfolding types_from
types-inv n vs ts e =
    let i = map-inv in_order (each (code_of n) (flat (map (parts 44) vs))) e in
    let b = all-test (below n) i.0 (each-gives (code_of n) (λ v. Unit {0}) (λ c. below n c ≡ true) (λ v c u q. code_below n v c q) (flat (map (parts 44) vs)) i.0 (units (flat (map (parts 44) vs))) i.1) in
    subst (λ (ts : List ℕ). (all (below n) ts ≡ true) × (in_order ts ≡ ts)) i.2 (in_order-all (below n) i.0 b, in_order-again i.0)
  where
    units : (vs : List Bytes) → All (λ v. Unit {0}) vs
    units [] = tt
    units (v ∷ vs) = (tt, units vs)

-- ---- the entry

pub entry-drawn : (s : Seen) (w : Slot) (l : Line) (e : Entry) → CleanLine l → ltb w.which (length w.map.properties) ≡ true → entry_of s w l ≡ some e
    → Drawn w.map e × (empty e.key || not (any (is_id w.index e.key) s.ids) ≡ true)
unfolding entry_of
entry-drawn s w l e h o q =
    let ps : List Param = besides_value l.params in
    let type : Bytes = value_type l.params in
    let n : Bool = empty l.group && only_named w.map.parameters ps in
    let a = provided-inv (n && takes_type w.map.form type) _ q in
    let k = chain-inv (key_from s w.index (values_named (ascii "prop-id") ps)) _ a.1 in
    let p = chain-inv (pref_from (values_named (ascii "pref") ps)) _ k.2 in
    let t = chain-inv (types_from w.map.types (values_named (ascii "type") ps)) _ p.2 in
    let v = chain-inv (read_as w.map.form type l.value) _ t.2 in
    let key = key-inv s w.index (values_named (ascii "prop-id") ps) k.0 k.1 in
    let types = types-inv w.map.types (values_named (ascii "type") ps) t.0 t.1 in
    let only = and_right (empty l.group) (only_named w.map.parameters ps) (and_left n (takes_type w.map.form type) a.0) in
    subst (λ (e : Entry). Drawn w.map e × (empty e.key || not (any (is_id w.index e.key) s.ids) ≡ true)) (some_same v.2) (
      record {
        key = key.0;
        texts = rw (flat-singly v.0) (read-well w.map.form type l.value v.0 h.value v.1);
        one_each = ap singly (flat-singly v.0);
        codes = types.0;
        order = types.1;
        pref = pref-inv w.map.parameters ps p.0 only p.1;
        which = o;
      },
      key.1,
    )
