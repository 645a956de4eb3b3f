-- The line of an entry is read back as that entry.
use mathlib.Core.Path.{◌≡◌, refl, ap, ◌∙◌}
use mathlib.Core.Bool.{Bool, true, false, ◌&&◌, ◌||◌}
use mathlib.Core.List.{List, [], ◌∷◌, ◌++◌, map, append-nil}
use mathlib.Core.Option.{some}
use Prim.Native.Nat.{ℕ}
use lib.Dec.{eqb, ltb}
use borrow.Author.Tests.{eqb-true, ltb-true}
use native.Mathlib.Omega.{arith}
use Rattle.text.proofs.Lists.{all_head}
use Rattle.text.specs.Choice.{pick}
use Rattle.text.specs.Bytes.{Bytes, ascii, any, all, empty, same, among, lower, lowered, between, flat}
use Rattle.text.proofs.Cases.{by_bool, and_left, and_right, not-both}
use Rattle.line.specs.Grammar.{Param, param}
use Rattle.line.specs.Params.{values_named, lacking, only_named, value_type, besides_value}
use Rattle.line.proofs.Named.{values_named-append, lacking-append, only_named-append, values_named-one, values_named-other, lacking-one, lacking-other, only_named-one, values_named-none, lacking-none, only_named-none}
use Rattle.convert.specs.Table.{Map, Slot, in_order}
use Rattle.convert.specs.Model.{Entry, singly}
use Rattle.convert.specs.Value.{is_key_text, is_pref, write_as, written_type}
use Rattle.convert.specs.Classify.{is_id, Seen, pref_from, entry_of}
use Rattle.convert.specs.Property.{param_of}
use Rattle.convert.specs.ToCard.{entry_line}
use Rattle.convert.proofs.Forms.{formed, type_of, read-form, takes-written, type-lowered}
use Rattle.convert.proofs.Types.{type_text, below, types-read}

-- a row's fields agree: TYPE has nine values, every map takes PROP-ID, and one that takes values of TYPE takes TYPE
abbrev pub coherent : Map → Bool
coherent m = ltb m.types 10 && (among (ascii "prop-id") m.parameters && (eqb m.types 0 || among (ascii "type") m.parameters))

pub few-types : (m : Map) → coherent m ≡ true → ltb m.types 10 ≡ true
few-types m h = and_left (ltb m.types 10) _ h

takes_key : (m : Map) → coherent m ≡ true → among (ascii "prop-id") m.parameters ≡ true
takes_key m h = and_left (among (ascii "prop-id") m.parameters) _ (and_right (ltb m.types 10) _ h)

takes-types : (m : Map) → coherent m ≡ true → eqb m.types 0 || among (ascii "type") m.parameters ≡ true
takes-types m h = and_right (among (ascii "prop-id") m.parameters) _ (and_right (ltb m.types 10) _ h)

-- an entry that a map can have
pub record Proper (m : Map) (e : Entry) : Type 0 where
  pub key : is_key_text e.key ≡ true
  pub texts : formed m.form (flat e.parts) ≡ true
  pub one_each : singly (flat e.parts) ≡ e.parts
  pub codes : all (below m.types) e.types ≡ true
  pub order : in_order e.types ≡ e.types
  pub row : coherent m ≡ true
  pub pref : empty e.pref || (among (ascii "pref") m.parameters && is_pref e.pref) ≡ true

-- ---- a parameter that is there where it has values

pub of-same : (n : Bytes) (vs : List Bytes) → same (lowered n) n ≡ true → values_named n (param_of n vs) ≡ vs
of-same n [] e = values_named-none n
of-same n (v ∷ vs) e = values_named-one n n (v ∷ vs) e

pub of_other : (n m : Bytes) (vs : List Bytes) → same (lowered m) n ≡ false → values_named n (param_of m vs) ≡ []
of_other n m [] e = values_named-none n
of_other n m (v ∷ vs) e = values_named-other n m (v ∷ vs) e

without-same : (n : Bytes) (vs : List Bytes) → same (lowered n) n ≡ true → lacking n (param_of n vs) ≡ []
without-same n [] e = lacking-none n
without-same n (v ∷ vs) e = lacking-one n n (v ∷ vs) e

without_other : (n m : Bytes) (vs : List Bytes) → same (lowered m) n ≡ false → lacking n (param_of m vs) ≡ param_of m vs
without_other n m [] e = lacking-none n
without_other n m (v ∷ vs) e = lacking-other n m (v ∷ vs) e

only_of : (ns : List Bytes) (m : Bytes) (vs : List Bytes) → among (lowered m) ns || empty vs ≡ true → only_named ns (param_of m vs) ≡ true
only_of ns m [] e = only_named-none ns
only_of ns m (v ∷ vs) e = only_named-one ns m (v ∷ vs) (by_bool (among (lowered m) ns) (λ q. q) (λ q. not-both (rw q at e) refl))

-- ---- the four parameters of an entry

module _ (ks ps ts vs : List Bytes) where
  abbrev pub four : List Param
  four = param_of (ascii "prop-id") ks ++ (param_of (ascii "pref") ps ++ param_of (ascii "type") ts ++ param_of (ascii "value") vs)

  abbrev pub three : List Param
  three = param_of (ascii "prop-id") ks ++ (param_of (ascii "pref") ps ++ param_of (ascii "type") ts)

  besides : besides_value four ≡ three
  unfolding besides_value same lowered lower between
  besides =
      rw (
        lacking-append (ascii "value") (param_of (ascii "prop-id") ks) (param_of (ascii "pref") ps ++ param_of (ascii "type") ts ++ param_of (ascii "value") vs),
        lacking-append (ascii "value") (param_of (ascii "pref") ps ++ param_of (ascii "type") ts) (param_of (ascii "value") vs),
        lacking-append (ascii "value") (param_of (ascii "pref") ps) (param_of (ascii "type") ts),
        without_other (ascii "value") (ascii "prop-id") ks refl,
        without_other (ascii "value") (ascii "pref") ps refl,
        without_other (ascii "value") (ascii "type") ts refl,
        without-same (ascii "value") vs refl,
        append-nil (param_of (ascii "pref") ps ++ param_of (ascii "type") ts),
      )

  values-three : (n : Bytes) → values_named n three ≡ values_named n (param_of (ascii "prop-id") ks) ++ (values_named n (param_of (ascii "pref") ps) ++ values_named n (param_of (ascii "type") ts))
  values-three n = rw (values_named-append n (param_of (ascii "prop-id") ks) (param_of (ascii "pref") ps ++ param_of (ascii "type") ts), values_named-append n (param_of (ascii "pref") ps) (param_of (ascii "type") ts))

  the-key : values_named (ascii "prop-id") three ≡ ks
  unfolding same lowered lower between
  the-key =
      values-three (ascii "prop-id")
      ∙ rw (of-same (ascii "prop-id") ks refl, of_other (ascii "prop-id") (ascii "pref") ps refl, of_other (ascii "prop-id") (ascii "type") ts refl, append-nil ks)

  the-pref : values_named (ascii "pref") three ≡ ps
  unfolding same lowered lower between
  the-pref =
      values-three (ascii "pref")
      ∙ rw (of_other (ascii "pref") (ascii "prop-id") ks refl, of-same (ascii "pref") ps refl, of_other (ascii "pref") (ascii "type") ts refl, append-nil ps)

  the-types : values_named (ascii "type") three ≡ ts
  unfolding same lowered lower between
  the-types =
      values-three (ascii "type")
      ∙ rw (of_other (ascii "type") (ascii "prop-id") ks refl, of_other (ascii "type") (ascii "pref") ps refl, of-same (ascii "type") ts refl)

  pub the_value : values_named (ascii "value") four ≡ vs
  unfolding same lowered lower between
  the_value =
      rw (
        values_named-append (ascii "value") (param_of (ascii "prop-id") ks) (param_of (ascii "pref") ps ++ param_of (ascii "type") ts ++ param_of (ascii "value") vs),
        values_named-append (ascii "value") (param_of (ascii "pref") ps ++ param_of (ascii "type") ts) (param_of (ascii "value") vs),
        values_named-append (ascii "value") (param_of (ascii "pref") ps) (param_of (ascii "type") ts),
        of_other (ascii "value") (ascii "prop-id") ks refl,
        of_other (ascii "value") (ascii "pref") ps refl,
        of_other (ascii "value") (ascii "type") ts refl,
        of-same (ascii "value") vs refl,
      )

  only-three : (ns : List Bytes) → among (ascii "prop-id") ns ≡ true → among (ascii "pref") ns || empty ps ≡ true → among (ascii "type") ns || empty ts ≡ true → only_named ns three ≡ true
  unfolding lowered lower between
  only-three ns a b c =
      rw (
        only_named-append ns (param_of (ascii "prop-id") ks) (param_of (ascii "pref") ps ++ param_of (ascii "type") ts),
        only_named-append ns (param_of (ascii "pref") ps) (param_of (ascii "type") ts),
        only_of ns (ascii "prop-id") ks (rw a),
        only_of ns (ascii "pref") ps b,
        only_of ns (ascii "type") ts c,
      )

-- ---- the entry

pub pref_values : Bytes → List Bytes
pref_values p = pick (empty p) [] (p ∷ [])

pref-param : (p : Bytes) → pick (empty p) [] (param (ascii "pref") (p ∷ []) ∷ []) ≡ param_of (ascii "pref") (pref_values p)
unfolding pref_values
pref-param [] = refl
pref-param (c ∷ p) = refl

pub entry-params : (m : Map) (e : Entry) → (entry_line m e).params ≡ four (e.key ∷ []) (pref_values e.pref) (map type_text e.types) (written_type m.form (flat e.parts))
unfolding entry_line
entry-params m e = rw (pref-param e.pref)

read-pref : (p : Bytes) (b : Bool) → empty p || (b && is_pref p) ≡ true → pref_from (pref_values p) ≡ some p
unfolding pref_values
read-pref [] b h = refl
read-pref (c ∷ p) b h = rw (and_right b _ h)

-- an entry has a preference or types only where the map takes PREF or TYPE
pref-listed : (b : Bool) (p : Bytes) → empty p || (b && is_pref p) ≡ true → b || empty (pref_values p) ≡ true
unfolding pref_values
pref-listed true p h = refl
pref-listed false [] h = refl
pref-listed false (c ∷ p) h = not-both h refl

types-listed : (n : ℕ) (b : Bool) (ts : List ℕ) → eqb n 0 || b ≡ true → all (below n) ts ≡ true → b || empty (map type_text ts) ≡ true
types-listed n true ts q h = refl
types-listed n false [] q h = refl
types-listed n false (t ∷ ts) q h =
    by_bool (eqb n 0) (λ z. let l = ltb-true t n (all_head (below n) t ts h) in let e = eqb-true n 0 z in absurd (omega arith)) (λ z. not-both (rw z at q) refl)

entry-type : (m : Map) (e : Entry) → value_type (entry_line m e).params ≡ type_of m.form (flat e.parts)
unfolding value_type
entry-type m e =
    rw (entry-params m e, the_value (e.key ∷ []) (pref_values e.pref) (map type_text e.types) (written_type m.form (flat e.parts))) (type-lowered m.form (flat e.parts))

entry_value : (m : Map) (e : Entry) → (entry_line m e).value ≡ write_as m.form (flat e.parts)
unfolding entry_line
entry_value m e = refl

entry-group : (m : Map) (e : Entry) → (entry_line m e).group ≡ []
unfolding entry_line
entry-group m e = refl

-- its key is valid, and no earlier line of the map has it
pub entry_read : (s : Seen) (w : Slot) (e : Entry) → Proper w.map e → w.which ≡ e.which → any (is_id w.index e.key) s.ids ≡ false → entry_of s w (entry_line w.map e) ≡ some e
unfolding entry_of
entry_read s w e g q n =
    let m : Map = w.map in
    let ks : List Bytes = e.key ∷ [] in
    let ps : List Bytes = pref_values e.pref in
    let ts : List Bytes = map type_text e.types in
    let vs : List Bytes = written_type m.form (flat e.parts) in
    let b : besides_value (entry_line m e).params ≡ three ks ps ts vs = ap besides_value (entry-params m e) ∙ besides ks ps ts vs in
    rw (
      entry-group m e,
      b,
      entry-type m e,
      only-three ks ps ts vs m.parameters (takes_key m g.row) (pref-listed (among (ascii "pref") m.parameters) e.pref g.pref)
          (types-listed m.types (among (ascii "type") m.parameters) e.types (takes-types m g.row) g.codes),
      takes-written m.form (flat e.parts),
      the-key ks ps ts vs,
      the-pref ks ps ts vs,
      the-types ks ps ts vs,
      g.key,
      n,
      read-pref e.pref (among (ascii "pref") m.parameters) g.pref,
      types-read m.types e.types (few-types m g.row) g.codes g.order,
      entry_value m e,
      read-form m.form (flat e.parts) g.texts,
      g.one_each,
      q,
    )
