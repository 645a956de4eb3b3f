-- Values of a kind noted by their places and prints, and those of another kind that meet them.
use mathlib.Core.Path.{◌≡◌, refl, sym, ap, subst, ◌∙◌}
use Rattle.std.specs.Prelude.{Err}
use Rattle.to_card_pen.specs.Refusal.{no_card}
use mathlib.Core.Bool.{Bool, true, false, ◌&&◌, ◌||◌, not}
use mathlib.Core.List.{List, [], ◌∷◌, ◌++◌, append-nil, append_assoc}
use mathlib.Core.Option.{Option, some}
use Prim.Native.Nat.{ℕ, zero, suc, ◌+◌, ◌≤◌, ◌<◌}
use native.Mathlib.Omega.{arith}
use lib.Dec.{eqb}
use lib.ListN.{length, take, drop, set, length-set}
use Rattle.text.specs.Places.{Read}
use Rattle.std.proofs.Common.{Continue, Break}
use Rattle.text.specs.Choice.{pick}
use Rattle.text.specs.Bytes.{Bytes, all, among}
use Rattle.text.specs.Places.{GivesT}
use Rattle.text.proofs.Choices.{none-some, some_same}
use Rattle.text.proofs.Same.{among_none, among-append}
use Rattle.json_text.specs.Tree.{elems_of}
use Rattle.json_text.specs.Syntax.{sep}
use Rattle.json_strings.specs.Decoded.{decoded_at}
use Rattle.json_prints.specs.Prints.{meets, printed, print_of, Names, Sought}
use Rattle.json_prints.proofs.Prints.{printed-below, meets-among, names-noted, no_names}
use Rattle.json_access.specs.Access.{EndsAt}
use Rattle.convert.specs.Value.{filled}
use Rattle.convert.specs.Carry.{apart}
use Rattle.convert.specs.FromJson.{Component, component, component_of, of_kind}
use Rattle.to_card_head.specs.Head.{TellsFilled}
use Rattle.to_card_parts.specs.Parts.{TellsComponent, Lists, values_of, value_if, Finding, found}
use Rattle.to_card_parts.proofs.Elements.{Far, far-first, now-to, first_of}
use Rattle.to_card_parts.proofs.Values.{values-none, values-more}
use Rattle.to_card_parts.proofs.Passes.{found_none, found_some}
use Rattle.to_card_order.specs.declared.Kept.{Kept}
use Rattle.to_card_order.specs.Order.{TellsApart, PrintsValue, Noted, MeetsNoted, ApartNoted, Keeps, NotesValue}
use Rattle.to_card_order.proofs.Apart.{apart_none, apart-one, and-false, parted}

-- ---- the print of a value

module _ (s : Bytes) (wanted : Bool) (value : ℕ) where
  no-print : ((x : Bytes) → decoded_at s value ≡ some x → value_if wanted x ≡ []) → PrintsValue s wanted value 65536
  no-print h = record { in-range = omega arith; print-is = λ n. absurd (n refl); value-is = λ n. absurd (n refl); value_none = λ e. h }

  pub prints-unwanted : wanted ≡ false → PrintsValue s wanted value 65536
  prints-unwanted e = no-print (λ x q. ap (λ (b : Bool). value_if b x) e)

  module _ (b : Bool) (told : TellsFilled s value b) where
    pub prints-empty : b ≡ false → PrintsValue s wanted value 65536
    prints-empty e = no-print (λ x q. ap (λ (f : Bool). pick (wanted && f) (x ∷ []) []) (sym (told x q) ∙ e) ∙ ap (λ (f : Bool). pick f (x ∷ []) []) (and-false wanted))

    pub prints-one : wanted ≡ true → b ≡ true → (r : ℕ) → r ≡ print_of 0 (decoded_at s value) → r ≤ 65536 → PrintsValue s wanted value r
    prints-one w e r h l = record {
      in-range = l;
      print-is = λ n. h;
      value-is = λ n x q. ap (λ (t : Bool). pick (t && filled x) (x ∷ []) []) w ∙ ap (λ (t : Bool). pick t (x ∷ []) []) (sym (told x q) ∙ e);
      value_none = λ z x q. absurd (omega (arith, z, h ∙ ap (print_of 0) q, printed-below 0 x (omega arith)));
    }

-- ---- a value that meets those noted

module _ (s : Bytes) (wanted : Bool) (value m : ℕ) (p : PrintsValue s wanted value m) (places prints : List ℕ) (n : ℕ) where
  pub meets-none : m ≡ 65536 → MeetsNoted s wanted value places prints n false
  meets-none e ws h x q = sym (ap (λ (vs : List Bytes). apart vs ws) (p.value_none e x q) ∙ apart_none ws)

  pub meets-as : (m ≡ 65536 → ⊥) → (r : Bool) → Sought s (decoded_at s value) places prints n r → MeetsNoted s wanted value places prints n r
  meets-as e r sought ws h x q =
      let a : r ≡ among x ws = sought ws h ∙ ap (λ (o : Option Bytes). meets s o (take n places)) q ∙ meets-among s x (take n places) (take n prints) ws h in
      ap not a ∙ apart-one x ws ∙ sym (ap (λ (vs : List Bytes). apart vs ws) (p.value-is e x q))

-- ---- the values of a kind

apart-nothing : (vs : List Bytes) → apart vs [] ≡ true
unfolding apart all
apart-nothing [] = refl
apart-nothing (v ∷ vs) = rw (among_none v) (apart-nothing vs)

nothing-noted : (s : Bytes) (places prints : List ℕ) (ws : List Bytes) → Noted s places prints 0 ws → ws ≡ []
unfolding Names
nothing-noted s places prints [] h = refl
nothing-noted s places prints (w ∷ ws) h = let e = h.1 in let z : ◌≡◌ {A = ℕ} 0 1 = cc in absurd (omega arith)

pub apart-unnoted : (s : Bytes) (at kind : ℕ) (places prints : List ℕ) (n : ℕ) → n ≡ 0 → ApartNoted s at kind places prints n true
apart-unnoted s at kind places prints n e cs l ws h =
    let w : ws ≡ [] = nothing-noted s places prints ws (subst (λ (k : ℕ). Noted s places prints k ws) e h) in
    sym (ap (apart (values_of kind cs)) w ∙ apart-nothing (values_of kind cs))

abbrev pub Parting : Bytes → ℕ → ℕ → List ℕ → List ℕ → ℕ → ℕ → Bool → Type 0
Parting s at kind places prints n i ok = (cs : List Component) (l : Lists s at cs) (ws : List Bytes) → Noted s places prints n ws
    → (past : List Component) × Far component_of 13 s (elems_of l.elems) l.rest i past × (ok ≡ apart (values_of kind past) ws)

pub parting-first : (s : Bytes) (at kind : ℕ) (places prints : List ℕ) (n : ℕ) → Parting s at kind places prints n at true
parting-first s at kind places prints n cs l ws h =
    ([], far-first component_of 13 s l.units l.elems l.rest at l.read l.are, sym (ap (λ (vs : List Bytes). apart vs ws) (values-none kind) ∙ apart_none ws))

module _ (s : Bytes) (at kind : ℕ) (places prints : List ℕ) (n i : ℕ) (ok : Bool) (going : Parting s at kind places prints n i ok) (f : Finding) (tells : TellsComponent s i f) where
  pub parts-wrong : f ≡ Err no_card → ApartNoted s at kind places prints n ok
  parts-wrong e cs l ws h =
      let g = going cs l ws h in
      let y = first_of g.1 in
      none-some (sym (y.2 (found_none s f (component_of y.0) (tells y.0 y.1) e)) ∙ l.is)

  module _ (k v : ℕ) (e : f ≡ found k v) (c : Bool) (met : MeetsNoted s (eqb kind k) v places prints n c) (end : ℕ) (told : EndsAt 13 s i end) where
    pub parting-on : (j : ℕ) → GivesT s end (sep 93 zero suc (drop end s)) (Continue j) → Parting s at kind places prints n j (ok && not c)
    parting-on j w cs l ws h =
        let g = going cs l ws h in
        let y = now-to g.1 end told in
        let d = found_some s f (component_of y.val) (tells y.val y.is-val) k v e in
        (g.0 ++ (component k d.0 ∷ []), y.goes (component k d.0) d.1 j w, parted kind k ok c g.0 d.0 ws (met ws h d.0 d.2) g.2)

    pub parts_all : (u : Read) → GivesT s end (sep 93 zero suc (drop end s)) (Break u) → ApartNoted s at kind places prints n (ok && not c)
    parts_all u w cs l ws h =
        let g = going cs l ws h in
        let y = now-to g.1 end told in
        let d = found_some s f (component_of y.val) (tells y.val y.is-val) k v e in
        let z : g.0 ++ (component k d.0 ∷ []) ≡ cs = some_same (sym (y.ends (component k d.0) d.1 u w) ∙ l.is) in
        parted kind k ok c g.0 d.0 ws (met ws h d.0 d.2) g.2 ∙ ap (λ (t : List Component). apart (values_of kind t) ws) z

-- ---- one value more

module _ (s : Bytes) (at one : ℕ) (wanted : Bool) (value m : ℕ) (p : PrintsValue s wanted value m) (places prints : List ℕ) (n : ℕ) where
  pub notes-none : n ≤ 2304 → m ≡ 65536 → NotesValue s at one wanted value places prints n places prints (record { count = n; ok = true })
  notes-none l e = record {
    few = l;
    long-places = refl;
    long-prints = refl;
    says = λ cs y ws h x q. record {
      gone = [];
      noted = ws;
      these = sym (ap (λ (v : List Bytes). ws ++ v) (p.value_none e x q) ∙ append-nil ws);
      told = sym (apart-nothing (values_of one cs));
      are = h;
    };
  }

  module _ (e : m ≡ 65536 → ⊥) where
    print-of : (x : Bytes) → decoded_at s value ≡ some x → m ≡ printed 0 x
    print-of x q = p.print-is e ∙ ap (print_of 0) q

    pub notes-more : n < 2304 → 2304 ≤ length places → 2304 ≤ length prints
        → NotesValue s at one wanted value places prints n (set places n value) (set prints n m) (record { count = n + 1; ok = true })
    notes-more l a b = record {
      few = omega arith;
      long-places = length-set places n value;
      long-prints = length-set prints n m;
      says = λ cs y ws h x q. record {
        gone = [];
        noted = ws ++ (x ∷ []);
        these = sym (ap (λ (v : List Bytes). ws ++ v) (p.value-is e x q));
        told = sym (apart-nothing (values_of one cs));
        are = names-noted s x places prints n value m ws (omega arith) (omega arith) h q (print-of x q);
      };
    }

    pub notes-anew : 2304 ≤ length places → 2304 ≤ length prints → (ok : Bool) → ApartNoted s at one places prints n ok
        → NotesValue s at one wanted value places prints n (set places 0 value) (set prints 0 m) (record { count = 1; ok = ok })
    notes-anew a b ok met = record {
      few = omega arith;
      long-places = length-set places 0 value;
      long-prints = length-set prints 0 m;
      says = λ cs y ws h x q. record {
        gone = ws;
        noted = x ∷ [];
        these = sym (ap (λ (v : List Bytes). ws ++ v) (p.value-is e x q));
        told = met cs y ws h;
        are = names-noted s x places prints 0 value m [] (omega arith) (omega arith) (no_names s places prints) q (print-of x q);
      };
    }

-- ---- all values of the other kind

apart-both : (vs us ws : List Bytes) → apart vs (us ++ ws) ≡ apart vs us && apart vs ws
unfolding apart all
apart-both [] us ws = refl
apart-both (v ∷ vs) us ws = rw (among-append v us ws, apart-both vs us ws) (go (among v us) (among v ws) (apart vs us) (apart vs ws))
  where
    go : (a b c d : Bool) → not (a || b) && (c && d) ≡ (not a && c) && (not b && d)
    go true b c d = refl
    go false true true d = refl
    go false true false d = refl
    go false false true d = refl
    go false false false d = refl

module _ {s : Bytes} {vs ws : List Bytes} {places prints : List ℕ} {n : ℕ} {ok : Bool} (so : Keeps s vs ws places prints (record { count = n; ok = ok })) where
  keeps_then : (v : List Bytes) {places' prints' : List ℕ} (t : Kept) → ((us : List Bytes) → Noted s places prints n us → Keeps s vs (us ++ v) places' prints' t)
      → Keeps s vs (ws ++ v) places' prints' (record { count = t.count; ok = ok && t.ok })
  keeps_then v t more =
      let k = more so.noted so.are in
      record {
        gone = so.gone ++ k.gone;
        noted = k.noted;
        these = append_assoc so.gone k.gone k.noted ∙ ap (λ (l : List Bytes). so.gone ++ l) k.these ∙ sym (append_assoc so.gone so.noted v) ∙ ap (λ (l : List Bytes). l ++ v) so.these;
        told = ap (λ (b : Bool). b && t.ok) so.told ∙ ap (λ (b : Bool). apart vs so.gone && b) k.told ∙ sym (apart-both vs so.gone k.gone);
        are = k.are;
      }

  keeps-end : (r : Bool) → ((us : List Bytes) → Noted s places prints n us → r ≡ apart vs us) → (ok && r) ≡ apart vs ws
  keeps-end r met =
      ap (λ (b : Bool). b && r) so.told ∙ ap (λ (b : Bool). apart vs so.gone && b) (met so.noted so.are) ∙ sym (apart-both vs so.gone so.noted) ∙ ap (apart vs) so.these

abbrev pub Noting : Bytes → ℕ → ℕ → ℕ → ℕ → List ℕ → List ℕ → ℕ → Bool → Type 0
Noting s at one other i places prints n ok = (cs : List Component) (l : Lists s at cs)
    → (past : List Component) × Far component_of 13 s (elems_of l.elems) l.rest i past × Keeps s (values_of one cs) (values_of other past) places prints (record { count = n; ok = ok })

pub noting-first : (s : Bytes) (at one other : ℕ) (places prints : List ℕ) → Noting s at one other at places prints 0 true
noting-first s at one other places prints cs l = (
  [],
  far-first component_of 13 s l.units l.elems l.rest at l.read l.are,
  record { gone = []; noted = []; these = sym (values-none other); told = sym (apart-nothing (values_of one cs)); are = no_names s places prints },
)

module _ (s : Bytes) (at one other i : ℕ) (places prints : List ℕ) (n : ℕ) (ok : Bool) (going : Noting s at one other i places prints n ok) (f : Finding) (tells : TellsComponent s i f) where
  pub notes-wrong : f ≡ Err no_card → TellsApart s at one other ok
  notes-wrong e cs l =
      let g = going cs l in
      let y = first_of g.1 in
      none-some (sym (y.2 (found_none s f (component_of y.0) (tells y.0 y.1) e)) ∙ l.is)

  module _ (k v : ℕ) (e : f ≡ found k v) (places' prints' : List ℕ) (t : Kept) (notes : NotesValue s at one (eqb other k) v places prints n places' prints' t)
      (end : ℕ) (told : EndsAt 13 s i end) where
    more : (cs : List Component) → Lists s at cs → (past : List Component) (x : Bytes) → decoded_at s v ≡ some x → Keeps s (values_of one cs) (values_of other past) places prints (record { count = n; ok = ok })
        → Keeps s (values_of one cs) (values_of other (past ++ (component k x ∷ []))) places' prints' (record { count = t.count; ok = ok && t.ok })
    more cs l past x q so =
        subst (λ (ws : List Bytes). Keeps s (values_of one cs) ws places' prints' (record { count = t.count; ok = ok && t.ok })) (sym (values-more other past (component k x)))
        (keeps_then so (of_kind other (component k x)) t (λ us h. notes.says cs l us h x q))

    pub noting-on : (j : ℕ) → GivesT s end (sep 93 zero suc (drop end s)) (Continue j) → Noting s at one other j places' prints' t.count (ok && t.ok)
    noting-on j w cs l =
        let g = going cs l in
        let y = now-to g.1 end told in
        let d = found_some s f (component_of y.val) (tells y.val y.is-val) k v e in
        (g.0 ++ (component k d.0 ∷ []), y.goes (component k d.0) d.1 j w, more cs l g.0 d.0 d.2 g.2)

    pub notes-all : (u : Read) → GivesT s end (sep 93 zero suc (drop end s)) (Break u) → (c : Bool) → ApartNoted s at one places' prints' t.count c → TellsApart s at one other ((ok && t.ok) && c)
    notes-all u w c met cs l =
        let g = going cs l in
        let y = now-to g.1 end told in
        let d = found_some s f (component_of y.val) (tells y.val y.is-val) k v e in
        let z : g.0 ++ (component k d.0 ∷ []) ≡ cs = some_same (sym (y.ends (component k d.0) d.1 u w) ∙ l.is) in
        keeps-end (more cs l g.0 d.0 d.2 g.2) c (λ us h. met cs l us h) ∙ ap (λ (p : List Component). apart (values_of one cs) (values_of other p)) z
