-- The law: a written card reads back as its model, whole.
use mathlib.Core.Path.{◌≡◌, refl, sym, ap, ap₂, ◌∙◌}
use mathlib.Core.Bool.{true, false, not}
use mathlib.Core.List.{List, [], ◌∷◌, ◌++◌, map, append-nil}
use mathlib.Core.Option.{Option, none, some}
use Prim.Native.Nat.{ℕ, suc, ◌≤◌}
use native.Mathlib.Omega.{arith}
use lib.ListN.{length}
use lib.Dec.{eqb}
use borrow.Author.Tests.{eq-eqb, ne_eqb}
use Rattle.text.specs.Choice.{pick}
use Rattle.text.specs.Bytes.{Bytes, all, empty}
use Rattle.text.proofs.Cases.{by_bool}
use Rattle.line.proofs.Lines.{upper_line}
use Rattle.convert.specs.Table.{Map, maps}
use Rattle.convert.specs.Model.{Entry, Card, has_parts, no_parts}
use Rattle.convert.specs.Classify.{nothing, classed_after, classed}
use Rattle.convert.specs.FromCard.{Placed, placed, Gives, gathered, first_of, or_else, in_map, with_keys, keyed_entries, maps_from, card_of_classed, card_of_lines}
use Rattle.convert.specs.ToCard.{card_lines}
use Rattle.convert.proofs.Keyed.{keys-given}
use Rattle.convert.proofs.NameJson.{no-parts}
use Rattle.home.proofs.Proper.{ProperEntries, ProperMaps, ProperCard}
use Rattle.home.proofs.Given.{no_gives, plus, gathered-given, in_map-append}
use Rattle.home.proofs.MapLines.{placed_from, key-filled, key_of}
use Rattle.home.proofs.CardClasses.{optional, card_gives, card-classed, seven}

-- ---- maps

keys_filled : (m : Map) (es : List Entry) → ProperEntries m es → all (λ k. not (empty k)) (map key_of es) ≡ true
unfolding all
keys_filled m [] g = refl
keys_filled m (e ∷ es) g = rw (key-filled e.key g.0.proper.key) (keys_filled m es g.1)

own_keys : (es : List Entry) → with_keys (map key_of es) es ≡ es
unfolding with_keys
own_keys [] = refl
own_keys (e ∷ es) = ap (λ (l : List Entry). e ∷ l) (own_keys es)

pub keyed-back : (m : Map) (es : List Entry) → ProperEntries m es → keyed_entries m es ≡ es
keyed-back m es g = rw (keys-given m.prefix (map key_of es) (keys_filled m es g)) (own_keys es)

in-own : (i : ℕ) (es : List Entry) → in_map i (map (placed i) es) ≡ es
unfolding in_map
in-own i [] = refl
in-own i (e ∷ es) = rw (eq-eqb i i refl, in-own i es)

in-other : (i j : ℕ) (es : List Entry) → eqb j i ≡ false → in_map j (map (placed i) es) ≡ []
unfolding in_map
in-other i j [] h = refl
in-other i j (e ∷ es) h = rw h (in-other i j es h)

-- nothing of a map below i
in-later : (i j : ℕ) (ess : List (List Entry)) → suc j ≤ i → in_map j (placed_from i ess) ≡ []
unfolding placed_from in_map
in-later i j [] h = refl
in-later i j (es ∷ ess) h = rw (in_map-append j (map (placed i) es) (placed_from (suc i) ess), in-other i j es (ne_eqb j i (omega arith)), in-later (suc i) j ess (omega arith))

pub maps-back : (i : ℕ) (ms : List Map) (ess : List (List Entry)) (ps : List Placed) → ((j : ℕ) → i ≤ j → in_map j ps ≡ in_map j (placed_from i ess)) → ProperMaps ms ess → maps_from i ms ps ≡ ess
unfolding maps_from placed_from
maps-back i [] [] ps h g = refl
maps-back i [] (es ∷ ess) ps h g = absurd g
maps-back i (m ∷ ms) [] ps h g = absurd g
maps-back i (m ∷ ms) (es ∷ ess) ps h g =
    let own : in_map i ps ≡ es = h i (omega arith) ∙ in_map-append i (map (placed i) es) (placed_from (suc i) ess) ∙ ap₂ ◌++◌ (in-own i es) (in-later (suc i) i ess (omega arith)) ∙ append-nil es in
    let next : (j : ℕ) → suc i ≤ j → in_map j ps ≡ in_map j (placed_from (suc i) ess) =
    λ j l. h j (omega arith) ∙ in_map-append j (map (placed i) es) (placed_from (suc i) ess) ∙ ap (λ (l : List Entry). l ++ in_map j (placed_from (suc i) ess)) (in-other i j es (ne_eqb j i (omega arith))) in
    rw own (ap₂ ◌∷◌ (keyed-back m es g.0) (maps-back (suc i) ms ess ps next g.2))

-- ---- what may be absent

none-parts : (ps : List (List Bytes)) → length ps ≡ 7 → has_parts ps ≡ false → no_parts ≡ ps
none-parts = seven (λ ps. has_parts ps ≡ false → no_parts ≡ ps) (λ a b c d e f g h. sym (no-parts a b c d e f g h))

parts-back : (ps : List (List Bytes)) → length ps ≡ 7 → or_else (first_of (pick (has_parts ps) (ps ∷ []) [])) no_parts ≡ ps
parts-back ps q = by_bool (has_parts ps) (λ e. rw e) (λ e. rw e (none-parts ps q e))

kind-back : (k : Bytes) → or_else (first_of (pick (empty k) [] (k ∷ []))) [] ≡ k
kind-back [] = refl
kind-back (c ∷ k) = refl

full_back : (v : Option Bytes) → first_of (optional v) ≡ v
full_back (some v) = refl
full_back none = refl

-- ---- the whole

-- what the written lines give to one part of the model
module _ (c : Card) (p : ProperCard c) where
  gathers : {A : Type 0} (f : Gives → List A) → f no_gives ≡ [] → ((a b : Gives) → f (plus a b) ≡ f a ++ f b) → gathered f (classed_after nothing (map upper_line (card_lines c))) ≡ f (card_gives c)
  gathers f z q = gathered-given f z q nothing (card_lines c) ∙ ap f (card-classed c p).gives

  the-uid : gathered (λ (g : Gives). g.uid) (classed_after nothing (map upper_line (card_lines c))) ≡ c.uid ∷ []
  unfolding plus
  the-uid = gathers (λ (g : Gives). g.uid) refl (λ a b. refl)

  the-kind : gathered (λ (g : Gives). g.kind) (classed_after nothing (map upper_line (card_lines c))) ≡ pick (empty c.kind) [] (c.kind ∷ [])
  unfolding plus
  the-kind = gathers (λ (g : Gives). g.kind) refl (λ a b. refl)

  the-full : gathered (λ (g : Gives). g.full) (classed_after nothing (map upper_line (card_lines c))) ≡ optional c.full
  unfolding plus
  the-full = gathers (λ (g : Gives). g.full) refl (λ a b. refl)

  the_parts : gathered (λ (g : Gives). g.parts) (classed_after nothing (map upper_line (card_lines c))) ≡ pick (has_parts c.parts) (c.parts ∷ []) []
  unfolding plus
  the_parts = gathers (λ (g : Gives). g.parts) refl (λ a b. refl)

  the-entries : gathered (λ (g : Gives). g.entry) (classed_after nothing (map upper_line (card_lines c))) ≡ placed_from 0 c.maps
  unfolding plus
  the-entries = gathers (λ (g : Gives). g.entry) refl (λ a b. refl)

  the_members : gathered (λ (g : Gives). g.member) (classed_after nothing (map upper_line (card_lines c))) ≡ c.members
  unfolding plus
  the_members = gathers (λ (g : Gives). g.member) refl (λ a b. refl)

  the_kept : gathered (λ (g : Gives). g.kept) (classed_after nothing (map upper_line (card_lines c))) ≡ c.kept
  unfolding plus
  the_kept = gathers (λ (g : Gives). g.kept) refl (λ a b. refl)

  -- THE LAW
  pub card-home : (stem : Bytes) (n : ℕ) → card_of_lines stem n (map upper_line (card_lines c)) ≡ c
  unfolding card_of_lines classed card_of_classed
  card-home stem n =
      rw (the-uid, the-kind, the-full, the_parts, the-entries, the_members, the_kept)
      (rw (kind-back c.kind, full_back c.full, parts-back c.parts p.seven, maps-back 0 maps c.maps (placed_from 0 c.maps) (λ j l. refl) p.entries))
