-- From the class that 01 gives a line to the answer, name by name.
use mathlib.Core.Path.{◌≡◌, refl, sym, ap, ◌∙◌}
use mathlib.Core.Bool.{Bool, true, false, ◌&&◌, not}
use mathlib.Core.List.{List, [], ◌∷◌}
use mathlib.Core.Option.{Option, none, some}
use Prim.Native.Nat.{ℕ, ◌+◌, ◌<◌}
use native.Mathlib.Omega.{arith}
use lib.Dec.{eqb}
use Rattle.text.specs.Choice.{pick, with-some, provided, is_some}
use Rattle.text.specs.Bytes.{Bytes, empty, among, lowered}
use Rattle.text.proofs.Cases.{by_bool, not-both}
use Rattle.json_text.specs.Tree.{Json}
use Rattle.line.specs.Grammar.{Line}
use Rattle.line.specs.Params.{besides_value}
use Rattle.line.specs.Text.{read_text}
use Rattle.convert.specs.Table.{Slot}
use Rattle.convert.specs.Model.{Entry}
use Rattle.convert.specs.Value.{is_key_text, read_name}
use Rattle.convert.specs.Classify.{Class, as_dropped, as-full, as_parts, as-entry, as_member, as-kept, Seen, Id, id, with_id, see, bare, is_derived, full_class, parts_class, member_class, entry_of, entry_class, classify}
use Rattle.line_table.specs.Table.{part, line_in}
use Rattle.convert_entry.specs.Rows.{names_in, code_of, Is}
use Rattle.convert_entry.proofs.Classes.{entry-there}
use Rattle.table_entry.specs.Key.{EntryKey}
use Rattle.table_entry.specs.declared.Key.TheVariants.{Bad, Free, At as At-key}
use Rattle.class_properties.specs.Names.{types_of, form_of, Slotted}
use Rattle.class_properties.proofs.Numbers.{number_bound}
use Rattle.class_properties.proofs.Classes.{slotted, version-class, uid-class, kind-class, full-class, parts-class, member-class, map-class, other-class}
use Rattle.class_name_lines.specs.Name.{FullClass, PartsClass}
use Rattle.class_member.specs.Member.{MemberAt}
use Rattle.class_line.specs.Class.{id_used, seen_with, with_member, AnyFlags, FullFlags, PartsFlags, Numbered}
use Rattle.class_line.specs.declared.Class.TheVariants.{Kept, Dropped, Version, Uid, Kind, Full, Parts, Entry as Entry-of, Keyed, Member}

-- ---- classes by what they are made of

with-of : {A : Type 0} (P : Class → Type 0) (f : A → Class) → ((a : A) → P (f a)) → P as-kept → (o : Option A) → P (with-some o f as-kept)
with-of P f h k none = k
with-of P f h k (some a) = h a

member-code : (u : Bool) (n : Bytes) (j : Json) → code_of (pick u as-kept (as_member n j)) ≡ pick u 16 23
member-code true n j = refl
member-code false n j = refl

member-sees : (seen : Seen) (u : Bool) (n : Bytes) (j : Json) → see seen (pick u as-kept (as_member n j)) ≡ pick u seen (with_member seen n)
member-sees seen true n j = refl
member-sees seen false n j = refl

kept_of : (i : ℕ) (o : Option Entry) → is_some o ≡ false → with-some o (as-entry i) as-kept ≡ as-kept
kept_of i none h = refl
kept_of i (some e) h = not-both refl h

abbrev with_ids : Seen → List Id → Seen
with_ids seen is = record { full = seen.full; parts = seen.parts; ids = is; members = seen.members }

free-sees : (seen : Seen) (i : ℕ) (key : Bytes) → key ≡ [] → with_ids seen (with_id i key seen.ids) ≡ seen
free-sees seen i key e = rw e

key-filled : (k : Bytes) → is_key_text k ≡ true → empty k ≡ false
unfolding is_key_text
key-filled [] h = not-both h refl
key-filled (c ∷ k) h = refl

keyed-sees : (seen : Seen) (i j : ℕ) (key p : Bytes) → j ≡ i → key ≡ p → is_key_text p ≡ true → with_ids seen (with_id j key seen.ids) ≡ with_ids seen (id i p ∷ seen.ids)
keyed-sees seen i j key p a b h = rw (a, b, key-filled p h)

module _ (s : Bytes) (t : List ℕ) where
  abbrev l : Line
  l = line_in s t

  -- ---- names that stand alone

  pub of-kept : ((seen : Seen) → classify seen l ≡ as-kept) → AnyFlags s t Kept
  of-kept h full parts = record { within = tt; code = λ seen a b. ap code_of (h seen); sees = λ seen a b. ap (see seen) (h seen) }

  pub of_other : Numbered s t 0 → AnyFlags s t Kept
  of_other n = of-kept (λ seen. other-class seen l n)

  pub of-version : Numbered s t 1 → AnyFlags s t Version
  of-version n full parts = record {
    within = tt;
    code = λ seen a b. ap code_of (version-class seen l n);
    sees = λ seen a b. ap (see seen) (version-class seen l n);
  }

  pub of-uid : Numbered s t 2 → AnyFlags s t Uid
  of-uid n full parts = record { within = tt; code = λ seen a b. ap code_of (uid-class seen l n); sees = λ seen a b. ap (see seen) (uid-class seen l n) }

  pub of-kind : Numbered s t 3 → AnyFlags s t Kind
  of-kind n full parts = record { within = tt; code = λ seen a b. ap code_of (kind-class seen l n); sees = λ seen a b. ap (see seen) (kind-class seen l n) }

  -- ---- FN and N: of the classes that they can have

  full-of : (P : Class → Type 0) (seen : Seen) → P as_dropped → ((v : Bytes) → P (as-full v)) → P as-kept → P (full_class seen l)
  unfolding full_class
  full-of P seen d f k =
      by_bool (bare l && is_derived (besides_value l.params))
      (λ e. rw e d)
      (λ e. rw e (with-of P as-full f k (provided (bare l && empty (besides_value l.params) && not seen.full) (read_text l.value))))

  parts-of : (P : Class → Type 0) (seen : Seen) → ((v : List (List Bytes)) → P (as_parts v)) → P as-kept → P (parts_class seen l)
  unfolding parts_class
  parts-of P seen f k = with-of P as_parts f k (provided (bare l && empty (besides_value l.params) && not seen.parts) (read_name l.value))

  module _ (n : Numbered s t 4) (full : Bool) (k : ℕ) (h : FullClass s t full k) where
    pub of-full : k ≡ 21 → FullFlags s t full Full
    of-full e parts = record {
      within = tt;
      code = λ seen a b. ap code_of (full-class seen l n) ∙ h seen a ∙ e;
      sees = λ seen a b.
          ap (see seen) (full-class seen l n)
          ∙ full-of (λ c. code_of c ≡ 21 → see seen c ≡ seen_with seen s Full) seen (λ z. absurd (omega (arith, z))) (λ v z. refl) (λ z. absurd (omega (arith, z))) (h seen a ∙ e);
    }

    pub of-dropped : k ≡ 17 → FullFlags s t full Dropped
    of-dropped e parts = record {
      within = tt;
      code = λ seen a b. ap code_of (full-class seen l n) ∙ h seen a ∙ e;
      sees = λ seen a b.
          ap (see seen) (full-class seen l n)
          ∙ full-of (λ c. code_of c ≡ 17 → see seen c ≡ seen) seen (λ z. refl) (λ v z. absurd (omega (arith, z))) (λ z. absurd (omega (arith, z))) (h seen a ∙ e);
    }

    pub of-kept-full : (k ≡ 21 → ⊥) → (k ≡ 17 → ⊥) → FullFlags s t full Kept
    of-kept-full x y parts = record {
      within = tt;
      code = λ seen a b.
          ap code_of (full-class seen l n)
          ∙ full-of (λ c. code_of c ≡ k → code_of c ≡ 16) seen (λ z. absurd (y (sym z))) (λ v z. absurd (x (sym z))) (λ z. refl) (h seen a);
      sees = λ seen a b.
          ap (see seen) (full-class seen l n)
          ∙ full-of (λ c. code_of c ≡ k → see seen c ≡ seen) seen (λ z. absurd (y (sym z))) (λ v z. absurd (x (sym z))) (λ z. refl) (h seen a);
    }

  module _ (n : Numbered s t 5) (parts : Bool) (k : ℕ) (h : PartsClass s t parts k) where
    pub of_parts : k ≡ 22 → PartsFlags s t parts Parts
    of_parts e full = record {
      within = tt;
      code = λ seen a b. ap code_of (parts-class seen l n) ∙ h seen b ∙ e;
      sees = λ seen a b.
          ap (see seen) (parts-class seen l n) ∙ parts-of (λ c. code_of c ≡ 22 → see seen c ≡ seen_with seen s Parts) seen (λ v z. refl) (λ z. absurd (omega (arith, z))) (h seen b ∙ e);
    }

    pub of-kept-parts : (k ≡ 22 → ⊥) → PartsFlags s t parts Kept
    of-kept-parts x full = record {
      within = tt;
      code = λ seen a b. ap code_of (parts-class seen l n) ∙ parts-of (λ c. code_of c ≡ k → code_of c ≡ 16) seen (λ v z. absurd (x (sym z))) (λ z. refl) (h seen b);
      sees = λ seen a b. ap (see seen) (parts-class seen l n) ∙ parts-of (λ c. code_of c ≡ k → see seen c ≡ seen) seen (λ v z. absurd (x (sym z))) (λ z. refl) (h seen b);
    }

  -- ---- JSPROP

  module _ (n : Numbered s t 6) where
    pub of-no-member : ((seen : Seen) → member_class seen l ≡ as-kept) → AnyFlags s t Kept
    of-no-member h = of-kept (λ seen. member-class seen l n ∙ h seen)

    pub of-member : (a b : ℕ) → MemberAt s t a b → AnyFlags s t (Member a b)
    of-member a b m full parts = record {
      within = record { span = m.span; name = m.name; is = m.points };
      code = λ seen x y.
          ap code_of (member-class seen l n ∙ m.class seen)
          ∙ member-code (among m.name seen.members) m.name m.json
          ∙ sym (ap (λ o. pick (with-some o (λ n. among n seen.members) true) 16 23) m.points);
      sees = λ seen x y.
          ap (see seen) (member-class seen l n ∙ m.class seen)
          ∙ member-sees seen (among m.name seen.members) m.name m.json
          ∙ sym (ap (λ o. pick (with-some o (λ n. among n seen.members) true) seen (with-some o (with_member seen) seen)) m.points);
    }

  -- ---- maps

  module _ (i : ℕ) (n : Numbered s t (16 + i)) (types form : ℕ) (ts : types ≡ types_of i) (fs : form ≡ form_of i) where
    abbrev of : Slotted (lowered l.name) i
    of = slotted (lowered l.name) i n

    abbrev w : Slot
    w = of.slot

    row : Is w i types form
    row = record { index = of.row.index; types = of.row.types ∙ sym ts; parameters = of.row.parameters ∙ ap (λ k. names_in (not (eqb k 0))) (sym ts); form = of.row.form ∙ sym fs }

    none_kept : (seen : Seen) → is_some (entry_of seen w l) ≡ false → classify seen l ≡ as-kept
    unfolding entry_class
    none_kept seen h = map-class seen l i n of ∙ kept_of w.index (entry_of seen w l) h

    some-entry : (seen : Seen) (e : Entry) → entry_of seen w l ≡ some e → classify seen l ≡ as-entry w.index e
    unfolding entry_class
    some-entry seen e h = map-class seen l i n of ∙ ap (λ o. with-some o (as-entry w.index) as-kept) h

    low : i < 7
    low = omega (arith, number_bound (lowered l.name), n)

    pub of-bad : EntryKey s t types form Bad → AnyFlags s t Kept
    of-bad k = of-kept (λ seen. none_kept seen (k.says seen w i row))

    pub of-free : EntryKey s t types form Free → AnyFlags s t (Entry-of i)
    of-free k full parts = record {
      within = low;
      code = λ seen a b. let (e, h) = entry-there seen w l (k.says seen w i row) in ap code_of (some-entry seen e h) ∙ row.index;
      sees = λ seen a b.
          let (e, h) = entry-there seen w l (k.says seen w i row) in
          ap (see seen) (some-entry seen e h) ∙ free-sees seen w.index e.key (k.key seen w i e row h);
    }

    module _ (a b : ℕ) (k : EntryKey s t types form (At-key a b)) where
      used-kept : (seen : Seen) → id_used seen s i a b ≡ true → classify seen l ≡ as-kept
      used-kept seen u = none_kept seen (k.says seen w i row ∙ ap not u)

      new-entry : (seen : Seen) → id_used seen s i a b ≡ false → (e : Entry) × (entry_of seen w l ≡ some e)
      new-entry seen u = entry-there seen w l (k.says seen w i row ∙ ap not u)

      pub of-keyed : AnyFlags s t (Keyed i a b)
      of-keyed full parts = record {
        within = (low, k.within.span);
        code = λ seen x y.
            by_bool (id_used seen s i a b)
            (λ u. ap code_of (used-kept seen u) ∙ sym (ap (λ v. pick v 16 i) u))
            (λ u. let (e, h) = new-entry seen u in ap code_of (some-entry seen e h) ∙ row.index ∙ sym (ap (λ v. pick v 16 i) u));
        sees = λ seen x y.
            by_bool (id_used seen s i a b)
            (λ u. ap (see seen) (used-kept seen u) ∙ sym (ap (λ v. pick v seen (with_ids seen (id i (part s a b) ∷ seen.ids))) u))
            (λ u. let (e, h) = new-entry seen u in
            ap (see seen) (some-entry seen e h)
            ∙ keyed-sees seen i w.index e.key (part s a b) row.index (k.key seen w i e row h) k.within.valid
            ∙ sym (ap (λ v. pick v seen (with_ids seen (id i (part s a b) ∷ seen.ids))) u));
      }
