-- A class is settled: nothing is noted, or one key or pointer more.
use mathlib.Core.Path.{◌≡◌, refl, sym, ap, ◌∙◌}
use mathlib.Core.Bool.{Bool, true, false, ◌||◌}
use mathlib.Core.List.{List, ◌∷◌}
use mathlib.Core.Option.{some}
use Prim.Native.Nat.{ℕ, ◌+◌, ◌*◌, ◌<◌}
use native.Mathlib.Omega.{arith}
use lib.ListN.{length, set}
use Rattle.text.specs.Bytes.{Bytes, any, among, same}
use Rattle.text.proofs.Cases.{by_bool, not-both}
use Rattle.text.proofs.Choices.{some_same}
use Rattle.text.proofs.Same.{same_true, same-eq, same_false, differ_same}
use Rattle.json_prints.specs.Prints.{printed}
use Rattle.convert.specs.Pointer.{pointed, pointer}
use Rattle.convert.specs.Classify.{Id, id, is_id, Seen}
use Rattle.convert.proofs.Pointers.{pointer-pointed}
use Rattle.convert_tests.proofs.Used.{other-map, same_map}
use Rattle.line_table.specs.Table.{part, Span}
use Rattle.class_line.specs.declared.Class.{Class as Answer}
use Rattle.class_line.specs.declared.Class.TheVariants.{Full, Parts, Keyed, Member}
use Rattle.class_line.specs.Class.{id_used, member_used, with_member, seen_with, number_of, Points}
use Rattle.from_card_seen.specs.Ids.{pointers, ids_at, IdTable, Unfilled, with_id, Remembers, Cut}
use Rattle.from_card_seen.specs.Settled.{Notes, Settles}
use Rattle.from_card_seen.proofs.Keys.{ids_more, table_more, cut-part, cut-span}

-- ---- noted or not

module _ {bytes s ids prints : List ℕ} {n i a b : ℕ} (t : IdTable bytes ids prints n) (u : Bool) (is : u ≡ any (is_id i (part s a b)) (ids_at bytes ids n)) where
  pub notes-not : u ≡ true → Notes bytes s ids n i a b ids prints n
  notes-not e = record { table = t; few = omega arith; stays = λ h. (refl, refl); grows = λ h. not-both (sym is ∙ e) h }

  pub notes-one : u ≡ false → Unfilled ids prints n → (at p : ℕ) → Cut bytes s at → Span s a b → p ≡ printed i (part s a b) → (ids' prints' : List ℕ) (r : ℕ)
      → r ≡ n + 1 → ids' ≡ with_id ids n i (at + a) (at + b) → prints' ≡ set prints n p → Notes bytes s ids n i a b ids' prints' r
  notes-one e l at p cut w print ids' prints' r m x y =
      let room : 3 * n + 2 < length ids = omega (arith, l.wide) in
      rw (m, x, y) (record {
        table = table_more ids n i (at + a) (at + b) room bytes prints p t l.long (cut-span cut w) (print ∙ ap (printed i) (sym (cut-part cut w)));
        few = omega arith;
        stays = λ h. not-both h (sym is ∙ e);
        grows = λ h. (refl, ids_more ids n i (at + a) (at + b) room bytes ∙ ap (λ k. id i k ∷ ids_at bytes ids n) (cut-part cut w));
      })

-- ---- what is remembered

any-cons : (j : ℕ) (k : Bytes) (x : Id) (xs : List Id) → any (is_id j k) (x ∷ xs) ≡ is_id j k x || any (is_id j k) xs
unfolding any
any-cons j k x xs = refl

among-cons : (m n : Bytes) (ns : List Bytes) → among m (n ∷ ns) ≡ same m n || among m ns
unfolding among any
among-cons m n ns = refl

-- a name has one pointer
same-pointers : (p q m n : Bytes) → pointed p ≡ some m → pointed q ≡ some n → same p q ≡ same m n
same-pointers p q m n e f =
    by_bool (same m n)
    (λ b. same-eq (sym (pointer-pointed p m e) ∙ ap pointer (same_true m n b) ∙ pointer-pointed q n f) ∙ sym b)
    (λ b. differ_same p q (λ z. same_false m n b (some_same (sym e ∙ ap pointed z ∙ f))) ∙ sym b)

module _ {bytes ids ids' : List ℕ} {n m : ℕ} {seen : Seen} (r : Remembers bytes ids n seen) where
  pub remember-key : (i : ℕ) (key : Bytes) → i < pointers → ids_at bytes ids' m ≡ id i key ∷ ids_at bytes ids n
      → Remembers bytes ids' m (record { full = seen.full; parts = seen.parts; ids = id i key ∷ seen.ids; members = seen.members })
  remember-key i key l e = record {
    keys = λ j k h. ap (any (is_id j k)) e ∙ any-cons j k _ _ ∙ ap (λ b. is_id j k (id i key) || b) (r.keys j k h) ∙ sym (any-cons j k _ _);
    names = λ p name h.
        ap (any (is_id pointers p)) e
        ∙ any-cons pointers p _ _
        ∙ ap (λ b. b || any (is_id pointers p) (ids_at bytes ids n)) (other-map pointers i p key (λ z. omega arith))
        ∙ r.names p name h;
  }

  pub remember-name : (key name : Bytes) → pointed key ≡ some name → ids_at bytes ids' m ≡ id pointers key ∷ ids_at bytes ids n
      → Remembers bytes ids' m (with_member seen name)
  remember-name key name is e = record {
    keys = λ j k h.
        ap (any (is_id j k)) e
        ∙ any-cons j k _ _
        ∙ ap (λ b. b || any (is_id j k) (ids_at bytes ids n)) (other-map j pointers k key (λ z. omega arith))
        ∙ r.keys j k h;
    names = λ p x h.
        ap (any (is_id pointers p)) e
        ∙ any-cons pointers p _ _
        ∙ rw (same_map pointers pointers p key refl, same-pointers p key x name h is, r.names p x h) (sym (among-cons x name seen.members));
  }

-- ---- classes

module _ {bytes s ids prints : List ℕ} {n : ℕ} {full parts : Bool} (t : IdTable bytes ids prints n) where
  -- nothing is seen with the line
  pub settles-same : {class : Answer} (c : Answer) (code : ℕ) → class ≡ c → ((seen : Seen) → (number_of seen s c ≡ code) × (seen_with seen s c ≡ seen))
      → Settles bytes s ids n full parts class ids prints (record { code = code; full = full; parts = parts; count = n })
  settles-same c code e h =
      rw e (record {
        table = t;
        few = omega arith;
        says = λ seen f p r. record {
          code = (h seen).0;
          full = ap (λ (x : Seen). x.full) (h seen).1 ∙ f;
          parts = ap (λ (x : Seen). x.parts) (h seen).1 ∙ p;
          remembers = rw (h seen).1 r;
        };
      })

  pub settles-full : {class : Answer} → class ≡ Full → Settles bytes s ids n full parts class ids prints (record { code = 21; full = true; parts = parts; count = n })
  settles-full e =
      rw e (record {
        table = t;
        few = omega arith;
        says = λ seen f p r. record { code = refl; full = refl; parts = p; remembers = record { keys = r.keys; names = r.names } };
      })

  pub settles-parts : {class : Answer} → class ≡ Parts → Settles bytes s ids n full parts class ids prints (record { code = 22; full = full; parts = true; count = n })
  settles-parts e =
      rw e (record {
        table = t;
        few = omega arith;
        says = λ seen f p r. record { code = refl; full = f; parts = refl; remembers = record { keys = r.keys; names = r.names } };
      })

module _ {bytes s ids ids' prints' : List ℕ} {n i a b m : ℕ} (notes : Notes bytes s ids n i a b ids' prints' m) where
  abbrev used : Bool
  used = any (is_id i (part s a b)) (ids_at bytes ids n)

  was-used : m ≡ n → used ≡ true
  was-used e = by_bool used (λ u. u) (λ u. absurd (omega (arith, e, (notes.grows u).0)))

  was_free : (m ≡ n → ⊥) → used ≡ false
  was_free e = by_bool used (λ u. absurd (e (notes.stays u).0)) (λ u. u)

  table_same : m ≡ n → IdTable bytes ids' prints' n
  table_same e = rw e at notes.table

  stays-as : m ≡ n → {seen : Seen} → Remembers bytes ids n seen → Remembers bytes ids' n seen
  stays-as e r = rw (notes.stays (was-used e)).1 r

  pub key-used : {full parts : Bool} {class : Answer} → class ≡ Keyed i a b → i < pointers → m ≡ n
      → Settles bytes s ids n full parts class ids' prints' (record { code = 16; full = full; parts = parts; count = n })
  key-used e l z =
      rw e (record {
        table = table_same z;
        few = omega arith;
        says = λ seen f p r.
            let u : id_used seen s i a b ≡ true = sym (r.keys i (part s a b) l) ∙ was-used z in
            record { code = rw u; full = rw u f; parts = rw u p; remembers = rw u (stays-as z r) };
      })

  pub key-new : {full parts : Bool} {class : Answer} → class ≡ Keyed i a b → i < pointers → (m ≡ n → ⊥)
      → Settles bytes s ids n full parts class ids' prints' (record { code = i; full = full; parts = parts; count = m })
  key-new e l z =
      rw e (record {
        table = notes.table;
        few = notes.few;
        says = λ seen f p r.
            let u : id_used seen s i a b ≡ false = sym (r.keys i (part s a b) l) ∙ was_free z in
            record { code = rw u; full = rw u f; parts = rw u p; remembers = rw u (remember-key r i (part s a b) l (notes.grows (was_free z)).1) };
      })

module _ {bytes s ids ids' prints' : List ℕ} {n a b m : ℕ} (notes : Notes bytes s ids n pointers a b ids' prints' m) (points : Points s a b) where
  is-used : {seen : Seen} (u : Bool) → Remembers bytes ids n seen → any (is_id pointers (part s a b)) (ids_at bytes ids n) ≡ u → member_used seen s a b ≡ u
  is-used u r e = rw points.is (sym (r.names (part s a b) points.name points.is) ∙ e)

  pub member-used : {full parts : Bool} {class : Answer} → class ≡ Member a b → m ≡ n
      → Settles bytes s ids n full parts class ids' prints' (record { code = 16; full = full; parts = parts; count = n })
  member-used e z =
      rw e (record {
        table = table_same notes z;
        few = omega arith;
        says = λ seen f p r.
            let u : member_used seen s a b ≡ true = is-used true r (was-used notes z) in
            record { code = rw u; full = rw u f; parts = rw u p; remembers = rw u (stays-as notes z r) };
      })

  pub member-new : {full parts : Bool} {class : Answer} → class ≡ Member a b → (m ≡ n → ⊥)
      → Settles bytes s ids n full parts class ids' prints' (record { code = 23; full = full; parts = parts; count = m })
  member-new e z =
      rw e (record {
        table = notes.table;
        few = notes.few;
        says = λ seen f p r.
            let u : member_used seen s a b ≡ false = is-used false r (was_free notes z) in
            record {
              code = rw u;
              full = rw (u, points.is) f;
              parts = rw (u, points.is) p;
              remembers = rw (u, points.is) (remember-name r (part s a b) points.name points.is (notes.grows (was_free notes z)).1);
            };
      })
