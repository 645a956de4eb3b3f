-- What was seen before a line is what stands for the lines before it.
use mathlib.Core.Path.{◌≡◌, refl, sym, ap}
use mathlib.Core.Bool.{Bool, true, false, ◌&&◌, ◌||◌}
use mathlib.Core.List.{List, [], ◌∷◌}
use Prim.Native.Nat.{ℕ}
use lib.Dec.{eqb}
use Rattle.text.specs.Bytes.{Bytes, ascii, empty, any, same, among}
use Rattle.text.proofs.Cases.{by_bool}
use Rattle.line.specs.Grammar.{Line}
use Rattle.line.specs.Params.{values_named}
use Rattle.convert.specs.Classify.{Class, as-version, as-uid, as-kind, as_dropped, as-full, as_parts, as-entry, as_member, as-kept, Id, is_id, with_id, Seen, nothing, see}
use Rattle.home.specs.Reasons.{Paired, is_full, is_components, is_member, earlier, used_in}
use Rattle.home.proofs.LineSays.{Says}
use Rattle.home.proofs.OwnEntry.{own-entry, where_filled}
use Rattle.home.proofs.PairedEntries.{name_at}
use Rattle.home.proofs.PairedLines.{stand_of}
use Rattle.home.proofs.PairedWhole.{Named}

pub record Knows (s : Seen) (before : List Paired) : Type 0 where
  pub full : s.full ≡ earlier is_full before
  pub parts : s.parts ≡ earlier is_components before
  pub ids : (i : ℕ) (x : Bytes) → Named i x → (k : Bytes) → any (is_id i k) s.ids ≡ used_in x k before
  pub members : (n : Bytes) → among n s.members ≡ earlier (is_member n) before

pub nothing_known : Knows nothing []
unfolding any among
nothing_known = record { full = refl; parts = refl; ids = λ i x h k. refl; members = λ n. refl }

abbrev paired : Line → Class → Paired
paired l c = record { line = l; stand = stand_of l c }

-- a PROP-ID that is new
new-id : (i j : ℕ) (k key : Bytes) (is : List Id) (x : Bytes) (vs : List Bytes) (y : Bool) → Named i x → vs ≡ where_filled key → any (is_id i k) is ≡ y
    → any (is_id i k) (with_id j key is) ≡ (same (name_at j) x && among k vs) || y
unfolding any among
new-id i j k key is x vs y h e f =
    by_bool (empty key)
    (λ q. rw (q, e, q, h j, f) (none (eqb i j) y))
    (λ q. rw (q, e, q, h j, f) (ap (λ (b : Bool). eqb i j && b || y) (sym (alone (same k key)))))
  where
    none : (a b : Bool) → b ≡ a && false || b
    none true b = refl
    none false b = refl

    alone : (b : Bool) → b || false ≡ b
    alone true = refl
    alone false = refl

module _ (s : Seen) (before : List Paired) (h : Knows s before) (l : Line) where
  pub known_next : (c : Class) → Says l c → Knows (see s c) (paired l c ∷ before)
  unfolding any among same
  known_next as-version q = record { full = h.full; parts = h.parts; ids = h.ids; members = h.members }
  known_next (as-uid v) q = record { full = h.full; parts = h.parts; ids = h.ids; members = h.members }
  known_next (as-kind v) q = record { full = h.full; parts = h.parts; ids = h.ids; members = h.members }
  known_next as_dropped q = record { full = h.full; parts = h.parts; ids = h.ids; members = h.members }
  known_next (as-full v) q = record { full = refl; parts = h.parts; ids = h.ids; members = h.members }
  known_next (as_parts ps) q = record { full = h.full; parts = refl; ids = h.ids; members = h.members }
  known_next (as-entry j e) q =
      record {
        full = h.full;
        parts = h.parts;
        ids = λ i x n k. new-id i j k e.key s.ids x (values_named (ascii "prop-id") l.params) (used_in x k before) n (own-entry q.0 l e q.1 q.3).ids (h.ids i x n k);
        members = h.members;
      }
  known_next (as_member n j) q = record { full = h.full; parts = h.parts; ids = h.ids; members = λ m. ap (λ (b : Bool). same m n || b) (h.members m) }
  known_next as-kept q = record { full = h.full; parts = h.parts; ids = h.ids; members = h.members }
