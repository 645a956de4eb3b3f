-- One line of a map written, and all of them one after the other.
use mathlib.Core.Path.{◌≡◌, refl, sym, ap, subst, ◌∙◌}
use mathlib.Core.Bool.{Bool, true, false, not}
use mathlib.Core.List.{List, [], ◌∷◌, ◌++◌, append-nil}
use Prim.Native.Nat.{ℕ, ◌+◌, ◌-◌, ◌≤◌, ◌<◌}
use native.Mathlib.Omega.{arith}
use lib.Dec.{eqb}
use lib.ListN.{length, take, drop, get_or}
use lib.Seq.{take_at}
use borrow.Rule.Slice.PartMut.{mid_of, put_mid}
use Rattle.text.specs.Choice.{pick}
use Rattle.text.specs.Bytes.{Bytes, empty, flat, lowered}
use Rattle.output.specs.Put.{Wrote, full}
use Rattle.std.specs.Prelude.{Ok, Err}
use Rattle.output.specs.Put.{Puts, Rest}
use Rattle.output.proofs.Laws.{first, put-fits, said-full, puts-as}
use Rattle.output.proofs.Rests.{rest_all, rest-as, rest-next, rest-stop}
use Rattle.convert.specs.Table.{Map}
use Rattle.convert.specs.Model.{Entry}
use Rattle.convert.specs.Classify.{Classed}
use Rattle.convert.specs.Keys.{numbered, fresh, key_or}
use Rattle.convert.specs.ToJson.{entry_json}
use Rattle.convert_entry.specs.Rows.{names_in, Is}
use Rattle.convert_put.specs.Pieces.{member_bytes, closing}
use Rattle.line_table.specs.Table.{line_in}
use Rattle.line_unfold.specs.Table.{line_at}
use Rattle.class_properties.specs.Names.{types_of, form_of}
use Rattle.to_json_entry.specs.Entry.{keyed, RowPieces, PutsEntry, KindOfLine}
use Rattle.from_card_lines.specs.Classified.{Classified}
use Rattle.from_card_lines.proofs.Lines.{count-is, few-lines, no_more}
use Rattle.to_json_keys.specs.Taken.{Blocked, Next, Going}
use Rattle.to_json_keys.proofs.Going.{going-first, going-own, made-key, going-made}
use Rattle.std.specs.Prelude.{Result, IsErr}
use Rattle.text.proofs.Cases.{not-both}
use Rattle.output.specs.declared.Full.{Full}
use Rattle.to_json_maps.specs.declared.Put.{Put}
use Rattle.to_json_maps.specs.Maps.{map_at, entries_of, ids_of, head_piece, entry_piece, map_from, Enters, Converts, Turning, HasTurn, wrote_of, Goes, PutsTurn, map_bytes}
use Rattle.to_json_maps.proofs.Whole.{map_whole}
use Rattle.to_json_maps.proofs.Rows.{slot_map, slot_is}
use Rattle.to_json_maps.proofs.Ids.{own-among, ids-few, entries_none}
use Rattle.to_json_maps.proofs.Marking.{left_other, the-entry, line-enters, left-entry}

-- ---- an entry with its key

pub piece_is : (m : Map) (begun : Bool) (k : Bytes) (e : Entry) → head_piece m begun ++ member_bytes (entry_json m (keyed k e)) ≡ entry_piece m begun k e
unfolding entry_piece flat
piece_is m begun k e = ap (λ (x : Bytes). head_piece m begun ++ x) (sym (append-nil (member_bytes (entry_json m (keyed k e)))))

module _ {s : Bytes} {t : List ℕ} {i : ℕ} {e : Entry} (x : Converts s t i e) (types form : ℕ) (a : types ≡ types_of i) (b : form ≡ form_of i) where
  pub row_is : Is x.slot i types form
  row_is =
      let y = slot_is (lowered (line_in s t).name) x.slot x.named i x.index in
      record { index = y.index; types = y.types ∙ sym a; parameters = y.parameters ∙ ap (λ k. names_in (not (eqb k 0))) (sym a); form = y.form ∙ sym b }

  pub entry-puts : (kind : ℕ) (room key : Bytes) (r : Wrote) (out : Bytes) → KindOfLine s t kind → PutsEntry room s t i types form kind key r out
      → Puts room (member_bytes (entry_json (map_at i) (keyed key e))) r out
  entry-puts kind room key r out k p =
      subst (λ (m : Map). Puts room (member_bytes (entry_json m (keyed key e))) r out) (slot_map (lowered (line_in s t).name) x.slot x.named i x.index)
      (p x.seen x.slot e row_is (subst (λ j. RowPieces x.slot j kind) x.index (k x.slot x.named)) x.entry)

-- ---- what was written to the front of a room

pub put_front : (room x : Bytes) (r : Wrote) (out : Bytes) (n : ℕ) → Puts room x r out → r ≡ Ok n → take (n - 0) out ≡ x
put_front room x r out n p e =
    let s = first p e in
    let l : length x ≤ length room = omega (arith, s.is, s.fits) in
    let z : n - 0 ≡ length x = omega (arith, s.is) in
    ap (λ m. take m out) z ∙ ap (take (length x)) (s.left ∙ put-fits room x l) ∙ take_at x (drop (length x) room) (length x) refl

pub fits-front : (room x : Bytes) (r : Wrote) (out : Bytes) (n : ℕ) → Puts room x r out → r ≡ Ok n → n ≤ length out
fits-front room x r out n p e = let s = first p e in omega (arith, s.fits, s.same)

pub never-full : {P : Type 0} (room x : Bytes) (r : Wrote) (out : Bytes) → Puts room x r out → r ≡ (Err full) → length x ≤ length room → P
never-full room x r out p e l = absurd (omega (arith, said-full room x (sym p.said ∙ e)))

-- what `?` hands on where an entry had no room
pub stopped : {room x out : Bytes} (prefix : Bytes) (ids used : List Bytes) (r : Result Put Full) → IsErr r → Puts room x (Err full) out
    → Puts room x (wrote_of r) out × Goes prefix ids used r
stopped prefix ids used (Ok p) h q = not-both h refl
stopped prefix ids used (Err e) h q = (q, tt)

pub said-as : {room x out : Bytes} {r q : Wrote} → r ≡ q → Puts room x r out → Puts room x q out
said-as {room} {x} {out} e p = subst (λ r. Puts room x r out) e p

-- ---- the key

module _ {s p : Bytes} {row : List ℕ} {i : ℕ} {taken : Bool} {from : ℕ} {ids used : List Bytes} {e : Entry} (x : Turning s p row i taken from ids used e) where
  pub key-made : {r : ℕ} → Next p ids from r → e.key ≡ [] → key_or p used e.key ≡ numbered p r
  key-made n z = ap (λ k. pick (empty k) (fresh p used) k) z ∙ made-key x.going x.few n

  pub goes-made : {r : ℕ} → Next p ids from r → e.key ≡ [] → Going p ids (key_or p used e.key ∷ used) (r + 1)
  goes-made {r} n z = subst (λ k. Going p ids (k ∷ used) (r + 1)) (sym (key-made n z)) (going-made x.going x.few n)

  pub key-own : empty e.key ≡ false → key_or p used e.key ≡ e.key
  key-own z = ap (λ b. pick b (fresh p used) e.key) z

  pub goes-own : empty e.key ≡ false → Going p ids (key_or p used e.key ∷ used) from
  goes-own z = subst (λ k. Going p ids (k ∷ used) from) (sym (key-own z)) (going-own e.key (x.own z) x.going)

pub piece-as : {room out : Bytes} {r : Wrote} (m : Map) (begun : Bool) (e : Entry) {k j : Bytes} → k ≡ j → Puts room (entry_piece m begun j e) r out → Puts room (entry_piece m begun k e) r out
piece-as m begun e q p = puts-as (ap (λ k. entry_piece m begun k e) (sym q)) p

-- ---- all lines

pub record Mapping (room p : Bytes) (i n : ℕ) (cs : List Classed) (k from : ℕ) (begun : Bool) (at : ℕ) (out : Bytes) : Type 0 where
  pub used : List Bytes
  pub going : Going p (ids_of (entries_of i cs)) used from
  pub few : length used ≤ n + k
  pub rest : Rest room (map_bytes i cs) (map_from (map_at i) used begun (entries_of i (drop k cs))) at out

abbrev map_step : Map → List Bytes → Bool → Entry → List Entry → Bytes
map_step m used begun e es = entry_piece m begun (key_or m.prefix used e.key) e ++ map_from m (key_or m.prefix used e.key ∷ used) true es

from_cons : (m : Map) (used : List Bytes) (begun : Bool) (e : Entry) (es : List Entry) → map_from m used begun (e ∷ es) ≡ map_step m used begun e es
unfolding map_from
from_cons m used begun e es = refl

from-nil : (m : Map) (used : List Bytes) (begun : Bool) → map_from m used begun [] ≡ closing begun
unfolding map_from
from-nil m used begun = refl

module _ {scratch starts codes : List ℕ} {n : ℕ} {cs : List Classed} (h : Classified scratch starts codes n cs) (room p : Bytes) (i : ℕ) where
  pub mapping-start : Mapping room p i n cs 0 1 false 0 room
  mapping-start = record {
    used = ids_of (entries_of i cs);
    going = going-first p (ids_of (entries_of i cs));
    few = omega (arith, ids-few i cs, count-is h);
    rest = rest-as (sym (map_whole (map_at i) (entries_of i cs))) (rest_all room (map_bytes i cs));
  }

  -- the end
  pub mapping-end : {k from at : ℕ} {begun : Bool} {out : Bytes} → n ≤ k → Mapping room p i n cs k from begun at out → Rest room (map_bytes i cs) (closing begun) at out
  mapping-end {k} {begun = begun} l m =
      rest-as (ap (λ ds. map_from (map_at i) m.used begun (entries_of i ds)) (no_more h k l) ∙ ap (map_from (map_at i) m.used begun) (entries_none i) ∙ from-nil (map_at i) m.used begun) m.rest

  module _ (k : ℕ) (l : k < n) (r : Bool) (is : r ≡ eqb (get_or codes k 0) i) {from at : ℕ} {begun : Bool} {out : Bytes} (m : Mapping room p i n cs k from begun at out) where
    pub mapping-other : r ≡ false → Mapping room p i n cs (k + 1) from begun at out
    mapping-other z = record {
      used = m.used;
      going = m.going;
      few = omega (arith, m.few);
      rest = rest-as (ap (map_from (map_at i) m.used begun) (left_other h k l i r is z)) m.rest;
    }

    module _ (z : r ≡ true) (small : i < 16) (row : List ℕ) (taken : Bool) (blocked : Blocked p (ids_of (entries_of i cs)) taken row) {s : Bytes} (q : s ≡ line_at scratch starts k) where
      abbrev e : Entry
      e = the-entry h k l i r is z small

      pub turning : Turning s p row i taken from (ids_of (entries_of i cs)) m.used e
      turning = record {
        enters = subst (λ s. Enters s i e) (sym q) (line-enters h k l i r is z small);
        going = m.going;
        blocked = blocked;
        few = omega (arith, m.few, few-lines h);
        own = own-among i cs k e (entries_of i (drop (k + 1) cs)) (left-entry h k l i r is z small);
      }

      pub has-turn : length p ≤ 16 → HasTurn s p row i taken from
      has-turn short = record { ids = ids_of (entries_of i cs); used = m.used; entry = e; turning = turning; short = short }

      module _ (same : p ≡ (map_at i).prefix) (w : Result Put Full) (last : Bytes) (t : PutsTurn (mid_of at (length out - at) out) s p row i begun taken from w last) where
        abbrev key : Bytes
        key = key_or p m.used e.key

        next-left : Rest room (map_bytes i cs) (entry_piece (map_at i) begun key e ++ map_from (map_at i) (key ∷ m.used) true (entries_of i (drop (k + 1) cs))) at out
        next-left =
            rest-as
            (ap (map_from (map_at i) m.used begun) (left-entry h k l i r is z small)
            ∙ from_cons (map_at i) m.used begun e (entries_of i (drop (k + 1) cs))
            ∙ ap (λ x. entry_piece (map_at i) begun (key_or x m.used e.key) e ++ map_from (map_at i) (key_or x m.used e.key ∷ m.used) true (entries_of i (drop (k + 1) cs))) (sym same))
            m.rest

        pub mapping-stop : w ≡ Err full → Puts room (map_bytes i cs) (Err full) (put_mid at (length out - at) out last)
        mapping-stop f = rest-stop _ next-left (t (ids_of (entries_of i cs)) m.used e turning).0 (ap wrote_of f)

        pub mapping-next : (put : Put) → w ≡ Ok put → Mapping room p i n cs (k + 1) put.next true (at + put.bytes) (put_mid at (length out - at) out last)
        mapping-next put f = record {
          used = key ∷ m.used;
          going = subst (Goes p (ids_of (entries_of i cs)) (key ∷ m.used)) f (t (ids_of (entries_of i cs)) m.used e turning).1;
          few = omega (arith, m.few);
          rest = rest-next _ next-left (t (ids_of (entries_of i cs)) m.used e turning).0 (ap wrote_of f);
        }
