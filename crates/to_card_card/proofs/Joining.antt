-- A part of a card, then the rest of it: what both come to.
use mathlib.Core.Path.{◌≡◌, refl, sym, ap, subst, ◌∙◌}
use Rattle.to_card_lines.proofs.Parts.{all-bytes, all_lines, all-carried}
use Rattle.to_card_pen.proofs.Refusal.{not_ok}
use Rattle.to_card_pen.specs.Refusal.{no_card}
use Rattle.std.specs.Prelude.{Err}
use mathlib.Core.Bool.{Bool, ◌&&◌}
use mathlib.Core.Option.{Option, none, some}
use Prim.Native.Nat.{ℕ, ◌+◌, ◌-◌, ◌≤◌}
use native.Mathlib.Omega.{arith}
use borrow.Rule.Slice.PartMut.{mid_of, put_mid}
use lib.ListN.{length, length-append}
use Rattle.text.specs.Choice.{both}
use Rattle.text.specs.Bytes.{Bytes}
use Rattle.line_pen.specs.Pen.{Fills}
use Rattle.line_pen.proofs.Filling.{then}
use Rattle.to_card_map.specs.Maps.{LinesIn as MapsIn}
use Rattle.to_card_lines.specs.Lines.{lines_bytes, Part, PartAs, join_parts, Laid, laid}
use Rattle.to_card_lines.proofs.Laws.{lines-append, fills-as}
use Rattle.to_card_card.specs.Whole.{few, FewAs, FewIn}

-- ---- a count up to 513

few-sum : (a b : ℕ) → few (few a + few b) ≡ few (a + b)
few-sum a b = omega arith

-- ---- answers

pub few-wrong : (room after : Bytes) (o : Option Part) → o ≡ none → FewAs room (Err no_card) after o
few-wrong room after o e = subst (FewAs room (Err no_card) after) (sym e) refl

pub as-wrong : (room after : Bytes) (r : Laid) (o : Option Part) → PartAs room r after o → r ≡ Err no_card → o ≡ none
as-wrong room after r none h e = refl
as-wrong room after r (some p) h e = absurd (not_ok (sym e ∙ h.1))

pub few-none : (room after : Bytes) (r : Laid) (o : Option Part) → FewAs room r after o → r ≡ Err no_card → o ≡ none
few-none room after r none h e = refl
few-none room after r (some p) h e = absurd (not_ok (sym e ∙ h.1))

-- a part and its parts of an answer, for what an answer says
pub record Has (room : Bytes) (n k : ℕ) (c : Bool) (after : Bytes) (o : Option Part) : Type 0 where
  pub part : Part
  pub is : o ≡ some part
  pub lines : k ≡ few (length part.lines)
  pub carried : c ≡ part.carried
  pub fills : Fills room (lines_bytes part.lines) n after

pub has-few : {room after : Bytes} {r : Laid} {n k : ℕ} {c : Bool} (o : Option Part) → FewAs room r after o → r ≡ laid n k c → Has room n k c after o
has-few none h e = absurd (not_ok (sym h ∙ e))
has-few {room} {after} {r} {n} {k} {c} (some p) h e =
    record {
      part = p;
      is = refl;
      lines = all_lines (sym e ∙ h.1);
      carried = all-carried (sym e ∙ h.1);
      fills = subst (λ (x : ℕ). Fills room (lines_bytes p.lines) x after) (all-bytes (sym h.1 ∙ e)) h.2;
    }

pub has-as : {room after : Bytes} {r : Laid} {n l : ℕ} {c : Bool} (o : Option Part) → PartAs room r after o → r ≡ laid n l c → Has room n (few l) c after o
has-as none h e = absurd (not_ok (sym h ∙ e))
has-as {room} {after} {r} {n} {l} {c} (some p) h e =
    record {
      part = p;
      is = refl;
      lines = ap few (all_lines (sym e ∙ h.1));
      carried = all-carried (sym e ∙ h.1);
      fills = subst (λ (x : ℕ). Fills room (lines_bytes p.lines) x after) (all-bytes (sym h.1 ∙ e)) h.2;
    }

pub has-said : {room after : Bytes} {n k : ℕ} {c : Bool} (o : Option Part) → Has room n k c after o → FewAs room (laid n k c) after o
has-said {room} {after} {n} {k} {c} o h =
    subst (FewAs room (laid n k c) after) (sym h.is) (n, ap (λ (x : ℕ). laid n x c) h.lines ∙ ap (laid n (few (length h.part.lines))) h.carried, h.fills)

-- ---- one, then the other

module _ {room out last : Bytes} {n m k l : ℕ} {c d : Bool} where
  pub has_both : (x y : Option Part) → Has room n k c out x → Has (mid_of n (length out - n) out) m l d last y → Has room (n + m) (few (k + l)) (c && d) (put_mid n (length out - n) out last) (both join_parts x y)
  has_both x y f g =
      let p = f.part in
      let q = g.part in
      record {
        part = join_parts p q;
        is = ap (λ (z : Option Part). both join_parts z y) f.is ∙ ap (both join_parts (some p)) g.is;
        lines = ap (λ (z : ℕ). few (z + l)) f.lines ∙ ap (λ (z : ℕ). few (few (length p.lines) + z)) g.lines ∙ few-sum (length p.lines) (length q.lines)
            ∙ ap few (sym (length-append p.lines q.lines));
        carried = ap (λ (z : Bool). z && d) f.carried ∙ ap (λ (z : Bool). p.carried && z) g.carried;
        fills = fills-as (sym (lines-append p.lines q.lines)) (then f.fills g.fills);
      }

pub both_first : (x y : Option Part) → x ≡ none → both join_parts x y ≡ none
both_first x y e = ap (λ (z : Option Part). both join_parts z y) e

pub both-second : (x y : Option Part) → y ≡ none → both join_parts x y ≡ none
both-second x y e = ap (both join_parts x) e ∙ by x
  where
    by : (x : Option Part) → both join_parts x none ≡ none
    by none = refl
    by (some p) = refl

-- ---- bounds, whatever was written

pub few-at : {room n k : ℕ} {c : Bool} {r : Laid} → FewIn room r → r ≡ laid n k c → (n ≤ room) × (k ≤ 513)
few-at {room} {n} {k} {c} {r} h e = subst (FewIn room) e h

-- the same of the maps
pub maps-at : {room : ℕ} (size : ℕ) {n k : ℕ} {c : Bool} {r : Laid} → MapsIn room size r → r ≡ laid n k c → (n ≤ room) × (k ≤ size + 1)
maps-at {room} size {n} {k} {c} {r} h e = subst (MapsIn room size) e h
