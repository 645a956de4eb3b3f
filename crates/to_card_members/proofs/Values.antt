-- A member's value, compactly, through a buffer that holds as much of it as the room could take.
use mathlib.Core.Path.{◌≡◌, refl, sym, ap, ◌∙◌}
use mathlib.Core.Bool.{Bool, false}
use mathlib.Core.List.{[], ◌∷◌, ◌++◌, append_assoc}
use mathlib.Core.Option.{some}
use Prim.Native.Nat.{ℕ, suc, ◌+◌, ◌-◌, ◌≤◌, ◌<◌}
use native.Mathlib.Omega.{arith}
use lib.ListN.{length, take, drop, length-append, length-take, take-append-drop}
use lib.Seq.{take_all, take-append-le}
use Rattle.text.specs.Bytes.{Bytes, ascii}
use Rattle.text.specs.Reader.{got}
use Rattle.text.proofs.Cases.{by_bool, split}
use Rattle.text.proofs.Fine.{alone}
use Rattle.output.specs.Put.{Wrote, full}
use Rattle.std.specs.Prelude.{Ok, Err}
use Rattle.output.specs.Put.{put, Puts}
use Rattle.output.proofs.Laws.{put-over, said-bytes, said-full, length-put}
use Rattle.json_text.specs.Tree.{Json}
use Rattle.json_text.specs.Syntax.{value}
use Rattle.json_text.specs.Strings.{decoded}
use Rattle.json_text.specs.Compact.{compact}
use Rattle.json_text.proofs.Fine.{value-fine}
use Rattle.json_access.specs.Access.{Stands}
use Rattle.json_access.proofs.Laws.{value-skip}
use Rattle.json_compact.specs.Squeezed.{squeezed}
use Rattle.json_compact.proofs.Pieces.{squeezed-nil}
use Rattle.json_compact.proofs.Whole.{value-tied}
use Rattle.line.specs.Text.{escape, write_text}
use Rattle.line.specs.Write.{width, breaks, fold_from}
use Rattle.line_pen.specs.Pen.{Fills, column_from}
use Rattle.line_pen.proofs.Laws.{fold-append}
use Rattle.convert.specs.Pointer.{pointer}
use Rattle.to_card_lines.proofs.Laws.{fills-as}
use Rattle.json_strings.specs.Decoded.{decoded_at}
use Rattle.convert.specs.Carry.{carried_param}
use Rattle.to_card_members.specs.Members.{member_bytes, MemberLine}
use Rattle.to_card_members.proofs.Pointers.{text-append}

-- ---- as much as fits

pub fills-bytes : {room bs after : Bytes} {r : Wrote} {n : ℕ} → Puts room bs r after → r ≡ Ok n → Fills room bs n after
fills-bytes {room} {bs} {after} {r} {n} p e = let w = said-bytes room bs n (sym p.said ∙ e) in record { said = omega (arith, w.0, w.1); left = p.left }

pub fills-full : {room bs after : Bytes} {r : Wrote} → Puts room bs r after → r ≡ (Err full) → Fills room bs (length after) after
fills-full {room} {bs} {after} {r} p e =
    let w = said-full room bs (sym p.said ∙ e) in
    let l : length after ≡ length room = ap length p.left ∙ length-put room bs in
    record { said = omega (arith, w, l); left = p.left }

-- what stands in the buffer
pub held : (room bs after : Bytes) (n : ℕ) → Fills room bs n after → take n after ≡ take n bs
unfolding put
held room bs after n f =
    let h : n ≤ length (take (length room) bs) = simp length-take (omega (arith, f.said)) in
    ap (take n) f.left ∙ take-append-le n (take (length room) bs) (drop (length bs) room) h ∙ again bs n (length room) (omega (arith, f.said))
  where
    again : (s : Bytes) (a b : ℕ) → a ≤ b → take a (take b s) ≡ take a s
    again s a b h = by s a b h
      where
        by : (s : Bytes) (a b : ℕ) → a ≤ b → take a (take b s) ≡ take a s
        by s Prim.Native.Nat.zero b h = refl
        by [] (suc a) Prim.Native.Nat.zero h = refl
        by [] (suc a) (suc b) h = refl
        by (c ∷ s) (suc a) Prim.Native.Nat.zero h = absurd (omega arith)
        by (c ∷ s) (suc a) (suc b) h = ap (λ (t : Bytes). c ∷ t) (by s a b (omega arith))

-- ---- lengths

fold-longer : (k : ℕ) (s : Bytes) → length s ≤ length (fold_from k s)
unfolding fold_from
fold-longer k [] = omega arith
fold-longer k (c ∷ s) = by_bool (breaks k (width c)) (λ e. rw e (omega (arith, fold-longer 2 s))) (λ e. rw e (omega (arith, fold-longer (suc k) s)))

escape-some : (c : ℕ) → 1 ≤ length (escape false c)
unfolding escape
escape-some c =
    by_bool (lib.Dec.eqb c 92) (λ e. rw e (omega arith))
    (λ e. by_bool (lib.Dec.eqb c 10) (λ f. rw (e, f) (omega arith)) (λ f. by_bool (lib.Dec.eqb c 44) (λ g. rw (e, f, g) (omega arith)) (λ g. rw (e, f, g) (omega arith))))

text-longer : (s : Bytes) → length s ≤ length (write_text false s)
unfolding write_text
text-longer [] = omega arith
text-longer (c ∷ s) = simp length-append (omega (arith, escape-some c, text-longer s))

-- ---- what is past the room does not matter

fills-over : {room n after : _} (x y z : Bytes) → length room < length x → Fills room (x ++ y) n after → Fills room (x ++ z) n after
fills-over {room} {n} {after} x y z h f = record {
  said = simp length-append (omega (arith, simp length-append at f.said));
  left = f.left ∙ put-over room x y h ∙ sym (put-over room x z h);
}

module _ (room head bs : Bytes) (m n : ℕ) (after : Bytes) where
  abbrev line : Bytes → Bytes
  line x = fold_from 0 (head ++ write_text false x) ++ (13 ∷ 10 ∷ [])

  whole : m ≡ length bs → Fills room (line (take m bs)) n after → Fills room (line bs) n after
  whole e f = fills-as (ap line (take_all m bs (omega arith))) f

  cut : length room ≤ m → m ≤ length bs → 0 < length head → Fills room (line (take m bs)) n after → Fills room (line bs) n after
  cut h k l f =
      let x = head ++ write_text false (take m bs) in
      let y = write_text false (drop m bs) in
      let lx : length x ≡ length head + length (write_text false (take m bs)) = length-append head (write_text false (take m bs)) in
      let lm : length (take m bs) ≡ m = simp length-take (omega arith) in
      let big : length room < length (fold_from 0 x) = omega (arith, fold-longer 0 x, text-longer (take m bs), lx, lm) in
      let e : head ++ write_text false bs ≡ x ++ y =
      ap (λ (t : Bytes). head ++ write_text false t) (sym (take-append-drop m bs)) ∙ ap (λ (t : Bytes). head ++ t) (text-append (take m bs) (drop m bs))
      ∙ sym (append_assoc head (write_text false (take m bs)) y) in
      let g = fills-over (fold_from 0 x) (13 ∷ 10 ∷ []) (fold_from (column_from 0 x) y ++ (13 ∷ 10 ∷ [])) big f in
      fills-as (sym (append_assoc (fold_from 0 x) (fold_from (column_from 0 x) y) (13 ∷ 10 ∷ [])) ∙ ap (λ (t : Bytes). t ++ (13 ∷ 10 ∷ [])) (sym (fold-append x y 0) ∙ ap (fold_from 0) (sym e))) g

  -- a line whose value is what a buffer holds of bs
  pub through : {buffer last : Bytes} → length room ≤ length buffer → 0 < length head → Fills buffer bs m last → Fills room (line (take m last)) n after → Fills room (line bs) n after
  through {buffer} {last} h l b f =
      let g : Fills room (line (take m bs)) n after = fills-as (ap line (held buffer bs last m b)) f in
      split (length bs) (length buffer) (λ k. whole (omega (arith, b.said)) g) (λ k. cut (omega (arith, b.said)) (omega (arith, b.said)) l g)

-- ---- the value that stands from a to e

pub compact-part : (d : ℕ) (s t u : Bytes) (j v : Json) (a e : ℕ) → a ≤ e → e ≤ length s → Stands s t j u a e → value d t ≡ got j u → decoded j ≡ some v
    → squeezed (take (e - a) (drop a s)) ≡ compact v
unfolding compact
compact-part d s t u j v a e l h st w q =
    let r : value d (drop a s) ≡ got j (drop e s) = ap (value d) (sym st.begins) ∙ value-skip d t ∙ w ∙ ap (got j) st.ends in
    let x : value d (take (e - a) (drop a s)) ≡ got j [] = alone (value-fine d) s a e j l h r in
    (value-tied d (take (e - a) (drop a s)) j [] x).so v q [] squeezed-nil

-- the line through the buffer
pub member-line : (s : Bytes) (name a e : ℕ) (room text : Bytes) → ((x : Bytes) → decoded_at s name ≡ some x → text ≡ x) → (ok : Bool) → ok ≡ carried_param text → (buffer last : Bytes) (m : ℕ) → length room ≤ length buffer
    → Fills buffer (squeezed (take (e - a) (drop a s))) m last → (n : ℕ) (after : Bytes)
    → Fills room (fold_from 0 (((ascii "JSPROP;JSPTR=\"" ++ pointer text) ++ ascii "\":") ++ write_text false (take (m - 0) (drop 0 last))) ++ (13 ∷ 10 ∷ [])) n after
    → MemberLine s name a e room (record { bytes = n; carried = ok }) after
unfolding member_bytes
member-line s name a e room text is ok carried buffer last m h b n after f =
    let head = (ascii "JSPROP;JSPTR=\"" ++ pointer text) ++ ascii "\":" in
    let z : m - 0 ≡ m = omega arith in
    let l : 0 < length head = simp length-append (omega arith) in
    let g : Fills room (fold_from 0 (head ++ write_text false (take m last)) ++ (13 ∷ 10 ∷ [])) n after = fills-as (ap (λ (i : ℕ). fold_from 0 (head ++ write_text false (take i last)) ++ (13 ∷ 10 ∷ [])) z) f in
    record { text = text; is = is; fills = through room head (squeezed (take (e - a) (drop a s))) m n after h l b g; carried = carried }
