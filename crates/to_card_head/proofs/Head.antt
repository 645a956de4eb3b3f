-- The head's lines, and which answer its members ask for.
use mathlib.Core.Path.{◌≡◌, refl, sym, ap, subst, ◌∙◌}
use Rattle.to_card_pen.specs.Refusal.{no_card}
use Rattle.std.specs.Prelude.{Err}
use mathlib.Core.Bool.{Bool, true, false}
use mathlib.Core.List.{[], ◌∷◌, ◌++◌, append-nil, append_assoc}
use mathlib.Core.Option.{Option, none, some}
use Prim.Native.Nat.{ℕ, ◌+◌, ◌-◌}
use native.Mathlib.Omega.{arith}
use borrow.Rule.Slice.PartMut.{mid_of, put_mid}
use lib.ListN.{length}
use Rattle.text.specs.Choice.{provided}
use Rattle.text.specs.Bytes.{Bytes, ascii, empty, flat, uppered, upper, between, all}
use Rattle.text.proofs.Cases.{and_left, not-true}
use Rattle.text.proofs.Choices.{provided-inv, chain-inv, some_same}
use Rattle.json_text.specs.Tree.{Json, as_string}
use Rattle.line.specs.Grammar.{Line}
use Rattle.line.specs.Class.{is_lower_name}
use Rattle.line.specs.Write.{width, breaks, fold, fold_from, write_group, write_params, write_line}
use Rattle.json_strings.specs.Decoded.{decoded_at}
use Rattle.json_index.specs.Index.{Slot}
use Rattle.line_pen.specs.Pen.{Fills}
use Rattle.line_pen.proofs.Filling.{then}
use Rattle.to_card_pen.specs.Styles.{written_in}
use Rattle.to_card_pen.proofs.Styles.{written-raw, stands-raw}
use Rattle.convert.specs.Value.{filled}
use Rattle.convert.specs.FromJson.{is_lower_word}
use Rattle.convert.specs.Carry.{carried_raw}
use Rattle.convert.specs.Property.{property}
use Rattle.to_card_value.specs.Values.{StringIs}
use Rattle.to_card_lines.specs.declared.Penned.{Penned}
use Rattle.to_card_lines.specs.Lines.{line_bytes, lines_bytes, Part, StringLine, Laid, laid}
use Rattle.to_card_lines.proofs.Laws.{lines-append, lines-one, fills-as}
use Rattle.to_card_head.specs.Head.{TellsSame, FilledIn, WordIn, word_string, begin, start_lines, head_lines, Starts, is_card, is_version, uid_in, kind_in, head_of, head_from, HeadAs, PutsHead}
use Rattle.to_card_head.proofs.Slots.{slot-none, slot-some}

-- ---- lines of a name and a value

uid-line : (v : Bytes) → write_line (property (ascii "uid") [] v) ≡ ascii "UID:" ++ v
unfolding write_line write_group write_params uppered upper between
uid-line v = refl

kind-line : (v : Bytes) → write_line (property (ascii "kind") [] v) ≡ ascii "KIND:" ++ v
unfolding write_line write_group write_params uppered upper between
kind-line v = refl

version-line : line_bytes (property (ascii "version") [] (ascii "4.0")) ≡ ascii "VERSION:4.0\r\n"
unfolding line_bytes fold fold_from breaks width write_line write_group write_params uppered upper between
version-line = refl

-- the string raw, with an end
raw-line : (head v : Bytes) (l : Line) → write_line l ≡ head ++ v → fold_from 0 (head ++ written_in 0 v) ++ (13 ∷ 10 ∷ []) ≡ line_bytes l
unfolding line_bytes fold
raw-line head v l e = ap (λ (x : Bytes). fold_from 0 (head ++ x) ++ (13 ∷ 10 ∷ [])) (written-raw v) ∙ ap (λ (x : Bytes). fold_from 0 x ++ (13 ∷ 10 ∷ [])) (sym e)

start-bytes : (v x : Bytes) → x ≡ line_bytes (property (ascii "uid") [] v) → ascii "BEGIN:VCARD\r\nVERSION:4.0\r\n" ++ x ≡ begin ++ lines_bytes (start_lines v)
unfolding lines_bytes flat start_lines
start-bytes v x e =
    ap (λ (y : Bytes). begin ++ (ascii "VERSION:4.0\r\n" ++ y)) (e ∙ sym (append-nil (line_bytes (property (ascii "uid") [] v))))
    ∙ ap (λ (y : Bytes). begin ++ (y ++ (line_bytes (property (ascii "uid") [] v) ++ []))) (sym version-line)

pub starts : (s : Bytes) (uid : ℕ) (room out : Bytes) (n : ℕ) → Fills room (ascii "BEGIN:VCARD\r\nVERSION:4.0\r\n") n out → (p : Penned) (last : Bytes)
    → StringLine s uid 0 (ascii "UID:") (mid_of n (length out - n) out) p last
    → Starts s uid room (record { bytes = n + p.bytes; carried = p.carried }) (put_mid n (length out - n) out last)
starts s uid room out n f p last g = record {
  text = g.text;
  is = g.is;
  fills = fills-as (start-bytes g.text _ (raw-line (ascii "UID:") g.text (property (ascii "uid") [] g.text) (uid-line g.text))) (then f g.fills);
  carried = g.carried ∙ stands-raw g.text;
}

-- ---- 12

none_first : (b : Bool) (u k : Option Bytes) → head_of false b u k ≡ none
none_first b u k = refl

none-second : (a : Bool) (u k : Option Bytes) → head_of a false u k ≡ none
none-second true u k = refl
none-second false u k = refl

none-third : (a b : Bool) (k : Option Bytes) → head_of a b none k ≡ none
none-third true true k = refl
none-third true false k = refl
none-third false b k = refl

none-fourth : (a b : Bool) (u : Option Bytes) → head_of a b u none ≡ none
none-fourth true true none = refl
none-fourth true true (some x) = refl
none-fourth true false u = refl
none-fourth false b u = refl

none_of : (s : Bytes) (o : Option Bytes) → StringIs s 0 o → o ≡ none
none_of s none h = refl
none_of s (some x) h = absurd (omega (arith, h.0))

some_of : (s : Bytes) (q : ℕ) (o : Option Bytes) → (q ≡ 0 → ⊥) → StringIs s q o → (x : Bytes) × (o ≡ some x) × (decoded_at s q ≡ some x)
some_of s q none n h = absurd (n h)
some_of s q (some x) n h = (x, refl, h.1)

module _ (s : Bytes) (card version uid kind : ℕ) (room : Bytes) where
  wrong : (after : Bytes) (o : Option Part) → o ≡ none → HeadAs room (Err no_card) after o
  wrong after o e = subst (HeadAs room (Err no_card) after) (sym e) refl

  pub no-card : (b : Bool) → TellsSame s card (ascii "Card") b → b ≡ false → (after : Bytes) → PutsHead s card version uid kind room (Err no_card) after
  unfolding head_from
  no-card b h e after t v u k st sv su sk =
      wrong after (head_from t v u k) (ap (λ (x : Bool). head_of x (is_version v) (uid_in u) (kind_in k)) (sym (h t st) ∙ e) ∙ none_first (is_version v) (uid_in u) (kind_in k))

  pub no-version : (b : Bool) → TellsSame s version (ascii "1.0") b → b ≡ false → (after : Bytes) → PutsHead s card version uid kind room (Err no_card) after
  unfolding head_from
  no-version b h e after t v u k st sv su sk =
      wrong after (head_from t v u k) (ap (λ (x : Bool). head_of (is_card t) x (uid_in u) (kind_in k)) (sym (h v sv) ∙ e) ∙ none-second (is_card t) (uid_in u) (kind_in k))

  pub no-uid : FilledIn s uid 0 → (after : Bytes) → PutsHead s card version uid kind room (Err no_card) after
  unfolding head_from
  no-uid h after t v u k st sv su sk =
      wrong after (head_from t v u k) (ap (λ (x : Option Bytes). head_of (is_card t) (is_version v) x (kind_in k)) (none_of s (uid_in u) (h u su)) ∙ none-third (is_card t) (is_version v) (kind_in k))

  pub no_kind : (kind ≡ 0 → ⊥) → WordIn s kind 0 → (after : Bytes) → PutsHead s card version uid kind room (Err no_card) after
  unfolding head_from
  no_kind n h after t v u k st sv su sk =
      let w = slot-some 15 s kind k sk n in
      let z : kind_in k ≡ none = ap kind_in w.1 ∙ none_of s (word_string w.0) (h w.0 w.2) in
      wrong after (head_from t v u k) (ap (head_of (is_card t) (is_version v) (uid_in u)) z ∙ none-fourth (is_card t) (is_version v) (uid_in u))

  -- ---- the lines

  module _ (b : Bool) (is-card : TellsSame s card (ascii "Card") b) (b-is : b ≡ true) (d : Bool) (is-version : TellsSame s version (ascii "1.0") d) (d-is : d ≡ true)
      (q : ℕ) (is-uid : FilledIn s uid q) (no-0 : q ≡ 0 → ⊥) (p : Penned) (out : Bytes) (start : Starts s q room p out) where
    head-some : (t v u k : Option Json) → Slot 15 s card t → Slot 15 s version v → Slot 15 s uid u → (y : Bytes) → kind_in k ≡ some y
        → head_from t v u k ≡ some (record { lines = head_lines start.text y; carried = carried_raw start.text })
    unfolding head_from
    head-some t v u k st sv su y e =
        let x = some_of s q (uid_in u) no-0 (is-uid u su) in
        let a : is_card t ≡ true = sym (is-card t st) ∙ b-is in
        let c : is_version v ≡ true = sym (is-version v sv) ∙ d-is in
        let f : uid_in u ≡ some start.text = x.1 ∙ ap some (sym (start.is x.0 x.2)) in
        rw (a, c, f, e)

    heads : (t v u k : Option Json) (x : Part) → head_from t v u k ≡ some x → (r : Laid) (after : Bytes) → HeadAs room r after (some x) → HeadAs room r after (head_from t v u k)
    heads t v u k x e r after h = subst (HeadAs room r after) (sym e) h

    pub head_plain : kind ≡ 0 → PutsHead s card version uid kind room (laid p.bytes 2 p.carried) out
    unfolding head_lines start_lines
    head_plain e t v u k st sv su sk =
        let z : kind_in k ≡ some [] = ap kind_in (slot-none 15 s kind k sk e) in
        heads t v u k _ (head-some t v u k st sv su [] z) _ out (p.bytes, ap (laid p.bytes 2) start.carried, start.fills)

    module _ (m : kind ≡ 0 → ⊥) (w : ℕ) (is-kind : WordIn s kind w) (no-w : w ≡ 0 → ⊥) (l : Penned) (last : Bytes)
        (line : StringLine s w 0 (ascii "KIND:") (mid_of p.bytes (length out - p.bytes) out) l last) where
      pub kind_row : Fills room (begin ++ lines_bytes (start_lines start.text) ++ line_bytes (property (ascii "kind") [] line.text)) (p.bytes + l.bytes) (put_mid p.bytes (length out - p.bytes) out last)
      kind_row =
          fills-as (append_assoc begin (lines_bytes (start_lines start.text)) _
          ∙ ap (λ (y : Bytes). begin ++ lines_bytes (start_lines start.text) ++ y) (raw-line (ascii "KIND:") line.text (property (ascii "kind") [] line.text) (kind-line line.text)))
          (then start.fills line.fills)

      kind-lines : (x y : Bytes) → is_lower_word y ≡ true → head_lines x y ≡ start_lines x ++ (property (ascii "kind") [] y ∷ [])
      unfolding head_lines
      kind-lines x y e = let z : empty y ≡ false = not-true (empty y) (and_left (filled y) (all is_lower_name y) e) in rw z

      count : (x : Bytes) (y : Line) → 3 ≡ length (start_lines x ++ (y ∷ []))
      unfolding start_lines
      count x y = refl

      pub head-kind : PutsHead s card version uid kind room (laid (p.bytes + l.bytes) 3 p.carried) (put_mid p.bytes (length out - p.bytes) out last)
      head-kind t v u k st sv su sk =
          let a = slot-some 15 s kind k sk m in
          let y = some_of s w (word_string a.0) no-w (is-kind a.0 a.2) in
          let x = line.text in
          let z : kind_in k ≡ some x = ap kind_in a.1 ∙ y.1 ∙ ap some (sym (line.is y.0 y.2)) in
          let g = chain-inv (as_string a.0) (λ i. provided (is_lower_word i) (some i)) y.1 in
          let f = provided-inv (is_lower_word g.0) (some g.0) g.2 in
          let i : is_lower_word x ≡ true = ap is_lower_word (line.is y.0 y.2 ∙ sym (some_same f.1)) ∙ f.0 in
          let h = kind-lines start.text x i in
          let j : lines_bytes (start_lines start.text) ++ line_bytes (property (ascii "kind") [] x) ≡ lines_bytes (head_lines start.text x) =
          ap (λ (e : Bytes). lines_bytes (start_lines start.text) ++ e) (sym (lines-one (property (ascii "kind") [] x)))
          ∙ sym (lines-append (start_lines start.text) (property (ascii "kind") [] x ∷ [])) ∙ ap lines_bytes (sym h) in
          heads t v u k _ (head-some t v u k st sv su x z) _ _ (
            p.bytes + l.bytes,
            ap (λ (c : ℕ). laid (p.bytes + l.bytes) c p.carried) (count start.text (property (ascii "kind") [] x) ∙ ap length (sym h)) ∙ ap (laid (p.bytes + l.bytes) (length (head_lines start.text x))) start.carried,
            fills-as (ap (λ (e : Bytes). begin ++ e) j) kind_row,
          )
