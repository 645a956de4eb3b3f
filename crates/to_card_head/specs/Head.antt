-- The head of a card: @type, version, uid and kind judged (12), and the lines up to KIND.
use Rattle.std.specs.Prelude.{◌≡◌, Bool, true, false, ◌&&◌, List, [], ◌∷◌, ◌++◌, ℕ, ◌<◌, length, Err}
use Rattle.to_card_pen.specs.Refusal.{no_card}
use Rattle.std.proofs.Math.Option.{Option, none, some}
use Rattle.text.specs.Choice.{with-some, chain, provided}
use Rattle.text.specs.Bytes.{Bytes, ascii}
use Rattle.json_text.specs.Tree.{Json, as_string}
use Rattle.line.specs.Grammar.{Line}
use Rattle.json_strings.specs.Decoded.{decoded_at}
use Rattle.json_index.specs.Index.{json_at, Slot}
use Rattle.line_pen.specs.Pen.{Fills}
use Rattle.convert.specs.Value.{filled}
use Rattle.convert.specs.FromJson.{is_lower_word, is_text}
use Rattle.convert.specs.Carry.{carried_raw}
use Rattle.convert.specs.Property.{property}
use Rattle.convert.specs.ToCard.{where_filled}
use Rattle.to_card_value.specs.Values.{StringIs}
use Rattle.to_card_lines.specs.declared.Penned.{Penned}
use Rattle.to_card_lines.specs.Lines.{lines_bytes, Part, Laid, laid}

-- ---- strings of the members

abbrev pub word_of : Option Bytes → Bool
word_of none = false
word_of (some x) = is_lower_word x

-- the same, where some of its bytes were seen already
abbrev pub word_from : Bool → Option Bytes → Bool
word_from b none = false
word_from false (some x) = is_lower_word x
word_from true (some x) = Rattle.text.specs.Bytes.all Rattle.line.specs.Class.is_lower_name x

-- whether the string at a place, where it stands for bytes, has any
abbrev pub TellsFilled : Bytes → ℕ → Bool → Type 0
TellsFilled s at r = (x : Bytes) → decoded_at s at ≡ some x → r ≡ filled x

-- `@type` and `version`
abbrev pub TellsSame : Bytes → ℕ → Bytes → Bool → Type 0
TellsSame s slot bs r = (o : Option Json) → Slot 15 s slot o → r ≡ with-some o (is_text bs) false

abbrev pub filled_string : Json → Option Bytes
filled_string v = chain (as_string v) λ u. provided (filled u) (some u)

abbrev pub word_string : Json → Option Bytes
word_string v = chain (as_string v) λ k. provided (is_lower_word k) (some k)

abbrev pub FilledIn : Bytes → ℕ → ℕ → Type 0
FilledIn s slot r = (o : Option Json) → Slot 15 s slot o → StringIs s r (chain o filled_string)

abbrev pub WordIn : Bytes → ℕ → ℕ → Type 0
WordIn s slot r = (v : Json) → json_at 15 s slot ≡ some v → StringIs s r (word_string v)

-- ---- the lines

abbrev pub begin : Bytes
begin = ascii "BEGIN:VCARD\r\n"

-- VERSION and UID
unfoldable pub start_lines : Bytes → List Line
start_lines u = property (ascii "version") [] (ascii "4.0") ∷ property (ascii "uid") [] u ∷ []

unfoldable pub head_lines : Bytes → Bytes → List Line
head_lines u k = start_lines u ++ where_filled k (property (ascii "kind") [] k)

-- BEGIN and some lines are written; they are those of the uid, where it stands for bytes
pub record Starts (s : Bytes) (uid : ℕ) (room : Bytes) (r : Penned) (after : Bytes) : Type 0 where
  pub text : Bytes
  pub is : (x : Bytes) → decoded_at s uid ≡ some x → text ≡ x
  pub fills : Fills room (begin ++ lines_bytes (start_lines text)) r.bytes after
  pub carried : r.carried ≡ carried_raw text

-- ---- the head's members as `card_from_members` reads them

abbrev pub is_card : Option Json → Bool
is_card t = with-some t (is_text (ascii "Card")) false

abbrev pub is_version : Option Json → Bool
is_version v = with-some v (is_text (ascii "1.0")) false

abbrev pub uid_in : Option Json → Option Bytes
uid_in u = chain u filled_string

-- empty where there is none
abbrev pub kind_in : Option Json → Option Bytes
kind_in k = with-some k word_string (some [])

abbrev pub head_of : Bool → Bool → Option Bytes → Option Bytes → Option Part
head_of a b u k = provided (a && b) (chain u λ x. chain k λ y. some (record { lines = head_lines x y; carried = carried_raw x }))

unfoldable pub head_from : Option Json → Option Json → Option Json → Option Json → Option Part
head_from t v u k = head_of (is_card t) (is_version v) (uid_in u) (kind_in k)

-- 12; or BEGIN and the lines, how many, and whether a line can carry the uid
abbrev pub HeadAs : Bytes → Laid → Bytes → Option Part → Type 0
HeadAs room r after none = r ≡ Err no_card
HeadAs room r after (some p) = (n : ℕ) × (r ≡ laid n (length p.lines) p.carried) × Fills room (begin ++ lines_bytes p.lines) n after

abbrev pub PutsHead : Bytes → ℕ → ℕ → ℕ → ℕ → Bytes → Laid → Bytes → Type 0
PutsHead s card version uid kind room r after = (t v u k : Option Json) → Slot 15 s card t → Slot 15 s version v → Slot 15 s uid u → Slot 15 s kind k
    → HeadAs room r after (head_from t v u k)
