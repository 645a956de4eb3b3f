-- Every written line of a proper card can be sent, so the written card is unfolded and read as those lines.
use mathlib.Core.Path.{◌≡◌, refl, sym, subst}
use mathlib.Core.Bool.{Bool, true, false, ◌&&◌, ◌||◌}
use mathlib.Core.List.{List, [], ◌∷◌, ◌++◌, map}
use mathlib.Core.Option.{Option, none, some}
use Prim.Native.Nat.{ℕ, suc}
use lib.ListN.{length}
use lib.Dec.{ltb}
use Rattle.text.specs.Choice.{with-some}
use Rattle.text.specs.Bytes.{Bytes, ascii, any, all, empty, same, among, lowered, lower, between, flat}
use Rattle.text.specs.Utf8.{utf8}
use Rattle.text.proofs.Cases.{and_left, and_right, and-true}
use Rattle.text.proofs.Lists.{all_head, all_tail, all-imply}
use Rattle.json_text.specs.Tree.{Member, name_of}
use Rattle.line.specs.Class.{is_name, is_lower_name, is_control}
use Rattle.line.specs.Grammar.{param, Line, value_count, fits, is_frame_name}
use Rattle.line.specs.Text.{write_text}
use Rattle.line.specs.Write.{write_line}
use Rattle.line.proofs.Lines.{upper_line}
use Rattle.line.proofs.Cards.{sendable, framed-written, unfold-written, read-card}
use Rattle.convert.specs.Table.{Map, maps}
use Rattle.convert.specs.Model.{Entry, Kept, Card, has_parts}
use Rattle.convert.specs.Value.{filled, write_name}
use Rattle.convert.specs.Classify.{Seen}
use Rattle.convert.specs.Carry.{carried_text, carried_param, carried_as, carried_maps, carried_kept}
use Rattle.convert.specs.FromJson.{is_lower_word, kept_as_line, kept_stands, seen_in}
use Rattle.convert.specs.Property.{property}
use Rattle.convert.specs.ToCard.{where_filled, line_where, derived_line, full_line, entry_line, maps_lines, member_line, card_lines, print_card}
use Rattle.convert.specs.Answers.{raw_lines, lines_of}
use Rattle.home.proofs.Proper.{ProperEntries, ProperMaps, ProperMembers, AllKeptFine, ProperCard}
use Rattle.home.proofs.Rows.{Row, Rows, rows}
use Rattle.home.proofs.Carried.{Carried, is_carried}
use Rattle.home.proofs.WrittenClean.{is_printed, clean-printed, raw-clean}
use Rattle.home.proofs.Fair.{Fair, fair_param, fair-sendable, name-printed}
use Rattle.home.proofs.FairValues.{safe-fair, textual, textual-clean, name-clean, made-clean}
use Rattle.home.proofs.FairEntries.{entry-fair}
use Rattle.home.proofs.FairKept.{member-fair, kept-fair}
use Rattle.home.proofs.Parted.{version_line, uid_line, kind_lines, later_lines, card-parted, later-each}
use Rattle.home.proofs.Words.{names-lower}
use Rattle.home.proofs.Stands.{stands-inv}
use Rattle.home.proofs.Alls.{All, all-joined}
use Rattle.home.proofs.Clean.{Clean}

abbrev pub AllFair : List Line → Type 0
AllFair ls = All Fair ls

-- ---- lines with no parameters

no-params : (all fair_param [] ≡ true) × (fits [] ≡ true)
unfolding all fits value_count
no-params = (refl, refl)

bare-fair : (n v : Bytes) → is_lower_word n ≡ true → is_frame_name n ≡ false → Clean v → Fair (property n [] v)
bare-fair n v w f c = record { group = refl; name = w; frame = f; params = no-params.0; fits = no-params.1; value = c }

version-fair : Fair (property (ascii "version") [] (ascii "4.0"))
unfolding all is_lower_name between is_frame_name among any same lowered lower is_control
version-fair = bare-fair (ascii "version") (ascii "4.0") refl refl (clean-printed (ascii "4.0") refl)

uid-fair : (v : Bytes) → Clean v → Fair (property (ascii "uid") [] v)
unfolding all is_lower_name between is_frame_name among any same lowered lower
uid-fair v c = bare-fair (ascii "uid") v refl refl c

kind-clean : (k : Bytes) → is_lower_word k ≡ true → Clean k
kind-clean k h = clean-printed k (all-imply is_name is_printed name-printed k (names-lower k (and_right (filled k) _ h)))

kind-fair : (k : Bytes) → empty k || is_lower_word k ≡ true → AllFair (where_filled k (property (ascii "kind") [] k))
unfolding all is_lower_name between is_frame_name among any same lowered lower
kind-fair [] h = tt
kind-fair (c ∷ k) h = (bare-fair (ascii "kind") (c ∷ k) refl refl (kind-clean (c ∷ k) h), tt)

-- ---- FN and N

derived-fair : (all fair_param (param (ascii "derived") (ascii "TRUE" ∷ []) ∷ []) ≡ true) × (fits (param (ascii "derived") (ascii "TRUE" ∷ []) ∷ []) ≡ true)
unfolding all fits value_count is_lower_name between is_control
derived-fair = (rw (safe-fair (ascii "TRUE") refl), refl)

made-fair : (pss : List (List Bytes)) → all (all textual) pss ≡ true → Fair (derived_line pss)
unfolding derived_line all is_lower_name between is_frame_name among any same lowered lower
made-fair pss h = record { group = refl; name = refl; frame = refl; params = derived-fair.0; fits = derived-fair.1; value = made-clean pss h }

full-fair : (v : Option Bytes) (pss : List (List Bytes)) → with-some v utf8 true ≡ true → with-some v carried_text true ≡ true → all (all textual) pss ≡ true
    → Fair (with-some v (λ v. property (ascii "fn") [] (write_text false v)) (derived_line pss))
unfolding all is_lower_name between is_frame_name among any same lowered lower
full-fair (some v) pss u h k = bare-fair (ascii "fn") (write_text false v) refl refl (textual-clean false v (and-true u h))
full-fair none pss u h k = made-fair pss k

name-fair : (pss : List (List Bytes)) (b : Bool) → all (all textual) pss ≡ true → AllFair (line_where b (property (ascii "n") [] (write_name pss)))
unfolding all is_lower_name between is_frame_name among any same lowered lower
name-fair pss true h = (bare-fair (ascii "n") (write_name pss) refl refl (name-clean pss h), tt)
name-fair pss false h = tt

part-textual : (vs : List Bytes) → all (λ v. filled v && utf8 v) vs ≡ true → all carried_text vs ≡ true → all textual vs ≡ true
unfolding all
part-textual [] h k = refl
part-textual (v ∷ vs) h k =
    rw (and_right (filled v) _ (all_head (λ v. filled v && utf8 v) v vs h), all_head carried_text v vs k, part-textual vs (all_tail (λ v. filled v && utf8 v) v vs h) (all_tail carried_text v vs k))

parts-textual : (pss : List (List Bytes)) → all (all (λ v. filled v && utf8 v)) pss ≡ true → all (all carried_text) pss ≡ true → all (all textual) pss ≡ true
unfolding all
parts-textual [] h k = refl
parts-textual (vs ∷ pss) h k =
    rw (part-textual vs (all_head (all (λ v. filled v && utf8 v)) vs pss h) (all_head (all carried_text) vs pss k), parts-textual pss (all_tail (all (λ v. filled v && utf8 v)) vs pss h) (all_tail (all carried_text) vs pss k))

-- ---- the rest

entries-fair : (i : ℕ) (m : Map) (es : List Entry) → ((w : ℕ) → ltb w (length m.properties) ≡ true → Row i m w) → ProperEntries m es → all (λ (e : Entry). carried_as m.form (flat e.parts)) es ≡ true
    → AllFair (map (entry_line m) es)
entries-fair i m [] r g h = tt
entries-fair i m (e ∷ es) r g h =
    (entry-fair i m e (r e.which g.0.which) g.0 (all_head (λ (e : Entry). carried_as m.form (flat e.parts)) e es h), entries-fair i m es r g.1 (all_tail (λ (e : Entry). carried_as m.form (flat e.parts)) e es h))

maps-fair : (i : ℕ) (ms : List Map) (ess : List (List Entry)) → Rows i ms → ProperMaps ms ess → carried_maps ms ess ≡ true → AllFair (maps_lines ms ess)
unfolding maps_lines carried_maps
maps-fair i [] [] r g h = tt
maps-fair i [] (es ∷ ess) r g h = absurd g
maps-fair i (m ∷ ms) [] r g h = absurd g
maps-fair i (m ∷ ms) (es ∷ ess) r g h =
    all-joined Fair (map (entry_line m) es) (maps_lines ms ess) (entries-fair i m es r.0 g.0 (and_left _ _ h)) (maps-fair (suc i) ms ess r.1 g.2 (and_right (all (λ (e : Entry). carried_as m.form (flat e.parts)) es) _ h))

members-fair : (ms : List Member) → ProperMembers ms → all (λ m. carried_param (name_of m)) ms ≡ true → AllFair (map member_line ms)
members-fair [] g h = tt
members-fair (m ∷ ms) g h = (member-fair m g.0 (all_head (λ m. carried_param (name_of m)) m ms h), members-fair ms g.1 (all_tail (λ m. carried_param (name_of m)) m ms h))

kepts-fair : (s : Seen) (ks : List Kept) → AllKeptFine ks → all (kept_stands s) ks ≡ true → all carried_kept ks ≡ true → AllFair (map kept_as_line ks)
kepts-fair s [] f t h = tt
kepts-fair s (k ∷ ks) f t h =
    (kept-fair s k f.0 (stands-inv s k (all_head (kept_stands s) k ks t)) (all_head carried_kept k ks h), kepts-fair s ks f.1 (all_tail (kept_stands s) k ks t) (all_tail carried_kept k ks h))

-- ---- the card

parted-fair : (c : Card) → ProperCard c → AllFair (version_line ∷ uid_line c ∷ (kind_lines c ++ later_lines c))
unfolding full_line
parted-fair c p =
    let r : Carried c = is_carried c p.carries in
    let t : all (all textual) c.parts ≡ true = parts-textual c.parts p.parts r.parts in
    let later : AllFair (later_lines c) =
    later-each Fair c (full-fair c.full c.parts p.full r.full t) (name-fair c.parts (has_parts c.parts) t) (maps-fair 0 maps c.maps rows p.entries r.maps)
    (members-fair c.members p.members r.members) (kepts-fair (seen_in c) c.kept p.kept p.stand r.kept) in
    (version-fair, (uid-fair c.uid (raw-clean c.uid (and_right (filled c.uid) _ p.uid) r.uid), all-joined Fair (kind_lines c) (later_lines c) (kind-fair c.kind p.kind) later))

pub card-fair : (c : Card) → ProperCard c → AllFair (card_lines c)
card-fair c p = subst AllFair (sym (card-parted c)) (parted-fair c p)

all-sendable : (ls : List Line) → AllFair ls → all sendable ls ≡ true
unfolding all
all-sendable [] f = refl
all-sendable (l ∷ ls) f = rw (fair-sendable l f.0, all-sendable ls f.1)

pub card-sendable : (c : Card) → ProperCard c → all sendable (card_lines c) ≡ true
card-sendable c p = all-sendable (card_lines c) (card-fair c p)

pub card-unfolded : (c : Card) → ProperCard c → raw_lines (print_card c) ≡ some (map write_line (card_lines c))
unfolding raw_lines print_card
card-unfolded c p = rw (framed-written (card_lines c) (card-sendable c p), unfold-written (card_lines c) (card-sendable c p))

pub card-read : (c : Card) → ProperCard c → lines_of (map write_line (card_lines c)) ≡ map upper_line (card_lines c)
unfolding lines_of
card-read c p = rw (read-card (card_lines c) (card-sendable c p))
