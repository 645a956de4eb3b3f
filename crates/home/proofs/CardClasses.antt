-- A proper card's written lines, section by section: what each gives to the model, and what is seen after it.
use mathlib.Core.Path.{◌≡◌, refl, ap, ◌∙◌}
use mathlib.Core.Bool.{Bool, true, false, ◌||◌, or-false}
use mathlib.Core.List.{List, [], ◌∷◌, map, append-nil}
use mathlib.Core.Option.{Option, none, some}
use native.Mathlib.Omega.{arith}
use lib.ListN.{length}
use Rattle.text.specs.Choice.{pick, with-some, is_some}
use Rattle.text.specs.Bytes.{Bytes, ascii, any, all, empty, among}
use Rattle.text.proofs.Cases.{by_bool}
use Rattle.text.proofs.Same.{among_none}
use Rattle.json_text.specs.Tree.{name_of}
use Rattle.line.specs.Grammar.{Line}
use Rattle.line.specs.Text.{write_text}
use Rattle.convert.specs.Table.{maps}
use Rattle.convert.specs.Model.{Card, has_parts, part}
use Rattle.convert.specs.Value.{filled, read_name, write_name}
use Rattle.convert.specs.Classify.{as-version, as-uid, as-kind, as_dropped, as-full, as_parts, Id, is_id, Seen, nothing, full_class, classify}
use Rattle.convert.specs.FromCard.{Gives}
use Rattle.convert.specs.FromJson.{is_lower_word, ids_from, seen_in}
use Rattle.convert.specs.Property.{property}
use Rattle.convert.specs.ToCard.{where_filled, line_where, derived_line, full_line, card_lines}
use Rattle.convert.specs.Carry.{apart}
use Rattle.convert.proofs.Names.{read_name_lem}
use Rattle.convert.proofs.Written.{version-class, uid-class, kind-class, full-class, parts-class, full-written, parts-written, derived-written}
use Rattle.home.proofs.Proper.{ProperCard}
use Rattle.home.proofs.Given.{no_gives, plus, Section, no_lines, one_line, both-sections, section-to}
use Rattle.home.proofs.Alike.{Alike, classify-alike}
use Rattle.home.proofs.Rows.{rows}
use Rattle.home.proofs.Carried.{Carried, is_carried}
use Rattle.home.proofs.MapLines.{placed_from, ids_all, placed_gives, any-all, maps-section}
use Rattle.home.proofs.MemberLines.{names_onto, member_gives, among-onto, members-section}
use Rattle.home.proofs.KeptFacts.{kept_gives, kept-section}
use Rattle.home.proofs.Words.{word-lowered}
use Rattle.home.proofs.Bridge.{all-filled}

abbrev pub seen : Bool → Bool → List Id → List Bytes → Seen
seen f p is ns = record { full = f; parts = p; ids = is; members = ns }

-- ---- KIND and FN

abbrev pub optional : Option Bytes → List Bytes
optional (some v) = v ∷ []
optional none = []

abbrev pub kind_gives : Bytes → Gives
kind_gives k = record { uid = []; kind = pick (empty k) [] (k ∷ []); full = []; parts = []; entry = []; member = []; kept = [] }

abbrev pub full_gives : Option Bytes → Gives
full_gives v = record { uid = []; kind = []; full = optional v; parts = []; entry = []; member = []; kept = [] }

pub kind-section : (s : Seen) (k : Bytes) → empty k || is_lower_word k ≡ true → Section s (where_filled k (property (ascii "kind") [] k)) (kind_gives k) s
kind-section s [] h = no_lines s
kind-section s (c ∷ k) h = one_line s (property (ascii "kind") [] (c ∷ k)) (as-kind (c ∷ k)) (kind-class s [] (c ∷ k) (word-lowered (c ∷ k) h))

fn-some : (s : Seen) (v : Bytes) → s.full ≡ false → classify s (property (ascii "fn") [] (write_text false v)) ≡ as-full v
fn-some s v e = full-class s [] (write_text false v) ∙ full-written s v e

fn-none : (s : Seen) (ps : List (List Bytes)) → classify s (derived_line ps) ≡ full_class s (derived_line ps)
unfolding derived_line
fn-none s ps = full-class s _ _

abbrev fn_line : Option Bytes → List (List Bytes) → Line
fn_line v ps = with-some v (λ v. property (ascii "fn") [] (write_text false v)) (derived_line ps)

pub full-section : (p : Bool) (is : List Id) (ns : List Bytes) (v : Option Bytes) (ps : List (List Bytes)) → Section (seen false p is ns) (fn_line v ps ∷ []) (full_gives v) (seen (is_some v) p is ns)
full-section p is ns (some v) ps = one_line (seen false p is ns) _ (as-full v) (fn-some (seen false p is ns) v refl)
full-section p is ns none ps = one_line (seen false p is ns) _ as_dropped (fn-none (seen false p is ns) ps ∙ derived-written (seen false p is ns) ps)

-- ---- N

-- a list of seven
pub seven : {A : Type 0} (P : List A → Type 0) → ((a b c d e f g : A) → P (a ∷ b ∷ c ∷ d ∷ e ∷ f ∷ g ∷ [])) → (xs : List A) → length xs ≡ 7 → P xs
seven P h [] q = absurd (omega arith)
seven P h (a ∷ []) q = absurd (omega arith)
seven P h (a ∷ (b ∷ [])) q = absurd (omega arith)
seven P h (a ∷ (b ∷ (c ∷ []))) q = absurd (omega arith)
seven P h (a ∷ (b ∷ (c ∷ (d ∷ [])))) q = absurd (omega arith)
seven P h (a ∷ (b ∷ (c ∷ (d ∷ (e ∷ []))))) q = absurd (omega arith)
seven P h (a ∷ (b ∷ (c ∷ (d ∷ (e ∷ (f ∷ [])))))) q = absurd (omega arith)
seven P h (a ∷ (b ∷ (c ∷ (d ∷ (e ∷ (f ∷ (g ∷ []))))))) q = h a b c d e f g
seven P h (a ∷ (b ∷ (c ∷ (d ∷ (e ∷ (f ∷ (g ∷ (x ∷ xs)))))))) q = absurd (omega arith)

abbrev pub parts_gives : List (List Bytes) → Gives
parts_gives ps = record { uid = []; kind = []; full = []; parts = pick (has_parts ps) (ps ∷ []) []; entry = []; member = []; kept = [] }

pub name_back : (ps : List (List Bytes)) → length ps ≡ 7 → all (all filled) ps ≡ true → apart (part ps 0) (part ps 5) ≡ true → apart (part ps 4) (part ps 6) ≡ true → has_parts ps ≡ true → read_name (write_name ps) ≡ some ps
name_back ps q =
    seven (λ ps. all (all filled) ps ≡ true → apart (part ps 0) (part ps 5) ≡ true → apart (part ps 4) (part ps 6) ≡ true → has_parts ps ≡ true → read_name (write_name ps) ≡ some ps)
    read_name_lem ps q

pub parts-section : (f : Bool) (is : List Id) (ns : List Bytes) (ps : List (List Bytes)) → (has_parts ps ≡ true → read_name (write_name ps) ≡ some ps)
    → Section (seen f false is ns) (line_where (has_parts ps) (property (ascii "n") [] (write_name ps))) (parts_gives ps) (seen f (has_parts ps) is ns)
parts-section f is ns ps r =
    by_bool (has_parts ps)
    (λ e. rw e (one_line (seen f false is ns) (property (ascii "n") [] (write_name ps)) (as_parts ps) (parts-class (seen f false is ns) [] (write_name ps) ∙ parts-written (seen f false is ns) ps refl (r e))))
    (λ e. rw e (no_lines (seen f false is ns)))

-- ---- the card

-- all that is given
abbrev pub card_gives : Card → Gives
card_gives c =
    record {
      uid = c.uid ∷ [];
      kind = pick (empty c.kind) [] (c.kind ∷ []);
      full = optional c.full;
      parts = pick (has_parts c.parts) (c.parts ∷ []) [];
      entry = placed_from 0 c.maps;
      member = c.members;
      kept = c.kept;
    }

abbrev uid_gives : Bytes → Gives
uid_gives v = record { uid = v ∷ []; kind = []; full = []; parts = []; entry = []; member = []; kept = [] }

-- in the order of the sections
sections-give : (c : Card)
    → plus (plus no_gives (uid_gives c.uid)) (plus (plus (plus (plus (kind_gives c.kind) (plus (full_gives c.full) (parts_gives c.parts))) (placed_gives (placed_from 0 c.maps))) (member_gives c.members)) (kept_gives c.kept))
    ≡ card_gives c
unfolding plus
sections-give c = simp append-nil

abbrev pub seen_before : Card → Seen
seen_before c = seen (is_some c.full) (has_parts c.parts) (ids_all 0 c.maps []) (names_onto c.members [])

-- what is seen before the kept lines, as far as classes depend on it
before-alike : (c : Card) → Alike (seen_before c) (seen_in c)
unfolding seen_in any
before-alike c =
    record {
      full = refl;
      parts = refl;
      ids = λ i k. any-all (is_id i k) 0 c.maps [] ∙ or-false (any (is_id i k) (ids_from 0 c.maps));
      members = λ n. among-onto n c.members [] ∙ ap (λ (b : Bool). among n (map name_of c.members) || b) (among_none n) ∙ or-false (among n (map name_of c.members));
    }

pub card-classed : (c : Card) → ProperCard c → Section nothing (card_lines c) (card_gives c) (seen_before c)
unfolding card_lines full_line any
card-classed c p =
    let r : Carried c = is_carried c p.carries in
    let name : has_parts c.parts ≡ true → read_name (write_name c.parts) ≡ some c.parts = name_back c.parts p.seven (all-filled c.parts p.parts) r.surnames r.suffixes in
    section-to
    (both-sections
    (both-sections (one_line nothing (property (ascii "version") [] (ascii "4.0")) as-version (version-class nothing [] (ascii "4.0"))) (one_line nothing (property (ascii "uid") [] c.uid) (as-uid c.uid) (uid-class nothing [] c.uid)))
    (both-sections
    (both-sections
    (both-sections
    (both-sections (kind-section nothing c.kind p.kind)
    (both-sections (full-section false [] [] c.full c.parts) (parts-section (is_some c.full) [] [] c.parts name)))
    (maps-section (seen (is_some c.full) (has_parts c.parts) [] []) 0 maps c.maps rows p.entries (λ j k l. refl)))
    (members-section (seen (is_some c.full) (has_parts c.parts) (ids_all 0 c.maps []) []) c.members p.members p.names (λ n h. among_none n)))
    (kept-section (seen_in c) (seen_before c) (classify-alike (seen_before c) (seen_in c) (before-alike c)) c.kept p.kept p.stand)))
    (sections-give c) refl
