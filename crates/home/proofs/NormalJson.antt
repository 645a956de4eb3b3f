-- What the converter prints of a JSON card is that card's normal form.
use mathlib.Core.Path.{◌≡◌, sym, ap, ap₂, ◌∙◌}
use mathlib.Core.Bool.{true, false, ◌&&◌, ◌||◌}
use mathlib.Core.List.{List, [], ◌∷◌, ◌++◌}
use mathlib.Core.Option.{some}
use Rattle.text.specs.Choice.{with-some, is_some, chain, provided}
use Rattle.text.specs.Bytes.{Bytes, ascii, all, each}
use Rattle.text.proofs.Cases.{and_left, and_right, not-both}
use Rattle.text.proofs.Choices.{some_same}
use Rattle.text.proofs.Same.{same_true}
use Rattle.json_text.specs.Tree.{Json, jstr, Member, member, name_of, value_of, field, object, as_string, as_array, as_object}
use Rattle.json_text.specs.Strings.{distinct_names}
use Rattle.json_text.specs.Compact.{compact}
use Rattle.json_text.specs.Read.{tree, reading}
use Rattle.json_text.proofs.Sound.{sound-names}
use Rattle.json_text.proofs.Given.{reading-sound}
use Rattle.convert.specs.Table.{maps}
use Rattle.convert.specs.Model.{Card, has_parts}
use Rattle.convert.specs.Value.{filled}
use Rattle.convert.specs.FromJson.{is_lower_word, is_text, Name, nameless, name_from, map_from, kept_from, standing, seen_in, kept_stands, other_members, card_from_members, card_from_json}
use Rattle.convert.specs.ToJson.{where', name_json, members_json, print_json}
use Rattle.convert.specs.NormalJson.{as_is, unless_gone, name_form, members_form, normal_tree, normal_json}
use Rattle.convert.proofs.CardParts.{has-no-parts}
use Rattle.home.proofs.Known.{on_provided, on_chain, on_optional, on_some}
use Rattle.home.proofs.Shapes.{string-inv, fields-distinct}
use Rattle.home.proofs.NormalJsonName.{name-form}
use Rattle.home.proofs.NormalJsonEntries.{rows, maps-form}
use Rattle.home.proofs.NormalJsonKept.{kept-part}

-- ---- @type, version, uid, kind

text-inv : (s : Bytes) (j : Json) → is_text s j ≡ true → j ≡ jstr s
text-inv s j h = on_some (as_string j) (λ n. not-both h (rw n)) (λ t e. string-inv j t e ∙ ap jstr (sym (same_true s t (rw e at h))))

fixed-part : (n s : Bytes) (ms : List Member) → with-some (field n ms) (is_text s) false ≡ true → member n (jstr s) ∷ [] ≡ as_is n ms
fixed-part n s ms h = on_some (field n ms) (λ e. not-both h (rw e)) (λ j e. rw (e, text-inv s j (rw e at h)))

uid-part : (ms : List Member) (u : Bytes) → chain (field (ascii "uid") ms) (λ v. chain (as_string v) λ u. provided (filled u) (some u)) ≡ some u → member (ascii "uid") (jstr u) ∷ [] ≡ as_is (ascii "uid") ms
uid-part ms u e =
    on_chain (field (ascii "uid") ms) _ e λ j f g. on_chain (as_string j) _ g λ s a b. on_provided (filled s) (some s) b λ t r. rw (f, ← some_same r, string-inv j s a)

kind-part : (ms : List Member) (k : Bytes) → with-some (field (ascii "kind") ms) (λ v. chain (as_string v) λ k. provided (is_lower_word k) (some k)) (some []) ≡ some k
    → where' (filled k) (member (ascii "kind") (jstr k)) ≡ as_is (ascii "kind") ms
kind-part ms k e =
    on_optional (field (ascii "kind") ms) [] (λ v. chain (as_string v) λ k. provided (is_lower_word k) (some k)) e
    (λ n d. rw (n, ← d))
    (λ j h q. on_chain (as_string j) _ q λ s a b. on_provided (is_lower_word s) (some s) b λ t r. rw (h, ← some_same r, and_left (filled s) _ t, string-inv j s a))

-- ---- name

name-part : (ms : List Member) (n : Name) → with-some (field (ascii "name") ms) name_from (some nameless) ≡ some n
    → where' (is_some n.full || has_parts n.parts) (member (ascii "name") (name_json n.full n.parts)) ≡ unless_gone (ascii "name") object (with-some (field (ascii "name") ms) name_form [])
name-part ms n e =
    on_optional (field (ascii "name") ms) nameless name_from e
    (λ a d. rw (a, ← d, has-no-parts))
    (λ j h q. rw h (name-form j n q))

-- ---- the whole

members-normal : (ms : List Member) (c : Card) → all (λ m. distinct_names (value_of m)) ms ≡ true → card_from_members ms ≡ some c → members_json c ≡ members_form ms
unfolding card_from_members standing members_json members_form
members-normal ms c d e =
    on_provided (with-some (field (ascii "@type") ms) (is_text (ascii "Card")) false && with-some (field (ascii "version") ms) (is_text (ascii "1.0")) false && all (λ m. filled (name_of m)) ms) _ e λ t a.
    on_chain (chain (field (ascii "uid") ms) (λ v. chain (as_string v) λ u. provided (filled u) (some u))) _ a λ u e1 a1.
    on_chain (with-some (field (ascii "kind") ms) (λ v. chain (as_string v) λ k. provided (is_lower_word k) (some k)) (some [])) _ a1 λ k e2 a2.
    on_chain (with-some (field (ascii "name") ms) name_from (some nameless)) _ a2 λ n e3 a3.
    on_chain (each (map_from ms) maps) _ a3 λ es e4 a4.
    on_chain (with-some (field (ascii "vCardProps") ms) (λ v. chain (as_array v) (each kept_from)) (some [])) _ a4 λ ks e5 a5.
    let b : Card = record { uid = u; kind = k; full = n.full; parts = n.parts; maps = es; members = other_members ms; kept = ks } in
    on_provided (all (kept_stands (seen_in b)) ks) (some b) a5 λ s r.
    let v = and_left _ _ t in
    rw (← some_same r)
    (ap₂ ◌++◌ (ap₂ ◌++◌ (ap₂ ◌++◌ (ap₂ ◌++◌ (ap₂ ◌++◌ (ap₂ ◌++◌ (ap₂ ◌++◌ (fixed-part (ascii "@type") (ascii "Card") ms (and_left _ _ v)) (fixed-part (ascii "version") (ascii "1.0") ms (and_right (with-some (field (ascii "@type") ms) (is_text (ascii "Card")) false) _ v)))
    (uid-part ms u e1)) (kind-part ms k e2)) (name-part ms n e3)) (maps-form maps rows ms es d e4)) (λ i. other_members ms)) (kept-part ms ks d e5))

pub tree-normal : (j : Json) (c : Card) → distinct_names j ≡ true → card_from_json j ≡ some c → object (members_json c) ≡ normal_tree j
unfolding card_from_json normal_tree
tree-normal j c d e = on_chain (as_object j) card_from_members e λ ms o f. rw o (ap object (members-normal ms c (rw o at (fields-distinct j d)) f))

pub compact-normal : (s : Bytes) (j : Json) (c : Card) → reading 16 s ≡ tree j → card_from_json j ≡ some c → print_json c ≡ normal_json s
unfolding print_json normal_json
compact-normal s j c r e = rw r (ap compact (tree-normal j c (sound-names j 16 (reading-sound 16 s j r)) e))
