-- A card from JSON is proper.
use mathlib.Core.Path.{◌≡◌, refl, sym, ap, subst, ◌∙◌}
use mathlib.Core.Bool.{Bool, true, false, ◌&&◌, ◌||◌, not}
use mathlib.Core.List.{List, [], ◌∷◌, map}
use mathlib.Core.Option.{some}
use Prim.Native.Nat.{ℕ}
use native.Mathlib.Omega.{arith}
use Rattle.text.specs.Choice.{with-some, chain, provided}
use Rattle.text.specs.Bytes.{Bytes, ascii, all, empty, among, distinct, keep, each}
use Rattle.text.specs.Utf8.{utf8}
use Rattle.text.proofs.Cases.{by_bool, and_right, and-true}
use Rattle.text.proofs.Choices.{some_same, provided-inv, chain-inv}
use Rattle.text.proofs.Lists.{all_head, all_tail}
use Rattle.json_text.specs.Tree.{Json, Member, name_of, field, as_string, as_array, as_object}
use Rattle.json_text.specs.Read.{reading, tree}
use Rattle.json_text.proofs.Sound.{Sound}
use Rattle.json_text.proofs.Given.{reading-sound}
use Rattle.convert.specs.Table.{maps, reserved}
use Rattle.convert.specs.Model.{Kept, Card}
use Rattle.convert.specs.Value.{filled}
use Rattle.convert.specs.Carry.{carried}
use Rattle.convert.specs.Classify.{Seen}
use Rattle.convert.specs.FromJson.{required, optional, is_lower_word, is_text, nameless, name_from, map_from, kept_from, kept_stands, seen_in, standing, other_members, card_from_members, card_from_json}
use Rattle.home.proofs.Proper.{ProperMember, ProperMembers, KeptFine, AllKeptFine, ProperCard}
use Rattle.home.proofs.Alls.{All, each-gives, kept-distinct}
use Rattle.home.proofs.SoundLists.{SoundMember, string-sound, array-sound, object-sound, field-sound, optional-holds}
use Rattle.home.proofs.Words.{or_word}
use Rattle.home.proofs.JsonTexts.{Named, nameless-named, name-named}
use Rattle.home.proofs.JsonEntries.{rows, maps-proper}
use Rattle.home.proofs.JsonKept.{kept_fine}

-- ---- uid and kind

uid-fine : (d : ℕ) (ms : List Member) (u : Bytes) → All (SoundMember d) ms → required (ascii "uid") (λ v. chain (as_string v) λ u. provided (filled u) (some u)) ms ≡ some u → filled u && utf8 u ≡ true
uid-fine d ms u h e =
    let i = chain-inv (field (ascii "uid") ms) (λ v. chain (as_string v) λ u. provided (filled u) (some u)) e in
    let c = chain-inv (as_string i.0) (λ u. provided (filled u) (some u)) i.2 in
    let p = provided-inv (filled c.0) (some c.0) c.2 in
    rw (← some_same p.1) (and-true p.0 (string-sound d i.0 c.0 (field-sound d (ascii "uid") ms i.0 h i.1) c.1))

abbrev KindFine : Bytes → Type 0
KindFine k = empty k || is_lower_word k ≡ true

kind-fine : (j : Json) (k : Bytes) → chain (as_string j) (λ k. provided (is_lower_word k) (some k)) ≡ some k → KindFine k
kind-fine j k e =
    let c = chain-inv (as_string j) (λ k. provided (is_lower_word k) (some k)) e in
    let p = provided-inv (is_lower_word c.0) (some c.0) c.2 in
    let w : is_lower_word k ≡ true = ap is_lower_word (sym (some_same p.1)) ∙ p.0 in
    or_word k w

-- ---- other members

other-member : (m : Member) → filled (name_of m) ≡ true → SoundMember 15 m → not (among (name_of m) reserved) ≡ true → ProperMember m
other-member m f h r = record { name = rw (f, r, h.0); value = h.1 }

others-proper : (ms : List Member) → all (λ m. filled (name_of m)) ms ≡ true → All (SoundMember 15) ms → ProperMembers (other_members ms)
unfolding keep
others-proper [] f h = tt
others-proper (m ∷ ms) f h =
    let t = others-proper ms (all_tail (λ m. filled (name_of m)) m ms f) h.1 in
    by_bool (not (among (name_of m) reserved)) (λ e. rw e (other-member m (all_head (λ m. filled (name_of m)) m ms f) h.0 e, t)) (λ e. rw e t)

-- ---- kept entries

kept_from_lem : (d : ℕ) (s : Seen) (ks : List Kept) (j : Json) → Sound d j → chain (as_array j) (each kept_from) ≡ some ks → All (λ k. kept_stands s k ≡ true → KeptFine k) ks
kept_from_lem d s ks j h e =
    let i = chain-inv (as_array j) (each kept_from) e in
    let o = array-sound d j i.0 h i.1 in
    each-gives kept_from (Sound o.0) (λ k. kept_stands s k ≡ true → KeptFine k) (λ j k. kept_fine o.0 s j k) i.0 ks o.2 i.2

applied : (p : Kept → Bool) (ks : List Kept) → All (λ k. p k ≡ true → KeptFine k) ks → all p ks ≡ true → AllKeptFine ks
applied p [] h e = tt
applied p (k ∷ ks) h e = (h.0 (all_head p k ks e), applied p ks h.1 (all_tail p k ks e))

-- ---- the whole

members-proper : (ms : List Member) (c : Card) → distinct (map name_of ms) ≡ true → All (SoundMember 15) ms → card_from_members ms ≡ some c → carried c ≡ true → ProperCard c
unfolding card_from_members standing
members-proper ms c n h e q =
    let t : Bool = with-some (field (ascii "@type") ms) (is_text (ascii "Card")) false && with-some (field (ascii "version") ms) (is_text (ascii "1.0")) false in
    let p = provided-inv (t && all (λ m. filled (name_of m)) ms) _ e in
    let u = chain-inv (required (ascii "uid") (λ v. chain (as_string v) λ u. provided (filled u) (some u)) ms) _ p.1 in
    let k = chain-inv (optional (ascii "kind") [] (λ v. chain (as_string v) λ k. provided (is_lower_word k) (some k)) ms) _ u.2 in
    let f = chain-inv (optional (ascii "name") nameless name_from ms) _ k.2 in
    let es = chain-inv (each (map_from ms) maps) _ f.2 in
    let ks = chain-inv (optional (ascii "vCardProps") [] (λ v. chain (as_array v) (each kept_from)) ms) _ es.2 in
    let d : Card = record { uid = u.0; kind = k.0; full = f.0.full; parts = f.0.parts; maps = es.0; members = other_members ms; kept = ks.0 } in
    let s = provided-inv (all (kept_stands (seen_in d)) ks.0) (some d) ks.2 in
    let name : Named f.0 = optional-holds Named 15 (ascii "name") nameless name_from ms f.0 h nameless-named (λ j o r. name-named 15 j f.0 o r) f.1 in
    let kept = optional-holds (All (λ k. kept_stands (seen_in d) k ≡ true → KeptFine k)) 15 (ascii "vCardProps") [] (λ v. chain (as_array v) (each kept_from)) ms ks.0 h tt (λ j o r. kept_from_lem 15 (seen_in d) ks.0 j o r) ks.1 in
    subst ProperCard (some_same s.1) (record {
      uid = uid-fine 15 ms u.0 h u.1;
      kind = optional-holds KindFine 15 (ascii "kind") [] (λ v. chain (as_string v) λ k. provided (is_lower_word k) (some k)) ms k.0 h refl (λ j o r. kind-fine j k.0 r) k.1;
      full = name.full;
      seven = name.seven;
      parts = name.parts;
      entries = maps-proper 15 ms h maps rows es.0 es.1;
      members = others-proper ms (and_right t _ p.0) h;
      names = kept-distinct name_of (λ m. not (among (name_of m) reserved)) ms n;
      kept = applied (kept_stands (seen_in d)) ks.0 kept s.0;
      stand = s.0;
      carries = ap carried (some_same s.1) ∙ q;
    })

pub json-proper : (s : Bytes) (j : Json) (c : Card) → reading 16 s ≡ tree j → card_from_json j ≡ some c → carried c ≡ true → ProperCard c
unfolding card_from_json
json-proper s j c r e q =
    let i = chain-inv (as_object j) card_from_members e in
    let o = object-sound 16 j i.0 (reading-sound 16 s j r) i.1 in
    let d : o.0 ≡ 15 = omega (arith, o.1) in
    members-proper i.0 c o.2 (subst (λ (d : ℕ). All (SoundMember d) i.0) d o.3) i.2 q
