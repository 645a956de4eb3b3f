-- The JSON tree of a proper card is sound: its entries, name, kept lines, and the whole.
use mathlib.Core.Path.{◌≡◌, refl, ap, ◌∙◌}
use mathlib.Core.Bool.{Bool, true, ◌&&◌, ◌||◌, not}
use mathlib.Core.List.{List, [], ◌∷◌, ◌++◌, map}
use Prim.Native.Nat.{ℕ, suc}
use lib.ListN.{get_or}
use Rattle.text.specs.Bytes.{Bytes, ascii, empty, among, distinct, keep, flat}
use Rattle.text.proofs.Cases.{and_right, not-both}
use Rattle.json_text.specs.Tree.{jtrue, jnum, jstr, Member, member, name_of, object}
use Rattle.convert.specs.Table.{Map, context_codes, feature_codes}
use Rattle.convert.specs.Model.{Entry}
use Rattle.convert.specs.Value.{filled, is_pref}
use Rattle.convert.specs.ToJson.{where', content_json, flags_json, entry_json, maps_json}
use Rattle.home.proofs.Proper.{ProperEntry, ProperEntries, ProperMaps}
use Rattle.home.proofs.Alls.{All, all-joined}
use Rattle.home.proofs.SoundLists.{SoundMember}
use Rattle.home.proofs.Sublists.{Sub, none_of, sub-nothing, sub-distinct}
use Rattle.home.proofs.SoundCard.{object_of, pref-spelled}
use Rattle.home.proofs.SoundEntries.{sub-where, all-where, sub-names, key-utf8, in_group, type_json, codes-sub, flags-sound, entry_names, Row, group-names, group-utf8, group-codes, word-utf8, content-sub, content-sound, get_d-utf8}

-- ---- an entry

module _ (m : Map) (e : Entry) where
  abbrev kind_member : Member
  kind_member = member (ascii "kind") (jstr (get_or m.kinds e.which []))

  abbrev kind_part : List Member
  kind_part = where' (not (empty m.kinds)) kind_member

  abbrev content_part : List Member
  content_part = content_json m.form m.content (flat e.parts)

  abbrev flags_member : Bytes → List ℕ → Member
  flags_member n group = member n (object (map (λ c. member (type_json c) jtrue) (keep (in_group group) e.types)))

  abbrev flagged : List ℕ → Bool
  flagged group = not (empty (keep (in_group group) e.types))

  abbrev flags_part : Bytes → List ℕ → List Member
  flags_part n group = where' (flagged group) (flags_member n group)

  abbrev pref_member : Member
  pref_member = member (ascii "pref") (jnum e.pref)

  abbrev pref_part : List Member
  pref_part = where' (filled e.pref) pref_member

  parts-sub : Sub (map name_of (kind_part ++ content_part ++ flags_part (ascii "contexts") context_codes ++ flags_part (ascii "features") feature_codes ++ pref_part)) (entry_names m)
  parts-sub =
      sub-names (kind_part ++ content_part ++ flags_part (ascii "contexts") context_codes ++ flags_part (ascii "features") feature_codes) pref_part
      (sub-names (kind_part ++ content_part ++ flags_part (ascii "contexts") context_codes) (flags_part (ascii "features") feature_codes)
      (sub-names (kind_part ++ content_part) (flags_part (ascii "contexts") context_codes)
      (sub-names kind_part content_part (sub-where (not (empty m.kinds)) kind_member) (content-sub m.form m.content (flat e.parts)))
      (sub-where (flagged context_codes) (flags_member (ascii "contexts") context_codes)))
      (sub-where (flagged feature_codes) (flags_member (ascii "features") feature_codes))) (sub-where (filled e.pref) pref_member)

  pref-is : (p : Bytes) → filled p ≡ true → empty p || (among (ascii "pref") m.parameters && is_pref p) ≡ true → is_pref p ≡ true
  pref-is [] b h = not-both b refl
  pref-is (c ∷ p) b h = and_right (among (ascii "pref") m.parameters) _ h

  module _ (d : ℕ) (r : Row m) (g : ProperEntry m e) where
    abbrev S : Member → Type 0
    S = SoundMember (suc (suc d))

    kind-sound : All S kind_part
    kind-sound = all-where S (not (empty m.kinds)) kind_member (λ b. (word-utf8.0, get_d-utf8 m.kinds e.which r.kinds))

    contexts-sound : All S (flags_part (ascii "contexts") context_codes)
    contexts-sound =
        all-where S (flagged context_codes) (flags_member (ascii "contexts") context_codes)
        (λ b. (word-utf8.3, flags-sound (suc d) context_codes (keep (in_group context_codes) e.types) (codes-sub context_codes e.types g.proper.order group-codes.0) group-names.0 group-utf8.0))

    features-sound : All S (flags_part (ascii "features") feature_codes)
    features-sound =
        all-where S (flagged feature_codes) (flags_member (ascii "features") feature_codes)
        (λ b. (word-utf8.4, flags-sound (suc d) feature_codes (keep (in_group feature_codes) e.types) (codes-sub feature_codes e.types g.proper.order group-codes.1) group-names.1 group-utf8.1))

    pref-sound : All S pref_part
    pref-sound = all-where S (filled e.pref) pref_member (λ b. (word-utf8.5, pref-spelled e.pref (pref-is e.pref b g.proper.pref)))

    pub entry-sound : SoundMember (suc (suc (suc d))) (entry_json m e)
    unfolding entry_json flags_json
    entry-sound = (
      key-utf8 e.key g.proper.key,
      object_of (suc (suc d)) (kind_part ++ content_part ++ flags_part (ascii "contexts") context_codes ++ flags_part (ascii "features") feature_codes ++ pref_part)
          (sub-distinct parts-sub r.differ)
          (all-joined S (kind_part ++ content_part ++ flags_part (ascii "contexts") context_codes ++ flags_part (ascii "features") feature_codes) pref_part
          (all-joined S (kind_part ++ content_part ++ flags_part (ascii "contexts") context_codes) (flags_part (ascii "features") feature_codes)
          (all-joined S (kind_part ++ content_part) (flags_part (ascii "contexts") context_codes)
          (all-joined S kind_part content_part kind-sound (content-sound d m.form m.content (flat e.parts) r.content g.texts-utf8)) contexts-sound) features-sound) pref-sound),
    )

-- ---- the maps

entries-sound : (d : ℕ) (m : Map) → Row m → (es : List Entry) → ProperEntries m es → All (SoundMember (suc (suc (suc d)))) (map (entry_json m) es)
entries-sound d m r [] g = tt
entries-sound d m r (e ∷ es) g = (entry-sound m e d r g.0, entries-sound d m r es g.1)

entry-keys : (m : Map) (es : List Entry) → map name_of (map (entry_json m) es) ≡ map (λ (e : Entry). e.key) es
unfolding entry_json
entry-keys m [] = refl
entry-keys m (e ∷ es) = ap (λ (x : List Bytes). e.key ∷ x) (entry-keys m es)

pub maps-sound : (d : ℕ) (ms : List Map) → All Row ms → (ess : List (List Entry)) → ProperMaps ms ess → All (SoundMember (suc (suc (suc (suc d))))) (maps_json ms ess)
unfolding maps_json
maps-sound d [] r [] g = tt
maps-sound d [] r (es ∷ ess) g = absurd g
maps-sound d (m ∷ ms) r [] g = absurd g
maps-sound d (m ∷ ms) r (es ∷ ess) g =
    all-joined (SoundMember (suc (suc (suc (suc d))))) (where' (not (empty es)) (member m.member (object (map (entry_json m) es)))) (maps_json ms ess)
    (all-where (SoundMember (suc (suc (suc (suc d))))) (not (empty es)) (member m.member (object (map (entry_json m) es)))
    (λ b. (r.0.member, object_of (suc (suc (suc d))) (map (entry_json m) es) (ap distinct (entry-keys m es) ∙ g.1) (entries-sound d m r.0 es g.0))))
    (maps-sound d ms r.1 ess g.2)

pub maps-sub : (ms : List Map) (ess : List (List Entry)) → Sub (map name_of (maps_json ms ess)) (map (λ (m : Map). m.member) ms)
unfolding maps_json
maps-sub [] ess = none_of
maps-sub (m ∷ ms) [] = sub-nothing (m.member ∷ map (λ (m : Map). m.member) ms)
maps-sub (m ∷ ms) (es ∷ ess) =
    sub-names (where' (not (empty es)) (member m.member (object (map (entry_json m) es)))) (maps_json ms ess) (sub-where (not (empty es)) (member m.member (object (map (entry_json m) es)))) (maps-sub ms ess)
