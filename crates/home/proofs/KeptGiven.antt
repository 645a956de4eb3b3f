-- "an entry of vCardProps that no kept line in its place gives (13, group's place and one-value arrays aside)" is 12. The tests of `CardJson.prop_tests` ask just that: an
-- entry that a kept line gives passes them, and one that passes them is given by a kept line.
use mathlib.Core.Path.{◌≡◌, refl, sym, ap, subst, ◌∙◌}
use mathlib.Core.Bool.{true, false, ◌&&◌, not}
use mathlib.Core.List.{List, [], ◌∷◌}
use mathlib.Core.Option.{some}
use Prim.Native.Nat.{ℕ}
use Rattle.text.specs.Choice.{with-some, is_some, chain, provided}
use Rattle.text.specs.Bytes.{Bytes, ascii, any, all, same, among, lowered, each}
use Rattle.text.proofs.Cases.{by_bool, and-true, not-both, not-true, or_left, or_right}
use Rattle.text.proofs.Lists.{all_cons}
use Rattle.json_text.specs.Tree.{Json, Member, name_of, field, members_of, from_members, object, as_string}
use Rattle.json_text.proofs.Listed.{members-listed}
use Rattle.json_text.proofs.Sound.{Sound, sound-names}
use Rattle.line.specs.Grammar.{Line, is_frame_name, accepted, read_line}
use Rattle.convert.specs.Table.{maps}
use Rattle.convert.specs.Model.{Entry, Kept}
use Rattle.convert.specs.Classify.{Seen, classify}
use Rattle.convert.specs.FromCard.{kept_line}
use Rattle.convert.specs.FromJson.{optional, required, is_text, is_lower_word, nameless, Name, name_from, map_from, kept_from, kept_as_line, is_kept, never_kept, kept_stands, card_from_members, card_from_json}
use Rattle.convert.specs.ToJson.{kept_json}
use Rattle.convert.specs.Answers.{garbled, misused}
use Rattle.convert.proofs.KeptLines.{kept_line_lem, kept-json}
use Rattle.home.specs.Allowed.{carries}
use Rattle.home.specs.StandsFor.{kept}
use Rattle.home.specs.Reasons.{Paired, has_reason}
use Rattle.home.specs.Members.{PropStands}
use Rattle.home.specs.CardJson as C
use Rattle.home.proofs.CardProper.{not-garbled}
use Rattle.home.proofs.CardTests.{plain-misused}
use Rattle.home.proofs.CleanLines.{read-clean}
use Rattle.home.proofs.JsonKept.{kept_fine}
use Rattle.home.proofs.KeptFacts.{proper-kept}
use Rattle.home.proofs.Known.{on_provided, on_chain, on_some}
use Rattle.home.proofs.LineKept.{LineFine, fine, same_class, name-word, type-lower, params-lower, params_fit, never}
use Rattle.home.proofs.NormalJsonKept.{kept-form}
use Rattle.home.proofs.PairedLines.{kept-paired}
use Rattle.home.proofs.PlainLines.{kepts-plain}
use Rattle.home.proofs.PropStands.{prop-stands}
use Rattle.home.proofs.ReasonsSeen.{Knows}
use Rattle.home.proofs.Stands.{Stands, is-kept, stands, stands-inv}
use Rattle.home.proofs.Words.{word-lowered}
use Rattle.home.proofs.CardJsonKept.{line_kept, prop-is}
use Rattle.home.proofs.CardJsonWhole.{knows, card-json}

-- ---- a line that is classed as kept

module _ (s : Seen) (l : Line) (h : LineFine l) (c : is_kept (classify s l) ≡ true) where
  -- VERSION, UID and KIND never are
  not-version : same (lowered l.name) (ascii "version") ≡ false
  unfolding classify
  not-version = by_bool (same (lowered l.name) (ascii "version")) (λ q. not-both (rw q at c) refl) (λ q. q)

  not-uid : same (lowered l.name) (ascii "uid") ≡ false
  unfolding classify
  not-uid = by_bool (same (lowered l.name) (ascii "uid")) (λ q. not-both (rw (not-version, q) at c) refl) (λ q. q)

  not-kind : same (lowered l.name) (ascii "kind") ≡ false
  unfolding classify
  not-kind = by_bool (same (lowered l.name) (ascii "kind")) (λ q. not-both (rw (not-version, not-uid, q) at c) refl) (λ q. q)

  entry-stands : Stands s (kept_line l)
  entry-stands =
      record {
        name = name-word l h;
        never = not-true (among (kept_line l).name never_kept) (never l h not-version not-uid not-kind);
        type = type-lower l h;
        params = params-lower l h;
        fit = params_fit l h;
        class = same_class l h s ∙ is-kept (classify s l) c;
      }

-- ---- its entry

entry-taken : (s : Seen) (before : List Paired) → Knows s before → (l : Line) → LineFine l → carries l && has_reason before l ≡ true → C.is_prop before (kept l) ≡ true
entry-taken s before k l h e =
    let t = entry-stands s l h (line_kept s before k l h.used ∙ e) in
    ap (C.is_prop before) (sym (kept-paired l)) ∙ sym (prop-is s before k (kept_json (kept_line l)))
    ∙ ap (λ o. with-some o (kept_stands s) false) (kept-json (kept_line l) (proper-kept s (kept_line l) (fine l h) t)) ∙ stands s (kept_line l) t

-- ---- its line

pub record Given (before : List Paired) (j : Json) : Type 0 where
  pub line : Line
  pub used : misused line ≡ false
  pub accept : accepted line ≡ true
  pub reason : carries line && has_reason before line ≡ true
  pub entry : PropStands j (kept line)  -- group's place and one-value arrays aside

no-frame : (n : Bytes) → lowered n ≡ n → among n never_kept ≡ false → is_frame_name n ≡ false
unfolding is_frame_name among any
no-frame n e h = rw (e, or_left (same n (ascii "begin")) _ h, or_left (same n (ascii "end")) _ (or_right (same n (ascii "begin")) _ h))

entry-given : (s : Seen) (before : List Paired) → Knows s before → (d : ℕ) (j : Json) (x : Kept) → Sound d j → kept_from j ≡ some x → kept_stands s x ≡ true → Given before j
unfolding accepted all kept_as_line
entry-given s before k d j x t z e =
    let w = stands-inv s x e in
    let f = kept_fine d s j x t z e in
    let u : misused (kept_as_line x) ≡ false = plain-misused (kept_as_line x) (kepts-plain s (x ∷ []) (f, tt) (all_cons (kept_stands s) x [] e refl)).0 in
    record {
      line = kept_as_line x;
      used = u;
      accept = and-true w.fit (ap not (no-frame x.name (word-lowered x.name w.name) w.never));
      reason = sym (line_kept s before k (kept_as_line x) u) ∙ ap is_kept w.class;
      entry = subst (PropStands j) (sym (kept-form j x (sound-names j d t) z) ∙ ap kept_json (sym (kept_line_lem x (proper-kept s x f w))) ∙ kept-paired (kept_as_line x)) (prop-stands j x z);
    }

-- ---- beside any card's members

on_card {ℓ} : {P : Type ℓ} (ms : List Member) → is_some (card_from_members ms) ≡ true
    → ((n : Name) (es : List (List Entry)) → optional (ascii "name") nameless name_from ms ≡ some n → each (map_from ms) maps ≡ some es → P) → P
unfolding card_from_members
on_card ms h go =
    on_some (card_from_members ms) (λ z. not-both h (ap is_some z)) λ c e.
    on_provided (with-some (field (ascii "@type") ms) (is_text (ascii "Card")) false && with-some (field (ascii "version") ms) (is_text (ascii "1.0")) false && all (λ m. C.filled (name_of m)) ms) _ e λ a f.
    on_chain (required (ascii "uid") (λ v. chain (as_string v) λ u. provided (C.filled u) (some u)) ms) _ f λ u e₁ f₁.
    on_chain (optional (ascii "kind") [] (λ v. chain (as_string v) λ k. provided (is_lower_word k) (some k)) ms) _ f₁ λ k e₂ f₂.
    on_chain (optional (ascii "name") nameless name_from ms) _ f₂ λ n e₃ f₃.
    on_chain (each (map_from ms) maps) _ f₃ λ es e₄ f₄.
    go n es e₃ e₄

on_members {ℓ} : {P : Type ℓ} (ms : List Member) → C.is_card (object ms) ≡ true → ((s : Seen) → Knows s (C.before ms) → P) → P
unfolding card_from_json
on_members ms h go =
    let came : is_some (card_from_members (members_of (from_members ms))) ≡ true = card-json (object ms) ∙ h in
    on_card ms (rw (members-listed ms) at came) λ n es p q. go _ (knows ms n es p q)

-- ms: the members of any card, before the entry
module _ (ms : List Member) (h : C.is_card (object ms) ≡ true) where
  -- a line of a card, kept after the lines of these members
  pub given-entry : (b : Bytes) (l : Line) → read_line b ≡ some l → garbled b ≡ false → misused l ≡ false → carries l && has_reason (C.before ms) l ≡ true → C.is_prop (C.before ms) (kept l) ≡ true
  given-entry b l r g u e =
      let c = read-clean b l (not-garbled b g) r in
      on_members ms h λ s k. entry-taken s (C.before ms) k l (record { clean = c.0; accept = c.1; used = u }) e

  -- a line that is kept there, gives the entry, and is none that 5 or 7 refuses
  pub taken-entry : (d : ℕ) (j : Json) → Sound d j → C.is_prop (C.before ms) j ≡ true → Given (C.before ms) j
  taken-entry d j t e =
      on_members ms h λ s k.
      on_some (kept_from j) (λ z. not-both (prop-is s (C.before ms) k j ∙ e) (ap (λ o. with-some o (kept_stands s) false) z)) λ x z.
      entry-given s (C.before ms) k d j x t z (ap (λ o. with-some o (kept_stands s) false) (sym z) ∙ prop-is s (C.before ms) k j ∙ e)
