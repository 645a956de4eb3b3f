-- JSPROP lines and kept lines are fair.
use mathlib.Core.Path.{◌≡◌, refl}
use mathlib.Core.Bool.{Bool, true, false, ◌&&◌, not}
use mathlib.Core.List.{List, [], ◌∷◌}
use Rattle.text.specs.Choice.{pick}
use Rattle.text.specs.Bytes.{Bytes, ascii, any, all, empty, same, among, lowered, lower, between}
use Rattle.text.specs.Utf8.{utf8}
use Rattle.text.proofs.Cases.{by_bool, and_left, and_right, and-true}
use Rattle.text.proofs.Lists.{all_head, all_tail, all_both, any_head, any-tail}
use Rattle.json_text.specs.Tree.{Member, member, name_of}
use Rattle.json_text.specs.Compact.{compact}
use Rattle.line.specs.Class.{is_lower_name}
use Rattle.line.specs.Grammar.{Param, param, param_name, param_values, value_count, fits, is_frame_name}
use Rattle.convert.specs.Table.{reserved}
use Rattle.convert.specs.Model.{Kept}
use Rattle.convert.specs.Value.{filled}
use Rattle.convert.specs.Pointer.{pointer}
use Rattle.convert.specs.Classify.{Seen}
use Rattle.convert.specs.Carry.{carried_param, carried_kept}
use Rattle.convert.specs.FromJson.{is_lower_word, never_kept, kept_as_line}
use Rattle.convert.specs.ToCard.{member_line}
use Rattle.home.proofs.Proper.{ProperMember, KeptFine}
use Rattle.home.proofs.WrittenClean.{raw-clean, clean-text, compact-clean}
use Rattle.home.proofs.Fair.{Fair, fair_value, fair_param}
use Rattle.home.proofs.FairValues.{names-fair, pointer-fair}
use Rattle.home.proofs.Words.{word-lowered, names-lower}
use Rattle.home.proofs.Stands.{Stands, lower_param}

-- ---- JSPROP

member-words : (is_lower_word (ascii "jsprop") ≡ true) × (is_lower_word (ascii "jsptr") ≡ true) × (is_frame_name (ascii "jsprop") ≡ false)
unfolding all is_lower_name between is_frame_name among any same lowered lower
member-words = (refl, refl, refl)

one-fits : (n v : Bytes) → fits (param n (v ∷ []) ∷ []) ≡ true
unfolding fits value_count
one-fits n v = refl

one-fair : (n v : Bytes) → is_lower_word n ≡ true → fair_value v ≡ true → all fair_param (param n (v ∷ []) ∷ []) ≡ true
unfolding all
one-fair n v w h = rw (w, h)

pub member-fair : (m : Member) → ProperMember m → carried_param (name_of m) ≡ true → Fair (member_line m)
unfolding member_line
member-fair (member n j) g h =
    record {
      group = refl;
      name = member-words.0;
      frame = member-words.2;
      params = one-fair (ascii "jsptr") (pointer n) member-words.1 (pointer-fair n (and-true (and_right (filled n && not (among n reserved)) _ g.name) h));
      fits = one-fits (ascii "jsptr") (pointer n);
      value = clean-text false (compact j) (compact-clean j 15 g.value);
    }

-- ---- kept lines

values-fair : (vs : List Bytes) → all utf8 vs ≡ true → all carried_param vs ≡ true → all fair_value vs ≡ true
unfolding all
values-fair [] u h = refl
values-fair (v ∷ vs) u h = rw (all_head utf8 v vs u, all_head carried_param v vs h, values-fair vs (all_tail utf8 v vs u) (all_tail carried_param v vs h))

abbrev some_value : Param → Bool
some_value p = not (empty (param_values p))

abbrev utf8_values : Param → Bool
utf8_values p = all utf8 (param_values p)

abbrev carried_values : Param → Bool
carried_values p = all carried_param (param_values p)

params-fair : (ps : List Param) → all lower_param ps ≡ true → all some_value ps ≡ true → all utf8_values ps ≡ true → all carried_values ps ≡ true → all fair_param ps ≡ true
unfolding all
params-fair [] a b c d = refl
params-fair (p ∷ ps) a b c d =
    rw (
      and_left (is_lower_word (param_name p)) _ (all_head lower_param p ps a),
      all_head some_value p ps b,
      values-fair (param_values p) (all_head utf8_values p ps c) (all_head carried_values p ps d),
    )
    (params-fair ps (all_tail lower_param p ps a) (all_tail some_value p ps b) (all_tail utf8_values p ps c) (all_tail carried_values p ps d))

value-word : is_lower_word (ascii "value") ≡ true
unfolding all is_lower_name between
value-word = refl

type-fair : (t : Bytes) → is_lower_word t ≡ true → all fair_param (pick (same t (ascii "unknown")) [] (param (ascii "value") (t ∷ []) ∷ [])) ≡ true
unfolding all
type-fair t h =
    by_bool (same t (ascii "unknown")) (λ e. rw e) (λ e. rw e (one-fair (ascii "value") t value-word (names-fair t (names-lower t (and_right (filled t) _ h)))))

-- no name of a frame
neither : (n : Bytes) → lowered n ≡ n → same n (ascii "begin") ≡ false → same n (ascii "end") ≡ false → is_frame_name n ≡ false
unfolding is_frame_name among any
neither n l b e = rw (l, b, e)

no-frame : (n : Bytes) → lowered n ≡ n → among n never_kept ≡ false → is_frame_name n ≡ false
unfolding among
no-frame n l h = neither n l (any_head (same n) (ascii "begin") _ h) (any_head (same n) (ascii "end") _ (any-tail (same n) (ascii "begin") _ h))

pub kept-fair : (s : Seen) (k : Kept) → KeptFine k → Stands s k → carried_kept k ≡ true → Fair (kept_as_line k)
unfolding kept_as_line carried_kept
kept-fair s k f t h =
    record {
      group = f.group;
      name = t.name;
      frame = no-frame k.name (word-lowered k.name t.name) t.never;
      params = all_both fair_param k.params _ (params-fair k.params t.params f.values f.params-utf8 (and_left (all carried_values k.params) _ h)) (type-fair k.type t.type);
      fits = t.fit;
      value = raw-clean k.value f.value-utf8 (and_right (all carried_values k.params) _ h);
    }
