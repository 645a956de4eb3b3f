-- A proper card's written lines pass every test of a card but the count of lines.
use mathlib.Core.Path.{◌≡◌, refl, sym, subst, ◌∙◌}
use mathlib.Core.Bool.{Bool, true, false, ◌&&◌, ◌||◌}
use mathlib.Core.List.{List, [], ◌∷◌, ◌++◌, map}
use mathlib.Core.Option.{Option, none, some}
use Prim.Native.Nat.{ℕ, suc}
use lib.ListN.{length, length-map}
use lib.Dec.{ltb}
use Rattle.text.specs.Choice.{with-some}
use Rattle.text.specs.Bytes.{Bytes, ascii, any, all, empty, same, among, lower, lowered, upper, uppered, between, keep, flat}
use Rattle.text.proofs.Cases.{by_bool, and_left, not-true}
use Rattle.text.proofs.Lists.{any_head, any-tail, map_both}
use Rattle.text.proofs.Letters.{lowered-uppered}
use Rattle.line.specs.Class.{is_name}
use Rattle.line.specs.Grammar.{Param, param, Line}
use Rattle.line.specs.Params.{named, values_named, besides_value}
use Rattle.line.specs.Text.{write_text}
use Rattle.line.specs.Write.{write_line}
use Rattle.line.proofs.Parameters.{upper_param}
use Rattle.line.proofs.Lines.{upper_line}
use Rattle.line.proofs.Uppered.{values_named-upper, besides_value-upper, value_type-upper}
use Rattle.convert.specs.Table.{maps}
use Rattle.convert.specs.Model.{Card, has_parts}
use Rattle.convert.specs.Value.{filled, write_name}
use Rattle.convert.specs.FromJson.{is_lower_word, seen_in}
use Rattle.convert.specs.Property.{property}
use Rattle.convert.specs.ToCard.{where_filled, derived_line, full_line, card_lines}
use Rattle.convert.specs.Answers.{Answer, fine, line_room, seek, given, first_from, at_line, garbled, ungrammatical, is_named, is_version_line, version_first, only_uri, misused, second_from, emptied, line_tests}
use Rattle.convert.proofs.Cases.{empty-upper}
use Rattle.home.proofs.Proper.{ProperCard}
use Rattle.home.proofs.Rows.{rows}
use Rattle.home.proofs.Fair.{Fair, fair-garbled, fair-grammatical}
use Rattle.home.proofs.Parted.{version_line, uid_line, kind_lines, later_lines, card-parted, later-each}
use Rattle.home.proofs.CardLines.{card-fair}
use Rattle.home.proofs.PlainLines.{heads, Plain, full-plain, name-plain, members_plain, maps-plain, kepts-plain}
use Rattle.home.proofs.Words.{names-lower}
use Rattle.home.proofs.Alls.{All, all-joined, all-mono}

-- ---- a test that no line fails

first-none : {A : Type 0} (i : ℕ) (p : A → Bool) (f : Line → A) (ls : List Line) → All (λ l. p (f l) ≡ false) ls → first_from i p (map f ls) ≡ none
unfolding first_from
first-none i p f [] h = refl
first-none i p f (l ∷ ls) h = rw h.0 (first-none (suc i) p f ls h.1)

no_line : {A : Type 0} (n : ℕ) (p : A → Bool) (f : Line → A) (ls : List Line) → All (λ l. p (f l) ≡ false) ls → at_line n p (map f ls) ≡ fine
no_line n p f ls h = rw (first-none 1 p f ls h)

-- ---- upper-case names

upper-named : (n : Bytes) (ps : List Param) → any (named n) (map upper_param ps) ≡ any (named n) ps
unfolding any named
upper-named n [] = refl
upper-named n (param m vs ∷ ps) = rw (lowered-uppered m, upper-named n ps)

misused-upper : (l : Line) → misused (upper_line l) ≡ misused l
unfolding misused only_uri
misused-upper l =
    rw (
      lowered-uppered l.name,
      empty-upper l.params,
      besides_value-upper l.params,
      empty-upper (besides_value l.params),
      value_type-upper l.params,
      upper-named (ascii "group") l.params,
      values_named-upper (ascii "value") l.params,
    )

emptied-upper : (l : Line) → emptied (upper_line l) ≡ emptied l
unfolding emptied
emptied-upper l = rw (lowered-uppered l.name)

-- ---- plain lines

not-uid : (n : Bytes) → among n heads ≡ false → same n (ascii "uid") ≡ false
unfolding among
not-uid n h = any_head (same n) (ascii "uid") _ (any-tail (same n) (ascii "version") _ h)

not-kind : (n : Bytes) → among n heads ≡ false → same n (ascii "kind") ≡ false
unfolding among
not-kind n h = any_head (same n) (ascii "kind") _ (any-tail (same n) (ascii "uid") _ (any-tail (same n) (ascii "version") _ h))

pub plain-misused : (l : Line) → Plain l → misused l ≡ false
unfolding misused
plain-misused l p = rw (not-uid (lowered l.name) p.own, not-kind (lowered l.name) p.own, p.group, p.value)

plain-emptied : (l : Line) → Plain l → emptied l ≡ false
unfolding emptied
plain-emptied l p = rw (not-uid (lowered l.name) p.own, not-kind (lowered l.name) p.own)

later-plain : (c : Card) → ProperCard c → All Plain (later_lines c)
unfolding full_line
later-plain c p =
    later-each Plain c (full-plain c.full c.parts) (name-plain (has_parts c.parts) (write_name c.parts)) (maps-plain 0 maps c.maps rows p.entries) (members_plain c.members)
    (kepts-plain (seen_in c) c.kept p.kept p.stand)

-- ---- misused (7), emptied (9)

version-passes : (misused version_line ≡ false) × (emptied version_line ≡ false)
unfolding misused emptied any same lowered lower between values_named keep flat
version-passes = (refl, refl)

uid-used : (v : Bytes) → misused (property (ascii "uid") [] v) ≡ false
unfolding misused only_uri any same lowered lower between values_named keep flat
uid-used v = refl

uid-filled : (v : Bytes) → empty v ≡ false → emptied (property (ascii "uid") [] v) ≡ false
unfolding emptied same lowered lower between
uid-filled v h = rw h

kind-used : (v : Bytes) → misused (property (ascii "kind") [] v) ≡ false
unfolding misused any same lowered lower between values_named keep flat
kind-used v = refl

kind-filled : (v : Bytes) → empty v ≡ false → all is_name v ≡ true → emptied (property (ascii "kind") [] v) ≡ false
unfolding emptied same lowered lower between
kind-filled v h k = rw (h, k)

Passes : Line → Type 0
Passes l = (misused (upper_line l) ≡ false) × (emptied (upper_line l) ≡ false)

passes : (l : Line) → misused l ≡ false → emptied l ≡ false → Passes l
unfolding Passes
passes l m e = (misused-upper l ∙ m, emptied-upper l ∙ e)

kind-passes : (k : Bytes) → empty k || is_lower_word k ≡ true → All Passes (where_filled k (property (ascii "kind") [] k))
kind-passes [] h = tt
kind-passes (c ∷ k) h = (passes (property (ascii "kind") [] (c ∷ k)) (kind-used (c ∷ k)) (kind-filled (c ∷ k) refl (names-lower (c ∷ k) h)), tt)

parted-passes : (c : Card) → ProperCard c → All Passes (version_line ∷ uid_line c ∷ (kind_lines c ++ later_lines c))
parted-passes c p = (
  passes version_line version-passes.0 version-passes.1,
  (
    passes (uid_line c) (uid-used c.uid) (uid-filled c.uid (not-true (empty c.uid) (and_left (filled c.uid) _ p.uid))),
    all-joined Passes (kind_lines c) (later_lines c) (kind-passes c.kind p.kind) (all-mono Plain Passes (λ l q. passes l (plain-misused l q) (plain-emptied l q)) (later_lines c) (later-plain c p)),
  ),
)

card-passes : (c : Card) → ProperCard c → All Passes (card_lines c)
card-passes c p = subst (All Passes) (sym (card-parted c)) (parted-passes c p)

-- ---- no second VERSION, UID or KIND (8)

second-step : (i : ℕ) (before : List Bytes) (l : Line) (ls : List Line) → among (lowered l.name) heads && among (lowered l.name) before ≡ false
    → second_from i before (upper_line l ∷ ls) ≡ second_from (suc i) (lowered l.name ∷ before) ls
unfolding second_from
second-step i before l ls h = rw (lowered-uppered l.name, h)

second_none : (i : ℕ) (before : List Bytes) → second_from i before [] ≡ none
unfolding second_from
second_none i before = refl

second_plain : (i : ℕ) (before : List Bytes) (ls : List Line) → All Plain ls → second_from i before (map upper_line ls) ≡ none
second_plain i before [] h = second_none i before
second_plain i before (l ∷ ls) h = second-step i before l (map upper_line ls) (rw h.0.own) ∙ second_plain (suc i) (lowered l.name ∷ before) ls h.1

version-new : among (lowered (ascii "version")) heads && among (lowered (ascii "version")) [] ≡ false
unfolding among any same lowered lower between
version-new = refl

uid-new : among (lowered (ascii "uid")) heads && among (lowered (ascii "uid")) (lowered (ascii "version") ∷ []) ≡ false
unfolding among any same lowered lower between
uid-new = refl

kind-new : among (lowered (ascii "kind")) heads && among (lowered (ascii "kind")) (lowered (ascii "uid") ∷ lowered (ascii "version") ∷ []) ≡ false
unfolding among any same lowered lower between
kind-new = refl

kind-second : (k : Bytes) (ls : List Line) → All Plain ls → second_from 3 (lowered (ascii "uid") ∷ lowered (ascii "version") ∷ []) (map upper_line (where_filled k (property (ascii "kind") [] k) ++ ls)) ≡ none
kind-second [] ls h = second_plain 3 _ ls h
kind-second (c ∷ k) ls h = second-step 3 _ (property (ascii "kind") [] (c ∷ k)) (map upper_line ls) kind-new ∙ second_plain 4 _ ls h

parted-second : (c : Card) → ProperCard c → second_from 1 [] (map upper_line (version_line ∷ uid_line c ∷ (kind_lines c ++ later_lines c))) ≡ none
parted-second c p =
    second-step 1 [] version_line _ version-new
    ∙ second-step 2 (lowered (ascii "version") ∷ []) (uid_line c) _ uid-new
    ∙ kind-second c.kind (later_lines c) (later-plain c p)

-- ---- VERSION first (6), an FN (10)

version-first : (ls : List Line) → version_first (map upper_line (version_line ∷ ls)) ≡ true
unfolding is_version_line same lowered lower between uppered upper
version-first ls = refl

full-named : (v : Option Bytes) (pss : List (List Bytes)) → is_named (ascii "fn") (upper_line (with-some v (λ v. property (ascii "fn") [] (write_text false v)) (derived_line pss))) ≡ true
unfolding derived_line same lowered lower between uppered upper
full-named (some v) pss = refl
full-named none pss = refl

fn-named : (c : Card) → is_named (ascii "fn") (upper_line (full_line c)) ≡ true
unfolding full_line
fn-named c = full-named c.full c.parts

any_here : {A : Type 0} (p : A → Bool) (xs : List A) (x : A) (ys : List A) → p x ≡ true → any p (xs ++ x ∷ ys) ≡ true
unfolding any
any_here p [] x ys h = rw h
any_here p (y ∷ xs) x ys h = by_bool (p y) (λ e. rw e) (λ e. rw e (any_here p xs x ys h))

fn-there : (c : Card) → any (is_named (ascii "fn")) (map upper_line (card_lines c)) ≡ true
fn-there c =
    rw (card-parted c, map_both upper_line (version_line ∷ uid_line c ∷ kind_lines c) (later_lines c))
    (any_here (is_named (ascii "fn")) (map upper_line (version_line ∷ uid_line c ∷ kind_lines c)) (upper_line (full_line c)) _ (fn-named c))

-- ---- all tests

module _ (c : Card) (p : ProperCard c) where
  none-garbled : at_line 4 garbled (map write_line (card_lines c)) ≡ fine
  none-garbled = no_line 4 garbled write_line (card_lines c) (all-mono Fair (λ l. garbled (write_line l) ≡ false) fair-garbled (card_lines c) (card-fair c p))

  all-grammatical : at_line 5 ungrammatical (map write_line (card_lines c)) ≡ fine
  all-grammatical = no_line 5 ungrammatical write_line (card_lines c) (all-mono Fair (λ l. ungrammatical (write_line l) ≡ false) fair-grammatical (card_lines c) (card-fair c p))

  versioned : version_first (map upper_line (card_lines c)) ≡ true
  versioned = rw (card-parted c) (version-first (uid_line c ∷ (kind_lines c ++ later_lines c)))

  pub none-misused : at_line 7 misused (map upper_line (card_lines c)) ≡ fine
  unfolding Passes
  none-misused = no_line 7 misused upper_line (card_lines c) (all-mono Passes (λ l. misused (upper_line l) ≡ false) (λ l q. q.0) (card_lines c) (card-passes c p))

  pub no_second : second_from 1 [] (map upper_line (card_lines c)) ≡ none
  no_second = rw (card-parted c) (parted-second c p)

  pub none-emptied : at_line 9 emptied (map upper_line (card_lines c)) ≡ fine
  unfolding Passes
  none-emptied = no_line 9 emptied upper_line (card_lines c) (all-mono Passes (λ l. emptied (upper_line l) ≡ false) (λ l q. q.1) (card_lines c) (card-passes c p))

  pub card-tests : line_tests (map write_line (card_lines c)) (map upper_line (card_lines c)) ≡ given 3 (ltb line_room (length (card_lines c))) ∷ fine ∷ fine ∷ fine ∷ fine ∷ fine ∷ fine ∷ fine ∷ []
  unfolding line_tests
  card-tests = rw (length-map (card_lines c) write_line, none-garbled, all-grammatical, versioned, none-misused, no_second, none-emptied, fn-there c)

  -- where the lines are not too many, no test stops the answer
  pub card-answered : ltb line_room (length (card_lines c)) ≡ false → (a : Answer) → seek (line_tests (map write_line (card_lines c)) (map upper_line (card_lines c))) a ≡ a
  unfolding seek
  card-answered h a = rw (card-tests, h)
