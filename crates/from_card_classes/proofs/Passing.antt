-- One line more, and the end of the pass.
use mathlib.Core.Path.{◌≡◌, refl, sym, ap, ◌∙◌}
use mathlib.Core.Bool.{Bool, true, false}
use mathlib.Core.List.{List, [], ◌∷◌, ◌++◌, append_assoc, append-nil}
use mathlib.Core.Option.{none, some}
use Prim.Native.Nat.{ℕ, suc, ◌+◌, ◌≤◌, ◌<◌}
use native.Mathlib.Omega.{arith}
use native.Mathlib.Numerals.{add-one}
use lib.ListN.{length, take, drop, get_or, set, length-append}
use lib.Seq.{take-suc, take-suc-set, take_all}
use Rattle.std.specs.Prelude.{Option, Some, None}
use Rattle.text.specs.Bytes.{Bytes, any, among, each, flat}
use Rattle.text.proofs.Cases.{not-both}
use Rattle.text.proofs.Lists.{map_both, each_both}
use Rattle.line.specs.Grammar.{Line, read_line}
use Rattle.line_unfold.specs.Table.{Laid, line_at}
use Rattle.line_unfold.proofs.Lookup.{line-is, start, out-is}
use Rattle.line_table.specs.Spread.{spread_line, valued}
use Rattle.line_table.specs.Table.{line_in, Holds, Filled}
use Rattle.convert.specs.Classify.{Seen, see, Classed, classify, classed_after, classed, nothing}
use Rattle.convert.specs.Answers.{seek, first_from, ungrammatical, lines_of, or_none, misused, emptied, is_version_line}
use Rattle.convert_entry.specs.Rows.{code_of}
use Rattle.table_entry.proofs.Spread.{classify-spread}
use Rattle.class_member.specs.Member.{Room}
use Rattle.class_line.specs.declared.Class.{Class as Answered}
use Rattle.class_line.specs.Class.{Classes, seen_with}
use Rattle.from_card_lines.specs.Classified.{Turned, Classified}
use Rattle.from_card_garbled.proofs.First.{first_on, first-here, first-end}
use Rattle.from_card_refusals.specs.declared.Judged.{Judged}
use Rattle.served.specs.declared.Refusal.{Refusal}
use Rattle.from_card_refusals.specs.Line.{Coded}
use Rattle.from_card_refusals.specs.Judged.{judged, judged_with, refusal_at, refusal_of}
use Rattle.from_card_refusals.proofs.Judging.{judged-snoc, refusal-told}
use Rattle.from_card_refusals.proofs.Spread.{misused-spread, version-spread, emptied-spread, coded-spread}
use Rattle.from_card_seen.specs.Ids.{ids_at, Remembers, Cut}
use Rattle.from_card_seen.specs.Settled.{Follows}
use Rattle.from_card_classes.specs.declared.Pass.{Pass}
use Rattle.from_card_classes.specs.Pass.{lines_in, numbers_in, Ready, Sofar, Noted, NextLine, Through, Passed, Lent, fresh}

-- ---- lists of classed lines

turned-snoc : (cs : List Classed) (c : Classed) (seen : Seen) → Turned cs → c.class ≡ classify seen c.line → Turned (cs ++ c ∷ [])
turned-snoc [] c seen t e = ((seen, e), tt)
turned-snoc (x ∷ cs) c seen t e = (t.0, turned-snoc cs c seen t.1 e)

lines-length : (cs : List Classed) → length (lines_in cs) ≡ length cs
lines-length [] = refl
lines-length (c ∷ cs) = ap suc (lines-length cs)

after-cons : (seen : Seen) (l : Line) (rest : List Line) → classed_after seen (l ∷ rest) ≡ record { line = l; class = classify seen l } ∷ classed_after (see seen (classify seen l)) rest
unfolding classed_after
after-cons seen l rest = refl

after_none : (seen : Seen) → classed_after seen [] ≡ []
unfolding classed_after
after_none seen = refl

-- ---- one line more

module _ {bytes s t codes ids codes' ids' prints' : List ℕ} {k code : ℕ} {p r : Pass} {j : Judged} {class : Answered}
    (is : Coded code (line_in s t))
    (judges : j ≡ judged_with p.judged (k + 1) code (misused (line_in s t)) (emptied (line_in s t)) (is_version_line (line_in s t)))
    (classes : Classes s t p.full p.parts class)
    (noted : Noted bytes s codes ids k p j class codes' ids' prints' r)
    (room : k < length codes) where
  module _ (done : List Classed) (sofar : Sofar bytes codes ids k p done) (l : Line) (held : line_in s t ≡ spread_line l) (has : valued l.params ≡ true) where
    abbrev seen : Seen
    seen = sofar.seen

    abbrev new : Classed
    new = record { line = l; class = classify seen l }

    classified : classify seen (line_in s t) ≡ classify seen l
    classified = ap (classify seen) held ∙ classify-spread l has seen

    sees : see seen (classify seen l) ≡ seen_with seen s class
    sees = ap (see seen) (sym classified) ∙ classes.sees seen sofar.full sofar.parts

    follows : Follows bytes s ids' class noted.settled seen
    follows = noted.settles.says seen sofar.full sofar.parts sofar.remembers

    lines : lines_in (done ++ new ∷ []) ≡ lines_in done ++ l ∷ []
    lines = map_both (λ (c : Classed). c.line) done (new ∷ [])

    left : (rest : List Line) → classed (lines_in (done ++ new ∷ []) ++ rest) ≡ (done ++ new ∷ []) ++ classed_after (seen_with seen s class) rest
    left rest =
        ap (λ ls. classed (ls ++ rest)) lines
        ∙ ap classed (append_assoc (lines_in done) (l ∷ []) rest)
        ∙ sofar.left (l ∷ rest)
        ∙ ap (λ cs. done ++ cs) (after-cons seen l rest ∙ ap (λ x. new ∷ classed_after x rest) sees)
        ∙ sym (append_assoc done (new ∷ []) (classed_after (seen_with seen s class) rest))

    code_is : noted.settled.code ≡ code_of (classify seen l)
    code_is = sym follows.code ∙ sym (classes.code seen sofar.full sofar.parts) ∙ ap code_of classified

    numbers : take (k + 1) codes' ≡ numbers_in (done ++ new ∷ [])
    numbers =
        ap (take (k + 1)) noted.stored
        ∙ ap (λ m. take m (set codes k noted.settled.code)) (add-one k)
        ∙ take-suc-set codes k noted.settled.code room
        ∙ ap (λ cs. cs ++ noted.settled.code ∷ []) sofar.numbers
        ∙ ap (λ c. numbers_in done ++ c ∷ []) code_is
        ∙ sym (map_both (λ (c : Classed). code_of c.class) done (new ∷ []))

    line-number : suc (length (lines_in done)) ≡ k + 1
    line-number = omega (arith, lines-length done, sofar.counted)

    coded : Coded code l
    coded = coded-spread l (rw held at is)

    judged-on : r.judged ≡ judged (lines_in (done ++ new ∷ []))
    judged-on =
        noted.judged
        ∙ judges
        ∙ ap (λ m. judged_with p.judged (k + 1) code m (emptied (line_in s t)) (is_version_line (line_in s t))) (ap misused held ∙ misused-spread l has)
        ∙ ap (λ e. judged_with p.judged (k + 1) code (misused l) e (is_version_line (line_in s t))) (ap emptied held ∙ emptied-spread l)
        ∙ ap (λ v. judged_with p.judged (k + 1) code (misused l) (emptied l) v) (ap is_version_line held ∙ version-spread l has)
        ∙ ap (λ x. judged_with x (k + 1) code (misused l) (emptied l) (is_version_line l)) sofar.judged
        ∙ ap (λ i. judged_with (judged (lines_in done)) i code (misused l) (emptied l) (is_version_line l)) (sym line-number)
        ∙ sym (judged-snoc (lines_in done) l code coded)
        ∙ ap judged (sym lines)

    pub sofar-more : Sofar bytes codes' ids' (k + 1) r (done ++ new ∷ [])
    sofar-more = record {
      counted = length-append done (new ∷ []) ∙ ap (λ m. m + 1) sofar.counted;
      seen = seen_with seen s class;
      left = left;
      turned = turned-snoc done new seen sofar.turned refl;
      numbers = numbers;
      judged = judged-on;
      full = follows.full ∙ sym noted.full;
      parts = follows.parts ∙ sym noted.parts;
      remembers = rw noted.count follows.remembers;
    }

  pub next-line : NextLine bytes s t codes ids k p codes' ids' prints' r
  next-line = record {
    ready = noted.ready;
    goes = λ done sofar l held has. (classify sofar.seen l, sofar-more done sofar l held has);
  }

pub judged-same : (j : Judged) (k code : ℕ) {m n e f v w : Bool} → m ≡ n → e ≡ f → v ≡ w → judged_with j k code m e v ≡ judged_with j k code n f w
judged-same j k code p q r = rw (p, q, r)

-- ---- before the first line

remembers-none : (bytes ids : List ℕ) → Remembers bytes ids 0 nothing
unfolding ids_at any among
remembers-none bytes ids = record { keys = λ i key h. refl; names = λ p name h. refl }

classed-is : (ls : List Line) → classed ls ≡ classed_after nothing ls
unfolding classed
classed-is ls = refl

each_none : each read_line [] ≡ some []
unfolding each
each_none = refl

pub through-none : (bytes codes ids : List ℕ) (raw : List Bytes) (p : Pass) → p ≡ fresh → Through bytes codes ids raw 0 p
through-none bytes codes ids raw p e =
    rw e (record {
      done = [];
      sofar = record {
        counted = refl;
        seen = nothing;
        left = classed-is;
        turned = tt;
        numbers = refl;
        judged = refl;
        full = refl;
        parts = refl;
        remembers = remembers-none bytes ids;
      };
      read = each_none;
      sought = refl;
    })

-- ---- by the grammar or not

each-one : (s : Bytes) (l : Line) → read_line s ≡ some l → each read_line (s ∷ []) ≡ some (l ∷ [])
unfolding each
each-one s l e = rw e

off-grammar : (s : Bytes) → read_line s ≡ none → ungrammatical s ≡ true
unfolding ungrammatical
off-grammar s e = rw e

by-grammar : (s : Bytes) (l : Line) → read_line s ≡ some l → ungrammatical s ≡ false
unfolding ungrammatical
by-grammar s l e = rw e

not_none : {r : Refusal} {P : Type 0} → Some r ≡ None → P
not_none e = absurd (let z : ◌≡◌ {A = ℕ} 0 1 = cc in omega arith)

module _ {bytes codes ids : List ℕ} {raw : List Bytes} {k : ℕ} {p : Pass} (through : Through bytes codes ids raw k p) where
  module _ {s : Bytes} (h : k < length raw) (at : s ≡ get_or raw k []) where
    -- 5 at this line
    pub through-bad : (starts : List ℕ) (n : ℕ) → read_line s ≡ none → Passed bytes starts codes n (Some (refusal_at 5 (k + 1))) raw
    unfolding seek
    through-bad starts n e =
        let found : first_from 1 ungrammatical raw ≡ some (k + 1) =
        through.sought ∙ first-here ungrammatical [] raw k h (ap ungrammatical (sym at) ∙ off-grammar s e) in
        record { refusals = λ a. rw found; classes = λ z. not_none z }

    pub through-next : {t codes' ids' prints' : List ℕ} {r : Pass} → Holds s t → NextLine bytes s t codes ids k p codes' ids' prints' r
        → Through bytes codes' ids' raw (k + 1) r
    through-next holds next =
        let l : Line = holds.line in
        let done : List Classed = through.done in
        let step = next.goes done through.sofar l holds.held holds.valued in
        let new : Classed = record { line = l; class = step.0 } in
        record {
          done = done ++ new ∷ [];
          sofar = step.1;
          read =
              ap (λ m. each read_line (take m raw)) (add-one k)
              ∙ ap (each read_line) (take-suc raw k [] h)
              ∙ each_both read_line (take k raw) (get_or raw k [] ∷ []) (lines_in done) (l ∷ []) through.read
              (ap (λ x. each read_line (x ∷ [])) (sym at) ∙ each-one s l holds.is)
              ∙ ap some (sym (map_both (λ (c : Classed). c.line) done (new ∷ [])));
          sought = through.sought ∙ first_on ungrammatical [] raw k h (ap ungrammatical (sym at) ∙ by-grammar s l holds.is);
        }

  -- ---- after the last line

  module _ {starts : List ℕ} {n : ℕ} (laid : Laid raw n bytes starts) (room : n ≤ length codes) (last : n ≤ k) (most : k ≤ n) where
    abbrev ls : List Line
    ls = lines_in through.done

    all-through : length raw ≤ k
    all-through = omega (arith, laid.count, last)

    k-is : k ≡ n
    k-is = omega (arith, last, most)

    read_all : each read_line raw ≡ some ls
    read_all = ap (each read_line) (sym (take_all k raw all-through)) ∙ through.read

    lines_are : lines_of raw ≡ ls
    unfolding lines_of
    lines_are = ap or_none read_all

    classed-all : classed ls ≡ through.done
    classed-all =
        ap classed (sym (append-nil ls))
        ∙ through.sofar.left []
        ∙ ap (λ cs. through.done ++ cs) (after_none through.sofar.seen)
        ∙ append-nil through.done

    classified-all : Classified bytes starts codes n through.done
    classified-all = record {
      raw = raw;
      laid = laid;
      read = read_all;
      wide = room;
      numbers = ap (λ m. take m codes) (sym k-is) ∙ through.sofar.numbers;
      turns = through.sofar.turned;
    }

    pub through-end : (r : Option Refusal) → r ≡ refusal_of p.judged → Passed bytes starts codes n r raw
    unfolding seek
    through-end r e = record {
      refusals = λ a.
          let fine : first_from 1 ungrammatical raw ≡ none = through.sought ∙ first-end ungrammatical [] raw k all-through in
          rw (fine, lines_are, e ∙ ap refusal_of through.sofar.judged) (refusal-told ls a);
      classes = λ z. rw (lines_are, classed-all) classified-all;
    }

-- ---- as the code goes

pub filled : (s t : List ℕ) (r : Bool) → r ≡ true → Filled s t r → Holds s t
filled s t true e h = h
filled s t false e h = not-both e refl

pub unfilled : (s t : List ℕ) (r : Bool) → r ≡ false → Filled s t r → read_line s ≡ none
unfilled s t false e h = h
unfilled s t true e h = not-both refl e

module _ {raw : List Bytes} {n : ℕ} {bytes starts : List ℕ} (laid : Laid raw n bytes starts) {k : ℕ} (h : k < n) {s : Bytes} (e : s ≡ line_at bytes starts k) where
  pub line-here : s ≡ get_or raw k []
  line-here = e ∙ line-is raw n bytes starts laid k h

  pub line-cut : Cut bytes s (get_or starts k 0)
  line-cut = record {
    before = flat (take k raw);
    after = flat (drop (suc k) raw) ++ drop (length (flat raw)) bytes;
    is = out-is raw n bytes starts laid k h ∙ ap (λ l. flat (take k raw) ++ (l ++ (flat (drop (suc k) raw) ++ drop (length (flat raw)) bytes))) (sym line-here);
    begins = sym (start raw n bytes starts laid k h);
  }

  pub line-room : {text : Bytes} → Room bytes text → Room s text
  line-room room =
      let w : length s ≤ length bytes = omega (arith, simp length-append at (ap length line-cut.is)) in
      record { fits = omega (arith, w, room.fits); small = omega (arith, w, room.small) }

pub ready-none : {codes ids prints table text bytes : List ℕ} {n : ℕ} (p : Pass) → p ≡ fresh → Lent codes ids prints table text bytes n → Ready bytes codes ids prints 0 p
ready-none p e lent =
    rw e (record {
      table = record {
        listed = record { wide = omega arith; span = λ k h. absurd (omega (arith, h)) };
        long = omega arith;
        print = λ k h. absurd (omega (arith, h));
      };
      few = omega arith;
      keys = lent.keys;
      printed = lent.printed;
    })
