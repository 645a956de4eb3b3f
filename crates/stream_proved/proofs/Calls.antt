-- One call of the stream, refused at entry or read as the plain reader reads it; then lists of calls.
use Prim.Native.Nat.{ℕ, ◌≤◌}
use mathlib.Core.Path.{◌≡◌, refl, ap, ap₂}
use mathlib.Core.Bool.{Bool, true, false, not, ◌||◌}
use mathlib.Core.List.{List, [], ◌∷◌, ◌++◌}
use mathlib.Core.Logic.{◌⊎◌, inl, inr}
use lib.ListN.{length}
use lib.Dec.{ltb, eqb}
use borrow.Author.Tests.{ltb-false}
use Rattle.text.specs.Choice.{pick, is_some}
use Rattle.text.specs.Bytes.{Bytes, flat, keep, begins, lowered}
use Rattle.text.proofs.Cases.{by_bool, or_left, or_right, not-both}
use Rattle.convert.specs.Answers.{Answer, no, yes, json_room, is_stem_text}
use Rattle.stream.specs.Plain.{Reader, Told, fresh}
use Rattle.stream.specs.Calls.{Call, piece, end, stem_of, Shown, shows_more, shows, shown_of, loud_of, asked, plain_replies, hindrance, Lent, made, final}
use Rattle.stream.specs.Demand.{passed, calls_of, replies_of, loud, ReadsPlainly}
use Rattle.stream_reader.specs.declared.State.{State}
use Rattle.stream_reader.specs.Machine.{cap, fresh_of, in_range}
use Rattle.stream_machine.specs.Turn.{Given, given_by, fed_by, called, unfit}
use Rattle.stream_proved.specs.Stream.{stream}
use Rattle.stream_proved.proofs.Passing.{passes}
use Rattle.stream_proved.proofs.Same.{Tied, tied-fresh, state, Same, same-feed, same_end}

-- ---- one call

-- what a call is handed lets it pass
abbrev pub goes : Call → State → (d out : Bytes) → Bool
goes c s d out = not (is_some (hindrance (in_range s) (length d) (length out) (stem_of c)))

-- refused at entry: nothing is consumed or changed
pub record Refused (go : Bool) (d : Bytes) (s : State) (g : Given) : Type 0 where
  pub stops : go ≡ false
  pub fails : passes g.shown ≡ false
  pub state : g.state ≡ s
  pub buffer : g.buffer ≡ d

-- let pass: as the plain reader
pub record Taken (go : Bool) (g : Given) (y : Told) : Type 0 where
  pub goes : go ≡ true
  pub pass : passes g.shown ≡ true
  pub what : g.shown ≡ shown_of y.what
  pub used : g.consumed ≡ y.consumed
  pub then : g.state ≡ state y.then
  pub tied : cap ≤ length g.buffer → Tied y.then g.buffer

taken : (t : Bytes) (out : Bytes) (st : is_stem_text t ≡ true) (big : json_room ≤ length out) (f : _) (y : Told) → Same t (length out) st big f y → Taken true (given_by t out f) y
taken t out st big f y s =
    record { goes = refl; pass = rw s.what s.pass; what = s.what; used = s.used; then = s.then; tied = λ room. s.tied }

same-fed : (c : Call) (r : Reader) (d out : Bytes) (st : is_stem_text (stem_of c) ≡ true) (big : json_room ≤ length out) → Tied r d → Taken true (given_by (stem_of c) out (fed_by c (state r) d)) (asked c r)
same-fed (piece t bs) r d out st big h = taken t out st big _ _ (same-feed t (length out) st big bs r d h)
same-fed (end t) r d out st big h = taken t out st big _ _ (same_end t (length out) st big r d h)

-- the test at entry is 01's
pub entry-is : (c : Call) (s : State) (d out : Bytes) → goes c s d out ≡ pick (unfit s (length d) (length out)) false (is_stem_text (stem_of c))
unfolding hindrance unfit
entry-is c s d out =
    by_bool (unfit s (length d) (length out)) (λ e. rw e) (λ e. rw e (by_bool (is_stem_text (stem_of c)) (λ f. rw f) (λ f. rw f)))

pub one-call : (c : Call) (r : Reader) (d out : Bytes) → (cap ≤ length d → Tied r d)
    → Refused (goes c (state r) d out) d (state r) (called c (state r) d out) ⊎ Taken (goes c (state r) d out) (called c (state r) d out) (asked c r)
unfolding called unfit
one-call c r d out h =
    rw (entry-is c (state r) d out) (by_bool (unfit (state r) (length d) (length out)) (λ e. inl (rw e (record { stops = refl; fails = refl; state = refl; buffer = refl })))
    (λ e. by_bool (is_stem_text (stem_of c)) (λ st. inr (rw (e, st) (same-fed c r d out st
    (ltb-false (length out) json_room (or_left (ltb (length out) json_room) _ (or_right (ltb (length d) cap) _ e)))
    (h (ltb-false (length d) cap (or_left (ltb (length d) cap) _ e)))))) (λ st. inl (rw (e, st) (record { stops = refl; fails = refl; state = refl; buffer = refl })))))

-- 15 and 16 are not loud
quiet : (a : Shown) → passes a ≡ false → loud_of a ≡ []
quiet shows_more e = not-both refl e
quiet (shows (yes bs)) e = not-both refl e
quiet (shows (no n p)) e = by_bool (eqb n 15 || eqb n 16) (λ f. rw f) (λ f. not-both (rw f) e)

-- ---- lists of calls

-- the plain reader after a list of calls
unfoldable pub reader_after : Reader → List Call → Reader
reader_after r [] = r
reader_after r (c ∷ cs) = reader_after (asked c r).then cs

pub record Ran (r : Reader) (s : State) (d : Bytes) (ls : List Lent) : Type 0 where
  pub reads : replies_of (passed (made stream s d ls)) ≡ plain_replies r (calls_of (passed (made stream s d ls)))
  pub louds : loud (passed (made stream s d ls)) ≡ loud (made stream s d ls)
  pub ends : final stream s d ls ≡ state (reader_after r (calls_of (passed (made stream s d ls))))

pub ran : (ls : List Lent) (r : Reader) (s : State) (d : Bytes) → s ≡ state r → (cap ≤ length d → Tied r d) → Ran r s d ls
unfolding made final passed keep loud flat plain_replies reader_after
ran [] r s d e h = record { reads = refl; louds = refl; ends = e }
ran (l ∷ ls) r s d e h = rw e (go (one-call l.call r d l.output h) (λ q t b f k. ran ls q t b f k))
  where
    g : Given
    g = called l.call (state r) d l.output

    go : Refused (goes l.call (state r) d l.output) d (state r) g ⊎ Taken (goes l.call (state r) d l.output) g (asked l.call r)
        → ((q : Reader) (t : State) (b : Bytes) → t ≡ state q → (cap ≤ length b → Tied q b) → Ran q t b ls) → Ran r (state r) d (l ∷ ls)
    go (inl x) later =
        let ih = later r g.state g.buffer x.state (rw x.buffer h) in
        record { reads = rw x.stops ih.reads; louds = rw (x.stops, quiet g.shown x.fails) ih.louds; ends = rw x.stops ih.ends }
    go (inr x) later =
        let ih = later (asked l.call r).then g.state g.buffer x.then x.tied in
        record {
          reads = rw x.goes (ap₂ ◌∷◌ (ap₂ (λ (a : Shown) (n : ℕ). record { shown = a; consumed = n }) x.what x.used) ih.reads);
          louds = rw x.goes (ap (λ (a : List Answer). loud_of g.shown ++ a) ih.louds);
          ends = rw x.goes ih.ends;
        }

pub fresh-state : fresh_of ≡ state fresh
unfolding begins lowered
fresh-state = refl

pub from-fresh : (ls : List Lent) (d : Bytes) → Ran fresh fresh_of d ls
from-fresh ls d = ran ls fresh fresh_of d fresh-state (tied-fresh d)

pub reads-plainly : ReadsPlainly stream
reads-plainly d ls = (from-fresh ls d).reads
