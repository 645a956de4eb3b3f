-- A machine whose states are another's, written otherwise, meets demand 3 where the other does.
use mathlib.Core.Path.{◌≡◌, refl, sym, ap, subst, ◌∙◌}
use mathlib.Core.List.{List, [], ◌∷◌, map}
use mathlib.Core.Option.{Option, none, some}
use Prim.Native.Nat.{ℕ, ◌≤◌}
use lib.ListN.{length}
use Rattle.text.specs.Bytes.{Bytes}
use Rattle.stream.specs.Plain.{fresh}
use Rattle.stream.specs.Calls.{Call, end, bytes_of, plain_replies, Turn, Machine, hinders, Lent, made, final, final_buffer, Handed, Met, met}
use Rattle.stream.specs.Buffer.{plain_buffer, all_found}
use Rattle.stream.specs.Demand.{passed, passed_met, calls_of, replies_of, loud, joined_bytes, with_stem, pieces_then_ends, answered, AllAgree, OutputAfter, Ended, Hindered, Demand3}

-- a turn with its state written otherwise
abbrev pub over : {A B : Type 0} → (A → B) → Turn A → Turn B
over f t = record { shown = t.shown; consumed = t.consumed; state = f t.state; buffer = t.buffer; output = t.output }

-- The states of m stand for those of k: `reads` says which one, and `writes` gives the one that m writes. A call that nothing hinders gives what k's call
-- gives, its state written; one that is hindered changes nothing.
pub record Tied (m k : Machine) (reads : m.State → k.State) (writes : k.State → m.State) : Type 0 where
  pub initial : m.initial ≡ writes k.initial
  pub back : (s : k.State) → reads (writes s) ≡ s
  pub ranged : (s : m.State) → m.in_range s ≡ k.in_range (reads s)
  pub passes : (s : m.State) (d out : Bytes) (c : Call) → hinders m s d out c ≡ none → m.turn s d out c ≡ over writes (k.turn (reads s) d out c)
  pub stays : Hindered m

module _ (m k : Machine) (reads : m.State → k.State) (writes : k.State → m.State) (tied : Tied m k reads writes) (h : Demand3 k) where
  reads-initial : reads m.initial ≡ k.initial
  reads-initial = ap reads tied.initial ∙ tied.back k.initial

  same-hinders : (s : m.State) (d out : Bytes) (c : Call) → hinders m s d out c ≡ hinders k (reads s) d out c
  same-hinders s d out c = rw (tied.ranged s)

  -- a call of m, with its states read, is the call of k
  alike : (s : m.State) (d out : Bytes) (c : Call) → over reads (m.turn s d out c) ≡ k.turn (reads s) d out c
  alike s d out c = go (hinders m s d out c) refl
    where
      read_back : (t : Turn k.State) → over reads (over writes t) ≡ t
      read_back t = λ i. record { shown = t.shown; consumed = t.consumed; state = tied.back t.state i; buffer = t.buffer; output = t.output }

      go : (o : Option ℕ) → hinders m s d out c ≡ o → over reads (m.turn s d out c) ≡ k.turn (reads s) d out c
      go none e = ap (over reads) (tied.passes s d out c e) ∙ read_back (k.turn (reads s) d out c)
      go (some n) e = ap (over reads) (tied.stays s d out c n e) ∙ sym (h.hindered (reads s) d out c n (sym (same-hinders s d out c) ∙ e))

  -- ---- lists of calls

  same-made : (ls : List Lent) (s : m.State) (d : Bytes) → made m s d ls ≡ made k (reads s) d ls
  unfolding made
  same-made [] s d = refl
  same-made (l ∷ ls) s d =
      (λ i. record {
        call = l.call;
        hindered = same-hinders s d l.output l.call i;
        reply = record { shown = (m.turn s d l.output l.call).shown; consumed = (m.turn s d l.output l.call).consumed };
      } ∷ same-made ls (m.turn s d l.output l.call).state (m.turn s d l.output l.call).buffer i)
      ∙ (λ i. record {
        call = l.call;
        hindered = hinders k (reads s) d l.output l.call;
        reply = record { shown = (alike s d l.output l.call i).shown; consumed = (alike s d l.output l.call i).consumed };
      } ∷ made k (alike s d l.output l.call i).state (alike s d l.output l.call i).buffer ls)

  same-final : (ls : List Lent) (s : m.State) (d : Bytes) → reads (final m s d ls) ≡ final k (reads s) d ls
  unfolding final
  same-final [] s d = refl
  same-final (l ∷ ls) s d =
      same-final ls (m.turn s d l.output l.call).state (m.turn s d l.output l.call).buffer
      ∙ ap (λ (t : Turn k.State). final k t.state t.buffer ls) (alike s d l.output l.call)

  same-buffer : (ls : List Lent) (s : m.State) (d : Bytes) → final_buffer m s d ls ≡ final_buffer k (reads s) d ls
  unfolding final_buffer
  same-buffer [] s d = refl
  same-buffer (l ∷ ls) s d =
      same-buffer ls (m.turn s d l.output l.call).state (m.turn s d l.output l.call).buffer
      ∙ ap (λ (t : Turn k.State). final_buffer k t.state t.buffer ls) (alike s d l.output l.call)

  same_met : (hs : List Handed) (s : m.State) → met m s hs ≡ met k (reads s) hs
  unfolding met
  same_met [] s = refl
  same_met (x ∷ hs) s =
      (λ i. record {
        handed = x;
        hindered = same-hinders s x.buffer x.output x.call i;
        found = record {
          reply = record { shown = (m.turn s x.buffer x.output x.call).shown; consumed = (m.turn s x.buffer x.output x.call).consumed };
          left = (m.turn s x.buffer x.output x.call).buffer;
        };
      } ∷ same_met hs (m.turn s x.buffer x.output x.call).state i)
      ∙ (λ i. record {
        handed = x;
        hindered = hinders k (reads s) x.buffer x.output x.call;
        found = record {
          reply = record { shown = (alike s x.buffer x.output x.call i).shown; consumed = (alike s x.buffer x.output x.call i).consumed };
          left = (alike s x.buffer x.output x.call i).buffer;
        };
      } ∷ met k (alike s x.buffer x.output x.call i).state hs)

  -- ---- from the fresh state

  fresh-made : (d : Bytes) (ls : List Lent) → made k k.initial d ls ≡ made m m.initial d ls
  fresh-made d ls = sym (same-made ls m.initial d ∙ ap (λ s. made k s d ls) reads-initial)

  fresh-buffer : (d : Bytes) (ls : List Lent) → final_buffer k k.initial d ls ≡ final_buffer m m.initial d ls
  fresh-buffer d ls = sym (same-buffer ls m.initial d ∙ ap (λ s. final_buffer k s d ls) reads-initial)

  fresh-met : (hs : List Handed) → met k k.initial hs ≡ met m m.initial hs
  fresh-met hs = sym (same_met hs m.initial ∙ ap (λ s. met k s hs) reads-initial)

  ended : (stem d : Bytes) (ls : List Lent) → Ended m stem d ls → Ended k stem d ls
  ended stem d ls e = record {
    stems = ap (λ x. with_stem stem (passed x)) (fresh-made d ls) ∙ e.stems;
    order = ap (λ x. pieces_then_ends (calls_of (passed x))) (fresh-made d ls) ∙ e.order;
    ended = sym (same-final ls m.initial d ∙ ap (λ s. final k s d ls) reads-initial) ∙ ap reads e.ended ∙ reads-initial;
  }

  -- ---- two end calls

  two_ends : (t u : Bytes) (s : m.State) (d out out₂ : Bytes) → hinders m s d out (end t) ≡ none
      → hinders m (m.turn s d out (end t)).state (m.turn s d out (end t)).buffer out₂ (end u) ≡ none
      → (m.turn (m.turn s d out (end t)).state (m.turn s d out (end t)).buffer out₂ (end u)).state ≡ m.initial
  two_ends t u s d out out₂ e f =
      ap (λ (x : Turn m.State). x.state) (tied.passes s' d' out₂ (end u) f) ∙ ap writes (ap (λ (x : Turn k.State). (k.turn x.state x.buffer out₂ (end u)).state) first ∙ last) ∙ sym tied.initial
    where
      s' : m.State
      s' = (m.turn s d out (end t)).state

      d' : Bytes
      d' = (m.turn s d out (end t)).buffer

      first : over reads (m.turn s d out (end t)) ≡ k.turn (reads s) d out (end t)
      first = alike s d out (end t)

      last : (k.turn (k.turn (reads s) d out (end t)).state (k.turn (reads s) d out (end t)).buffer out₂ (end u)).state ≡ k.initial
      last =
          h.ends t u (reads s) d out out₂ (sym (same-hinders s d out (end t)) ∙ e)
          (sym (ap (λ (x : Turn k.State). hinders k x.state x.buffer out₂ (end u)) first) ∙ sym (same-hinders s' d' out₂ (end u)) ∙ f)

  -- ---- all of it

  pub tied-demand-3 : Demand3 m
  tied-demand-3 =
      record {
        hindered = tied.stays;
        no_other = λ s d out c n p e q.
            h.no_other (reads s) d out c n p (sym (same-hinders s d out c) ∙ e) (sym (ap (λ (t : Turn k.State). t.shown) (alike s d out c)) ∙ q);
        reads = λ d ls. subst (λ x. replies_of (passed x) ≡ plain_replies fresh (calls_of (passed x))) (fresh-made d ls) (h.reads d ls);
        cuts = λ stem d e ls ks p q j.
            ap loud (sym (fresh-made d ls))
            ∙ h.cuts stem d e ls ks (ended stem d ls p) (ended stem e ks q)
            (ap (λ x. joined_bytes (passed x)) (fresh-made d ls) ∙ j ∙ ap (λ x. joined_bytes (passed x)) (sym (fresh-made e ks)))
            ∙ ap loud (fresh-made e ks);
        alike = λ d e ls ks.
            coe 0 1 (i. AllAgree (answered fresh (passed (fresh-made d ls i))) (answered fresh (passed (fresh-made e ks i)))) (h.alike d e ls ks);
        outputs = λ s d out c. subst (λ (t : Turn k.State). OutputAfter out t.shown t.output) (sym (alike s d out c)) (h.outputs (reads s) d out c);
        buffers = λ d ls. sym (fresh-buffer d ls) ∙ h.buffers d ls ∙ ap (λ x. plain_buffer fresh d (calls_of (passed x))) (fresh-made d ls);
        lengths = λ s d out c. subst (λ (t : Turn k.State). length t.buffer ≡ length d) (sym (alike s d out c)) (h.lengths (reads s) d out c);
        counts = λ s d out c. subst (λ (t : Turn k.State). t.consumed ≤ length (bytes_of c)) (sym (alike s d out c)) (h.counts (reads s) d out c);
        found = λ hs.
            subst (λ x. map (λ (y : Met). y.found) (passed_met x) ≡ all_found fresh (map (λ (y : Met). y.handed) (passed_met x))) (fresh-met hs) (h.found hs);
        fresh-ranged = tied.ranged m.initial ∙ ap k.in_range reads-initial ∙ h.fresh-ranged;
        ranges = λ s d out c e.
            tied.ranged (m.turn s d out c).state ∙ ap (λ (t : Turn k.State). k.in_range t.state) (alike s d out c)
            ∙ h.ranges (reads s) d out c (sym (tied.ranged s) ∙ e);
        ends = two_ends;
      }
