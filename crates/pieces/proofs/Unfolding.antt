-- What each way out of the unfolding gives.
use mathlib.Core.Path.{◌≡◌, refl, sym, subst, ◌∙◌}
use mathlib.Core.Bool.{false, true, ◌||◌}
use mathlib.Core.List.{List}
use mathlib.Core.Option.{none, some}
use Rattle.std.specs.Prelude.{Option, Some, None, Ok, Err}
use Prim.Native.Nat.{ℕ, ◌-◌, ◌≤◌, ◌<◌}
use native.Mathlib.Omega.{arith}
use lib.Dec.{ltb}
use lib.ListN.{length, take, drop, length-take, length-drop}
use borrow.Author.Tests.{lt-ltb, le-ltb, le-leb, lt-leb}
use Rattle.text.specs.Choice.{pick}
use Rattle.text.proofs.Choices.{some_same}
use Rattle.text.specs.Bytes.{Bytes}
use Rattle.line.specs.Physical.{physical, framed}
use Rattle.line.specs.Unfold.{unfold'}
use Rattle.line_frame.specs.declared.Body.{Body}
use Rattle.line_frame.specs.Frame.{Framed}
use Rattle.line_unfold.specs.declared.TooMany.{TooMany}
use Rattle.line_unfold.specs.Table.{Laid, Unfolded, Unfolds}
use Rattle.convert.specs.Answers.{raw_lines, line_room}
use Rattle.pieces.specs.Given.{line_count, cramped, UnfoldsCard}

pub part_length : (s : Bytes) (a b : ℕ) → length (take (b - a) (drop a s)) ≤ length s
part_length s a b = simp (length-take, length-drop) (omega arith)

pub body : (s : Bytes) (r : Option Body) (b : Body) → r ≡ Some b → Framed s r → Framed s (Some b)
body s r b e f = subst (Framed s) e f

raw-none : (s : Bytes) → framed (physical s) ≡ none → raw_lines s ≡ none
unfolding raw_lines
raw-none s e = rw e

raw-some : (s : Bytes) (ls : List Bytes) → framed (physical s) ≡ some ls → raw_lines s ≡ some (unfold' ls)
unfolding raw_lines
raw-some s ls e = rw e

count_none : (s : Bytes) → raw_lines s ≡ none → line_count s ≡ 0
unfolding line_count
count_none s e = rw e

count-many : (s : Bytes) (raw : List Bytes) → raw_lines s ≡ some raw → line_room < length raw → line_count s ≡ 0
unfolding line_count
count-many s raw e h = rw (e, lt-leb (length raw) line_room h)

count-some : (s : Bytes) (raw : List Bytes) → raw_lines s ≡ some raw → length raw ≤ line_room → line_count s ≡ length raw
unfolding line_count
count-some s raw e h = rw (e, le-leb (length raw) line_room h)

short-starts : (out starts card : List ℕ) → length starts < 513 → cramped out starts card ≡ true
unfolding cramped
short-starts out starts card h = rw (lt-ltb (length starts) 513 h)

or-true : (b : _) → (b || true) ≡ true
or-true true = refl
or-true false = refl

short-out : (out starts card : List ℕ) → length out < length card → cramped out starts card ≡ true
unfolding cramped
short-out out starts card h = rw (lt-ltb (length out) (length card) h) (or-true (ltb (length starts) 513))

roomy : (out starts card : List ℕ) → 513 ≤ length starts → length card ≤ length out → cramped out starts card ≡ false
unfolding cramped
roomy out starts card h k = rw (le-ltb (length starts) 513 h, le-ltb (length out) (length card) k)

-- nothing is said of the tables where the answer is 0
nothing-laid : (out starts card after marked : List ℕ) → 0 ≡ pick (cramped out starts card) 0 (line_count card) → UnfoldsCard out starts card 0 after marked
nothing-laid out starts card after marked e = record { count = e; lines = λ raw w h. absurd (omega (arith, h)) }

module _ (out starts card after marked : List ℕ) where
  pub no-starts : length starts < 513 → UnfoldsCard out starts card 0 after marked
  no-starts h = nothing-laid out starts card after marked (rw (short-starts out starts card h) refl)

  pub no_bytes : length out < length card → UnfoldsCard out starts card 0 after marked
  no_bytes h = nothing-laid out starts card after marked (rw (short-out out starts card h) refl)

  module _ (h : 513 ≤ length starts) (k : length card ≤ length out) where
    pub not-one : (r : Option Body) → r ≡ None → Framed card r → UnfoldsCard out starts card 0 after marked
    not-one r e f =
        nothing-laid out starts card after marked (rw (roomy out starts card h k) (sym (count_none card (raw-none card (subst (Framed card) e f)))))

    module _ (x : Bytes) (f : framed (physical card) ≡ some (physical x)) (r : Unfolded) (u : Unfolds line_room (unfold' (physical x)) r after marked) where
      raw : raw_lines card ≡ some (unfold' (physical x))
      raw = raw-some card (physical x) f

      unfolds : (o : Unfolded) → r ≡ o → Unfolds line_room (unfold' (physical x)) o after marked
      unfolds o e = subst (λ o. Unfolds line_room (unfold' (physical x)) o after marked) e u

      pub too_many : (o : TooMany) → r ≡ Err o → UnfoldsCard out starts card 0 after marked
      too_many o e = nothing-laid out starts card after marked (rw (roomy out starts card h k) (sym (count-many card _ raw (unfolds (Err o) e))))

      pub lines-laid : (n : ℕ) → r ≡ Ok n → UnfoldsCard out starts card n after marked
      lines-laid n e =
          let l = unfolds (Ok n) e in
          let few : length (unfold' (physical x)) ≤ line_room = omega (arith, l.0.count, l.1) in
          record {
            count = rw (roomy out starts card h k) (l.0.count ∙ sym (count-some card _ raw few));
            lines = λ ls w z. subst (λ ls. Laid ls n after marked) (some_same (sym raw ∙ w)) l.0;
          }
