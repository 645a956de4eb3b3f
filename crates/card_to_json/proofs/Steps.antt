-- What each way out of the conversion needs.
use mathlib.Core.Path.{◌≡◌, subst, ◌∙◌}
use mathlib.Core.List.{List}
use mathlib.Core.Option.{none, some}
use Rattle.std.specs.Prelude.{Option, Some, None, Ok, Err}
use Prim.Native.Nat.{ℕ, ◌≤◌, ◌<◌}
use native.Mathlib.Omega.{arith}
use lib.ListN.{length}
use borrow.Author.Tests.{lt-ltb}
use Rattle.text.specs.Bytes.{Bytes}
use Rattle.line.specs.Physical.{physical, framed}
use Rattle.line.specs.Unfold.{unfold'}
use Rattle.line_frame.specs.declared.Body.{Body}
use Rattle.line_frame.specs.Frame.{Framed}
use Rattle.line_unfold.specs.declared.TooMany.{TooMany}
use Rattle.line_unfold.specs.Table.{Unfolded, Unfolds}
use Rattle.convert.specs.Answers.{Answer, no, yes, seek, line_tests, line_room, lines_of, raw_lines}
use Rattle.convert.specs.FromCard.{card_of_lines}
use Rattle.convert.specs.ToJson.{print_json}
use Rattle.card_to_json.specs.Inner.{inner}
use Rattle.std.specs.Prelude.{Ok}
use Rattle.card_to_json.specs.Laying.{Many, Lines, Lays}

-- ---- 1 and 3 (lines)

inner-none : (stem : Bytes) (n : ℕ) (s : Bytes) → raw_lines s ≡ none → inner stem n s ≡ no 1 0
unfolding inner
inner-none stem n s e = rw e

pub inner-some : (stem : Bytes) (n : ℕ) (s : Bytes) (raw : List Bytes) → raw_lines s ≡ some raw
    → inner stem n s ≡ seek (line_tests raw (lines_of raw)) (yes (print_json (card_of_lines stem n (lines_of raw))))
unfolding inner
inner-some stem n s raw e = rw e

raw-none : (s : Bytes) → framed (physical s) ≡ none → raw_lines s ≡ none
unfolding raw_lines
raw-none s e = rw e

raw-some : (s : Bytes) (ls : List Bytes) → framed (physical s) ≡ some ls → raw_lines s ≡ some (unfold' ls)
unfolding raw_lines
raw-some s ls e = rw e

many : (raw : List Bytes) (a : Answer) → line_room < length raw → seek (line_tests raw (lines_of raw)) a ≡ no 3 0
unfolding seek line_tests
many raw a h = rw (lt-ltb line_room (length raw) h)

pub inner-1 : (s : Bytes) (r : Option Body) → r ≡ None → Framed s r → (stem : Bytes) (n : ℕ) → inner stem n s ≡ no 1 0
inner-1 s r e f stem n = inner-none stem n s (raw-none s (subst (Framed s) e f))

pub body : (s : Bytes) (r : Option Body) (b : Body) → r ≡ Some b → Framed s r → Framed s (Some b)
body s r b e f = subst (Framed s) e f

-- 3 (lines), where as many are taken as a card may have
pub inner-3 : (s : Bytes) (most : ℕ) → line_room ≤ most → Many most s → (stem : Bytes) (n : ℕ) → inner stem n s ≡ no 3 0
inner-3 s most h m stem n = inner-some stem n s m.0 m.1 ∙ many m.0 _ (omega (arith, h, m.2))

module _ (most : ℕ) (s x : Bytes) (r : Unfolded) (scratch starts : List ℕ) (f : framed (physical s) ≡ some (physical x))
    (u : Unfolds most (unfold' (physical x)) r scratch starts) where
  unfolds : (o : Unfolded) → r ≡ o → Unfolds most (unfold' (physical x)) o scratch starts
  unfolds o e = subst (λ o. Unfolds most (unfold' (physical x)) o scratch starts) e u

  pub lays-many : (o : TooMany) → r ≡ Err o → Many most s
  lays-many o e = (unfold' (physical x), raw-some s (physical x) f, unfolds (Err o) e)

  pub lays : (k : ℕ) → r ≡ Ok k → Lays most s (Ok k) scratch starts
  lays k e =
      let l = unfolds (Ok k) e in
      (unfold' (physical x), raw-some s (physical x) f, l.0, l.1)

pub lays-as : (most : ℕ) (s : Bytes) (r r' : Lines) (scratch starts : List ℕ) → r ≡ r' → Lays most s r scratch starts → Lays most s r' scratch starts
lays-as most s r r' scratch starts e l = subst (λ o. Lays most s o scratch starts) e l
