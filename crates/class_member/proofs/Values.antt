-- The value of JSPROP: its TEXT is no longer than its bytes, and is JSON where the reader of JSON says so.
use mathlib.Core.Path.{◌≡◌, refl, sym, ap, ◌∙◌}
use mathlib.Core.Bool.{Bool, true, false, ◌||◌}
use mathlib.Core.List.{[], ◌∷◌, ◌++◌}
use mathlib.Core.Option.{Option, none, some}
use Prim.Native.Nat.{ℕ, suc, ◌-◌, ◌≤◌}
use native.Mathlib.Omega.{arith}
use lib.Dec.{eqb}
use lib.ListN.{length, take, drop, length-append}
use lib.Seq.{take_at}
use borrow.Author.Tests.{le-leb}
use Rattle.text.specs.Choice.{with-some, chain, is_some}
use Rattle.text.specs.Bytes.{Bytes, between}
use Rattle.text.specs.Reader.{on, when, past, some_of}
use Rattle.text.proofs.Cases.{by_bool}
use Rattle.text.proofs.Choices.{none-some, some_same}
use Rattle.output.specs.Put.{Puts, answer}
use Rattle.output.specs.Put.{Wrote, full}
use Rattle.std.specs.Prelude.{Ok, Err}
use Rattle.output.proofs.Laws.{put-fits, said-bytes, said-full}
use Rattle.line.specs.Text.{push, escaped, text_from, read_text}
use Rattle.line_text.specs.Read.{plain_text}
use Rattle.json_text.specs.Read.{Reading, tree, refused, reading}
use Rattle.json_text.specs.Lookup.{is_tree}
use Rattle.json_text.specs.Syntax.{skip, value, text, scalar, number, int, opt, digits}
use Rattle.json_read.specs.Verdict.{Verdict, verdict_of, verdict}
use Rattle.convert.specs.Classify.{tree_of, member_value}

-- ---- TEXT is no longer than its bytes

record Pushed (o : Option Bytes) (t : Bytes) : Type 0 where
  rest : Bytes
  is : o ≡ some rest
  long : length t ≡ suc (length rest)

pushed : (c : ℕ) (o : Option Bytes) (t : Bytes) → push c o ≡ some t → Pushed o t
pushed c none t e = none-some e
pushed c (some u) t e = record { rest = u; is = refl; long = ap length (sym (some_same e)) }

unescaped : (c : ℕ) (o : Option Bytes) (t : Bytes) → escaped c o ≡ some t → Pushed o t
unfolding escaped
unescaped c o t e =
    by_bool (eqb c 92 || eqb c 44 || eqb c 59)
    (λ h. pushed c o t (rw h at e))
    (λ h. by_bool (eqb c 110 || eqb c 78) (λ k. pushed 10 o t (rw (h, k) at e)) (λ k. none-some (rw (h, k) at e)))

shorter : (b : Bool) (s t : Bytes) → text_from b s ≡ some t → length t ≤ length s
unfolding text_from
shorter true [] t e = none-some e
shorter false [] t e = let z : [] ≡ t = some_same e in omega (arith, ap length z)
shorter true (c ∷ s) t e = let p = unescaped c (text_from false s) t e in omega (arith, p.long, shorter false s p.rest p.is)
shorter false (c ∷ s) t e =
    by_bool (eqb c 92)
    (λ h. omega (arith, shorter true s t (rw h at e)))
    (λ h. let p = pushed c (text_from false s) t (rw h at e) in omega (arith, p.long, shorter false s p.rest p.is))

plain_of : (o : Option Bytes) (n : ℕ) → ((t : Bytes) → o ≡ some t → length t ≤ n) → length (with-some o (λ t. t) []) ≤ n
plain_of none n h = omega arith
plain_of (some t) n h = h t refl

pub plain-shorter : (s : Bytes) → length (plain_text s) ≤ length s
unfolding plain_text read_text
plain-shorter s = plain_of (text_from false s) (length s) (shorter false s)

-- ---- what was written

pub never-full : (v room : Bytes) → length v ≤ length room → answer room (plain_text v) ≡ (Err full) → ⊥
never-full v room l e = omega (arith, said-full room (plain_text v) e, plain-shorter v)

pub written : {room x after : Bytes} {r : Wrote} (n : ℕ) → Puts room x r after → r ≡ Ok n → (n ≤ length after) × (take (n - 0) (drop 0 after) ≡ x)
written {room} {x} {after} n p e =
    let q = said-bytes room x n (sym p.said ∙ e) in
    let is : after ≡ x ++ drop (length x) room = p.left ∙ put-fits room x (omega arith) in (
      rw is (omega (arith, length-append x (drop (length x) room))),
      let z : n - 0 ≡ length x = omega arith in rw (is, z) (take_at x (drop (length x) room) (length x) refl),
    )

-- ---- JSON

-- nothing is no JSON
no-json : is_tree (reading 15 []) ≡ false
unfolding reading text value skip past on when scalar number int opt digits some_of between
no-json = refl

tree-some : (r : Reading) → is_some (tree_of r) ≡ is_tree r
tree-some (tree j) = refl
tree-some (refused n) = refl

by-text : (o : Option Bytes) → is_some (chain o (λ t. tree_of (reading 15 t))) ≡ is_tree (reading 15 (with-some o (λ t. t) []))
by-text none = sym no-json
by-text (some t) = tree-some (reading 15 t)

pub json-value : (v : Bytes) → is_some (member_value v) ≡ is_tree (reading 15 (plain_text v))
unfolding member_value plain_text
json-value v = by-text (read_text v)

-- the reader's answer
verdict-small : (s : Bytes) → length s ≤ 65536 → verdict 15 s ≡ verdict_of (reading 15 s)
unfolding verdict
verdict-small s l = rw (le-leb (length s) 65536 l)

abbrev pub soundly : Verdict → Bool
soundly (Ok u) = true
soundly (Err f) = false

judged : (r : Reading) → is_tree r ≡ soundly (verdict_of r)
judged (tree j) = refl
judged (refused n) = refl

pub judged-text : (v x : Bytes) (r : Verdict) → length v ≤ 65536 → x ≡ plain_text v → r ≡ verdict 15 x → soundly r ≡ is_some (member_value v)
judged-text v x r l e h =
    ap soundly (h ∙ ap (verdict 15) e ∙ verdict-small (plain_text v) (omega (arith, plain-shorter v))) ∙ sym (judged (reading 15 (plain_text v))) ∙ sym (json-value v)
