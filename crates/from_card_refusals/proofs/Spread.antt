-- Refusals 6, 7 and 9 do not ask how values are grouped in parameters: what the table holds is judged as the line that was read.
use mathlib.Core.Path.{◌≡◌, refl, sym, ap, ◌∙◌}
use mathlib.Core.Bool.{Bool, true, false, ◌||◌}
use mathlib.Core.List.{List, [], ◌∷◌, ◌++◌}
use Prim.Native.Nat.{ℕ}
use Rattle.text.specs.Bytes.{Bytes, ascii, empty, any, same, lowered}
use Rattle.line.specs.Grammar.{Param, param, Line}
use Rattle.line.specs.Params.{named, besides_value}
use Rattle.convert.specs.Answers.{only_uri, misused, emptied, is_version_line}
use Rattle.line_table.specs.Spread.{ones, spread, spread_line, valued}
use Rattle.line_table.proofs.Same.{spread-nil, spread-cons, spread-values, spread-besides, spread-type, valued-besides}
use Rattle.table_entry.proofs.Spread.{none_has, rest-valued, spread-empty}
use Rattle.from_card_refusals.specs.Line.{Coded}

or_same : (a b : Bool) → a || (a || b) ≡ a || b
or_same true b = refl
or_same false b = refl

ones-any : (n x v : Bytes) (vs : List Bytes) (ps : List Param) → any (named n) (ones x (v ∷ vs) ++ ps) ≡ same (lowered x) n || any (named n) ps
unfolding any named ones
ones-any n x v [] ps = refl
ones-any n x v (w ∷ vs) ps = ap (λ b. same (lowered x) n || b) (ones-any n x w vs ps) ∙ or_same (same (lowered x) n) (any (named n) ps)

any-cons : (n x : Bytes) (vs : List Bytes) (ps : List Param) → any (named n) (param x vs ∷ ps) ≡ same (lowered x) n || any (named n) ps
unfolding any named
any-cons n x vs ps = refl

spread-any : (n : Bytes) (ps : List Param) → valued ps ≡ true → any (named n) (spread ps) ≡ any (named n) ps
spread-any n [] h = ap (any (named n)) spread-nil
spread-any n (param x [] ∷ ps) h = none_has x ps h
spread-any n (param x (v ∷ vs) ∷ ps) h =
    ap (any (named n)) (spread-cons x (v ∷ vs) ps)
    ∙ ones-any n x v vs (spread ps)
    ∙ ap (λ b. same (lowered x) n || b) (spread-any n ps (rest-valued (param x (v ∷ vs)) ps h))
    ∙ sym (any-cons n x (v ∷ vs) ps)

only_same : (ps : List Param) → valued ps ≡ true → only_uri (spread ps) ≡ only_uri ps
unfolding only_uri
only_same ps h =
    rw (spread-empty ps h, ap empty (spread-besides ps) ∙ spread-empty (besides_value ps) (valued-besides ps h), spread-type ps)

module _ (l : Line) (h : valued l.params ≡ true) where
  pub misused-spread : misused (spread_line l) ≡ misused l
  unfolding misused
  misused-spread = rw (only_same l.params h, spread-empty l.params h, spread-any (ascii "group") l.params h, spread-values (ascii "value") l.params)

  pub version-spread : is_version_line (spread_line l) ≡ is_version_line l
  unfolding is_version_line
  version-spread = rw (spread-empty l.params h)

pub emptied-spread : (l : Line) → emptied (spread_line l) ≡ emptied l
unfolding emptied
emptied-spread l = refl

pub coded-spread : {code : ℕ} (l : Line) → Coded code (spread_line l) → Coded code l
coded-spread l is = record { version = is.version; uid = is.uid; kind = is.kind; full = is.full }
