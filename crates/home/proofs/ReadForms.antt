-- What a clean value gives by each form.
use mathlib.Core.Path.{◌≡◌, refl, subst}
use mathlib.Core.Bool.{true}
use mathlib.Core.List.{List, [], ◌∷◌}
use mathlib.Core.Option.{some}
use lib.ListN.{length}
use lib.Dec.{eqb}
use Rattle.text.specs.Choice.{provided}
use Rattle.text.specs.Bytes.{Bytes, ascii, any, all, same, begins, keep, each}
use Rattle.text.specs.Utf8.{utf8}
use Rattle.text.proofs.Cases.{by_bool, and-true, not-both}
use Rattle.text.proofs.Choices.{some_same, provided-inv, chain-inv, map-inv}
use Rattle.text.proofs.Lists.{all_cons, keep-passes}
use Rattle.line.specs.Text.{read_text, split_text}
use Rattle.convert.specs.Table.{Form, text, single, uri, phone, organization}
use Rattle.convert.specs.Value.{filled, organized, alone, read_as}
use Rattle.convert.specs.Carry.{carried_text, carried_as}
use Rattle.convert.proofs.Forms.{formed}
use Rattle.home.proofs.Alls.{All, all-test, all-mono, all-kept, each-gives}
use Rattle.home.proofs.JsonTexts.{any-head-kept}
use Rattle.home.proofs.Clean.{Clean}
use Rattle.home.proofs.CleanTexts.{CleanText, text-clean, clean-text, clean-raw, split-clean}

pub record ReadWell (f : Form) (vs : List Bytes) : Type 0 where
  pub form : formed f vs ≡ true
  pub in-utf8 : all utf8 vs ≡ true
  pub carry : carried_as f vs ≡ true

-- ---- one string

abbrev OneText : List Bytes → Type 0
OneText vs = (eqb (length vs) 1 ≡ true) × (all utf8 vs ≡ true) × (all carried_text vs ≡ true)

one-text : (v : Bytes) → CleanText v → OneText (v ∷ [])
unfolding all
one-text v h = (refl, rw h.0, rw h.1)

alone-text : (v : Bytes) (vs : List Bytes) → Clean v → alone (read_text v) ≡ some vs → OneText vs
alone-text v vs h e = let i = map-inv (λ t. t ∷ []) (read_text v) e in subst OneText i.2 (one-text i.0 (text-clean v i.0 h i.1))

raw-well : (v : Bytes) → Clean v → ReadWell uri (v ∷ [])
unfolding formed carried_as all
raw-well v h = record { form = refl; in-utf8 = rw h.0; carry = rw (clean-raw v h) }

-- ---- several

organized-well : (vs : List Bytes) → All CleanText vs → any filled vs ≡ true → ReadWell organization (organized vs)
unfolding formed organized carried_as any
organized-well [] h e = not-both e refl
organized-well (v ∷ vs) h e =
    let k = all-kept CleanText filled vs h.1 in
    record {
      form = and-true (any-head-kept v vs e) (keep-passes filled vs);
      in-utf8 = all_cons utf8 v (keep filled vs) h.0.0 (all-test utf8 (keep filled vs) (all-mono CleanText (λ u. utf8 u ≡ true) (λ u g. g.0) (keep filled vs) k));
      carry = all_cons carried_text v (keep filled vs) h.0.1 (all-test carried_text (keep filled vs) (all-mono CleanText (λ u. carried_text u ≡ true) (λ u g. g.1) (keep filled vs) k));
    }

-- ---- every form

pub read-well : (f : Form) (type v : Bytes) (vs : List Bytes) → Clean v → read_as f type v ≡ some vs → ReadWell f vs
unfolding read_as formed carried_as
read-well text type v vs h e = let t = alone-text v vs h e in record { form = t.0; in-utf8 = t.1; carry = t.2 }
read-well single type v vs h e =
    let t = alone-text v vs h (provided-inv (eqb (length (split_text 44 v)) 1) (alone (read_text v)) e).1 in
    record { form = t.0; in-utf8 = t.1; carry = t.2 }
read-well uri type v vs h e = subst (ReadWell uri) (some_same e) (raw-well v h)
read-well phone type v vs h e =
    by_bool (same type (ascii "uri"))
    (λ q. let p = provided-inv (begins (ascii "tel:") v) (some (v ∷ [])) (rw q at e) in
    let t = subst OneText (some_same p.1) (one-text v (clean-text v h)) in
    record { form = t.0; in-utf8 = t.1; carry = t.2 })
    (λ q. let t = alone-text v vs h (rw q at e) in record { form = t.0; in-utf8 = t.1; carry = t.2 })
read-well organization type v vs h e =
    let i = chain-inv (each read_text (split_text 59 v)) (λ vs. provided (any filled vs) (some (organized vs))) e in
    let p = provided-inv (any filled i.0) (some (organized i.0)) i.2 in
    let k = each-gives read_text Clean CleanText text-clean (split_text 59 v) i.0 (split-clean 59 v refl h) i.1 in
    subst (ReadWell organization) (some_same p.1) (organized-well i.0 k p.0)
