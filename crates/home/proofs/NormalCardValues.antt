-- The value of a map's line, and its VALUE, by the map's form.
use mathlib.Core.Path.{◌≡◌, refl, sym, ap, ◌∙◌}
use mathlib.Core.Bool.{Bool, true, false, ◌&&◌, not}
use mathlib.Core.List.{List, [], ◌∷◌, ◌++◌, map}
use mathlib.Core.Option
use mathlib.Core.Option.{some}
use Prim.Native.Nat.{ℕ}
use lib.ListN.{length}
use lib.Dec.{eqb}
use Rattle.text.specs.Bytes.{Bytes, ascii, any, empty, same, begins, joined, each}
use Rattle.text.proofs.Cases.{by_bool, not-both}
use Rattle.text.proofs.Choices.{some_same}
use Rattle.text.proofs.Lists.{keep_same, all-anything}
use Rattle.line.specs.Text.{read_text, split_text, escape, write_text}
use Rattle.convert.specs.Table.{Form, text, single, uri, phone, organization}
use Rattle.convert.specs.Value.{filled, organized, read_as, is_tel_uri, write_as, written_type}
use Rattle.convert.specs.NormalCard.{renewed, units_gone, org_text, tel_number, entry_value, value_form}
use Rattle.home.proofs.Known.{on_provided, on_chain, on_map}
use Rattle.home.proofs.Images.{each_same, keep-map}

-- what a line's value becomes, and its VALUE
abbrev pub Written : Form → Bytes → Bytes → List Bytes → Type 0
Written f type v vs = (write_as f vs ≡ entry_value f type v) × (written_type f vs ≡ value_form f type v)

-- ---- one string

text-written : (v : Bytes) (vs : List Bytes) → Option.map (λ t. t ∷ []) (read_text v) ≡ some vs → Written text [] v vs
unfolding write_as written_type entry_value value_form renewed
text-written v vs e = on_map (λ t. t ∷ []) (read_text v) e λ t p q. rw (← q, p) (refl, refl)

-- ---- TEL

tel-number : (type v : Bytes) (vs : List Bytes) → read_as phone type v ≡ some vs → tel_number type v ∷ [] ≡ vs
unfolding read_as tel_number
tel-number type v vs e =
    by_bool (same type (ascii "uri"))
    (λ t. rw t (on_provided (begins (ascii "tel:") v) (some (v ∷ [])) (rw t at e) λ u r. some_same r))
    (λ t. rw t (on_map (λ t. t ∷ []) (read_text v) (rw t at e) λ x p q. rw p q))

tel-written : (type v : Bytes) → Written phone type v (tel_number type v ∷ [])
unfolding write_as written_type entry_value value_form is_tel_uri
tel-written type v = (refl, refl)

-- ---- ORG

escape-filled : (k : Bool) (c : ℕ) (t : Bytes) → empty (escape k c ++ t) ≡ false
unfolding escape
escape-filled k c t =
    by_bool (eqb c 92) (λ a. rw a) λ a. by_bool (eqb c 10) (λ b. rw (a, b)) λ b. by_bool (eqb c 44) (λ d. rw (a, b, d)) λ d. by_bool (k && eqb c 59) (λ e. rw (a, b, d, e)) (λ e. rw (a, b, d, e))

-- written text is empty where the text is
empty-written : (k : Bool) (s : Bytes) → empty (write_text k s) ≡ empty s
unfolding write_text
empty-written k [] = refl
empty-written k (c ∷ s) = escape-filled k c (write_text k s)

units-written : (us : List Bytes) → any filled us ≡ true → map (write_text true) (organized us) ≡ units_gone (map (write_text true) us)
unfolding organized any
units-written [] h = not-both refl (sym h)
units-written (n ∷ us) h =
    ap (λ (x : List Bytes). write_text true n ∷ x)
    (ap (map (write_text true)) (keep_same filled (λ u. not (empty (write_text true u))) (λ u. ap not (sym (empty-written true u))) us) ∙ sym (keep-map (λ u. not (empty u)) (write_text true) us))

renewed-read : (v t : Bytes) → read_text v ≡ some t → write_text true t ≡ renewed true v
unfolding renewed
renewed-read v t e = rw e

org-written : (type v : Bytes) (vs : List Bytes) → read_as organization type v ≡ some vs → Written organization type v vs
unfolding read_as write_as written_type entry_value value_form org_text
org-written type v vs e =
    on_chain (each read_text (split_text 59 v)) _ e λ us p a.
    on_provided (any filled us) (some (organized us)) a λ h r.
    rw (← some_same r)
    (ap (joined (ascii ";")) (units-written us h ∙ ap units_gone (each_same read_text (λ x. true) (write_text true) (renewed true) (λ x y t q. renewed-read x y q) (split_text 59 v) us (all-anything (split_text 59 v)) p)), refl)

-- ---- every form

pub form-written : (f : Form) (type v : Bytes) (vs : List Bytes) → read_as f type v ≡ some vs → Written f type v vs
unfolding read_as write_as written_type entry_value value_form
form-written text type v vs e = text-written v vs e
form-written single type v vs e = on_provided (eqb (length (split_text 44 v)) 1) (Option.map (λ t. t ∷ []) (read_text v)) e λ t r. text-written v vs r
form-written uri type v vs e = rw (← some_same e) (refl, refl)
form-written phone type v vs e = rw (← tel-number type v vs e) (tel-written type v)
form-written organization type v vs e = org-written type v vs e
