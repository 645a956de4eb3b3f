-- Each form's written value is read back, with the type that it is written with.
use mathlib.Core.Path.{◌≡◌, refl, sym}
use mathlib.Core.Bool.{Bool, true, false, ◌&&◌, not}
use mathlib.Core.List.{List, [], ◌∷◌, tail}
use mathlib.Core.Option.{some}
use native.Mathlib.Omega.{arith}
use lib.ListN.{length}
use lib.Dec.{eqb}
use borrow.Author.Tests.{eqb-true}
use Rattle.text.specs.Bytes.{Bytes, ascii, any, all, same, among, begins, lowered, lower, between, flat}
use Rattle.text.proofs.Cases.{by_bool, and_left, and_right, not-both}
use Rattle.text.proofs.Lists.{keep_all}
use Rattle.line.specs.Class.{is_control}
use Rattle.line.specs.Params.{first_or}
use Rattle.line.specs.Text.{write_text}
use Rattle.line.proofs.Texts.{read-write, read-written, sealed-written, split-last, split-written}
use Rattle.convert.specs.Table.{Form, text, single, uri, phone, organization}
use Rattle.convert.specs.Model.{singly}
use Rattle.convert.specs.Value.{filled, head_or, organized, read_as, takes_type, is_tel_uri, write_as, written_type}

-- ---- the strings that a form has: one, or a name and units of which no unit is empty and something is left

unfoldable pub formed : Form → List Bytes → Bool
formed text vs = eqb (length vs) 1
formed single vs = eqb (length vs) 1
formed uri vs = eqb (length vs) 1
formed phone vs = eqb (length vs) 1
formed organization vs = any filled vs && all filled (tail vs)

-- strings that are a part each are all that the parts have
pub flat-singly : (vs : List Bytes) → flat (singly vs) ≡ vs
unfolding flat
flat-singly [] = refl
flat-singly (v ∷ vs) = rw (flat-singly vs)

-- VALUE as it is read of a written line
abbrev pub type_of : Form → List Bytes → Bytes
type_of f vs = first_or (ascii "unknown") (written_type f vs)

-- ---- one string

pub one-string : (P : List Bytes → Type 0) → ((v : Bytes) → P (v ∷ [])) → (vs : List Bytes) → eqb (length vs) 1 ≡ true → P vs
one-string P f [] h = not-both refl (sym h)
one-string P f (v ∷ []) h = f v
one-string P f (v ∷ (w ∷ ws)) h = let k = eqb-true (length (v ∷ w ∷ ws)) 1 h in absurd (omega arith)

read-text : (v : Bytes) → read_as text (ascii "unknown") (write_as text (v ∷ [])) ≡ some (v ∷ [])
unfolding read_as write_as
read-text v = rw (read-write false v)

read-single : (v : Bytes) → read_as single (ascii "unknown") (write_as single (v ∷ [])) ≡ some (v ∷ [])
unfolding read_as write_as
read-single v = rw (split-last 44 (write_text false v) (sealed-written false 44 refl v), read-write false v)

read-uri : (v : Bytes) → read_as uri (ascii "unknown") (write_as uri (v ∷ [])) ≡ some (v ∷ [])
unfolding read_as write_as
read-uri v = refl

read-phone : (v : Bytes) → read_as phone (type_of phone (v ∷ [])) (write_as phone (v ∷ [])) ≡ some (v ∷ [])
unfolding read_as write_as written_type is_tel_uri same
read-phone v =
    by_bool (begins (ascii "tel:") v && not (any is_control v))
    (λ e. rw (e, and_left (begins (ascii "tel:") v) _ e))
    (λ e. rw (e, read-write false v))

-- ---- several

read-organization : (vs : List Bytes) → any filled vs ≡ true → all filled (tail vs) ≡ true → read_as organization (ascii "unknown") (write_as organization vs) ≡ some vs
unfolding read_as write_as organized any
read-organization [] h k = not-both refl (sym h)
read-organization (v ∷ vs) h k = rw (split-written true 59 refl v vs, read-written true (v ∷ vs), h, keep_all filled vs k)

-- every form
pub read-form : (f : Form) (vs : List Bytes) → formed f vs ≡ true → read_as f (type_of f vs) (write_as f vs) ≡ some vs
unfolding formed written_type
read-form text vs h = one-string (λ vs. read_as text (ascii "unknown") (write_as text vs) ≡ some vs) read-text vs h
read-form single vs h = one-string (λ vs. read_as single (ascii "unknown") (write_as single vs) ≡ some vs) read-single vs h
read-form uri vs h = one-string (λ vs. read_as uri (ascii "unknown") (write_as uri vs) ≡ some vs) read-uri vs h
read-form phone vs h = one-string (λ vs. read_as phone (type_of phone vs) (write_as phone vs) ≡ some vs) read-phone vs h
read-form organization vs h = read-organization vs (and_left (any filled vs) _ h) (and_right (any filled vs) _ h)

-- a form takes the type that it writes
pub takes-written : (f : Form) (vs : List Bytes) → takes_type f (type_of f vs) ≡ true
unfolding takes_type written_type same among any
takes-written text vs = refl
takes-written single vs = refl
takes-written uri vs = refl
takes-written phone vs = by_bool (is_tel_uri (head_or [] vs)) (λ e. rw e) (λ e. rw e)
takes-written organization vs = refl

-- types are lower-case
pub type-lowered : (f : Form) (vs : List Bytes) → lowered (type_of f vs) ≡ type_of f vs
unfolding written_type lowered lower between
type-lowered text vs = refl
type-lowered single vs = refl
type-lowered uri vs = refl
type-lowered phone vs = by_bool (is_tel_uri (head_or [] vs)) (λ e. rw e) (λ e. rw e)
type-lowered organization vs = refl
