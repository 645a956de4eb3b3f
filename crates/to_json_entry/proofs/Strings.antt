-- The strings of an entry, by the row's form.
use mathlib.Core.Path.{◌≡◌, refl, sym, ap, ◌∙◌}
use mathlib.Core.Bool.{Bool, true, false}
use mathlib.Core.List.{List, [], ◌∷◌}
use mathlib.Core.Option.{some}
use Prim.Native.Nat.{ℕ, ◌<◌}
use native.Mathlib.Omega.{arith}
use lib.Dec.{eqb}
use borrow.Author.Tests.{ne_eqb}
use Rattle.text.specs.Choice.{pick, is_some, provided}
use Rattle.text.specs.Bytes.{Bytes, any, each, flat}
use Rattle.text.proofs.Choices.{provided-inv, chain-inv, some_same}
use Rattle.line.specs.Text.{read_text, split_text}
use Rattle.json_text.specs.Tree.{Member, member, jstr}
use Rattle.json_text.specs.Compact.{quoted}
use Rattle.convert.specs.Table.{Form, text, single, uri, phone, organization}
use Rattle.convert.specs.Value.{filled, read_as, organized}
use Rattle.convert.specs.ToJson.{content_json}
use Rattle.convert_entry.specs.Rows.{form_number, type_number}
use Rattle.convert_put.specs.Pieces.{content_piece, inside}
use Rattle.convert_put.proofs.Entries.{string_bytes}
use Rattle.to_json_entry.specs.Entry.{string_piece, org_piece, strings_piece, StringsSound}
use Rattle.to_json_entry.proofs.Fields.{raw_of, text_of, content-of}
use Rattle.to_json_entry.proofs.Org.{org_of}

abbrev pub RowContent : Bytes → ℕ → Type 0
RowContent n i = quoted n (58 ∷ []) ≡ content_piece i

pub record StringsOf (f : Form) (n : Bytes) (i form kind : ℕ) (v : Bytes) (ts : List Bytes) : Type 0 where
  pub c : Member
  pub cs : List Member
  pub is : content_json f n ts ≡ c ∷ cs
  pub bytes : inside false (c ∷ cs) ≡ strings_piece i form (raw_of form kind) v

-- ---- all forms but ORG's

below : (k : ℕ) → k < 4 → eqb k 4 ≡ false
below k l = ne_eqb k 4 (λ z. omega arith)

plain-strings : (f : Form) (n type v : Bytes) (ts : List Bytes) (kind i : ℕ) → form_number f < 4 → RowContent n i → kind ≡ type_number type → read_as f type v ≡ some ts
    → StringsOf f n i (form_number f) kind v ts
unfolding strings_piece
plain-strings f n type v ts kind i l r k e =
    let y = text_of f type v ts kind l k e in
    record {
      c = member n (jstr y.t);
      cs = [];
      is = ap (content_json f n) y.is ∙ content-of f n y.t l;
      bytes =
          string_bytes n y.t
          ∙ ap (λ (u : Bytes). flat (u ∷ quoted y.t [] ∷ [])) r
          ∙ ap (λ (u : Bytes). flat (content_piece i ∷ u ∷ [])) y.value
          ∙ sym (ap (λ b. pick b (org_piece i (split_text 59 v)) (string_piece i (raw_of (form_number f) kind) v)) (below (form_number f) l));
    }

plain-good : (f : Form) (type v : Bytes) (ts : List Bytes) (kind : ℕ) → form_number f < 4 → kind ≡ type_number type → read_as f type v ≡ some ts
    → StringsSound (form_number f) (raw_of (form_number f) kind) v
plain-good f type v ts kind l k e = record { org = λ z. absurd (omega (arith, z, l)); plain = λ z. (text_of f type v ts kind l k e).good }

-- ---- ORG

pub record OrgRead (v : Bytes) (ts : List Bytes) : Type 0 where
  pub parts : List Bytes
  pub read : each read_text (split_text 59 v) ≡ some parts
  pub some-filled : any filled parts ≡ true
  pub is : organized parts ≡ ts

org-read : (type v : Bytes) (ts : List Bytes) → read_as organization type v ≡ some ts → OrgRead v ts
unfolding read_as
org-read type v ts e =
    let q = chain-inv (each read_text (split_text 59 v)) (λ vs. provided (any filled vs) (some (organized vs))) e in
    let p = provided-inv (any filled q.0) (some (organized q.0)) q.2 in
    record { parts = q.0; read = q.1; some-filled = p.0; is = some_same p.1 }

org-strings : (n type v : Bytes) (ts : List Bytes) (kind i : ℕ) → RowContent n i → read_as organization type v ≡ some ts → StringsOf organization n i 4 kind v ts
unfolding strings_piece
org-strings n type v ts kind i r e =
    let q = org-read type v ts e in
    let o = org_of n i r v (split_text 59 v) q.parts refl q.read q.some-filled in
    record { c = o.c; cs = o.cs; is = ap (content_json organization n) (sym q.is) ∙ o.is; bytes = o.bytes }

org-good : (type v : Bytes) (ts : List Bytes) (kind : ℕ) → read_as organization type v ≡ some ts → StringsSound 4 (raw_of 4 kind) v
org-good type v ts kind e = record { org = λ z. ap is_some (org-read type v ts e).read; plain = λ z. absurd (z refl) }

-- ---- by the form

pub strings-of : (f : Form) (n type v : Bytes) (ts : List Bytes) (kind i : ℕ) → RowContent n i → kind ≡ type_number type → read_as f type v ≡ some ts → StringsOf f n i (form_number f) kind v ts
strings-of text n type v ts kind i r k e = plain-strings text n type v ts kind i (omega arith) r k e
strings-of single n type v ts kind i r k e = plain-strings single n type v ts kind i (omega arith) r k e
strings-of uri n type v ts kind i r k e = plain-strings uri n type v ts kind i (omega arith) r k e
strings-of phone n type v ts kind i r k e = plain-strings phone n type v ts kind i (omega arith) r k e
strings-of organization n type v ts kind i r k e = org-strings n type v ts kind i r e

pub good_of : (f : Form) (type v : Bytes) (ts : List Bytes) (kind : ℕ) → kind ≡ type_number type → read_as f type v ≡ some ts → StringsSound (form_number f) (raw_of (form_number f) kind) v
good_of text type v ts kind k e = plain-good text type v ts kind (omega arith) k e
good_of single type v ts kind k e = plain-good single type v ts kind (omega arith) k e
good_of uri type v ts kind k e = plain-good uri type v ts kind (omega arith) k e
good_of phone type v ts kind k e = plain-good phone type v ts kind (omega arith) k e
good_of organization type v ts kind k e = org-good type v ts kind e

pub org-on : (i form : ℕ) (raw : Bool) (v : Bytes) → form ≡ 4 → org_piece i (split_text 59 v) ≡ strings_piece i form raw v
unfolding strings_piece
org-on i form raw v e = rw e

pub org-off : (i form : ℕ) (raw : Bool) (v : Bytes) → (form ≡ 4 → ⊥) → string_piece i raw v ≡ strings_piece i form raw v
unfolding strings_piece
org-off i form raw v n = rw (ne_eqb form 4 n)
