-- The written values of a proper card are clean, and its parameter values fair.
use mathlib.Core.Path.{◌≡◌, refl, sym, ◌∙◌}
use mathlib.Core.Bool.{Bool, true, false, ◌&&◌, not}
use mathlib.Core.List.{List, [], ◌∷◌, ◌++◌, map}
use Prim.Native.Nat.{ℕ, zero, suc}
use lib.Dec.{eqb}
use Rattle.text.specs.Bytes.{Bytes, ascii, is, any, all, between, begins, joined, flat}
use Rattle.text.specs.Utf8.{utf8, run}
use Rattle.text.proofs.Cases.{by_bool, implied, and_left, and_right, and-true}
use Rattle.text.proofs.Lists.{all_head, all_tail, all-not, all_both, all-imply}
use Rattle.line.specs.Class.{is_name, is_key, is_control}
use Rattle.line.specs.Text.{escape, write_text}
use Rattle.line.proofs.Texts.{write-append}
use Rattle.convert.specs.Table.{Form, text, single, uri, phone, organization, name_row}
use Rattle.convert.specs.Model.{part}
use Rattle.convert.specs.Value.{head_or, is_tel_uri, write_as, written_parts, write_name, write_parts}
use Rattle.convert.specs.Carry.{carried_raw, carried_text, carried_param, carried_as}
use Rattle.convert.specs.Pointer.{pointer}
use Rattle.home.proofs.Expanded.{pointer-utf8, pointer-all}
use Rattle.home.proofs.WrittenClean.{is_printed, clean-joined, raw-clean, text-clean}
use Rattle.home.proofs.Fair.{fair_value}
use Rattle.home.proofs.Clean.{is_ascii, ascii-utf8, head-utf8, Clean}
use Rattle.home.proofs.Words.{no_key}
use Rattle.home.proofs.Alls.{All}

-- ---- parameter values

-- printed, and no double quote
abbrev pub is_safe : ℕ → Bool
is_safe c = is_printed c && not (eqb c 34)

pub safe-fair : (v : Bytes) → all is_safe v ≡ true → fair_value v ≡ true
unfolding carried_param carried_raw
safe-fair v h =
    and-true (ascii-utf8 v (all-imply is_safe is_ascii (λ c e. and_left (is_ascii c) _ (and_left (is_printed c) _ e)) v h))
    (and-true (sym (all-not is_control v) ∙ all-imply is_safe (λ c. not (is_control c)) (λ c e. and_right (is_ascii c) _ (and_left (is_printed c) _ e)) v h)
    (sym (all-not (is 34) v) ∙ all-imply is_safe (λ c. not (eqb c 34)) (λ c e. and_right (is_printed c) _ e) v h))

key-safe : (c : ℕ) → is_key c ≡ true → is_safe c ≡ true
unfolding is_key is_name is_control between
key-safe c h = implied is_key is_safe 128 c refl (no_key c) h

pub keys-fair : (v : Bytes) → all is_key v ≡ true → fair_value v ≡ true
keys-fair v h = safe-fair v (all-imply is_key is_safe key-safe v h)

name-key : (c : ℕ) → is_name c ≡ true → is_key c ≡ true
unfolding is_key
name-key c h = rw h

pub names-fair : (v : Bytes) → all is_name v ≡ true → fair_value v ≡ true
names-fair v h = keys-fair v (all-imply is_name is_key name-key v h)

pub pointer-fair : (n : Bytes) → fair_value n ≡ true → fair_value (pointer n) ≡ true
unfolding carried_param carried_raw is_control
pointer-fair n h =
    let p = and_right (utf8 n) _ h in
    and-true (pointer-utf8 n (and_left (utf8 n) _ h))
    (and-true (sym (all-not is_control (pointer n)) ∙ pointer-all (λ c. not (is_control c)) refl refl refl n (all-not is_control n ∙ and_left _ _ p))
    (sym (all-not (is 34) (pointer n)) ∙ pointer-all (λ c. not (eqb c 34)) refl refl refl n (all-not (is 34) n ∙ and_right (not (any is_control n)) _ p)))

-- ---- texts

-- what TEXT can carry, in UTF-8
abbrev pub textual : Bytes → Bool
textual v = utf8 v && carried_text v

pub both-textual : (vs : List Bytes) → all utf8 vs ≡ true → all carried_text vs ≡ true → all textual vs ≡ true
unfolding all
both-textual [] h k = refl
both-textual (v ∷ vs) h k = rw (all_head utf8 v vs h, all_head carried_text v vs k, both-textual vs (all_tail utf8 v vs h) (all_tail carried_text v vs k))

pub textual-clean : (k : Bool) (v : Bytes) → textual v ≡ true → Clean (write_text k v)
textual-clean k v h = text-clean k v (and_left (utf8 v) _ h) (and_right (utf8 v) _ h)

texts-clean : (k : Bool) (vs : List Bytes) → all textual vs ≡ true → All Clean (map (write_text k) vs)
texts-clean k [] h = tt
texts-clean k (v ∷ vs) h = (textual-clean k v (all_head textual v vs h), texts-clean k vs (all_tail textual v vs h))

no_text : textual [] ≡ true
unfolding utf8 run carried_text any
no_text = refl

head-textual : (vs : List Bytes) → all textual vs ≡ true → textual (head_or [] vs) ≡ true
head-textual [] h = no_text
head-textual (v ∷ vs) h = all_head textual v vs h

head-raw : (vs : List Bytes) → all carried_raw vs ≡ true → carried_raw (head_or [] vs) ≡ true
unfolding carried_raw any
head-raw [] h = refl
head-raw (v ∷ vs) h = all_head carried_raw v vs h

tel-raw : (v : Bytes) → is_tel_uri v ≡ true → carried_raw v ≡ true
unfolding is_tel_uri carried_raw
tel-raw v h = and_right (begins (ascii "tel:") v) _ h

-- every form
pub form-clean : (f : Form) (vs : List Bytes) → all utf8 vs ≡ true → carried_as f vs ≡ true → Clean (write_as f vs)
unfolding write_as carried_as is_control all
form-clean text vs u h = textual-clean false (head_or [] vs) (head-textual vs (both-textual vs u h))
form-clean single vs u h = textual-clean false (head_or [] vs) (head-textual vs (both-textual vs u h))
form-clean uri vs u h = raw-clean (head_or [] vs) (head-utf8 vs u) (head-raw vs h)
form-clean phone vs u h =
    by_bool (is_tel_uri (head_or [] vs))
    (λ e. rw e (raw-clean (head_or [] vs) (head-utf8 vs u) (tel-raw (head_or [] vs) e)))
    (λ e. rw e (textual-clean false (head_or [] vs) (head-textual vs (both-textual vs u h))))
form-clean organization vs u h = clean-joined (ascii ";") (map (write_text true) vs) refl (texts-clean true vs (both-textual vs u h))

-- ---- N

write_part : List Bytes → Bytes
write_part vs = joined (ascii ",") (map (write_text true) vs)

part-clean : (vs : List Bytes) → all textual vs ≡ true → Clean (write_part vs)
unfolding write_part is_control all
part-clean vs h = clean-joined (ascii ",") (map (write_text true) vs) refl (texts-clean true vs h)

parts-clean : (pss : List (List Bytes)) → all (all textual) pss ≡ true → All Clean (map write_part pss)
parts-clean [] h = tt
parts-clean (vs ∷ pss) h = (part-clean vs (all_head (all textual) vs pss h), parts-clean pss (all_tail (all textual) vs pss h))

part-textual : (pss : List (List Bytes)) (i : ℕ) → all (all textual) pss ≡ true → all textual (part pss i) ≡ true
unfolding all
part-textual [] zero h = refl
part-textual [] (suc i) h = refl
part-textual (vs ∷ pss) zero h = all_head (all textual) vs pss h
part-textual (vs ∷ pss) (suc i) h = part-textual pss i (all_tail (all textual) vs pss h)

written-textual : (pss : List (List Bytes)) → all (all textual) pss ≡ true → all (all textual) (written_parts name_row pss) ≡ true
unfolding written_parts all
written-textual pss h =
    rw (
      all_both textual (part pss 0) (part pss 5) (part-textual pss 0 h) (part-textual pss 5 h),
      all_both textual (part pss 4) (part pss 6) (part-textual pss 4 h) (part-textual pss 6 h),
      part-textual pss 1 h,
      part-textual pss 2 h,
      part-textual pss 3 h,
      part-textual pss 5 h,
      part-textual pss 6 h,
    )

pub name-clean : (pss : List (List Bytes)) → all (all textual) pss ≡ true → Clean (write_name pss)
unfolding write_parts write_part is_control all
name-clean pss h = clean-joined (ascii ";") (map write_part (written_parts name_row pss)) refl (parts-clean (written_parts name_row pss) (written-textual pss h))

-- ---- a made FN

write-joined : (k : Bool) (d : Bytes) (vs : List Bytes) → write_text k (joined d vs) ≡ joined (write_text k d) (map (write_text k) vs)
unfolding joined write_text
write-joined k d [] = refl
write-joined k d (v ∷ []) = refl
write-joined k d (v ∷ (w ∷ ws)) = rw (write-append k v (d ++ joined d (w ∷ ws)), write-append k d (joined d (w ∷ ws)), write-joined k d (w ∷ ws))

flat-textual : (pss : List (List Bytes)) → all (all textual) pss ≡ true → all textual (flat pss) ≡ true
unfolding flat all
flat-textual [] h = refl
flat-textual (vs ∷ pss) h = all_both textual vs (flat pss) (all_head (all textual) vs pss h) (flat-textual pss (all_tail (all textual) vs pss h))

space : write_text false (ascii " ") ≡ ascii " "
unfolding write_text escape
space = refl

pub made-clean : (pss : List (List Bytes)) → all (all textual) pss ≡ true → Clean (write_text false (joined (ascii " ") (flat pss)))
unfolding is_control all
made-clean pss h =
    rw (write-joined false (ascii " ") (flat pss), space) (clean-joined (ascii " ") (map (write_text false) (flat pss)) refl (texts-clean false (flat pss) (flat-textual pss h)))
