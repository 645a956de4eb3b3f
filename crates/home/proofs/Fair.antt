-- Fair lines, as every written line is: they can be sent, and are clean when written.
use mathlib.Core.Path.{◌≡◌, refl, ap, ◌∙◌}
use mathlib.Core.Bool.{Bool, true, false, ◌&&◌, ◌||◌, not}
use mathlib.Core.List.{List, [], ◌∷◌}
use Prim.Native.Nat.{ℕ}
use lib.Dec.{eqb}
use borrow.Author.Tests.{eqb-true}
use Rattle.text.specs.Bytes.{Bytes, ascii, is, all, empty, between, uppered}
use Rattle.text.specs.Utf8.{utf8}
use Rattle.text.proofs.Cases.{by_bool, implied, and_left, and_right, not-both}
use Rattle.text.proofs.Lists.{all_head, all_tail, all-not, all-imply, any-imply}
use Rattle.text.proofs.Characters.{is_byte, utf8-bytes}
use Rattle.line.specs.Class.{is_name, is_bare, is_control, is_quotable}
use Rattle.line.specs.Grammar.{Param, param, param_name, param_values, Line, fits, is_frame_name, accepted}
use Rattle.line.specs.Write.{write_value, write_values, write_params, write_group, write_line}
use Rattle.line.proofs.Parameters.{writable_param, uppered-names}
use Rattle.line.proofs.Lines.{writable, read-line}
use Rattle.line.proofs.Cards.{lf_free, lf_free_line, sendable}
use Rattle.convert.specs.Carry.{carried_raw, carried_param}
use Rattle.convert.specs.FromJson.{is_lower_word}
use Rattle.convert.specs.Answers.{garbled, ungrammatical}
use Rattle.home.proofs.WrittenClean.{is_printed, raw-clean, clean-append, clean-before}
use Rattle.home.proofs.Words.{names-lower, word-lower, group-lower, no_name}
use Rattle.home.proofs.Clean.{Clean}

abbrev pub fair_value : Bytes → Bool
fair_value v = utf8 v && carried_param v

abbrev pub fair_param : Param → Bool
fair_param p = is_lower_word (param_name p) && not (empty (param_values p)) && all fair_value (param_values p)

pub record Fair (l : Line) : Type 0 where
  pub group : empty l.group || is_lower_word l.group ≡ true
  pub name : is_lower_word l.name ≡ true
  pub frame : is_frame_name l.name ≡ false
  pub params : all fair_param l.params ≡ true
  pub fits : fits l.params ≡ true
  pub value : Clean l.value

-- ---- values

all-and : (p q : ℕ → Bool) (s : Bytes) → all p s ≡ true → all q s ≡ true → all (λ c. p c && q c) s ≡ true
unfolding all
all-and p q [] h k = refl
all-and p q (c ∷ s) h k = rw (all_head p c s h, all_head q c s k, all-and p q s (all_tail p c s h) (all_tail q c s k))

quotable : (v : Bytes) → fair_value v ≡ true → all is_quotable v ≡ true
unfolding is_quotable carried_param
quotable v h =
    all-and is_byte (λ c. not (eqb c 34)) v (utf8-bytes v (and_left (utf8 v) _ h))
    (all-not (is 34) v ∙ and_right (carried_raw v) _ (and_right (utf8 v) _ h))

fair-clean : (v : Bytes) → fair_value v ≡ true → Clean v
unfolding carried_param
fair-clean v h = raw-clean v (and_left (utf8 v) _ h) (and_left (carried_raw v) _ (and_right (utf8 v) _ h))

control-lf : (c : ℕ) → is_control c ≡ false → eqb c 10 ≡ false
unfolding is_control
control-lf c h = by_bool (eqb c 10) (λ q. not-both refl (rw (eqb-true c 10 q) at h)) (λ q. q)

clean-lf : (s : Bytes) → Clean s → lf_free s ≡ true
unfolding lf_free
clean-lf s c = ap not (any-imply is_control (is 10) control-lf s c.1)

-- ---- parameters

fair-writable : (p : Param) → fair_param p ≡ true → writable_param p ≡ true
unfolding writable_param
fair-writable (param n vs) h =
    let a = and_left (is_lower_word n && not (empty vs)) (all fair_value vs) h in
    rw (word-lower n (and_left (is_lower_word n) _ a), and_right (is_lower_word n) _ a) (all-imply fair_value (all is_quotable) quotable vs (and_right (is_lower_word n && not (empty vs)) _ h))

values_of : (p : Param) → fair_param p ≡ true → all fair_value (param_values p) ≡ true
values_of p h = and_right (is_lower_word (param_name p) && not (empty (param_values p))) _ h

name-of : (p : Param) → fair_param p ≡ true → is_lower_word (param_name p) ≡ true
name-of p h = and_left (is_lower_word (param_name p)) _ (and_left _ (all fair_value (param_values p)) h)

fair-lf : (p : Param) → fair_param p ≡ true → all lf_free (param_values p) ≡ true
fair-lf p h = all-imply fair_value lf_free (λ v e. clean-lf v (fair-clean v e)) (param_values p) (values_of p h)

-- ---- it can be sent

writable-line : (l : Line) → Fair l → writable l ≡ true
unfolding writable
writable-line l f = rw (group-lower l.group f.group, word-lower l.name f.name) (all-imply fair_param writable_param fair-writable l.params f.params)

accepted-line : (l : Line) → Fair l → accepted l ≡ true
unfolding accepted
accepted-line l f = rw (f.fits, f.frame)

pub fair-sendable : (l : Line) → Fair l → sendable l ≡ true
unfolding sendable lf_free_line
fair-sendable l f = rw (writable-line l f, accepted-line l f, clean-lf l.value f.value) (all-imply fair_param (λ p. all lf_free (param_values p)) fair-lf l.params f.params)

pub fair-grammatical : (l : Line) → Fair l → ungrammatical (write_line l) ≡ false
unfolding ungrammatical
fair-grammatical l f = rw (read-line l (writable-line l f) (accepted-line l f))

-- ---- it is clean

pub name-printed : (c : ℕ) → is_name c ≡ true → is_printed c ≡ true
unfolding is_name is_control between
name-printed c h = implied is_name is_printed 128 c refl (no_name c) h

names-printed : (n : Bytes) → is_lower_word n ≡ true → all is_printed (uppered n) ≡ true
names-printed n h = all-imply is_name is_printed name-printed (uppered n) (uppered-names n (names-lower n (and_right (not (empty n)) _ h)))

one-clean : (always : Bool) (v t : Bytes) → Clean v → Clean t → Clean (write_value always v t)
unfolding write_value is_control all
one-clean always v t a b =
    by_bool (always || not (all is_bare v))
    (λ e. rw e (clean-before (ascii "\"") _ refl (clean-append v (34 ∷ t) a (clean-before (ascii "\"") t refl b))))
    (λ e. rw e (clean-append v t a b))

values-clean : (always : Bool) (vs : List Bytes) (t : Bytes) → all fair_value vs ≡ true → Clean t → Clean (write_values always vs t)
unfolding write_values is_control all
values-clean always [] t h c = c
values-clean always (v ∷ []) t h c = one-clean always v t (fair-clean v (all_head fair_value v [] h)) c
values-clean always (v ∷ (w ∷ ws)) t h c =
    one-clean always v _ (fair-clean v (all_head fair_value v (w ∷ ws) h)) (clean-before (ascii ",") _ refl (values-clean always (w ∷ ws) t (all_tail fair_value v (w ∷ ws) h) c))

params-clean : (ps : List Param) (t : Bytes) → all fair_param ps ≡ true → Clean t → Clean (write_params ps t)
unfolding write_params is_control all
params-clean [] t h c = clean-before (ascii ":") t refl c
params-clean (param n vs ∷ ps) t h c =
    let p = all_head fair_param (param n vs) ps h in
    clean-before (ascii ";") _ refl (clean-before (uppered n) _ (names-printed n (name-of (param n vs) p))
    (clean-before (ascii "=") _ refl (values-clean _ vs (write_params ps t) (values_of (param n vs) p) (params-clean ps t (all_tail fair_param (param n vs) ps h) c))))

group-clean : (g t : Bytes) → empty g || is_lower_word g ≡ true → Clean t → Clean (write_group g t)
unfolding write_group is_control all
group-clean [] t h c = c
group-clean (b ∷ g) t h c = clean-before (b ∷ g) (46 ∷ t) (all-imply is_name is_printed name-printed (b ∷ g) (names-lower (b ∷ g) h)) (clean-before (ascii ".") t refl c)

line_clean : (l : Line) → Fair l → Clean (write_line l)
unfolding write_line
line_clean l f = group-clean l.group _ f.group (clean-before (uppered l.name) _ (names-printed l.name f.name) (params-clean l.params l.value f.params f.value))

pub fair-garbled : (l : Line) → Fair l → garbled (write_line l) ≡ false
unfolding garbled
fair-garbled l f = let c = line_clean l f in rw (c.0, c.1)
