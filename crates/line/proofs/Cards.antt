-- A written card is read back: its frame, its unfolded lines, and each line.
use mathlib.Core.Path.{◌≡◌, refl, sym, ap, ◌∙◌}
use mathlib.Core.Bool.{Bool, true, false, ◌&&◌, ◌||◌, not}
use mathlib.Core.List.{List, [], ◌∷◌, ◌++◌, map}
use mathlib.Core.Option
use mathlib.Core.Option.{some}
use Prim.Native.Nat.{ℕ}
use native.Mathlib.Omega.{arith}
use lib.Dec.{eqb}
use borrow.Author.Tests.{eqb-true}
use Rattle.text.specs.Bytes.{Bytes, is, any, all, empty, lowered, lower, uppered, each, flat, between}
use Rattle.text.specs.Reader.{first, past}
use Rattle.text.proofs.Cases.{by_bool, and_left, and_right, not-true, not-both}
use Rattle.text.proofs.Lists.{all_head, all_tail, all_none, any-neither, any_none}
use Rattle.text.proofs.Letters.{lowered-uppered}
use Rattle.text.proofs.Readers.{taken-run, past-run}
use Rattle.line.specs.Class.{is_name, is_bare, is_blank}
use Rattle.line.specs.Grammar.{Param, param, Line, param_values, is_frame_name, fits, accepted, read_line}
use Rattle.line.specs.Physical.{physical, framed}
use Rattle.line.specs.Unfold.{unfold'}
use Rattle.line.specs.Write.{write_value, write_values, write_params, write_group, write_line, write_card}
use Rattle.line.proofs.Parameters.{is_word, writable_param, uppered-names, uppered-word, params-name}
use Rattle.line.proofs.Lines.{writable, upper_line, read-line, dot-stops}
use Rattle.line.proofs.Pieces.{pieces, Unblank, unfold-all}
use Rattle.line.proofs.Frame.{NoLf, Named, AllNamed, past-lowered, framed-card}

-- ---- no LF in a written line

unfoldable pub lf_free : Bytes → Bool
lf_free s = not (any (is 10) s)

unfoldable pub lf_free_line : Line → Bool
lf_free_line l = lf_free l.value && all (λ p. all lf_free (param_values p)) l.params

free : (s : Bytes) → lf_free s ≡ true → any (is 10) s ≡ false
unfolding lf_free
free s e = not-true (any (is 10) s) e

name-lf : (c : ℕ) → is_name c ≡ true → eqb c 10 ≡ false
unfolding is_name between
name-lf c e = by_bool (eqb c 10) (λ q. not-both (rw (eqb-true c 10 q) at e) refl) (λ q. q)

names-lf : (n : Bytes) → all is_name n ≡ true → any (is 10) n ≡ false
names-lf n h = all_none is_name (is 10) name-lf n h

cons-lf : (c : ℕ) (s : Bytes) → eqb c 10 ≡ false → any (is 10) s ≡ false → any (is 10) (c ∷ s) ≡ false
cons-lf c s e h = any_none (is 10) c s e h

value-lf : (always : Bool) (v t : Bytes) → any (is 10) v ≡ false → any (is 10) t ≡ false → any (is 10) (write_value always v t) ≡ false
unfolding write_value
value-lf always v t h e =
    by_bool (always || not (all is_bare v)) (λ q. rw q (cons-lf 34 (v ++ 34 ∷ t) refl (any-neither (is 10) v (34 ∷ t) h (cons-lf 34 t refl e)))) (λ q. rw q (any-neither (is 10) v t h e))

values-lf : (always : Bool) (vs : List Bytes) (t : Bytes) → all lf_free vs ≡ true → any (is 10) t ≡ false → any (is 10) (write_values always vs t) ≡ false
unfolding write_values
values-lf always [] t h e = e
values-lf always (v ∷ []) t h e = value-lf always v t (free v (all_head lf_free v [] h)) e
values-lf always (v ∷ (w ∷ ws)) t h e =
    value-lf always v (44 ∷ write_values always (w ∷ ws) t) (free v (all_head lf_free v (w ∷ ws) h)) (cons-lf 44 _ refl (values-lf always (w ∷ ws) t (all_tail lf_free v (w ∷ ws) h) e))

abbrev param_free : Param → Bool
param_free p = all lf_free (param_values p)

word-names : (n : Bytes) → is_word n ≡ true → all is_name n ≡ true
unfolding is_word
word-names n h = and_right (not (empty n)) _ h

param-names : (n : Bytes) (vs : List Bytes) → writable_param (param n vs) ≡ true → all is_name n ≡ true
unfolding writable_param
param-names n vs h = word-names n (and_left (is_word n) _ h)

params-lf : (ps : List Param) (t : Bytes) → all writable_param ps ≡ true → all param_free ps ≡ true → any (is 10) t ≡ false → any (is 10) (write_params ps t) ≡ false
unfolding write_params
params-lf [] t w h e = cons-lf 58 t refl e
params-lf (param n vs ∷ ps) t w h e =
    cons-lf 59 _ refl (any-neither (is 10) (uppered n) (61 ∷ _) (names-lf (uppered n) (uppered-names n (param-names n vs (all_head writable_param (param n vs) ps w))))
    (cons-lf 61 _ refl (values-lf _ vs (write_params ps t) (all_head param_free (param n vs) ps h) (params-lf ps t (all_tail writable_param (param n vs) ps w) (all_tail param_free (param n vs) ps h) e))))

group-lf : (g t : Bytes) → empty g || all is_name g ≡ true → any (is 10) t ≡ false → any (is 10) (write_group g t) ≡ false
unfolding write_group
group-lf [] t h e = e
group-lf (c ∷ g) t h e = any-neither (is 10) (c ∷ g) (46 ∷ t) (names-lf (c ∷ g) h) (cons-lf 46 t refl e)

-- ---- what a written line begins with

name-blank : (c : ℕ) → is_name c ≡ true → is_blank c ≡ false
unfolding is_name is_blank between
name-blank c e = by_bool (eqb c 32) (λ q. not-both (rw (eqb-true c 32 q) at e) refl) (λ p. by_bool (eqb c 9) (λ q. not-both (rw (eqb-true c 9 q) at e) refl) (λ q. rw (p, q)))

first_word : (n t : Bytes) → is_word n ≡ true → is_blank (first (n ++ t)) ≡ false
unfolding is_word
first_word [] t h = not-both refl (sym h)
first_word (c ∷ n) t h = name-blank c (all_head is_name c n h)

begins-line : (g n t : Bytes) → empty g || all is_name g ≡ true → is_word n ≡ true → is_blank (first (write_group g (uppered n ++ t))) ≡ false
unfolding write_group
begins-line [] n t hg hn = first_word (uppered n) t (uppered-word n hn)
begins-line (c ∷ g) n t hg hn = name-blank c (all_head is_name c g hg)

dot-lowered : (t : Bytes) → first (lowered (46 ∷ t)) ≡ 46
unfolding lowered lower between
dot-lowered t = refl

-- a group is followed by a dot; the name of a line without one is no frame's
named-line : (g n : Bytes) (ps : List Param) (t : Bytes) → empty g || all is_name g ≡ true → is_word n ≡ true → is_frame_name n ≡ false → Named (write_group g (uppered n ++ write_params ps t))
unfolding write_group is_frame_name
named-line [] n ps t hg hn hf e = rw (taken-run is_name (uppered n) (write_params ps t) (uppered-names n (word-names n hn)) (params-name ps t), lowered-uppered n) hf
named-line (c ∷ g) n ps t hg hn hf e =
    let u : Bytes = uppered n ++ write_params ps t in
    let a : first (past is_name (lowered ((c ∷ g) ++ 46 ∷ u))) ≡ 46 = rw (past-lowered ((c ∷ g) ++ 46 ∷ u), past-run is_name (c ∷ g) (46 ∷ u) hg (dot-stops u)) (dot-lowered u) in
    let b : ◌≡◌ {A = ℕ} 46 58 = sym a ∙ e in
    absurd (omega arith)

-- ---- lines that can be sent

unfoldable pub sendable : Line → Bool
sendable l = writable l && (accepted l && lf_free_line l)

-- what a sendable line is
pub record Sendable (l : Line) : Type 0 where
  pub group : empty l.group || all is_name l.group ≡ true
  pub name : is_word l.name ≡ true
  pub params : all writable_param l.params ≡ true
  pub frame : is_frame_name l.name ≡ false
  pub value : any (is 10) l.value ≡ false
  pub free : all (λ p. all lf_free (param_values p)) l.params ≡ true
  pub writable : writable l ≡ true
  pub accepted : accepted l ≡ true

pub is-sendable : (l : Line) → sendable l ≡ true → Sendable l
unfolding sendable writable accepted lf_free_line
is-sendable l h =
    let w : writable l ≡ true = and_left _ _ h in
    let a : accepted l ≡ true = and_left _ _ (and_right (writable l) _ h) in
    let f = and_right (accepted l) _ (and_right (writable l) _ h) in
    let r = and_right (empty l.group || all is_name l.group) _ w in
    record {
      group = and_left _ _ w;
      name = and_left _ _ r;
      params = and_right (is_word l.name) _ r;
      frame = not-true (is_frame_name l.name) (and_right (fits l.params) _ a);
      value = free l.value (and_left _ _ f);
      free = and_right (lf_free l.value) _ f;
      writable = w;
      accepted = a;
    }

line-lf : (l : Line) → Sendable l → any (is 10) (write_line l) ≡ false
unfolding write_line
line-lf l s =
    group-lf l.group _ s.group
    (any-neither (is 10) (uppered l.name) (write_params l.params l.value) (names-lf (uppered l.name) (uppered-names l.name (word-names l.name s.name))) (params-lf l.params l.value s.params s.free s.value))

line-begins : (l : Line) → Sendable l → is_blank (first (write_line l)) ≡ false
unfolding write_line
line-begins l s = begins-line l.group l.name (write_params l.params l.value) s.group s.name

line-named : (l : Line) → Sendable l → Named (write_line l)
unfolding write_line
line-named l s = named-line l.group l.name l.params l.value s.group s.name s.frame

-- ---- the card

all-lf : (ls : List Line) → all sendable ls ≡ true → NoLf (map write_line ls)
all-lf [] h = tt
all-lf (l ∷ ls) h = (line-lf l (is-sendable l (all_head sendable l ls h)), all-lf ls (all_tail sendable l ls h))

all-begin : (ls : List Line) → all sendable ls ≡ true → Unblank (map write_line ls)
all-begin [] h = tt
all-begin (l ∷ ls) h = (line-begins l (is-sendable l (all_head sendable l ls h)), all-begin ls (all_tail sendable l ls h))

all_named : (ls : List Line) → all sendable ls ≡ true → AllNamed (map write_line ls)
all_named [] h = tt
all_named (l ∷ ls) h = (line-named l (is-sendable l (all_head sendable l ls h)), all_named ls (all_tail sendable l ls h))

pub framed-written : (ls : List Line) → all sendable ls ≡ true → framed (physical (write_card ls)) ≡ some (flat (map pieces (map write_line ls)))
framed-written ls h = framed-card ls (all-lf ls h) (all_named ls h)

pub unfold-written : (ls : List Line) → all sendable ls ≡ true → unfold' (flat (map pieces (map write_line ls))) ≡ map write_line ls
unfold-written ls h = unfold-all (map write_line ls) (all-begin ls h)

-- the frame of a written card is found, and its unfolded lines are those written
pub unfold-card : (ls : List Line) → all sendable ls ≡ true → Option.map unfold' (framed (physical (write_card ls))) ≡ some (map write_line ls)
unfold-card ls h = ap (Option.map unfold') (framed-written ls h) ∙ ap some (unfold-written ls h)

-- and each is read back
pub read-card : (ls : List Line) → all sendable ls ≡ true → each read_line (map write_line ls) ≡ some (map upper_line ls)
unfolding each
read-card [] h = refl
read-card (l ∷ ls) h =
    let s = is-sendable l (all_head sendable l ls h) in
    rw (read-line l s.writable s.accepted, read-card ls (all_tail sendable l ls h))
