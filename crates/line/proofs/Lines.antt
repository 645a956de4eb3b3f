-- A written line is read back, its name and parameter names in upper case.
use mathlib.Core.Path.{◌≡◌, refl, ap}
use mathlib.Core.Bool.{Bool, true, false, ◌&&◌, ◌||◌}
use mathlib.Core.List.{List, [], ◌∷◌, ◌++◌, map}
use mathlib.Core.Option.{some}
use Prim.Native.Nat.{ℕ, suc, ◌+◌}
use native.Mathlib.Omega.{arith}
use lib.ListN.{length}
use Rattle.text.specs.Bytes.{Bytes, all, empty, between, uppered}
use Rattle.text.specs.Reader.{got, first, on}
use Rattle.text.proofs.Cases.{and_left, and_right}
use Rattle.text.proofs.Letters.{lowered-uppered}
use Rattle.line.specs.Class.{is_name}
use Rattle.line.specs.Grammar.{Param, param, Line, after_name, line_reader, value_count, fits, is_frame_name, accepted, read_line}
use Rattle.line.specs.Write.{write_params, write_group, write_line}
-- what is read of a written line
pub use Rattle.line.specs.Upper.{upper_line}
use Rattle.line.proofs.Parameters.{is_word, writable_param, upper_param, uppered-word, word_read, params-read, params-dot, params-name}

unfoldable pub writable : Line → Bool
writable l = (empty l.group || all is_name l.group) && (is_word l.name && all writable_param l.params)

-- ---- lines

after-name : (g n : Bytes) (ps : List Param) (t : Bytes) → all writable_param ps ≡ true
    → after_name g n (write_params ps t) ≡ got (record { group = g; name = n; params = map upper_param ps; value = t }) []
unfolding after_name
after-name g n ps t h = rw (params-read ps t h)

pub dot-stops : (t : Bytes) → is_name (first (46 ∷ t)) ≡ false
unfolding is_name between
dot-stops t = refl

read-group : (g n : Bytes) (ps : List Param) (t : Bytes) → empty g || all is_name g ≡ true → is_word n ≡ true → all writable_param ps ≡ true
    → line_reader (write_group g (uppered n ++ write_params ps t)) ≡ got (record { group = g; name = uppered n; params = map upper_param ps; value = t }) []
unfolding line_reader write_group on is_word
read-group [] n ps t hg hn hp =
    rw (word_read (uppered n) (write_params ps t) (uppered-word n hn) (params-name ps t), params-dot ps t) (after-name [] (uppered n) ps t hp)
read-group (c ∷ g) n ps t hg hn hp =
    rw (word_read (c ∷ g) (46 ∷ (uppered n ++ write_params ps t)) hg (dot-stops (uppered n ++ write_params ps t)), word_read (uppered n) (write_params ps t) (uppered-word n hn) (params-name ps t)) (after-name (c ∷ g) (uppered n) ps t hp)

pub line_read : (l : Line) → writable l ≡ true → line_reader (write_line l) ≡ got (upper_line l) []
unfolding write_line writable
line_read l h =
    let r = and_right (empty l.group || all is_name l.group) _ h in
    read-group l.group l.name l.params l.value (and_left _ _ h) (and_left (is_word l.name) _ r) (and_right (is_word l.name) _ r)

-- ---- counts and BEGIN or END

upper-length : (ps : List Param) → length (map upper_param ps) ≡ length ps
upper-length [] = refl
upper-length (p ∷ ps) = ap suc (upper-length ps)

upper-count : (ps : List Param) → value_count (map upper_param ps) ≡ value_count ps
unfolding value_count
upper-count [] = refl
upper-count (param n vs ∷ ps) = ap (λ (x : ℕ). length vs + x) (upper-count ps)

pub count-append : (ps qs : List Param) → value_count (ps ++ qs) ≡ value_count ps + value_count qs
unfolding value_count
count-append [] qs = omega arith
count-append (param n vs ∷ ps) qs = omega (arith, count-append ps qs)

pub upper-accepted : (l : Line) → accepted (upper_line l) ≡ accepted l
unfolding accepted fits is_frame_name
upper-accepted l = rw (upper-length l.params, upper-count l.params, lowered-uppered l.name)

pub read-line : (l : Line) → writable l ≡ true → accepted l ≡ true → read_line (write_line l) ≡ some (upper_line l)
unfolding read_line
read-line l h a = rw (line_read l h, upper-accepted l, a)
