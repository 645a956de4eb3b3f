-- A kept line of a proper card, taken apart: it is proper, and stays kept in its place.
use mathlib.Core.Path.{◌≡◌, refl, ◌∙◌}
use mathlib.Core.Bool.{true, false}
use mathlib.Core.List.{List, [], ◌∷◌, map}
use Rattle.text.specs.Bytes.{ascii, any, all, same}
use Rattle.text.proofs.Cases.{and_left, and_right, not-true}
use Rattle.text.proofs.Lists.{all_head, all_tail}
use Rattle.line.specs.Grammar.{Param, param, Line}
use Rattle.line.specs.Params.{named}
use Rattle.convert.specs.Model.{Kept}
use Rattle.convert.specs.Classify.{as-kept, Seen, classify}
use Rattle.convert.specs.FromCard.{Gives, gives}
use Rattle.convert.specs.FromJson.{is_lower_word, kept_as_line, kept_stands}
use Rattle.convert.proofs.KeptLines.{ProperKept, kept_line_lem}
pub use Rattle.home.proofs.Stands.{Stands, stands-inv as stands, lower_param as param_stands}
use Rattle.home.proofs.Proper.{KeptFine, AllKeptFine}
use Rattle.home.proofs.Given.{plus, Section, no_lines, one_line, both-sections, section-to}
use Rattle.home.proofs.Words.{word-lowered, group-lowered}
use Rattle.home.proofs.Stands.{Stands, stands-inv, lower_param}

pub no_value : (ps : List Param) → all lower_param ps ≡ true → any (named (ascii "value")) ps ≡ false
unfolding any named
no_value [] h = refl
no_value (param n vs ∷ ps) h =
    let p = all_head lower_param (param n vs) ps h in
    rw (word-lowered n (and_left (is_lower_word n) _ p), not-true (same n (ascii "value")) (and_right (is_lower_word n) _ p)) (no_value ps (all_tail lower_param (param n vs) ps h))

pub proper-kept : (s : Seen) (k : Kept) → KeptFine k → Stands s k → ProperKept k
proper-kept s k f t =
    record {
      name = word-lowered k.name t.name;
      group = group-lowered k.group f.group;
      word = f.group;
      type = word-lowered k.type t.type;
      params = f.params;
      no_value = no_value k.params t.params;
      no-group = f.no-group;
      values = f.values;
    }

-- ---- all of them

abbrev pub kept_gives : List Kept → Gives
kept_gives ks = record { uid = []; kind = []; full = []; parts = []; entry = []; member = []; kept = ks }

one_kept : (s : Seen) (k : Kept) → KeptFine k → Stands s k → gives (kept_as_line k) as-kept ≡ kept_gives (k ∷ [])
one_kept s k f t = rw (kept_line_lem k (proper-kept s k f t))

-- they are classed by what is seen before all of them
pub kept-section : (s t : Seen) → ((l : Line) → classify t l ≡ classify s l) → (ks : List Kept) → AllKeptFine ks → all (kept_stands s) ks ≡ true → Section t (map kept_as_line ks) (kept_gives ks) t
unfolding plus
kept-section s t a [] f h = no_lines t
kept-section s t a (k ∷ ks) f h =
    let w : Stands s k = stands-inv s k (all_head (kept_stands s) k ks h) in
    both-sections (section-to (one_line t (kept_as_line k) as-kept (a (kept_as_line k) ∙ w.class)) (one_kept s k f.0 w) refl)
    (kept-section s t a ks f.1 (all_tail (kept_stands s) k ks h))
