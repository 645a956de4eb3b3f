-- Lines are written in 01's words: quotes only where needed (specs/Shown.antt).
use mathlib.Core.Path.{◌≡◌, refl, sym, ap, ◌∙◌}
use mathlib.Core.Bool.{Bool, true, false, ◌||◌, not}
use mathlib.Core.List.{List, [], ◌∷◌, ◌++◌, map, append_assoc}
use Prim.Native.Nat.{ℕ}
use lib.Dec.{eqb, ltb}
use Rattle.text.specs.Choice.{pick}
use Rattle.text.specs.Bytes.{Bytes, ascii, any, all, same, empty, uppered, joined, flat}
use Rattle.text.proofs.Cases.{by_bool, by_below, not-both}
use Rattle.text.proofs.Lists.{all_head, all_tail}
use Rattle.line.specs.Class.{is_bare}
use Rattle.line.specs.Grammar.{Param, param, param_values}
use Rattle.line.specs.Write.{write_value, write_values, write_params, write_group, write_line}
use Rattle.line.specs.Shown.{holds_one, shown_value, shown_param, shown_line, WrittenInWords}

abbrev is_byte : ℕ → Bool
is_byte c = ltb c 256

-- a byte is bare exactly if it is none of the four, by computation over all of them
bare-byte : (c : ℕ) → is_byte c ≡ true → is_bare c ≡ not (any (eqb c) (ascii "\";:,"))
unfolding is_bare any
bare-byte c h = by_below is_bare (λ c. not (any (eqb c) (ascii "\";:,"))) c 256 refl (λ l. not-both h l)

bare-text : (v : Bytes) → all is_byte v ≡ true → not (all is_bare v) ≡ holds_one (ascii "\";:,") v
unfolding all holds_one any
bare-text [] h = refl
bare-text (c ∷ v) h =
    by_bool (any (eqb c) (ascii "\";:,"))
    (λ e. rw (bare-byte c (all_head is_byte c v h), e))
    (λ e. rw (bare-byte c (all_head is_byte c v h), e) (bare-text v (all_tail is_byte c v h)))

-- with quotes or without, by two tests that agree
by-test : (always b c : Bool) (v t : Bytes) → b ≡ c → pick (always || b) (34 ∷ (v ++ 34 ∷ t)) (v ++ t) ≡ pick (always || c) (ascii "\"" ++ v ++ ascii "\"") v ++ t
by-test true b c v t e = ap (λ (x : Bytes). 34 ∷ x) (sym (append_assoc v (34 ∷ []) t))
by-test false true c v t e = rw (← e) (ap (λ (x : Bytes). 34 ∷ x) (sym (append_assoc v (34 ∷ []) t)))
by-test false false c v t e = rw (← e)

-- quotes exactly where the value holds one of the four, or always
value-shown : (n v t : Bytes) → all is_byte v ≡ true → write_value (same n (ascii "JSPTR")) v t ≡ shown_value n v ++ t
unfolding write_value shown_value
value-shown n v t h = by-test (same n (ascii "JSPTR")) (not (all is_bare v)) (holds_one (ascii "\";:,") v) v t (bare-text v h)

values-shown : (n : Bytes) (vs : List Bytes) (t : Bytes) → all (all is_byte) vs ≡ true
    → write_values (same n (ascii "JSPTR")) vs t ≡ joined (ascii ",") (map (shown_value n) vs) ++ t
unfolding write_values joined
values-shown n [] t h = refl
values-shown n (v ∷ []) t h = value-shown n v t (all_head (all is_byte) v [] h)
values-shown n (v ∷ (w ∷ ws)) t h =
    value-shown n v _ (all_head (all is_byte) v (w ∷ ws) h)
    ∙ ap (λ (x : Bytes). shown_value n v ++ (44 ∷ x)) (values-shown n (w ∷ ws) t (all_tail (all is_byte) v (w ∷ ws) h))
    ∙ sym (append_assoc (shown_value n v) (44 ∷ joined (ascii ",") (map (shown_value n) (w ∷ ws))) t)

params-shown : (ps : List Param) (t : Bytes) → all (λ p. all (all is_byte) (param_values p)) ps ≡ true
    → write_params ps t ≡ flat (map shown_param ps) ++ (58 ∷ t)
unfolding write_params shown_param flat
params-shown [] t h = refl
params-shown (param n vs ∷ ps) t h =
    let later : write_params ps t ≡ flat (map shown_param ps) ++ (58 ∷ t) = params-shown ps t (all_tail (λ p. all (all is_byte) (param_values p)) (param n vs) ps h) in
    rw (values-shown (uppered n) vs (write_params ps t) (all_head (λ p. all (all is_byte) (param_values p)) (param n vs) ps h), later) (simp append_assoc)

pub written-in-words : WrittenInWords
unfolding write_line write_group shown_line
written-in-words l h =
    by_bool (empty l.group)
    (λ e. rw (e, params-shown l.params l.value h) (simp append_assoc))
    (λ e. rw (e, params-shown l.params l.value h) (simp append_assoc))
