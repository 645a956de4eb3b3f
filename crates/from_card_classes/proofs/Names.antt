-- The property's number tells whether the line is VERSION, UID, KIND or FN.
use mathlib.Core.Path.{◌≡◌, refl, sym, ap, ◌∙◌}
use mathlib.Core.List.{List, [], ◌∷◌}
use Prim.Native.Nat.{ℕ, ◌<◌}
use native.Mathlib.Omega.{arith}
use lib.Dec.{eqb}
use lib.ListN.{get_or}
use Rattle.text.specs.Bytes.{Bytes, ascii, same, lowered}
use Rattle.line_table.specs.Table.{part, line_in}
use Rattle.class_properties.specs.Names.{names, name_number}
use Rattle.class_properties.proofs.Numbers.{words_of, is_word, number-version, number-uid, number-kind, number-fn}
use Rattle.from_card_refusals.specs.Line.{Coded}

word-version : words_of 1 names ≡ ascii "version" ∷ []
unfolding words_of
word-version = refl

word-uid : words_of 2 names ≡ ascii "uid" ∷ []
unfolding words_of
word-uid = refl

word-kind : words_of 3 names ≡ ascii "kind" ∷ []
unfolding words_of
word-kind = refl

word-fn : words_of 4 names ≡ ascii "fn" ∷ []
unfolding words_of
word-fn = refl

number-named : (n w : Bytes) (k code : ℕ) → words_of k names ≡ w ∷ [] → 0 < k → name_number w ≡ k → code ≡ name_number n → eqb code k ≡ same n w
number-named n w k code is l e c = ap (λ m. eqb m k) c ∙ sym (is_word n w k is l e)

pub coded : (s : Bytes) (t : List ℕ) (code : ℕ) → code ≡ name_number (lowered (part s (get_or t 2 0) (get_or t 3 0))) → Coded code (line_in s t)
unfolding line_in
coded s t code c =
    let n : Bytes = lowered (part s (get_or t 2 0) (get_or t 3 0)) in
    record {
      version = number-named n (ascii "version") 1 code word-version (omega arith) number-version c;
      uid = number-named n (ascii "uid") 2 code word-uid (omega arith) number-uid c;
      kind = number-named n (ascii "kind") 3 code word-kind (omega arith) number-kind c;
      full = number-named n (ascii "fn") 4 code word-fn (omega arith) number-fn c;
    }
