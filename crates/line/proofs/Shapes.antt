-- What follows each step of the grammar's readers, by name, so that laws can say where they are.
use mathlib.Core.Path.{◌≡◌, refl}
use mathlib.Core.List.{List, [], ◌∷◌}
use Prim.Native.Nat.{ℕ}
use Rattle.text.specs.Bytes.{Bytes, is, on_head}
use Rattle.text.specs.Reader.{Got, got, bind, on, Step, more, last, loop, one}
use Rattle.line.specs.Grammar.{Param, param, Line, word, value_turn, after_name}

-- after the bytes in quotes
abbrev pub closing : Bytes → Bytes → Got Bytes
closing v t = bind (one 34 t) λ q t. got v t

-- after a value
abbrev pub onward : Bytes → Bytes → Got (Step (List Bytes))
onward v t = on (is 44) (λ c t. got (more (λ vs. v ∷ vs)) t) (got (last (v ∷ []))) t

-- after a parameter's name, and after its `=`
abbrev pub valued : Bytes → Bytes → Got Param
valued n t = bind (loop value_turn t) λ vs t. got (param n vs) t

abbrev pub named : Bytes → Bytes → Got Param
named n t = bind (one 61 t) λ e t. valued n t

-- after a parameter
abbrev pub added : Param → Bytes → Got (Step (List Param))
added p t = got (more (λ ps. p ∷ ps)) t

-- after the parameters of a line
abbrev pub whole : Bytes → Bytes → List Param → Bytes → Got Line
whole g n ps t = got (record { group = g; name = n; params = ps; value = t }) []

-- after a group's dot, and after the first word
abbrev pub grouped : Bytes → Bytes → Got Line
grouped w t = bind (word t) (λ n t. after_name w n t)

abbrev pub begun : Bytes → Bytes → Got Line
begun w t = on (is 46) (λ c t. grouped w t) (after_name [] w) t

-- ---- a byte onto the first of some lines

pub on-head : (c : ℕ) (x : Bytes) (xs : List Bytes) → on_head c (x ∷ xs) ≡ (c ∷ x) ∷ xs
unfolding on_head
on-head c x xs = refl
