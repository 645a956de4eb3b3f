-- The look-up service: a top-level member's value as that very part of the text.
use Rattle.std.specs.Prelude.{Bool, true, false, ◌&&◌, List, [], ◌∷◌, ℕ, ◌-◌, length, take, drop, leb}
use Rattle.std.proofs.Math.Option.{Option, none, some}
use Prim.Native.Char.{code}
use Rattle.text.specs.Choice.{pick, with-some}
use Rattle.text.specs.Bytes.{Bytes, is, same}
use Rattle.text.specs.Reader.{Got, got, bad, bind, on, Step, loop}
use Rattle.json_text.specs.Syntax.{skip, name, value, sep}
use Rattle.json_text.specs.Strings.{decode}
use Rattle.json_text.specs.Read.{Reading, tree, refused, reading}

-- The room of 01: a JSON text has at most 65,536 bytes and depth 16, the outermost array or object being depth 1.
abbrev pub room : ℕ
room = 65536

abbrev pub depth : ℕ
depth = 16

-- of a value that stands in the outermost object
abbrev pub member_depth : ℕ
member_depth = 15

-- A member's name as units, and where its value stands: the rest from its first byte on, and the rest after it.
pub record Span : Type 0 where
  pub name : Bytes
  pub from : Bytes
  pub after : Bytes

unfoldable pub span_of : ℕ → Bytes → Got (Step (List Span))
span_of d s =
    bind (name s) λ k t.
    bind (value d t) λ j u.
    sep (code "}") (record { name = k; from = skip t; after = u } ∷ []) (λ ps. record { name = k; from = skip t; after = u } ∷ ps) u

-- the members of a text that is an object
unfoldable pub spans : ℕ → Bytes → Got (List Span)
spans d s = on (is (code "{")) (λ c t. on (is (code "}")) (λ c t. got [] t) (loop (span_of d)) (skip t)) bad (skip s)

abbrev pub given : Got (List Span) → List Span
given (got ps t) = ps
given (bad t) = []

-- A part of a text: so many bytes from an offset.
pub record Part : Type 0 where
  pub offset : ℕ
  pub size : ℕ

unfoldable pub found : ℕ → Bytes → List Span → Option Part
found n m [] = none
found n m (p ∷ ps) =
    pick (with-some (decode p.name) (same m) false)
    (some (record { offset = n - length p.from; size = length p.from - length p.after })) (found n m ps)

abbrev pub is_tree : Reading → Bool
is_tree (tree j) = true
is_tree (refused n) = false

-- The part that holds the value of the member named m: none where the text is over its room (3), no JSON (11), no object,
-- or has no such member.
unfoldable pub look_up : Bytes → Bytes → Option Part
look_up s m =
    pick (leb (length s) room && is_tree (reading depth s)) (found (length s) m (given (spans member_depth s))) none

-- its bytes, empty where there is none
unfoldable pub part_of : Bytes → Option Part → Bytes
part_of s none = []
part_of s (some p) = take p.size (drop p.offset s)
