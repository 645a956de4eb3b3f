-- Compact JSON: no white space, strings spelled anew, numbers as spelled. Each writer is given what follows.
use Rattle.std.specs.Prelude.{◌||◌, [], ◌∷◌, ◌++◌, ℕ, ◌+◌, ◌/◌, ◌%◌, eqb, ltb}
use Prim.Native.Char.{code}
use Rattle.text.specs.Choice.{pick}
use Rattle.text.specs.Bytes.{Bytes, ascii}
use Rattle.json_text.specs.Tree.{Json, jnull, jtrue, jfalse, jnum, jstr, jarr, jobj, Elems, enil, econs, Members, mnil, mcons}

-- lower-case hex
abbrev pub hex_digit : ℕ → ℕ
hex_digit d = pick (ltb d 10) (code "0" + d) (87 + d)

-- one byte in a string: `"`, `\`, controls and DEL are escaped, \b \t \n \f \r where they can be
unfoldable pub spelled : ℕ → Bytes
spelled c =
    pick (eqb c (code "\"") || eqb c (code "\\")) (code "\\" ∷ c ∷ [])
    (pick (eqb c 8) (ascii "\\b") (pick (eqb c 9) (ascii "\\t") (pick (eqb c 10) (ascii "\\n") (pick (eqb c 12) (ascii "\\f") (pick (eqb c 13) (ascii "\\r")
    (pick (ltb c 32 || eqb c 127) (ascii "\\u00" ++ (hex_digit (c / 16) ∷ hex_digit (c % 16) ∷ [])) (c ∷ [])))))))

unfoldable pub spelled_all : Bytes → Bytes
spelled_all [] = []
spelled_all (c ∷ s) = spelled c ++ spelled_all s

unfoldable pub quoted : Bytes → Bytes → Bytes
quoted s t = code "\"" ∷ (spelled_all s ++ code "\"" ∷ t)

unfoldable mutual
  pub written : Json → Bytes → Bytes
  written jnull t = code "n" ∷ code "u" ∷ code "l" ∷ code "l" ∷ t
  written jtrue t = code "t" ∷ code "r" ∷ code "u" ∷ code "e" ∷ t
  written jfalse t = code "f" ∷ code "a" ∷ code "l" ∷ code "s" ∷ code "e" ∷ t
  written (jnum x) t = x ++ t
  written (jstr s) t = quoted s t
  written (jarr es) t = code "[" ∷ written_elems es t
  written (jobj ms) t = code "{" ∷ written_members ms t

  pub written_elems : Elems → Bytes → Bytes
  written_elems enil t = code "]" ∷ t
  written_elems (econs j es) t = written j (elems_after es t)

  pub elems_after : Elems → Bytes → Bytes
  elems_after enil t = code "]" ∷ t
  elems_after (econs j es) t = code "," ∷ written j (elems_after es t)

  pub written_members : Members → Bytes → Bytes
  written_members mnil t = code "}" ∷ t
  written_members (mcons k j ms) t = quoted k (code ":" ∷ written j (members_after ms t))

  pub members_after : Members → Bytes → Bytes
  members_after mnil t = code "}" ∷ t
  members_after (mcons k j ms) t = code "," ∷ quoted k (code ":" ∷ written j (members_after ms t))

unfoldable pub compact : Json → Bytes
compact j = written j []
