-- The classes of bytes and the escapes of TEXT said once more from 01, each as the list of its bytes, over all of 0 to 255.
use Rattle.std.specs.Prelude.{◌≡◌, true, false, not, [], ◌∷◌, ◌++◌, map, replicate}
use Rattle.std.proofs.Math.Option.{none, some}
use Prim.Native.Char.{code}
use Rattle.text.specs.Choice.{with-some, is_some}
use Rattle.text.specs.Bytes.{Bytes, ascii, same}
use Rattle.text.specs.Listed.{bytes_that, changes}
use Rattle.line.specs.Class.{is_name, is_lower_name, is_quotable, is_bare, is_control, is_blank, is_key, is_stem}
use Rattle.line.specs.Grammar.{param, fits, is_frame_name, read_line}
use Rattle.line.specs.Params.{merged}
use Rattle.line.specs.Physical.{physical, size_of, is_begin, is_end, framed}
use Rattle.line.specs.Text.{read_text, write_text}
use Rattle.line.specs.Write.{write_value, write_card}

-- the bytes that may stand between these two parts of a line
abbrev pub fitting : Bytes → Bytes → Bytes
fitting a b = bytes_that (λ c. is_some (read_line (a ++ c ∷ b)))

pub record ListedLine : Type 0 where
  -- "groups and names are letters, digits, hyphens"
  pub names : bytes_that is_name ≡ ascii "-0123456789ABCDEFGHIJKLMNOPQRSTUVWXYZabcdefghijklmnopqrstuvwxyz"
  pub lower-names : bytes_that is_lower_name ≡ ascii "-0123456789abcdefghijklmnopqrstuvwxyz"
  -- "a parameter value is bare (no `"` `;` `:` `,`) or quoted (no `"`)": the bytes that each lacks
  pub not-bare : bytes_that (λ c. not (is_bare c)) ≡ ascii "\",:;"
  pub not-quotable : bytes_that (λ c. not (is_quotable c)) ≡ ascii "\""
  -- "quotes only where needed (JSPTR always)": the bytes that are written in quotes, and those that are not where quotes are always written
  pub quoted : bytes_that (λ c. same (write_value false (c ∷ []) []) (code "\"" ∷ c ∷ code "\"" ∷ [])) ≡ ascii "\",:;"
  pub always-quoted : bytes_that (λ c. not (same (write_value true (c ∷ []) []) (code "\"" ∷ c ∷ code "\"" ∷ []))) ≡ []
  -- "optional group and dot, name, parameters (`;name=value,value`), colon, value": what may stand at each place
  pub name-alone : fitting [] (ascii ":") ≡ ascii "-0123456789ABCDEFGHIJKLMNOPQRSTUVWXYZabcdefghijklmnopqrstuvwxyz"
  pub name-after-group : fitting (ascii "g.") (ascii ":") ≡ ascii "-0123456789ABCDEFGHIJKLMNOPQRSTUVWXYZabcdefghijklmnopqrstuvwxyz"
  pub after-name : fitting (ascii "X") (ascii "Y:") ≡ ascii "-.0123456789:ABCDEFGHIJKLMNOPQRSTUVWXYZabcdefghijklmnopqrstuvwxyz"
  pub after-grouped : fitting (ascii "g.X") (ascii "Y:") ≡ ascii "-0123456789:ABCDEFGHIJKLMNOPQRSTUVWXYZabcdefghijklmnopqrstuvwxyz"
  pub before-parameter : fitting (ascii "X") (ascii "P=v:") ≡ ascii ":;"
  pub parameter-name : fitting (ascii "X;") (ascii "=v:") ≡ ascii "-0123456789ABCDEFGHIJKLMNOPQRSTUVWXYZabcdefghijklmnopqrstuvwxyz"
  pub after-parameter-name : fitting (ascii "X;P") (ascii "v:") ≡ ascii "="
  pub not-in-a-bare-value : bytes_that (λ c. not (is_some (read_line (ascii "X;P=a" ++ c ∷ ascii "b:")))) ≡ ascii "\";"
  pub not-in-quotes : bytes_that (λ c. not (is_some (read_line (ascii "X;P=\"a" ++ c ∷ ascii "b\":")))) ≡ ascii "\""
  pub after-quotes : fitting (ascii "X;P=\"a\"") (ascii "b:") ≡ ascii ",:"
  pub not-in-a-value : bytes_that (λ c. not (is_some (read_line (ascii "X:a" ++ c ∷ ascii "b")))) ≡ []
  -- "a control (0-31 but tab, 127)"
  pub controls : bytes_that is_control
      ≡ 0 ∷ 1 ∷ 2 ∷ 3 ∷ 4 ∷ 5 ∷ 6 ∷ 7 ∷ 8 ∷ 10 ∷ 11 ∷ 12 ∷ 13 ∷ 14 ∷ 15 ∷ 16 ∷ 17 ∷ 18 ∷ 19 ∷ 20 ∷ 21 ∷ 22 ∷ 23 ∷ 24 ∷ 25 ∷ 26 ∷ 27 ∷ 28 ∷ 29 ∷ 30 ∷ 31
      ∷ 127 ∷ []
  -- "a line end followed by space or tab vanishes"
  pub blanks : bytes_that is_blank ≡ ascii "\t "
  -- "keys are .. of A-Z a-z 0-9 - _", "UID stem .. of A-Z a-z 0-9 : - _"
  pub keys : bytes_that is_key ≡ ascii "-0123456789ABCDEFGHIJKLMNOPQRSTUVWXYZ_abcdefghijklmnopqrstuvwxyz"
  pub stems : bytes_that is_stem ≡ ascii "-0123456789:ABCDEFGHIJKLMNOPQRSTUVWXYZ_abcdefghijklmnopqrstuvwxyz"
  -- "TEXT reads `\\` `\,` `\;` `\n` `\N`": what stands for something after a backslash, with what it stands for; the others are bad
  pub escapes-read : changes (λ c. with-some (read_text (code "\\" ∷ c ∷ [])) (λ s. s) (c ∷ []))
      ≡ ascii "N\n" ∷ ascii "n\n" ∷ []
  pub escapes-known : bytes_that (λ c. with-some (read_text (code "\\" ∷ c ∷ [])) (λ s. true) false) ≡ ascii ",;N\\n"
  -- alone, every byte but the backslash stands for itself
  pub stands : changes (λ c. with-some (read_text (c ∷ [])) (λ s. s) []) ≡ ascii "\\" ∷ []
  -- "writing escapes backslash, LF and comma, and semicolon in N and ORG"
  pub escapes-written : changes (λ c. write_text false (c ∷ [])) ≡ ascii "\n\\n" ∷ ascii ",\\," ∷ ascii "\\\\\\" ∷ []
  pub escapes-in-parts : changes (λ c. write_text true (c ∷ [])) ≡ ascii "\n\\n" ∷ ascii ",\\," ∷ ascii ";\\;" ∷ ascii "\\\\\\" ∷ []
  -- "at most 32 parameters and 64 parameter values"
  pub parameters : map (λ n. fits (replicate n (param [] []))) (0 ∷ 1 ∷ 31 ∷ 32 ∷ 33 ∷ 34 ∷ []) ≡ true ∷ true ∷ true ∷ true ∷ false ∷ false ∷ []
  pub values : map (λ n. fits (param [] (replicate n []) ∷ param [] ([] ∷ []) ∷ [])) (0 ∷ 62 ∷ 63 ∷ 64 ∷ []) ≡ true ∷ true ∷ true ∷ false ∷ []
  -- "named BEGIN or END"
  pub frames : map is_frame_name (ascii "BEGIN" ∷ ascii "bEgIn" ∷ ascii "END" ∷ ascii "enD" ∷ ascii "BEGI" ∷ ascii "BEGINS" ∷ ascii "ENDE" ∷ [] ∷ [])
      ≡ true ∷ true ∷ true ∷ true ∷ false ∷ false ∷ false ∷ false ∷ []
  -- "a line ends at LF; a CR just before belongs to the end; missing at the end of input, one LF is supposed and counted"
  pub line-ends : physical (ascii "a\r\r\nb\rc\n\r\n\nd") ≡ ascii "a\r" ∷ ascii "b\rc" ∷ [] ∷ [] ∷ ascii "d" ∷ []
  pub sizes : map size_of ([] ∷ ascii "a" ∷ ascii "a\r" ∷ ascii "a\n" ∷ ascii "a\r\n" ∷ ascii "\n\n" ∷ []) ≡ 1 ∷ 2 ∷ 3 ∷ 2 ∷ 3 ∷ 2 ∷ []
  -- "BEGIN:VCARD and END:VCARD are physical lines in any letter case"
  pub begins : map is_begin (ascii "BEGIN:VCARD" ∷ ascii "bEgIn:VcArD" ∷ ascii "BEGIN:VCARD " ∷ ascii " BEGIN:VCARD" ∷ ascii "BEGIN:VCARDS" ∷ ascii "BEGIN;X=1:VCARD" ∷ ascii "END:VCARD" ∷ [])
      ≡ true ∷ true ∷ false ∷ false ∷ false ∷ false ∷ false ∷ []
  pub ends : map is_end (ascii "END:VCARD" ∷ ascii "eNd:VcArD" ∷ ascii "END:VCARD " ∷ ascii " END:VCARD" ∷ ascii "END:VCARDS" ∷ ascii "END;X=1:VCARD" ∷ ascii "BEGIN:VCARD" ∷ [])
      ≡ true ∷ true ∷ false ∷ false ∷ false ∷ false ∷ false ∷ []
  -- "BEGIN first, END last, no other such line"
  pub cards : map framed ((ascii "begin:vcard" ∷ ascii "a" ∷ ascii "end:vcard" ∷ []) ∷ (ascii "begin:vcard" ∷ ascii "begin:vcard" ∷ ascii "end:vcard" ∷ []) ∷ (ascii "begin:vcard" ∷ ascii "end:vcard" ∷ ascii "end:vcard" ∷ [])
      ∷ (ascii "a" ∷ ascii "end:vcard" ∷ []) ∷ (ascii "begin:vcard" ∷ ascii "a" ∷ []) ∷ (ascii "begin:vcard" ∷ ascii "end:vcard" ∷ [] ∷ []) ∷ [])
      ≡ some (ascii "a" ∷ []) ∷ none ∷ none ∷ none ∷ none ∷ none ∷ []
  -- "equal-named kept parameters merged": at the place of the first, its values first
  pub merging : merged (param (ascii "A") (ascii "1" ∷ []) ∷ param (ascii "b") (ascii "2" ∷ []) ∷ param (ascii "a") (ascii "3" ∷ ascii "1" ∷ []) ∷ [])
      ≡ param (ascii "a") (ascii "1" ∷ ascii "3" ∷ ascii "1" ∷ []) ∷ param (ascii "b") (ascii "2" ∷ []) ∷ []
  -- "CR LF ends"
  pub card-written : write_card (record { group = []; name = ascii "x"; params = []; value = ascii "v" } ∷ []) ≡ ascii "BEGIN:VCARD\r\nX:v\r\nEND:VCARD\r\n"
