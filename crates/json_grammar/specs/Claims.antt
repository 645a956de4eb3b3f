-- What is claimed of the reader of lists (`text`), by RFC 8259's grammar.
use Rattle.std.specs.Prelude.{◌≡◌, [], ◌↔◌, ℕ, ◌-◌, length}
use Rattle.text.specs.Bytes.{Bytes}
use Rattle.text.specs.Reader.{got, bad}
use Rattle.json_text.specs.Grammar.{Text, FirstBad}
use Rattle.json_text.specs.Tree.{Json}
use Rattle.json_text.specs.Syntax.{text}

-- it reads the texts of the grammar to their end, and no others
abbrev pub ReadsGrammar : ℕ → Bytes → Type 0
ReadsGrammar d s = Text d s ↔ ((j : Json) × (text d s ≡ got j []))

-- where it fails, it says the first byte at which no such text can still follow
abbrev pub FailsFirst : ℕ → Bytes → Type 0
FailsFirst d s = (t : Bytes) → text d s ≡ bad t → FirstBad d s (length s - length t)
