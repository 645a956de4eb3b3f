-- How a card's JSON begins: @type, version, uid; then kind where there is one.
use Rattle.std.specs.Prelude.{Bool, [], ◌∷◌, ◌++◌, ℕ}
use Prim.Native.Char.{code}
use Rattle.text.specs.Choice.{pick}
use Rattle.text.specs.Bytes.{Bytes, ascii, lowered}
use Rattle.json_text.specs.Tree.{member, jstr}
use Rattle.convert.specs.Value.{filled}
use Rattle.convert.specs.FromCard.{made_uid}
use Rattle.convert.specs.ToJson.{where'}
use Rattle.convert_put.specs.Pieces.{member_bytes, after}

-- the uid of the UID line, or one that is made of the stem and the card's number
abbrev pub uid_of : Bool → Bytes → Bytes → ℕ → Bytes
uid_of given uid stem n = pick given uid (made_uid stem n)

-- what stands before kind in `Card.print-split`
unfoldable pub start_bytes : Bytes → Bytes
start_bytes uid =
    code "{" ∷ (member_bytes (member (ascii "@type") (jstr (ascii "Card"))) ++ after (member (ascii "version") (jstr (ascii "1.0")) ∷ member (ascii "uid") (jstr uid) ∷ []))

-- the value of KIND, in lower case
unfoldable pub kind_bytes : Bytes → Bytes
kind_bytes v = after (where' (filled (lowered v)) (member (ascii "kind") (jstr (lowered v))))
