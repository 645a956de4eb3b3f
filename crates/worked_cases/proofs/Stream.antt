-- Worked cases of 01's 'The stream', by hand: a card's number is given at BEGIN, whatever becomes of it, and begins again after an end call that leaves no card open.
use mathlib.Core.Path.{◌≡◌, refl}
use mathlib.Core.List.{List, [], ◌∷◌, ◌++◌, map}
use mathlib.Core.Option.{none}
use Prim.Native.Nat.{ℕ}
use Prim.Native.String.{String}
use Rattle.text.specs.Bytes.{ascii}
use Rattle.convert.specs.Answers.{no, yes}
use Rattle.convert.specs.Worked.{text, worked-opened}
use Rattle.stream.specs.Calls.{Call, piece, end, shows_more, shows, Reply, plain_replies}
use Rattle.stream.proofs.Opened.{stream-opened}

-- ---- calls and replies, as a case writes them

-- calls with a last card's number of n so far, and their replies
pub data Talk : Type 0 where
  talk : (n : ℕ) → List Call → List Reply → Talk

unfoldable pub heard : Talk → List Reply
heard (talk n cs rs) = plain_replies (record { card = none; begun = []; number = n }) cs

unfoldable pub owed : Talk → List Reply
owed (talk n cs rs) = rs

-- a piece with stem reg, an end call with it
abbrev feed : String → Call
feed s = piece (ascii "reg") (text s)

abbrev stop : Call
stop = end (ascii "reg")

-- more, a refusal with its place, a JSON with this uid and no other member; each with the bytes consumed
abbrev more : ℕ → Reply
more n = record { shown = shows_more; consumed = n }

abbrev refused : ℕ → ℕ → ℕ → Reply
refused n k p = record { shown = shows (no k p); consumed = n }

abbrev uid : ℕ → String → Reply
uid n s = record { shown = shows (yes (text "{'@type':'Card','version':'1.0','uid':'" ++ text s ++ text "'}")); consumed = n }

-- a card of 51 bytes, of which only its number is seen; one without FN, of 34
abbrev whole : Call
whole = feed "BEGIN:VCARD|VERSION:4.0|FN;DERIVED=TRUE:|END:VCARD|"

abbrev nameless : Call
nameless = feed "BEGIN:VCARD|VERSION:4.0|END:VCARD|"

-- ---- the cases

unfoldable pub talks : List Talk
talks =
    -- a card that is refused has its number; so has one with a UID
    talk 0 (whole ∷ nameless ∷ whole ∷ feed "BEGIN:VCARD|VERSION:4.0|UID:u|FN;DERIVED=TRUE:|END:VCARD|" ∷ whole ∷ []) (uid 51 "reg-1" ∷ refused 34 10 0 ∷ uid 51 "reg-3" ∷ uid 57 "u" ∷ uid 51 "reg-5" ∷ [])
    -- the place of a refusal is that of the card's line
    ∷ talk 0 (feed "BEGIN:VCARD|VERSION:4.0|FN:a|x|END:VCARD|" ∷ feed "begin:vcard^|VERSION:4.0|FN:a|X:| |UID:|End:VCard^|" ∷ []) (refused 41 5 3 ∷ refused 51 9 4 ∷ [])
    -- a line outside a card, and an empty one, count nothing
    ∷ talk 0 (feed "x|" ∷ feed "||^|" ∷ whole ∷ feed "|x|" ∷ feed "END:VCARD|" ∷ whole ∷ []) (refused 2 1 0 ∷ more 4 ∷ uid 51 "reg-1" ∷ refused 3 1 0 ∷ refused 10 1 0 ∷ uid 51 "reg-2" ∷ [])
    -- each BEGIN in an open card answers 2 and counts
    ∷ talk 0 (feed "BEGIN:VCARD|X|begin:vcard|" ∷ feed "BEGIN:VCARD^|" ∷ whole ∷ feed "VERSION:4.0|FN;DERIVED=TRUE:|END:VCARD|" ∷ whole ∷ []) (refused 26 2 0 ∷ refused 13 2 0 ∷ refused 12 2 0 ∷ uid 39 "reg-4" ∷ uid 51 "reg-5" ∷ [])
    -- a call answers one line, and consumes no more
    ∷ talk 0 (feed "BEGIN:VCARD|VERSION:4.0|FN;DERIVED=TRUE:|END:VCARD|BEGIN:VCARD|" ∷ whole ∷ stop ∷ []) (uid 51 "reg-1" ∷ uid 51 "reg-2" ∷ more 0 ∷ [])
    -- cut anywhere: in BEGIN, in a line end, in a name, in END; an empty piece
    ∷ talk 0 (feed "B" ∷ feed "" ∷ feed "EGIN:VCARD^" ∷ feed "|VERS" ∷ feed "ION:4.0|FN;DERIVED=TRUE:" ∷ feed "|" ∷ feed "END:VCARD" ∷ feed "^" ∷ feed "|" ∷ [])
    (more 1 ∷ more 0 ∷ more 11 ∷ more 5 ∷ more 24 ∷ more 1 ∷ more 9 ∷ more 1 ∷ uid 1 "reg-1" ∷ [])
    -- the stem of the call that closes the card
    ∷ talk 0 (piece (ascii "a") (text "BEGIN:VCARD|VERSION:4.0|FN;DERIVED=TRUE:|END:VC") ∷ piece (ascii "b:C-_9") (text "ARD|") ∷ feed "BEGIN:VCARD|VERSION:4.0|FN;DERIVED=TRUE:|END:VCARD" ∷ end (ascii "e") ∷ []) (more 47 ∷ uid 4 "b:C-_9-1" ∷ more 50 ∷ uid 0 "e-2" ∷ [])
    -- BEGIN and END are physical lines: none that a blank precedes, none with a blank after it
    ∷ talk 0 (feed "BEGIN:VCARD|VERSION:4.0|FN;DERIVED=TRUE:| END:VCARD|\tBEGIN:VCARD|END:VCARD|" ∷ feed "BEGIN:VCARD |" ∷ feed "BEGIN:VCARD|VERSION:4.0|FN;DERIVED=TRUE:|END:VCARD |END:VCARD|" ∷ []) (uid 75 "reg-1" ∷ refused 13 1 0 ∷ refused 62 5 3 ∷ [])
    -- an end call that leaves no card open: the number is 0 again, after more, a JSON, 2, 1
    ∷ talk 0 (whole ∷ stop ∷ whole ∷ []) (uid 51 "reg-1" ∷ more 0 ∷ uid 51 "reg-1" ∷ [])
    ∷ talk 0 (whole ∷ feed "BEGIN:VCARD|VERSION:4.0|FN;DERIVED=TRUE:|END:VCARD" ∷ stop ∷ whole ∷ []) (uid 51 "reg-1" ∷ more 50 ∷ uid 0 "reg-2" ∷ uid 51 "reg-1" ∷ [])
    ∷ talk 0 (whole ∷ feed "BEGIN:VCARD|VERSION:4.0" ∷ stop ∷ whole ∷ []) (uid 51 "reg-1" ∷ more 23 ∷ refused 0 2 0 ∷ uid 51 "reg-1" ∷ [])
    ∷ talk 0 (whole ∷ feed "x" ∷ stop ∷ whole ∷ []) (uid 51 "reg-1" ∷ more 1 ∷ refused 0 1 0 ∷ uid 51 "reg-1" ∷ [])
    ∷ talk 0 (whole ∷ feed "BEGIN:VCARD" ∷ stop ∷ whole ∷ []) (uid 51 "reg-1" ∷ more 11 ∷ refused 0 2 0 ∷ uid 51 "reg-1" ∷ [])
    -- one that leaves the card open that its BEGIN opened: the numbers go on, until the next
    ∷ talk 0 (feed "BEGIN:VCARD|BEGIN:VCARD" ∷ stop ∷ feed "VERSION:4.0|FN;DERIVED=TRUE:|END:VCARD|" ∷ whole ∷ []) (more 23 ∷ refused 0 2 0 ∷ uid 39 "reg-2" ∷ uid 51 "reg-3" ∷ [])
    ∷ talk 0 (feed "BEGIN:VCARD|BEGIN:VCARD" ∷ stop ∷ stop ∷ whole ∷ []) (more 23 ∷ refused 0 2 0 ∷ refused 0 2 0 ∷ uid 51 "reg-1" ∷ [])
    -- numbers of two digits and more; past 999,999 a card that ends is 3, one that meets BEGIN or the end is 2
    ∷ talk 9 (whole ∷ whole ∷ []) (uid 51 "reg-10" ∷ uid 51 "reg-11" ∷ [])
    ∷ talk 999998 (whole ∷ whole ∷ nameless ∷ feed "BEGIN:VCARD|BEGIN:VCARD|" ∷ stop ∷ whole ∷ []) (uid 51 "reg-999999" ∷ refused 51 3 0 ∷ refused 34 3 0 ∷ refused 24 2 0 ∷ refused 0 2 0 ∷ uid 51 "reg-1" ∷ [])
    ∷ []

pub talks-hold : map heard talks ≡ map owed talks
unfolding talks heard owed stream-opened worked-opened
talks-hold = refl
