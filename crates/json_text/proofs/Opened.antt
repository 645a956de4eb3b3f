-- Every definition of this layer and of those below it opened, for worked examples by computation: a proof says `unfolding json-opened`.
use Rattle.json_text.specs.Compact.{spelled, spelled_all, quoted, written, written_elems, elems_after, written_members, members_after, compact}
use Rattle.json_text.specs.Grammar.{is_space, Ws, Mark, Digits, Int, Frac, is_e, is_sign, Exp, Number, is_hex, is_short, is_plain, Wide, Character, String, Scalar, Array, Named, Object, Value, Text, Completes}
use Rattle.json_text.specs.Lookup.{span_of, spans, found, look_up, part_of}
use Rattle.json_text.specs.Read.{sound, reading}
use Rattle.json_text.specs.Strings.{decode_after, decode, decoded, decoded_elems, decoded_members, names, distinct_names, distinct_elems, distinct_members}
use Rattle.json_text.specs.Syntax.{skip, token, hex_val, hex, hex4, short, escape, is_lead, tail_bytes, following, character, characters, string, opt, digits, int, frac, sign, exp, number, four, scalar, sep, name, item, elements, pair, pairs, value, text}
use Rattle.json_text.specs.Tree.{members_of, elems_of, from_members, from_elems, field}
use Rattle.text.proofs.Opened.{text-opened}

unfoldable pub json-opened : Unit {0}
unfolding spelled spelled_all quoted written written_elems elems_after written_members members_after compact is_space Ws Mark Digits Int Frac is_e is_sign Exp
    Number is_hex is_short is_plain Wide Character String Scalar Array Named Object Value Text Completes span_of spans found look_up part_of sound reading
    decode_after decode decoded decoded_elems decoded_members names distinct_names distinct_elems distinct_members skip token hex_val hex hex4 short escape
    is_lead tail_bytes following character characters string opt digits int frac sign exp number four scalar sep name item elements pair pairs value text
    members_of elems_of from_members from_elems field text-opened
json-opened = tt
