-- Two equal values: the part that is handed back is the one of the member asked for, by its place.
use mathlib.Core.Path.{◌≡◌, refl}
use Rattle.text.specs.Bytes.{ascii}
use Rattle.json_text.specs.Lookup.{look_up}
use Rattle.json_text.proofs.Opened.{json-opened}
use Rattle.json_lookup.specs.Finds.{place_of}

second-of-two : place_of (look_up (ascii "{\"a\":1,\"b\":1}") (ascii "b")) ≡ record { start = 11; end = 12 }
unfolding json-opened
second-of-two = refl
