-- Demand 3 of the stream, all of it.
use mathlib.Core.Path.{◌≡◌, ap, ◌∙◌}
use mathlib.Core.List.{List, [], ◌∷◌, map}
use Rattle.convert.specs.Answers.{no, yes}
use Rattle.convert.specs.Worked.{text}
use Rattle.stream.specs.Calls.{shows_more, shows, Reply}
use Rattle.stream.specs.Demand.{Demand3}
use Rattle.stream.proofs.Wrong.{tried, as_plain, supposed, supposed-valid, supposed-is}
use Rattle.stream_proved.specs.Stream.{stream}
use Rattle.stream_proved.proofs.Calls.{reads-plainly}
use Rattle.stream_proved.proofs.Cut.{cut-anywhere, alike-answered}
use Rattle.stream_proved.proofs.Kept.{hindered, no_other, keeps-range, keeps-length, counts-within, two-ends-fresh, fresh-range}
use Rattle.stream_proved.proofs.Placed.{buffer-rule}
use Rattle.stream_proved.proofs.Found.{bytes-found}
use Rattle.stream_proved.proofs.Outputs.{outputs}

pub demand-3 : Demand3 stream
demand-3 =
    record {
      hindered = hindered;
      no_other = no_other;
      reads = reads-plainly;
      cuts = cut-anywhere;
      alike = alike-answered;
      outputs = outputs;
      buffers = buffer-rule;
      lengths = keeps-length;
      counts = counts-within;
      found = bytes-found;
      fresh-ranged = fresh-range;
      ranges = keeps-range;
      ends = two-ends-fresh;
    }

-- The supposed LF of an end call, in this stream: piece BEGIN:VCARD CR LF BEGIN:VCARD, end call (2), piece with the rest of the card: JSON with uid reg-2.
pub supposed-lf : map (λ (r : Reply). r.shown) (tried stream supposed)
    ≡ shows_more ∷ shows (no 2 0) ∷ shows (yes (text "{'@type':'Card','version':'1.0','uid':'reg-2','name':{'full':'a'}}")) ∷ []
supposed-lf = ap (λ (l : List Reply). map (λ (r : Reply). r.shown) l) (as_plain stream demand-3 supposed supposed-valid) ∙ supposed-is
