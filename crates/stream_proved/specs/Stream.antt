-- The machine that demand 3 is proved of. The code's promises equate a call's answer, card buffer and output with `called`.
use Rattle.stream.specs.Calls.{Machine}
use Rattle.stream_reader.specs.declared.State.{State}
use Rattle.stream_reader.specs.Machine.{fresh_of, in_range}
use Rattle.stream_machine.specs.Turn.{called}

abbrev pub stream : Machine
stream = record { State = State; initial = fresh_of; in_range = in_range; turn = λ s d out c. called c s d out }
