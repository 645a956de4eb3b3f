-- What is answered on a text whose top-level object is wanted by names.
use Rattle.std.specs.Prelude.{◌≡◌, true, false, List, ℕ, drop, Result, Ok, Err}
use Rattle.std.proofs.Math.Option.{some}
use Prim.Native.Char.{code}
use Rattle.text.specs.Bytes.{Bytes, parts}
use Rattle.text.specs.Reader.{got}
use Rattle.json_text.specs.Tree.{Members, members_of}
use Rattle.json_text.specs.Syntax.{pairs, value}
use Rattle.json_text.specs.Strings.{decoded_members}
use Rattle.json_sound.specs.Sound.{Found}
use Rattle.json_sound.specs.declared.Sounded.TheVariants.{Sound as SoundTo, Unsound as UnsoundTo}
use Rattle.json_index.specs.Index.{Indexed, Indexes}
use Rattle.json_read.specs.declared.Fault.{Fault}
use Rattle.json_read.specs.Verdict.{Verdict}
use Rattle.json_open.specs.declared.Opened.{Opened}
use Rattle.json_open.specs.declared.Opened.TheVariants.{Object, Other}

-- the validating reader's verdict: whether the value is an object is not part of it
abbrev pub as_verdict : Result Opened Fault → Verdict
as_verdict (Ok o) = Ok tt
as_verdict (Err f) = Err f

abbrev pub answered : Verdict → Opened → Result Opened Fault
answered (Ok u) o = Ok o
answered (Err f) o = Err f

-- if members stand from after the byte that opens an object, they are indexed
abbrev pub PairsIndexed : ℕ → Bytes → ℕ → Bytes → List ℕ → Type 0
PairsIndexed d s at names xs = (us ms : Members) (t : Bytes) → pairs (value d) (drop at s) ≡ got us t → decoded_members us ≡ some ms
    → Indexed d s (parts (code ",") names) xs (members_of ms)

-- the same, where they were read as sound
abbrev pub IndexedIf : ℕ → Bytes → ℕ → Bytes → List ℕ → Found → Type 0
IndexedIf d s at names xs (Ok (SoundTo e)) = PairsIndexed d s at names xs
IndexedIf d s at names xs (Ok (UnsoundTo e)) = Unit {0}
IndexedIf d s at names xs (Err b) = Unit {0}

-- of a text that is JSON: whether it is an object, and then its members
abbrev pub Opens : Bytes → Bytes → List ℕ → Result Opened Fault → Type 0
Opens s names xs (Ok Object) = Indexes 15 s 0 names xs true
Opens s names xs (Ok Other) = Indexes 15 s 0 names xs false
Opens s names xs (Err f) = Unit {0}
