-- A part by its length is the part by its end.
use mathlib.Core.Path.{◌≡◌, ap}
use Prim.Native.Nat.{ℕ, ◌+◌, ◌-◌, ◌≤◌}
use native.Mathlib.Omega.{arith}
use Rattle.json_access.specs.declared.Part.{Part}
use Rattle.thymebarrel.specs.Given.{part_from}

abbrev up_to : ℕ → ℕ → Part
up_to a e = record { start = a; end = e }

pub part-whole : (r : Part) → r.start ≤ r.end → part_from r.start (r.end - r.start) ≡ r
part-whole r h =
    let e : r.start + (r.end - r.start) ≡ r.end = omega arith in
    ap (up_to r.start) e
