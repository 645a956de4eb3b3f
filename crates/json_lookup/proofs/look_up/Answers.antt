use mathlib.Core.Path.{ap}
use Prim.Native.Nat.{◌+◌}
use Rattle.json_access.specs.declared.Part.{Part}
use Rattle.json_lookup.proofs.Held.{part-handed}
use Rattle.json_lookup.proofs.look_up.Goals as goal

pub returns : goal.returns
returns c =
    let json = c.args.json in
    let h = part-handed json.now c.args.name.now c.locate-p.result c.locate-p.ensures.value in
    record { result_value = h.0; ref_ptr_value = ap (λ (p : Part). (json.ref_ptr.0, p.start + json.ref_ptr.1)) c.locate-p.ensures.value; holds = h.1 }
