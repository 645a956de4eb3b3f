-- Past the end of a text nothing is read, so nothing is to be told.
use mathlib.Core.Path.{◌≡◌, refl, sym, ap, ◌∙◌}
use mathlib.Core.List.{[]}
use Prim.Native.Nat.{ℕ, suc, ◌<◌}
use native.Mathlib.Omega.{arith}
use lib.ListN.{length, drop, drop_of_length-le}
use Rattle.text.specs.Bytes.{Bytes}
use Rattle.text.specs.Reader.{bad, on, past, one}
use Rattle.text.proofs.Fine.{not-bad}
use Rattle.json_text.specs.Syntax.{skip, token, name, value}
use Rattle.json_skip.proofs.Ends.{no_value}
use Rattle.json_access.specs.declared.Part.{Part}
use Rattle.json_access.specs.declared.Head.{Head}
use Rattle.json_access.specs.declared.Kind.{Kind}
use Rattle.json_access.specs.Access.{TellsHead, TellsElement, TellsKind}

no_name : name [] ≡ bad []
unfolding name token one skip past on
no_name = refl

module _ (s : Bytes) (at : ℕ) (h : length s < at) where
  nothing : drop at s ≡ []
  nothing = drop_of_length-le s {i = at} (omega arith)

  pub head-past : (r : Head) → TellsHead s at r
  head-past r k t e = absurd (not-bad (sym (ap name nothing ∙ no_name) ∙ e))

  pub element-past : (d : ℕ) (r : Part) → TellsElement d s at r
  element-past d r j u e = absurd (not-bad (sym (ap (value d) nothing ∙ no_value d) ∙ e))

  pub kind-past : (r : Kind) → TellsKind s at r
  kind-past r d j t e = absurd (not-bad (sym (ap (value (suc d)) nothing ∙ no_value (suc d)) ∙ e))
