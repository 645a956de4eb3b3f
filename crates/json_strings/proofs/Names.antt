-- A member's name, by place.
use mathlib.Core.Path.{◌≡◌, sym, ap, ◌∙◌}
use Prim.Native.Nat.{ℕ}
use lib.ListN.{drop}
use Rattle.std.specs.Prelude.{Ok}
use Rattle.text.specs.Bytes.{Bytes}
use Rattle.text.specs.Reader.{got}
use Rattle.text.specs.Places.{Gives}
use Rattle.text.proofs.Places.{at_next}
use Rattle.text.proofs.Fine.{got-rest, got-what, bind_inv}
use Rattle.json_text.specs.Syntax.{token, characters, name}
use Rattle.json_text.specs.Strings.{decode}
use Rattle.json_strings.specs.Decoded.{decoded_at}
use Rattle.json_strings.proofs.Laws.{decoded-is}

module _ (s : Bytes) (at : ℕ) where
  -- its string, from after the first quote
  pub name-string : (us t : Bytes) → name (drop at s) ≡ got us t → (q : ℕ) → Gives s at (token 34 (drop at s)) (Ok q) → decoded_at s q ≡ decode us
  unfolding name
  name-string us t e q g =
      let a = at_next (token 34 (drop at s)) g in
      let i = bind_inv (token 34 (drop at s)) _ e in
      let j = bind_inv (characters i.1) _ i.3 in
      let k = bind_inv (token 58 j.1) _ j.3 in
      let w : i.1 ≡ drop q s = got-rest (sym i.2 ∙ a.1) in
      let z : j.0 ≡ us = got-what k.3 in
      decoded-is s q us j.1 (ap characters (sym w) ∙ j.2 ∙ ap (λ (x : Bytes). got x j.1) z)

  -- what follows its colon
  pub name-rest : (us t : Bytes) → name (drop at s) ≡ got us t → (v : ℕ) → Gives s at (name (drop at s)) (Ok v) → t ≡ drop v s
  name-rest us t e v g = got-rest (sym e ∙ (at_next (name (drop at s)) g).1)
