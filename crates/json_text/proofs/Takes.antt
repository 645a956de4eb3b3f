-- How many bytes each reader takes at least: the first half of what Fine.antt says of it.
use mathlib.Core.Path.{refl}
use Prim.Native.Nat.{ℕ}
use Rattle.text.specs.Bytes.{Bytes}
use Rattle.text.specs.Reader.{Got}
use Rattle.text.proofs.Fine.{fine-takes}
use Rattle.text.proofs.Readers.{Takes, takes-less, takes-bind}
use Rattle.json_text.specs.Tree.{Json, enil, econs, mnil, mcons}
use Rattle.json_text.specs.Syntax.{character, characters, item, pair, value}
use Rattle.json_text.proofs.Fine.{character-fine, characters-fine, sep-fine, name-fine, value-fine}

pub takes-character : Takes 1 character
takes-character = fine-takes character-fine

pub takes-characters : Takes 1 characters
takes-characters = fine-takes characters-fine

module _ (rd : Bytes → Got Json) (h : Takes 1 rd) where
  pub takes-item : Takes 1 (item rd)
  unfolding item
  takes-item = takes-bind h λ j. takes-less (fine-takes (sep-fine 93 (econs j enil) (econs j) refl))

  pub takes-pair : Takes 1 (pair rd)
  unfolding pair
  takes-pair = takes-bind (fine-takes name-fine) λ k. takes-bind (takes-less h) λ j. takes-less (fine-takes (sep-fine 125 (mcons k j mnil) (mcons k j) refl))

pub takes-value : (d : ℕ) → Takes 1 (value d)
takes-value d = fine-takes (value-fine d)
