-- Converters that pair other words than 01, either way, or keep a line that 01 converts, do not meet demand 2, whatever else they do: one wrong answer is enough. None
-- of this is used by a proof: it shows what `StandsFor` and `Reasons` rule out.
use mathlib.Core.Path.{◌≡◌, refl, ap, ◌∙◌}
use mathlib.Core.Bool.{false}
use Prim.Native.Nat.{ℕ}
use Rattle.text.specs.Bytes.{Bytes, ascii, same}
use Rattle.text.proofs.Cases.{not-both}
use Rattle.text.proofs.Same.{same_self}
use Rattle.convert.specs.Answers.{Answer, yes, card_to_json, json_to_card}
use Rattle.convert.specs.Worked.{lines, made, json, home_lines, worked-opened}
use Rattle.convert.proofs.Opened.{convert-opened}
use Rattle.home.specs.Demand2.{Demand2}
use Rattle.home.proofs.StandsOnce.{only-json}
use Rattle.home.proofs.OneCard.{only-card}

module _ (f : Bytes → ℕ → ℕ → Bytes → Answer) (g : ℕ → Bytes → Answer) (d : Demand2 f g) where
  -- what it gives for a card, with stem reg and number 1
  abbrev gives : Bytes → Answer
  gives s = f (ascii "reg") 1 65536 s

  other-json : (s i j : Bytes) → card_to_json (ascii "reg") 1 65536 s ≡ yes i → same j i ≡ false → gives s ≡ yes j → ⊥
  other-json s i j a n b = not-both (ap (λ (x : Bytes). same x i) (only-json f g d (ascii "reg") 1 65536 65536 s i j a b) ∙ same_self i) n

  pub keeps-a-note : gives (lines "NOTE:x") ≡ yes (made ",'vCardProps':[['note',{},'unknown','x']]") → ⊥
  unfolding convert-opened worked-opened
  keeps-a-note = other-json (lines "NOTE:x") (made ",'notes':{'NOTE-1':{'note':'x'}}") (made ",'vCardProps':[['note',{},'unknown','x']]") refl refl

  pub home-is-work : gives (lines "EMAIL;TYPE=home:m") ≡ yes (made ",'emails':{'EMAIL-1':{'address':'m','contexts':{'work':true}}}") → ⊥
  unfolding convert-opened worked-opened
  home-is-work =
      other-json (lines "EMAIL;TYPE=home:m") (made ",'emails':{'EMAIL-1':{'address':'m','contexts':{'private':true}}}") (made ",'emails':{'EMAIL-1':{'address':'m','contexts':{'work':true}}}") refl refl

  pub role-is-title : gives (lines "ROLE:r") ≡ yes (made ",'titles':{'TITLE-1':{'kind':'title','name':'r'}}") → ⊥
  unfolding convert-opened worked-opened
  role-is-title = other-json (lines "ROLE:r") (made ",'titles':{'TITLE-1':{'kind':'role','name':'r'}}") (made ",'titles':{'TITLE-1':{'kind':'title','name':'r'}}") refl refl

  -- ---- from JSON to a card: one that 01 accepts, and is not the JSON's

  other-card : (s b c i : Bytes) → json_to_card 32768 s ≡ yes b → card_to_json (ascii "reg") 1 65536 c ≡ yes i → same c b ≡ false → g 32768 s ≡ yes c → ⊥
  other-card s b c i a h n e = not-both (ap (λ (x : Bytes). same x b) (only-card f g d (ascii "reg") 1 32768 32768 65536 s b c i a e h) ∙ same_self b) n

  abbrev private : Bytes
  private = json ",'name':{'full':'a'},'emails':{'k':{'address':'m','contexts':{'private':true}}}"

  -- its card, and another one
  abbrev home : Bytes
  home = home_lines "FN:a^|EMAIL;PROP-ID=k;TYPE=home:m"

  abbrev work : Bytes
  work = home_lines "FN:a^|EMAIL;PROP-ID=k;TYPE=work:m"

  pub private-is-work : g 32768 private ≡ yes work → ⊥
  unfolding convert-opened worked-opened
  private-is-work = other-card private home work (json ",'name':{'full':'a'},'emails':{'k':{'address':'m','contexts':{'work':true}}}") refl refl refl
