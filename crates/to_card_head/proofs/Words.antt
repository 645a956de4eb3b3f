-- Lower-case words, byte by byte.
use mathlib.Core.Path.{◌≡◌, refl, sym, ap, ◌∙◌}
use mathlib.Core.Bool.{Bool, true, false}
use mathlib.Core.List.{[], ◌∷◌}
use mathlib.Core.Option.{Option, none, some}
use Prim.Native.Nat.{ℕ, ◌≤◌, ◌<◌}
use native.Mathlib.Omega.{arith}
use lib.Dec.{eqb}
use borrow.Author.Tests.{ne_eqb}
use Rattle.text.specs.Bytes.{Bytes, all}
use Rattle.text.proofs.Cases.{in_between, below, beyond}
use Rattle.line.specs.Class.{is_lower_name}
use Rattle.json_text.specs.Strings.{before}
use Rattle.json_strings.specs.declared.Byte.{Byte}
use Rattle.json_strings.specs.declared.Byte.TheVariants.{One, End, Alone}
use Rattle.json_strings.specs.Decoded.{left, byte_of}
use Rattle.json_strings.proofs.Laws.{left-none, decoded-past}
use Rattle.json_strings.proofs.NextByte.{not-alone, none_left, one_left}
use Rattle.text.proofs.Choices.{none-some}
use Rattle.convert.specs.Value.{filled}
use Rattle.to_card_head.specs.Head.{word_of, word_from, TellsFilled}

module _ (c : ℕ) where
  pub low-high : 122 < c → false ≡ is_lower_name c
  unfolding is_lower_name
  low-high h = rw (beyond 97 122 c (omega arith), beyond 48 57 c (omega arith), ne_eqb c 45 (λ z. omega arith))

  pub low-letter : 97 ≤ c → c ≤ 122 → true ≡ is_lower_name c
  unfolding is_lower_name
  low-letter h k = rw (in_between 97 122 c h k)

  pub low-mid : 57 < c → c < 97 → false ≡ is_lower_name c
  unfolding is_lower_name
  low-mid h k = rw (below 97 122 c (omega arith), beyond 48 57 c (omega arith), ne_eqb c 45 (λ z. omega arith))

  pub low_digit : 48 ≤ c → c ≤ 57 → true ≡ is_lower_name c
  unfolding is_lower_name
  low_digit h k = rw (below 97 122 c (omega arith), in_between 48 57 c h k)

  pub low-dash : c < 48 → eqb c 45 ≡ is_lower_name c
  unfolding is_lower_name
  low-dash h = rw (below 97 122 c (omega arith), below 48 57 c (omega arith))

-- ---- whole words

pub word_first : (o p : Option Bytes) → p ≡ o → word_of o ≡ word_from false p
word_first o p e = go o ∙ ap (word_from false) (sym e)
  where
    go : (o : Option Bytes) → word_of o ≡ word_from false o
    go none = refl
    go (some x) = refl

pub word_end : (b : Bool) → b ≡ word_from b (some [])
unfolding all
word_end true = refl
word_end false = refl

pub word-bad : (k : Bool) (b : ℕ) (o : Option Bytes) → is_lower_name b ≡ false → false ≡ word_from k (before (b ∷ []) o)
unfolding all
word-bad true b none e = refl
word-bad false b none e = refl
word-bad true b (some x) e = rw e
word-bad false b (some x) e = rw e

pub word_on : (k : Bool) (b : ℕ) (o : Option Bytes) → is_lower_name b ≡ true → word_from k (before (b ∷ []) o) ≡ word_from true o
unfolding all
word_on true b none e = refl
word_on false b none e = refl
word_on true b (some x) e = rw e
word_on false b (some x) e = rw e

-- ---- whether a string has any byte

pub filled-past : (s : Bytes) (at : ℕ) → Prim.Native.Nat.◌<◌ (lib.ListN.length s) at → TellsFilled s at false
filled-past s at h x e = none-some (sym (decoded-past s at h) ∙ e)

module _ (s : Bytes) (at : ℕ) (r : Byte) (q : left s at 0 ≡ byte_of s r) where
  pub filled-alone : r ≡ Alone → TellsFilled s at false
  filled-alone e x w = absurd (not-alone s q x (left-none s at ∙ w) e)

  pub filled-end : r ≡ End → TellsFilled s at false
  filled-end e x w = ap filled (sym (none_left s q x (left-none s at ∙ w) e))

  pub filled-one : {b j g : ℕ} → r ≡ One b j g → TellsFilled s at true
  filled-one e x w = ap filled (sym (one_left s q x (left-none s at ∙ w) e).2)
