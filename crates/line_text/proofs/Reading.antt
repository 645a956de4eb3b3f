-- Reading TEXT: one character, and one turn of the loops over characters.
use mathlib.Core.Path.{◌≡◌, refl, sym, ap, ◌∙◌}
use mathlib.Core.Bool.{true, false}
use mathlib.Core.List.{[], ◌∷◌}
use mathlib.Core.Option.{Option, none, some}
use Prim.Native.Nat.{ℕ, ◌+◌, ◌≤◌, ◌<◌}
use native.Mathlib.Omega.{arith}
use native.Mathlib.Numerals.{add-one}
use lib.ListN.{length, drop, get_or, drop_of_length-le}
use lib.Seq.{drop-cons}
use borrow.Author.Tests.{ne_eqb}
use Rattle.text.specs.Choice.{is_some}
use Rattle.text.specs.Bytes.{Bytes}
use Rattle.line.specs.Text.{push, escaped, text_from, read_text}
use Rattle.line_text.specs.declared.Char.{Char}
use Rattle.line_text.specs.declared.Char.TheVariants.{Byte, Bad, End}
use Rattle.line_text.specs.Read.{char_of, Onward, OneChar, plain_text}

-- ---- after a backslash

at-escape : (s : Bytes) (at : ℕ) → at < length s → text_from true (drop at s) ≡ escaped (get_or s at 0) (read_text (drop (at + 1) s))
unfolding text_from read_text
at-escape s at h = rw (drop-cons s at 0, add-one)

pub escape-is : (s : Bytes) (at v : ℕ) → at < length s → ((r : Option Bytes) → escaped (get_or s at 0) r ≡ push v r)
    → OneChar (text_from true (drop at s)) s at (Byte v (at + 1))
escape-is s at v h e = record { is = at-escape s at h ∙ e (read_text (drop (at + 1) s)); onward = (omega arith, omega arith) }

pub escape-bad : (s : Bytes) (at : ℕ) → at < length s → ((r : Option Bytes) → escaped (get_or s at 0) r ≡ none)
    → OneChar (text_from true (drop at s)) s at Bad
escape-bad s at h e = record { is = at-escape s at h ∙ e (read_text (drop (at + 1) s)); onward = tt }

pub escape-missing : (s : Bytes) (at : ℕ) → length s ≤ at → OneChar (text_from true (drop at s)) s at Bad
unfolding text_from
escape-missing s at h = record { is = rw (drop_of_length-le s h); onward = tt }

pub no-escape : (c : ℕ) → (c ≡ 92 → ⊥) → (c ≡ 44 → ⊥) → (c ≡ 59 → ⊥) → (c ≡ 110 → ⊥) → (c ≡ 78 → ⊥) → (r : Option Bytes) → escaped c r ≡ none
unfolding escaped
no-escape c a b d e f r = rw (ne_eqb c 92 a, ne_eqb c 44 b, ne_eqb c 59 d, ne_eqb c 110 e, ne_eqb c 78 f)

-- ---- anywhere

pub at-end : (s : Bytes) (at : ℕ) → length s ≤ at → OneChar (read_text (drop at s)) s at End
unfolding text_from read_text
at-end s at h = record { is = rw (drop_of_length-le s h); onward = tt }

pub at_plain : (s : Bytes) (at : ℕ) → at < length s → (get_or s at 0 ≡ 92 → ⊥) → OneChar (read_text (drop at s)) s at (Byte (get_or s at 0) (at + 1))
unfolding text_from read_text
at_plain s at h n = record { is = rw (drop-cons s at 0, ne_eqb (get_or s at 0) 92 n, add-one); onward = (omega arith, omega arith) }

earlier : (at n : ℕ) (r : Char) → Onward (at + 1) n r → Onward at n r
earlier at n (Byte c e) h = (omega arith, h.1)
earlier at n Bad h = tt
earlier at n End h = tt

backslash : (s : Bytes) (at : ℕ) → at < length s → get_or s at 0 ≡ 92 → read_text (drop at s) ≡ text_from true (drop (at + 1) s)
unfolding text_from read_text
backslash s at h e = rw (drop-cons s at 0, e, add-one)

pub at-backslash : (s : Bytes) (at : ℕ) (r : Char) → at < length s → get_or s at 0 ≡ 92
    → OneChar (text_from true (drop (at + 1) s)) s (at + 1) r → OneChar (read_text (drop at s)) s at r
at-backslash s at r h e o = record { is = backslash s at h e ∙ o.is; onward = earlier at (length s) r o.onward }

-- ---- what one character says of the rest

push-some : (c : ℕ) (r : Option Bytes) → is_some (push c r) ≡ is_some r
push-some c none = refl
push-some c (some t) = refl

-- what a reading stands for, where it is good
pushed : (s t : Bytes) (c : ℕ) (r : Option Bytes) → read_text t ≡ r → read_text s ≡ push c r → is_some r ≡ true → plain_text s ≡ c ∷ plain_text t
unfolding plain_text
pushed s t c none e f g = absurd (let z : ◌≡◌ {A = ℕ} 0 1 = cc in omega arith)
pushed s t c (some u) e f g = rw (e, f)

unread : (s : Bytes) (r : Option Bytes) → read_text s ≡ r → is_some r ≡ false → plain_text s ≡ []
unfolding plain_text
unread s none e g = rw e
unread s (some t) e g = absurd (let z : ◌≡◌ {A = ℕ} 0 1 = cc in omega arith)

module _ (s : Bytes) (at : ℕ) (r : Char) (o : OneChar (read_text (drop at s)) s at r) where
  pub onward : (c e : ℕ) → r ≡ Byte c e → (at < e) × (e ≤ length s)
  onward c e is = rw is at o.onward

  one_byte : (c e : ℕ) → r ≡ Byte c e → read_text (drop at s) ≡ push c (read_text (drop e s))
  one_byte c e is = o.is ∙ ap (char_of s) is

  pub byte-good : (c e : ℕ) → r ≡ Byte c e → is_some (read_text (drop at s)) ≡ is_some (read_text (drop e s))
  byte-good c e is = ap is_some (one_byte c e is) ∙ push-some c (read_text (drop e s))

  pub bad-good : r ≡ Bad → is_some (read_text (drop at s)) ≡ false
  bad-good is = ap is_some (o.is ∙ ap (char_of s) is)

  pub end-good : r ≡ End → is_some (read_text (drop at s)) ≡ true
  end-good is = ap is_some (o.is ∙ ap (char_of s) is)

  pub byte-plain : (c e : ℕ) → r ≡ Byte c e → is_some (read_text (drop at s)) ≡ true → plain_text (drop at s) ≡ c ∷ plain_text (drop e s)
  byte-plain c e is g = pushed (drop at s) (drop e s) c (read_text (drop e s)) refl (one_byte c e is) (sym (byte-good c e is) ∙ g)

  pub end-plain : r ≡ End → plain_text (drop at s) ≡ []
  unfolding plain_text
  end-plain is = rw (o.is ∙ ap (char_of s) is)

pub bad-plain : (s : Bytes) → is_some (read_text s) ≡ false → plain_text s ≡ []
bad-plain s e = unread s (read_text s) refl e
