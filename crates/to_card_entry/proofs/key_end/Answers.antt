use borrow.Author.Rules.{rules}
use native.Mathlib.Omega.{arith}
use native.Mathlib.Nat.{le_refl}
use mathlib.Core.Path.{◌≡◌, sym, ap, subst, ◌∙◌}
use mathlib.Core.Bool.{true, false}
use Prim.Native.Nat.{ℕ, ◌+◌, ◌-◌}
use lib.ListN.{get_or, length}
use Rattle.line.specs.Class.{is_key}
use Rattle.json_index.proofs.Together.{byte-same}
use Rattle.json_strings.specs.Decoded.{decoded_at}
use Rattle.to_card_entry.specs.Rows.{key_of, key_from}
use Rattle.to_card_entry.proofs.Keys.{key_here, key-byte, no-key-end}
use Rattle.to_card_entry.proofs.key_end.Goals as goal

pub loop-i-init : goal.loop-i-init
loop-i-init c = (search rules, search rules, key_here c.args.s.now c.args.at)

pub returns-then-not-is_key : goal.returns-then-not-is_key
returns-then-not-is_key c =
    let s = c.args.s.now in
    let loop = c.loop-i in
    let stop : is_key (get_or s loop.i 0) ≡ false = sym c.is_key.ensures ∙ c.if-not-is_key.true in
    record { lower_bound = (loop.invariant.0, loop.invariant.1); at_value = loop.invariant.2; result_value = ap is_key (sym (byte-same s loop.i c.loop-i-test.true)) ∙ stop }

pub loop-i-preserved : goal.loop-i-preserved
loop-i-preserved c =
    let s = c.args.s.now in
    let at = c.args.at in
    let loop = c.loop-i in
    let i = loop.i in
    let l = c.loop-i-test.true in
    let on : is_key (get_or s i 0) ≡ true = sym c.is_key.ensures ∙ c.if-not-is_key.false in
    let next : i - at + 1 ≡ i + 1 - at = omega (arith, loop.invariant.0) in (
      omega (arith, loop.invariant.0),
      omega (arith, l),
      loop.invariant.2 ∙ key-byte s i (get_or s i 0) (i - at) (byte-same s i l) on ∙ ap (λ (k : ℕ). key_from k (decoded_at s (i + 1))) next,
    )

pub returns : goal.returns
returns c =
    let s = c.args.s.now in
    let loop = c.loop-i in
    let all : loop.i ≡ length s = omega (arith, loop.invariant.1, c.loop-i-test.false) in record {
      lower_bound = (omega (arith, all, loop.invariant.0), le_refl _);
      at_value = subst (λ (i : ℕ). key_of (decoded_at s c.args.at) ≡ key_from (i - c.args.at) (decoded_at s i)) all loop.invariant.2;
      result_value = no-key-end s (length s) (le_refl _);
    }
