-- A string that is read and spelled anew: its runs of bytes that stand for themselves.
use mathlib.Core.Path.{◌≡◌, refl, sym, ap, subst, ◌∙◌}
use mathlib.Core.Bool.{true, false}
use mathlib.Core.List.{[], ◌∷◌, ◌++◌}
use mathlib.Core.Option.{some}
use Prim.Native.Nat.{ℕ, zero, suc, ◌+◌, ◌-◌, ◌≤◌, ◌<◌}
use native.Mathlib.Omega.{arith}
use lib.ListN.{length, drop, get_or, length-drop}
use lib.Seq.{drop-cons}
use lib.Dec.{eqb}
use borrow.Author.Tests.{eqb-true}
use borrow.Rule.Slice.PartMut.{mid_of, put_mid}
use Rattle.text.specs.Bytes.{Bytes}
use Rattle.text.specs.Places.{byte_at}
use Rattle.text.specs.Reader.{taken}
use Rattle.text.proofs.Cases.{by_bool}
use Rattle.output.specs.Put.{Wrote, full}
use Rattle.std.specs.Prelude.{Ok, Err}
use Rattle.output.specs.Put.{Puts, Rest}
use Rattle.output.proofs.Laws.{split, said-bytes}
use Rattle.output.proofs.Rests.{rest-as, rest-next, rest-stop}
use Rattle.json_text.specs.Compact.{spelled_all}
use Rattle.json_strings.specs.declared.Byte.TheVariants.{One}
use Rattle.json_strings.specs.Decoded.{left, byte_of}
use Rattle.json_strings.proofs.Laws.{bare-at, left-raw}
use Rattle.json_strings.proofs.NextByte.{one_left}
use Rattle.json_write.specs.Pieces.{bare, run_at}
use Rattle.json_write.proofs.Spelling.{bare-one, bare-low, bare-no-quote, bare-no-backslash, bare-on, bare-stops, bare-out, bare-within}

pub run_none : (s : Bytes) (at h : ℕ) → eqb h 0 ≡ false → run_at s at h ≡ []
unfolding run_at
run_none s at h e = rw e

pub run-bare : (s : Bytes) (at h : ℕ) → eqb h 0 ≡ true → run_at s at h ≡ taken bare (drop at s)
unfolding run_at
run-bare s at h e = rw e

not-bare : bare 92 ≡ false
unfolding bare
not-bare = refl

-- none starts at an escape
pub run-escape : (s : Bytes) (at h : ℕ) → eqb h 0 ≡ true → at < length s → get_or s at 0 ≡ 92 → run_at s at h ≡ []
run-escape s at h e l w = run-bare s at h e ∙ bare-stops s at l (ap bare w ∙ not-bare)

-- a run is written as it stands
spelled-run : (x t : Bytes) → spelled_all (taken bare x ++ t) ≡ taken bare x ++ spelled_all t
unfolding spelled_all taken
spelled-run [] t = refl
spelled-run (c ∷ x) t =
    by_bool (bare c) (λ e. rw e (ap (λ (y : Bytes). y ++ spelled_all (taken bare x ++ t)) (sym (bare-one c e)) ∙ ap (λ (y : Bytes). c ∷ y) (spelled-run x t))) (λ e. rw e)

spelled_at : (s : Bytes) (i h : ℕ) (t : Bytes) → spelled_all (run_at s i h ++ t) ≡ run_at s i h ++ spelled_all t
spelled_at s i h t =
    by_bool (eqb h 0)
    (λ e. rw (run-bare s i h e) (spelled-run (drop i s) t))
    (λ e. rw (run_none s i h e))

-- and lies within the text
run-within : (s : Bytes) (i h : ℕ) → i ≤ length s → i + length (run_at s i h) ≤ length s
run-within s i h l =
    by_bool (eqb h 0)
    (λ e. rw (run-bare s i h e) (omega (arith, bare-within (drop i s), length-drop i s)))
    (λ e. rw (run_none s i h e) (omega arith))

-- of the string, read up to i with what h holds, more is to come, which is still to be written
pub record Ahead (s : Bytes) (i h : ℕ) (room whole : Bytes) (k : ℕ) (out : Bytes) : Type 0 where
  pub within : i ≤ length s
  pub more : Bytes
  pub is : left s i h ≡ some more
  pub rest : Rest room whole (spelled_all more) k out

module _ (s : Bytes) where
  -- after these bytes more is to come
  abbrev Ran : ℕ → ℕ → Bytes → Bytes → Type 0
  Ran i h todo run = (more : Bytes) × (left s (i + length run) h ≡ some more) × (todo ≡ run ++ more)

  ran-none : (i h : ℕ) {todo : Bytes} → left s i h ≡ some todo → Ran i h todo []
  ran-none i h {todo} f = let z : i + 0 ≡ i = omega arith in (todo, ap (λ (p : ℕ). left s p h) z ∙ f, refl)

  module _ (small : (i : ℕ) → get_or s i 0 < 256) where
    here : (i : ℕ) → i < length s → get_or s i 0 ≡ byte_at s i
    here i l = cc (drop-cons s i 0 l, drop-cons s i 256 l)

    -- the first byte of a run
    first-left : (i : ℕ) → i < length s → bare (get_or s i 0) ≡ true → left s i 0 ≡ byte_of s (One (get_or s i 0) (i + 1) 0)
    first-left i l q =
        let b = get_or s i 0 in
        left-raw s i b (i + 1) (bare-at s i b (here i l) (bare-no-quote b q) (bare-no-backslash b q) (bare-low b q) (small i))

    ran-one : (i : ℕ) {todo : Bytes} (run : Bytes) → i < length s → bare (get_or s i 0) ≡ true → left s i 0 ≡ some todo
        → ((t : Bytes) → left s (i + 1) 0 ≡ some t → Ran (i + 1) 0 t run) → Ran i 0 todo (get_or s i 0 ∷ run)
    ran-one i {todo} run l q f on =
        let o = one_left s (first-left i l q) todo f refl in
        let t = on o.0 o.1 in
        let z : i + length (get_or s i 0 ∷ run) ≡ i + 1 + length run = omega arith in
        (t.0, ap (λ (p : ℕ). left s p 0) z ∙ t.1, o.2 ∙ ap (λ (y : Bytes). get_or s i 0 ∷ y) t.2)

    ran : (n i : ℕ) (todo : Bytes) → length s ≤ i + n → left s i 0 ≡ some todo → Ran i 0 todo (taken bare (drop i s))
    ran zero i todo l f = subst (Ran i 0 todo) (sym (bare-out s i (omega arith))) (ran-none i 0 f)
    ran (suc n) i todo l f =
        split (length s) i
        (λ h. subst (Ran i 0 todo) (sym (bare-out s i h)) (ran-none i 0 f))
        (λ h. by_bool (bare (get_or s i 0))
        (λ q. subst (Ran i 0 todo) (sym (bare-on s i h q)) (ran-one i (taken bare (drop (i + 1) s)) h q f (λ t g. ran n (i + 1) t (omega arith) g)))
        (λ q. subst (Ran i 0 todo) (sym (bare-stops s i h q)) (ran-none i 0 f)))

    ran-at : (i h : ℕ) (todo : Bytes) → left s i h ≡ some todo → Ran i h todo (run_at s i h)
    ran-at i h todo f =
        by_bool (eqb h 0)
        (λ e. let z : h ≡ 0 = eqb-true h 0 e in
        subst (Ran i h todo) (sym (run-bare s i h e)) (subst (λ k. Ran i k todo (taken bare (drop i s))) (sym z) (ran (length s) i todo (omega arith) (ap (left s i) (sym z) ∙ f))))
        (λ e. subst (Ran i h todo) (sym (run_none s i h e)) (ran-none i h f))

    -- a writer that was lent the rest wrote a run, or had no room
    module _ {i h : ℕ} {room whole out last : Bytes} {k : ℕ} {r : Wrote} (a : Ahead s i h room whole k out) (p : Puts (mid_of k (length out - k) out) (run_at s i h) r last) where
      parted : Rest room whole (run_at s i h ++ spelled_all (ran-at i h a.more a.is).0) k out
      parted = let t = ran-at i h a.more a.is in rest-as (ap spelled_all t.2 ∙ spelled_at s i h t.0) a.rest

      pub run-next : {m : ℕ} → r ≡ Ok m → Ahead s (i + m) h room whole (k + m) (put_mid k (length out - k) out last)
      run-next {m} e =
          let t = ran-at i h a.more a.is in
          let n : m ≡ length (run_at s i h) = (said-bytes _ _ _ (sym p.said ∙ e)).0 in
          record {
            within = omega (arith, n, run-within s i h a.within);
            more = t.0;
            is = ap (λ (x : ℕ). left s (i + x) h) n ∙ t.1;
            rest = rest-next _ parted p e;
          }

      pub run-stop : r ≡ (Err full) → Puts room whole (Err full) (put_mid k (length out - k) out last)
      run-stop e = rest-stop _ parted p e

-- `Ahead` with what it is of, for a helper's signature: it computes
pub record Place : Type 0 where
  pub s : Bytes
  pub i : ℕ
  pub h : ℕ
  pub room : Bytes
  pub whole : Bytes
  pub k : ℕ
  pub out : Bytes
  pub ahead : Ahead s i h room whole k out

abbrev pub place : {s room whole out : Bytes} {i h k : ℕ} → Ahead s i h room whole k out → Place
place {s} {room} {whole} {out} {i} {h} {k} a = record { s = s; i = i; h = h; room = room; whole = whole; k = k; out = out; ahead = a }
