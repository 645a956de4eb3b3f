-- The card buffer is that of 01's rule.
use Prim.Native.Nat.{ℕ, suc, ◌+◌, ◌≤◌, ◌<◌, min}
use mathlib.Core.Path.{◌≡◌, refl, sym, ap, ap₂, ◌∙◌}
use mathlib.Core.Bool.{Bool, true, false, ◌&&◌}
use mathlib.Core.List.{List, [], ◌∷◌, ◌++◌}
use mathlib.Core.Logic.{◌⊎◌, inl, inr}
use native.Mathlib.Omega.{arith}
use native.Mathlib.Numerals.{add-one}
use lib.ListN.{length, take, drop, set, length-set}
use lib.Dec.{ltb, leb, eqb, lit≤}
use lib.ListN.{take-append-drop}
use lib.Seq.{take-suc-set, drop-set-lt, take_all, append_snoc}
use borrow.Author.Tests.{lt-ltb, le-ltb, ltb-true, ltb-false, eqb-true}
use Rattle.text.specs.Choice.{pick, is_some}
use Rattle.text.specs.Bytes.{Bytes, ascii, empty, same, lowered, upper, uppered, between, keep}
use Rattle.text.proofs.Cases.{by_bool, or_left, not-both}
use Rattle.text.proofs.Same.{same_true}
use Rattle.text.proofs.Letters.{uppered-lowered}
use Rattle.line.specs.Physical.{without_cr, is_begin, is_end}
use Rattle.convert.specs.Answers.{is_stem_text}
use Rattle.stream.specs.Plain.{Reader, blank, begin, other, Tells, more, refuses, closes, fresh, tells, next, read_piece}
use Rattle.stream.specs.Plain as P
use Rattle.stream.specs.Calls.{Call, piece, end, stem_of, asked, Lent, made, final_buffer}
use Rattle.stream.specs.Buffer.{distance, stored, opens_next, fronting, fronted, placed, placed_all, buffer_by, plain_buffer}
use Rattle.stream.specs.Demand.{passed, calls_of, BufferRule}
use Rattle.stream_reader.specs.declared.State.{State}
use Rattle.stream_reader.specs.Machine.{cap, over, far, capital-lf, capital-cr-lf, fresh_of, kind_of, store_at, store_all, front_of, line_buffer, end_buffer, byte_next, byte_buffer, feed_from, feed_of, end_of}
use Rattle.stream_machine.specs.Turn.{Given, fed_by, called, unfit}
use Rattle.stream_proved.specs.Stream.{stream}
use Rattle.stream_proved.proofs.Words.{leb-min}
use Rattle.stream_proved.proofs.Held.{length-store}
use Rattle.stream_proved.proofs.Same.{Tied, tied-fresh, state, code, same_kind, same_next, same_stop, capital, capital-cr}
use Rattle.stream_proved.proofs.Calls.{goes, entry-is, Refused, Taken, one-call, fresh-state}
use Rattle.stream_proved.proofs.Cut.{count, read-used}
use Rattle.stream_proved.proofs.Kept.{length-byte}

-- ---- bytes stored one after the other are put in one go

store_in : (at : ℕ) (d : Bytes) (b : ℕ) → at < cap → store_at at d b ≡ set d at b
unfolding store_at
store_in at d b h = rw (lt-ltb at cap h)

stores-put : (bs : Bytes) (at : ℕ) (d : Bytes) → at + length bs ≤ cap → at + length bs ≤ length d
    → store_all at d bs ≡ take at d ++ (bs ++ drop (at + length bs) d)
unfolding store_all
stores-put [] at d p q =
    let z : at + 0 ≡ at = omega arith in
    rw z (sym (take-append-drop at d))
stores-put (b ∷ bs) at d p q =
    let e : at + 1 + length bs ≡ at + suc (length bs) = omega arith in
    let s : store_at at d b ≡ set d at b = store_in at d b (omega arith) in
    let f : drop (at + suc (length bs)) (set d at b) ≡ drop (at + suc (length bs)) d = drop-set-lt (at + suc (length bs)) d at b (omega arith) in
    let g : take (at + 1) (set d at b) ≡ take at d ++ b ∷ [] = rw (add-one at) (take-suc-set d at b (omega arith)) in
    rw s (stores-put bs (at + 1) (set d at b) (omega arith) (rw (length-set d at b) (omega arith)) ∙ rw (e, f, g) (append_snoc (take at d) b (bs ++ drop (at + suc (length bs)) d)))

front-put : (d l : Bytes) → length l ≤ cap → cap ≤ length d → store_all 0 d l ≡ fronting l d
unfolding fronting
front-put d l p q =
    let z : 0 + length l ≡ length l = omega arith in
    rw z at (stores-put l 0 d (omega arith) (omega arith)) ∙ rw (take_all (length d) l (omega arith))

-- ---- a BEGIN line in capitals

cr-split : (l : Bytes) → (l ≡ without_cr l) ⊎ (l ≡ without_cr l ++ 13 ∷ [])
unfolding without_cr
cr-split [] = inl refl
cr-split (c ∷ []) = by_bool (eqb c 13) (λ e. inr (rw (e, eqb-true c 13 e))) (λ e. inl (rw e))
cr-split (c ∷ (d ∷ s)) = go (cr-split (d ∷ s))
  where
    go : ((d ∷ s) ≡ without_cr (d ∷ s)) ⊎ ((d ∷ s) ≡ without_cr (d ∷ s) ++ 13 ∷ []) → ((c ∷ (d ∷ s)) ≡ (c ∷ without_cr (d ∷ s))) ⊎ ((c ∷ (d ∷ s)) ≡ (c ∷ without_cr (d ∷ s)) ++ 13 ∷ [])
    go (inl e) = inl (ap (λ (x : Bytes). c ∷ x) e)
    go (inr e) = inr (ap (λ (x : Bytes). c ∷ x) e)

uppered-append : (s t : Bytes) → uppered (s ++ t) ≡ uppered s ++ uppered t
unfolding uppered
uppered-append [] t = refl
uppered-append (c ∷ s) t = ap (λ (x : Bytes). upper c ∷ x) (uppered-append s t)

uppered-length : (s : Bytes) → length (uppered s) ≡ length s
unfolding uppered
uppered-length [] = refl
uppered-length (c ∷ s) = ap suc (uppered-length s)

begin-word : uppered (ascii "begin:vcard") ≡ capital
unfolding uppered upper between
begin-word = refl

cr-upper : uppered (13 ∷ []) ≡ 13 ∷ []
unfolding uppered upper between
cr-upper = refl

begin-upper : (w : Bytes) → is_begin w ≡ true → uppered w ≡ capital
unfolding is_begin
begin-upper w e = sym (uppered-lowered w) ∙ ap uppered (same_true (lowered w) (ascii "begin:vcard") e) ∙ begin-word

-- the line that is put to the front
front-line : (l : Bytes) → is_begin (without_cr l) ≡ true → pick (leb 12 (min (length l) far)) capital-cr-lf capital-lf ≡ uppered l ++ 10 ∷ []
front-line l e = rw (leb-min (length l) far 12 (lit≤ tt)) (go (cr-split l))
  where
    u : uppered (without_cr l) ≡ capital
    u = begin-upper (without_cr l) e

    go : (l ≡ without_cr l) ⊎ (l ≡ without_cr l ++ 13 ∷ []) → pick (leb 12 (length l)) capital-cr-lf capital-lf ≡ uppered l ++ 10 ∷ []
    go (inl q) =
        let v : uppered l ≡ capital = ap uppered q ∙ u in
        let n : length l ≡ 11 = sym (uppered-length l) ∙ ap length v in
        rw (n, v)
    go (inr q) =
        let v : uppered l ≡ capital-cr = ap uppered q ∙ uppered-append (without_cr l) (13 ∷ []) ∙ ap₂ ◌++◌ u cr-upper in
        let n : length l ≡ 12 = sym (uppered-length l) ∙ ap length v in
        rw (n, v)

capitals-short : (t : Bool) → length (pick t capital-cr-lf capital-lf) ≤ cap
capitals-short true = lit≤ tt
capitals-short false = lit≤ tt

front-is : (l d : Bytes) → is_begin (without_cr l) ≡ true → cap ≤ length d → front_of d (min (length l) far) ≡ fronting (uppered l ++ 10 ∷ []) d
unfolding front_of
front-is l d e room =
    front-put d (pick (leb 12 (min (length l) far)) capital-cr-lf capital-lf) (capitals-short (leb 12 (min (length l) far))) room
    ∙ ap (λ (x : Bytes). fronting x d) (front-line l e)

-- ---- a byte

stored_is : (n : ℕ) (d : Bytes) (b : ℕ) → store_at (min n over) d b ≡ stored n d b
unfolding store_at stored
stored_is n d b =
    by_bool (ltb n cap)
    (λ e. let m : min n over ≡ n = omega (arith, ltb-true n cap e) in rw (m, e))
    (λ e. rw (e, le-ltb (min n over) cap (omega (arith, ltb-false n cap e))))

kind-tests : (w : Bytes) (t : Bool) → eqb (code (pick (empty w) blank (pick (is_begin w) begin (pick t P.end other)))) 1 ≡ is_begin w
unfolding is_begin lowered same
kind-tests [] t = refl
kind-tests (c ∷ w) t = go (is_begin (c ∷ w)) t
  where
    go : (u v : Bool) → eqb (code (pick u begin (pick v P.end other))) 1 ≡ u
    go true v = refl
    go false true = refl
    go false false = refl

begin-kind : (r : Reader) → eqb (kind_of (state r)) 1 ≡ is_begin (without_cr r.begun)
unfolding P.kind_of
begin-kind r = rw (same_kind r) (kind-tests (without_cr r.begun) (is_end (without_cr r.begun)))

stored-length : (n : ℕ) (d : Bytes) (b : ℕ) → length (stored n d b) ≡ length d
stored-length n d b = sym (ap length (stored_is n d b)) ∙ length-store (min n over) d b

and_second : (a b : Bool) → (a && b) ≡ true → b ≡ true
and_second true b e = e
and_second false b e = not-both refl (sym e)

line-placed : (r : Reader) (d : Bytes) → cap ≤ length d
    → line_buffer (state r) d (kind_of (state r)) ≡ pick (opens_next r) (fronted r (stored (distance r) d 10)) (stored (distance r) d 10)
unfolding line_buffer
line-placed r d room =
    rw (begin-kind r, stored_is (distance r) d 10)
    (by_bool (opens_next r) (λ e. rw e (front-is r.begun (stored (distance r) d 10) (and_second (is_some r.card) _ e) (rw (stored-length (distance r) d 10) room))) (λ e. rw e))

byte-placed : (r : Reader) (d : Bytes) (b : ℕ) → cap ≤ length d → byte_buffer (state r) d b ≡ placed r d b
unfolding byte_buffer placed
byte-placed r d b room =
    by_bool (eqb b 10) (λ e. rw (e, eqb-true b 10 e) (line-placed r d room)) (λ e. rw e (stored_is (distance r) d b))

end-placed : (r : Reader) (d : Bytes) → cap ≤ length d → end_buffer (state r) d (kind_of (state r)) ≡ pick (opens_next r) (fronted r d) d
unfolding end_buffer
end-placed r d room =
    rw (begin-kind r) (by_bool (opens_next r) (λ e. rw e (front-is r.begun d (and_second (is_some r.card) _ e) room)) (λ e. rw e))

-- ---- a call

feed-placed : (t bs : Bytes) (r : Reader) (d : Bytes) (n : ℕ) → cap ≤ length d → (feed_from (state r) d n bs).1 ≡ placed_all r d (take (count t r bs) bs)
unfolding feed_from count placed_all
feed-placed t [] r d n h = refl
feed-placed t (b ∷ bs) r d n h = go (tells t r b) refl (rw (same_next r b) (feed-placed t bs (next r b) (byte_buffer (state r) d b) (n + 1) (rw (length-byte (state r) d b) h)))
  where
    p : byte_buffer (state r) d b ≡ placed r d b
    p = byte-placed r d b h

    go : (w : Tells) → tells t r b ≡ w → (feed_from (byte_next (state r) b) (byte_buffer (state r) d b) (n + 1) bs).1 ≡ placed_all (next r b) (byte_buffer (state r) d b) (take (count t (next r b) bs) bs)
        → (feed_from (state r) d n (b ∷ bs)).1 ≡ placed_all r d (take (count t r (b ∷ bs)) (b ∷ bs))
    go more e ih = rw (same_stop t r b, e) (ih ∙ ap (λ (x : Bytes). placed_all (next r b) x (take (count t (next r b) bs) bs)) p)
    go (refuses m) e ih = rw (same_stop t r b, e) p
    go (closes w) e ih = rw (same_stop t r b, e) p

pub fed-placed : (c : Call) (r : Reader) (d : Bytes) → cap ≤ length d → (fed_by c (state r) d).1 ≡ buffer_by c r d
unfolding feed_of end_of read_piece
fed-placed (piece t bs) r d h =
    let n : (P.read_from t r 0 bs).consumed ≡ count t r bs = read-used t bs r 0 ∙ omega arith in
    rw n (feed-placed t bs r d 0 h)
fed-placed (end t) r d h = end-placed r d h

-- a call that passes leaves the buffer of the rule
pub taken-buffer : (c : Call) (r : Reader) (d out : Bytes) → goes c (state r) d out ≡ true
    → (called c (state r) d out).buffer ≡ buffer_by c r d
unfolding called unfit
taken-buffer c r d out p =
    let q = sym (entry-is c (state r) d out) ∙ p in
    by_bool (unfit (state r) (length d) (length out)) (λ e. not-both refl (sym (rw e at q)))
    (λ e. by_bool (is_stem_text (stem_of c)) (λ st. rw (e, st) (fed-placed c r d (ltb-false (length d) cap (or_left (ltb (length d) cap) _ e)))) (λ st. not-both refl (sym (rw (e, st) at q))))

-- ---- lists of calls, with what is known of the plain reader after each

buffer-run : (ls : List Lent) (r : Reader) (s : State) (d : Bytes) → s ≡ state r → (cap ≤ length d → Tied r d)
    → final_buffer stream s d ls ≡ plain_buffer r d (calls_of (passed (made stream s d ls)))
unfolding final_buffer plain_buffer made passed keep
buffer-run [] r s d e h = refl
buffer-run (l ∷ ls) r s d e h = rw e (go (one-call l.call r d l.output h) (λ q t b f k. buffer-run ls q t b f k))
  where
    g : Given
    g = called l.call (state r) d l.output

    go : Refused (goes l.call (state r) d l.output) d (state r) g ⊎ Taken (goes l.call (state r) d l.output) g (asked l.call r)
        → ((q : Reader) (t : State) (b : Bytes) → t ≡ state q → (cap ≤ length b → Tied q b) → final_buffer stream t b ls ≡ plain_buffer q b (calls_of (passed (made stream t b ls))))
        → final_buffer stream (state r) d (l ∷ ls) ≡ plain_buffer r d (calls_of (passed (made stream (state r) d (l ∷ ls))))
    go (inl x) later = rw x.stops (later r g.state g.buffer x.state (rw x.buffer h) ∙ ap (λ (b : Bytes). plain_buffer r b (calls_of (passed (made stream g.state g.buffer ls)))) x.buffer)
    go (inr x) later =
        rw x.goes (later (asked l.call r).then g.state g.buffer x.then x.tied
        ∙ ap (λ (b : Bytes). plain_buffer (asked l.call r).then b (calls_of (passed (made stream g.state g.buffer ls)))) (taken-buffer l.call r d l.output x.goes))

pub buffer-rule : BufferRule stream
buffer-rule d ls = buffer-run ls fresh fresh_of d fresh-state (tied-fresh d)
