-- The groups of names, and their rows one group after the other.
use mathlib.Core.Path.{◌≡◌, refl, sym, ap, ap₂, subst, ◌∙◌}
use mathlib.Core.Logic.{⊎_elim}
use mathlib.Core.Bool.{Bool, false}
use mathlib.Core.List.{List, [], ◌++◌, map}
use mathlib.Core.Option
use mathlib.Core.Option.{Option, none, some}
use Prim.Native.Nat.{ℕ, suc, ◌+◌, ◌-◌, ◌≤◌, ◌<◌}
use native.Mathlib.Nat.{eq-or-lt_of_le}
use native.Mathlib.Omega.{arith}
use lib.ListN.{length, get_or, take, drop, set, length-take, length-drop, take-append-drop}
use lib.Seq.{length-take-le, take_all, take-append-le, drop-append-le, drop-append_seam, get_or-set_same, get_or-set_other}
use borrow.Author.Tests.{eq-eqb, ne_eqb}
use borrow.Rule.Slice.PartMut.{mid_of, post_of, put_mid, same_len_mid}
use Rattle.text.specs.Choice.{with-some}
use Rattle.text.specs.Bytes.{Bytes, among}
use Rattle.text.proofs.Choices.{some_same, map-inv}
use Rattle.text.proofs.Same.{among_none}
use Rattle.json_text.specs.Tree.{Json, Member, name_of, as_object}
use Rattle.json_prints.specs.Prints.{Names, SoughtKey}
use Rattle.json_prints.proofs.Prints.{no_names}
use Rattle.json_walk.specs.Walk.{json_at}
use Rattle.json_has.specs.Has.{named, has_name, HasMember}
use Rattle.std.specs.Prelude.{Some}
use Rattle.to_card_kept_names.specs.Groups.{Noted, names_of, slot_names, group_names, HasName, NotedIn, NotesAll, NotesNames, NotesGroup, rows, Group, NameIndex, Indexes}

-- ---- what a group is

-- it is the value at a place, with these names
abbrev Stands : ℕ → Bytes → ℕ → List Bytes → Type 0
Stands d s at ns = (v : Json) × (json_at d s at ≡ some v) × (names_of v ≡ ns)

module _ (s : Bytes) (slots : List ℕ) (i : ℕ) where
  last-stands : i ≡ 7 → (ns : List Bytes) → group_names s slots i ≡ some ns → Stands 16 s 0 ns
  unfolding group_names
  last-stands e ns q = map-inv names_of (json_at 16 s 0) (rw (eq-eqb i 7 e) at q)

  module _ (n : i ≡ 7 → ⊥) where
    slot_of : (ns : List Bytes) → group_names s slots i ≡ some ns → slot_names s (get_or slots (i + 5) 0) ≡ some ns
    unfolding group_names
    slot_of ns q = rw (ne_eqb i 7 n) at q

    empty-names : get_or slots (i + 5) 0 ≡ 0 → (ns : List Bytes) → group_names s slots i ≡ some ns → [] ≡ ns
    empty-names z ns q = some_same (rw (eq-eqb (get_or slots (i + 5) 0) 0 z) at (slot_of ns q))

    slot-stands : (get_or slots (i + 5) 0 ≡ 0 → ⊥) → (ns : List Bytes) → group_names s slots i ≡ some ns → Stands 15 s (get_or slots (i + 5) 0) ns
    slot-stands z ns q = map-inv names_of (json_at 15 s (get_or slots (i + 5) 0)) (rw (ne_eqb (get_or slots (i + 5) 0) 0 z) at (slot_of ns q))

-- ---- noted

notes-stand : (d : ℕ) (s : Bytes) (at : ℕ) (r : Noted) (ps fs : List ℕ) → NotesNames d s at r ps fs → (ns : List Bytes) → Stands (suc d) s at ns → NotesAll s ns r ps fs
notes-stand d s at r ps fs h ns v = subst (λ (x : List Bytes). NotesAll s x r ps fs) v.2 (h v.0 v.1)

module _ (s : Bytes) (slots : List ℕ) (i : ℕ) (r : Noted) (ps fs : List ℕ) where
  pub notes-last : i ≡ 7 → NotesNames 15 s 0 r ps fs → NotesGroup s slots i r ps fs
  notes-last e h ns q = notes-stand 15 s 0 r ps fs h ns (last-stands s slots i e ns q)

  module _ (n : i ≡ 7 → ⊥) where
    pub notes-empty : get_or slots (i + 5) 0 ≡ 0 → NotesGroup s slots i (Some 0) ps fs
    notes-empty z ns q = subst (Names s (take 0 ps) (take 0 fs)) (empty-names s slots i n z ns q) (no_names s ps fs)

    pub notes-slot : (get_or slots (i + 5) 0 ≡ 0 → ⊥) → NotesNames 14 s (get_or slots (i + 5) 0) r ps fs → NotesGroup s slots i r ps fs
    notes-slot z h ns q = notes-stand 14 s (get_or slots (i + 5) 0) r ps fs h ns (slot-stands s slots i n z ns q)

-- ---- asked

has-names : (n : Bytes) (o : Option (List Member)) → with-some o (named n) false ≡ among n (with-some o (map name_of) [])
has-names n none = sym (among_none n)
has-names n (some ms) = refl

pub has-among : (n : Bytes) (v : Json) → has_name n v ≡ among n (names_of v)
has-among n v = has-names n (as_object v)

has-stand : (d : ℕ) (s : Bytes) (at : ℕ) (key : Bytes) (r : Bool) → HasMember d s at key r → (ns : List Bytes) → Stands (suc d) s at ns → r ≡ among key ns
has-stand d s at key r h ns v = h v.0 v.1 ∙ has-among key v.0 ∙ ap (among key) v.2

module _ (s : Bytes) (slots : List ℕ) (i : ℕ) (key : Bytes) (r : Bool) where
  pub has_last : i ≡ 7 → HasMember 15 s 0 key r → HasName s slots i key r
  has_last e h ns q = has-stand 15 s 0 key r h ns (last-stands s slots i e ns q)

  module _ (n : i ≡ 7 → ⊥) where
    pub has-empty : get_or slots (i + 5) 0 ≡ 0 → HasName s slots i key false
    has-empty z ns q = sym (ap (among key) (sym (empty-names s slots i n z ns q)) ∙ among_none key)

    pub has-slot : (get_or slots (i + 5) 0 ≡ 0 → ⊥) → HasMember 14 s (get_or slots (i + 5) 0) key r → HasName s slots i key r
    has-slot z h ns q = has-stand 14 s (get_or slots (i + 5) 0) key r h ns (slot-stands s slots i n z ns q)

  pub has-noted : {places prints : List ℕ} {a e : ℕ} → Group s slots places prints i a e → SoughtKey s key (rows places a e) (rows prints a e) r → HasName s slots i key r
  has-noted g h ns q = h ns (g.names ns q)

-- ---- rows of one group after those of others

module _ (xs ys : List ℕ) (n : ℕ) (l : n ≤ length xs) where
  front : (zs : List ℕ) (a e : ℕ) → a ≤ e → e ≤ n → rows (take n xs ++ zs) a e ≡ take (e - a) (drop a (take n xs))
  front zs a e h m =
      let t : length (take n xs) ≡ n = length-take-le n xs l in
      let d : length (drop a (take n xs)) ≡ n - a = length-drop a (take n xs) ∙ ap (λ (k : ℕ). k - a) t in
      ap (take (e - a)) (drop-append-le a (take n xs) zs (omega (arith, t))) ∙ take-append-le (e - a) (drop a (take n xs)) zs (omega (arith, d))

  -- rows before those that were lent are as they were
  rows_before : (k a e : ℕ) → a ≤ e → e ≤ n → rows (put_mid n k xs ys) a e ≡ rows xs a e
  rows_before k a e h m =
      front (ys ++ post_of n k xs) a e h m ∙ sym (front (drop n xs) a e h m) ∙ ap (λ (zs : List ℕ). rows zs a e) (take-append-drop n xs)

  rows-lent : (k m : ℕ) → m ≤ length ys → rows (put_mid n k xs ys) n (n + m) ≡ take m ys
  rows-lent k m h =
      let t : length (take n xs) ≡ n = length-take-le n xs l in
      let z : n + m - n ≡ m = omega arith in
      ap₂ take z (ap (λ (j : ℕ). drop j (put_mid n k xs ys)) (sym t) ∙ drop-append_seam (take n xs) (ys ++ post_of n k xs)) ∙ take-append-le m ys (post_of n k xs) h

pub mids-even : (n : ℕ) (places prints : List ℕ) → length places ≡ length prints → length (mid_of n (length places - n) places) ≡ length (mid_of n (length prints - n) prints)
mids-even n places prints even = simp (length-take, length-drop) (omega (arith, even))

pub mid-long : (n : ℕ) (places : List ℕ) → n ≤ length places → length (mid_of n (length places - n) places) ≡ length places - n
mid-long n places h = simp (length-take, length-drop) (omega arith)

-- the groups before the i-th are noted in the rows before n
pub record Filled (s : Bytes) (slots places prints ends : List ℕ) (i n : ℕ) : Type 0 where
  pub next : get_or ends i 0 ≡ n
  pub groups : (j : ℕ) → j < i → Group s slots places prints j (get_or ends j 0) (get_or ends (j + 1) 0) × (get_or ends (j + 1) 0 ≤ n)

pub filled_none : (s : Bytes) (slots places prints ends : List ℕ) → length ends ≡ 9 → Filled s slots places prints (set ends 0 0) 0 0
filled_none s slots places prints ends l = record { next = get_or-set_same ends 0 0 0 (omega (arith, l)); groups = λ j h. absurd (omega (arith, h)) }

module _ (s : Bytes) (slots places prints ends : List ℕ) (i n : ℕ) (filled : Filled s slots places prints ends i n) (even : length places ≡ length prints) (in_rows : n ≤ length places) (wide : length ends ≡ 9) (few : i < 8) where
  module _ (k : ℕ) (ps fs : List ℕ) (long : length ps ≡ length (mid_of n (length places - n) places)) (longs : length fs ≡ length (mid_of n (length prints - n) prints))
      (notes : NotesGroup s slots i (Some k) ps fs) (fits : k ≤ length (mid_of n (length places - n) places)) where
    abbrev after : List ℕ
    after = put_mid n (length places - n) places ps

    abbrev afters : List ℕ
    afters = put_mid n (length prints - n) prints fs

    abbrev marked : List ℕ
    marked = set ends (i + 1) (n + k)

    after-long : length after ≡ length places
    after-long = same_len_mid n (length places - n) places ps long

    -- a group before stays as it is
    old-group : (j a e : ℕ) → Group s slots places prints j a e → e ≤ n → Group s slots after afters j a e
    old-group j a e g h = record {
      ordered = g.ordered;
      within = omega (arith, g.within, after-long);
      names = λ ns q.
          subst (λ (xs : List ℕ). Names s xs (rows afters a e) ns) (sym (rows_before places ps n in_rows (length places - n) a e g.ordered h))
          (subst (λ (xs : List ℕ). Names s (rows places a e) xs ns) (sym (rows_before prints fs n (omega (arith, even, in_rows)) (length prints - n) a e g.ordered h)) (g.names ns q));
    }

    new-group : Group s slots after afters i n (n + k)
    new-group = record {
      ordered = omega arith;
      within = omega (arith, after-long, fits, mid-long n places in_rows);
      names = λ ns q.
          subst (λ (xs : List ℕ). Names s xs (rows afters n (n + k)) ns) (sym (rows-lent places ps n in_rows (length places - n) k (omega (arith, fits, long))))
          (subst (λ (xs : List ℕ). Names s (take k ps) xs ns) (sym (rows-lent prints fs n (omega (arith, even, in_rows)) (length prints - n) k (omega (arith, fits, longs, mids-even n places prints even)))) (notes ns q));
    }

    mark-old : (j : ℕ) → j ≤ i → get_or marked j 0 ≡ get_or ends j 0
    mark-old j h = get_or-set_other ends (i + 1) j (n + k) 0 (λ z. omega (arith, z, h))

    mark-new : get_or marked (i + 1) 0 ≡ n + k
    mark-new = get_or-set_same ends (i + 1) (n + k) 0 (omega (arith, wide, few))

    group-as : (j a e a' e' : ℕ) → a ≡ a' → e ≡ e' → Group s slots after afters j a' e' → Group s slots after afters j a e
    group-as j a e a' e' p q g = subst (λ (x : ℕ). Group s slots after afters j x e) (sym p) (subst (Group s slots after afters j a') (sym q) g)

    pub filled_on : Filled s slots after afters marked (i + 1) (n + k)
    filled_on = record { next = mark-new; groups = λ j h. ⊎_elim (λ z. at_new j z) (at_old j) (eq-or-lt_of_le (omega (arith, h))) }
      where
        at_new : (j : ℕ) → j ≡ i → Group s slots after afters j (get_or marked j 0) (get_or marked (j + 1) 0) × (get_or marked (j + 1) 0 ≤ n + k)
        at_new j z =
            subst (λ (x : ℕ). Group s slots after afters x (get_or marked x 0) (get_or marked (x + 1) 0) × (get_or marked (x + 1) 0 ≤ n + k)) (sym z)
            (group-as i _ _ n (n + k) (mark-old i (omega arith) ∙ filled.next) mark-new new-group, omega (arith, mark-new))

        at_old : (j : ℕ) → j < i → Group s slots after afters j (get_or marked j 0) (get_or marked (j + 1) 0) × (get_or marked (j + 1) 0 ≤ n + k)
        at_old j h =
            let g = filled.groups j h in
            let e = mark-old (j + 1) (omega (arith, h)) in
            (group-as j _ _ _ _ (mark-old j (omega (arith, h))) e (old-group j _ _ g.0 g.1), omega (arith, e, g.1))

pub indexed : (s : Bytes) (slots places prints ends : List ℕ) (i n : ℕ) → Filled s slots places prints ends i n → length places ≡ length prints → length ends ≡ 9 → 8 ≤ i → Indexes s slots places prints (take 9 ends)
indexed s slots places prints ends i n f even wide h l =
    let whole : take 9 ends ≡ ends = take_all 9 ends (omega (arith, wide)) in
    subst (NameIndex s slots places prints) (sym whole) (record { even = even; wide = wide; groups = λ j m. (f.groups j (omega (arith, m, h))).0 })

pub index-there : (s : Bytes) (slots places prints ends : List ℕ) → Indexes s slots places prints ends → (length ends ≡ 0 → ⊥) → NameIndex s slots places prints ends
index-there s slots places prints ends h n = h (omega (arith, n))

pub rows_in : {room k : ℕ} {r : Noted} → NotedIn room r → r ≡ Some k → k ≤ room
rows_in {room} h e = subst (NotedIn room) e h

pub rows-noted : (s : Bytes) (slots : List ℕ) (i : ℕ) (ps fs : List ℕ) (k : ℕ) (r : Noted) → NotesGroup s slots i r ps fs → r ≡ Some k → NotesGroup s slots i (Some k) ps fs
rows-noted s slots i ps fs k r h e = subst (λ (x : Noted). NotesGroup s slots i x ps fs) e h

-- ---- the names of a group, for what is known of the text

module _ (s : Bytes) (slots : List ℕ) where
  pub group-last : (v : Json) → json_at 16 s 0 ≡ some v → group_names s slots 7 ≡ some (names_of v)
  unfolding group_names
  group-last v e = ap (Option.map names_of) e

  module _ (i : ℕ) (h : i < 7) where
    of-slot : group_names s slots i ≡ slot_names s (get_or slots (i + 5) 0)
    unfolding group_names
    of-slot = rw (ne_eqb i 7 (λ z. omega (arith, z, h)))

    pub group_empty : get_or slots (i + 5) 0 ≡ 0 → group_names s slots i ≡ some []
    group_empty z = of-slot ∙ rw (eq-eqb (get_or slots (i + 5) 0) 0 z)

    pub group-slot : (get_or slots (i + 5) 0 ≡ 0 → ⊥) → (v : Json) → json_at 15 s (get_or slots (i + 5) 0) ≡ some v → group_names s slots i ≡ some (names_of v)
    group-slot z v e = of-slot ∙ rw (ne_eqb (get_or slots (i + 5) 0) 0 z) (ap (Option.map names_of) e)
