-- The parameters of an entry, one member after the other.
use mathlib.Core.Path.{◌≡◌, refl, sym, ap, subst, ◌∙◌}
use mathlib.Core.Bool.{Bool, true, false}
use mathlib.Core.List.{List, [], ◌∷◌, ◌++◌}
use mathlib.Core.Option.{Option, none, some, map}
use Prim.Native.Nat.{ℕ, zero, suc, ◌+◌, ◌≤◌, ◌<◌}
use native.Mathlib.Omega.{arith}
use lib.ListN.{length, take, drop, length-append}
use lib.Seq.{length-take-le, take-take, take_at}
use Rattle.text.specs.Places.{Read}
use Rattle.std.proofs.Common.{Continue, Break}
use Rattle.text.specs.Choice.{pick, chain, provided}
use Rattle.text.specs.Bytes.{Bytes, ascii, flat}
use Rattle.text.specs.Reader.{got, loop}
use Rattle.text.specs.Places.{GivesT, byte_at, Passes}
use Rattle.json_text.specs.Grammar.{is_space}
use Rattle.json_text.proofs.Listed.{listed-members}
use Rattle.json_text.specs.Tree.{Json, jnull, jtrue, jfalse, jnum, jstr, jarr, jobj, from_members, Members, mnil, mcons, Member, member, members_of, as_object}
use Rattle.json_text.specs.Syntax.{sep, pair, value}
use Rattle.json_text.specs.Strings.{decoded_members}
use Rattle.json_strings.specs.Decoded.{decoded_at, spells}
use Rattle.json_access.specs.declared.Places.{Places}
use Rattle.json_access.specs.Access.{TellsMember}
use Rattle.json_index.proofs.Laws.{Here, pair-here, others-on, others-none, next_of, stands_at, members-cons, members-nil, nil-decoded}
use Rattle.json_index.proofs.Objects.{not-object, empty-object, object-members}
use Rattle.line.specs.Grammar.{param, value_count}
use Rattle.line.proofs.Lines.{count-append}
use Rattle.line_table.specs.Table.{part, Span}
use Rattle.to_card_kept_entry.specs.strings.Strings.{size, size_members, Grew, PutAs, Table, group_of, sole_in, PutsGroup}
use Rattle.to_card_kept_entry.proofs.strings.Tables.{part-longer, part-new, longer-span, table-longer, table_none}
use Rattle.to_card_kept_entry.proofs.strings.Values.{not_end, end_is, not_more, more-end, more-count}
use Rattle.to_card_kept_entry.proofs.strings.Whole.{sole-size}
use Rattle.convert.specs.FromJson.{is_lower_word}
use Rattle.text.proofs.Choices.{chain-inv, provided-inv, some_same, none-some}
use Rattle.to_card_kept_entry.specs.declared.table.Filled.{Filled}
use Rattle.to_card_kept_entry.specs.table.Kept.{Sofar, sofar, group_in, params_in, group_step, fit_param, param_step, step_of, steps_of, GroupAt, Has, Stays, ParamAs, PutsParam, StepIn, StepAs, PutsMember, none_yet, PutsFrom, PutsObject}
use Rattle.to_card_kept_entry.proofs.table.Params.{word-filled, strings-bound}
use Rattle.std.specs.Prelude.{Some, None}
use Rattle.to_card_kept_entry.specs.strings.Strings.{To, RowsTo, more}
use Rattle.to_card_kept_entry.specs.table.Kept.{Step}

not_on : {f : Filled} → None ≡ Some f → ⊥
not_on e = let z : ◌≡◌ {A = ℕ} 0 1 = cc in omega arith

on-is : {f g : Filled} → Some f ≡ Some g → f ≡ g
on-is e = cc

-- ---- what stays

pub grew-stays : {b : Bytes} {n : ℕ} {after : Bytes} {k : ℕ} {x : Bytes} → n ≤ length b → Grew b n after k x → Stays b n after k
grew-stays {b} {n} {after} {k} {x} h g = record {
  long = g.long;
  from = omega (arith, g.to);
  within = g.within;
  is =
      let l : length (take n b) ≡ n = length-take-le n b h in
      sym (take-take n k after (omega (arith, g.to))) ∙ ap (take n) g.is ∙ take_at (take n b) x n l;
}

pub stays_then : {b : Bytes} {n : ℕ} {c : Bytes} {k : ℕ} {d : Bytes} {j : ℕ} → Stays b n c k → Stays c k d j → Stays b n d j
stays_then {b} {n} {c} {k} {d} {j} g h = record {
  long = h.long ∙ g.long;
  from = omega (arith, g.from, h.from);
  within = omega (arith, h.within, g.long);
  is = sym (take-take n k d g.from) ∙ ap (take n) h.is ∙ take-take n k c g.from ∙ g.is;
}

stays-none : (b : Bytes) (n : ℕ) → n ≤ length b → Stays b n b n
stays-none b n h = record { long = refl; from = omega arith; within = h; is = refl }

-- ---- the group's place in a longer buffer

pub group-longer : (p x : Bytes) (from to : ℕ) (g : Option Bytes) → GroupAt p from to g → GroupAt (p ++ x) from to g
group-longer p x from to none h = h
group-longer p x from to (some w) h = (longer-span p x from to h.0, part-longer p x from to h.0.ordered h.0.within ∙ h.1, h.2)

group-word : (v : Json) (w : Bytes) → group_of v ≡ some w → (sole_in v ≡ some w) × (0 < length w)
unfolding group_of
group-word v w e =
    let i = chain-inv (sole_in v) (λ g. provided (is_lower_word g) (some g)) e in
    let j = provided-inv (is_lower_word i.0) (some i.0) i.2 in
    let z : i.0 ≡ w = some_same j.1 in
    (i.1 ∙ ap some z, subst (λ (y : Bytes). 0 < length y) z (word-filled i.0 j.0))

count-one : (k : Bytes) (ws : List Bytes) → value_count (param k ws ∷ []) ≡ length ws
unfolding value_count
count-one k ws = omega arith

pub step_in : {n room count : ℕ} {f : Filled} {r : Step} → StepIn n room count r → r ≡ Some f → StepIn n room count (Some f)
step_in {n} {room} {count} {f} {r} h e = subst (StepIn n room count) e h

-- ---- one member

module _ (b : Bytes) (t : List ℕ) (f : Filled) (s : Bytes) (q at : ℕ) where
  is-group : (z : Sofar) (k : Bytes) (v : Json) → decoded_at s q ≡ some k → spells (decoded_at s q) (ascii "group") ≡ true → step_of z k v ≡ group_step (group_in z) (params_in z) (group_of v)
  unfolding step_of
  is-group z k v e y =
      ap (λ (x : Bool). pick x (group_step (group_in z) (params_in z) (group_of v)) (param_step (group_in z) (params_in z) k (fit_param (value_count (params_in z)) k v)))
      (sym (ap (λ (o : Option Bytes). spells o (ascii "group")) e) ∙ y)

  is-param : (z : Sofar) (k : Bytes) (v : Json) → decoded_at s q ≡ some k → spells (decoded_at s q) (ascii "group") ≡ false
      → step_of z k v ≡ param_step (group_in z) (params_in z) k (fit_param (value_count (params_in z)) k v)
  unfolding step_of
  is-param z k v e y =
      ap (λ (x : Bool). pick x (group_step (group_in z) (params_in z) (group_of v)) (param_step (group_in z) (params_in z) k (fit_param (value_count (params_in z)) k v)))
      (sym (ap (λ (o : Option Bytes). spells o (ascii "group")) e) ∙ y)

  module _ (y : spells (decoded_at s q) (ascii "group") ≡ true) where
    pub member-again : (f.to ≡ 0 → ⊥) → PutsMember b t f s q at None b t
    member-again n k v e w z h l =
        subst (StepAs b f.end (f.end + (length k + size v)) None b t) (sym (is-group z k v e y)) (by (group_in z) h.group)
      where
        by : (g : Option Bytes) → GroupAt (take f.end b) f.from f.to g → StepAs b f.end (f.end + (length k + size v)) None b t (group_step g (params_in z) (group_of v))
        by none x = absurd (n x.1)
        by (some g) x = refl

    module _ (o : f.to ≡ 0) (r : To) (c : Bytes) (puts : PutsGroup b f.end s at r c) where
      not_yet : (z : Sofar) → Has b t f z → group_in z ≡ none
      not_yet z h = by (group_in z) h.group
        where
          by : (g : Option Bytes) → GroupAt (take f.end b) f.from f.to g → g ≡ none
          by none x = refl
          by (some g) x = absurd (omega (arith, x.2, o))

      pub member-nogroup : r ≡ None → PutsMember b t f s q at None c t
      member-nogroup x k v e w z h l =
          subst (StepAs b f.end (f.end + (length k + size v)) None c t)
          (sym (is-group z k v e y ∙ ap (λ (g : Option Bytes). group_step g (params_in z) (group_of v)) (not_yet z h)))
          (by (group_of v) (puts v w (omega arith)))
        where
          by : (g : Option Bytes) → PutAs b f.end r c g → StepAs b f.end (f.end + (length k + size v)) None c t (map (λ w. sofar (some w) (params_in z)) g)
          by none p = refl
          by (some g) p = absurd (not_end (sym x ∙ p.1))

      pub member-group : f.end ≤ length b → (i : ℕ) → r ≡ Some i → PutsMember b t f s q at (Some (record { end = i; rows = f.rows; count = f.count; from = f.end; to = i })) c t
      member-group n i x k v e w z h l =
          subst (StepAs b f.end (f.end + (length k + size v)) _ c t)
          (sym (is-group z k v e y ∙ ap (λ (g : Option Bytes). group_step g (params_in z) (group_of v)) (not_yet z h)))
          (by (group_of v) refl (puts v w (omega arith)))
        where
          by : (g : Option Bytes) → group_of v ≡ g → PutAs b f.end r c g
              → StepAs b f.end (f.end + (length k + size v)) (Some (record { end = i; rows = f.rows; count = f.count; from = f.end; to = i })) c t (map (λ w. sofar (some w) (params_in z)) g)
          by none d p = absurd (not_end (sym p ∙ x))
          by (some g) d p =
              let gr : Grew b f.end c i g = subst (λ (j : ℕ). Grew b f.end c j g) (end_is (sym p.1 ∙ x)) p.2 in
              let gw = group-word v g d in
              let len : length (take f.end b) ≡ f.end = length-take-le f.end b n in
              let pn : part (take f.end b ++ g) f.end i ≡ g =
              ap (λ (j : ℕ). part (take f.end b ++ g) f.end j) gr.to ∙ ap (λ (j : ℕ). part (take f.end b ++ g) j (j + length g)) (sym len) ∙ part-new (take f.end b) g in
              let sp : Span (take f.end b ++ g) f.end i = record { ordered = omega (arith, gr.to); within = let u = length-append (take f.end b) g in omega (arith, gr.to, len, u) } in
              record {
                filled = record { end = i; rows = f.rows; count = f.count; from = f.end; to = i };
                said = refl;
                has = record {
                  table = subst (λ (u : Bytes). Table u t f.rows (params_in z)) (sym gr.is) (table-longer (take f.end b) g t f.rows (params_in z) h.table);
                  few = h.few;
                  many = h.many;
                  group = subst (λ (u : Bytes). GroupAt u f.end i (some g)) (sym gr.is) (sp, pn, omega (arith, gr.to, gw.1));
                };
                stays = grew-stays n gr;
                short = omega (arith, gr.to, sole-size v g gw.0);
              }

  module _ (y : spells (decoded_at s q) (ascii "group") ≡ false) (r : RowsTo) (c : Bytes) (u : List ℕ) (puts : PutsParam b f.end t f.rows s q at r c u) where
    as_param : (z : Sofar) → Has b t f z → (k : Bytes) (v : Json) → decoded_at s q ≡ some k → step_of z k v ≡ param_step (group_in z) (params_in z) k (fit_param f.rows k v)
    as_param z h k v e = is-param z k v e y ∙ ap (λ (m : ℕ). param_step (group_in z) (params_in z) k (fit_param m k v)) (sym h.few)

    pub member-wrong : r ≡ None → PutsMember b t f s q at None c u
    member-wrong x k v e w z h l =
        subst (StepAs b f.end (f.end + (length k + size v)) None c u) (sym (as_param z h k v e)) (by (fit_param f.rows k v) (puts k v e w l))
      where
        by : (o : Option (List Bytes)) → ParamAs b f.end t f.rows r c u k o → StepAs b f.end (f.end + (length k + size v)) None c u (param_step (group_in z) (params_in z) k o)
        by none p = refl
        by (some ws) p = absurd (not_more (sym x ∙ p.said))

    module _ (n : f.end ≤ length b) (i m : ℕ) (x : r ≡ more i m) where
      pub member-param : PutsMember b t f s q at (Some (record { end = i; rows = m; count = f.count + 1; from = f.from; to = f.to })) c u
      member-param k v e w z h l =
          subst (StepAs b f.end (f.end + (length k + size v)) _ c u) (sym (as_param z h k v e)) (by (fit_param f.rows k v) refl (puts k v e w l))
        where
          by : (o : Option (List Bytes)) → fit_param f.rows k v ≡ o → ParamAs b f.end t f.rows r c u k o
              → StepAs b f.end (f.end + (length k + size v)) (Some (record { end = i; rows = m; count = f.count + 1; from = f.from; to = f.to })) c u (param_step (group_in z) (params_in z) k o)
          by none d p = absurd (not_more (sym p ∙ x))
          by (some ws) d p =
              let ie : p.end ≡ i = more-end (sym p.said ∙ x) in
              let me : f.rows + length ws ≡ m = more-count (sym p.said ∙ x) in
              let gr : Grew b f.end c i (k ++ flat ws) = subst (λ (j : ℕ). Grew b f.end c j (k ++ flat ws)) ie p.grew in
              let tb : Table (take f.end b ++ (k ++ flat ws)) u m (params_in z ++ (param k ws ∷ [])) = subst (λ (j : ℕ). Table (take f.end b ++ (k ++ flat ws)) u j (params_in z ++ (param k ws ∷ []))) me (p.adds (params_in z) h.table) in
              record {
                filled = record { end = i; rows = m; count = f.count + 1; from = f.from; to = f.to };
                said = refl;
                has = record {
                  table = subst (λ (j : Bytes). Table j u m (params_in z ++ (param k ws ∷ []))) (sym gr.is) tb;
                  few = omega (arith, me, h.few, count-append (params_in z) (param k ws ∷ []), count-one k ws);
                  many = omega (arith, h.many, length-append (params_in z) (param k ws ∷ []));
                  group = subst (λ (j : Bytes). GroupAt j f.from f.to (group_in z)) (sym gr.is) (group-longer (take f.end b) (k ++ flat ws) f.from f.to (group_in z) h.group);
                };
                stays = grew-stays n gr;
                short = omega (arith, gr.to, length-append k (flat ws), strings-bound f.rows k v ws d);
              }

-- ---- one after the other

steps-cons : (z : Sofar) (k : Bytes) (v : Json) (ms : List Member) → steps_of z (member k v ∷ ms) ≡ chain (step_of z k v) λ y. steps_of y ms
unfolding steps_of
steps-cons z k v ms = refl

steps-nil : (z : Sofar) → steps_of z [] ≡ some z
unfolding steps_of
steps-nil z = refl

sizes-cons : (k : Bytes) (v : Json) (ms : Members) → size_members (mcons k v ms) ≡ length k + size v + size_members ms
unfolding size_members
sizes-cons k v ms = refl

pub record Far (b₀ : Bytes) (n : ℕ) (s : Bytes) (ms : Members) (w : Bytes) (i : ℕ) (f : Filled) (b : Bytes) (t : List ℕ) : Type 0 where
  pub units : Members
  pub rest : Members
  pub state : Sofar
  pub is-units : loop (pair (value 12)) (drop i s) ≡ got units w
  pub is-rest : decoded_members units ≡ some rest
  pub is-steps : steps_of none_yet (members_of ms) ≡ steps_of state (members_of rest)
  pub has : Has b t f state
  pub stays : Stays b₀ n b f.end
  pub room : f.end + size_members rest ≤ n + size_members ms

abbrev pub Going : Bytes → ℕ → Bytes → ℕ → ℕ → Filled → Bytes → List ℕ → Type 0
Going b₀ n s at i f b t = (us ms : Members) (w : Bytes) → loop (pair (value 12)) (drop at s) ≡ got us w → decoded_members us ≡ some ms → n + size_members ms ≤ length b₀
    → Far b₀ n s ms w i f b t

abbrev pub empty-at : ℕ → Filled
empty-at n = record { end = n; rows = 0; count = 0; from = 0; to = 0 }

none_has : (b : Bytes) (n : ℕ) (t : List ℕ) → Has b t (empty-at n) none_yet
unfolding value_count
none_has b n t = record { table = table_none (take n b) t; few = refl; many = refl; group = (refl, refl) }

pub going-first : (b : Bytes) (n : ℕ) (t : List ℕ) (s : Bytes) (at : ℕ) → n ≤ length b → Going b n s at at (empty-at n) b t
going-first b n t s at h us ms w x y l = record {
  units = us;
  rest = ms;
  state = none_yet;
  is-units = x;
  is-rest = y;
  is-steps = refl;
  has = none_has b n t;
  stays = stays-none b n h;
  room = omega arith;
}

module _ (b₀ : Bytes) (n : ℕ) (s : Bytes) (at i : ℕ) (f : Filled) (b : Bytes) (t : List ℕ) (going : Going b₀ n s at i f b t)
    (r : Places) (told : TellsMember 12 s i r) (p : Step) (c : Bytes) (u : List ℕ) (puts : PutsMember b t f s r.name r.start p c u) where
  ends_of : (vs : Members) (z : Here 12 s i vs) → z.rest-val ≡ drop r.end s
  ends_of vs z = (told z.key z.rest-key z.is_name z.val z.rest-val z.is-value).1.ends

  -- the member at i
  record Turned (ms : Members) (w : Bytes) (g : Far b₀ n s ms w i f b t) (us : Members) : Type 0 where
    key : Bytes
    val : Json
    others : Members
    is-others : decoded_members us ≡ some others
    sized : size_members g.rest ≡ length key + size val + size_members others
    is-steps : steps_of none_yet (members_of ms) ≡ chain (step_of g.state key val) λ y. steps_of y (members_of others)
    told-as : StepAs b f.end (f.end + (length key + size val)) p c u (step_of g.state key val)

  turned : (ms : Members) (w : Bytes) (g : Far b₀ n s ms w i f b t) → n + size_members ms ≤ length b₀ → (z : Here 12 s i g.units) (us : Members) → mcons z.key z.val us ≡ g.units → Turned ms w g us
  turned ms w g room z us q =
      let l = told z.key z.rest-key z.is_name z.val z.rest-val z.is-value in
      let x = next_of z.key z.val us g.rest (ap decoded_members q ∙ g.is-rest) in
      let a = stands_at 12 s z.rest-key z.rest-val z.val x.val r.start r.end l.1 z.is-value x.is-val in
      let m : members_of g.rest ≡ member x.key x.val ∷ members_of x.others = ap members_of (sym x.is) ∙ members-cons x.key x.val x.others in
      let sz : size_members g.rest ≡ length x.key + size x.val + size_members x.others = ap size_members (sym x.is) ∙ sizes-cons x.key x.val x.others in
      record {
        key = x.key;
        val = x.val;
        others = x.others;
        is-others = x.is-others;
        sized = sz;
        is-steps = g.is-steps ∙ ap (steps_of g.state) m ∙ steps-cons g.state x.key x.val (members_of x.others);
        told-as = puts x.key x.val (l.0 ∙ x.is-key) a g.state g.has (omega (arith, g.room, sz, g.stays.long, room));
      }

  pub from-bad : p ≡ None → (after : Bytes) (v : List ℕ) → PutsFrom b₀ n s at None after v
  from-bad e after v us ms w x y l =
      let g = going us ms w x y l in
      let z = pair-here 12 s i g.units w g.is-units in
      let o = turned ms w g l z z.others (sym z.is) in
      subst (StepAs b₀ n (n + size_members ms) None after v) (sym o.is-steps) (by _ (step_of g.state o.key o.val) (λ y. steps_of y (members_of o.others)) o.told-as)
    where
      by : (most : ℕ) (q : Option Sofar) (k : Sofar → Option Sofar) → StepAs b f.end most p c u q → StepAs b₀ n (n + size_members ms) None after v (chain q k)
      by most none k h = refl
      by most (some y) k h = absurd (not_on (sym e ∙ h.said))

  module _ (f' : Filled) (e : p ≡ Some f') where
    record Gain (ms : Members) (us : Members) : Type 0 where
      others : Members
      state : Sofar
      is-others : decoded_members us ≡ some others
      is-steps : steps_of none_yet (members_of ms) ≡ steps_of state (members_of others)
      has : Has c u f' state
      stays : Stays b₀ n c f'.end
      room : f'.end + size_members others ≤ n + size_members ms

    gain : (ms : Members) (w : Bytes) (g : Far b₀ n s ms w i f b t) → n + size_members ms ≤ length b₀ → (z : Here 12 s i g.units) (us : Members) → mcons z.key z.val us ≡ g.units → Gain ms us
    gain ms w g l z us q = let o = turned ms w g l z us q in by o (step_of g.state o.key o.val) refl o.told-as
      where
        by : (o : Turned ms w g us) (x : Option Sofar) → step_of g.state o.key o.val ≡ x → StepAs b f.end (f.end + (length o.key + size o.val)) p c u x → Gain ms us
        by o none y h = absurd (not_on (sym h ∙ e))
        by o (some y) d h =
            let fe : h.filled ≡ f' = on-is (sym h.said ∙ e) in
            record {
              others = o.others;
              state = y;
              is-others = o.is-others;
              is-steps = o.is-steps ∙ ap (λ (x : Option Sofar). chain x λ y. steps_of y (members_of o.others)) d;
              has = subst (λ (x : Filled). Has c u x y) fe h.has;
              stays = stays_then g.stays (subst (λ (x : Filled). Stays b f.end c x.end) fe h.stays);
              room = omega (arith, ap (λ (x : Filled). x.end) fe, h.short, g.room, o.sized);
            }

    pub from_on : (j : ℕ) → GivesT s r.end (sep 125 zero suc (drop r.end s)) (Continue j) → Going b₀ n s at j f' c u
    from_on j v us ms w x y l =
        let g = going us ms w x y l in
        let z = pair-here 12 s i g.units w g.is-units in
        let o = others-on 12 s i g.units w g.is-units z r.end (ends_of g.units z) j v in
        let h = gain ms w g l z o.0 o.2 in
        record { units = o.0; rest = h.others; state = h.state; is-units = o.1; is-rest = h.is-others; is-steps = h.is-steps; has = h.has; stays = h.stays; room = h.room }

    pub from_all : (v : Read) → GivesT s r.end (sep 125 zero suc (drop r.end s)) (Break v) → PutsFrom b₀ n s at (Some f') c u
    from_all v q us ms w x y l =
        let g = going us ms w x y l in
        let z = pair-here 12 s i g.units w g.is-units in
        let o = others-none 12 s i g.units w g.is-units z r.end (ends_of g.units z) v q in
        let h = gain ms w g l z mnil o in
        let m : steps_of h.state (members_of h.others) ≡ some h.state = ap (λ (j : Members). steps_of h.state (members_of j)) (sym (nil-decoded h.others h.is-others)) ∙ ap (steps_of h.state) members-nil ∙ steps-nil h.state in
        subst (StepAs b₀ n (n + size_members ms) (Some f') c u) (sym (h.is-steps ∙ m)) (record { filled = f'; said = refl; has = h.has; stays = h.stays; short = omega (arith, h.room) })

-- ---- the object

members-same : (ms ns : Members) → members_of ms ≡ members_of ns → ms ≡ ns
members-same ms ns e = sym (listed-members ms) ∙ ap from_members e ∙ listed-members ns

object-size : (v : Json) (ms : Members) → as_object v ≡ some (members_of ms) → size v ≡ size_members ms
unfolding size
object-size jnull ms e = none-some e
object-size jtrue ms e = none-some e
object-size jfalse ms e = none-some e
object-size (jnum x) ms e = none-some e
object-size (jstr x) ms e = none-some e
object-size (jarr x) ms e = none-some e
object-size (jobj ns) ms e = ap size_members (members-same ns ms (some_same e))

module _ (b : Bytes) (n : ℕ) (t : List ℕ) (s : Bytes) (at i c : ℕ) (h : Passes is_space s at i) (l : c ≡ byte_at s i) where
  pub object-none : (c ≡ 123 → ⊥) → PutsObject b n s at None b t
  object-none q v w room = subst (λ (o : Option (List Member)). StepAs b n (n + size v) None b t (chain o (steps_of none_yet))) (sym (not-object 12 s at [] [] i c h l q v w)) refl

  module _ (q : c ≡ 123) (j d : ℕ) (k : Passes is_space s (i + 1) j) (g : d ≡ byte_at s j) where
    pub object-empty : n ≤ length b → d ≡ 125 → PutsObject b n s at (Some (empty-at n)) b t
    object-empty m p v w room =
        subst (λ (o : Option (List Member)). StepAs b n (n + size v) (Some (empty-at n)) b t (chain o (steps_of none_yet))) (sym (empty-object 12 s at [] [] i c h l q j d k g p v w))
        (subst (StepAs b n (n + size v) (Some (empty-at n)) b t) (sym (steps-nil none_yet)) (record { filled = empty-at n; said = refl; has = none_has b n t; stays = stays-none b n m; short = omega arith }))

    pub object-all : (d ≡ 125 → ⊥) → (r : Step) (after : Bytes) (u : List ℕ) → PutsFrom b n s j r after u → PutsObject b n s at r after u
    object-all p r after u f v w room =
        let o = object-members 12 s at [] [] i c h l q j d k g p v w in
        let sz : size v ≡ size_members o.1 = object-size v o.1 o.5 in
        subst (λ (x : Option (List Member)). StepAs b n (n + size v) r after u (chain x (steps_of none_yet))) (sym o.5)
        (subst (λ (x : ℕ). StepAs b n (n + x) r after u (steps_of none_yet (members_of o.1))) (sym sz) (f o.0 o.1 o.2 o.3 o.4 (omega (arith, sz, room))))
