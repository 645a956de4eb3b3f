-- Lists in brackets: white space stands before each part for the reader, and around each mark for the grammar.
use mathlib.Core.Path.{◌≡◌, refl, sym, ap, ◌∙◌}
use mathlib.Core.Bool.{Bool, true, false}
use mathlib.Core.List.{[], ◌∷◌, ◌++◌, append_assoc, append-nil}
use mathlib.Core.Logic.{inl, inr}
use Prim.Native.Nat.{ℕ}
use Rattle.text.specs.Choice.{pick}
use Rattle.text.specs.Bytes.{Bytes, is}
use Rattle.json_text.specs.Grammar.{Lang, One, ◌then◌, ◌or◌, Maybe, Many, none_more, one_more, Ws, Mark, String, Named}
use Rattle.json_grammar.proofs.Turns.{Loop}
use Rattle.json_grammar.proofs.Rows.{many-append}
use Rattle.json_grammar.proofs.Units.{Turn}

pub no-ws : Ws []
unfolding Ws
no-ws = none_more [] refl

ws-append : (a b : Bytes) → Ws a → Ws b → Ws (a ++ b)
unfolding Ws
ws-append a b p q = many-append a b p q

-- a mark with no white space on one side
mark-front : (k : ℕ) (u : Bytes) → (Ws then One (is k)) u → Mark k u
unfolding Mark
mark-front k u x = (x.0, x.1, x.2, x.3, (x.1, [], sym (append-nil x.1), x.4, no-ws))

mark-back : (k c : ℕ) (u : Bytes) → is k c ≡ true → Ws u → Mark k (c ∷ u)
unfolding Mark
mark-back k c u h w = ([], c ∷ u, refl, no-ws, (c ∷ [], u, refl, (c, refl, h), w))

mark-both : (k : ℕ) (u w : Bytes) → (Ws then One (is k)) u → Ws w → Mark k (u ++ w)
unfolding Mark
mark-both k u w x s = (x.0, x.1 ++ w, ap (λ (z : Bytes). z ++ w) x.2 ∙ append_assoc x.0 x.1 w, x.3, (x.1, w, refl, x.4, s))

module _ (P : Lang) (close : ℕ) where
  -- one turn of the reader: an item, and the mark that closes or goes on
  abbrev pub Item : Bool → Lang
  Item b = (Ws then P) then Ws then One (is (pick b close 44))

  -- the grammar's list
  abbrev pub Items : Lang
  Items = P then Many (Mark 44 then P)

  abbrev Listed : Lang
  Listed = Ws then Items then Mark close

  regroup : (v u x w p n k : Bytes) → ((v ++ u) ++ x) ++ (w ++ ((p ++ n) ++ k)) ≡ v ++ ((u ++ (((x ++ w) ++ p) ++ n)) ++ k)
  regroup v u x w p n k = simp append_assoc

  last-item : (b : Bytes) → Item true b → Listed b
  last-item b x =
      let i = x.3 in (
        i.0,
        i.1 ++ x.1,
        x.2 ∙ ap (λ (z : Bytes). z ++ x.1) i.2 ∙ append_assoc i.0 i.1 x.1,
        i.3,
        (i.1, x.1, refl, (i.1, [], sym (append-nil i.1), i.4, none_more [] refl), mark-front close x.1 x.4),
      )

  more-items : (a b : Bytes) → Item false a → Listed b → Listed (a ++ b)
  more-items a b x l =
      let i = x.3 in
      let m = l.4 in
      let n = m.3 in
      let ea : a ≡ (i.0 ++ i.1) ++ x.1 = x.2 ∙ ap (λ (z : Bytes). z ++ x.1) i.2 in
      let eb : b ≡ l.0 ++ ((n.0 ++ n.1) ++ m.1) = l.2 ∙ ap (λ (z : Bytes). l.0 ++ z) (m.2 ∙ ap (λ (z : Bytes). z ++ m.1) n.2) in
      let y : Bytes = (x.1 ++ l.0) ++ n.0 in
      let e : a ++ b ≡ i.0 ++ ((i.1 ++ (y ++ n.1)) ++ m.1) =
      ap (λ (z : Bytes). z ++ b) ea ∙ ap (λ (z : Bytes). ((i.0 ++ i.1) ++ x.1) ++ z) eb ∙ regroup i.0 i.1 x.1 l.0 n.0 n.1 m.1 in (
        i.0,
        (i.1 ++ (y ++ n.1)) ++ m.1,
        e,
        i.3,
        (
          i.1 ++ (y ++ n.1),
          m.1,
          refl,
          (i.1, y ++ n.1, refl, i.4, one_more (y ++ n.1) y n.1 refl (x.1 ++ l.0, n.0, refl, mark-both 44 x.1 l.0 x.4 l.3, n.3) n.4),
          m.4,
        ),
      )

  rotate : (a b : Bytes) → Many (Item false) a → Item true b → Listed (a ++ b)
  rotate a b (none_more s e) x = rw e (last-item b x)
  rotate a b (one_more s c d e t ts) x = rw (e, append_assoc c d b) (more-items c (d ++ b) t (rotate d b ts x))

  -- after the opening byte
  pub enclosed : (open' c : ℕ) (u : Bytes) → is open' c ≡ true → (Ws then (One (is close) or Loop Item)) u → (Mark open' then Maybe Items then Mark close) (c ∷ u)
  enclosed o c u h x = by x.4
    where
      by : (One (is close) or Loop Item) x.1 → (Mark o then Maybe Items then Mark close) (c ∷ u)
      by (inl m) = (c ∷ x.0, x.1, ap (λ (z : Bytes). c ∷ z) x.2, mark-back o c x.0 h x.3, ([], x.1, refl, inl refl, mark-front close x.1 ([], x.1, refl, no-ws, m)))
      by (inr l) =
          let r = rotate l.0 l.1 l.3 l.4 in
          let m = r.4 in
          let e : c ∷ u ≡ (c ∷ (x.0 ++ r.0)) ++ r.1 = ap (λ (z : Bytes). c ∷ z) (x.2 ∙ ap (λ (z : Bytes). x.0 ++ z) (l.2 ∙ r.2) ∙ sym (append_assoc x.0 r.0 r.1)) in
          (c ∷ (x.0 ++ r.0), r.1, e, mark-back o c (x.0 ++ r.0) h (ws-append x.0 r.0 x.3 r.3), (m.0, m.1, m.2, inr m.3, m.4))

-- a member, with its name
unfoldable pub Name : Lang
Name = (Ws then One (is 34)) then Loop Turn then Ws then One (is 58)

member-group : (w o l x k y v z : Bytes) → ((w ++ o) ++ (l ++ (x ++ k))) ++ ((y ++ v) ++ z) ≡ (w ++ ((o ++ l) ++ (((x ++ k) ++ y) ++ v))) ++ z
member-group w o l x k y v z = simp append_assoc

pub named : {P : Lang} {S : Lang} (u : Bytes) → (Name then (Ws then P) then S) u → ((Ws then Named P) then S) u
unfolding Name Named String
named u x =
    let n = x.3 in
    let q = n.3 in
    let m = n.4 in
    let k = m.4 in
    let r = x.4 in
    let v = r.3 in
    let e : u ≡ ((q.0 ++ q.1) ++ (m.0 ++ (k.0 ++ k.1))) ++ ((v.0 ++ v.1) ++ r.1) =
    x.2 ∙ ap (λ (z : Bytes). z ++ x.1) (n.2 ∙ ap (λ (z : Bytes). z ++ n.1) q.2 ∙ ap (λ (z : Bytes). (q.0 ++ q.1) ++ z) (m.2 ∙ ap (λ (z : Bytes). m.0 ++ z) k.2))
    ∙ ap (λ (z : Bytes). ((q.0 ++ q.1) ++ (m.0 ++ (k.0 ++ k.1))) ++ z) (r.2 ∙ ap (λ (z : Bytes). z ++ r.1) v.2) in
    let s : Bytes = q.1 ++ m.0 in
    let t : Bytes = (k.0 ++ k.1) ++ v.0 in (
      q.0 ++ (s ++ (t ++ v.1)),
      r.1,
      e ∙ member-group q.0 q.1 m.0 k.0 k.1 v.0 v.1 r.1,
      (q.0, s ++ (t ++ v.1), refl, q.3, (s, t ++ v.1, refl, (q.1, m.0, refl, q.4, m.3), (t, v.1, refl, mark-both 58 (k.0 ++ k.1) v.0 (k.0, k.1, refl, k.3, k.4) v.3, v.4))),
      r.4,
    )
