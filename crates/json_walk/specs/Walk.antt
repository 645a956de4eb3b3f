-- What the contracts of this crate cite: a walk over the members of an object or the elements of an array, in decoded values.
use Rattle.std.specs.Prelude.{◌≡◌, List, [], ◌∷◌, ℕ, zero, suc, ◌+◌, ◌≤◌, ◌<◌, length, drop}
use Rattle.std.proofs.Math.Option.{Option, none, some}
use Prim.Native.Char.{code}
use Rattle.text.specs.Places.{Read}
use Rattle.std.proofs.Common.{Continue, Break}
use Rattle.text.specs.Bytes.{Bytes}
use Rattle.text.specs.Reader.{Got, got, bad, first}
use Rattle.text.specs.Places.{byte_at, GivesT, Passes}
use Rattle.json_text.specs.Grammar.{is_space}
use Rattle.json_text.specs.Tree.{Json, Elems, Members, Member as Named, member, members_of, elems_of, as_array, as_object}
use Rattle.json_text.specs.Syntax.{skip, sep, value}
use Rattle.json_text.specs.Strings.{decoded, decoded_elems, decoded_members}
use Rattle.json_scan.specs.After.{elements_after, members_after}
use Rattle.json_strings.specs.Decoded.{decoded_at}
use Rattle.json_access.specs.Access.{place_of, EndsAt, TellsHead}
use Rattle.json_walk.specs.declared.Member.{Member}
use Rattle.json_walk.specs.declared.Member.TheVariants.{At as Member-At, End as Member-End, NoObject}
use Rattle.json_walk.specs.declared.Element.{Element}
use Rattle.json_walk.specs.declared.Element.TheVariants.{At as Element-At, End as Element-End, NoArray}

-- ---- what stands at a place

abbrev pub meant : Got Json → Option Json
meant (got j t) = decoded j
meant (bad t) = none

-- the value that is read from a place on, its strings decoded; d arrays and objects at most around what is inside it
unfoldable pub json_at : ℕ → Bytes → ℕ → Option Json
json_at d s p = meant (value d (drop p s))

-- t is what is left after the value at a place
abbrev pub Leaves : ℕ → Bytes → ℕ → Bytes → Type 0
Leaves d s at t = (j : Json) (u : Bytes) → value d (drop at s) ≡ got j u → u ≡ t

-- ---- members

-- From a place on, just after a value of an object, the members ms are left of it, and t after it.
pub record MembersLeft (d : ℕ) (s : Bytes) (at : ℕ) (ms : List Named) (t : Bytes) : Type 0 where
  pub units : Members
  pub tree : Members
  pub reads : members_after (value d) (drop at s) ≡ got units t
  pub stands-for : decoded_members units ≡ some tree
  pub listed : members_of tree ≡ ms

-- The first of the members ms has its name at q and its value at a; the others are left from that value's end on.
pub record FirstMember (d : ℕ) (s : Bytes) (ms : List Named) (t : Bytes) (q a : ℕ) : Type 0 where
  pub key : Bytes
  pub val : Json
  pub others : List Named
  pub is : ms ≡ member key val ∷ others
  pub is-key : decoded_at s q ≡ some key
  pub is-val : json_at d s a ≡ some val
  pub left : (e : ℕ) → EndsAt d s a e → MembersLeft d s e others t

-- an answer tells of the members ms, t being left after their object; of none where no object stands there
abbrev pub TellsMembers : ℕ → Bytes → Option (List Named) → Bytes → Member → Type 0
TellsMembers d s none t r = r ≡ NoObject
TellsMembers d s (some ms) t (Member-At q a) = FirstMember d s ms t q a
TellsMembers d s (some ms) t (Member-End x) = (ms ≡ []) × (t ≡ drop x s)
TellsMembers d s (some ms) t NoObject = ⊥

-- of whatever value stands at a place
abbrev pub FirstOf : Bytes → ℕ → Member → Type 0
FirstOf s at r = (d : ℕ) (v : Json) → json_at (suc d) s at ≡ some v → (t : Bytes) × Leaves (suc d) s at t × TellsMembers d s (as_object v) t r

-- of whatever is left from a place on
abbrev pub NextOf : Bytes → ℕ → Member → Type 0
NextOf s at r = (d : ℕ) (ms : List Named) (t : Bytes) → MembersLeft d s at ms t → TellsMembers d s (some ms) t r

-- ---- elements

-- From a place on, just after an element of an array, the elements vs are left of it, and t after it.
pub record ElementsLeft (d : ℕ) (s : Bytes) (at : ℕ) (vs : List Json) (t : Bytes) : Type 0 where
  pub units : Elems
  pub tree : Elems
  pub reads : elements_after (value d) (drop at s) ≡ got units t
  pub stands-for : decoded_elems units ≡ some tree
  pub listed : elems_of tree ≡ vs

-- The first of the elements vs stands at a; the others are left from its end on.
pub record FirstElement (d : ℕ) (s : Bytes) (vs : List Json) (t : Bytes) (a : ℕ) : Type 0 where
  pub val : Json
  pub others : List Json
  pub is : vs ≡ val ∷ others
  pub is-val : json_at d s a ≡ some val
  pub left : (e : ℕ) → EndsAt d s a e → ElementsLeft d s e others t

abbrev pub TellsElements : ℕ → Bytes → Option (List Json) → Bytes → Element → Type 0
TellsElements d s none t r = r ≡ NoArray
TellsElements d s (some vs) t (Element-At a) = FirstElement d s vs t a
TellsElements d s (some vs) t (Element-End x) = (vs ≡ []) × (t ≡ drop x s)
TellsElements d s (some vs) t NoArray = ⊥

abbrev pub FirstElementOf : Bytes → ℕ → Element → Type 0
FirstElementOf s at r = (d : ℕ) (v : Json) → json_at (suc d) s at ≡ some v → (t : Bytes) × Leaves (suc d) s at t × TellsElements d s (as_array v) t r

abbrev pub NextElementOf : Bytes → ℕ → Element → Type 0
NextElementOf s at r = (d : ℕ) (vs : List Json) (t : Bytes) → ElementsLeft d s at vs t → TellsElements d s (some vs) t r

-- ---- by the grammar: for readers that count bytes, and so want to know just where a value begins

-- White space and an opening byte stand at a place, and what is inside stands from j on, white space left out.
pub record Opens (s : Bytes) (at opening j : ℕ) : Type 0 where
  pub mark : ℕ
  pub to-mark : Passes is_space s at mark
  pub is-mark : byte_at s mark ≡ opening
  pub inside : Passes is_space s (mark + 1) j

abbrev pub NoneOpens : Bytes → ℕ → ℕ → Type 0
NoneOpens s at opening = first (skip (drop at s)) ≡ opening → ⊥

abbrev pub FirstReads : Bytes → ℕ → Member → Type 0
FirstReads s at (Member-At q a) = (j : ℕ) × Opens s at (code "{") j × (byte_at s j ≡ code "}" → ⊥) × TellsHead s j (record { name = q; start = a })
FirstReads s at (Member-End x) = (j : ℕ) × Opens s at (code "{") j × (byte_at s j ≡ code "}") × (x ≡ j + 1)
FirstReads s at NoObject = NoneOpens s at (code "{")

-- after a value a comma stands, and what follows it from j on
abbrev pub GoesOn : Bytes → ℕ → ℕ → ℕ → Type 0
GoesOn s at close j = GivesT s at (sep close zero suc (drop at s)) (Continue j)

-- or nothing follows, and what is left after the byte that closes stands from x on
abbrev pub Closes : Bytes → ℕ → ℕ → ℕ → Type 0
Closes s at close x = at ≤ length s → (r : Read) × GivesT s at (sep close zero suc (drop at s)) (Break r) × (x ≡ place_of r)

abbrev pub NextReads : Bytes → ℕ → Member → Type 0
NextReads s at (Member-At q a) = (j : ℕ) × GoesOn s at (code "}") j × TellsHead s j (record { name = q; start = a })
NextReads s at (Member-End x) = Closes s at (code "}") x
NextReads s at NoObject = ⊥

-- ---- the places are within the text, and a step goes on

abbrev pub MemberIn : ℕ → ℕ → Member → Type 0
MemberIn at n (Member-At q a) = (q ≤ n) × (at < a) × (a ≤ n)
MemberIn at n (Member-End x) = (at ≤ n → at ≤ x) × (x ≤ n)
MemberIn at n NoObject = Unit {0}

abbrev pub ElementIn : ℕ → ℕ → Element → Type 0
ElementIn at n (Element-At a) = (at < a) × (a ≤ n)
ElementIn at n (Element-End x) = (at ≤ n → at ≤ x) × (x ≤ n)
ElementIn at n NoArray = Unit {0}
