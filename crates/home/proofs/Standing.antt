-- Lines that stand: side by side, in another order, and under a map that keeps what they say.
use mathlib.Core.Path.{◌≡◌, refl, ap}
use mathlib.Core.List.{List, [], ◌∷◌, ◌++◌, map}
use Prim.Native.Nat.{suc, ◌+◌}
use native.Mathlib.Omega.{arith}
use lib.ListN.{length}
use Rattle.line.specs.Grammar.{Line}
use Rattle.convert.specs.NormalCard.{or_made}
use Rattle.home.specs.Allowed.{Converted, Into, here, later, AllStand, no_more, one_more, where_none}
use Rattle.home.proofs.Alls.{All}

-- ---- put in somewhere

module _ {A : Type 0} where
  pub into-before : {x : A} {xs ys : List A} (zs : List A) → Into x xs ys → Into x (zs ++ xs) (zs ++ ys)
  into-before [] i = i
  into-before (z ∷ zs) i = later (into-before zs i)

  pub into-after : {x : A} {xs ys : List A} (zs : List A) → Into x xs ys → Into x (xs ++ zs) (ys ++ zs)
  into-after zs here = here
  into-after zs (later i) = later (into-after zs i)

  -- two things can be put in either way round
  into-swap : {x y : A} {xs ys zs : List A} → Into x xs ys → Into y ys zs → (ws : List A) × Into y xs ws × Into x ws zs
  into-swap {x} {y} {xs} i here = (y ∷ xs, here, later i)
  into-swap {xs = xs} here (later {xs = us} {ys = vs} j) = (vs, j, here)
  into-swap {x = x} {y = y} (later {y = z} {xs = xs} i) (later {xs = us} {ys = vs} j) = let k = into-swap {xs = xs} i j in (z ∷ k.0, later k.1, later k.2)

  into-length : {x : A} {xs ys : List A} → Into x xs ys → length ys ≡ suc (length xs)
  into-length here = refl
  into-length (later i) = ap suc (into-length i)

into-map : {A B : Type 0} (f : A → B) {x : A} {xs ys : List A} → Into x xs ys → Into (f x) (map f xs) (map f ys)
into-map f here = here
into-map f (later i) = later (into-map f i)

-- ---- side by side

stand-before : (new : List Line) {more ls hs : List Line} → AllStand more ls hs → AllStand (new ++ more) ls (new ++ hs)
stand-before new no_more = no_more
stand-before new (one_more a s i) = one_more a (stand-before new s) (into-before new i)

pub stand-both : {new more ls ms hs gs : List Line} → AllStand new ls hs → AllStand more ms gs → AllStand (new ++ more) (ls ++ ms) (hs ++ gs)
stand-both {new} no_more t = stand-before new t
stand-both {gs = gs} (one_more a s i) t = one_more a (stand-both s t) (into-after gs i)

-- as many lines as came, and the new ones
pub as_many : {new ls hs : List Line} → AllStand new ls hs → length hs ≡ length ls + length new
as_many {new} no_more = omega arith
as_many (one_more a s i) = omega (arith, into-length i, as_many s)

-- ---- each by itself

pub stand-each : (f : Line → Line) (ls : List Line) → All (λ l. Converted l (f l)) ls → AllStand [] ls (map f ls)
stand-each f [] a = no_more
stand-each f (l ∷ ls) a = one_more a.0 (stand-each f ls a.1) here

-- or one made where there is none
pub stand-made : (f : Line → Line) (made : Line) (ls : List Line) → All (λ l. Converted l (f l)) ls → AllStand (where_none ls made) ls (or_made (map f ls) made)
stand-made f made [] a = no_more
stand-made f made (l ∷ ls) a = stand-each f (l ∷ ls) a

-- changed again
pub stand-map : (f : Line → Line) → ((l h : Line) → Converted l h → Converted l (f h)) → {new ls hs : List Line} → AllStand new ls hs → AllStand (map f new) ls (map f hs)
stand-map f g no_more = no_more
stand-map f g (one_more {l} {h} a s i) = one_more (g l h a) (stand-map f g s) (into-map f i)

-- ---- in another order

pub data Reordered {A : Type 0} : List A → List A → Type 0 where
  none_left : Reordered [] []
  one_placed : {x : A} {xs ys zs : List A} → Reordered xs ys → Into x ys zs → Reordered (x ∷ xs) zs

-- a line of those that stand, taken out
taken_out : {new : List Line} {l : Line} {ls ms hs : List Line} → Into l ls ms → AllStand new ms hs → (h : Line) × (gs : List Line) × Converted l h × AllStand new ls gs × Into h gs hs
taken_out here (one_more {h = h} {hs = gs} a s i) = (h, gs, a, s, i)
taken_out (later j) (one_more a s i) =
    let t = taken_out j s in
    let k = into-swap t.4 i in
    (t.0, k.0, t.2, one_more a t.3 k.1, k.2)

pub stand-reordered : {new ls ms hs : List Line} → Reordered ls ms → AllStand new ms hs → AllStand new ls hs
stand-reordered none_left s = s
stand-reordered (one_placed r i) s = let t = taken_out i s in one_more t.2 (stand-reordered r t.3) t.4
