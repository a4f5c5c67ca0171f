-- Pages as data, and what stands in them by number. A position is a number; what it is read as is a parameter everywhere:
-- `read : ℕ → Outcome (Page K W)`, for keys of a type K and places of values of a type W.
--
--   Children K      the children of an inner page: each a position with its recorded count, a separator between each two
--   Page K W        a leaf with its entries in page order, or an inner page with its children
--   separators cs   the keys of an inner page
--   total cs        the sum of the recorded counts
--   joined list cs  the children's lists joined, child 0 first
--   nth i es        entry number i, refused with 15 where there is none
use Rattle.std.specs.Prelude.{ℕ, zero, suc, ◌+◌, Bool, true, false, List, [], ◌∷◌, ◌++◌, Err, Ok}
use Rattle.refusal.specs.Refusal.{Outcome, bad_index}

abbrev pub branch : {A : Type 0} → Bool → A → A → A
branch true a b = a
branch false a b = b

pub data Children (K : Type 0) : Type 0 where
  last : ℕ → ℕ → Children K
  more : ℕ → ℕ → K → Children K → Children K

pub data Page (K W : Type 0) : Type 0 where
  leaf : List (K × W) → Page K W
  inner : Children K → Page K W

abbrev pub separators : {K : Type 0} → Children K → List K
separators (last p c) = []
separators (more p c s cs) = s ∷ separators cs

abbrev pub total : {K : Type 0} → Children K → ℕ
total (last p c) = c
total (more p c s cs) = c + total cs

abbrev pub joined : {K E : Type 0} → (ℕ → List E) → Children K → List E
joined list (last p c) = list p
joined list (more p c s cs) = list p ++ joined list cs

abbrev pub nth : {E : Type 0} → ℕ → List E → Outcome E
nth i [] = Err bad_index
nth zero (e ∷ es) = Ok e
nth (suc i) (e ∷ es) = nth i es

-- each of a list's elements, each of the children with its recorded count
abbrev pub All : {A : Type 0} → (A → Type 0) → List A → Type 0
All P [] = Unit {0}
All P (x ∷ xs) = P x × All P xs

abbrev pub AllChildren : {K : Type 0} → (ℕ → ℕ → Type 0) → Children K → Type 0
AllChildren P (last p c) = P p c
AllChildren P (more p c s cs) = P p c × AllChildren P cs
