-- Laws of the table: its numbers are 1 to 16, and each refusal stands at its own.
use Rattle.std.specs.Prelude.{ℕ, zero, suc, ◌+◌, ◌≤◌, ◌<◌, ◌≡◌, refl, ◌&&◌, ◌⊎◌, List, [], ◌∷◌, leb, is_some, length, get_or, Some, None, slice_get}
use Rattle.std.proofs.Common.{ap, arith, inl, inr}
use Rattle.std.proofs.lemmas.Option.{slice_get_cases}
use borrow.Author.Tests.{le-leb, lt-leb}
use Rattle.refusal.specs.declared.Refusal.{Refusal}
use Rattle.refusal.specs.declared.Refusal.TheVariants.{Argument, ImageSize, NoHeader, NoStart, NotLocated, NinthQuestion, Place, CheckValue, MapOrType, Contents, TooDeep, Unsound, NoSuchName, NotANumber, Index, AreaTooSmall}
use Rattle.refusal.specs.Refusal.{number_of, table, refusal_of}

pub table_number : (r : Refusal) → refusal_of (number_of r) ≡ Some r
table_number Argument = refl
table_number ImageSize = refl
table_number NoHeader = refl
table_number NoStart = refl
table_number NotLocated = refl
table_number NinthQuestion = refl
table_number Place = refl
table_number CheckValue = refl
table_number MapOrType = refl
table_number Contents = refl
table_number TooDeep = refl
table_number Unsound = refl
table_number NoSuchName = refl
table_number NotANumber = refl
table_number Index = refl
table_number AreaTooSmall = refl

-- refusals whose numbers follow each other from n on
abbrev NumberedFrom : ℕ → List Refusal → Type 0
NumberedFrom n [] = Unit {0}
NumberedFrom n (r ∷ rs) = (number_of r ≡ n) × NumberedFrom (suc n) rs

numbered_at : (n : ℕ) (rs : List Refusal) → NumberedFrom n rs → (i : ℕ) {r : Refusal} → slice_get rs i ≡ Some r → number_of r ≡ i + n
numbered_at n [] p i e = cc
numbered_at n (x ∷ xs) p zero {r} e =
    let same : x ≡ r = cc in
    let q = ap number_of same in
    let first = p.0 in
    omega (arith, q, first)
numbered_at n (x ∷ xs) p (suc i) e = let q = numbered_at (suc n) xs p.1 i e in omega (arith, q)

pub number_table : (n : ℕ) {r : Refusal} → refusal_of n ≡ Some r → number_of r ≡ n
number_table zero e = cc
number_table (suc n) e =
    let q = numbered_at 1 table (refl, (refl, (refl, (refl, (refl, (refl, (refl, (refl, (refl, (refl, (refl, (refl, (refl, (refl, (refl, (refl, tt)))))))))))))))) n e in
    omega (arith, q)

pub within_table : (n : ℕ) → (leb 1 n && leb n 16) ≡ is_some (refusal_of n)
within_table zero = refl
within_table (suc n) = go (slice_get_cases table n).1
  where
    go : ((x : Refusal) × (n < length table) × (slice_get table n ≡ Some x) × (get_or table n x ≡ x)) ⊎ ((length table ≤ n) × (slice_get table n ≡ None))
        → (leb 1 (suc n) && leb (suc n) 16) ≡ is_some (slice_get table n)
    go (inl (x, h, e, _)) = let few : n < 16 = h in rw (le-leb 1 (suc n) (omega arith), le-leb (suc n) 16 (omega (arith, few)), e)
    go (inr (h, e)) = let many : 16 ≤ n = h in rw (le-leb 1 (suc n) (omega arith), lt-leb (suc n) 16 (omega (arith, many)), e)
