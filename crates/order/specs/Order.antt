-- Strict total orders, given by a comparison with three answers.
--
--   TotalOrder K cmp  cmp is a strict total order of K: four laws
--   Below cmp a b     a is below b
--   UpTo cmp a b      a is not above b
--   below cmp a b     the test of Below
--   turned o          the answer for the two arguments swapped
--   by_test lt        the comparison that a test "is below" gives
--   compare_nat       unsigned numbers; bytes
--   compare_int       signed numbers: kind 0 keys
--   lex cmp           lists by their elements, a beginning before its extension: kind 1 keys
use Rattle.std.specs.Prelude.{ℕ, ◌≡◌, Bool, cond, List, [], ◌∷◌, ltb, ℤ}
use Rattle.std.specs.Int.Signed.{lt_z}
use Rattle.std.specs.Ordering.{is_lt, ordering_reverse, ordering_then}
use Rattle.std.specs.declared.cmp.Ordering.{Ordering}
use Rattle.std.specs.declared.cmp.Ordering.TheVariants.{Less, Equal, Greater}

abbrev pub turned : Ordering → Ordering
turned o = ordering_reverse o

abbrev pub is_less : Ordering → Bool
is_less o = is_lt o

pub record TotalOrder (K : Type 0) (cmp : K → K → Ordering) : Type 0 where
  pub self : (a : K) → cmp a a ≡ Equal
  pub same : (a b : K) → cmp a b ≡ Equal → a ≡ b
  pub flip : (a b : K) → cmp b a ≡ turned (cmp a b)
  pub trans : (a b c : K) → cmp a b ≡ Less → cmp b c ≡ Less → cmp a c ≡ Less

module _ {K : Type 0} (cmp : K → K → Ordering) where
  abbrev pub Below : K → K → Type 0
  Below a b = cmp a b ≡ Less

  abbrev pub UpTo : K → K → Type 0
  UpTo a b = ¬ (cmp b a ≡ Less)

  abbrev pub below : K → K → Bool
  below a b = is_less (cmp a b)

-- ## The orders of document 01
abbrev pub by_test : {K : Type 0} → (K → K → Bool) → K → K → Ordering
by_test lt a b = cond (lt a b) Less (cond (lt b a) Greater Equal)

abbrev pub compare_nat : ℕ → ℕ → Ordering
compare_nat = by_test ltb

abbrev pub compare_int : ℤ → ℤ → Ordering
compare_int = by_test lt_z

-- the first answer, unless it is Equal
abbrev pub then : Ordering → Ordering → Ordering
then o p = ordering_then o p

-- "ordered by byte, a beginning before its extension"
abbrev pub lex : {A : Type 0} → (A → A → Ordering) → List A → List A → Ordering
lex cmp [] [] = Equal
lex cmp [] (y ∷ ys) = Less
lex cmp (x ∷ xs) [] = Greater
lex cmp (x ∷ xs) (y ∷ ys) = then (cmp x y) (lex cmp xs ys)
