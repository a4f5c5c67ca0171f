-- The orders of document 01 are strict total orders: unsigned numbers, signed numbers, lists.
--
--   by_test_order  of the comparison that a test gives
--   nat_order, int_order, lex_order
use Rattle.std.specs.Prelude.{ℕ, ◌<◌, ◌≡◌, refl, Bool, true, false, cond, List, [], ◌∷◌, ◌++◌, ltb, ℤ, pos, negsuc}
use Rattle.std.proofs.Common.{ap, arith, ltb-true, ltb-false, lt-ltb, le-ltb}
use Rattle.std.specs.Int.Signed.{lt_z}
use Rattle.std.specs.declared.cmp.Ordering.{Ordering}
use Rattle.std.specs.declared.cmp.Ordering.TheVariants.{Less, Equal, Greater}
use Rattle.order.specs.Order.{turned, is_less, TotalOrder, Below, below, by_test, compare_nat, compare_int, then, lex}

-- ## A comparison by a test
pub record StrictTest (K : Type 0) (lt : K → K → Bool) : Type 0 where
  pub irreflexive : (a : K) → lt a a ≡ false
  pub transitive : (a b c : K) → lt a b ≡ true → lt b c ≡ true → lt a c ≡ true
  pub connected : (a b : K) → lt a b ≡ false → lt b a ≡ false → a ≡ b

module _ {K : Type 0} (lt : K → K → Bool) where
  pub by_test_less : (a b : K) → by_test lt a b ≡ Less → lt a b ≡ true
  by_test_less a b e = go (lt a b) (lt b a) e
    where
      go : (s t : Bool) → cond s Less (cond t Greater Equal) ≡ Less → s ≡ true
      go true t e = refl
      go false true e = cc
      go false false e = cc

  pub less_by_test : (a b : K) → lt a b ≡ true → by_test lt a b ≡ Less
  less_by_test a b e = rw e

  -- "is below" by the comparison is the test
  pub below_by_test : (a b : K) → below (by_test lt) a b ≡ lt a b
  below_by_test a b = go (lt a b) (lt b a)
    where
      go : (s t : Bool) → is_less (cond s Less (cond t Greater Equal)) ≡ s
      go true t = refl
      go false true = refl
      go false false = refl

module _ {K : Type 0} {lt : K → K → Bool} (S : StrictTest K lt) where
  by_test_same : (a b : K) → by_test lt a b ≡ Equal → a ≡ b
  by_test_same a b e = go (lt a b) (lt b a) refl refl e
    where
      go : (s t : Bool) → lt a b ≡ s → lt b a ≡ t → cond s Less (cond t Greater Equal) ≡ Equal → a ≡ b
      go true t p q e = cc
      go false true p q e = cc
      go false false p q e = S.connected a b p q

  by_test_flip : (a b : K) → by_test lt b a ≡ turned (by_test lt a b)
  by_test_flip a b = go (lt a b) (lt b a) refl refl
    where
      go : (s t : Bool) → lt a b ≡ s → lt b a ≡ t → cond t Less (cond s Greater Equal) ≡ turned (cond s Less (cond t Greater Equal))
      go true true p q =
          let z = S.transitive a b a p q in
          let i = S.irreflexive a in
          cc
      go true false p q = refl
      go false true p q = refl
      go false false p q = refl

  pub by_test_order : TotalOrder K (by_test lt)
  by_test_order =
      record {
        self = λ a. rw (S.irreflexive a);
        same = by_test_same;
        flip = by_test_flip;
        trans = λ a b c p q. less_by_test lt a c (S.transitive a b c (by_test_less lt a b p) (by_test_less lt b c q));
      }

-- ## Numbers
nat_test : StrictTest ℕ ltb
nat_test =
    record {
      irreflexive = λ a. le-ltb a a (omega arith);
      transitive = λ a b c p q. lt-ltb a c (omega (arith, ltb-true a b p, ltb-true b c q));
      connected = λ a b p q. omega (arith, ltb-false a b p, ltb-false b a q);
    }

pub nat_order : TotalOrder ℕ compare_nat
nat_order = by_test_order nat_test

pub nat_less : (a b : ℕ) → Below compare_nat a b → a < b
nat_less a b h = ltb-true a b (by_test_less ltb a b h)

pub less_nat : (a b : ℕ) → a < b → Below compare_nat a b
less_nat a b h = less_by_test ltb a b (lt-ltb a b h)

-- "Key -1 before 0"
pub negative_below : (a b : ℕ) → Below compare_int (negsuc a) (pos b)
negative_below a b = refl

int_irreflexive : (a : ℤ) → lt_z a a ≡ false
int_irreflexive (pos a) = nat_test.irreflexive a
int_irreflexive (negsuc a) = nat_test.irreflexive a

int_transitive : (a b c : ℤ) → lt_z a b ≡ true → lt_z b c ≡ true → lt_z a c ≡ true
int_transitive (pos a) (pos b) (pos c) p q = nat_test.transitive a b c p q
int_transitive (pos a) (pos b) (negsuc c) p q = q
int_transitive (pos a) (negsuc b) c p q = cc
int_transitive (negsuc a) b (pos c) p q = refl
int_transitive (negsuc a) (pos b) (negsuc c) p q = cc
int_transitive (negsuc a) (negsuc b) (negsuc c) p q = nat_test.transitive c b a q p

int_connected : (a b : ℤ) → lt_z a b ≡ false → lt_z b a ≡ false → a ≡ b
int_connected (pos a) (pos b) p q = ap pos (nat_test.connected a b p q)
int_connected (pos a) (negsuc b) p q = cc
int_connected (negsuc a) (pos b) p q = cc
int_connected (negsuc a) (negsuc b) p q = ap negsuc (nat_test.connected a b q p)

pub int_order : TotalOrder ℤ compare_int
int_order =
    by_test_order (record { irreflexive = int_irreflexive; transitive = int_transitive; connected = int_connected })

-- ## Lists, a beginning before its extension
turned_then : (a b : Ordering) → turned (then a b) ≡ then (turned a) (turned b)
turned_then Less b = refl
turned_then Equal b = refl
turned_then Greater b = refl

module _ {A : Type 0} {cmp : A → A → Ordering} (L : TotalOrder A cmp) where
  lex_self : (a : List A) → lex cmp a a ≡ Equal
  lex_self [] = refl
  lex_self (x ∷ xs) = rw (L.self x) (lex_self xs)

  -- "a beginning before its extension"
  pub beginning_below : (a : List A) (x : A) (xs : List A) → Below (lex cmp) a (a ++ (x ∷ xs))
  beginning_below [] x xs = refl
  beginning_below (y ∷ a) x xs = rw (L.self y) (beginning_below a x xs)

  lex_same : (a b : List A) → lex cmp a b ≡ Equal → a ≡ b
  lex_same [] [] e = refl
  lex_same [] (y ∷ ys) e = cc
  lex_same (x ∷ xs) [] e = cc
  lex_same (x ∷ xs) (y ∷ ys) e = go (λ h. lex_same xs ys h) (cmp x y) refl e
    where
      go : (lex cmp xs ys ≡ Equal → xs ≡ ys) → (o : Ordering) → cmp x y ≡ o → then o (lex cmp xs ys) ≡ Equal → (x ∷ xs) ≡ (y ∷ ys)
      go ih Less c e = cc
      go ih Equal c e = λ i. L.same x y c i ∷ ih e i
      go ih Greater c e = cc

  lex_flip : (a b : List A) → lex cmp b a ≡ turned (lex cmp a b)
  lex_flip [] [] = refl
  lex_flip [] (y ∷ ys) = refl
  lex_flip (x ∷ xs) [] = refl
  lex_flip (x ∷ xs) (y ∷ ys) = rw (L.flip x y, lex_flip xs ys, turned_then)

  -- first elements, then r, s and t for what the rests give
  then_trans : (x y z : A) (r s t : Ordering) → (r ≡ Less → s ≡ Less → t ≡ Less) → then (cmp x y) r ≡ Less → then (cmp y z) s ≡ Less
      → then (cmp x z) t ≡ Less
  then_trans x y z r s t f p q = go (cmp x y) (cmp y z) refl refl p q
    where
      go : (a b : Ordering) → cmp x y ≡ a → cmp y z ≡ b → then a r ≡ Less → then b s ≡ Less → then (cmp x z) t ≡ Less
      go Less Less e g p q = rw (L.trans x y z e g)
      go Less Equal e g p q = rw (← (L.same y z g), e)
      go Less Greater e g p q = cc
      go Equal Less e g p q = rw (L.same x y e, g)
      go Equal Equal e g p q = rw (L.same x y e, g) (f p q)
      go Equal Greater e g p q = cc
      go Greater b e g p q = cc

  lex_trans : (a b c : List A) → lex cmp a b ≡ Less → lex cmp b c ≡ Less → lex cmp a c ≡ Less
  lex_trans [] [] c p q = q
  lex_trans [] (y ∷ ys) [] p q = cc
  lex_trans [] (y ∷ ys) (z ∷ zs) p q = refl
  lex_trans (x ∷ xs) [] c p q = cc
  lex_trans (x ∷ xs) (y ∷ ys) [] p q = cc
  lex_trans (x ∷ xs) (y ∷ ys) (z ∷ zs) p q =
      then_trans x y z (lex cmp xs ys) (lex cmp ys zs) (lex cmp xs zs) (lex_trans xs ys zs) p q

  pub lex_order : TotalOrder (List A) (lex cmp)
  lex_order = record { self = lex_self; same = lex_same; flip = lex_flip; trans = lex_trans }
