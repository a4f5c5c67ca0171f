-- The order of texts by their parts, as a loop goes through them.
use Prim.Native.Nat.{ℕ, zero, suc, ◌+◌, ◌*◌, ◌-◌, ◌≤◌, ◌<◌}
use Rattle.std.specs.Prelude.{◌≡◌, Bool, true, false, cond, List, [], ◌∷◌, ◌++◌, ltb, min, length, get_or, take, drop}
use Rattle.std.proofs.Math.Path.{refl}
use Rattle.std.proofs.Common.{sym, ◌∙◌, zero-add, add-one, arith, lt-ltb, le-ltb, ltb-true, ltb-false, take-append-drop, drop_of_length-le, drop-cons, take-add, take_all, length-take-le}
use Rattle.std.specs.declared.cmp.Ordering.{Ordering}
use Rattle.std.specs.declared.cmp.Ordering.TheVariants.{Less, Equal, Greater}
use Rattle.std.specs.Ordering.{nat_cmp, ordering_then, is_ne}
use Rattle.std.specs.Cmp.Lexicographic.{slice_cmp}
use Rattle.std.proofs.lemmas.Bool.Decides.{nat_tests}
use Rattle.order.specs.Order.{compare_nat, then}
use Rattle.numeral.specs.BigEndian.{big_endian, big_endian_at}
use Rattle.numeral.specs.BigEndianLaws.{big_endian_at_inside}
use Rattle.key.specs.Key.{texts_order}
use Rattle.key.specs.Raised.{same_test}

then_equal : (o : Ordering) → then o Equal ≡ o
then_equal Less = refl
then_equal Equal = refl
then_equal Greater = refl

then_first : (o p : Ordering) → then o p ≡ Equal → o ≡ Equal
then_first Less p e = e
then_first Equal p e = refl
then_first Greater p e = e

then_assoc : (o p q : Ordering) → then (then o p) q ≡ then o (then p q)
then_assoc Less p q = refl
then_assoc Equal p q = refl
then_assoc Greater p q = refl

-- ## std's orders are these
pub std_then : (o p : Ordering) → ordering_then o p ≡ then o p
std_then Less p = refl
std_then Equal p = refl
std_then Greater p = refl

pub std_compare : (x y : ℕ) → nat_cmp x y ≡ compare_nat x y
std_compare x y = grind (arith, nat_tests)

pub std_texts : (a b : List ℕ) → slice_cmp nat_cmp a b ≡ texts_order a b
std_texts [] [] = refl
std_texts [] (y ∷ b) = refl
std_texts (x ∷ a) [] = refl
std_texts (x ∷ a) (y ∷ b) = rw (std_compare x y, std_texts a b) (std_then (compare_nat x y) (texts_order a b))

-- an answer that is not Equal stands, whatever comes after
pub ne_first : (o : Ordering) → is_ne o ≡ true → (p : Ordering) → then o p ≡ o
ne_first Less e p = refl
ne_first Equal e p = cc
ne_first Greater e p = refl

pub ne_equal : (o : Ordering) → is_ne o ≡ false → o ≡ Equal
ne_equal Less e = cc
ne_equal Equal e = refl
ne_equal Greater e = cc

-- ## Two parts, of which the first are equally long
texts_append : (p q x y : List ℕ) → length p ≡ length q → texts_order (p ++ x) (q ++ y) ≡ then (texts_order p q) (texts_order x y)
texts_append [] [] x y h = refl
texts_append [] (d ∷ q) x y h = absurd (omega arith)
texts_append (c ∷ p) [] x y h = absurd (omega arith)
texts_append (c ∷ p) (d ∷ q) x y h =
    rw (texts_append p q x y (omega arith)) (sym (then_assoc (compare_nat c d) (texts_order p q) (texts_order x y)))

module _ (a b : List ℕ) (i : ℕ) (h : i ≤ length a) (k : i ≤ length b) where
  same_take : length (take i a) ≡ length (take i b)
  same_take = length-take-le i a h ∙ sym (length-take-le i b k)

  texts_split : texts_order a b ≡ then (texts_order (take i a) (take i b)) (texts_order (drop i a) (drop i b))
  texts_split =
      let e = texts_append (take i a) (take i b) (drop i a) (drop i b) same_take in
      rw (take-append-drop i a, take-append-drop i b) at e

  texts_take : (w : ℕ)
      → texts_order (take (i + w) a) (take (i + w) b)
      ≡ then (texts_order (take i a) (take i b)) (texts_order (take w (drop i a)) (take w (drop i b)))
  texts_take w =
      rw (take-add i w a, take-add i w b) (texts_append (take i a) (take i b) (take w (drop i a)) (take w (drop i b)) same_take)

module _ (a b : List ℕ) where
  -- ## The first i bytes are the same
  module _ (i : ℕ) (h : i ≤ length a) (k : i ≤ length b) (e : texts_order (take i a) (take i b) ≡ Equal) where
    -- of the next, those decide
    pub texts_on : (w : ℕ) → texts_order (take (i + w) a) (take (i + w) b) ≡ texts_order (take w (drop i a)) (take w (drop i b))
    texts_on w = texts_take a b i h k w ∙ rw e

    pub texts_rest : texts_order a b ≡ texts_order (drop i a) (drop i b)
    texts_rest = texts_split a b i h k ∙ rw e

    -- so are fewer
    pub texts_fewer : (j : ℕ) → j ≤ i → texts_order (take j a) (take j b) ≡ Equal
    texts_fewer j l =
        let n : j + (i - j) ≡ i = omega arith in
        let t = texts_take a b j (omega arith) (omega arith) (i - j) in
        then_first (texts_order (take j a) (take j b)) (texts_order (take (i - j) (drop j a)) (take (i - j) (drop j b))) (sym t ∙ rw n e)

  -- ## The first i bytes differ: no later byte matters
  module _ (i : ℕ) (h : i ≤ length a) (k : i ≤ length b) (o : Ordering) (differ : (p : Ordering) → then o p ≡ o)
      (e : texts_order (take i a) (take i b) ≡ o) where
    pub texts_differ : texts_order a b ≡ o
    texts_differ = texts_split a b i h k ∙ rw e (differ (texts_order (drop i a) (drop i b)))

    pub texts_differ_in : (n : ℕ) → i ≤ n → texts_order (take n a) (take n b) ≡ o
    texts_differ_in n l =
        let m : i + (n - i) ≡ n = omega arith in
        let t : texts_order (take (i + (n - i)) a) (take (i + (n - i)) b) ≡ o =
        texts_take a b i h k (n - i) ∙ rw e (differ (texts_order (take (n - i) (drop i a)) (take (n - i) (drop i b))))
        in
        rw m at t

  -- ## One byte, and the end
  module _ (i : ℕ) where
    texts_one : i < length a → i < length b
        → texts_order (take 1 (drop i a)) (take 1 (drop i b)) ≡ compare_nat (get_or a i 0) (get_or b i 0)
    texts_one h k = rw (drop-cons a i 0 h, drop-cons b i 0 k) (then_equal (compare_nat (get_or a i 0) (get_or b i 0)))

    pub texts_byte : i < length a → i < length b → texts_order (take i a) (take i b) ≡ Equal
        → texts_order (take (i + 1) a) (take (i + 1) b) ≡ compare_nat (get_or a i 0) (get_or b i 0)
    texts_byte h k e = texts_on i (omega arith) (omega arith) e 1 ∙ texts_one h k

    pub texts_end : length a ≤ i → length b ≤ i → texts_order (drop i a) (drop i b) ≡ Equal
    texts_end h k = rw (drop_of_length-le a h, drop_of_length-le b k)

    -- "a beginning before its extension"
    pub texts_beginning : length a ≤ i → i < length b → texts_order (drop i a) (drop i b) ≡ Less
    texts_beginning h k = rw (drop_of_length-le a h, drop-cons b i 0 k)

    pub texts_extension : i < length a → length b ≤ i → texts_order (drop i a) (drop i b) ≡ Greater
    texts_extension h k = rw (drop-cons a i 0 h, drop_of_length-le b k)

-- ## As many bytes as both have decide, and then the lengths
module _ (a b : List ℕ) (n : ℕ) (both : n ≡ min (length a) (length b)) where
  after_both : texts_order (drop n a) (drop n b) ≡ compare_nat (length a) (length b)
  after_both = go (ltb (length a) (length b)) (ltb (length b) (length a)) refl refl
    where
      go : (s t : Bool) → ltb (length a) (length b) ≡ s → ltb (length b) (length a) ≡ t
          → texts_order (drop n a) (drop n b) ≡ cond s Less (cond t Greater Equal)
      go true t p q = let l = ltb-true (length a) (length b) p in texts_beginning a b n (omega arith) (omega arith)
      go false true p q = let l = ltb-true (length b) (length a) q in texts_extension a b n (omega arith) (omega arith)
      go false false p q =
          let l = ltb-false (length a) (length b) p in
          let m = ltb-false (length b) (length a) q in
          texts_end a b n (omega arith) (omega arith)

  pub texts_both : texts_order a b ≡ then (texts_order (take n a) (take n b)) (compare_nat (length a) (length b))
  texts_both = texts_split a b n (omega arith) (omega arith) ∙ rw after_both

-- ## Bytes compare as the number that they are, high byte first
-- one digit more
compare_digit : (m n x y : ℕ) → x < 256 → y < 256 → compare_nat (m * 256 + x) (n * 256 + y) ≡ then (compare_nat m n) (compare_nat x y)
compare_digit m n x y hx hy = go (ltb m n) (ltb n m) refl refl
  where
    go : (s t : Bool) → ltb m n ≡ s → ltb n m ≡ t
        → compare_nat (m * 256 + x) (n * 256 + y) ≡ then (cond s Less (cond t Greater Equal)) (compare_nat x y)
    go true t p q = rw (lt-ltb (m * 256 + x) (n * 256 + y) (omega (arith, ltb-true m n p)))
    go false true p q =
        rw (
          le-ltb (m * 256 + x) (n * 256 + y) (omega (arith, ltb-true n m q)),
          lt-ltb (n * 256 + y) (m * 256 + x) (omega (arith, ltb-true n m q)),
        )
    go false false p q =
        let e : m ≡ n = omega (arith, ltb-false m n p, ltb-false n m q) in
        rw (
          same_test (m * 256 + x) (n * 256 + y) x y (omega arith) (omega arith),
          same_test (n * 256 + y) (m * 256 + x) y x (omega arith) (omega arith),
        )

module _ (a b : List ℕ) (bytes_a : (k : ℕ) → get_or a k 0 < 256) (bytes_b : (k : ℕ) → get_or b k 0 < 256) where
  texts_number : (w : ℕ) → w ≤ length a → w ≤ length b → texts_order (take w a) (take w b) ≡ compare_nat (big_endian w a 0) (big_endian w b 0)
  unfolding big_endian
  texts_number zero h k = refl
  texts_number (suc w) h k =
      let first = texts_number w (omega arith) (omega arith) in
      let next = texts_one a b w (omega arith) (omega arith) in
      let both = texts_take a b w (omega arith) (omega arith) 1 in
      (rw (add-one w, first, next) at both)
      ∙ rw (zero-add w) (sym (compare_digit (big_endian w a 0) (big_endian w b 0) (get_or a w 0) (get_or b w 0) (bytes_a w) (bytes_b w)))

  pub texts_word : (w : ℕ) → length a ≡ w → length b ≡ w → texts_order a b ≡ compare_nat (big_endian_at w a 0) (big_endian_at w b 0)
  texts_word w h k =
      let e = texts_number w (omega arith) (omega arith) in
      rw (big_endian_at_inside w a 0 (omega arith), big_endian_at_inside w b 0 (omega arith))
      (rw (take_all w a (omega arith), take_all w b (omega arith)) at e)
