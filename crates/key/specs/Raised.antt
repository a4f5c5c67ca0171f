-- How the code compares number keys: it keeps them as their 64 bits, and raised by 2^63 those are in the order of the signed numbers.
use Rattle.std.specs.Prelude.{ℕ, suc, ◌+◌, ◌-◌, ◌^◌, ◌<◌, ◌≤◌, ◌≡◌, refl, Bool, true, false, cond, ltb}
use Rattle.std.proofs.Common.{sym, ◌∙◌, arith, lt-ltb, le-ltb, ltb-true, ltb-false, to_z}
use Rattle.std.specs.Int.Signed.{lt_z}
use Rattle.std.specs.Int.{w64}
use Rattle.order.specs.Order.{compare_nat, compare_int}

unfoldable pub raised : ℕ → ℕ
raised x = cond (ltb x (2 ^ 63)) (x + 2 ^ 63) (x - 2 ^ 63)

-- two tests that say the same are equal
pub same_test : (a b c d : ℕ) → (a < b → c < d) → (c < d → a < b) → ltb a b ≡ ltb c d
same_test a b c d f g = go (ltb a b) (ltb c d) refl refl
  where
    go : (p q : Bool) → ltb a b ≡ p → ltb c d ≡ q → ltb a b ≡ ltb c d
    go true true e h = e ∙ sym h
    go true false e h = absurd (omega (arith, f (ltb-true a b e), ltb-false c d h))
    go false true e h = absurd (omega (arith, g (ltb-true c d h), ltb-false a b e))
    go false false e h = e ∙ sym h

raised_test : (a b : ℕ) → a < 2 ^ 64 → b < 2 ^ 64 → ltb (raised a) (raised b) ≡ lt_z (to_z w64 a) (to_z w64 b)
unfolding raised
raised_test a b ha hb = go (ltb a (2 ^ 63)) (ltb b (2 ^ 63)) refl refl
  where
    go : (p q : Bool) → ltb a (2 ^ 63) ≡ p → ltb b (2 ^ 63) ≡ q → ltb (raised a) (raised b) ≡ lt_z (to_z w64 a) (to_z w64 b)
    go true true p q = rw (p, q) (same_test (a + 2 ^ 63) (b + 2 ^ 63) a b (omega arith) (omega arith))
    go true false p q =
        rw (p, q) (le-ltb (a + 2 ^ 63) (b - 2 ^ 63) (omega (arith, ltb-true a (2 ^ 63) p, ltb-false b (2 ^ 63) q)))
    go false true p q =
        rw (p, q) (lt-ltb (a - 2 ^ 63) (b + 2 ^ 63) (omega (arith, ltb-true b (2 ^ 63) q, ltb-false a (2 ^ 63) p)))
    go false false p q =
        let low : 2 ^ 63 ≤ a = ltb-false a (2 ^ 63) p in
        let high : 2 ^ 63 ≤ b = ltb-false b (2 ^ 63) q in
        rw (p, q) (same_test (a - 2 ^ 63) (b - 2 ^ 63) (2 ^ 64 - suc b) (2 ^ 64 - suc a) (omega arith) (omega arith))

pub raised_order : (a b : ℕ) → a < 2 ^ 64 → b < 2 ^ 64 → compare_int (to_z w64 a) (to_z w64 b) ≡ compare_nat (raised a) (raised b)
raised_order a b ha hb = rw (raised_test a b ha hb, raised_test b a hb ha)
