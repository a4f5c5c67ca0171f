-- Laws of recorded counts: one step of summing several, and one count by its number.
--
--   Summing s left i sum answer  the answer of a loop that has `left` counts to add from place i on, with the sum so far
use Prim.Native.Nat.{ℕ, ◌+◌, ◌-◌, ◌≤◌, ◌<◌}
use Rattle.std.proofs.Math.Path.{◌≡◌, refl, ap}
use Rattle.std.proofs.Common.{sym, ◌∙◌, true≢false}
use Rattle.std.specs.Prelude.{List, Bool, get_or, None, Option, Some}
use Rattle.std.proofs.Math.Bool.{true, false, cond}
use native.Mathlib.Omega.{arith}
use borrow.Author.Tests.{lt-ltb, le-ltb, ltb-true}
use Rattle.std.proofs.Math.Dec.{ltb}
use Rattle.numeral.specs.declared.Numeral.{Numeral}
use Rattle.numeral.specs.Var.{var_at}
use Rattle.item.specs.declared.Counted.{Counted}
use Rattle.item.specs.Step.{Step, got, bad, on_step, after, up_to}
use Rattle.item.specs.StepLaws.{on_some, get_d_elem, after_more, after_bad, up_to_past, up_to_nth, item_of}
use Rattle.item.specs.Item.{on_numeral, count_limit, count_at, counted_of, counted}

module _ (s : List ℕ) where
  -- ## One count
  pub count_bad : (i sum : ℕ) → var_at count_limit s i ≡ None → count_at s (i, sum) ≡ bad
  unfolding count_at
  count_bad i sum e = rw e

  module _ (i sum : ℕ) {n : Numeral} (e : var_at count_limit s i ≡ Some n) where
    pub count_at_lem : sum + n.value < count_limit → count_at s (i, sum) ≡ got n.value (n.next, sum + n.value)
    unfolding count_at
    count_at_lem h = rw (e, lt-ltb (sum + n.value) count_limit h)

    -- "the count that takes it there can't be read"
    pub count_over : count_limit ≤ sum + n.value → count_at s (i, sum) ≡ bad
    unfolding count_at
    count_over h = rw (e, le-ltb (sum + n.value) count_limit h)

  -- a count that reads is in the sum, which stays below 2^48
  pub count_sum : (c : ℕ × ℕ) {v : ℕ} {d : ℕ × ℕ} → count_at s c ≡ got v d → (d.1 ≡ c.1 + v) × (d.1 < count_limit)
  unfolding count_at
  count_sum c {v} {d} e = go (var_at count_limit s c.0) e
    where
      by : (u next : ℕ) (t : Bool) → ltb (c.1 + u) count_limit ≡ t → cond t (got u (next, c.1 + u)) bad ≡ got v d
          → (d.1 ≡ c.1 + v) × (d.1 < count_limit)
      by u next true q h =
          let l = ltb-true (c.1 + u) count_limit q in
          let f : u ≡ v = cc in
          let p : ◌≡◌ {A = ℕ × ℕ} (next, c.1 + u) d = cc in
          let g : c.1 + u ≡ d.1 = ap (λ (x : ℕ × ℕ). x.1) p in
          (omega arith, omega arith)
      by u next false q h = absurd (true≢false cc)

      go : (r : Option Numeral) → on_numeral r bad (λ u next. cond (ltb (c.1 + u) count_limit) (got u (next, c.1 + u)) bad) ≡ got v d
          → (d.1 ≡ c.1 + v) × (d.1 < count_limit)
      go (Some n) h = by n.value n.next (ltb (c.1 + n.value) count_limit) refl h
      go None h = absurd (true≢false cc)

-- ## A loop
pub record Summing (s : List ℕ) (left i sum : ℕ) (answer : Option Counted) : Type 0 where
  pub so_far : counted_of (after (count_at s) left (i, sum)) ≡ answer

pub sum_begins : (s : List ℕ) (n i : ℕ) → Summing s n i 0 (counted s n i)
unfolding counted
sum_begins s n i = record { so_far = refl }

module _ {s : List ℕ} {left i sum : ℕ} {answer : Option Counted} (l : Summing s left i sum answer) where
  pub sum_none : left ≤ 0 → Some (record { total = sum; next = i }) ≡ answer
  unfolding after
  sum_none h = let e : left ≡ 0 = omega arith in rw e at l.so_far

  module _ {r : Option Numeral} (h : 0 < left) (e : r ≡ var_at count_limit s i) where
    pub sum_bad : r ≡ None → None ≡ answer
    sum_bad t = rw (after_bad (count_at s) left (i, sum) h (count_bad s i sum (sym e ∙ t))) at l.so_far

    module _ {n : Numeral} (t : r ≡ Some n) where
      pub sum_over : count_limit ≤ sum + n.value → None ≡ answer
      sum_over k = rw (after_bad (count_at s) left (i, sum) h (count_over s i sum (sym e ∙ t) k)) at l.so_far

      pub sum_more : sum + n.value < count_limit → Summing s (left - 1) n.next (sum + n.value) answer
      sum_more k = record { so_far = rw (after_more (count_at s) left (i, sum) h (count_at_lem s i sum (sym e ∙ t) k)) at l.so_far }

-- ## A count by its number
module _ (s : List ℕ) (n at k : ℕ) where
  -- the count at a cursor; 0 where there is none
  count_of : ℕ × ℕ → ℕ
  count_of c = on_step (count_at s c) 0 (λ a d. a)

  nth_count : k < n → get_or (up_to (count_at s) n (at, 0)) k 0 ≡ on_some (after (count_at s) k (at, 0)) 0 count_of
  unfolding item_of count_of
  nth_count h =
      get_d_elem (up_to (count_at s) n (at, 0)) k 0
      ∙ ap (λ (o : Option ℕ). on_some o 0 (λ a. a)) (up_to_nth (count_at s) n k (at, 0) h)
      ∙ go (after (count_at s) k (at, 0))
    where
      by : (t : Step ℕ (ℕ × ℕ)) → on_some (on_step t None (λ a d. Some a)) 0 (λ a. a) ≡ on_step t 0 (λ a d. a)
      by (got a d) = refl
      by bad = refl

      go : (o : Option (ℕ × ℕ)) → on_some (on_some o None (item_of (count_at s))) 0 (λ a. a) ≡ on_some o 0 count_of
      go (Some c) = by (count_at s c)
      go None = refl

  pub nth_count_past : n ≤ k → get_or (up_to (count_at s) n (at, 0)) k 0 ≡ 0
  nth_count_past h = get_d_elem (up_to (count_at s) n (at, 0)) k 0 ∙ rw (up_to_past (count_at s) n k (at, 0) h)

  pub nth_count_stuck : k < n → counted s k at ≡ None → get_or (up_to (count_at s) n (at, 0)) k 0 ≡ 0
  unfolding counted
  nth_count_stuck h e = nth_count h ∙ go (after (count_at s) k (at, 0)) e
    where
      go : (o : Option (ℕ × ℕ)) → counted_of o ≡ None → on_some o 0 count_of ≡ 0
      go (Some c) q = absurd (true≢false cc)
      go None q = refl

  module _ {m : Counted} (h : k < n) (e : counted s k at ≡ Some m) where
    nth_count_sum : get_or (up_to (count_at s) n (at, 0)) k 0 ≡ on_step (count_at s (m.next, m.total)) 0 (λ a d. a)
    unfolding counted count_of
    nth_count_sum = nth_count h ∙ go (after (count_at s) k (at, 0)) e
      where
        go : (o : Option (ℕ × ℕ)) → counted_of o ≡ Some m → on_some o 0 count_of ≡ count_of (m.next, m.total)
        go (Some (j, t)) q =
            let f : record { total = t; next = j } ≡ m = cc in
            rw (← f)
        go None q = absurd (true≢false cc)

    pub nth_count_bad : var_at count_limit s m.next ≡ None → get_or (up_to (count_at s) n (at, 0)) k 0 ≡ 0
    nth_count_bad b = nth_count_sum ∙ rw (count_bad s m.next m.total b)

    pub nth_count_over : {r : Numeral} → var_at count_limit s m.next ≡ Some r → count_limit ≤ m.total + r.value → get_or (up_to (count_at s) n (at, 0)) k 0 ≡ 0
    nth_count_over r l = nth_count_sum ∙ rw (count_over s m.next m.total r l)

    pub nth_count_at : {r : Numeral} → var_at count_limit s m.next ≡ Some r → m.total + r.value < count_limit → get_or (up_to (count_at s) n (at, 0)) k 0 ≡ r.value
    nth_count_at r l = nth_count_sum ∙ rw (count_at_lem s m.next m.total r l)
