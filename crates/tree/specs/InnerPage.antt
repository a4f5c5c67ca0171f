-- An inner page as it is read: n + 1 positions, n + 1 counts, n keys. What the definitions over children are there, as loops over
-- a child's number come to them. Their laws are in ChildrenLaws.
--
--   children_of ps ns ks      the children with the positions ps, the recorded counts ns and the keys ks between them
--   children_from ps ns ks j  those from number j on
--   lead cmp k ks             how many leading keys, up to the first greater one, are not greater than k
--   sum ns                    of all counts
--   examine_from .. r cs      the examination of the children cs, with the report r of those before
use Rattle.std.specs.Prelude.{ℕ, suc, ◌+◌, List, [], ◌∷◌, get_or, drop, Ok, Option, Some}
use Rattle.refusal.specs.Refusal.{Outcome, bind}
use Rattle.std.specs.declared.cmp.Ordering.{Ordering}
use Rattle.order.specs.Order.{below}
use Rattle.tree.specs.Page.{branch, Children, last, more}
use Rattle.tree.specs.declared.Report.{Report}
use Rattle.tree.specs.Examination.{counted, both}

module _ {K : Type 0} where
  abbrev pub children_of : List ℕ → List ℕ → List K → Children K
  children_of ps ns [] = last (get_or ps 0 0) (get_or ns 0 0)
  children_of ps ns (s ∷ ks) = more (get_or ps 0 0) (get_or ns 0 0) s (children_of (drop 1 ps) (drop 1 ns) ks)

  abbrev pub children_from : List ℕ → List ℕ → List K → ℕ → Children K
  children_from ps ns ks j = children_of (drop j ps) (drop j ns) (drop j ks)

  abbrev pub lead : (K → K → Ordering) → K → List K → ℕ
  lead cmp k [] = 0
  lead cmp k (s ∷ ks) = branch (below cmp k s) 0 (suc (lead cmp k ks))

  abbrev pub examine_from : (Option K → Option K → ℕ → Outcome Report) → Report → Option K → Option K → Children K → Outcome Report
  examine_from child r lo hi (last p c) = bind (bind (child lo hi p) (counted c)) (λ a. Ok (both r a))
  examine_from child r lo hi (more p c s cs) =
      bind (bind (child lo (Some s) p) (counted c)) (λ a. examine_from child (both r a) (Some s) hi cs)

abbrev pub sum : List ℕ → ℕ
sum [] = 0
sum (n ∷ ns) = n + sum ns
