-- The child that has an index: one step of the loop, and that it is the child which the tree's index takes.
--
--   pick_from s n i sum j rest  the same from a recorded count at place i on, with the sum so far
--   picked child ps o           what is asked of the child that was picked
use Prim.Native.Nat.{ℕ, zero, suc, ◌+◌, ◌-◌, ◌≤◌, ◌<◌}
use Rattle.std.specs.Prelude.{◌≡◌, Bool, cond, ltb, length, get_or, drop, Err, None, Option, Some}
use Rattle.std.proofs.Math.Path.{refl}
use Rattle.std.proofs.Common.{◌∙◌, arith, lt-ltb, le-ltb, get_or-drop}
use mathlib.Core.List.{List, [], ◌∷◌}
use Rattle.std.proofs.Math.Bool.{true, false}
use Rattle.std.proofs.Math.Nat.{add-zero}
use Rattle.std.proofs.Math.Seq.{drop-drop}
use Rattle.refusal.specs.Refusal.{Outcome, bad_index}
use Rattle.numeral.specs.declared.Numeral.{Numeral}
use Rattle.numeral.specs.Var.{var_at}
use Rattle.item.specs.Step.{up_to}
use Rattle.item.specs.StepLaws.{up_to_more, up_to_bad}
use Rattle.item.specs.Item.{count_limit, count_at}
use Rattle.item.specs.CountLaws.{count_bad, count_over, count_at_lem}
use Rattle.tree.specs.Page.{branch}
use Rattle.tree.specs.Asking.{index_children}
use Rattle.tree.specs.InnerPage.{children_of}
use Rattle.content.specs.Content.{counts_in, pick}

unfoldable pub pick_from : List ℕ → ℕ → ℕ → ℕ → ℕ → ℕ → Option (ℕ × ℕ)
pick_from s n i sum j rest = pick j rest (up_to (count_at s) n (i, sum))

pub pick_from_lem : (s : List ℕ) (n i rest : ℕ) → pick_from s n i 0 0 rest ≡ pick 0 rest (counts_in s n i)
unfolding pick_from counts_in
pick_from_lem s n i rest = refl

module _ (s : List ℕ) (n i sum j rest : ℕ) where
  pub pick_none : n ≤ 0 → pick_from s n i sum j rest ≡ None
  unfolding pick_from up_to pick
  pick_none h = go n h
    where
      go : (m : ℕ) → m ≤ 0 → pick j rest (up_to (count_at s) m (i, sum)) ≡ None
      go zero l = refl
      go (suc m) l = absurd (omega arith)

  pub pick_bad : var_at count_limit s i ≡ None → pick_from s n i sum j rest ≡ None
  unfolding pick_from pick
  pick_bad e = rw (up_to_bad (count_at s) n (i, sum) (count_bad s i sum e))

  module _ {c : Numeral} (e : var_at count_limit s i ≡ Some c) where
    pub pick_over : count_limit ≤ sum + c.value → pick_from s n i sum j rest ≡ None
    unfolding pick_from pick
    pick_over h = rw (up_to_bad (count_at s) n (i, sum) (count_over s i sum e h))

    module _ (h : 0 < n) (l : sum + c.value < count_limit) where
      pick_more : pick_from s n i sum j rest ≡ cond (ltb rest c.value) (Some (j, rest)) (pick_from s (n - 1) c.next (sum + c.value) (j + 1) (rest - c.value))
      unfolding pick_from pick
      pick_more = rw (up_to_more (count_at s) n (i, sum) h (count_at_lem s i sum e l))

      pub pick_here : rest < c.value → pick_from s n i sum j rest ≡ Some (j, rest)
      pick_here f = pick_more ∙ rw (lt-ltb rest c.value f)

      pub pick_on : c.value ≤ rest → pick_from s n i sum j rest ≡ pick_from s (n - 1) c.next (sum + c.value) (j + 1) (rest - c.value)
      pick_on f = pick_more ∙ rw (le-ltb rest c.value f)

-- ## The tree's index takes the same child
module _ {E : Type 0} (child : ℕ → ℕ → Outcome E) (ps : List ℕ) where
  abbrev pub picked : Option (ℕ × ℕ) → Outcome E
  picked (Some p) = child p.1 (get_or ps p.0 0)
  picked None = Err bad_index

  index_pick_from : {K : Type 0} (j i : ℕ) (ns : List ℕ) (ks : List K) → length ns ≡ suc (length ks)
      → index_children child i (children_of (drop j ps) ns ks) ≡ picked (pick j i ns)
  unfolding pick
  index_pick_from j i [] ks h = absurd (omega arith)
  index_pick_from j i (n ∷ []) [] h = rw (get_or-drop j ps 0 0, add-zero j) (go (ltb i n))
    where
      go : (t : Bool) → branch t (child i (get_or ps j 0)) (Err bad_index) ≡ picked (cond t (Some (j, i)) None)
      go true = refl
      go false = refl
  index_pick_from j i (n ∷ m ∷ ns) [] h = absurd (omega arith)
  index_pick_from j i (n ∷ ns) (k ∷ ks) h =
      rw (get_or-drop j ps 0 0, add-zero j, drop-drop 1 j ps) (go (ltb i n) (index_pick_from (j + 1) (i - n) ns ks (omega arith)))
    where
      go : (t : Bool) → index_children child (i - n) (children_of (drop (j + 1) ps) ns ks) ≡ picked (pick (j + 1) (i - n) ns)
          → branch t (child i (get_or ps j 0)) (index_children child (i - n) (children_of (drop (j + 1) ps) ns ks))
          ≡ picked (cond t (Some (j, i)) (pick (j + 1) (i - n) ns))
      go true ih = refl
      go false ih = ih

  pub index_pick : {K : Type 0} (i : ℕ) (ns : List ℕ) (ks : List K) → length ns ≡ suc (length ks)
      → index_children child i (children_of ps ns ks) ≡ picked (pick 0 i ns)
  index_pick i ns ks h = index_pick_from 0 i ns ks h
