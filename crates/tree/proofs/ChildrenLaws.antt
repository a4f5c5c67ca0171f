-- Laws of an inner page as three lists: X-childrenOf says what X is there, in document 01's words; X-from what a loop that has come
-- to child number j has still to do.
use Rattle.std.specs.Prelude.{ℕ, zero, suc, ◌+◌, ◌<◌, max, ◌≡◌, refl, Bool, true, false, List, [], ◌∷◌, length, get_or, drop, Err, Ok, Option, Some}
use Rattle.std.proofs.Common.{◌∙◌, ap, add-zero, le_refl, arith, drop_of_length-le, drop-cons, get_or-drop}
use Rattle.refusal.specs.Refusal.{Outcome, bind}
use Rattle.std.specs.declared.cmp.Ordering.{Ordering}
use Rattle.order.specs.Order.{below}
use Rattle.tree.specs.Page.{branch, Children, last, more, separators, total}
use Rattle.tree.specs.Asking.{child_for}
use Rattle.tree.specs.declared.Report.{Report}
use Rattle.tree.specs.Examination.{counted, both, examine_children}
use Rattle.tree.specs.InnerPage.{children_of, children_from, lead, sum, examine_from}

pub get_or_tail : (l : List ℕ) (i : ℕ) → get_or (drop 1 l) i 0 ≡ get_or l (suc i) 0
get_or_tail [] i = refl
get_or_tail (x ∷ l) i = refl

drop_next : {A : Type 0} (j : ℕ) (l : List A) → drop 1 (drop j l) ≡ drop (suc j) l
drop_next zero [] = refl
drop_next zero (x ∷ l) = refl
drop_next (suc j) [] = refl
drop_next (suc j) (x ∷ l) = drop_next j l

module _ {K : Type 0} where
  -- ## The whole page
  pub separators_children_of : (ps ns : List ℕ) (ks : List K) → separators (children_of ps ns ks) ≡ ks
  separators_children_of ps ns [] = refl
  separators_children_of ps ns (s ∷ ks) = ap (s ∷◌) (separators_children_of (drop 1 ps) (drop 1 ns) ks)

  -- "the sum of its recorded counts"
  pub total_children_of : (ps ns : List ℕ) (ks : List K) → length ns ≡ suc (length ks) → total (children_of ps ns ks) ≡ sum ns
  total_children_of ps [] ks h = absurd (omega arith)
  total_children_of ps (n ∷ []) [] h = omega arith
  total_children_of ps (n ∷ m ∷ ns) [] h = absurd (omega arith)
  total_children_of ps (n ∷ ns) (s ∷ ks) h = ap (n +◌) (total_children_of (drop 1 ps) ns ks (omega arith))

  -- "take the child numbered by how many leading keys, up to the first greater one, are not greater"
  pub child_for-children_of : (cmp : K → K → Ordering) (k : K) (ps ns : List ℕ) (ks : List K)
      → child_for cmp k (children_of ps ns ks) ≡ get_or ps (lead cmp k ks) 0
  child_for-children_of cmp k ps ns [] = refl
  child_for-children_of cmp k ps ns (s ∷ ks) = go (child_for-children_of cmp k (drop 1 ps) (drop 1 ns) ks) (below cmp k s)
    where
      go : child_for cmp k (children_of (drop 1 ps) (drop 1 ns) ks) ≡ get_or (drop 1 ps) (lead cmp k ks) 0 → (t : Bool)
          → branch t (get_or ps 0 0) (child_for cmp k (children_of (drop 1 ps) (drop 1 ns) ks)) ≡ get_or ps (branch t 0 (suc (lead cmp k ks))) 0
      go ih true = refl
      go ih false = ih ∙ get_or_tail ps (lead cmp k ks)

  -- ## From child number j on
  pub more_from : (ps ns : List ℕ) (ks : List K) (d : K) (j : ℕ) → j < length ks
      → children_from ps ns ks j ≡ more (get_or ps j 0) (get_or ns j 0) (get_or ks j d) (children_from ps ns ks (suc j))
  more_from ps ns ks d j h =
      rw (drop-cons ks j d h, get_or-drop j ps 0 0, get_or-drop j ns 0 0, add-zero j, drop_next j ps, drop_next j ns)

  pub last_from : (ps ns : List ℕ) (ks : List K) → children_from ps ns ks (length ks) ≡ last (get_or ps (length ks) 0) (get_or ns (length ks) 0)
  last_from ps ns ks =
      let n = length ks in
      rw (drop_of_length-le ks (le_refl n), get_or-drop n ps 0 0, get_or-drop n ns 0 0, add-zero n)

-- ## The examination with the report of the children before
both_assoc : (a b c : Report) → both (both a b) c ≡ both a (both b c)
both_assoc a b c =
    let e : a.entries + b.entries + c.entries ≡ a.entries + (b.entries + c.entries) = omega arith in
    let p : a.pages + b.pages + c.pages ≡ a.pages + (b.pages + c.pages) = omega arith in
    let d : max (max a.depth b.depth) c.depth ≡ max a.depth (max b.depth c.depth) = omega arith in
    λ i. record { entries = e i; pages = p i; depth = d i }

bind_both : (r a : Report) (o : Outcome Report)
    → bind o (λ b. Ok (both (both r a) b)) ≡ bind (bind o (λ b. Ok (both a b))) (λ b. Ok (both r b))
bind_both r a (Ok b) = ap Ok (both_assoc r a b)
bind_both r a (Err x) = refl

module _ {K : Type 0} (child : Option K → Option K → ℕ → Outcome Report) where
  pub examine_from_lem : (r : Report) (lo hi : Option K) (cs : Children K)
      → examine_from child r lo hi cs ≡ bind (examine_children child lo hi cs) (λ a. Ok (both r a))
  examine_from_lem r lo hi (last p c) = refl
  examine_from_lem r lo hi (more p c s cs) =
      go (examine_children child (Some s) hi cs) (λ a. examine_from_lem (both r a) (Some s) hi cs) (bind (child lo (Some s) p) (counted c))
    where
      go : (after : Outcome Report)
          → ((a : Report) → examine_from child (both r a) (Some s) hi cs ≡ bind after (λ b. Ok (both (both r a) b)))
          → (o : Outcome Report) → bind o (λ a. examine_from child (both r a) (Some s) hi cs)
          ≡ bind (bind o (λ a. bind after (λ b. Ok (both a b)))) (λ b. Ok (both r b))
      go after ih (Ok a) = ih a ∙ bind_both r a after
      go after ih (Err x) = refl
