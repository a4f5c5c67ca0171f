-- Index and count of a map whose recorded counts are right are those of the entry list.
use Prim.Native.Nat.{ℕ, zero, suc, ◌-◌}
use Rattle.std.specs.Prelude.{◌≡◌, refl, Bool, true, List, ◌++◌, ltb, length, Err, Ok}
use Rattle.std.proofs.Common.{sym, ap, arith, ltb-true, ltb-false}
use Rattle.std.proofs.Math.Bool.{false}
use Rattle.refusal.specs.Refusal.{Outcome, bad_index}
use Rattle.std.specs.declared.cmp.Ordering.{Ordering}
use Rattle.tree.specs.Page.{branch, Children, last, more, Page, leaf, inner, joined, nth, AllChildren}
use Rattle.tree.specs.Asking.{index_children, index_page, count_page, entries_page, index, entries}
use Rattle.tree.specs.Meets.{MeetsPage, Meets}
use Rattle.tree.proofs.ListLaws.{children_imp, total_joined, nth_left, nth_right, nth_beyond}

module _ {K E : Type 0} (list : ℕ → List E) (child : ℕ → ℕ → Outcome E) where
  index_children_lem : (i : ℕ) (cs : Children K)
      → AllChildren (λ p c. (c ≡ length (list p)) × ((j : ℕ) → child j p ≡ nth j (list p))) cs
      → index_children child i cs ≡ nth i (joined list cs)
  index_children_lem i (last p c) h = go (ltb i c) refl
    where
      go : (t : Bool) → ltb i c ≡ t → branch t (child i p) (Err bad_index) ≡ nth i (list p)
      go true e = h.1 i
      go false e = sym (nth_beyond i (list p) (omega (arith, ltb-false i c e)))
  index_children_lem i (more p c s cs) h = go (index_children_lem (i - c) cs h.1) (ltb i c) refl
    where
      go : index_children child (i - c) cs ≡ nth (i - c) (joined list cs) → (t : Bool) → ltb i c ≡ t
          → branch t (child i p) (index_children child (i - c) cs) ≡ nth i (list p ++ joined list cs)
      go ih true e = rw (nth_left i (list p) (joined list cs) (omega (arith, ltb-true i c e))) (h.0.1 i)
      go ih false e = rw (nth_right i (list p) (joined list cs) (omega (arith, ltb-false i c e)), ← h.0.0) ih

module _ {K W : Type 0} (cmp : K → K → Ordering) where
  index_page_lem : (list : ℕ → List (K × W)) (Child : ℕ → Type 0) (child : ℕ → ℕ → Outcome (K × W)) (root : Bool)
      → ((q : ℕ) → Child q → (j : ℕ) → child j q ≡ nth j (list q))
      → (i : ℕ) (o : Outcome (Page K W)) → MeetsPage cmp list Child root o
      → index_page child i o ≡ nth i (entries_page list o)
  index_page_lem list Child child root f i (Err x) m = absurd m
  index_page_lem list Child child root f i (Ok (leaf es)) m = refl
  index_page_lem list Child child root f i (Ok (inner cs)) m =
      index_children_lem list child i cs (children_imp (λ q c h. (h.0, f q h.1)) cs m.1)

  count_page_lem : (list : ℕ → List (K × W)) (Child : ℕ → Type 0) (root : Bool) (o : Outcome (Page K W))
      → MeetsPage cmp list Child root o → count_page o ≡ Ok (length (entries_page list o))
  count_page_lem list Child root (Err x) m = absurd m
  count_page_lem list Child root (Ok (leaf es)) m = refl
  count_page_lem list Child root (Ok (inner cs)) m = ap Ok (total_joined list cs (children_imp (λ q c h. h.0) cs m.1))

  module _ (read : ℕ → Outcome (Page K W)) where
    pub index_meets : (levels : ℕ) (root : Bool) (i p : ℕ) → Meets cmp read levels root p
        → index read levels i p ≡ nth i (entries read levels p)
    unfolding index Meets entries
    index_meets zero root i p m = absurd m
    index_meets (suc levels) root i p m =
        index_page_lem (entries read levels) (Meets cmp read levels false) (index read levels) root
        (λ q m j. index_meets levels false j q m) i (read p) m

    pub count_meets : (levels : ℕ) (root : Bool) (p : ℕ) → Meets cmp read (suc levels) root p
        → count_page (read p) ≡ Ok (length (entries read (suc levels) p))
    unfolding Meets entries
    count_meets levels root p m = count_page_lem (entries read levels) (Meets cmp read levels false) root (read p) m
