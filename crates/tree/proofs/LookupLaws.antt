-- Lookup in a sound map finds the entry of the list that has the key.
--
--   assoc cmp k es  the value of the first entry in es that has the key k, whatever the order of es
use Prim.Native.Nat.{ℕ, zero, suc}
use Rattle.std.specs.Prelude.{◌≡◌, refl, Bool, true, Err, None, Ok, Option, Some}
use Rattle.std.proofs.Common.{sym, ap, subst}
use Rattle.std.proofs.Math.Bool.{false}
use mathlib.Core.List.{List, [], ◌∷◌, ◌++◌, Memᴰ}
use Rattle.refusal.specs.Refusal.{Outcome}
use Rattle.std.specs.declared.cmp.Ordering.{Ordering}
use Rattle.std.specs.declared.cmp.Ordering.TheVariants.{Less, Equal, Greater}
use Rattle.order.specs.Order.{TotalOrder, Below, UpTo, below}
use Rattle.order.proofs.Laws.{below_true, true_below, below_false, false_below, below_greater, greater_below, below_upto_below}
use Rattle.tree.specs.Page.{Children, last, more, Page, leaf, inner, joined, All, AllChildren}
use Rattle.tree.specs.Asking.{three, child_for, find_in, lookup_page, entries_page, lookup, entries}
use Rattle.tree.specs.Sound.{Rising, Separated}
use Rattle.tree.specs.Meets.{MeetsPage, Meets}
use Rattle.tree.proofs.ListLaws.{all_imp, all_right, all_member}
use Rattle.tree.proofs.BoundLaws.{children_rising}

abbrev pub assoc : {K W : Type 0} → (K → K → Ordering) → K → List (K × W) → Option W
assoc cmp k [] = None
assoc cmp k (e ∷ es) = three (cmp e.0 k) (assoc cmp k es) (Some e.1) (assoc cmp k es)

-- ## The child that a lookup takes: a key equal to a separator is to its right
module _ {K : Type 0} (cmp : K → K → Ordering) (k : K) (p c : ℕ) (s : K) (cs : Children K) where
  pub child_for_left : Below cmp k s → child_for cmp k (more p c s cs) ≡ p
  child_for_left b = rw (true_below cmp k s b)

  pub child_for_right : UpTo cmp s k → child_for cmp k (more p c s cs) ≡ child_for cmp k cs
  child_for_right u = rw (false_below cmp k s u)

module _ {K W : Type 0} {cmp : K → K → Ordering} (L : TotalOrder K cmp) where
  -- ## The first entry that has the key
  assoc_above : (k : K) (b : List (K × W)) → All (λ e. Below cmp k e.0) b → assoc cmp k b ≡ None
  assoc_above k [] h = refl
  assoc_above k (e ∷ b) h = rw (below_greater L k e.0 h.0) (assoc_above k b h.1)

  assoc_left : (k : K) (a b : List (K × W)) → All (λ e. Below cmp k e.0) b → assoc cmp k (a ++ b) ≡ assoc cmp k a
  assoc_left k [] b h = assoc_above k b h
  assoc_left k (e ∷ a) b h = rw (assoc_left k a b h)

  assoc_right : (k : K) (a b : List (K × W)) → All (λ e. Below cmp e.0 k) a → assoc cmp k (a ++ b) ≡ assoc cmp k b
  assoc_right k [] b h = refl
  assoc_right k (e ∷ a) b h = rw h.0 (assoc_right k a b h.1)

  pub assoc_present : (k : K) (w : W) {es : List (K × W)} → Memᴰ (k, w) es → Rising cmp es → assoc cmp k es ≡ Some w
  assoc_present k w (Memᴰ.head {x = x} {xs = xs} e) r =
      let key : k ≡ x.0 = ap (λ (y : K × W). y.0) e in
      let value : w ≡ x.1 = ap (λ (y : K × W). y.1) e in
      let c : cmp x.0 k ≡ Equal = subst (λ (y : K). cmp y k ≡ Equal) key (L.self k) in
      rw c (ap Some (sym value))
  assoc_present k w (Memᴰ.tail {x = x} {xs = xs} m) r =
      rw (all_member (λ f. Below cmp x.0 f.0) m r.0) (assoc_present k w m r.1)

  pub assoc_absent : (k : K) (es : List (K × W)) → ((w : W) → Memᴰ (k, w) es → ⊥) → assoc cmp k es ≡ None
  assoc_absent k [] h = refl
  assoc_absent k (e ∷ es) h = go (assoc_absent k es (λ w m. h w (Memᴰ.tail m))) (cmp e.0 k) refl
    where
      go : assoc cmp k es ≡ None → (o : Ordering) → cmp e.0 k ≡ o → three o (assoc cmp k es) (Some e.1) (assoc cmp k es) ≡ None
      go ih Less c = ih
      go ih Equal c = absurd (h e.1 (Memᴰ.head (λ i. (sym (L.same e.0 k c) i, e.1))))
      go ih Greater c = ih

  -- ## Lookup
  find_in_assoc : (k : K) (es : List (K × W)) → Rising cmp es → find_in cmp k es ≡ assoc cmp k es
  find_in_assoc k [] r = refl
  find_in_assoc k (e ∷ es) r = go (find_in_assoc k es r.1) (cmp e.0 k) refl
    where
      go : find_in cmp k es ≡ assoc cmp k es → (o : Ordering) → cmp e.0 k ≡ o
          → three o (find_in cmp k es) (Some e.1) None ≡ three o (assoc cmp k es) (Some e.1) (assoc cmp k es)
      go ih Less h = ih
      go ih Equal h = refl
      go ih Greater h = sym (assoc_above k es (all_imp (λ f. L.trans k e.0 f.0 (greater_below L e.0 k h)) es r.0))

  lookup_children : (k : K) (list : ℕ → List (K × W)) (child : ℕ → Outcome (Option W)) (left : List (K × W)) (cs : Children K)
      → Separated cmp list left cs → AllChildren (λ p c. child p ≡ Ok (assoc cmp k (list p))) cs
      → child (child_for cmp k cs) ≡ Ok (assoc cmp k (joined list cs))
  lookup_children k list child left (last p c) h g = g
  lookup_children k list child left (more p c s cs) h g =
      go (lookup_children k list child (left ++ list p) cs h.2 g.1) (below cmp k s) refl
    where
      go : child (child_for cmp k cs) ≡ Ok (assoc cmp k (joined list cs)) → (t : Bool) → below cmp k s ≡ t
          → child (child_for cmp k (more p c s cs)) ≡ Ok (assoc cmp k (list p ++ joined list cs))
      go ih true e =
          let b = below_true cmp k s e in
          let after = all_imp (λ f. below_upto_below L k s f.0 b) (joined list cs) h.1 in
          rw (child_for_left cmp k p c s cs b, assoc_left k (list p) (joined list cs) after) g.0
      go ih false e =
          let u = below_false cmp k s e in
          let before = all_imp (λ f b. below_upto_below L f.0 s k b u) (list p) (all_right _ left (list p) h.0) in
          rw (child_for_right cmp k p c s cs u, assoc_right k (list p) (joined list cs) before) ih

  lookup_page_lem : (k : K) (list : ℕ → List (K × W)) (Child : ℕ → Type 0) (child : ℕ → Outcome (Option W)) (root : Bool)
      → ((q : ℕ) → Child q → Rising cmp (list q) → child q ≡ Ok (assoc cmp k (list q)))
      → (o : Outcome (Page K W)) → MeetsPage cmp list Child root o → Rising cmp (entries_page list o)
      → lookup_page cmp k child o ≡ Ok (assoc cmp k (entries_page list o))
  lookup_page_lem k list Child child root f (Err x) m r = absurd m
  lookup_page_lem k list Child child root f (Ok (leaf es)) m r = ap Ok (find_in_assoc k es r)
  lookup_page_lem k list Child child root f (Ok (inner cs)) m r =
      lookup_children k list child [] cs m.0 (children_rising cmp list (λ q c h. f q h.1) cs r m.1)

  pub lookup_meets : (read : ℕ → Outcome (Page K W)) (k : K) (levels : ℕ) (root : Bool) (p : ℕ)
      → Meets cmp read levels root p → Rising cmp (entries read levels p)
      → lookup cmp read levels k p ≡ Ok (assoc cmp k (entries read levels p))
  unfolding lookup Meets entries
  lookup_meets read k zero root p m r = absurd m
  lookup_meets read k (suc levels) root p m r =
      lookup_page_lem k (entries read levels) (Meets cmp read levels false) (lookup cmp read levels k) root
      (λ q. lookup_meets read k levels false q) (read p) m r
