-- Below the root no page's entry list is empty.
use Prim.Native.Nat.{ℕ, zero, suc}
use Rattle.std.specs.Prelude.{◌≡◌, refl, Bool, true, false, List, [], ◌∷◌, ◌++◌, length, Err, Ok}
use Rattle.std.proofs.Common.{arith}
use Rattle.refusal.specs.Refusal.{Outcome}
use Rattle.std.specs.declared.cmp.Ordering.{Ordering}
use Rattle.tree.specs.Page.{Children, last, more, Page, leaf, inner, joined, All, AllChildren}
use Rattle.tree.specs.Asking.{entries_page, entries}
use Rattle.tree.specs.Examination.{filled}
use Rattle.tree.specs.Meets.{Filled, MeetsPage, Meets}

module _ {E : Type 0} where
  pub filled_true : (root : Bool) (es : List E) → filled root es ≡ true → Filled root es
  filled_true true es t = tt
  filled_true false [] t =
      let z : ◌≡◌ {A = ℕ} 0 1 = cc in
      omega arith
  filled_true false (e ∷ es) t = tt

  pub true_filled : (root : Bool) (es : List E) → Filled root es → filled root es ≡ true
  true_filled true es f = refl
  true_filled false [] f = absurd f
  true_filled false (e ∷ es) f = refl

  -- an element of which both hold
  pub filled_both : (P Q : E → Type 0) (es : List E) → Filled false es → All P es → All Q es → (e : E) × P e × Q e
  filled_both P Q [] f p q = absurd f
  filled_both P Q (e ∷ es) f p q = (e, p.0, q.0)

  filled_append : (a b : List E) → Filled false a → Filled false (a ++ b)
  filled_append [] b f = absurd f
  filled_append (x ∷ a) b f = tt

  pub joined_filled : {K : Type 0} (list : ℕ → List E) (Child : ℕ → Type 0) → ((p : ℕ) → Child p → Filled false (list p))
      → (cs : Children K) → AllChildren (λ p c. (c ≡ length (list p)) × Child p) cs → Filled false (joined list cs)
  joined_filled list Child full (last p c) m = full p m.1
  joined_filled list Child full (more p c s cs) m = filled_append (list p) (joined list cs) (full p m.0.1)

module _ {K W : Type 0} (cmp : K → K → Ordering) where
  page_filled : (list : ℕ → List (K × W)) (Child : ℕ → Type 0) → ((p : ℕ) → Child p → Filled false (list p))
      → (o : Outcome (Page K W)) → MeetsPage cmp list Child false o → Filled false (entries_page list o)
  page_filled list Child full (Err x) m = absurd m
  page_filled list Child full (Ok (leaf es)) m = m
  page_filled list Child full (Ok (inner cs)) m = joined_filled list Child full cs m.1

  pub meets_filled : (read : ℕ → Outcome (Page K W)) (levels p : ℕ) → Meets cmp read levels false p → Filled false (entries read levels p)
  unfolding Meets entries
  meets_filled read zero p m = absurd m
  meets_filled read (suc levels) p m =
      page_filled (entries read levels) (Meets cmp read levels false) (meets_filled read levels) (read p) m
