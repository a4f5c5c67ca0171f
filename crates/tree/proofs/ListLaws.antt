-- Laws of lists and of children, by their elements: All, AllChildren, IsChild, nth, joined.
--
--   all-X, children-X  All of a list, AllChildren of children
--   nth-X              entry number i
use Rattle.std.specs.Prelude.{ℕ, zero, suc, ◌-◌, ◌<◌, ◌≤◌, ◌≡◌, refl, length, Err, Ok, Some, slice_get}
use Rattle.std.proofs.Common.{sym, subst, inl, inr, arith, length-append}
use mathlib.Core.List.{List, [], ◌∷◌, ◌++◌, Memᴰ}
use Rattle.std.proofs.Math.Nat.{sub-zero, suc-sub-suc}
use Rattle.refusal.specs.Refusal.{bad_index}
use Rattle.tree.specs.Page.{Children, last, more, total, joined, nth, All, AllChildren}
use Rattle.tree.specs.Sound.{IsChild}

-- ## Each element of a list
module _ {A : Type 0} (P : A → Type 0) where
  pub all_append : (a b : List A) → All P a → All P b → All P (a ++ b)
  all_append [] b h k = k
  all_append (x ∷ a) b h k = (h.0, all_append a b h.1 k)

  pub all_left : (a b : List A) → All P (a ++ b) → All P a
  all_left [] b h = tt
  all_left (x ∷ a) b h = (h.0, all_left a b h.1)

  pub all_right : (a b : List A) → All P (a ++ b) → All P b
  all_right [] b h = h
  all_right (x ∷ a) b h = all_right a b h.1

  pub all_always : ((x : A) → P x) → (l : List A) → All P l
  all_always f [] = tt
  all_always f (x ∷ l) = (f x, all_always f l)

  pub all_member : {a : A} {l : List A} → Memᴰ a l → All P l → P a
  all_member (Memᴰ.head e) h = subst P (sym e) h.0
  all_member (Memᴰ.tail m) h = all_member m h.1

pub all_imp : {A : Type 0} {P Q : A → Type 0} → ((x : A) → P x → Q x) → (l : List A) → All P l → All Q l
all_imp f [] h = tt
all_imp f (x ∷ l) h = (f x h.0, all_imp f l h.1)

-- ## Each child
module _ {K : Type 0} where
  pub children_imp : {P Q : ℕ → ℕ → Type 0} → ((p c : ℕ) → P p c → Q p c) → (cs : Children K) → AllChildren P cs → AllChildren Q cs
  children_imp f (last p c) h = f p c h
  children_imp f (more p c s cs) h = (f p c h.0, children_imp f cs h.1)

  pub children_child : (P : ℕ → Type 0) (q : ℕ) (cs : Children K) → AllChildren (λ p c. P p) cs → IsChild q cs → P q
  children_child P q (last p c) h i = subst P (sym i) h
  children_child P q (more p c s cs) h (inl i) = subst P (sym i) h.0
  children_child P q (more p c s cs) h (inr i) = children_child P q cs h.1 i

  pub children_and : (P : ℕ → ℕ → Type 0) (Q : ℕ → Type 0) (cs : Children K)
      → AllChildren P cs → ((q : ℕ) → IsChild q cs → Q q) → AllChildren (λ q c. P q c × Q q) cs
  children_and P Q (last p c) h k = (h, k p refl)
  children_and P Q (more p c s cs) h k = ((h.0, k p (inl refl)), children_and P Q cs h.1 (λ q i. k q (inr i)))

  -- where each recorded count is the entries under that child, their sum is the entries under the page
  pub total_joined : {E : Type 0} (list : ℕ → List E) (cs : Children K)
      → AllChildren (λ p c. c ≡ length (list p)) cs → total cs ≡ length (joined list cs)
  total_joined list (last p c) h = h
  total_joined list (more p c s cs) h = rw length-append (omega (arith, h.0, total_joined list cs h.1))

-- ## Entry number i
module _ {E : Type 0} where
  pub nth_left : (i : ℕ) (a b : List E) → i < length a → nth i (a ++ b) ≡ nth i a
  nth_left i [] b h = absurd (omega arith)
  nth_left zero (x ∷ a) b h = refl
  nth_left (suc i) (x ∷ a) b h = nth_left i a b (omega arith)

  pub nth_right : (i : ℕ) (a b : List E) → length a ≤ i → nth i (a ++ b) ≡ nth (i - length a) b
  nth_right i [] b h = rw sub-zero
  nth_right zero (x ∷ a) b h = absurd (omega arith)
  nth_right (suc i) (x ∷ a) b h = rw suc-sub-suc (nth_right i a b (omega arith))

  pub nth_beyond : (i : ℕ) (a : List E) → length a ≤ i → nth i a ≡ Err bad_index
  nth_beyond i [] h = refl
  nth_beyond zero (x ∷ a) h = absurd (omega arith)
  nth_beyond (suc i) (x ∷ a) h = nth_beyond i a (omega arith)

  pub nth_element : (i : ℕ) (a : List E) → i < length a → (e : E) × (slice_get a i ≡ Some e) × (nth i a ≡ Ok e)
  nth_element i [] h = absurd (omega arith)
  nth_element zero (x ∷ a) h = (x, refl, refl)
  nth_element (suc i) (x ∷ a) h = nth_element i a (omega arith)
