-- Soundness, after document 01, "A map, in an image that opens" and "Sound": what holds of the reached pages, sentence by
-- sentence, with no word of how it is examined.
--
--   IsChild q cs                q is the position of one of the children
--   page_at read levels p       the page at p by the page rules, the depth first
--   Reached read root levels p  the page at p is reached from the root, with so many levels left
--   Rising cmp es               keys rise strictly from left to right
--   Separated cmp list left cs  the separators of one page against the keys on either side
--   Sound cmp read root         01's "sound"
use Rattle.std.specs.Prelude.{ℕ, zero, suc, ◌≡◌, ◌⊎◌, List, [], ◌∷◌, ◌++◌, length, Err, Ok}
use Rattle.refusal.specs.Refusal.{Outcome, too_deep}
use Rattle.std.specs.declared.cmp.Ordering.{Ordering}
use Rattle.order.specs.Order.{Below, UpTo}
use Rattle.tree.specs.Page.{Children, last, more, Page, leaf, inner, joined, All, AllChildren}
use Rattle.tree.specs.Asking.{entries, map_entries}

abbrev pub IsChild : {K : Type 0} → ℕ → Children K → Type 0
IsChild q (last p c) = q ≡ p
IsChild q (more p c s cs) = (q ≡ p) ⊎ IsChild q cs

-- "A page judges in this order: depth, [..]"; "a page at depth 17, the root being 1" is refused with 11
abbrev pub page_at : {K W : Type 0} → (ℕ → Outcome (Page K W)) → ℕ → ℕ → Outcome (Page K W)
page_at read zero p = Err too_deep
page_at read (suc levels) p = read p

-- "Its reached pages are the one at the root, unless that is 0, and, where a reached inner page itself meets the page rules,
-- depth and location included, each of its children, whether or not the child meets them."
pub data Reached {K W : Type 0} (read : ℕ → Outcome (Page K W)) (root : ℕ) : ℕ → ℕ → Type 0 where
  top : ¬ (root ≡ 0) → Reached read root 16 root
  under : {levels p : ℕ} (q : ℕ) (cs : Children K) → Reached read root (suc levels) p → read p ≡ Ok (inner cs) → IsChild q cs
      → Reached read root levels q

module _ {K W : Type 0} (cmp : K → K → Ordering) where
  abbrev pub Rising : List (K × W) → Type 0
  Rising [] = Unit {0}
  Rising (e ∷ es) = All (λ f. Below cmp e.0 f.0) es × Rising es

  -- `left` is what stands to the left of the children cs in the page's subtree
  abbrev pub Separated : (ℕ → List (K × W)) → List (K × W) → Children K → Type 0
  Separated list left (last p c) = Unit {0}
  Separated list left (more p c s cs) =
      All (λ e. Below cmp e.0 s) (left ++ list p) ×
      All (λ e. UpTo cmp s e.0) (joined list cs) ×
      Separated list (left ++ list p) cs

  pub record Sound (read : ℕ → Outcome (Page K W)) (root : ℕ) : Type 0 where
    -- "all reached pages meet the page rules"
    pub rules : (levels p : ℕ) → Reached read root levels p → (page : Page K W) × (page_at read levels p ≡ Ok page)
    -- "leaf keys rise strictly from left to right"
    pub rising : Rising (map_entries read root)
    -- "each separator is above all keys to its left in its page's subtree and not above any to its right"
    pub separated : (levels p : ℕ) (cs : Children K) → Reached read root (suc levels) p → read p ≡ Ok (inner cs)
        → Separated (entries read levels) [] cs
    -- "each recorded count is the entries under that child"
    pub counts : (levels p : ℕ) (cs : Children K) → Reached read root (suc levels) p → read p ≡ Ok (inner cs)
        → AllChildren (λ q c. c ≡ length (entries read levels q)) cs
    -- "only the root may be an empty leaf"
    pub filled : (levels p q : ℕ) (cs : Children K) → Reached read root (suc levels) p → read p ≡ Ok (inner cs) → IsChild q cs
        → read q ≡ Ok (leaf []) → ⊥
