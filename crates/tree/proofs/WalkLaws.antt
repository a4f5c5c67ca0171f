-- The walk as two loops that go down from the root, with one law for each branch of a loop. Nothing is assumed of the map.
--
-- A loop is at the page at p, which the numbers used so far lead to. What it still has to answer is stated as the whole step's
-- answer, with all the numbers from the root on. `past` is the answer where no entry is left from the page at p down.
--
--   prefixed pre e j is         the entry e with the numbers pre, then j, then is
--   through pre past m          the whole step's answer where m is next from the page down that the numbers pre lead to
--   raised nums l               the numbers before number l, then one more than number l: they lead to the child after
--   empty_leaf n                the answer at an empty leaf that n numbers lead to
--   leftmost_at read pre k p    the loop to the leftmost entry: k levels below the page that the numbers pre lead to
--   next_at read nums past l p  the loop that follows the numbers nums: number l is used at the page at p
--
--   child-X, element-X  child number i of an inner page as three lists; element number i of a list
--   leftmost-X          the loop to the leftmost entry; leftmost_top where it starts at the root
--   at-X                the loop that follows the numbers; next_top where it starts
--   map-X               a step of a map, by its root and whether the state is fresh: which loop it starts
use Prim.Native.Nat.{ℕ, zero, suc, ◌+◌, ◌-◌, ◌<◌, ◌≤◌}
use Rattle.std.specs.Prelude.{◌≡◌, take, drop, Err, None, Ok, Some, slice_get}
use Rattle.std.proofs.Math.Path.{refl, sym}
use Rattle.std.proofs.Common.{◌∙◌, ap, length-append, drop_of_length-le, take-suc, length-take-le}
use mathlib.Core.List.{List, [], ◌∷◌, ◌++◌, append_assoc, append-nil}
use Rattle.std.proofs.Math.Nat.{add-zero}
use native.Mathlib.Omega.{arith}
use Rattle.std.proofs.Math.ListN.{length, get_or, replicate}
use Rattle.std.proofs.Math.Seq.{drop-cons}
use Rattle.refusal.specs.declared.Refusal.{Refusal}
use Rattle.refusal.specs.Refusal.{Outcome, too_deep, unsound}
use Rattle.tree.specs.Page.{Children, Page, leaf, inner}
use Rattle.tree.specs.InnerPage.{children_of}
use Rattle.tree.proofs.ListLaws.{nth_element}
use Rattle.tree.proofs.ChildrenLaws.{get_or_tail}
use Rattle.tree.specs.Walk.{Moved, yield, over, stop, child_at, first_child, leftmost_in, next_over, first, next, map_next}

-- ## Children and elements by number
module _ {K : Type 0} where
  pub child_some : (i : ℕ) (ps ns : List ℕ) (ks : List K) → i ≤ length ks → child_at i (children_of ps ns ks) ≡ Some (get_or ps i 0)
  child_some zero ps ns [] h = refl
  child_some zero ps ns (s ∷ ks) h = refl
  child_some (suc i) ps ns [] h = absurd (omega arith)
  child_some (suc i) ps ns (s ∷ ks) h = child_some i (drop 1 ps) (drop 1 ns) ks (omega arith) ∙ ap Some (get_or_tail ps i)

  pub child_none : (i : ℕ) (ps ns : List ℕ) (ks : List K) → length ks < i → child_at i (children_of ps ns ks) ≡ None
  child_none zero ps ns ks h = absurd (omega arith)
  child_none (suc i) ps ns [] h = refl
  child_none (suc i) ps ns (s ∷ ks) h = child_none i (drop 1 ps) (drop 1 ns) ks (omega arith)

  pub first_child_lem : (ps ns : List ℕ) (ks : List K) → first_child (children_of ps ns ks) ≡ get_or ps 0 0
  first_child_lem ps ns [] = refl
  first_child_lem ps ns (s ∷ ks) = refl

module _ {A : Type 0} where
  pub element_some : (i : ℕ) (l : List A) (d : A) → i < length l → slice_get l i ≡ Some (get_or l i d)
  element_some i [] d h = absurd (omega arith)
  element_some zero (x ∷ l) d h = refl
  element_some (suc i) (x ∷ l) d h = element_some i l d (omega arith)

  pub element_none : (i : ℕ) (l : List A) → length l ≤ i → slice_get l i ≡ None
  element_none i [] h = refl
  element_none zero (x ∷ l) h = absurd (omega arith)
  element_none (suc i) (x ∷ l) h = element_none i l (omega arith)

-- ## Answers below a page, as they are at the root
module _ {E : Type 0} where
  -- an entry below the page that the numbers pre lead to
  abbrev pub prefixed : List ℕ → E → ℕ → List ℕ → Moved E
  prefixed [] e j is = yield e j is
  prefixed (i ∷ pre) e j is = yield e i (pre ++ (j ∷ is))

  -- no entry left is answered by `past`, a refusal as it is
  abbrev pub through : List ℕ → Moved E → Moved E → Moved E
  through pre past (yield e j is) = prefixed pre e j is
  through pre past over = past
  through pre past (stop r) = stop r

  through_root : (m : Moved E) → through [] over m ≡ m
  through_root (yield e j is) = refl
  through_root over = refl
  through_root (stop r) = refl

  prefixed_longer : (pre : List ℕ) (e : E) (i j : ℕ) (is : List ℕ) → prefixed pre e i (j ∷ is) ≡ prefixed (pre ++ (i ∷ [])) e j is
  prefixed_longer [] e i j is = refl
  prefixed_longer (x ∷ pre) e i j is = ap (yield e x) (sym (append_assoc pre (i ∷ []) (j ∷ is)))

  through_leftmost : (pre : List ℕ) (past : Moved E) (i : ℕ) (m : Moved E)
      → through pre past (leftmost_in i m) ≡ through (pre ++ (i ∷ [])) (stop unsound) m
  through_leftmost pre past i (yield e j is) = prefixed_longer pre e i j is
  through_leftmost pre past i over = refl
  through_leftmost pre past i (stop r) = refl

  module _ (pre : List ℕ) (past : Moved E) (first : ℕ → Moved E) (i : ℕ) where
    -- in the last child
    through_last : (m : Moved E) → through pre past (next_over first i None m) ≡ through (pre ++ (i ∷ [])) past m
    through_last (yield e j is) = prefixed_longer pre e i j is
    through_last over = refl
    through_last (stop r) = refl

    -- in a child with another, at q, after it: past its end, the leftmost entry of that one
    through_more : (q : ℕ) (m : Moved E) → through pre past (next_over first i (Some q) m)
        ≡ through (pre ++ (i ∷ [])) (through (pre ++ (suc i ∷ [])) (stop unsound) (first q)) m
    through_more q (yield e j is) = prefixed_longer pre e i j is
    through_more q over = through_leftmost pre past (suc i) (first q)
    through_more q (stop r) = refl

-- "An empty leaf that is not the root refuses with 12."
abbrev pub empty_leaf : {E : Type 0} → ℕ → Moved E
empty_leaf zero = over
empty_leaf (suc n) = stop unsound

abbrev pub raised : List ℕ → ℕ → List ℕ
raised nums l = take l nums ++ (suc (get_or nums l 0) ∷ [])

pub length_raised : (nums : List ℕ) (l : ℕ) → l < length nums → length (raised nums l) ≡ suc l
length_raised nums l h = rw (length-append, length-take-le l nums (omega arith)) (omega arith)

-- ## The loop to the leftmost entry
-- one level further down by child number 0
pub zeros_more : (pre : List ℕ) (k : ℕ) → (pre ++ replicate k 0) ++ (0 ∷ []) ≡ pre ++ replicate (suc k) 0
zeros_more pre k = append_assoc pre (replicate k 0) (0 ∷ []) ∙ ap (pre ++◌) (go k)
  where
    go : (n : ℕ) → ◌++◌ {A = ℕ} (replicate n 0) (0 ∷ []) ≡ replicate (suc n) 0
    go zero = refl
    go (suc n) = ap (λ (l : List ℕ). 0 ∷ l) (go n)

module _ {K W : Type 0} (read : ℕ → Outcome (Page K W)) where
  -- pre and k zeros lead to the page at p: with so many levels above it, the rest of 16 is left
  unfoldable pub leftmost_at : List ℕ → ℕ → ℕ → Moved (K × W)
  leftmost_at pre k p = through (pre ++ replicate k 0) (empty_leaf (length pre + k)) (first read (16 - (length pre + k)) p)

  pub leftmost_top : (p : ℕ) → leftmost_at [] 0 p ≡ first read 16 p
  unfolding leftmost_at
  leftmost_top p = through_root (first read 16 p)

  leftmost_start : (pre : List ℕ) (n p : ℕ) → length pre ≡ suc n → leftmost_at pre 0 p ≡ through pre (stop unsound) (first read (15 - n) p)
  unfolding leftmost_at
  leftmost_start pre n p h =
      let levels : 16 - suc n ≡ 15 - n = omega arith in
      rw (append-nil pre, h, add-zero, levels)

  module _ (pre : List ℕ) (k p : ℕ) where
    pub leftmost_deep : 16 ≤ length pre + k → leftmost_at pre k p ≡ stop too_deep
    unfolding leftmost_at first
    leftmost_deep h =
        let z : 16 - (length pre + k) ≡ 0 = omega arith in
        rw z

    module _ (room : length pre + k < 16) where
      levels : 16 - (length pre + k) ≡ suc (15 - (length pre + k))
      levels = omega arith

      pub leftmost_refused : (r : Refusal) → read p ≡ Err r → leftmost_at pre k p ≡ stop r
      unfolding leftmost_at first
      leftmost_refused r e = rw (levels, e)

      module _ (es : List (K × W)) (e : read p ≡ Ok (leaf es)) where
        leftmost_empty : length es ≡ 0 → leftmost_at pre k p ≡ empty_leaf (length pre + k)
        unfolding leftmost_at first
        leftmost_empty h = rw (levels, e, element_none 0 es (omega arith))

        pub leftmost_empty_root : length pre + k ≡ 0 → length es ≡ 0 → leftmost_at pre k p ≡ over
        leftmost_empty_root z h = leftmost_empty h ∙ ap empty_leaf z

        pub leftmost_empty_below : 0 < length pre + k → length es ≡ 0 → leftmost_at pre k p ≡ stop unsound
        leftmost_empty_below b h =
            let s : length pre + k ≡ suc (length pre + k - 1) = omega arith in
            leftmost_empty h ∙ ap empty_leaf s

        pub leftmost_entry : (x : K × W) → 0 < length es → leftmost_at pre k p ≡ prefixed (pre ++ replicate k 0) (get_or es 0 x) 0 []
        unfolding leftmost_at first
        leftmost_entry x h = rw (levels, e, element_some 0 es x h)

      pub leftmost_inner : (cs : Children K) → read p ≡ Ok (inner cs) → leftmost_at pre k p ≡ leftmost_at pre (suc k) (first_child cs)
      unfolding leftmost_at first
      leftmost_inner cs e =
          let deeper : length pre + suc k ≡ suc (length pre + k) = omega arith in
          let below : 16 - suc (length pre + k) ≡ 15 - (length pre + k) = omega arith in
          rw (levels, e)
          (through_leftmost (pre ++ replicate k 0) (empty_leaf (length pre + k)) 0 (first read (15 - (length pre + k)) (first_child cs))
          ∙ rw (zeros_more pre k, deeper, below))

  -- ## The loop that follows the numbers
  module _ (nums : List ℕ) where
    -- the l numbers before number l lead to the page at p: with so many levels above it, 16 - l are left
    unfoldable pub next_at : Moved (K × W) → ℕ → ℕ → Moved (K × W)
    next_at past l p = through (take l nums) past (next read (16 - l) (get_or nums l 0) (drop (suc l) nums) p)

    pub next_top : (p : ℕ) → next_at over 0 p ≡ next read 16 (get_or nums 0 0) (drop 1 nums) p
    unfolding next_at
    next_top p = through_root (next read 16 (get_or nums 0 0) (drop 1 nums) p)

    module _ (past : Moved (K × W)) (l p : ℕ) (room : l < 16) where
      left : 16 - l ≡ suc (15 - l)
      left = omega arith

      last_number : suc l ≡ length nums → drop (suc l) nums ≡ []
      last_number h = drop_of_length-le nums {i = suc l} (omega arith)

      pub at_refused : (r : Refusal) → read p ≡ Err r → next_at past l p ≡ stop r
      unfolding next_at next
      at_refused r e = rw (left, e)

      module _ (es : List (K × W)) (e : read p ≡ Ok (leaf es)) where
        -- a leaf takes the last number
        pub at_too_deep : suc l < length nums → next_at past l p ≡ stop unsound
        unfolding next_at next
        at_too_deep more = rw (left, drop-cons nums (suc l) 0 more, e)

        module _ (end : suc l ≡ length nums) where
          -- the entry last yielded is not there
          pub at_no_entry : length es ≤ get_or nums l 0 → next_at past l p ≡ stop unsound
          unfolding next_at next
          at_no_entry h = rw (left, last_number end, e, element_none (get_or nums l 0) es h)

          pub at_entry : (x : K × W) → suc (get_or nums l 0) < length es
              → next_at past l p ≡ prefixed (take l nums) (get_or es (suc (get_or nums l 0)) x) (suc (get_or nums l 0)) []
          unfolding next_at next
          at_entry x h =
              let i = get_or nums l 0 in
              rw (left, last_number end, e, (nth_element i es (omega arith)).1, element_some (suc i) es x h)

          pub at_over : suc (get_or nums l 0) ≡ length es → next_at past l p ≡ past
          unfolding next_at next
          at_over h =
              let i = get_or nums l 0 in
              rw (left, last_number end, e, (nth_element i es (omega arith)).1, element_none (suc i) es (omega arith))

      module _ (cs : Children K) (e : read p ≡ Ok (inner cs)) where
        -- an inner page takes a number that is not the last
        pub at_too_high : suc l ≡ length nums → next_at past l p ≡ stop unsound
        unfolding next_at next
        at_too_high end = rw (left, last_number end, e)

        module _ (more : suc l < length nums) where
          pub at_no_child : child_at (get_or nums l 0) cs ≡ None → next_at past l p ≡ stop unsound
          unfolding next_at next
          at_no_child h = rw (left, drop-cons nums (suc l) 0 more, e, h)

          used : take l nums ++ (get_or nums l 0 ∷ []) ≡ take (suc l) nums
          used = sym (take-suc nums l 0 (omega arith))

          deeper : 15 - l ≡ 16 - suc l
          deeper = omega arith

          pub at_last_child : (q : ℕ) → child_at (get_or nums l 0) cs ≡ Some q → child_at (suc (get_or nums l 0)) cs ≡ None
              → next_at past l p ≡ next_at past (suc l) q
          unfolding next_at next
          at_last_child q h k =
              let below = next read (15 - l) (get_or nums (suc l) 0) (drop (suc (suc l)) nums) in
              rw (left, e, drop-cons nums (suc l) 0 more, h, k)
              (through_last (take l nums) past (first read (15 - l)) (get_or nums l 0) (below q) ∙ rw (used, deeper))

          -- past the end of this child, the leftmost entry of the child after it
          pub at_child : (q after : ℕ) → child_at (get_or nums l 0) cs ≡ Some q → child_at (suc (get_or nums l 0)) cs ≡ Some after
              → next_at past l p ≡ next_at (leftmost_at (raised nums l) 0 after) (suc l) q
          unfolding next_at next leftmost_at
          at_child q after h k =
              let below = next read (15 - l) (get_or nums (suc l) 0) (drop (suc (suc l)) nums) in
              let start = leftmost_start (raised nums l) l after (length_raised nums l (omega arith)) in
              rw (left, e, drop-cons nums (suc l) 0 more, h, k, start)
              (through_more (take l nums) past (first read (15 - l)) (get_or nums l 0) after (below q) ∙ rw (used, deeper))

  -- ## A step of a map
  -- the empty map has no entry, and no number fits it
  pub map_empty : map_next read [] 0 ≡ over
  unfolding map_next
  map_empty = refl

  pub map_empty_numbers : (nums : List ℕ) → 0 < length nums → map_next read nums 0 ≡ stop unsound
  unfolding map_next
  map_empty_numbers [] h = absurd (omega arith)
  map_empty_numbers (i ∷ is) h = refl

  pub map_first : (root : ℕ) → 0 < root → map_next read [] root ≡ leftmost_at [] 0 root
  unfolding map_next
  map_first zero h = absurd (omega arith)
  map_first (suc p) h = sym (leftmost_top (suc p))

  pub map_next_lem : (nums : List ℕ) (root : ℕ) → 0 < length nums → 0 < root → map_next read nums root ≡ next_at nums over 0 root
  unfolding map_next
  map_next_lem [] root n h = absurd (omega arith)
  map_next_lem (i ∷ is) zero n h = absurd (omega arith)
  map_next_lem (i ∷ is) (suc p) n h = sym (next_top (i ∷ is) (suc p))
