-- Laws of one page on the walk's two ways down, one for each way that the code takes.
--
--   FirstBy p a      what the first child or entry a of the page at p says of the leftmost way
--   NextBy .. l p a  what a, which follows number l at the page at p, says of the way by the numbers
use Rattle.std.specs.Prelude.{ℕ, zero, suc, ◌+◌, ◌≤◌, ◌<◌, ◌≡◌, Bool, cond, ◌⊎◌, List, [], ◌∷◌, ◌++◌, eqb, ltb, leb, get_or, replicate, Err, None, Ok, Some, slice_get}
use Rattle.std.proofs.Math.Path.{refl, ap}
use Rattle.std.proofs.Common.{◌∙◌, inl, inr, ⊎_elim, add-one, arith}
use Rattle.std.proofs.Math.Bool.{true, false}
use Rattle.std.proofs.Math.ListN.{length, take}
use borrow.Author.Tests.{eqb-true, eqb-false, ltb-true, ltb-false, leb-true, leb-false}
use Rattle.refusal.specs.Refusal.{Outcome, unsound}
use Rattle.position.specs.Position.{of_bits}
use Rattle.key.specs.declared.Kind.{Kind}
use Rattle.key.specs.Key.{Key}
use Rattle.tree.specs.Page.{leaf, inner}
use Rattle.tree.specs.InnerPage.{children_of}
use Rattle.tree.specs.Walk.{Moved, over, stop}
use Rattle.tree.proofs.WalkLaws.{child_some, child_none, first_child_lem, prefixed, raised, leftmost_at, next_at}
use Rattle.tree.proofs.WalkLaws.{leftmost_refused, leftmost_empty_root, leftmost_empty_below, leftmost_entry, leftmost_inner}
use Rattle.tree.proofs.WalkLaws.{at_refused, at_too_deep, at_no_entry, at_entry, at_over, at_too_high, at_no_child, at_last_child, at_child}
use Rattle.opening.specs.declared.Store.{Store}
use Rattle.page.specs.declared.Judged.{Judged}
use Rattle.page.specs.declared.Judged.TheVariants as judged
use Rattle.content.specs.declared.Entry.{Entry}
use Rattle.content.specs.Content.{entries_in, positions_in, counts_in, keys_in, page_of}
use Rattle.content.specs.WholeLaws.{Whole}
use Rattle.cursor.specs.declared.follow.After.{After}
use Rattle.cursor.specs.declared.follow.After.TheVariants as after
use Rattle.cursor.specs.Steps.{entry_after, after_child, after_of, first_of}
use Rattle.store.specs.Store.{reader}
use Rattle.store.specs.Asking.{judged_by}
use Rattle.store.specs.ReadLaws.{reader_judged, judged_all}

nth_cases : {A : Type 0} (l : List A) (i : ℕ)
    → ((e : A) × (slice_get l i ≡ Some e) × (i < length l) × (get_or l i e ≡ e)) ⊎ ((slice_get l i ≡ None) × (length l ≤ i))
nth_cases [] i = inr (refl, omega arith)
nth_cases (x ∷ l) zero = inl (x, refl, omega arith, refl)
nth_cases (x ∷ l) (suc i) =
    ⊎_elim (λ w. inl (w.0, w.1, omega (arith, w.2), w.3)) (λ w. inr (w.0, omega (arith, w.1))) (nth_cases l i)

-- ## One page
module _ (image : List ℕ) (store : Store) (map : ℕ) (kind : Kind) where
  abbrev pub FirstBy : ℕ → Outcome After → Type 0
  FirstBy p (Ok (after.Entry x)) =
      (e : Key × Entry) × (e.1 ≡ x) ×
      ((pre : List ℕ) (k : ℕ) → length pre + k < 16
      → leftmost_at (reader image store map kind) pre k p ≡ prefixed (pre ++ replicate k 0) e 0 [])
  FirstBy p (Ok after.Over) =
      (pre : List ℕ) (k : ℕ) → length pre + k < 16
      → (length pre + k ≡ 0 → leftmost_at (reader image store map kind) pre k p ≡ over) ×
      (0 < length pre + k → leftmost_at (reader image store map kind) pre k p ≡ stop unsound)
  FirstBy p (Ok (after.Last q)) =
      (pre : List ℕ) (k : ℕ) → length pre + k < 16
      → leftmost_at (reader image store map kind) pre k p ≡ leftmost_at (reader image store map kind) pre (suc k) q.bits
  FirstBy p (Ok (after.Child q x)) = ⊥
  FirstBy p (Err r) =
      (pre : List ℕ) (k : ℕ) → length pre + k < 16 → leftmost_at (reader image store map kind) pre k p ≡ stop r

  leaf_first : (p : ℕ) (es : List (Key × Entry)) → reader image store map kind p ≡ Ok (leaf es) → FirstBy p (Ok (entry_after (slice_get es 0)))
  leaf_first p [] e = λ pre k room. (
    λ z. leftmost_empty_root (reader image store map kind) pre k p room [] e z refl,
    λ b. leftmost_empty_below (reader image store map kind) pre k p room [] e b refl,
  )
  leaf_first p (x ∷ es) e =
      (x, refl, λ pre k room. leftmost_entry (reader image store map kind) pre k p room (x ∷ es) e x (omega arith))

  first_judged : (p : ℕ) (j : Outcome Judged) → reader image store map kind p ≡ page_of image kind j → FirstBy p (first_of image kind j)
  unfolding page_of first_of
  first_judged p (Err r) e = λ pre k room. leftmost_refused (reader image store map kind) pre k p room r e
  first_judged p (Ok (judged.Leaf l)) e = leaf_first p (entries_in (take l.end image) kind l.n l.keys l.values) e
  first_judged p (Ok (judged.Inner q)) e = λ pre k room.
      let s = take q.end image in
      let ps = positions_in s (q.n + 1) q.positions in
      let ns = counts_in s (q.n + 1) q.counts in
      let ks = keys_in s kind q.n q.keys in
      leftmost_inner (reader image store map kind) pre k p room (children_of ps ns ks) e
      ∙ ap (leftmost_at (reader image store map kind) pre (suc k)) (first_child_lem ps ns ks)

  pub first_by : (p : ℕ) → FirstBy p (first_of image kind (judged_by image store map kind p))
  first_by p = first_judged p (judged_by image store map kind p) (reader_judged image store map kind p)

  module _ (nums : List ℕ) (past : Moved (Key × Entry)) (l p : ℕ) where
    abbrev pub NextBy : Outcome After → Type 0
    NextBy (Ok (after.Entry x)) =
        (e : Key × Entry) × (e.1 ≡ x) × (suc l ≡ length nums) ×
        (next_at (reader image store map kind) nums past l p ≡ prefixed (take l nums) e (suc (get_or nums l 0)) []) × (get_or nums l 0 < 0x80000000)
    NextBy (Ok after.Over) = next_at (reader image store map kind) nums past l p ≡ past
    NextBy (Ok (after.Last q)) =
        (suc l < length nums) ×
        (next_at (reader image store map kind) nums past l p ≡ next_at (reader image store map kind) nums past (suc l) q.bits)
    NextBy (Ok (after.Child q x)) =
        (suc l < length nums) ×
        (next_at (reader image store map kind) nums past l p
        ≡ next_at (reader image store map kind) nums (leftmost_at (reader image store map kind) (raised nums l) 0 x.bits) (suc l) q.bits)
        × (get_or nums l 0 < 0x80000000)
    NextBy (Err r) = next_at (reader image store map kind) nums past l p ≡ stop r

    module _ (room : l < 16) (below : l < length nums) where
      module _ (es : List (Key × Entry)) (e : reader image store map kind p ≡ Ok (leaf es)) (n : ℕ) (few : n < 0x80000000) (whole : length es ≡ n)
          (end : suc l ≡ length nums) where
        leaf_next : n ≤ get_or nums l 0 → NextBy (Err unsound)
        leaf_next h = at_no_entry (reader image store map kind) nums past l p room es e end (omega arith)

        leaf_end : (b : Bool) → leb n (get_or nums l 0) ≡ b
            → NextBy (cond b (Err unsound) (Ok (entry_after (slice_get es (get_or nums l 0 + 1)))))
        leaf_end true h = leaf_next (leb-true n (get_or nums l 0) h)
        leaf_end false h =
            let i = get_or nums l 0 in
            let there : i < n = leb-false n i h in
            rw (add-one (get_or nums l 0))
            (⊎_elim
            (λ w. rw w.1 (
              w.0,
              refl,
              end,
              at_entry (reader image store map kind) nums past l p room es e end w.0 w.2
                  ∙ ap (λ x. prefixed (take l nums) x (suc i) []) w.3,
              omega (arith, few, there),
            ))
            (λ w. rw w.0 (at_over (reader image store map kind) nums past l p room es e end (omega (arith, w.1))))
            (nth_cases es (suc (get_or nums l 0))))

      module _ (ps ns : List ℕ) (ks : List Key) (e : reader image store map kind p ≡ Ok (inner (children_of ps ns ks))) (n : ℕ)
          (few : n < 0x80000000) (whole : length ks ≡ n) (more : suc l < length nums) where
        inner_at_lem : get_or nums l 0 ≤ n → (b : Bool) → eqb (get_or nums l 0) n ≡ b
            → NextBy (cond b (Ok (after.Last (of_bits (get_or ps (get_or nums l 0) 0))))
            (Ok (after.Child (of_bits (get_or ps (get_or nums l 0) 0)) (of_bits (get_or ps (get_or nums l 0 + 1) 0)))))
        inner_at_lem low true h =
            let i = get_or nums l 0 in
            let same : i ≡ n = eqb-true i n h in (
              more,
              at_last_child (reader image store map kind) nums past l p room (children_of ps ns ks) e more (get_or ps i 0)
                  (child_some i ps ns ks (omega arith)) (child_none (suc i) ps ns ks (omega arith)),
            )
        inner_at_lem low false h =
            let i = get_or nums l 0 in
            let other = eqb-false i n h in
            rw (add-one (get_or nums l 0)) (
              more,
              at_child (reader image store map kind) nums past l p room (children_of ps ns ks) e more (get_or ps i 0) (get_or ps (suc i) 0)
                  (child_some i ps ns ks (omega arith)) (child_some (suc i) ps ns ks (omega (arith, other))),
              omega (arith, few, low),
            )

        inner_next : (b : Bool) → ltb n (get_or nums l 0) ≡ b
            → NextBy (cond b (Err unsound) (cond (eqb (get_or nums l 0) n) (Ok (after.Last (of_bits (get_or ps (get_or nums l 0) 0))))
            (Ok (after.Child (of_bits (get_or ps (get_or nums l 0) 0)) (of_bits (get_or ps (get_or nums l 0 + 1) 0))))))
        inner_next true h =
            let high : n < get_or nums l 0 = ltb-true n (get_or nums l 0) h in
            at_no_child (reader image store map kind) nums past l p room (children_of ps ns ks) e more
            (child_none (get_or nums l 0) ps ns ks (omega arith))
        inner_next false h = inner_at_lem (ltb-false n (get_or nums l 0) h) (eqb (get_or nums l 0) n) refl

      next_judged : (j : Outcome Judged) → Whole image kind j → reader image store map kind p ≡ page_of image kind j
          → (t : Bool) → eqb (l + 1) (length nums) ≡ t → NextBy (after_of image kind (get_or nums l 0) t j)
      unfolding page_of after_of after_child
      next_judged (Err r) w e t h = at_refused (reader image store map kind) nums past l p room r e
      next_judged (Ok (judged.Leaf q)) w e false h =
          let other = eqb-false (l + 1) (length nums) h in
          at_too_deep (reader image store map kind) nums past l p room (entries_in (take q.end image) kind q.n q.keys q.values) e (omega (arith, other))
      next_judged (Ok (judged.Leaf q)) w e true h =
          let same : l + 1 ≡ length nums = eqb-true (l + 1) (length nums) h in
          leaf_end (entries_in (take q.end image) kind q.n q.keys q.values) e q.n w.few w.all_entries (omega arith) (leb q.n (get_or nums l 0)) refl
      next_judged (Ok (judged.Inner q)) w e true h =
          let same : l + 1 ≡ length nums = eqb-true (l + 1) (length nums) h in
          let s = take q.end image in
          at_too_high (reader image store map kind) nums past l p room
          (children_of (positions_in s (q.n + 1) q.positions) (counts_in s (q.n + 1) q.counts) (keys_in s kind q.n q.keys)) e (omega arith)
      next_judged (Ok (judged.Inner q)) w e false h =
          let other = eqb-false (l + 1) (length nums) h in
          let s = take q.end image in
          inner_next (positions_in s (q.n + 1) q.positions) (counts_in s (q.n + 1) q.counts) (keys_in s kind q.n q.keys) e q.n w.few w.all_keys
          (omega (arith, other)) (ltb q.n (get_or nums l 0)) refl

      pub next_by_lem : NextBy (after_of image kind (get_or nums l 0) (eqb (l + 1) (length nums)) (judged_by image store map kind p))
      next_by_lem =
          next_judged (judged_by image store map kind p) (judged_all image store map kind p) (reader_judged image store map kind p)
          (eqb (l + 1) (length nums)) refl
