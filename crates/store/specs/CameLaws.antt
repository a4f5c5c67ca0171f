-- Laws of the loop over an inner page's children: where the cursors stand at child number j, what it is, and the report so far.
--
--   child_in ..                 the examination of one child
--   children_examined ..        the examination of them all
--   Came .. j counts keys lo r  the loop has come to child number j, with the report r of those before it
use Rattle.std.specs.Prelude.{ℕ, suc, ◌+◌, ◌-◌, ◌^◌, ◌≤◌, ◌<◌, max, ◌≡◌, refl, Bool, true, false, List, [], map, ltb, length, get_or, take, drop, Err, Ok, Option, Some}
use Rattle.std.proofs.Common.{sym, ◌∙◌, add-one, drop-cons}
use Rattle.std.proofs.Math.Path.{ap}
use native.Mathlib.Omega.{arith}
use borrow.Author.Tests.{ltb-true, ltb-false, lt-ltb, le-ltb}
use Rattle.refusal.specs.declared.Refusal.{Refusal}
use Rattle.refusal.specs.Refusal.{Outcome, bind}
use Rattle.key.specs.declared.Kind.{Kind}
use Rattle.key.specs.Key.{Key, text, compare_keys}
use Rattle.text.specs.declared.spot.Spot.{Spot}
use Rattle.tree.specs.declared.Report.{Report}
use Rattle.tree.specs.Examination.{nothing, both, counted, examine_children, examine}
use Rattle.tree.specs.InnerPage.{children_from, sum, examine_from}
use Rattle.tree.proofs.ChildrenLaws.{more_from, last_from, examine_from_lem}
use Rattle.tree.proofs.Bounds.{Few, Small, nothing_few, both_few, children_small, children_total, examine_bounded, examine_below}
use Rattle.opening.specs.declared.Store.{Store}
use Rattle.item.specs.Step.{up_to}
use Rattle.item.specs.Item.{items, count_at}
use Rattle.page.specs.declared.Inner.{Inner}
use Rattle.page.specs.Judged.{key_form}
use Rattle.content.specs.Content.{key_in, keys_in, positions_in, counts_in}
use Rattle.content.specs.WholeLaws.{children_in, total_whole}
use Rattle.rising.specs.Rising.{bound_key}
use Rattle.rising.specs.RisingLaws.{keys_at}
use Rattle.soundness.specs.declared.Child.{Child}
use Rattle.soundness.specs.Examining.{separator_at, child_of}
use Rattle.soundness.specs.ItemLaws.{counts_next, NextKey, keys_next}
use Rattle.store.specs.Store.{reader}
use Rattle.store.specs.ReaderLaws.{reader_below}
use Rattle.store.specs.Examining.{tallied, WholePage, Fits}
use Rattle.store.specs.TallyLaws.{tally_refused, PassedChild, tally_passed, few_pages, fits_all}

-- ## The loop
both_nothing : (o : Outcome Report) → bind o (λ a. Ok (both nothing a)) ≡ o
both_nothing (Ok a) =
    let e : 0 + a.entries ≡ a.entries = omega arith in
    let p : 0 + a.pages ≡ a.pages = omega arith in
    let d : max 0 a.depth ≡ a.depth = omega arith in
    λ i. Ok (record { entries = e i; pages = p i; depth = d i })
both_nothing (Err r) = refl

abbrev pub child_in : List ℕ → Store → ℕ → Kind → ℕ → Option Key → Option Key → ℕ → Outcome Report
child_in image store m kind levels = examine compare_keys (reader image store m kind) levels false

-- an inner page's parts
abbrev pub cut_of : List ℕ → Inner → List ℕ
cut_of image b = take b.end image

abbrev pub positions_of : List ℕ → Inner → List ℕ
positions_of image b = positions_in (cut_of image b) (b.n + 1) b.positions

abbrev pub counts_of : List ℕ → Inner → List ℕ
counts_of image b = counts_in (cut_of image b) (b.n + 1) b.counts

abbrev pub separators_of : List ℕ → Kind → Inner → List Key
separators_of image kind b = keys_in (cut_of image b) kind b.n b.keys

abbrev pub children_examined : List ℕ → Store → ℕ → Kind → ℕ → Inner → Option Spot → Option Spot → Outcome Report
children_examined image store m kind levels b lo hi =
    examine_children (child_in image store m kind levels) (bound_key image kind lo) (bound_key image kind hi)
    (children_in (cut_of image b) kind b.n b.positions b.counts b.keys)

module _ (image : List ℕ) (store : Store) (m : ℕ) (kind : Kind) (levels : ℕ) where
  child_bounds : (lo hi : Option Key) (p : ℕ) (a : Report) → child_in image store m kind levels lo hi p ≡ Ok a
      → (a.entries < 2 ^ 48) × Small levels a
  child_bounds lo hi p a e = (
    examine_below compare_keys (reader image store m kind) (2 ^ 48) (reader_below image store m kind) levels false lo hi p a e,
    examine_bounded compare_keys (reader image store m kind) levels false lo hi p a e,
  )

  module _ (b : Inner) (start hi : Option Spot) where
    pub record Came (j counts keys : ℕ) (lo : Option Spot) (r : Report) : Type 0 where
      pub here : j ≤ b.n
      pub counts_left : up_to (count_at (cut_of image b)) (suc (b.n - j)) (counts, r.entries) ≡ drop j (counts_of image b)
      pub keys_left : map (key_in image kind) (up_to (items (cut_of image b) (key_form kind)) (b.n - j) keys)
          ≡ drop j (separators_of image kind b)
      pub below : r.entries + sum (drop j (counts_of image b)) < 2 ^ 48
      pub few : Few levels r
      pub same : examine_from (child_in image store m kind levels) r (bound_key image kind lo) (bound_key image kind hi)
          (children_from (positions_of image b) (counts_of image b) (separators_of image kind b) j)
          ≡ children_examined image store m kind levels b start hi

    module _ (w : WholePage image kind b) where
      pub came_first : Came 0 b.counts b.keys start nothing
      unfolding counts_in
      came_first =
          let all : b.n - 0 ≡ b.n = omega arith in
          record {
            here = omega arith;
            counts_left = rw (add-one, all);
            keys_left = rw all (sym (keys_at image kind b.end b.n b.keys));
            below = omega (arith, w.sum_total, w.below);
            few = nothing_few levels;
            same = examine_from_lem (child_in image store m kind levels) nothing (bound_key image kind start) (bound_key image kind hi)
                (children_in (cut_of image b) kind b.n b.positions b.counts b.keys) ∙ both_nothing _;
          }

      module _ (j counts keys : ℕ) (lo : Option Spot) (r : Report) (a : Came j counts keys lo r) {c : Child}
          (is : c ≡ child_of image kind b j counts keys hi) where
        -- what stands at the cursors
        count_here : (get_or (counts_of image b) j 0 ≡ c.count)
            × (up_to (count_at (cut_of image b)) (b.n - j) (c.counts, r.entries + c.count) ≡ drop (suc j) (counts_of image b))
        unfolding child_of
        count_here =
            rw is (counts_next (cut_of image b) (b.n - j) counts j r.entries (counts_of image b)
            (omega (arith, w.all_counts, a.here)) a.counts_left)

        key_here : j < b.n → NextKey (cut_of image b) (b.n - suc j) keys j image kind (separators_of image kind b) (text [])
        key_here h =
            let e : b.n - j ≡ suc (b.n - suc j) = omega arith in
            keys_next (cut_of image b) (b.n - suc j) keys j image kind (separators_of image kind b) (text [])
            (omega (arith, w.all_keys)) (rw e at a.keys_left)

        position_here : get_or (positions_of image b) j 0 ≡ c.position.bits
        unfolding child_of
        position_here = rw is

        -- the separator to the right of a child that is not the last
        separator_here : j < b.n → (c.hi ≡ (separator_at (cut_of image b) kind keys).bound) × (c.keys ≡ (separator_at (cut_of image b) kind keys).next)
        unfolding child_of
        separator_here h = (rw (is, lt-ltb j b.n h), rw (is, lt-ltb j b.n h))

        last_here : j ≡ b.n → c.hi ≡ hi
        unfolding child_of
        last_here e = rw (is, le-ltb j b.n (omega arith))

        -- the child, and what is left to do
        abbrev pub outcome : Outcome Report
        outcome = child_in image store m kind levels (bound_key image kind lo) (bound_key image kind c.hi) c.position.bits

        module _ (h : j < b.n) where
          bound_here : bound_key image kind c.hi ≡ Some (get_or (separators_of image kind b) j (text []))
          bound_here = rw (separator_here h).0 (key_here h).bound

          more_here : bind (bind outcome (counted c.count)) (λ x. examine_from (child_in image store m kind levels) (both r x)
              (bound_key image kind c.hi) (bound_key image kind hi)
              (children_from (positions_of image b) (counts_of image b) (separators_of image kind b) (suc j)))
              ≡ children_examined image store m kind levels b start hi
          more_here =
              let h : j < length (separators_of image kind b) = omega (arith, w.all_keys) in
              let all = more_from (positions_of image b) (counts_of image b) (separators_of image kind b) (text []) j h in
              rw (bound_here, ← position_here, ← count_here.0) (rw all at a.same)

        end_here : j ≡ b.n → bind (bind outcome (counted c.count)) (λ x. Ok (both r x))
            ≡ children_examined image store m kind levels b start hi
        end_here e =
            let n : j ≡ length (separators_of image kind b) = e ∙ sym w.all_keys in
            let all = last_from (positions_of image b) (counts_of image b) (separators_of image kind b) in
            rw (last_here e, ← position_here, ← count_here.0) (rw (rw (← n) at all) at a.same)

        pub came_fits : levels < 16 → {x : Outcome Report} → x ≡ outcome → Fits r x
        came_fits h e =
            let p = few_pages levels r.entries r.pages h a.few.few in
            rw e (fits_all levels r outcome h (omega (arith, a.below)) (omega arith) (omega (arith, a.few.shallow))
            (λ x q. let k = child_bounds _ _ _ x q in (k.0, k.1.rest)))

        module _ {x t : Outcome Report} (ex : x ≡ outcome) (et : t ≡ tallied r c.count x) where
          pub came_stopped : {y : Refusal} → t ≡ Err y → Err y ≡ children_examined image store m kind levels b start hi
          came_stopped {y} e = go (ltb j b.n) refl
            where
              refused : tallied r c.count outcome ≡ Err y
              refused = ap (tallied r c.count) (sym ex) ∙ sym et ∙ e

              go : (u : Bool) → ltb j b.n ≡ u → Err y ≡ children_examined image store m kind levels b start hi
              go true q = tally_refused r c.count outcome _ refused ∙ more_here (ltb-true j b.n q)
              go false q =
                  let i : j ≡ b.n = omega (arith, ltb-false j b.n q, a.here) in
                  tally_refused r c.count outcome _ refused ∙ end_here i

          module _ {z : Report} (e : t ≡ Ok z) where
            child_passed : PassedChild r c.count outcome z
            child_passed = tally_passed r c.count outcome (ap (tallied r c.count) (sym ex) ∙ sym et ∙ e)

            pub came_last : j ≡ b.n → Ok z ≡ children_examined image store m kind levels b start hi
            came_last i =
                let p = child_passed in
                let all = bind (bind outcome (counted c.count)) (λ x. Ok (both r x)) in
                let f : Ok (both r p.report) ≡ all = rw p.tested in
                ap Ok p.sum ∙ f ∙ end_here i

            pub came_on : ¬ (j ≡ b.n) → Came (j + 1) c.counts c.keys c.hi z
            came_on other =
                let ns = counts_of image b in
                let p = child_passed in
                let h : j < b.n = omega (arith, a.here) in
                let n : suc (b.n - suc j) ≡ b.n - j = omega arith in
                let f : z.entries ≡ r.entries + c.count = omega (arith, ap (λ (x : Report). x.entries) p.sum, p.same) in
                let d = ap sum (drop-cons ns j 0 (omega (arith, w.all_counts))) in
                rw (add-one j)
                (record {
                  here = omega arith;
                  counts_left = rw (n, f) count_here.1;
                  keys_left = rw (separator_here h).1 (key_here h).rest;
                  below = omega (arith, a.below, d, count_here.0);
                  few = rw p.sum (both_few levels r p.report a.few (child_bounds _ _ _ p.report p.passed).1.rest);
                  same = rw p.sum (rw p.tested at (more_here h));
                })

    pub over_fits : levels < 16 → WholePage image kind b → {x : Outcome Report}
        → x ≡ children_examined image store m kind levels b start hi
        → Fits (record { entries = 0; pages = 1; depth = 1 }) x
    over_fits h w e =
        let child = child_in image store m kind levels in
        let lo = bound_key image kind start in
        let up = bound_key image kind hi in
        let cs = children_in (cut_of image b) kind b.n b.positions b.counts b.keys in
        let one : Report = record { entries = 0; pages = 1; depth = 1 } in
        rw e (fits_all levels one (examine_children child lo up cs) h (omega arith) (omega arith) (omega arith)
        (λ x q. (
          omega (arith, children_total child lo up cs x q, total_whole w, w.below),
          (children_small levels child (λ u v p y k. (child_bounds u v p y k).1) lo up cs x q).rest,
        )))
