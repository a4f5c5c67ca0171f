-- The examination against soundness by recursion: what a passed examination tells (`Told`), and that a page that meets the rules,
-- with keys within its bounds, passes (`Passed`). Each for keys and separators, for the children, for a page, from a page down.
use Prim.Native.Nat.{ℕ, zero, suc}
use Rattle.std.specs.Prelude.{◌≡◌, refl, Bool, true, ◌&&◌, length, Err, None, Ok, Option, Some}
use Rattle.std.proofs.Math.Path.{sym}
use Rattle.std.proofs.Common.{◌∙◌, arith, length-append}
use Rattle.std.proofs.Math.Bool.{false, and-eq-true_iff}
use mathlib.Core.List.{List, [], ◌∷◌, ◌++◌}
use Rattle.refusal.specs.Refusal.{Outcome, too_deep}
use Rattle.std.specs.declared.cmp.Ordering.{Ordering}
use Rattle.order.specs.Order.{TotalOrder, Below}
use Rattle.tree.specs.Page.{Children, last, more, Page, leaf, inner, separators, joined, All}
use Rattle.tree.specs.Asking.{entries_page, entries}
use Rattle.tree.specs.declared.Report.{Report}
use Rattle.tree.specs.Examination.{one_leaf, both, over, above_bound, from_bound, below_bound, separators_lie, keys_lie}
use Rattle.tree.specs.Examination.{examine_children, examine_page, examine}
use Rattle.tree.specs.Meets.{Filled, AboveBound, BelowBound, LeftOfBound, Within, MeetsChildren, MeetsPage, Meets}
use Rattle.tree.proofs.ListLaws.{all_append, all_right, all_always, all_imp}
use Rattle.tree.proofs.OutcomeLaws.{refuse_ok}
use Rattle.tree.proofs.FilledLaws.{filled_true, true_filled, filled_both, joined_filled, meets_filled}
use Rattle.tree.proofs.BoundLaws.{above_true, true_above, from_true, true_from, under_true, true_under, left_above_below}
use Rattle.tree.proofs.BoundLaws.{above_below_above, from_below_above, upto_under_under, within_append, within_left}
use Rattle.tree.proofs.BoundLaws.{within_right}
use Rattle.tree.proofs.PassedLaws.{same_entries, counted_ok, ok_counted, more_ok, leaf_ok, inner_ok}

-- the report counts the entries es, whose keys lie within the bounds; Fact is what else is told
pub record Told {K W : Type 0} (cmp : K → K → Ordering) (Fact : Type 0) (lo hi : Option K) (es : List (K × W)) (r : Report) : Type 0 where
  pub fact : Fact
  pub within : Within cmp lo hi es
  pub count : r.entries ≡ length es

abbrev pub Passed : {E : Type 0} → List E → Outcome Report → Type 0
Passed es o = (r : Report) × (o ≡ Ok r) × (r.entries ≡ length es)

-- ## Keys and separators
module _ {K : Type 0} (cmp : K → K → Ordering) where
  record Lies (lo hi : Option K) (s : K) (ks : List K) : Type 0 where
    pub above : AboveBound cmp lo s
    pub under : BelowBound cmp hi s
    pub rest : separators_lie cmp (Some s) hi ks ≡ true

  separators_tell : (lo hi : Option K) (s : K) (ks : List K) → separators_lie cmp lo hi (s ∷ ks) ≡ true → Lies lo hi s ks
  unfolding separators_lie
  separators_tell lo hi s ks t =
      let a = (and-eq-true_iff (above_bound cmp lo s && below_bound cmp hi s) (separators_lie cmp (Some s) hi ks)).0 t in
      let b = (and-eq-true_iff (above_bound cmp lo s) (below_bound cmp hi s)).0 a.0 in
      record { above = above_true cmp lo s b.0; under = under_true cmp hi s b.1; rest = a.1 }

module _ {K W : Type 0} {cmp : K → K → Ordering} (L : TotalOrder K cmp) where
  keys_tell : (lo hi previous : Option K) (es : List (K × W)) → keys_lie cmp lo hi previous es ≡ true
      → All (λ e. AboveBound cmp previous e.0) es × Within cmp lo hi es
  unfolding keys_lie
  keys_tell lo hi previous [] t = (tt, record { rises = tt; low = tt; high = tt })
  keys_tell lo hi previous (e ∷ es) t =
      let k = e.0 in
      let between = from_bound cmp lo k && below_bound cmp hi k in
      let a = (and-eq-true_iff (above_bound cmp previous k && between) (keys_lie cmp lo hi (Some k) es)).0 t in
      let b = (and-eq-true_iff (above_bound cmp previous k) between).0 a.0 in
      let c = (and-eq-true_iff (from_bound cmp lo k) (below_bound cmp hi k)).0 b.1 in
      let above = above_true cmp previous k b.0 in
      let rest = keys_tell lo hi (Some k) es a.1 in (
        (above, all_imp (λ f h. above_below_above L previous k f.0 above h) es rest.0),
        record {
          rises = (rest.0, rest.1.rises);
          low = (from_true cmp lo k c.0, rest.1.low);
          high = (under_true cmp hi k c.1, rest.1.high);
        },
      )

keys_pass : {K W : Type 0} (cmp : K → K → Ordering) (lo hi previous : Option K) (es : List (K × W))
    → All (λ e. AboveBound cmp previous e.0) es → Within cmp lo hi es → keys_lie cmp lo hi previous es ≡ true
unfolding keys_lie
keys_pass cmp lo hi previous [] a w = refl
keys_pass cmp lo hi previous (e ∷ es) a w =
    rw (true_above cmp previous e.0 a.0, true_from cmp lo e.0 w.low.0, true_under cmp hi e.0 w.high.0)
    (keys_pass cmp lo hi (Some e.0) es w.rises.0 (record { rises = w.rises.1; low = w.low.1; high = w.high.1 }))

-- a separator lies between the bounds, as there is a key on either side
separator_passes : {K W : Type 0} {cmp : K → K → Ordering} (L : TotalOrder K cmp) (lo hi : Option K) (s : K) (a b : List (K × W))
    → Filled false a → Filled false b → Within cmp lo (Some s) a → Within cmp (Some s) hi b
    → (above_bound cmp lo s ≡ true) × (below_bound cmp hi s ≡ true)
separator_passes {cmp = cmp} L lo hi s a b f g u v =
    let x = filled_both _ _ a f u.low u.high in
    let y = filled_both _ _ b g v.low v.high in
    let above = from_below_above L lo x.0.0 s x.1 x.2 in
    let under = upto_under_under L hi s y.0.0 y.1 y.2 in
    (true_above cmp lo s above, true_under cmp hi s under)

-- ## The children, and a page
module _ {K W : Type 0} {cmp : K → K → Ordering} (L : TotalOrder K cmp) (list : ℕ → List (K × W)) (Child : ℕ → Type 0)
    (child : Option K → Option K → ℕ → Outcome Report) where
  module _ (tells : (lo hi : Option K) (p : ℕ) (r : Report) → child lo hi p ≡ Ok r → Told cmp (Child p) lo hi (list p) r) where
    children_tell : (lo hi : Option K) (left : List (K × W)) (cs : Children K) (r : Report)
        → All (λ e. LeftOfBound cmp lo e.0) left → separators_lie cmp lo hi (separators cs) ≡ true
        → examine_children child lo hi cs ≡ Ok r → Told cmp (MeetsChildren cmp list Child left cs) lo hi (joined list cs) r
    children_tell lo hi left (last p c) r l t e =
        let h = counted_ok (child lo hi p) c r e in
        let a = tells lo hi p r h.0 in
        record { fact = (tt, (sym h.1 ∙ a.count, a.fact)); within = a.within; count = a.count }
    children_tell lo hi left (more p c s cs) r l t e =
        let lies = separators_tell cmp lo hi s (separators cs) t in
        let h = more_ok child lo hi p c s cs r e in
        let a = tells lo (Some s) p h.first h.first_passed in
        let farther = all_imp (λ x k. left_above_below L lo x.0 s k lies.above) left l in
        let before = all_append (λ x. Below cmp x.0 s) left (list p) farther a.within.high in
        let b = children_tell (Some s) hi (left ++ list p) cs h.rest before lies.rest h.rest_passed in
        let sum = same_entries h.sum in
        record {
          fact = ((before, b.within.low, b.fact.0), ((sym h.first_counted ∙ a.count, a.fact), b.fact.1));
          within = within_append L lo hi s (list p) (joined list cs) lies.above lies.under a.within b.within;
          count = rw length-append (omega (arith, a.count, b.count, sum));
        }

    page_tells : (root : Bool) (lo hi : Option K) (o : Outcome (Page K W)) (r : Report) → examine_page cmp child root lo hi o ≡ Ok r
        → Told cmp (MeetsPage cmp list Child root o) lo hi (entries_page list o) r
    page_tells root lo hi (Err x) r e = refuse_ok x r e
    page_tells root lo hi (Ok (leaf es)) r e =
        let h = leaf_ok cmp root lo hi es child r e in
        let count = same_entries h.sum in
        record { fact = filled_true root es h.full; within = (keys_tell L lo hi None es h.lie).1; count = sym count }
    page_tells root lo hi (Ok (inner cs)) r e =
        let h = inner_ok cmp child lo hi cs W root r e in
        let a = children_tell lo hi [] cs h.under tt h.lie h.under_passed in
        let count = same_entries h.sum in
        record { fact = a.fact; within = a.within; count = sym count ∙ a.count }

  module _ (passes : (lo hi : Option K) (p : ℕ) → Child p → Within cmp lo hi (list p) → Passed (list p) (child lo hi p))
      (full : (p : ℕ) → Child p → Filled false (list p)) where
    more_passes : (lo hi : Option K) (p c : ℕ) (s : K) (cs : Children K) → c ≡ length (list p)
        → Passed (list p) (child lo (Some s) p) → Passed (joined list cs) (examine_children child (Some s) hi cs)
        → Passed (list p ++ joined list cs) (examine_children child lo hi (more p c s cs))
    more_passes lo hi p c s cs n a b =
        let count = ok_counted c a.0 (a.2 ∙ sym n) in
        (both a.0 b.0, rw (a.1, count, b.1), rw length-append (omega (arith, a.2, b.2)))

    children_pass : (lo hi : Option K) (left : List (K × W)) (cs : Children K) → MeetsChildren cmp list Child left cs
        → Within cmp lo hi (joined list cs)
        → Passed (joined list cs) (examine_children child lo hi cs) × (separators_lie cmp lo hi (separators cs) ≡ true)
    unfolding separators_lie
    children_pass lo hi left (last p c) m w =
        let a = passes lo hi p m.1.1 w in
        ((a.0, rw a.1 (ok_counted c a.0 (a.2 ∙ sym m.1.0)), a.2), refl)
    children_pass lo hi left (more p c s cs) m w =
        let u = within_left cmp lo hi s (list p) (joined list cs) w (all_right _ left (list p) m.0.0) in
        let v = within_right cmp lo hi s (list p) (joined list cs) w m.0.1 in
        let a = passes lo (Some s) p m.1.0.1 u in
        let b = children_pass (Some s) hi (left ++ list p) cs (m.0.2, m.1.1) v in
        let after = joined_filled list Child full cs m.1.1 in
        let lies = separator_passes L lo hi s (list p) (joined list cs) (full p m.1.0.1) after u v in
        (more_passes lo hi p c s cs m.1.0.0 a b.0, rw (lies.0, lies.1) b.1)

    page_passes : (root : Bool) (lo hi : Option K) (o : Outcome (Page K W)) → MeetsPage cmp list Child root o
        → Within cmp lo hi (entries_page list o) → Passed (entries_page list o) (examine_page cmp child root lo hi o)
    page_passes root lo hi (Err x) m w = absurd m
    page_passes root lo hi (Ok (leaf es)) m w =
        let lie = keys_pass cmp lo hi None es (all_always (λ e. Unit {0}) (λ e. tt) es) w in
        (one_leaf (length es), rw (true_filled root es m, lie), refl)
    page_passes root lo hi (Ok (inner cs)) m w =
        let h = children_pass lo hi [] cs m w in
        (over h.0.0, rw (h.1, h.0.1), h.0.2)

-- ## From a page down
module _ {K W : Type 0} {cmp : K → K → Ordering} (L : TotalOrder K cmp) (read : ℕ → Outcome (Page K W)) where
  pub examine_tells : (levels : ℕ) (root : Bool) (lo hi : Option K) (p : ℕ) (r : Report) → examine cmp read levels root lo hi p ≡ Ok r
      → Told cmp (Meets cmp read levels root p) lo hi (entries read levels p) r
  unfolding examine Meets entries
  examine_tells zero root lo hi p r e = refuse_ok too_deep r e
  examine_tells (suc levels) root lo hi p r e =
      page_tells L (entries read levels) (Meets cmp read levels false) (examine cmp read levels false)
      (λ a b q s h. examine_tells levels false a b q s h) root lo hi (read p) r e

  pub examine_passes : (levels : ℕ) (root : Bool) (lo hi : Option K) (p : ℕ) → Meets cmp read levels root p
      → Within cmp lo hi (entries read levels p) → Passed (entries read levels p) (examine cmp read levels root lo hi p)
  unfolding examine Meets entries
  examine_passes zero root lo hi p m w = absurd m
  examine_passes (suc levels) root lo hi p m w =
      page_passes L (entries read levels) (Meets cmp read levels false) (examine cmp read levels false)
      (λ a b q n v. examine_passes levels false a b q n v) (meets_filled cmp read levels) root lo hi (read p) m w
