-- How large the figures of a report are: what sums in code need.
--
--   Few levels r           at most `levels` pages for each entry, no page deeper than `levels`: of any of a page's children together
--   Small levels r         the same, and an entry: of a page below the root
--   Bounded root levels r  the same of any page; the root may be an empty leaf, one page more
--   ReadsBelow bound read  leaves have, and inner pages record, fewer than `bound` entries
use Prim.Native.Nat.{ℕ, zero, suc, ◌+◌, ◌*◌, ◌<◌, ◌≤◌}
use Rattle.std.specs.Prelude.{◌≡◌, Bool, true, List, [], ◌∷◌, length, Err, Ok, Option, Some}
use Rattle.std.proofs.Math.Path.{refl}
use Rattle.std.proofs.Math.Bool.{false}
use Rattle.std.proofs.Common.{arith}
use Rattle.refusal.specs.Refusal.{Outcome, too_deep}
use Rattle.std.specs.declared.cmp.Ordering.{Ordering}
use Rattle.tree.specs.Page.{Children, last, more, Page, leaf, inner, total}
use Rattle.tree.specs.declared.Report.{Report}
use Rattle.tree.specs.Examination.{nothing, one_leaf, both, over, examine_children, examine_page, examine}
use Rattle.tree.specs.Meets.{Filled}
use Rattle.tree.proofs.OutcomeLaws.{refuse_ok}
use Rattle.tree.proofs.FilledLaws.{filled_true}
use Rattle.tree.proofs.PassedLaws.{same_entries, counted_ok, more_ok, leaf_ok, inner_ok}

-- ## Pages and depth
pub record Few (levels : ℕ) (r : Report) : Type 0 where
  pub few : r.pages ≤ levels * r.entries
  pub shallow : r.depth ≤ levels

pub record Small (levels : ℕ) (r : Report) : Type 0 where
  pub one : 1 ≤ r.entries
  pub rest : Few levels r

abbrev pub Bounded : Bool → ℕ → Report → Type 0
Bounded true levels r = (r.pages ≤ levels * r.entries + 1) × (r.depth ≤ levels)
Bounded false levels r = Small levels r

pub nothing_few : (levels : ℕ) → Few levels nothing
nothing_few levels = record { few = omega arith; shallow = omega arith }

pub both_few : (levels : ℕ) (a b : Report) → Few levels a → Few levels b → Few levels (both a b)
both_few levels a b h k = record { few = omega arith; shallow = omega arith }

both_small : (levels : ℕ) (a b : Report) → Small levels a → Small levels b → Small levels (both a b)
both_small levels a b h k = record { one = omega arith; rest = both_few levels a b h.rest k.rest }

over_small : (levels : ℕ) (a : Report) → Small levels a → Small (suc levels) (over a)
over_small levels a h = record { one = h.one; rest = record { few = omega arith; shallow = omega arith } }

small_bounded : (root : Bool) (levels : ℕ) (r : Report) → Small levels r → Bounded root levels r
small_bounded true levels r h = (omega arith, h.rest.shallow)
small_bounded false levels r h = h

leaf_bounded : {E : Type 0} (levels : ℕ) (root : Bool) (es : List E) → Filled root es → Bounded root (suc levels) (one_leaf (length es))
leaf_bounded levels true es f = (omega arith, omega arith)
leaf_bounded levels false [] f = absurd f
leaf_bounded levels false (e ∷ es) f = record { one = omega arith; rest = record { few = omega arith; shallow = omega arith } }

module _ {K : Type 0} (levels : ℕ) (child : Option K → Option K → ℕ → Outcome Report)
    (small : (lo hi : Option K) (p : ℕ) (r : Report) → child lo hi p ≡ Ok r → Small levels r) where
  pub children_small : (lo hi : Option K) (cs : Children K) (r : Report) → examine_children child lo hi cs ≡ Ok r → Small levels r
  children_small lo hi (last p c) r e = small lo hi p r (counted_ok (child lo hi p) c r e).0
  children_small lo hi (more p c s cs) r e =
      let h = more_ok child lo hi p c s cs r e in
      let a = small lo (Some s) p h.first h.first_passed in
      rw h.sum at (both_small levels h.first h.rest a (children_small (Some s) hi cs h.rest h.rest_passed))

  page_bounded : {W : Type 0} (cmp : K → K → Ordering) (root : Bool) (lo hi : Option K) (o : Outcome (Page K W)) (r : Report)
      → examine_page cmp child root lo hi o ≡ Ok r → Bounded root (suc levels) r
  page_bounded cmp root lo hi (Err x) r e = refuse_ok x r e
  page_bounded cmp root lo hi (Ok (leaf es)) r e =
      let h = leaf_ok cmp root lo hi es child r e in
      rw h.sum at (leaf_bounded levels root es (filled_true root es h.full))
  page_bounded {W} cmp root lo hi (Ok (inner cs)) r e =
      let h = inner_ok cmp child lo hi cs W root r e in
      let a = over_small levels h.under (children_small lo hi cs h.under h.under_passed) in
      rw h.sum at (small_bounded root (suc levels) (over h.under) a)

module _ {K W : Type 0} (cmp : K → K → Ordering) (read : ℕ → Outcome (Page K W)) where
  pub examine_bounded : (levels : ℕ) (root : Bool) (lo hi : Option K) (p : ℕ) (r : Report)
      → examine cmp read levels root lo hi p ≡ Ok r → Bounded root levels r
  unfolding examine
  examine_bounded zero root lo hi p r e = refuse_ok too_deep r e
  examine_bounded (suc levels) root lo hi p r e =
      page_bounded levels (examine cmp read levels false) (λ a b q x h. examine_bounded levels false a b q x h) cmp root lo hi (read p) r e

-- ## Entries: what is counted is what is recorded, and so as small as the page rules keep that
pub children_total : {K : Type 0} (child : Option K → Option K → ℕ → Outcome Report) (lo hi : Option K) (cs : Children K) (r : Report)
    → examine_children child lo hi cs ≡ Ok r → r.entries ≡ total cs
children_total child lo hi (last p c) r e = (counted_ok (child lo hi p) c r e).1
children_total child lo hi (more p c s cs) r e =
    let h = more_ok child lo hi p c s cs r e in
    let sum = same_entries h.sum in
    omega (arith, sum, h.first_counted, children_total child (Some s) hi cs h.rest h.rest_passed)

pub record ReadsBelow {K W : Type 0} (bound : ℕ) (read : ℕ → Outcome (Page K W)) : Type 0 where
  pub leaves : (p : ℕ) (es : List (K × W)) → read p ≡ Ok (leaf es) → length es < bound
  pub inners : (p : ℕ) (cs : Children K) → read p ≡ Ok (inner cs) → total cs < bound

module _ {K W : Type 0} (cmp : K → K → Ordering) (read : ℕ → Outcome (Page K W)) (bound : ℕ) (B : ReadsBelow bound read) where
  page_below : (child : Option K → Option K → ℕ → Outcome Report) (root : Bool) (lo hi : Option K) (p : ℕ)
      (o : Outcome (Page K W)) (r : Report) → read p ≡ o → examine_page cmp child root lo hi o ≡ Ok r → r.entries < bound
  page_below child root lo hi p (Err x) r i e = refuse_ok x r e
  page_below child root lo hi p (Ok (leaf es)) r i e =
      let h = leaf_ok cmp root lo hi es child r e in
      omega (arith, B.leaves p es i, same_entries h.sum)
  page_below child root lo hi p (Ok (inner cs)) r i e =
      let h = inner_ok cmp child lo hi cs W root r e in
      omega (arith, B.inners p cs i, children_total child lo hi cs h.under h.under_passed, same_entries h.sum)

  pub examine_below : (levels : ℕ) (root : Bool) (lo hi : Option K) (p : ℕ) (r : Report)
      → examine cmp read levels root lo hi p ≡ Ok r → r.entries < bound
  unfolding examine
  examine_below zero root lo hi p r e = refuse_ok too_deep r e
  examine_below (suc levels) root lo hi p r e = page_below (examine cmp read levels false) root lo hi p (read p) r refl e
