-- An examination that passes, taken apart: X-ok tells what passed under X, and what the report is made of.
use Rattle.std.specs.Prelude.{ℕ, ◌≡◌, Bool, true, ◌&&◌, List, eqb, length, Err, None, Ok, Option, Some}
use Rattle.std.proofs.Common.{sym, ◌∙◌, ap, eqb-true, eq-eqb}
use Rattle.std.proofs.Math.Bool.{and-eq-true_iff}
use Rattle.refusal.specs.Refusal.{Outcome, bind, unsound}
use Rattle.std.specs.declared.cmp.Ordering.{Ordering}
use Rattle.tree.specs.Page.{Children, more, leaf, inner, separators}
use Rattle.tree.specs.declared.Report.{Report}
use Rattle.tree.specs.Examination.{one_leaf, both, over, counted, filled, separators_lie, keys_lie, examine_children}
use Rattle.tree.specs.Examination.{examine_page}
use Rattle.tree.proofs.OutcomeLaws.{refuse_ok, bind_ok, branch_ok}

pub same_entries : {a b : Report} → a ≡ b → a.entries ≡ b.entries
same_entries e = ap (λ (x : Report). x.entries) e

-- ## A child before its recorded count
pub counted_ok : (o : Outcome Report) (c : ℕ) (r : Report) → bind o (counted c) ≡ Ok r → (o ≡ Ok r) × (r.entries ≡ c)
counted_ok (Err x) c r e = refuse_ok x r e
counted_ok (Ok a) c r e =
    let h = branch_ok (eqb a.entries c) (Ok a) unsound r e in
    let same : a ≡ r = cc h.1 in
    (h.1, sym (same_entries same) ∙ eqb-true a.entries c h.0)

pub ok_counted : (c : ℕ) (r : Report) → r.entries ≡ c → counted c r ≡ Ok r
ok_counted c r e = rw (eq-eqb r.entries c e)

-- ## Two children and more
module _ {K : Type 0} (child : Option K → Option K → ℕ → Outcome Report) (lo hi : Option K) (p c : ℕ) (s : K) (cs : Children K) where
  pub record PassedMore (r : Report) : Type 0 where
    pub first : Report
    pub rest : Report
    pub first_passed : child lo (Some s) p ≡ Ok first
    pub first_counted : first.entries ≡ c
    pub rest_passed : examine_children child (Some s) hi cs ≡ Ok rest
    pub sum : both first rest ≡ r

  pub more_ok : (r : Report) → examine_children child lo hi (more p c s cs) ≡ Ok r → PassedMore r
  more_ok r e =
      let after = examine_children child (Some s) hi cs in
      let a = bind_ok (bind (child lo (Some s) p) (counted c)) (λ x. bind after (λ y. Ok (both x y))) r e in
      let b = bind_ok after (λ y. Ok (both a.0 y)) r a.2 in
      let h = counted_ok (child lo (Some s) p) c a.0 a.1 in
      record { first = a.0; rest = b.0; first_passed = h.0; first_counted = h.1; rest_passed = b.1; sum = cc b.2 }

-- ## A page
module _ {K W : Type 0} (cmp : K → K → Ordering) (root : Bool) (lo hi : Option K) (es : List (K × W)) where
  pub record PassedLeaf (r : Report) : Type 0 where
    pub full : filled root es ≡ true
    pub lie : keys_lie cmp lo hi None es ≡ true
    pub sum : one_leaf (length es) ≡ r

  pub leaf_ok : (child : Option K → Option K → ℕ → Outcome Report) (r : Report)
      → examine_page cmp child root lo hi (Ok (leaf es)) ≡ Ok r → PassedLeaf r
  leaf_ok child r e =
      let b = branch_ok (filled root es && keys_lie cmp lo hi None es) (Ok (one_leaf (length es))) unsound r e in
      let t = (and-eq-true_iff (filled root es) (keys_lie cmp lo hi None es)).0 b.0 in
      record { full = t.0; lie = t.1; sum = cc b.1 }

module _ {K : Type 0} (cmp : K → K → Ordering) (child : Option K → Option K → ℕ → Outcome Report) (lo hi : Option K) (cs : Children K) where
  pub record PassedInner (r : Report) : Type 0 where
    pub lie : separators_lie cmp lo hi (separators cs) ≡ true
    pub under : Report
    pub under_passed : examine_children child lo hi cs ≡ Ok under
    pub sum : over under ≡ r

  pub inner_ok : (W : Type 0) (root : Bool) (r : Report) → examine_page {W = W} cmp child root lo hi (Ok (inner cs)) ≡ Ok r → PassedInner r
  inner_ok W root r e =
      let all = examine_children child lo hi cs in
      let b = branch_ok (separators_lie cmp lo hi (separators cs)) (bind all (λ x. Ok (over x))) unsound r e in
      let a = bind_ok all (λ x. Ok (over x)) r b.1 in
      record { lie = b.0; under = a.0; under_passed = a.1; sum = cc a.2 }
