-- Laws of one more child of an inner page: the report so far with its own; and reports whose figures can be added.
--
--   PassedChild  a child that passed, and the report with its own
use Prim.Native.Nat.{ℕ, ◌+◌, ◌*◌, ◌^◌, ◌≤◌, ◌<◌, max}
use Rattle.std.specs.Prelude.{◌≡◌, Bool, Err, Ok}
use Rattle.std.proofs.Math.Path.{refl, sym}
use Rattle.std.proofs.Common.{true≢false, mul-le-mul_right, arith}
use Rattle.std.proofs.Math.Bool.{true, false, cond}
use borrow.Author.Tests.{eq-eqb, ne_eqb, eqb-true}
use Rattle.std.proofs.Math.Dec.{eqb}
use Rattle.refusal.specs.declared.Refusal.{Refusal}
use Rattle.refusal.specs.Refusal.{Outcome, bind, unsound}
use Rattle.tree.specs.Page.{branch}
use Rattle.tree.specs.declared.Report.{Report}
use Rattle.tree.specs.Examination.{both, counted}
use Rattle.tree.proofs.Bounds.{Few}
use Rattle.store.specs.Examining.{tallied, Fits}

-- ## One more child, in the code's terms
pub tallied_refused : (r : Report) (count : ℕ) {x : Outcome Report} {a : Refusal} → x ≡ Err a → Err a ≡ tallied r count x
unfolding tallied
tallied_refused r count e = rw e

module _ (r : Report) (count : ℕ) {x : Outcome Report} {a : Report} (e : x ≡ Ok a) where
  pub tallied_unsound : ¬ (a.entries ≡ count) → Err unsound ≡ tallied r count x
  unfolding tallied
  tallied_unsound other = rw (e, ne_eqb a.entries count other)

  pub tallied_sum : a.entries ≡ count → {d : ℕ} → d ≡ max r.depth a.depth
      → Ok (record { entries = r.entries + a.entries; pages = r.pages + a.pages; depth = d }) ≡ tallied r count x
  unfolding tallied
  tallied_sum same i = rw (e, eq-eqb a.entries count same, i)

-- ## The same of outcomes
module _ (r : Report) (c : ℕ) where
  pub tally_refused : (o : Outcome Report) (f : Report → Outcome Report) {y : Refusal} → tallied r c o ≡ Err y
      → Err y ≡ bind (bind o (counted c)) f
  unfolding tallied
  tally_refused (Err x) f e = sym e
  tally_refused (Ok a) f {y} e = go (eqb a.entries c) e
    where
      go : (t : Bool) → cond t (Ok (both r a)) (Err unsound) ≡ Err y → Err y ≡ bind (branch t (Ok a) (Err unsound)) f
      go true q = absurd (true≢false cc)
      go false q = sym q

  -- a child that passed, and the report with its own
  pub record PassedChild (o : Outcome Report) (z : Report) : Type 0 where
    pub report : Report
    pub passed : o ≡ Ok report
    pub tested : bind o (counted c) ≡ Ok report
    pub same : report.entries ≡ c
    pub sum : z ≡ both r report

  pub tally_passed : (o : Outcome Report) {z : Report} → tallied r c o ≡ Ok z → PassedChild o z
  unfolding tallied
  tally_passed (Err x) e = absurd (true≢false cc)
  tally_passed (Ok a) {z} e = go (eqb a.entries c) refl e
    where
      go : (t : Bool) → eqb a.entries c ≡ t → cond t (Ok (both r a)) (Err unsound) ≡ Ok z → PassedChild (Ok a) z
      go true q h =
          let s : z ≡ both r a = cc in
          record { report = a; passed = refl; tested = rw q; same = eqb-true a.entries c q; sum = s }
      go false q h = absurd (true≢false cc)

-- ## Figures that can be added
pub fits_passed : (r : Report) {x : Outcome Report} {a : Report} → Fits r x → x ≡ Ok a
    → (r.entries + a.entries < 2 ^ 64) × (r.pages + a.pages < 2 ^ 64) × (r.depth + a.depth < 2 ^ 32)
fits_passed r f e = rw e at f

pub few_pages : (levels e p : ℕ) → levels < 16 → p ≤ levels * e → p ≤ 16 * e
few_pages levels e p h k =
    let l : levels ≤ 16 = omega arith in
    omega (arith, mul-le-mul_right e l)

pub fits_all : (levels : ℕ) (r : Report) (o : Outcome Report) → levels < 16 → r.entries < 2 ^ 48 → r.pages ≤ 16 * r.entries + 1 → r.depth ≤ 16
    → ((a : Report) → o ≡ Ok a → (a.entries < 2 ^ 48) × Few levels a) → Fits r o
fits_all levels r (Err x) h e p d b = tt
fits_all levels r (Ok a) h e p d b =
    let k = b a refl in
    let f = few_pages levels a.entries a.pages h k.1.few in
    (omega (arith, k.0), omega (arith, k.0), omega (arith, k.1.shallow))
