-- Outcomes taken apart: what an answer tells of how it came.
use Rattle.std.specs.Prelude.{ℕ, ◌≡◌, refl, Bool, true, false, Err, Ok}
use Rattle.std.proofs.Common.{arith}
use Rattle.refusal.specs.declared.Refusal.{Refusal}
use Rattle.refusal.specs.Refusal.{Outcome, bind}
use Rattle.tree.specs.Page.{branch}

-- a refusal is no answer
pub refuse_ok : {A B : Type 0} (r : Refusal) (a : A) → ◌≡◌ {A = Outcome A} (Err r) (Ok a) → B
refuse_ok r a e =
    let z : ◌≡◌ {A = ℕ} 0 1 = cc in
    absurd (omega arith)

pub bind_ok : {A B : Type 0} (o : Outcome A) (f : A → Outcome B) (b : B) → bind o f ≡ Ok b → (a : A) × (o ≡ Ok a) × (f a ≡ Ok b)
bind_ok (Ok a) f b e = (a, refl, e)
bind_ok (Err r) f b e = refuse_ok r b e

pub branch_ok : {A : Type 0} (t : Bool) (o : Outcome A) (r : Refusal) (a : A) → branch t o (Err r) ≡ Ok a → (t ≡ true) × (o ≡ Ok a)
branch_ok true o r a e = (refl, e)
branch_ok false o r a e = refuse_ok r a e
