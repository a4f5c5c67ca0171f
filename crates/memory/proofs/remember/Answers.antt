use Prim.Native.Nat.{ℕ}
use mathlib.Core.Path.{◌≡◌, refl, sym}
use mathlib.Core.List.{List}
use Rattle.page.specs.declared.Place.{Place}
use Rattle.memory.specs.declared.Recalled.{Recalled}
use Rattle.memory.specs.declared.Recalled.TheVariants.{At, Free, Full}
use Rattle.memory.specs.Words.{remembered_by, remembered_in}
use Rattle.memory.proofs.remember.Goals as goal

as_before : (ws : List ℕ) (c : ℕ) (l : Place) (need : ℕ) (r : Recalled) → ((i : ℕ) → r ≡ Free i → ⊥) → remembered_by ws c l need r ≡ ws
as_before ws c l need (At k m) other = refl
as_before ws c l need (Free i) other = absurd (other i refl)
as_before ws c l need Full other = refl

pub returns-in-Free : goal.returns-in-Free
unfolding remembered_in
returns-in-Free c = rw (← c.recall.ensures, c.in-Free.is) c.insert.ensures

pub returns-in_default : goal.returns-in_default
unfolding remembered_in
returns-in_default c =
    let a = c.args in
    rw (← c.recall.ensures) (sym (as_before a.memory.now a.c a.place a.need c.recall.result c.in_default.not-Free))
