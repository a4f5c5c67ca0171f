use mathlib.Core.Path.{refl}
use native.Mathlib.Omega.{arith}
use Rattle.fletcher.specs.Plain.{added}
use Rattle.fletcher.proofs.Sums.plus.Goals as goal

pub overflow_add-first : goal.overflow_add-first
unfolding added
overflow_add-first c = omega arith

pub overflow_add-second : goal.overflow_add-second
unfolding added
overflow_add-second c = omega arith

pub returns : goal.returns
unfolding added
returns c = refl
