-- What `?` hands up.
use Rattle.std.specs.Prelude.{◌≡◌, Option, None, Some, Result, Ok, Err, IsErr, IsErrAnd, ok_or}
use Rattle.std.proofs.Common.{ap}
use Rattle.std.proofs.Math.Path.{refl}

-- an error goes up as it is
pub handed_up : {T E : Type 0} {r : Result T E} {e : E} → IsErr r × IsErrAnd r (λ x. x ≡ e) → r ≡ Err e
handed_up {r = Ok x} p = absurd p.1
handed_up {r = Err x} p = ap Err p.1

-- what there was, where it was no error that there was none
pub ok_or_some : {A E : Type 0} {o : Option A} {r : Result A E} {a : A} (e : E) → r ≡ ok_or o e → r ≡ Ok a → o ≡ Some a
ok_or_some {o = Some b} {a = a} e p q = let same : b ≡ a = cc in ap Some same
ok_or_some {o = None} e p q = cc

-- nothing, where it was an error
pub ok_or_none : {A E : Type 0} {o : Option A} {r : Result A E} {x : E} (e : E) → r ≡ ok_or o e → r ≡ Err x → o ≡ None
ok_or_none {o = Some b} e p q = cc
ok_or_none {o = None} e p q = refl
