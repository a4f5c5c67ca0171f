use native.Mathlib.Omega.{arith}
use mathlib.Core.Path.{sym, ◌∙◌}
use Prim.Native.Nat.{◌^◌}
use Rattle.numeral.specs.VarLaws.{var_at_read}
use Rattle.std.proofs.Common.{◌≡◌, Some}
use Rattle.refusal.proofs.Passing.{ok_or_some}
use Rattle.page.proofs.fields.Goals as goal

pub overflow_cast-result : goal.overflow_cast-result
overflow_cast-result c =
    let read : c.read_var-2.result ≡ Some c.in_ok-n.n = ok_or_some _ c.ok_or-2.ensures.value c.in_ok-n.was in
    omega (arith, (var_at_read (2 ^ 31) _ _ (sym c.read_var-2.ensures ∙ read)).below)
