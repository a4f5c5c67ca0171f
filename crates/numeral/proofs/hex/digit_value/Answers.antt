use Prim.Native.Nat.{◌+◌, ◌-◌}
use Rattle.std.specs.Prelude.{◌≡◌}
use mathlib.Core.Path.{sym}
use native.Mathlib.Omega.{arith}
use Rattle.numeral.specs.HexLaws.{said_decimal, said_letter, said_other}
use Rattle.numeral.proofs.hex.digit_value.Goals as goal

pub returns-in-48-to-57 : goal.returns-in-48-to-57
returns-in-48-to-57 c = rw (c.from.ensures, said_decimal c.args.b (omega arith) (omega arith))

pub returns-in-97-to-102 : goal.returns-in-97-to-102
returns-in-97-to-102 c =
    let e : c.args.b - 97 + 10 ≡ c.args.b - 87 = omega arith in
    rw (c.from-in-97-to-102.ensures, e, said_letter c.args.b (omega arith) (omega arith))

pub returns-in_default : goal.returns-in_default
returns-in_default c = sym (said_other _ (λ l h. omega arith) (λ l h. omega arith))

pub returns-in_default-2 : goal.returns-in_default-2
returns-in_default-2 c = sym (said_other _ (λ l h. omega arith) (λ l h. omega arith))

pub returns-in_default-3 : goal.returns-in_default-3
returns-in_default-3 c = sym (said_other _ (λ l h. omega arith) (λ l h. omega arith))
