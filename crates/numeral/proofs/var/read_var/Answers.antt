use Rattle.std.specs.Prelude.{◌≡◌, ◌+◌, get_or}
use mathlib.Core.Path.{sym, ◌∙◌}
use native.Mathlib.Omega.{arith}
use Rattle.numeral.specs.VarLaws.{var_at_past, var_at_one, var_at_short, var_at_pair}
use Rattle.numeral.proofs.var.read_var.Goals as goal

pub returns-in_err-get : goal.returns-in_err-get
returns-in_err-get c = rw (var_at_past _ _ _ c.in_err-get.ensures.lookup.3) c.from_residual.ensures

pub returns-then-b-lt128 : goal.returns-then-b-lt128
returns-then-b-lt128 c =
    let b : c.from-b.result ≡ get_or c.args.s.now c.args.at 0 = c.from-b.ensures ∙ c.in_ok-get.ensures.lookup.3.1 0 in
    c.then_some.ensures ∙ rw b (sym (var_at_one _ _ _ c.in_ok-get.ensures.lookup.3.0 (omega arith)))

pub returns-in_err-get-2 : goal.returns-in_err-get-2
returns-in_err-get-2 c =
    let b : c.from-b.result ≡ get_or c.args.s.now c.args.at 0 = c.from-b.ensures ∙ c.in_ok-get.ensures.lookup.3.1 0 in
    rw (var_at_short _ _ _ c.in_ok-get.ensures.lookup.3.0 c.in_err-get-2.ensures.lookup.3 (omega arith))
    c.from_residual-in_err-get-2.ensures

pub returns-then-value-limit : goal.returns-then-value-limit
returns-then-value-limit c =
    let b : c.from-b.result ≡ get_or c.args.s.now c.args.at 0 = c.from-b.ensures ∙ c.in_ok-get.ensures.lookup.3.1 0 in
    let d : c.from-c.result ≡ get_or c.args.s.now (c.args.at + 1) 0 = c.from-c.ensures ∙ c.in_ok-get-2.ensures.lookup.3.1 0 in
    rw (b, d) (sym (var_at_pair _ _ _ c.in_ok-get-2.ensures.lookup.3.0 (omega arith) (omega arith) (omega arith) (omega arith)))
