use Rattle.std.specs.Prelude.{◌≡◌, get_or}
use Rattle.std.proofs.Common.{arith, sym, ◌∙◌}
use borrow.Author.Tests.{eq-eqb, ne_eqb}
use Rattle.numeral.specs.Var.{continued}
use Rattle.numeral.specs.VarLaws.{var_at_past, var_at_over, var_at_last, var_at_more, var_at_room}
use Rattle.numeral.proofs.var.+any_var.Goals as goal

pub returns-in_err-get : goal.returns-in_err-get
returns-in_err-get t c = rw (var_at_past _ _ _ c.in_err-get.ensures.lookup.3) c.from_residual.ensures

pub returns-then-limit-b : goal.returns-then-limit-b
returns-then-limit-b t c =
    let b : c.from-b.result ≡ get_or c.args.s.now c.args.at 0 = c.from-b.ensures ∙ c.in_ok-get.ensures.lookup.3.1 0 in
    sym (var_at_over _ _ _ c.in_ok-get.ensures.lookup.3.0 (omega arith))

pub returns-then-b-lt128 : goal.returns-then-b-lt128
returns-then-b-lt128 t c =
    let b : c.from-b.result ≡ get_or c.args.s.now c.args.at 0 = c.from-b.ensures ∙ c.in_ok-get.ensures.lookup.3.1 0 in
    rw b (sym (var_at_last _ _ _ c.in_ok-get.ensures.lookup.3.0 (omega arith) (omega arith)))

pub returns : goal.returns
unfolding continued
returns t c =
    let b : c.from-b.result ≡ get_or c.args.s.now c.args.at 0 = c.from-b.ensures ∙ c.in_ok-get.ensures.lookup.3.1 0 in
    let some = sym c.any_var.ensures ∙ c.in_ok-n.was in
    rw (var_at_more c.args.limit c.args.s.now c.args.at c.in_ok-get.ensures.lookup.3.0 (omega arith) (omega arith), ← b, some, ne_eqb _ 0 c.if-n-eq0.false)

pub returns-in_err-n : goal.returns-in_err-n
unfolding continued
returns-in_err-n t c =
    let b : c.from-b.result ≡ get_or c.args.s.now c.args.at 0 = c.from-b.ensures ∙ c.in_ok-get.ensures.lookup.3.1 0 in
    let none = sym c.any_var.ensures ∙ c.in_err-n.was in
    rw (var_at_more c.args.limit c.args.s.now c.args.at c.in_ok-get.ensures.lookup.3.0 (omega arith) (omega arith), ← b, none) c.from_residual-in_err-n.ensures

pub returns-then-n-eq0 : goal.returns-then-n-eq0
unfolding continued
returns-then-n-eq0 t c =
    let b : c.from-b.result ≡ get_or c.args.s.now c.args.at 0 = c.from-b.ensures ∙ c.in_ok-get.ensures.lookup.3.1 0 in
    let some = sym c.any_var.ensures ∙ c.in_ok-n.was in
    rw (var_at_more c.args.limit c.args.s.now c.args.at c.in_ok-get.ensures.lookup.3.0 (omega arith) (omega arith), ← b, some, eq-eqb _ 0 c.if-n-eq0.true)

pub overflow_mul-result : goal.overflow_mul-result
overflow_mul-result t c =
    let some = sym c.any_var.ensures ∙ c.in_ok-n.was in
    omega (arith, var_at_room c.args.limit _ _ _ (omega arith) (omega arith) some c.if-n-eq0.false)

pub overflow_add-result-2 : goal.overflow_add-result-2
overflow_add-result-2 t c =
    let some = sym c.any_var.ensures ∙ c.in_ok-n.was in
    omega (arith, var_at_room c.args.limit _ _ _ (omega arith) (omega arith) some c.if-n-eq0.false)
