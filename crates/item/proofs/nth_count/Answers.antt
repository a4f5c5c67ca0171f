use native.Mathlib.Omega.{arith}
use mathlib.Core.Path.{sym, ◌∙◌}
use Rattle.numeral.specs.VarLaws.{var_at_read}
use Rattle.item.specs.Item.{count_limit}
use Rattle.item.specs.CountLaws.{nth_count_past, nth_count_stuck, nth_count_bad, nth_count_over, nth_count_at}
use Rattle.item.proofs.nth_count.Goals as goal

pub returns-then-n-k : goal.returns-then-n-k
returns-then-n-k c = sym (nth_count_past _ _ _ _ (omega arith))

pub returns-in_default : goal.returns-in_default
returns-in_default c = sym (nth_count_stuck _ _ _ _ (omega arith) (sym c.sum_counts.ensures ∙ c.in_default.is))

pub returns-in_default-read_var : goal.returns-in_default-read_var
returns-in_default-read_var c =
    sym (nth_count_bad _ _ _ _ (omega arith) (sym c.sum_counts.ensures ∙ c.in-Some.is) (sym c.read_var.ensures ∙ c.in_default-read_var.is))

pub overflow_sub-count : goal.overflow_sub-count
overflow_sub-count c = omega (arith, (var_at_read count_limit _ _ (sym c.read_var.ensures ∙ c.in-Some-read_var.is)).below)

pub returns-then-count-before : goal.returns-then-count-before
returns-then-count-before c =
    sym (nth_count_over _ _ _ _ (omega arith) (sym c.sum_counts.ensures ∙ c.in-Some.is) (sym c.read_var.ensures ∙ c.in-Some-read_var.is) (omega arith))

pub returns : goal.returns
returns c =
    sym (nth_count_at _ _ _ _ (omega arith) (sym c.sum_counts.ensures ∙ c.in-Some.is) (sym c.read_var.ensures ∙ c.in-Some-read_var.is) (omega arith))
