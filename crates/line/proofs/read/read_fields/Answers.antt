use mathlib.Core.Path.{sym, ◌∙◌}
use Rattle.line.specs.ApartLaws.{read_indistinct}
use Rattle.line.proofs.read.read_fields.Goals as goal

pub read_each-requires : goal.read_each-requires
read_each-requires c = λ t. cc

pub read_each-requires-then-are_distinct : goal.read_each-requires-then-are_distinct
read_each-requires-then-are_distinct c = λ t. sym c.are_distinct.ensures ∙ c.if-are_distinct.true

pub returns-else-are_distinct : goal.returns-else-are_distinct
returns-else-are_distinct c =
    let line = c.args.line.now in
    sym (read_indistinct line (sym c.are_distinct.ensures ∙ c.if-are_distinct.false))
