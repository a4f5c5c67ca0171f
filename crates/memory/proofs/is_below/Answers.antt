use mathlib.Core.Path.{ap, sym, ◌∙◌}
use mathlib.Core.Bool.{not}
use borrow.Author.Tests.{eq-eqb}
use Rattle.memory.specs.WayLaws.{below_free, below_taken}
use Rattle.memory.proofs.is_below.Goals as goal

pub returns-then-w-ne0 : goal.returns-then-w-ne0
returns-then-w-ne0 c = sym (below_taken c.args.w c.args.c c.if-w-ne0.true)

pub returns-else-w-ne0 : goal.returns-else-w-ne0
returns-else-w-ne0 c =
    let a = c.args in
    let free = c.if-w-ne0.false in
    ap not (eq-eqb a.w 0 free) ∙ sym (below_free a.w a.c free)
