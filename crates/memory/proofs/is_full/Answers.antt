use mathlib.Core.Path.{sym, ◌∙◌}
use borrow.Author.Tests.{eq-eqb}
use Rattle.memory.specs.Words.{places}
use Rattle.memory.specs.WayLaws.{full_none, full_last}
use Rattle.memory.proofs.is_full.Goals as goal

pub returns-then-n-eq0 : goal.returns-then-n-eq0
returns-then-n-eq0 c =
    let ws = c.args.memory.now in
    let none = c.if-n-eq0.true in
    eq-eqb (places ws) 0 none ∙ sym (full_none ws none)

pub returns-else-n-eq0 : goal.returns-else-n-eq0
returns-else-n-eq0 c = sym (full_last c.args.memory.now c.if-n-eq0.false)
