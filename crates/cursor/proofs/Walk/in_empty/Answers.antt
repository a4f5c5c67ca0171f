use borrow.Author.Tests.{eq-eqb, ne_eqb}
use Rattle.cursor.specs.Steps.{empty_step}
use Rattle.cursor.proofs.Walk.in_empty.Goals as goal

pub returns-then-self-eq0 : goal.returns-then-self-eq0
unfolding empty_step
returns-then-self-eq0 c = rw (c.done.ensures, eq-eqb c.args.self.depth 0 c.if-self-eq0.true)

pub returns : goal.returns
unfolding empty_step
returns c = rw (c.refused.ensures, ne_eqb c.args.self.depth 0 c.if-self-eq0.false)
