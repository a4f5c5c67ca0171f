use Rattle.std.proofs.Common.{arith}
use borrow.Author.Tests.{lt-ltb, le-ltb}
use Rattle.cursor.specs.Steps.{numbered}
use Rattle.cursor.specs.StateLaws.{placed}
use Rattle.cursor.proofs.numbered.Goals as goal

pub returns-then-l-lt16 : goal.returns-then-l-lt16
unfolding numbered
returns-then-l-lt16 c =
    let a = c.args in
    rw (lt-ltb a.l 16 c.if-l-lt16.true)
    (λ j. record { places = placed a.from a.l a.n (omega arith) c.if-l-lt16.true (c.fill.ensures.after (λ y e. e)) j; depth = a.depth; last = 0 })

pub returns-else-l-lt16 : goal.returns-else-l-lt16
unfolding numbered
returns-else-l-lt16 c = rw (le-ltb c.args.l 16 c.if-l-lt16.false)
