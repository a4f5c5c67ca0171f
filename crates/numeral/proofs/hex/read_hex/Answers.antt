use borrow.Author.Tests.{eq-eqb, ne_eqb}
use Rattle.numeral.specs.HexRunLaws.{hex_of_whole}
use Rattle.numeral.proofs.hex.read_hex.Goals as goal

pub returns-in_err-n : goal.returns-in_err-n
returns-in_err-n c = rw (hex_of_whole _, ← c.hex_at.ensures, c.in_err-n.was) c.from_residual.ensures

pub returns-then-n-text : goal.returns-then-n-text
returns-then-n-text c = rw (hex_of_whole _, ← c.hex_at.ensures, c.in_ok-n.was, eq-eqb _ _ c.if-n-text.true)

pub returns-else-n-text : goal.returns-else-n-text
returns-else-n-text c = rw (hex_of_whole _, ← c.hex_at.ensures, c.in_ok-n.was, ne_eqb _ _ c.if-n-text.false)
