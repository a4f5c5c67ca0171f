use native.Mathlib.Omega.{arith}
use lib.ListN.{drop}
use Rattle.script.specs.Laws.{up_to_length}
use Rattle.script.proofs.next_line.Goals as goal

pub returns : goal.returns
returns c =
    let a = c.args in
    omega (arith, c.find_byte-end.ensures, up_to_length 10 (drop a.at a.input.now))
