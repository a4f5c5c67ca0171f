use Rattle.text.specs.Text.{is_printable}
use Rattle.text.specs.PartsLaws.{every_part}
use Rattle.text.proofs.sixteen_printable.Goals as goal

pub returns : goal.returns
returns c =
    let a = c.args in
    rw (every_part is_printable 8 8 a.s.now a.i, c.eight_printable.ensures, c.eight_printable-2.ensures)
