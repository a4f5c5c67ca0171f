use Rattle.text.specs.Text.{is_printable}
use Rattle.text.specs.PartsLaws.{every_part}
use Rattle.text.proofs.eight_printable.Goals as goal

pub returns : goal.returns
returns c =
    let a = c.args in
    rw (every_part is_printable 4 4 a.s.now a.i, c.four_printable.ensures, c.four_printable-2.ensures)
