use mathlib.Core.Path.{sym, ◌∙◌}
use native.Mathlib.Omega.{arith}
use Rattle.map.proofs.MapLaws.{unnamed_short, unnamed_long, named_letters}
use Rattle.map.proofs.well_named.Goals as goal

pub returns-then-name-lt1 : goal.returns-then-name-lt1
returns-then-name-lt1 c = sym (unnamed_short c.args.name.now c.if-name-lt1.true)

pub returns-then-name-gt1000 : goal.returns-then-name-gt1000
returns-then-name-gt1000 c = sym (unnamed_long c.args.name.now c.if-name-gt1000.true)

pub returns : goal.returns
returns c = c.all_printable.ensures ∙ named_letters c.args.name.now (omega arith) (omega arith)
