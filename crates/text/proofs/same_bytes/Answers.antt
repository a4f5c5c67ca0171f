use Rattle.std.proofs.Common.{rules}
use Rattle.text.specs.Laws.{same_pointwise}
use Rattle.text.proofs.same_bytes.Goals as goal

pub returns : goal.returns
returns c = rw (same_pointwise c.args.s.now c.args.t.now) (search rules)
