use Rattle.line.specs.SlotLaws.{place_slot}
use Rattle.line.proofs.read.Fields.get.Goals as goal

pub returns : goal.returns
returns c = rw (c.index.ensures, place_slot c.args.name)
