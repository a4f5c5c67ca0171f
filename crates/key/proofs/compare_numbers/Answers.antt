use Rattle.std.proofs.Common.{rules}
use Rattle.key.specs.Raised.{raised_order}
use Rattle.key.proofs.compare_numbers.Goals as goal

pub returns-clause-raised : goal.returns-clause-raised
returns-clause-raised c = search (rules, raised_order)
