-- The measure is the limit: what follows a byte has a lower one.
use Rattle.numeral.proofs.var.+any_var.Given as goal

abbrev pub decreases-any_var : goal.decreases-any_var
decreases-any_var l = l.limit
