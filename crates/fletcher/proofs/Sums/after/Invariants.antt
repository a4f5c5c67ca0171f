use Prim.Native.Nat.{◌*◌}
use mathlib.Core.Path.{◌≡◌}
use lib.ListN.{drop}
use Rattle.fletcher.specs.Fletcher.{sums}
use Rattle.fletcher.specs.Plain.{both_reduced, Within}
use Rattle.fletcher.proofs.Sums.after.Given as goal

abbrev pub invariant-loop-word : goal.invariant-loop-word
invariant-loop-word l = record {
  within : Within l.word-index l.t;
  left : sums l.edition (both_reduced l.t) (drop (2 * l.word-index) l.block) ≡ sums l.edition l.fn.self l.block;
}
