use mathlib.Core.Path.{◌≡◌}
use Rattle.std.specs.Slice.Iter.{chunks_rest, chunks_size}
use Rattle.fletcher.specs.Fletcher.{sums, start}
use Rattle.fletcher.specs.Plain.{Reduced}
use Rattle.fletcher.proofs.sum_words.Given as goal

abbrev pub invariant-loop-block : goal.invariant-loop-block
invariant-loop-block l = record {
  size : chunks_size l.block-iterator ≡ 720;
  reduced : Reduced l.t;
  left : sums l.edition l.t (chunks_rest l.block-iterator) ≡ sums l.edition start l.text;
}
