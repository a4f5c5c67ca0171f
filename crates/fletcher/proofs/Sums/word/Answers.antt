use Rattle.fletcher.specs.Fletcher.{add_word}
use Rattle.fletcher.proofs.Sums.word.Goals as goal

pub returns : goal.returns
unfolding add_word
returns c = cc
