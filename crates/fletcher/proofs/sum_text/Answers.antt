use Rattle.fletcher.specs.Fletcher.{fletcher_of}
use Rattle.fletcher.proofs.sum_text.Goals as goal

pub returns : goal.returns
unfolding fletcher_of
returns c = cc c.sum_words-t.ensures
