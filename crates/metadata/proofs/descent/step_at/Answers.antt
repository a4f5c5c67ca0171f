use Rattle.std.proofs.Common.{◌∙◌, ap, Ok}
use Rattle.refusal.proofs.Passing.{handed_up}
use Rattle.metadata.specs.DescentLaws.{page_refuses, leaf_answers, inner_leads}
use Rattle.metadata.proofs.descent.step_at.Goals as goal

pub returns-in_err-leaf : goal.returns-in_err-leaf
returns-in_err-leaf c = handed_up c.from_residual.ensures ∙ page_refuses _ _ _ _ _ _ c.judge.ensures c.in_err-leaf.was

pub returns-in-Leaf : goal.returns-in-Leaf
returns-in-Leaf c =
    leaf_answers _ _ _ _ _ _ c.judge.ensures (c.in_ok-leaf.was ∙ ap Ok c.in-Leaf.is) c.cut-s.ensures c.find_key.ensures

pub returns-in-Inner : goal.returns-in-Inner
returns-in-Inner c =
    inner_leads _ _ _ _ _ _ c.judge.ensures (c.in_ok-leaf.was ∙ ap Ok c.in-Inner.is) c.cut-s-in-Inner.ensures c.lead_keys-k.ensures c.child.ensures
