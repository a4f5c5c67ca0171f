use mathlib.Core.Bool.{false}
use mathlib.Core.Path.{◌≡◌, refl, sym, ◌∙◌, ap}
use Rattle.names.specs.declared.tree.Search.{Search}
use Rattle.names.specs.declared.tree.Search.TheVariants.{Met, Free, Deep}
use Rattle.names.specs.Tree.{met, is_in}
use Rattle.names.proofs.tree.NameTree.is_in.Goals as goal

not_met : (o : Search) → (o ≡ Met → ⊥) → met o ≡ false
not_met Met h = absurd (h refl)
not_met (Free slot) h = refl
not_met Deep h = refl

pub returns-in-Met : goal.returns-in-Met
unfolding is_in
returns-in-Met c = ap met (sym c.in-Met.is ∙ c.seek.ensures)

pub returns-in_default : goal.returns-in_default
unfolding is_in
returns-in_default c = sym (not_met c.seek.result c.in_default.not-Met) ∙ ap met c.seek.ensures
