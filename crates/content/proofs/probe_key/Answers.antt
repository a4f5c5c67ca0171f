use native.Mathlib.Omega.{arith}
use mathlib.Core.Path.{sym, ◌∙◌}
use Rattle.item.specs.ItemLaws.{item_lies}
use Rattle.content.specs.KeyLaws.{probe_ordered}
use Rattle.content.proofs.probe_key.Goals as goal

pub slice_bounds-compare-count : goal.slice_bounds-compare-count
slice_bounds-compare-count c =
    omega (arith, (item_lies _ c.key_form.result c.args.i (sym c.item_at.ensures ∙ c.in_ok-item.was)).ends)

pub slice_bounds-compare-start : goal.slice_bounds-compare-start
slice_bounds-compare-start c =
    omega (arith, (item_lies _ c.key_form.result c.args.i (sym c.item_at.ensures ∙ c.in_ok-item.was)).ends)

pub slice_bounds-compare-end : goal.slice_bounds-compare-end
slice_bounds-compare-end c =
    omega (arith, (item_lies _ c.key_form.result c.args.i (sym c.item_at.ensures ∙ c.in_ok-item.was)).inside)

pub returns-in-Less : goal.returns-in-Less
returns-in-Less c =
    sym (probe_ordered _ _ _ _ (rw c.key_form.ensures at (sym c.item_at.ensures ∙ c.in_ok-item.was)) (sym c.compare-o.ensures ∙ c.in-Less.is))

pub returns-in-Equal : goal.returns-in-Equal
returns-in-Equal c =
    sym (probe_ordered _ _ _ _ (rw c.key_form.ensures at (sym c.item_at.ensures ∙ c.in_ok-item.was)) (sym c.compare-o.ensures ∙ c.in-Equal.is))

pub returns-in-Greater : goal.returns-in-Greater
returns-in-Greater c =
    sym (probe_ordered _ _ _ _ (rw c.key_form.ensures at (sym c.item_at.ensures ∙ c.in_ok-item.was)) (sym c.compare-o.ensures ∙ c.in-Greater.is))
