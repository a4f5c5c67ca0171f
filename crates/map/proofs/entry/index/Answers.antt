use Rattle.std.proofs.Common.{sym, ap, ◌∙◌}
use Rattle.refusal.proofs.Passing.{handed_up}
use Rattle.map.specs.Map.{asking, item_of, item_by, index_of}
use Rattle.map.proofs.MapLaws.{item_fetched}
use Rattle.map.proofs.entry.index.Goals as goal

pub returns-in_err-id : goal.returns-in_err-id
unfolding item_of index_of asking
returns-in_err-id c = rw (← c.asked.ensures, c.in_err-id.was) (handed_up c.from_residual.ensures)

pub returns-in_err-s : goal.returns-in_err-s
unfolding item_of index_of asking
returns-in_err-s c =
    rw (← c.asked.ensures, c.in_ok-id.was, ← c.open.ensures, c.in_err-s.was) (handed_up c.from_residual-in_err-s.ensures)

pub returns-in_err-entry : goal.returns-in_err-entry
unfolding index_of asking
returns-in_err-entry c =
    rw (← c.asked.ensures, c.in_ok-id.was, ← c.open.ensures, c.in_ok-s.was)
    (handed_up c.from_residual-in_err-entry.ensures
    ∙ ap (item_by c.args.image.now c.in_ok-id.k) (sym c.in_err-entry.was ∙ c.index.ensures)
    ∙ item_fetched c.args.image.now c.in_ok-s.s c.in_ok-id.id c.in_ok-id.k c.args.index)

pub returns : goal.returns
unfolding index_of asking
returns c =
    rw (← c.asked.ensures, c.in_ok-id.was, ← c.open.ensures, c.in_ok-s.was, c.item_at.ensures)
    (ap (item_by c.args.image.now c.in_ok-id.k) (sym c.in_ok-entry.was ∙ c.index.ensures)
    ∙ item_fetched c.args.image.now c.in_ok-s.s c.in_ok-id.id c.in_ok-id.k c.args.index)
