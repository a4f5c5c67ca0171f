use native.Mathlib.Omega.{arith}
use mathlib.Core.Path.{refl, sym, ◌∙◌}
use Rattle.item.specs.declared.Form.TheVariants.{Word}
use Rattle.item.specs.ItemLaws.{skip_none, words_past, words_stuck}
use Rattle.item.proofs.skip_words.Goals as goal

pub returns-then-n-eq0 : goal.returns-then-n-eq0
returns-then-n-eq0 c = skip_none {f = Word} (record { so_far = refl }) (omega arith)

pub returns-in_err-room : goal.returns-in_err-room
returns-in_err-room c =
    let past = c.in_err-room.ensures in
    c.from_residual.ensures ∙ sym (words_stuck _ _ _ (omega arith) (omega arith))

pub returns-then-room-n : goal.returns-then-room-n
returns-then-room-n c =
    let room = c.in_ok-room.ensures in
    sym (words_stuck _ _ _ (omega arith) (omega arith))

pub returns : goal.returns
returns c =
    let room = c.in_ok-room.ensures in
    sym (words_past _ _ _ (omega arith))
