use Rattle.item.specs.Item.{item_at}
use Rattle.item.proofs.item_at.Goals as goal

pub returns-in-Word : goal.returns-in-Word
unfolding item_at
returns-in-Word c = rw c.in-Word.is c.key_at.ensures

pub returns-in-Text : goal.returns-in-Text
unfolding item_at
returns-in-Text c = rw c.in-Text.is c.key_at-in-Text.ensures

pub returns-in-Bytes : goal.returns-in-Bytes
unfolding item_at
returns-in-Bytes c = rw c.in-Bytes.is c.sized_at.ensures
