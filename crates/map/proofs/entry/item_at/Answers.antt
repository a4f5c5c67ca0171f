use Rattle.map.proofs.MapLaws.{item_number, item_text}
use borrow.Author.Rules.{rules}
use Rattle.map.proofs.entry.item_at.Goals as goal

pub returns-in-Number : goal.returns-in-Number
returns-in-Number c =
    let a = c.args in
    search (rules, item_number a.image.now a.kind a.entry c.in-Number.is c.cast_signed.ensures c.be64-bits.ensures c.bytes.ensures)

pub returns-in-Text : goal.returns-in-Text
returns-in-Text c =
    let a = c.args in
    item_text a.image.now a.kind a.entry c.in-Text.is
