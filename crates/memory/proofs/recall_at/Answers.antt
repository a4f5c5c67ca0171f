use mathlib.Core.Path.{sym, ◌∙◌}
use Rattle.memory.specs.WayLaws.{recalled_past, recalled_this, recalled_room, recalled_full, other_free, other_chunk}
use Rattle.memory.proofs.recall_at.Goals as goal
use Rattle.memory.proofs.recall_at.Goals.{else-w-ne0-via-then-w-ne0+else-w-c, else-w-ne0-via-else-w-ne0}

pub returns-then-memory-i : goal.returns-then-memory-i
returns-then-memory-i c =
    let a = c.args in
    sym (recalled_past a.memory.now a.c a.i c.if-memory-i.true)

pub returns-then-w-c : goal.returns-then-w-c
returns-then-w-c c =
    let a = c.args in
    let inside = c.if-memory-i.false in
    rw c.place_in.ensures
    (sym (recalled_this a.memory.now a.c a.i inside c.if-w-ne0.true c.if-w-c.true))

pub returns-then-is_full : goal.returns-then-is_full
returns-then-is_full c =
    let a = c.args in
    let inside = c.if-memory-i.false in
    sym (recalled_full a.memory.now a.c a.i inside (elim c.else-w-ne0.branch [
      | else-w-ne0-via-then-w-ne0+else-w-c w ↦ other_chunk a.memory.now a.c a.i w.if-w-ne0.true w.if-w-c.false
      | else-w-ne0-via-else-w-ne0 w ↦ other_free a.memory.now a.c a.i w.if-w-ne0.false
    ]) (sym c.is_full.ensures ∙ c.if-is_full.true))

pub returns : goal.returns
returns c =
    let a = c.args in
    let inside = c.if-memory-i.false in
    sym (recalled_room a.memory.now a.c a.i inside (elim c.else-w-ne0.branch [
      | else-w-ne0-via-then-w-ne0+else-w-c w ↦ other_chunk a.memory.now a.c a.i w.if-w-ne0.true w.if-w-c.false
      | else-w-ne0-via-else-w-ne0 w ↦ other_free a.memory.now a.c a.i w.if-w-ne0.false
    ]) (sym c.is_full.ensures ∙ c.if-is_full.false))
