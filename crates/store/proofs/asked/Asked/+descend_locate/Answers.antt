use Rattle.std.proofs.Common.{ℕ, ◌≡◌, ◌+◌, ◌-◌, Ok, refl, ap, ◌∙◌, arith}
use Rattle.refusal.proofs.Passing.{handed_up}
use Rattle.metadata.specs.Keys.{chunk_key}
use Rattle.metadata.specs.KeyLaws.{padded_text}
use Rattle.position.specs.Laws.{empty_zero, full_other}
use Rattle.store.specs.Memory.{RightWords, IsLocation}
use Rattle.store.specs.SettleLaws.{sought_few}
use Rattle.store.specs.CycleLaws.{came_root, came_on, sought_empty, sought_zero, sought_deep, sought_done, sought_refused}
use Rattle.store.specs.CycleLaws.{tells_newest, tells_few, tells_recalled, tells_ninth, tells_settled}
use Rattle.store.specs.MemoryLaws.{seen}
use Rattle.store.proofs.asked.Asked.+descend_locate.Goals as goal

pub descend-returns-then-is_empty : goal.descend-returns-then-is_empty
descend-returns-then-is_empty t c =
    (refl, sought_empty _ _ _ _ _ _ _ (empty_zero c.is_empty.ensures c.if-is_empty.true))

pub descend-loop-init : goal.descend-loop-init
descend-loop-init t c =
    record {
      same = refl;
      came = came_root _ _ _ _ _ _ _ (full_other c.is_empty.ensures c.if-is_empty.false);
    }

pub descend-returns-then-is_empty-2 : goal.descend-returns-then-is_empty-2
descend-returns-then-is_empty-2 t c =
    let l = c.loop in
    (l.invariant.same, sought_zero _ _ _ _ _ _ _ (16 - l.counter) _ (omega arith) (empty_zero c.is_empty-in-loop.ensures c.if-is_empty-2.true) l.invariant.came)

pub descend-returns-in_err-position : goal.descend-returns-in_err-position
descend-returns-in_err-position t c =
    let same = c.loop.invariant.same in
    let now = c.locate-l.ensures.0 ∙ same in
    let read_in = seen c.self.inside (c.self.view_is ∙ now) in
    let on = sought_refused _ _ _ _ _ _ _ _ _ _ _ _ _ (omega arith) (full_other c.is_empty-in-loop.ensures c.if-is_empty-2.false) c.loop.invariant.came c.chunk.ensures (rw same at c.locate-l.ensures.1) (rw read_in.0 at c.advance_at.ensures) in
    (now, rw (handed_up c.from_residual.ensures) (on c.in_err-position.was))

pub descend-returns-in-Done : goal.descend-returns-in-Done
descend-returns-in-Done t c =
    let same = c.loop.invariant.same in
    let now = c.locate-l.ensures.0 ∙ same in
    let read_in = seen c.self.inside (c.self.view_is ∙ now) in
    (now, sought_done _ _ _ _ _ _ _ _ _ _ _ _ _ (omega arith) (full_other c.is_empty-in-loop.ensures c.if-is_empty-2.false) c.loop.invariant.came c.chunk.ensures (rw same at c.locate-l.ensures.1) (rw read_in.0 at c.advance_at.ensures) (c.in_ok-position.was ∙ ap Ok c.in-Done.is))

pub descend-loop-preserved : goal.descend-loop-preserved
descend-loop-preserved t c =
    let same = c.loop.invariant.same in
    let now = c.locate-l.ensures.0 ∙ same in
    let read_in = seen c.self.inside (c.self.view_is ∙ now) in
    let fewer : 16 - (c.loop.counter + 1) ≡ 16 - c.loop.counter - 1 = omega arith in
    record {
      same = now;
      came = rw fewer (came_on _ _ _ _ _ _ _ _ _ _ _ _ _ (omega arith) (full_other c.is_empty-in-loop.ensures c.if-is_empty-2.false) c.loop.invariant.came c.chunk.ensures (rw same at c.locate-l.ensures.1) (rw read_in.0 at c.advance_at.ensures) (c.in_ok-position.was ∙ ap Ok c.in-To.is));
    }

pub descend-returns : goal.descend-returns
descend-returns t c =
    let l = c.loop in
    (l.invariant.same, sought_deep _ _ _ _ _ _ _ (16 - l.counter) (omega arith) l.invariant.came)

pub locate-returns-then-c-newest : goal.locate-returns-then-c-newest
locate-returns-then-c-newest t c =
    (refl, rw (← c.self.view_is) (tells_newest _ _ _ _ c.if-c-newest.true _ c.place_of-place.ensures))

pub locate-returns-then-q-need : goal.locate-returns-then-q-need
locate-returns-then-q-need t c = (refl, tells_few _ _ _ _ (rw c.in-At.is at c.recall.ensures) (omega arith))

pub locate-returns-in-At : goal.locate-returns-in-At
locate-returns-in-At t c = (refl, tells_recalled _ _ _ _ (rw c.in-At.is at c.recall.ensures) (omega arith))

pub locate-returns-then-q-eq0 : goal.locate-returns-then-q-eq0
locate-returns-then-q-eq0 t c = (refl, rw (← c.self.view_is) (tells_ninth _ _ _ _ c.if-c-newest.false c.if-q-eq0.true))

pub locate-settle-requires : goal.locate-settle-requires
locate-settle-requires t c =
    omega (arith, sought_few _ _ _ _ _ _ _ _ c.descend-f.ensures.1, c.requires)

settled : (t : ℕ) (c : goal.locate-After-settle t) →
    RightWords c.args.self.now.image c.args.self.now.map.store c.settle.new.words
    × IsLocation c.args.self.now.image c.args.self.now.map.store c.args.q c.args.c c.settle.result
settled t c =
    let asked = seen c.self.inside c.self.view_is in
    let after = seen c.self-2.inside (c.self-2.view_is ∙ c.descend-f.ensures.0) in
    tells_settled _ _ _ _ _ _ (rw asked.1 at c.if-c-newest.false) c.if-q-eq0.false c.requires (rw (after.0, after.1) at c.self-2.invariant) _
    (rw (c.text.ensures, c.chunk_key-key.ensures) (padded_text 22 (chunk_key c.args.c))) (rw (c.metadata-m.ensures, asked.1) at c.descend-f.ensures.1) _ _
    (rw (after.0, asked.1) at c.settle.ensures.0) c.settle.ensures.1

pub locate-invariant_of-self : goal.locate-invariant_of-self
locate-invariant_of-self t c =
    let after = seen c.self-2.inside (c.self-2.view_is ∙ c.descend-f.ensures.0) in
    rw (after.0, after.1) (settled t c).0

pub locate-returns : goal.locate-returns
locate-returns t c = (c.self-2.view_is ∙ c.descend-f.ensures.0, (settled t c).1)
