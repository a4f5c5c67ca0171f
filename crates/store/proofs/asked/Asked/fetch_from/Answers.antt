use Rattle.std.proofs.Common.{◌≡◌, ◌-◌, ◌+◌, refl, sym, ap, ◌∙◌, Ok, arith}
use Rattle.store.specs.Asking.{turn_of}
use Rattle.refusal.proofs.Passing.{handed_up}
use Rattle.store.specs.AskLaws.{index_empty, index_root, index_deep, index_child, index_done, index_refused, turn_refused}
use Rattle.position.specs.Laws.{empty_zero, full_other}
use Rattle.store.specs.MemoryLaws.{seen}
use Rattle.store.proofs.asked.Asked.fetch_from.Goals as goal

pub returns-then-is_empty : goal.returns-then-is_empty
returns-then-is_empty c = index_empty _ _ _ _ _ _ (empty_zero c.is_empty.ensures c.if-is_empty.true)

pub loop-init : goal.loop-init
loop-init c = record {
  same = refl;
  found = index_root _ _ _ _ _ _ (full_other c.is_empty.ensures c.if-is_empty.false);
}

pub returns-in_err-page : goal.returns-in_err-page
returns-in_err-page c =
    let l = c.loop in
    let read = rw l.invariant.same at c.read_page.ensures in
    handed_up c.from_residual.ensures
    ∙ sym (index_refused _ _ _ _ l.left l.p.bits (16 - l.counter) (omega arith) _ read.1 _ (turn_refused _ _ l.left c.in_err-page.was) refl)
    ∙ l.invariant.found

pub returns-in_err-position : goal.returns-in_err-position
returns-in_err-position c =
    let l = c.loop in
    let read = rw l.invariant.same at c.read_page.ensures in
    let read_in = seen c.self.inside (c.self.view_is ∙ read.0) in
    let turn = rw (read_in.0, read_in.1) at c.turn_at.ensures ∙ ap (turn_of c.args.self.now.image c.args.self.now.map.kind l.left) (sym c.in_ok-page.was) in
    handed_up c.from_residual-in_err-position.ensures
    ∙ sym (index_refused _ _ _ _ l.left l.p.bits (16 - l.counter) (omega arith) _ read.1 _ turn c.in_err-position.was)
    ∙ l.invariant.found

pub returns-in-Done : goal.returns-in-Done
returns-in-Done c =
    let l = c.loop in
    let read = rw l.invariant.same at c.read_page.ensures in
    let read_in = seen c.self.inside (c.self.view_is ∙ read.0) in
    let turn = rw (read_in.0, read_in.1) at c.turn_at.ensures ∙ ap (turn_of c.args.self.now.image c.args.self.now.map.kind l.left) (sym c.in_ok-page.was) in
    sym (index_done _ _ _ _ l.left l.p.bits (16 - l.counter) (omega arith) _ read.1 _ turn (c.in_ok-position.was ∙ ap Ok c.in-Done.is))
    ∙ l.invariant.found

pub loop-preserved : goal.loop-preserved
loop-preserved c =
    let l = c.loop in
    let read = rw l.invariant.same at c.read_page.ensures in
    let read_in = seen c.self.inside (c.self.view_is ∙ read.0) in
    let turn = rw (read_in.0, read_in.1) at c.turn_at.ensures ∙ ap (turn_of c.args.self.now.image c.args.self.now.map.kind l.left) (sym c.in_ok-page.was) in
    let fewer : 16 - (l.counter + 1) ≡ 16 - l.counter - 1 = omega arith in
    record {
      same = read.0;
      found =
          rw fewer
          (sym (index_child _ _ _ _ l.left l.p.bits (16 - l.counter) (omega arith) _ read.1 _ turn (c.in_ok-position.was ∙ ap Ok c.in-Child.is))
          ∙ l.invariant.found);
    }

pub returns : goal.returns
returns c =
    let l = c.loop in
    index_deep _ _ _ _ _ _ (16 - l.counter) (omega arith) ∙ l.invariant.found
