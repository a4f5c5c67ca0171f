use mathlib.Core.Path.{sym, ◌∙◌}
use native.Mathlib.Omega.{arith}
use Rattle.line.specs.Reading.{number_of, slot_of, known_name}
use Rattle.line.specs.SlotLaws.{slot_here}
use Rattle.line.proofs.read.slot_of.Goals as goal

pub returns-then-same_bytes : goal.returns-then-same_bytes
unfolding known_name
returns-then-same_bytes c = rw (slot_here 0 _ (omega arith) (sym c.same_bytes.ensures ∙ c.if-same_bytes.true))

pub returns-then-same_bytes-2 : goal.returns-then-same_bytes-2
unfolding known_name
returns-then-same_bytes-2 c = rw (slot_here 1 _ (omega arith) (sym c.same_bytes-2.ensures ∙ c.if-same_bytes-2.true))

pub returns-then-same_bytes-3 : goal.returns-then-same_bytes-3
unfolding known_name
returns-then-same_bytes-3 c = rw (slot_here 2 _ (omega arith) (sym c.same_bytes-3.ensures ∙ c.if-same_bytes-3.true))

pub returns-then-same_bytes-4 : goal.returns-then-same_bytes-4
unfolding known_name
returns-then-same_bytes-4 c = rw (slot_here 3 _ (omega arith) (sym c.same_bytes-4.ensures ∙ c.if-same_bytes-4.true))

pub returns-then-same_bytes-5 : goal.returns-then-same_bytes-5
unfolding known_name
returns-then-same_bytes-5 c = rw (slot_here 4 _ (omega arith) (sym c.same_bytes-5.ensures ∙ c.if-same_bytes-5.true))

pub returns-then-same_bytes-6 : goal.returns-then-same_bytes-6
unfolding known_name
returns-then-same_bytes-6 c = rw (slot_here 5 _ (omega arith) (sym c.same_bytes-6.ensures ∙ c.if-same_bytes-6.true))

pub returns-then-same_bytes-7 : goal.returns-then-same_bytes-7
unfolding known_name
returns-then-same_bytes-7 c = rw (slot_here 6 _ (omega arith) (sym c.same_bytes-7.ensures ∙ c.if-same_bytes-7.true))

pub returns-then-same_bytes-8 : goal.returns-then-same_bytes-8
unfolding known_name
returns-then-same_bytes-8 c = rw (slot_here 7 _ (omega arith) (sym c.same_bytes-8.ensures ∙ c.if-same_bytes-8.true))

pub returns-then-same_bytes-9 : goal.returns-then-same_bytes-9
unfolding known_name
returns-then-same_bytes-9 c = rw (slot_here 8 _ (omega arith) (sym c.same_bytes-9.ensures ∙ c.if-same_bytes-9.true))

pub returns-then-same_bytes-10 : goal.returns-then-same_bytes-10
unfolding known_name
returns-then-same_bytes-10 c = rw (slot_here 9 _ (omega arith) (sym c.same_bytes-10.ensures ∙ c.if-same_bytes-10.true))

pub returns-then-same_bytes-11 : goal.returns-then-same_bytes-11
unfolding known_name
returns-then-same_bytes-11 c = rw (slot_here 10 _ (omega arith) (sym c.same_bytes-11.ensures ∙ c.if-same_bytes-11.true))

pub returns : goal.returns
unfolding known_name slot_of number_of
returns c =
    rw (
      sym c.same_bytes.ensures ∙ c.if-same_bytes.false,
      sym c.same_bytes-2.ensures ∙ c.if-same_bytes-2.false,
      sym c.same_bytes-3.ensures ∙ c.if-same_bytes-3.false,
      sym c.same_bytes-4.ensures ∙ c.if-same_bytes-4.false,
      sym c.same_bytes-5.ensures ∙ c.if-same_bytes-5.false,
      sym c.same_bytes-6.ensures ∙ c.if-same_bytes-6.false,
      sym c.same_bytes-7.ensures ∙ c.if-same_bytes-7.false,
      sym c.same_bytes-8.ensures ∙ c.if-same_bytes-8.false,
      sym c.same_bytes-9.ensures ∙ c.if-same_bytes-9.false,
      sym c.same_bytes-10.ensures ∙ c.if-same_bytes-10.false,
      sym c.same_bytes-11.ensures ∙ c.if-same_bytes-11.false,
    )
