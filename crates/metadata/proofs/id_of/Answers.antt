use Rattle.std.proofs.Common.{sym}
use Rattle.metadata.specs.IdLaws.{id_low, id_high, id_right}
use Rattle.metadata.proofs.id_of.Goals as goal

pub returns-in_default : goal.returns-in_default
returns-in_default c = rw c.in_default.is

pub returns-then-v-lt1 : goal.returns-then-v-lt1
returns-then-v-lt1 c = rw c.in-Some.is (sym (id_low _ c.if-v-lt1.true))

pub returns-then-v-gt2147483647 : goal.returns-then-v-gt2147483647
returns-then-v-gt2147483647 c = rw c.in-Some.is (sym (id_high _ c.if-v-gt2147483647.true))

pub returns : goal.returns
returns c = rw c.in-Some.is (sym (id_right _ c.if-v-lt1.false c.if-v-gt2147483647.false))
