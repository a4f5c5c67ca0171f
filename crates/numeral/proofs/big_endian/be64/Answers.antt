use mathlib.Core.Path.{sym, ◌∙◌}
use native.Mathlib.Omega.{arith}
use Rattle.std.specs.Int.{w64}
use Rattle.numeral.specs.BigEndianLaws.{from_be_bytes_at, big_endian_at_past}
use Rattle.numeral.proofs.big_endian.be64.Goals as goal

pub returns-in-Some : goal.returns-in-Some
returns-in-Some c =
    let is = rw c.in-Some.is at c.bytes_at.ensures in
    c.from_be_bytes.ensures ∙ rw is.1 (from_be_bytes_at w64 c.args.s.now c.args.at (omega arith) is.0)

pub returns-in-None : goal.returns-in-None
returns-in-None c = sym (big_endian_at_past 8 _ _ (rw c.in-None.is at c.bytes_at.ensures))
