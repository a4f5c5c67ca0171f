use Prim.Native.Nat.{◌+◌, ◌≤◌}
use mathlib.Core.Path.{◌≡◌}
use lib.ListN.{length, drop}
use Rattle.text.specs.Text.{span, is_letter}
use Rattle.text.proofs.letters_end.Given as goal

abbrev pub invariant-loop-i : goal.invariant-loop-i
invariant-loop-i l = record {
  none : length l.s ≤ l.from → l.i ≡ l.from;
  left : l.i + span is_letter (drop l.i l.s) ≡ l.from + span is_letter (drop l.from l.s);
}
