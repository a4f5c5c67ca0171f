use mathlib.Core.Path.{refl, sym, ◌∙◌}
use native.Mathlib.Omega.{arith}
use Rattle.std.specs.Slice.Iter.{chunks_rest}
use Rattle.fletcher.proofs.Laws.{blocks_more, blocks_end}
use Rattle.fletcher.proofs.PlainLaws.{start_reduced}
use Rattle.fletcher.proofs.sum_words.Goals as goal

pub loop-block-init : goal.loop-block-init
loop-block-init c = rw (c.new-t.ensures, c.into_iter-block-iterator.ensures.into_iter_gives) record {
  size = c.chunks-block-items.ensures.size;
  reduced = start_reduced;
  left = rw c.chunks-block-items.ensures.rest refl;
}

pub after-t-requires : goal.after-t-requires
after-t-requires c = (c.loop-block.invariant.reduced, let s = c.in-Some.ensures.steps in omega arith)

pub loop-block-preserved : goal.loop-block-preserved
loop-block-preserved c =
    let s = c.in-Some.ensures.steps in
    let i = c.loop-block.invariant in
    let a = c.after-t.ensures in
    let more = blocks_more c.args.edition c.loop-block.t c.in-Some.block.now (chunks_rest c.next.new.self) (rw (← s.1.0, ← i.size) s.1.1) in
    record { size = s.0 ∙ i.size; reduced = a.reduced; left = rw a.sums (more ∙ rw (← s.1.0) i.left) }

pub returns : goal.returns
returns c =
    let i = c.loop-block.invariant in
    sym (blocks_end c.args.edition c.loop-block.t (chunks_rest c.loop-block.block-iterator) c.in-None.ensures.steps.1.0) ∙ i.left
