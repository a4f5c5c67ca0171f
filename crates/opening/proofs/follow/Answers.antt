use mathlib.Core.Path.{refl, sym, ◌∙◌}
use Rattle.chunk.specs.Image.{blocks_in}
use Rattle.opening.specs.ChainLaws.{successor_falls, chain_last, chain_next}
use Rattle.opening.proofs.follow.Goals as goal

pub loop-d-init : goal.loop-d-init
loop-d-init c = refl

pub returns : goal.returns
returns c =
    let image = c.args.image.now in
    let last = sym c.successor_of.ensures ∙ c.in_default.is in
    sym (chain_last image c.args.edition (blocks_in image) c.loop-d.newest last) ∙ c.loop-d.invariant

pub loop-d-smaller : goal.loop-d-smaller
loop-d-smaller c =
    let l = c.loop-d in
    let a = c.args in
    successor_falls a.image.now a.edition l.newest (sym c.successor_of.ensures ∙ c.in-Some.is)

pub loop-d-preserved : goal.loop-d-preserved
loop-d-preserved c =
    let l = c.loop-d in
    let a = c.args in
    sym (chain_next a.image.now a.edition l.newest (sym c.successor_of.ensures ∙ c.in-Some.is)) ∙ l.invariant
