use borrow.Author.Tests.{eq-eqb, ne_eqb, le-leb, lt-leb}
use Rattle.std.proofs.Common.{◌≡◌, rules, arith, tests, true≢false, ◌∙◌, sym, drop, eqb}
use Rattle.std.specs.List.{list_all}
use Rattle.std.proofs.lemmas.Slice.{between_to_end}
use Rattle.std.proofs.lemmas.Iterator.{YieldsList-from_slice}
use Rattle.std.proofs.lemmas.Iterator.Search.{all_from_yields_List}
use Rattle.cursor.specs.StateLaws.{zeros_all}
use Rattle.cursor.specs.Walk.{formed}
use Rattle.cursor.proofs.is_formed.Goals.{then-w-ne0-via-then-w-ne0, then-w-ne0-via-else-w-ne0+then-w-gt16}
use Rattle.cursor.proofs.is_formed.Goals as goal

pub returns-then-w-ne0 : goal.returns-then-w-ne0
unfolding formed
returns-then-w-ne0 c =
    let w = c.args.w in (
      elim c.then-w-ne0.branch [
        | then-w-ne0-via-then-w-ne0 b ↦ rw (ne_eqb w.last 0 b.if-w-ne0.true)
        | then-w-ne0-via-else-w-ne0+then-w-gt16 b ↦ rw (eq-eqb w.last 0 (omega arith), lt-leb w.depth 16 b.if-w-gt16.true)
      ],
      λ e. absurd (true≢false cc),
    )

pub returns : goal.returns
unfolding formed
returns c =
    let w = c.args.w in
    let ps = drop w.depth w.places in
    let part = between_to_end w.places w.depth 16 (omega arith) in
    let all : c.all.result ≡ list_all (λ p. eqb p 0) ps =
    all_from_yields_List (λ p. eqb p 0) _ _ c.all.result c.all.ensures.ran (YieldsList-from_slice ps (cc part))
    (λ x b q k. search (rules, tests)) in
    (rw (eq-eqb w.last 0 (omega arith), le-leb w.depth 16 (omega arith)) (all ∙ sym (zeros_all ps)), λ e. omega arith)
