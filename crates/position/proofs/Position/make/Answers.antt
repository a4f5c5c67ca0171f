use borrow.Author.Tests.{lt-ltb, le-ltb}
use borrow.Author.Rules.{rules}
use Rattle.position.specs.Position.{made_of, chunks, offsets, codes, types}
use Rattle.position.proofs.Position.make.Goals as goal
use Rattle.position.proofs.Position.make.Goals.{then-chunk-ge-CHUNKS-via-then-chunk-ge-CHUNKS, then-chunk-ge-CHUNKS-via-else-chunk-ge-CHUNKS+then-code-ge-CODES, then-chunk-ge-CHUNKS-via-else-chunk-ge-CHUNKS+else-code-ge-CODES+then-inner-ge-TYPES}

pub returns-then-chunk-ge-CHUNKS : goal.returns-then-chunk-ge-CHUNKS
unfolding made_of
returns-then-chunk-ge-CHUNKS c =
    let offset = lt-ltb c.args.offset offsets (search rules) in
    elim c.then-chunk-ge-CHUNKS.branch [
      | then-chunk-ge-CHUNKS-via-then-chunk-ge-CHUNKS w ↦ rw (le-ltb _ chunks w.if-chunk-ge-CHUNKS.true)
      | then-chunk-ge-CHUNKS-via-else-chunk-ge-CHUNKS+then-code-ge-CODES w ↦
          rw (lt-ltb _ chunks w.if-chunk-ge-CHUNKS.false, offset, le-ltb _ codes w.if-code-ge-CODES.true)
      | then-chunk-ge-CHUNKS-via-else-chunk-ge-CHUNKS+else-code-ge-CODES+then-inner-ge-TYPES w ↦
          rw (lt-ltb _ chunks w.if-chunk-ge-CHUNKS.false, offset, lt-ltb _ codes w.if-code-ge-CODES.false, le-ltb _ types w.if-inner-ge-TYPES.true)
    ]

pub returns : goal.returns
unfolding made_of
returns c =
    let offset = lt-ltb c.args.offset offsets (search rules) in
    rw (lt-ltb _ chunks c.if-chunk-ge-CHUNKS.false, offset, lt-ltb _ codes c.if-code-ge-CODES.false, lt-ltb _ types c.if-inner-ge-TYPES.false)
