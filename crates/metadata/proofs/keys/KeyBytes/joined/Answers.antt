use Rattle.std.proofs.Common.{length-append}
use Rattle.metadata.specs.KeyLaws.{key_built}
use Rattle.metadata.proofs.keys.KeyBytes.joined.Goals as goal

pub returns : goal.returns
returns g c =
    let p = c.args.prefix.now in
    let s = c.args.rest.now in
    rw (c.put-2.ensures, c.put.ensures, key_built g.row.N p s c.requires, length-append p s)
