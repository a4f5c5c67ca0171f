use Rattle.std.proofs.Common.{length, ap, arith}
use Rattle.std.proofs.lemmas.List.{length-take}
use Rattle.metadata.proofs.keys.name_key.Goals as goal

pub joined-requires : goal.joined-requires
joined-requires c = omega (arith, ap length c.bytes_at.ensures, length-take 1000 c.args.name.now)
