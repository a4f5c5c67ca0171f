use mathlib.Core.Path.{◌≡◌}
use native.Mathlib.Omega.{arith}
use lib.ListN.{drop, length-drop}
use lib.Seq.{get_or-drop}
use Rattle.map.proofs.MapLaws.{put_more}
use Rattle.map.proofs.copying.put.Goals as goal

pub loop-i-preserved : goal.loop-i-preserved
loop-i-preserved c =
    let a = c.args in
    let l = c.loop-i in
    let s = drop a.spot.at a.image.now in
    let long = length-drop a.spot.at a.image.now in
    rw (l.invariant, ← get_or-drop a.spot.at a.image.now l.i 0) (put_more a.area.now s l.i (omega arith) (omega (arith, long)))

pub returns : goal.returns
returns c =
    let l = c.loop-i in
    let e : l.i ≡ c.args.spot.len = omega arith in
    rw (l.invariant, e)
