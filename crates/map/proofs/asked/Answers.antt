use mathlib.Core.Path.{sym}
use native.Mathlib.Omega.{arith}
use Rattle.map.proofs.MapLaws.{asked_kind, asked_large, asked_text, asked_metadata, asked_number}
use Rattle.map.proofs.asked.Goals as goal

pub returns-then-kind-gt1 : goal.returns-then-kind-gt1
returns-then-kind-gt1 c =
    let a = c.args in
    sym (asked_kind a.map a.kind c.if-kind-gt1.true)

pub returns-then-map-gt-LARGEST : goal.returns-then-map-gt-LARGEST
returns-then-map-gt-LARGEST c =
    let a = c.args in
    sym (asked_large a.map a.kind (omega arith) c.if-map-gt-LARGEST.true)

pub returns-then-kind-eq1 : goal.returns-then-kind-eq1
returns-then-kind-eq1 c = sym (asked_text c.args.map c.if-kind-eq1.true (omega arith))

pub returns-then-id-eq0 : goal.returns-then-id-eq0
returns-then-id-eq0 c = sym (asked_metadata c.args.map (omega arith) c.if-id-eq0.true)

pub returns : goal.returns
returns c = sym (asked_number c.args.map (omega arith) c.if-id-eq0.false (omega arith))
