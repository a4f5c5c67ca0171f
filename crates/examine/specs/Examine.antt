-- The examination as a public call, after document 01: arguments, then opening, then the map.
use Rattle.std.specs.Prelude.{ℕ, List}
use Rattle.refusal.specs.Refusal.{Outcome}
use Rattle.tree.specs.declared.Report.{Report}
use Rattle.opening.specs.declared.View.{View}
use Rattle.store.specs.Examining.{examine_in}
use Rattle.map.specs.Map.{asked_map, asking}

unfoldable pub examine_of : List ℕ → View → ℕ → ℕ → Outcome Report
examine_of image view map kind = asking (asked_map map kind) image view (λ s id k. examine_in image s id k)
