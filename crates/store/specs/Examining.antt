-- The examination of a map in a store that is open, after document 01; and the words of its private contracts.
--
--   examine_in image store map kind    the examination of a map by its id and kind
--   examined_under, examined_children  what the examination of a page, of an inner page's children gives back
--   WholePage                          nothing is missing of an inner page that was judged
--   tallied                            the children so far and one more
use Rattle.std.specs.Prelude.{ℕ, ◌+◌, ◌^◌, ◌<◌, Bool, false, cond, List, eqb, take, Ok, Err}
use Rattle.refusal.specs.Refusal.{Outcome, unsound}
use Rattle.key.specs.declared.Kind.{Kind}
use Rattle.key.specs.Key.{compare_keys}
use Rattle.tree.specs.declared.Report.{Report}
use Rattle.tree.specs.Examination.{both, examine, examine_children, map_examine}
use Rattle.opening.specs.declared.Store.{Store}
use Rattle.content.specs.WholeLaws.{InnerWhole, children_in}
use Rattle.rising.specs.Rising.{bound_key}
use Rattle.rising.specs.declared.Span.{Span}
use Rattle.page.specs.declared.Inner.{Inner}
use Rattle.store.specs.declared.Map.{Map}
use Rattle.store.specs.Store.{reader, pages_of}
use Rattle.store.specs.Asking.{in_map}

-- ## The examination
unfoldable pub examine_in : List ℕ → Store → ℕ → Kind → Outcome Report
examine_in image store map kind = in_map image store map (map_examine compare_keys (reader image store map kind))

abbrev pub examined_under : List ℕ → Map → ℕ → Bool → Span → ℕ → Outcome Report
examined_under image m levels top span p =
    examine compare_keys (pages_of image m) levels top (bound_key image m.kind span.lo) (bound_key image m.kind span.hi) p

abbrev pub examined_children : List ℕ → Map → ℕ → Span → Inner → Outcome Report
examined_children image m levels span b =
    examine_children (examine compare_keys (pages_of image m) levels false)
    (bound_key image m.kind span.lo) (bound_key image m.kind span.hi)
    (children_in (take b.end image) m.kind b.n b.positions b.counts b.keys)

abbrev pub WholePage : List ℕ → Kind → Inner → Type 0
WholePage image kind b = InnerWhole (take b.end image) kind b.n b.positions b.counts b.keys b.total

-- ## The children of an inner page
-- "a child before its recorded count"
unfoldable pub tallied : Report → ℕ → Outcome Report → Outcome Report
tallied r c (Err x) = Err x
tallied r c (Ok a) = cond (eqb a.entries c) (Ok (both r a)) (Err unsound)

-- an inner page, from its children
unfoldable pub over_children : Outcome Report → Outcome Report
over_children (Ok a) = Ok (record { entries = a.entries; pages = a.pages + 1; depth = a.depth + 1 })
over_children (Err r) = Err r

-- two reports whose figures can be added
abbrev pub Fits : Report → Outcome Report → Type 0
Fits r (Err x) = Unit {0}
Fits r (Ok a) =
    (r.entries + a.entries < 2 ^ 64) × (r.pages + a.pages < 2 ^ 64) × (r.depth + a.depth < 2 ^ 32)
