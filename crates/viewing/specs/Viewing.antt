-- The store that every call asks, after document 01, "Opening", and request C-16 of document 02.
--
--   edition_of n             the edition that a number names
--   opened_in image edition  the store, or why the image does not open
--   opened_store image view  the same by a view, as a caller gives it
use Rattle.std.specs.Prelude.{ℕ, cond, List, eqb, Err, Ok}
use Rattle.refusal.specs.Refusal.{Outcome, bind, bad_argument}
use Rattle.fletcher.specs.declared.Edition.{Edition}
use Rattle.fletcher.specs.declared.Edition.TheVariants.{First, Second}
use Rattle.opening.specs.declared.View.{View}
use Rattle.opening.specs.declared.Store.{Store}
use Rattle.chunk.specs.declared.Chunk.{Chunk}
use Rattle.opening.specs.Opening.{opened}

-- "opening takes an edition, 1 as in 01 or 2"; "edition not 1 or 2 is 1"
unfoldable pub edition_of : ℕ → Outcome Edition
edition_of n = cond (eqb n 1) (Ok First) (cond (eqb n 2) (Ok Second) (Err bad_argument))

abbrev pub store_by : Edition → Outcome Chunk → Outcome Store
store_by edition (Ok c) = Ok (record { edition = edition; newest = c })
store_by edition (Err r) = Err r

unfoldable pub opened_in : List ℕ → Edition → Outcome Store
opened_in image edition = store_by edition (opened image edition)

-- "Arguments come first, then opening, then the map."
unfoldable pub opened_store : List ℕ → View → Outcome Store
opened_store image view = bind (edition_of view.edition) (opened_in image)
