-- Where a chunk is, after document 01, "Positions and pages": "the newest stands where opening found it. Chunk N otherwise is found
-- by a metadata lookup [..]. Such a lookup may need another chunk first. At most 8 of these questions are open at once. A refusal
-- of such a lookup is handed up unchanged." Over any pages: what the metadata's keys, values and pages are is a parameter.
--
--   Metadata                  the parameters: the newest chunk and its place, the root, and how keys, values and pages are read
--   placed m c o              where the metadata's answer o says that chunk c stands
--   read_at chunk loc page p  the page at p: its chunk located by loc, the page there read by page
--   page_by m loc p           the metadata's page at p, its chunk located by loc
--   located m q c             where chunk c is, with q questions that may still be opened
--   asked m k q               the metadata's answer for the key k, with q questions that may still be opened
--   gate n r o                the answer o that takes n questions, asked with r of them
use Rattle.std.specs.Prelude.{ℕ, zero, suc, eqb, ltb, Err, None, Ok, Option, Some}
use Rattle.refusal.specs.Refusal.{Outcome, bind, not_located, ninth_question, out_of_place}
use Rattle.std.specs.declared.cmp.Ordering.{Ordering}
use Rattle.tree.specs.Page.{branch, Page}
use Rattle.tree.specs.Asking.{map_lookup}

-- "A page judges in this order: [..] child position 0, location, place, [..]"
abbrev pub read_at : {L P : Type 0} → (ℕ → ℕ) → (ℕ → Outcome L) → (L → ℕ → Outcome P) → ℕ → Outcome P
read_at chunk loc page p = branch (eqb p 0) (Err out_of_place) (bind (loc (chunk p)) (λ l. page l p))

-- keys K, places of values W, places of chunks L
pub record Metadata (K W L : Type 0) : Type 1 where
  pub compare : K → K → Ordering
  pub newest : ℕ
  pub newest_at : L
  pub root : ℕ
  -- the chunk id of a position
  pub chunk_of : ℕ → ℕ
  -- the key under which a chunk's place is found
  pub key_of : ℕ → K
  -- where a chunk stands by the value that was found, refused with 5 for an unusable value or a chunk not standing there
  pub standing : ℕ → W → Outcome L
  -- the page at a position in a chunk
  pub page_in : L → ℕ → Outcome (Page K W)

module _ {K W L : Type 0} (m : Metadata K W L) where
  -- "5: no entry, unusable entry, or chunk not standing there"
  abbrev pub placed : ℕ → Outcome (Option W) → Outcome L
  placed c (Err r) = Err r
  placed c (Ok None) = Err not_located
  placed c (Ok (Some w)) = m.standing c w

  abbrev pub page_by : (ℕ → Outcome L) → ℕ → Outcome (Page K W)
  page_by loc p = read_at m.chunk_of loc m.page_in p

  unfoldable pub located : ℕ → ℕ → Outcome L
  located zero c = branch (eqb c m.newest) (Ok m.newest_at) (Err ninth_question)
  located (suc q) c =
      branch (eqb c m.newest) (Ok m.newest_at) (placed c (map_lookup m.compare (page_by (located q)) (m.key_of c) m.root))

  abbrev pub asked : K → ℕ → Outcome (Option W)
  asked k q = map_lookup m.compare (page_by (located q)) k m.root

unfoldable pub gate : {A : Type 0} → ℕ → ℕ → Outcome A → Outcome A
gate n r o = branch (ltb r n) (Err ninth_question) o
