-- What is known for every number of questions: the words of the laws, and of `store`, whose code remembers where chunks are.
--
--   Gated n f g    f is g, once n questions were asked: with fewer than n it is refusal 6
--   Known m c l n  chunk c is at l, and locating it takes n questions
--
-- Of any map whose pages stand in located chunks and are read by page_in. The metadata's are m.page_in and m.root.
--
--   read_with m page_in r p      the page at p, with r questions
--   asked_in m page_in root k r  the map's answer for the key k, with r questions
--   asked_below .. k levels p r  the same from the page at p down, with so many levels left
--   CameTo .. k n levels p       the descent for k has come to p, and the pages so far take n questions
use Rattle.std.specs.Prelude.{ℕ, ◌≡◌, Ok, Option}
use Rattle.refusal.specs.Refusal.{Outcome}
use Rattle.tree.specs.Page.{Page}
use Rattle.tree.specs.Asking.{lookup, map_lookup}
use Rattle.locating.specs.Locating.{Metadata, read_at, located, gate}

pub record Gated {A : Type 0} (n : ℕ) (f g : ℕ → Outcome A) : Type 0 where
  pub with : (r : ℕ) → f r ≡ gate n r (g r)

abbrev pub Known : {K W L : Type 0} → Metadata K W L → ℕ → L → ℕ → Type 0
Known m c l n = Gated n (λ r. located m r c) (λ r. Ok l)

-- ## A map
module _ {K W L : Type 0} (m : Metadata K W L) (page_in : L → ℕ → Outcome (Page K W)) where
  abbrev pub read_with : ℕ → ℕ → Outcome (Page K W)
  read_with r p = read_at m.chunk_of (located m r) page_in p

  abbrev pub asked_below : K → ℕ → ℕ → ℕ → Outcome (Option W)
  asked_below k levels p r = lookup m.compare (read_with r) levels k p

  module _ (root : ℕ) (k : K) where
    abbrev pub asked_in : ℕ → Outcome (Option W)
    asked_in r = map_lookup m.compare (read_with r) k root

    abbrev pub CameTo : ℕ → ℕ → ℕ → Type 0
    CameTo n levels p = Gated n asked_in (asked_below k levels p)
