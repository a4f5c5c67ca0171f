-- The chain ends: versions rise along it, so no block comes twice, and no image makes it longer than its blocks.
--
--   counted s v              1 where a chunk stands that is newer than version v, else 0
--   above image edition v n  how many of the first n blocks hold a standing chunk that is newer than version v
use Prim.Native.Nat.{ℕ, zero, suc, ◌+◌, ◌<◌, ◌≤◌}
use Rattle.std.specs.Prelude.{◌≡◌, Bool, List, Option, Some, None}
use Rattle.std.proofs.Math.Path.{refl}
use Rattle.std.proofs.Common.{sym, ◌∙◌}
use Rattle.std.proofs.Math.Bool.{true, false, cond}
use native.Mathlib.Omega.{arith}
use borrow.Author.Tests.{ltb-true, ltb-false, lt-ltb, le-ltb}
use Rattle.std.proofs.Math.Dec.{ltb}
use Rattle.fletcher.specs.declared.Edition.{Edition}
use Rattle.chunk.specs.declared.Chunk.{Chunk}
use Rattle.chunk.specs.Image.{blocks_in}
use Rattle.chunk.specs.Chunk.{stands_at}
use Rattle.opening.specs.Opening.{newer, successor, chain}
use Rattle.line.specs.Fields.{on_some}
use Rattle.chunk.specs.ChunkLaws.{Stood, stands_block, stands_stood, kept_told}

unfoldable pub counted : Option Chunk → ℕ → ℕ
counted None v = 0
counted (Some c) v = cond (newer v c) 1 0

unfoldable pub above : List ℕ → Edition → ℕ → ℕ → ℕ
above image edition v zero = 0
above image edition v (suc n) = counted (stands_at image edition n) v + above image edition v n

-- ## How many are newer
module _ (v : ℕ) where
  counted_most : (s : Option Chunk) → counted s v ≤ 1
  unfolding counted
  counted_most None = omega arith
  counted_most (Some c) = go (newer v c)
    where
      go : (t : Bool) → cond t 1 0 ≤ 1
      go true = omega arith
      go false = omega arith

  pub above_most : (image : List ℕ) (edition : Edition) (n : ℕ) → above image edition v n ≤ n
  unfolding above
  above_most image edition zero = omega arith
  above_most image edition (suc n) = omega (arith, counted_most (stands_at image edition n), above_most image edition n)

module _ (v w : ℕ) (h : v ≤ w) where
  counted_fewer : (s : Option Chunk) → counted s w ≤ counted s v
  unfolding counted
  counted_fewer None = omega arith
  counted_fewer (Some c) = go (newer w c) refl (newer v c) refl
    where
      go : (t : Bool) → newer w c ≡ t → (u : Bool) → newer v c ≡ u → cond t 1 0 ≤ cond u 1 0
      go true p true q = omega arith
      go true p false q = absurd (omega (arith, ltb-true w c.version p, ltb-false v c.version q))
      go false p u q = omega arith

  above_fewer : (image : List ℕ) (edition : Edition) (n : ℕ) → above image edition w n ≤ above image edition v n
  unfolding above
  above_fewer image edition zero = omega arith
  above_fewer image edition (suc n) = omega (arith, counted_fewer (stands_at image edition n), above_fewer image edition n)

-- a chunk counts for the versions below its own, and not for its own
module _ (image : List ℕ) (edition : Edition) (b v : ℕ) {d : Chunk} (s : stands_at image edition b ≡ Some d) (h : v < d.version) where
  counted_old : counted (stands_at image edition b) v ≡ 1
  unfolding counted
  counted_old = rw (s, lt-ltb v d.version h)

  counted_own : counted (stands_at image edition b) d.version ≡ 0
  unfolding counted
  counted_own = rw (s, le-ltb d.version d.version (omega arith))

  pub above_falls : (n : ℕ) → b < n → above image edition d.version n < above image edition v n
  unfolding above
  above_falls zero k = absurd (omega arith)
  above_falls (suc n) k = go (ltb b n) refl (above_falls n)
    where
      go : (t : Bool) → ltb b n ≡ t → (b < n → above image edition d.version n < above image edition v n) →
          above image edition d.version (suc n) < above image edition v (suc n)
      go true e ih = omega (arith, ih (ltb-true b n e), counted_fewer v d.version (omega arith) (stands_at image edition n))
      go false e ih =
          let here : b ≡ n = omega (arith, ltb-false b n e) in
          let old : counted (stands_at image edition n) v ≡ 1 = rw here at counted_old in
          let own : counted (stands_at image edition n) d.version ≡ 0 = rw here at counted_own in
          omega (arith, above_fewer v d.version (omega arith) image edition n)

-- ## One step
module _ (image : List ℕ) (edition : Edition) (c : Chunk) {d : Chunk} (e : successor image edition c ≡ Some d) where
  successor_told : (stands_at image edition c.next ≡ Some d) × (newer c.version d ≡ true)
  unfolding successor
  successor_told = kept_told (newer c.version) (stands_at image edition c.next) e

  pub successor_newer : c.version < d.version
  successor_newer = ltb-true c.version d.version successor_told.1

  pub successor_stood : Stood image d
  successor_stood = stands_stood image edition c.next successor_told.0

  -- fewer chunks are newer than the successor: the measure of the loop that follows the chain
  pub successor_falls : above image edition d.version (blocks_in image) < above image edition c.version (blocks_in image)
  successor_falls =
      let s = successor_stood in
      let b = stands_block image edition c.next successor_told.0 in
      above_falls image edition c.next c.version successor_told.0 successor_newer (blocks_in image) (omega (arith, s.len_some, s.inside))

-- ## The whole chain
-- so many steps are enough
unfoldable Enough : List ℕ → Edition → Chunk → ℕ → Type 0
Enough image edition c n = above image edition c.version (blocks_in image) ≤ n

blocks_enough : (image : List ℕ) (edition : Edition) (c : Chunk) → Enough image edition c (blocks_in image)
unfolding Enough
blocks_enough image edition c = above_most c.version image edition (blocks_in image)

-- what holds of every last chunk holds where so many steps lead that they are enough
module _ (image : List ℕ) (edition : Edition) (P : ℕ → Chunk → Type 0) (last : (n : ℕ) (c : Chunk) → successor image edition c ≡ None → P n c)
    (on : (n : ℕ) (c d : Chunk) → successor image edition c ≡ Some d → P n d → P (suc n) c) where
  along : (n : ℕ) (c : Chunk) → Enough image edition c n → P n c
  unfolding Enough
  along zero c h = go (successor image edition c) refl
    where
      go : (s : Option Chunk) → successor image edition c ≡ s → P 0 c
      go None e = last 0 c e
      go (Some d) e = absurd (omega (arith, successor_falls image edition c e))
  along (suc n) c h = go (successor image edition c) refl (along n)
    where
      go : (s : Option Chunk) → successor image edition c ≡ s → ((d : Chunk) → Enough image edition d n → P n d) → P (suc n) c
      go None e ih = last (suc n) c e
      go (Some d) e ih = on n c d e (ih d (omega (arith, successor_falls image edition c e)))

pub chain_last : (image : List ℕ) (edition : Edition) (n : ℕ) (c : Chunk) → successor image edition c ≡ None → chain image edition n c ≡ c
unfolding chain
chain_last image edition zero c e = refl
chain_last image edition (suc n) c e = rw e

chain_on : (image : List ℕ) (edition : Edition) (n : ℕ) (c d : Chunk) → successor image edition c ≡ Some d → chain image edition (suc n) c ≡ chain image edition n d
unfolding chain
chain_on image edition n c d e = rw e

-- a step more leads no further
chain_enough : (image : List ℕ) (edition : Edition) (n : ℕ) (c : Chunk) → Enough image edition c n → chain image edition n c ≡ chain image edition (suc n) c
chain_enough image edition =
    along image edition (λ n c. chain image edition n c ≡ chain image edition (suc n) c)
    (λ n c e. chain_last image edition n c e ∙ sym (chain_last image edition (suc n) c e))
    (λ n c d e h. chain_on image edition n c d e ∙ h ∙ sym (chain_on image edition (suc n) c d e))

-- "while a chunk stands at `next` with a strictly higher version, it becomes the newest": the number of steps never cuts it off
pub chain_whole : (image : List ℕ) (edition : Edition) (c : Chunk) →
    chain image edition (blocks_in image) c ≡ on_some (successor image edition c) c (chain image edition (blocks_in image))
unfolding chain
chain_whole image edition c = chain_enough image edition (blocks_in image) c (blocks_enough image edition c)

pub chain_next : (image : List ℕ) (edition : Edition) (c : Chunk) {d : Chunk} → successor image edition c ≡ Some d →
    chain image edition (blocks_in image) c ≡ chain image edition (blocks_in image) d
chain_next image edition c e = rw (chain_whole image edition c, e)

-- nothing newer stands at the last chunk's `next`
pub chain_ended : (image : List ℕ) (edition : Edition) (c : Chunk) → successor image edition (chain image edition (blocks_in image) c) ≡ None
chain_ended image edition c =
    along image edition (λ n c. successor image edition (chain image edition n c) ≡ None)
    (λ n c e. rw (chain_last image edition n c e) e)
    (λ n c d e h. rw (chain_on image edition n c d e) h)
    (blocks_in image) c (blocks_enough image edition c)
