-- Laws of locating by the metadata's answer: the chunk that it names stands, so that its place can be remembered; what is told
-- is right, and so are the words after it.
use Rattle.std.specs.Prelude.{ℕ, suc, ◌+◌, ◌^◌, ◌<◌, ◌≤◌, ◌≡◌, List, Option, Some, None, Ok, Err, option_map, option_and_then}
use Rattle.std.proofs.Math.Path.{refl}
use Rattle.std.proofs.Common.{add-one, arith}
use Rattle.fletcher.specs.declared.Edition.{Edition}
use Rattle.line.specs.declared.read.Fields.{Fields}
use Rattle.line.specs.Fields.{name_block, read_of}
use Rattle.line.specs.Reading.{value_of}
use Rattle.item.specs.Item.{Spot}
use Rattle.chunk.specs.declared.Chunk.{Chunk}
use Rattle.opening.specs.declared.Store.{Store}
use Rattle.chunk.specs.Chunk.{stands_at}
use Rattle.chunk.specs.Chunk.{kept, has_id}
use Rattle.chunk.specs.ChunkLaws.{Stood, stands_stood, stood_most}
use Rattle.chunk.specs.ChunkLaws.{kept_told}
use Rattle.refusal.specs.Refusal.{Outcome}
use Rattle.key.specs.declared.Kind.{Kind}
use Rattle.key.specs.declared.Kind.TheVariants.{Text}
use Rattle.key.specs.Key.{Key, text}
use Rattle.locating.specs.Known.{Gated, asked_in}
use Rattle.locating.proofs.StepLaws.{asked_refused, placed_refused, placed_known}
use Rattle.content.specs.declared.Entry.{Entry}
use Rattle.metadata.specs.declared.Location.{Location}
use Rattle.metadata.specs.declared.Answer.{Answer}
use Rattle.metadata.specs.Answers.{value_bytes, place_of, stands_by, standing_by, placed_at, need_of, location_of, location_at, location_by}
use Rattle.metadata.specs.Keys.{chunk_key}
use Rattle.store.specs.Store.{metadata}
use Rattle.store.specs.Memory.{RightWords, IsLocation, IsAnswer}
use Rattle.store.specs.Steps.{one_more, settled_location, settled_words}
use Rattle.store.specs.MemoryLaws.{remembered_right}

module _ (image : List ℕ) (edition : Edition) (n : ℕ) (v : Spot) {c : Chunk} (e : standing_by image edition n v ≡ Some c) where
  pub standing_stood : Stood image c
  unfolding standing_by
  standing_stood = go (read_of (value_bytes image v)) e
    where
      by : (b : Option ℕ) → option_and_then (λ b. kept (has_id n) (stands_at image edition b)) b ≡ Some c → Stood image c
      by None e = cc
      by (Some b) e = stands_stood image edition b (kept_told (has_id n) (stands_at image edition b) e).0

      go : (f : Option Fields) → stands_by image edition n f ≡ Some c → Stood image c
      go None e = cc
      go (Some x) e = by (value_of x name_block) e

  pub standing_held : (c.block < 2 ^ 28) × (c.first < 2 ^ 32)
  standing_held = let s = standing_stood in (omega (arith, stood_most image s), omega arith)

-- ## After the metadata's answer
-- an answer takes no more questions than there were
pub sought_few : (image : List ℕ) (store : Store) (map : ℕ) (kind : Kind) (root : ℕ) (k : Key) (q : ℕ) (f : Outcome Answer) →
    IsAnswer image store map kind root k q f → need_of f ≤ q
unfolding IsAnswer
sought_few image store map kind root k q (Ok a) (o, i, h, g) = h
sought_few image store map kind root k q (Err r) t = omega arith

-- a location takes the questions of the answer
pub location_need : (image : List ℕ) (edition : Edition) (n : ℕ) (f : Outcome Answer) {l : Location} → location_by image edition n f ≡ Ok l → l.need ≡ need_of f
unfolding location_by
location_need image edition n (Err r) e = cc
location_need image edition n (Ok a) {l} e = go a.value e
  where
    at : (s : Option Chunk) → location_of a.need (placed_at s) ≡ Ok l → l.need ≡ a.need
    at None e = cc
    at (Some c) e = cc

    go : (v : Option Spot) → location_at image edition n a.need v ≡ Ok l → l.need ≡ a.need
    go None e = cc
    go (Some v) e = at (standing_by image edition n v) e

module _ (image : List ℕ) (store : Store) (c q : ℕ) where
  module _ (other : ¬ (c ≡ store.newest.id)) where
    -- the metadata has the entry `o`, found with `need` questions
    settled_found : (need : ℕ) (o : Option Entry) (v : Option Spot) → option_map (λ e. e.value) o ≡ v → need ≤ q
        → Gated need (asked_in (metadata image store) (metadata image store).page_in (metadata image store).root (text (chunk_key c))) (λ r. Ok o)
        → IsLocation image store (suc q) c (one_more (location_at image store.edition c need v))
    unfolding IsLocation
    settled_found need None None i h g = placed_refused (metadata image store) other g q h refl
    settled_found need None (Some v) i h g = cc
    settled_found need (Some e) None i h g = cc
    settled_found need (Some e) (Some v) i h g = go (standing_by image store.edition c v) refl
      where
        is : e.value ≡ v
        is = cc

        go : (s : Option Chunk) → standing_by image store.edition c v ≡ s → IsLocation image store (suc q) c (one_more (location_of need (placed_at s)))
        go None i = placed_refused (metadata image store) other g q h (rw (is, i))
        go (Some k) i = (omega arith, rw add-one (placed_known (metadata image store) other g (rw (is, i))))

    pub settled_tells : (f : Outcome Answer) → IsAnswer image store 0 Text store.newest.root.bits (text (chunk_key c)) q f →
        IsLocation image store (suc q) c (settled_location image store.edition c f)
    unfolding IsAnswer IsLocation settled_location location_by
    settled_tells (Err r) t = asked_refused (metadata image store) other q t
    settled_tells (Ok a) (o, i, h, g) = settled_found a.need o a.value i h g

  module _ {ws : List ℕ} (right : RightWords image store ws) (few : q < 16) where
    settled_stands : (need : ℕ) (v : Option Spot) → IsLocation image store q c (one_more (location_at image store.edition c need v)) →
        RightWords image store (settled_words c ws (one_more (location_at image store.edition c need v)))
    unfolding IsLocation settled_words
    settled_stands need None t = right
    settled_stands need (Some v) t = go (standing_by image store.edition c v) refl t
      where
        go : (s : Option Chunk) → standing_by image store.edition c v ≡ s → IsLocation image store q c (one_more (location_of need (placed_at s))) →
            RightWords image store (settled_words c ws (one_more (location_of need (placed_at s))))
        go None e t = right
        go (Some k) e t =
            let held = standing_held image store.edition c v e in
            remembered_right image store right c (place_of k) (need + 1) held.0 held.1 (omega (arith, t.0)) t.1

    pub settled_right : (f : Outcome Answer) → IsLocation image store q c (settled_location image store.edition c f) →
        RightWords image store (settled_words c ws (settled_location image store.edition c f))
    unfolding settled_location settled_words location_by
    settled_right (Err r) t = right
    settled_right (Ok a) t = settled_stands a.need a.value t
