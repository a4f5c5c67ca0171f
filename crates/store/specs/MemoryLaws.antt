-- Laws of the memory: what is right of an empty one, of what is recalled, and of the words with a chunk more.
use Rattle.std.specs.Prelude.{ℕ, ◌^◌, ◌<◌, ◌≡◌, List, replicate}
use Rattle.std.proofs.Common.{ap}
use Rattle.locating.specs.Known.{Known}
use Rattle.opening.specs.declared.Store.{Store}
use Rattle.page.specs.declared.Place.{Place}
use Rattle.memory.specs.declared.Recalled.{Recalled}
use Rattle.memory.specs.declared.Recalled.TheVariants as recalled
use Rattle.memory.specs.Words.{recalled_in, remembered_in}
use Rattle.memory.specs.WordsLaws.{empty_holds, recalled_holds, remembered_holds}
use Rattle.store.specs.Store.{metadata}
use Rattle.store.specs.declared.asked.Asked.TheInside.{Inside}
use Rattle.store.specs.Memory.{Question, RightWords, IsRecalled}

pub empty_right : (image : List ℕ) (store : Store) (n : ℕ) → RightWords image store (replicate n 0)
empty_right image store n = record { known = empty_holds (Known (metadata image store)) n }

module _ (image : List ℕ) (store : Store) {ws : List ℕ} (right : RightWords image store ws) (c : ℕ) where
  pub recalled_known : {l : Place} {need : ℕ} → recalled_in ws c ≡ recalled.At l need → Known (metadata image store) c l need
  recalled_known e = recalled_holds (Known (metadata image store)) ws right.known c e

  pub recalled_right : (r : Recalled) → recalled_in ws c ≡ r → IsRecalled image store c r
  recalled_right (recalled.At l need) e = recalled_known e
  recalled_right (recalled.Free i) e = tt
  recalled_right recalled.Full e = tt

  pub remembered_right : (l : Place) (need : ℕ) → l.block < 2 ^ 28 → l.first < 2 ^ 32 → need < 16 →
      Known (metadata image store) c l need → RightWords image store (remembered_in ws c l need)
  remembered_right l need b f few known =
      record { known = remembered_holds (Known (metadata image store)) c l need b f few ws right.known known }

-- what is read of a struct whose view is known
pub seen : (a : Inside) {q : Question} → record { image = a.image.now; map = a.map } ≡ q → (a.image.now ≡ q.image) × (a.map ≡ q.map)
seen a e = (ap (λ s. s.image) e, ap (λ s. s.map) e)
