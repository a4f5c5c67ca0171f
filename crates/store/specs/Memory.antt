-- What is right of the memory of a call, and what the code's answers say of locating.
--
--   Question                       the image and the map that are asked
--   RightWords image store ws      each chunk that the words hold is known: it stands there, and takes as many questions
--   IsRecalled image store c r     what is recalled of chunk c is so
--   IsLocation, IsAnswer           what an answer of `locate`, of `descend` says
use Rattle.std.specs.Prelude.{ℕ, ◌≤◌, ◌≡◌, ⊤, List, Err, Ok, Option, option_map}
use Rattle.key.specs.declared.Kind.{Kind}
use Rattle.key.specs.Key.{Key}
use Rattle.refusal.specs.Refusal.{Outcome}
use Rattle.opening.specs.declared.Store.{Store}
use Rattle.content.specs.declared.Entry.{Entry}
use Rattle.content.specs.Content.{page_in}
use Rattle.locating.specs.Locating.{located}
use Rattle.locating.specs.Known.{Gated, Known, asked_in}
use Rattle.memory.specs.declared.Recalled.{Recalled}
use Rattle.memory.specs.declared.Recalled.TheVariants as recalled
use Rattle.memory.specs.Words.{Holds}
use Rattle.metadata.specs.declared.Location.{Location}
use Rattle.metadata.specs.declared.Answer.{Answer}
use Rattle.store.specs.declared.Map.{Map}
use Rattle.store.specs.Store.{metadata}

-- what a contract sees of a call that asks
pub record Question : Type 0 where
  pub image : List ℕ
  pub map : Map

module _ (image : List ℕ) (store : Store) where
  pub record RightWords (ws : List ℕ) : Type 0 where
    pub known : Holds (Known (metadata image store)) ws

  abbrev pub IsRecalled : ℕ → Recalled → Type 0
  IsRecalled c (recalled.At l need) = Known (metadata image store) c l need
  IsRecalled c (recalled.Free i) = ⊤
  IsRecalled c recalled.Full = ⊤

  unfoldable pub IsLocation : ℕ → ℕ → Outcome Location → Type 0
  IsLocation q c (Ok l) = (l.need ≤ q) × Known (metadata image store) c l.place l.need
  IsLocation q c (Err r) = located (metadata image store) q c ≡ Err r

  -- a lookup of the key k in the map whose root is given
  unfoldable pub IsAnswer : ℕ → Kind → ℕ → Key → ℕ → Outcome Answer → Type 0
  IsAnswer map kind root k q (Ok a) =
      (o : Option Entry) × (option_map (λ e. e.value) o ≡ a.value) × (a.need ≤ q) ×
      Gated a.need (asked_in (metadata image store) (λ l p. page_in image l p map kind) root k) (λ r. Ok o)
  IsAnswer map kind root k q (Err r) =
      asked_in (metadata image store) (λ l p. page_in image l p map kind) root k q ≡ Err r
