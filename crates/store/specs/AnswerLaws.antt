-- Laws of the public answers: what was told or sought with 8 questions is what the definitions say.
use Rattle.std.specs.Prelude.{ℕ, ◌≤◌, ◌<◌, ◌≡◌, List, length, Err, None, Ok, Option, Some, option_map}
use Rattle.std.proofs.Math.Path.{sym}
use Rattle.std.proofs.Common.{ap, eq-eqb, ne_eqb, lt-ltb, le-ltb}
use Rattle.refusal.specs.Refusal.{Outcome, bind, bad_argument}
use Rattle.key.specs.declared.Kind.{Kind}
use Rattle.key.specs.declared.Kind.TheVariants.{Text}
use Rattle.key.specs.Key.{Key, key_of, text, compare_keys}
use Rattle.tree.specs.Asking.{map_lookup}
use Rattle.locating.proofs.GateLaws.{gated_open}
use Rattle.opening.specs.declared.Store.{Store}
use Rattle.content.specs.declared.Entry.{Entry}
use Rattle.metadata.specs.declared.Location.{Location}
use Rattle.metadata.specs.declared.Answer.{Answer}
use Rattle.metadata.specs.Answers.{named_id, named_root, located_by, value_by, id_at, id_by, root_at, root_by}
use Rattle.metadata.specs.Keys.{name_key, root_key}
use Rattle.store.specs.Store.{chunk_at, reader, asked_root, meta_value, map_id, map_root, named_map}
use Rattle.store.specs.Asking.{value_of}
use Rattle.store.specs.Memory.{IsLocation, IsAnswer}

module _ (image : List ℕ) (store : Store) where
  -- ## Where a chunk is
  pub place_told : (c : ℕ) (t : Outcome Location) → IsLocation image store 8 c t → located_by t ≡ chunk_at image store 8 c
  unfolding chunk_at IsLocation located_by
  place_told c (Ok l) (h, d) = sym (gated_open d 8 h)
  place_told c (Err r) t = sym t

  -- ## What was sought in a map
  module _ (map : ℕ) (kind : Kind) (root : ℕ) (k : Key) where
    -- the answer is that of the entry, or of none
    sought : (f : Outcome Answer) → IsAnswer image store map kind root k 8 f
        → {B : Type 0} (g : Option Entry → Outcome B) (h : Answer → Outcome B)
        → ((o : Option Entry) (a : Answer) → option_map (λ e. e.value) o ≡ a.value → h a ≡ g o)
        → bind f h ≡ bind (map_lookup compare_keys (reader image store map kind) k root) g
    unfolding IsAnswer reader chunk_at
    sought (Ok a) (o, i, h, d) g t same = rw (gated_open d 8 h) (same o a i)
    sought (Err r) s g t same = rw s

    pub value_sought : (l : Outcome Answer) → IsAnswer image store map kind root k 8 l
        → value_by l ≡ value_of (map_lookup compare_keys (reader image store map kind) k root)
    unfolding value_by value_of IsAnswer reader chunk_at
    value_sought (Ok a) (o, i, h, d) = rw (gated_open d 8 h) (ap Ok (sym i))
    value_sought (Err r) s = rw s

  -- ## A map's id and root
  id_same : (o : Option Entry) (a : Answer) → option_map (λ e. e.value) o ≡ a.value → id_at image a.value ≡ named_id image o
  id_same None a e = rw (← e)
  id_same (Some x) a e = rw (← e)

  root_same : (o : Option Entry) (a : Answer) → option_map (λ e. e.value) o ≡ a.value → root_at image a.value ≡ named_root image o
  root_same None a e = rw (← e)
  root_same (Some x) a e = rw (← e)

  module _ (bytes : List ℕ) (f : Outcome Answer) (s : IsAnswer image store 0 Text (asked_root store) (key_of Text bytes) 8 f) where
    pub id_sought : (name : List ℕ) → length name ≤ 1000 → bytes ≡ name_key name → id_by image f ≡ named_map image store name
    unfolding named_map map_id meta_value id_by key_of
    id_sought name h e =
        rw (le-ltb 1000 (length name) h) (sought 0 Text (asked_root store) (text (name_key name)) f (rw e at s) (named_id image) (λ a. id_at image a.value) id_same)

    pub root_sought : (map : ℕ) → ¬ (map ≡ 0) → bytes ≡ root_key map → root_by image f ≡ map_root image store map
    unfolding map_root meta_value root_by key_of
    root_sought map h e =
        rw (ne_eqb map 0 h) (sought 0 Text (asked_root store) (text (root_key map)) f (rw e at s) (named_root image) (λ a. root_at image a.value) root_same)

  pub name_long : (name : List ℕ) → 1000 < length name → named_map image store name ≡ Err bad_argument
  unfolding named_map
  name_long name h = rw (lt-ltb 1000 (length name) h)

  pub root_metadata : (map : ℕ) → map ≡ 0 → map_root image store map ≡ Ok (asked_root store)
  unfolding map_root
  root_metadata map e = rw (eq-eqb map 0 e)
