-- Laws of the public calls, one for each way that the code takes.
--
--   asked-X                                      what an id and a kind that a caller gives are
--   asking-X                                     arguments, then opening, then the map
--   lookup-X, index-X, count-X, named-X, copy-X  the calls
use Prim.Native.Nat.{ℕ, zero, suc, ◌+◌, ◌≤◌, ◌<◌}
use Rattle.std.specs.Prelude.{◌≡◌, true, false, List, ◌++◌, leb, ltb, ℤ, length, get_or, take, drop, set, Err, None, Ok, Option, Some}
use Rattle.std.proofs.Math.Path.{refl, ap}
use Rattle.std.proofs.Common.{sym, ◌∙◌, subst, add-one, arith, take-suc, drop-cons, length-take-le, to_z}
use Rattle.std.proofs.Math.Bool.{and-eq-true_iff}
use Rattle.std.proofs.lemmas.List.{set_at}
use Rattle.std.proofs.Math.Seq.{append_snoc}
use Rattle.std.specs.Int.{w64}
use borrow.Author.Tests.{le-ltb, le-leb, lt-leb, leb-true}
use Rattle.refusal.specs.declared.Refusal.{Refusal}
use Rattle.refusal.specs.Refusal.{Outcome, bind, bad_argument, area_too_small}
use Rattle.numeral.specs.BigEndian.{big_endian_at}
use Rattle.tree.proofs.OutcomeLaws.{refuse_ok}
use Rattle.text.specs.Text.{within, every, is_printable}
use Rattle.key.specs.declared.Kind.{Kind}
use Rattle.key.specs.declared.Kind.TheVariants.{Number, Text}
use Rattle.key.specs.Key.{Key, key_of, well_formed}
use Rattle.opening.specs.declared.View.{View}
use Rattle.opening.specs.declared.Store.{Store}
use Rattle.item.specs.Item.{Spot}
use Rattle.content.specs.declared.Entry.{Entry}
use Rattle.content.specs.Content.{key_in}
use Rattle.store.specs.Store.{named_map}
use Rattle.store.specs.Asking.{lookup_in, index_in, value_of, fetched_of}
use Rattle.store.specs.AskLaws.{lookup_inside, index_key}
use Rattle.viewing.specs.Viewing.{opened_store}
use Rattle.map.specs.declared.entry.Key.TheVariants as given
use Rattle.map.specs.Map.{asked_map, keyed, well_named, asking, lookup_of, fitting, copy_of, named_of}
use Rattle.map.specs.Map.{item_of, item_at, item_by, area_after}

-- ## An id and a kind
module _ (map : ℕ) where
  pub asked_kind : (kind : ℕ) → 1 < kind → asked_map map kind ≡ Err bad_argument
  unfolding asked_map
  asked_kind zero h = absurd (omega arith)
  asked_kind (suc zero) h = absurd (omega arith)
  asked_kind (suc (suc n)) h = refl

  pub asked_large : (kind : ℕ) → kind ≤ 1 → 0x7fffffff < map → asked_map map kind ≡ Err bad_argument
  unfolding asked_map
  asked_large zero h l = rw (le-leb 1 map (omega arith), lt-leb map 0x7fffffff l)
  asked_large (suc zero) h l = rw (lt-leb map 0x7fffffff l)
  asked_large (suc (suc n)) h l = absurd (omega arith)

  pub asked_text : {kind : ℕ} → kind ≡ 1 → map ≤ 0x7fffffff → asked_map map kind ≡ Ok (map, Text)
  unfolding asked_map
  asked_text e h = rw (e, le-leb map 0x7fffffff h)

  pub asked_metadata : {kind : ℕ} → kind ≡ 0 → map ≡ 0 → asked_map map kind ≡ Err bad_argument
  unfolding asked_map
  asked_metadata e i = rw (e, i)

  pub asked_number : {kind : ℕ} → kind ≡ 0 → ¬ (map ≡ 0) → map ≤ 0x7fffffff → asked_map map kind ≡ Ok (map, Number)
  unfolding asked_map
  asked_number e other h = rw (e, le-leb 1 map (omega arith), le-leb map 0x7fffffff h)

-- ## Arguments, then opening, then the map
module _ {A : Type 0} {o : Outcome (ℕ × Kind)} (image : List ℕ) (view : View) (ask : Store → ℕ → Kind → Outcome A) where
  pub asking_bad : {r : Refusal} → o ≡ Err r → asking o image view ask ≡ Err r
  unfolding asking
  asking_bad e = rw e

  module _ {x : ℕ × Kind} (e : o ≡ Ok x) where
    pub asking_shut : {r : Refusal} → opened_store image view ≡ Err r → asking o image view ask ≡ Err r
    unfolding asking
    asking_shut f = rw (e, f)

    pub asking_open : {s : Store} → opened_store image view ≡ Ok s → asking o image view ask ≡ ask s x.0 x.1
    unfolding asking
    asking_open f = rw (e, f)

-- ## Keys
module _ (key : List ℕ) (id : ℕ) (kind : Kind) where
  pub keyed_bad : well_formed kind key ≡ false → keyed key (id, kind) ≡ Err bad_argument
  unfolding keyed
  keyed_bad e = rw e

  pub keyed_well : well_formed kind key ≡ true → keyed key (id, kind) ≡ Ok (id, kind)
  unfolding keyed
  keyed_well e = rw e

module _ (image : List ℕ) (view : View) (map kind : ℕ) (key : List ℕ) where
  pub lookup_bad : {r : Refusal} → asked_map map kind ≡ Err r → lookup_of image view map kind key ≡ Err r
  unfolding lookup_of
  lookup_bad e = asking_bad image view _ (rw e)

  pub lookup_asked : {id : ℕ} {k : Kind} → asked_map map kind ≡ Ok (id, k)
      → asking (keyed key (id, k)) image view (λ s i l. lookup_in image s i l (key_of l key)) ≡ lookup_of image view map kind key
  unfolding lookup_of
  lookup_asked e = rw e

-- ## Names
module _ (name : List ℕ) where
  pub unnamed_short : length name < 1 → well_named name ≡ false
  unfolding well_named
  unnamed_short h = rw (lt-leb 1 (length name) h)

  pub unnamed_long : 1000 < length name → well_named name ≡ false
  unfolding well_named
  unnamed_long h = rw (le-leb 1 (length name) (omega arith), lt-leb (length name) 1000 h)

  pub named_letters : 1 ≤ length name → length name ≤ 1000 → every is_printable name ≡ well_named name
  unfolding well_named
  named_letters h i = rw (le-leb 1 (length name) h, le-leb (length name) 1000 i)

  -- a good name has room in its key
  named_room : well_named name ≡ true → ltb 1000 (length name) ≡ false
  unfolding well_named
  named_room w =
      let sized = ((and-eq-true_iff (within 1 1000 (length name)) (every is_printable name)).0 w).0 in
      let few = ((and-eq-true_iff (leb 1 (length name)) (leb (length name) 1000)).0 sized).1 in
      le-ltb 1000 (length name) (leb-true (length name) 1000 few)

  module _ (image : List ℕ) (view : View) where
    pub named_bad : well_named name ≡ false → named_of image view name ≡ Err bad_argument
    unfolding named_of
    named_bad e = rw e

    module _ (well : well_named name ≡ true) where
      pub named_shut : {r : Refusal} → opened_store image view ≡ Err r → named_of image view name ≡ Err r
      unfolding named_of
      named_shut f = rw (well, f)

      pub named_open : {s : Store} → opened_store image view ≡ Ok s → named_map image s name ≡ named_of image view name
      unfolding named_of named_map
      named_open f = rw (named_room well, well, f)

pub asking_told : {A : Type 0} (image : List ℕ) (view : View) (ask : Store → ℕ → Kind → Outcome A) {o : Outcome (ℕ × Kind)} {x : ℕ × Kind} → o ≡ Ok x
    → asking (Ok x) image view ask ≡ asking o image view ask
asking_told image view ask e = ap (λ o. asking o image view ask) (sym e)

-- ## Entries
module _ (image : List ℕ) (kind : Kind) (e : Entry) where
  pub item_number : kind ≡ Number → {z : ℤ} {bits : ℕ} {s : List ℕ} → z ≡ to_z w64 bits → bits ≡ big_endian_at 8 s 0
      → s ≡ take e.key.len (drop e.key.at image) → record { key = given.Number z; value = e.value } ≡ item_at image kind e
  unfolding item_at key_in key_of
  item_number k a b c = rw (k, a, b, c)

  pub item_text : kind ≡ Text → record { key = given.Text e.key; value = e.value } ≡ item_at image kind e
  unfolding item_at key_in key_of
  item_text k = rw k

pub item_fetched : (image : List ℕ) (store : Store) (map : ℕ) (kind : Kind) (i : ℕ)
    → item_by image kind (fetched_of (index_in image store map kind i)) ≡ item_of (index_in image store map kind i)
unfolding item_of item_at fetched_of key_in
item_fetched image store map kind i = go (index_in image store map kind i) refl
  where
    go : (o : Outcome (Key × Entry)) → index_in image store map kind i ≡ o → item_by image kind (fetched_of o) ≡ item_of o
    go (Err r) e = refl
    go (Ok (k, x)) e = rw (index_key image store map kind i k x e)

-- ## Copy
-- one byte more at the start of an area
pub put_more : (area s : List ℕ) (i : ℕ) → i < length area → i < length s
    → set (take i s ++ drop i area) i (get_or s i 0) ≡ take (i + 1) s ++ drop (i + 1) area
put_more area s i h k =
    rw (add-one, take-suc s i 0 k, drop-cons area i 0 h)
    (set_at (take i s) (get_or area i 0) (drop (suc i) area) (get_or s i 0) i (length-take-le i s (omega arith))
    ∙ sym (append_snoc (take i s) (get_or s i 0) (drop (suc i) area)))

-- a value that was looked up lies inside the image
asking_inside : (image : List ℕ) (view : View) (o : Outcome (ℕ × Kind)) (k : Kind → Key) (e : Entry)
    → asking o image view (λ s i l. lookup_in image s i l (k l)) ≡ Ok (Some e) → e.value.at + e.value.len ≤ length image
unfolding asking
asking_inside image view (Err r) k e h = refuse_ok r (Some e) h
asking_inside image view (Ok x) k e h = go (opened_store image view) h
  where
    go : (o : Outcome Store) → bind o (λ s. lookup_in image s x.0 x.1 (k x.1)) ≡ Ok (Some e)
        → e.value.at + e.value.len ≤ length image
    go (Err r) h = refuse_ok r (Some e) h
    go (Ok s) h = lookup_inside image s x.0 x.1 (k x.1) e h

-- the entry of a value that is given by its place
pub record Looked (o : Outcome (Option Entry)) (v : Spot) : Type 0 where
  pub entry : Entry
  pub found : o ≡ Ok (Some entry)
  pub place : entry.value ≡ v

looked : (o : Outcome (Option Entry)) {v : Spot} → value_of o ≡ Ok (Some v) → Looked o v
unfolding value_of
looked (Err r) e = cc
looked (Ok None) e = cc
looked (Ok (Some x)) e = record { entry = x; found = refl; place = cc }

module _ (image : List ℕ) (view : View) (map kind : ℕ) (key : List ℕ) (room : ℕ) where
  module _ {v : Outcome (Option Spot)} (e : v ≡ value_of (lookup_of image view map kind key)) {s : Spot} (f : v ≡ Ok (Some s)) where
    found : Looked (lookup_of image view map kind key) s
    found = looked (lookup_of image view map kind key) (sym e ∙ f)

    pub copy_inside : s.at + s.len ≤ length image
    unfolding lookup_of
    copy_inside =
        let x = found.entry in
        let a : x.value.at ≡ s.at = ap (λ (p : Spot). p.at) found.place in
        let l : x.value.len ≡ s.len = ap (λ (p : Spot). p.len) found.place in
        omega (arith, a, l, asking_inside image view (bind (asked_map map kind) (keyed key)) (λ k. key_of k key) x found.found)

    module _ (small : room < s.len) where
      copy_small : copy_of image view map kind key room ≡ Err area_too_small
      unfolding copy_of
      copy_small = rw (found.found, found.place, lt-leb s.len room small)

      pub copy_refuses : Err area_too_small ≡ value_of (copy_of image view map kind key room)
      unfolding value_of
      copy_refuses = rw copy_small

      pub copy_refused : (area : List ℕ) → area ≡ area_after image (copy_of image view map kind key room) area
      unfolding area_after
      copy_refused area = rw copy_small

    module _ (fits : s.len ≤ room) where
      copy_fits : copy_of image view map kind key room ≡ Ok (Some found.entry)
      unfolding copy_of
      copy_fits = rw (found.found, found.place, le-leb s.len room fits)

      pub copy_answers : Ok (Some s) ≡ value_of (copy_of image view map kind key room)
      unfolding value_of
      copy_answers = rw (copy_fits, found.place)

      pub copy_written : (area : List ℕ) → take s.len (drop s.at image) ++ drop s.len area ≡ area_after image (copy_of image view map kind key room) area
      unfolding area_after
      copy_written area = rw (copy_fits, found.place)

  -- where there is no value
  abbrev pub NoValue : Outcome (Option Spot) → Type 0
  NoValue (Ok (Some s)) = ⊥
  NoValue (Ok None) = Unit {0}
  NoValue (Err r) = Unit {0}

  copy_same : (o : Outcome (Option Entry)) → NoValue (value_of o) → bind o (fitting room) ≡ o
  unfolding value_of
  copy_same (Err r) n = refl
  copy_same (Ok None) n = refl
  copy_same (Ok (Some e)) n = absurd n

  module _ {v w : Outcome (Option Spot)} (e : v ≡ value_of (lookup_of image view map kind key)) (f : v ≡ w) (n : NoValue w) where
    copy_lookup : copy_of image view map kind key room ≡ lookup_of image view map kind key
    unfolding copy_of
    copy_lookup = copy_same (lookup_of image view map kind key) (subst NoValue (sym f ∙ e) n)

    pub copy_none : w ≡ value_of (copy_of image view map kind key room)
    copy_none = sym f ∙ e ∙ ap value_of (sym copy_lookup)

    pub copy_kept : (area : List ℕ) → area ≡ area_after image (copy_of image view map kind key room) area
    unfolding area_after value_of
    copy_kept area = go (lookup_of image view map kind key) (subst NoValue (sym f ∙ e) n) ∙ ap (λ o. area_after image o area) (sym copy_lookup)
      where
        go : (o : Outcome (Option Entry)) → NoValue (value_of o) → area ≡ area_after image o area
        go (Err r) m = refl
        go (Ok None) m = refl
        go (Ok (Some x)) m = absurd m
