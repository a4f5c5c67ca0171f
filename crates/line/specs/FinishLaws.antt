-- One pass over the parts of a line reads what the line says (`finish_all`).
use Prim.Native.Nat.{ℕ}
use Rattle.std.specs.Prelude.{◌≡◌, Bool, true, false, cond, not, ◌&&◌, ◌||◌, List, [], ◌∷◌, ltb, get_or, None, Option, Some, option_map, is_some}
use Rattle.std.proofs.Math.Path.{refl}
use Rattle.std.proofs.Common.{◌∙◌, ap, true≢false, arith, ltb-true, ltb-false}
use Rattle.std.proofs.Math.ListN.{get_or-eq_default}
use Rattle.text.specs.Text.{same, split}
use Rattle.line.specs.declared.read.Fields.{Fields}
use Rattle.names.specs.Names.{comma, name_of, named_in}
use Rattle.names.specs.Tree.{clear}
use Rattle.names.specs.DistinctLaws.{clear_like, clear_none, clear_more}
use Rattle.line.specs.Field.{Named, field_of}
use Rattle.line.specs.Fields.{on_some, has, none_twice, all_fields, fields_of, listed, read_of}
use Rattle.line.specs.Reading.{slot_of, nothing_yet, seen, finish}
use Rattle.line.specs.FieldLaws.{field_named}
use Rattle.line.specs.FillLaws.{Sized, added, taken, fill, put_sized, put_unknown, taken_added, none_taken, start_sized, fill_listed}

-- ## The rest of a line as its fields
pub named_has : (name : List ℕ) (ps : List (List ℕ)) (fs : List Named) → all_fields ps ≡ Some fs → named_in name ps ≡ has name fs
unfolding named_in all_fields has
named_has name [] fs e = let n : fs ≡ [] = cc in rw n
named_has name (p ∷ ps) fs e = go (field_of p) refl (all_fields ps) (named_has name ps) e
  where
    go : (o : Option Named) → field_of p ≡ o → (os : Option (List Named)) → ((gs : List Named) → os ≡ Some gs → named_in name ps ≡ has name gs) →
        on_some o None (λ f. on_some os None (λ gs. Some (f ∷ gs))) ≡ Some fs →
        (same name (name_of p) || named_in name ps) ≡ has name fs
    go None q os ih e = absurd (true≢false cc)
    go (Some f) q None ih e = absurd (true≢false cc)
    go (Some f) q (Some gs) ih e =
        let n : fs ≡ f ∷ gs = cc in rw (n, ih gs refl, (field_named p f q).letters)

-- a known name is given already, or it comes again; the others are clear of what is given
known_once : (g c h t : Bool) (x y : Option Fields) → cond g y (cond ((not h && c) && t) x y) ≡ cond ((not g && c) && (not h && t)) x y
known_once true c h t x y = refl
known_once false true true t x y = refl
known_once false true false t x y = refl
known_once false false true t x y = refl
known_once false false false t x y = refl

other_once : (c h t : Bool) (x y : Option Fields) → cond h y (cond (c && t) x y) ≡ cond (c && (not h && t)) x y
other_once true true t x y = refl
other_once true false t x y = refl
other_once false true t x y = refl
other_once false false t x y = refl

both_ways : (b : Bool) (x : Option Fields) → cond b x x ≡ x
both_ways true x = refl
both_ways false x = refl

-- what is read of a first field and of the fields fs after it
module _ (acc : Fields) (f : Named) (fs : List Named) (ps : List (List ℕ)) (z : Sized acc) (e : all_fields ps ≡ Some fs) where
  finish_first : cond (seen acc (slot_of f.name) f.name ps) None
      (cond (clear (taken (added acc f)) ps && none_twice fs) (Some (fill (added acc f) fs)) None) ≡
      cond ((not (taken acc f.name) && clear (taken acc) ps) && (not (has f.name fs) && none_twice fs)) (Some (fill (added acc f) fs)) None
  unfolding seen
  finish_first = go (ltb slot 11) refl
    where
      slot : ℕ
      slot = slot_of f.name

      given : Bool
      given = is_some (get_or acc.values slot None)

      go : (b : Bool) → ltb slot 11 ≡ b →
          cond (cond b given (named_in f.name ps)) None
          (cond (clear (taken (added acc f)) ps && none_twice fs) (Some (fill (added acc f) fs)) None) ≡
          cond ((not given && clear (taken acc) ps) && (not (has f.name fs) && none_twice fs)) (Some (fill (added acc f) fs)) None
      go true k =
          let more = taken_added acc f.name f.value z (ltb-true slot 11 k) in
          rw (
            clear_like (taken (added acc f)) (λ n. same f.name n || taken acc n) more ps,
            clear_more (taken acc) f.name ps,
            named_has f.name ps fs e,
          )
          (known_once given (clear (taken acc) ps) (has f.name fs) (none_twice fs) (Some (fill (added acc f) fs)) None)
      go false k =
          let out = ltb-false slot 11 k in
          rw (
            put_unknown acc slot f.value out,
            get_or-eq_default acc.values None {n = slot} (omega (arith, z.values)),
            named_has f.name ps fs e,
          )
          (other_once (clear (taken acc) ps) (has f.name fs) (none_twice fs) (Some (fill acc fs)) None)

finish_fields : (ps : List (List ℕ)) (acc : Fields) → Sized acc →
    finish acc ps ≡ on_some (all_fields ps) None (λ fs. cond (clear (taken acc) ps && none_twice fs) (Some (fill acc fs)) None)
unfolding finish all_fields clear none_twice fill
finish_fields [] acc z = refl
finish_fields (p ∷ ps) acc z = go (field_of p) refl (λ f. finish_fields ps (added acc f) (put_sized acc (slot_of f.name) f.value z))
  where
    after : Fields → Bool → Option (List Named) → Option Fields
    after a c o = on_some o None (λ fs. cond (c && none_twice fs) (Some (fill a fs)) None)

    go : (o : Option Named) → field_of p ≡ o →
        ((f : Named) → finish (added acc f) ps ≡ after (added acc f) (clear (taken (added acc f)) ps) (all_fields ps)) →
        on_some o None (λ f. cond (seen acc (slot_of f.name) f.name ps) None (finish (added acc f) ps)) ≡
        after acc (not (taken acc (name_of p)) && clear (taken acc) ps) (on_some o None (λ f. on_some (all_fields ps) None (λ fs. Some (f ∷ fs))))
    go None q ih = refl
    go (Some f) q ih = rw (ih f, ← (field_named p f q).letters) (rest (all_fields ps) refl)
      where
        rest : (os : Option (List Named)) → all_fields ps ≡ os →
            cond (seen acc (slot_of f.name) f.name ps) None (after (added acc f) (clear (taken (added acc f)) ps) os) ≡
            after acc (not (taken acc f.name) && clear (taken acc) ps) (on_some os None (λ fs. Some (f ∷ fs)))
        rest None e = both_ways (seen acc (slot_of f.name) f.name ps) None
        rest (Some fs) e = finish_first acc f fs ps z e

pub finish_all : (line : List ℕ) → finish nothing_yet (split comma line) ≡ read_of line
unfolding read_of fields_of
finish_all line =
    finish_fields (split comma line) nothing_yet start_sized ∙
    rw (clear_none (taken nothing_yet) none_taken (split comma line)) (go (all_fields (split comma line)))
  where
    go : (o : Option (List Named)) → on_some o None (λ fs. cond (none_twice fs) (Some (fill nothing_yet fs)) None) ≡
        option_map listed (on_some o None (λ fs. cond (none_twice fs) (Some fs) None))
    go None = refl
    go (Some fs) = once (none_twice fs) refl
      where
        once : (t : Bool) → none_twice fs ≡ t → cond t (Some (fill nothing_yet fs)) None ≡ option_map listed (cond t (Some fs) None)
        once true e = ap Some (fill_listed fs e)
        once false e = refl
