-- Laws of an id: "an id is 1 to 2^31-1".
use Rattle.std.specs.Prelude.{ℕ, ◌≤◌, ◌<◌, ◌≡◌, Err, Ok, Some}
use Rattle.std.proofs.Common.{arith, le-leb}
use Rattle.std.proofs.lemmas.Bool.{lt-leb}
use Rattle.refusal.specs.Refusal.{not_a_number}
use Rattle.metadata.specs.Answers.{id_of}

pub id_low : (v : ℕ) → v < 1 → id_of (Some v) ≡ Err not_a_number
id_low v h = rw (lt-leb 1 v h)

pub id_high : (v : ℕ) → 0x7fffffff < v → id_of (Some v) ≡ Err not_a_number
id_high v h = rw (le-leb 1 v (omega arith), lt-leb v 0x7fffffff h)

pub id_right : (v : ℕ) → 1 ≤ v → v ≤ 0x7fffffff → id_of (Some v) ≡ Ok v
id_right v h i = rw (le-leb 1 v h, le-leb v 0x7fffffff i)
