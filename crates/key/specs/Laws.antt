-- Keys are strictly and totally ordered, both kinds by one comparison.
use Rattle.std.specs.Prelude.{ℕ, ◌≡◌, refl, List}
use Rattle.std.proofs.Common.{ap}
use Rattle.std.specs.declared.cmp.Ordering.TheVariants.{Less, Equal}
use Rattle.order.specs.Order.{turned, TotalOrder}
use Rattle.order.proofs.Instances.{nat_order, int_order, lex_order}
use Rattle.key.specs.Key.{Key, number, text, texts_order, compare_keys}

texts_order_lem : TotalOrder (List ℕ) texts_order
texts_order_lem = lex_order nat_order

key_self : (a : Key) → compare_keys a a ≡ Equal
unfolding compare_keys
key_self (number a) = int_order.self a
key_self (text a) = texts_order_lem.self a

key_same : (a b : Key) → compare_keys a b ≡ Equal → a ≡ b
unfolding compare_keys
key_same (number a) (number b) e = ap number (int_order.same a b e)
key_same (number a) (text b) e = cc
key_same (text a) (number b) e = cc
key_same (text a) (text b) e = ap text (texts_order_lem.same a b e)

key_flip : (a b : Key) → compare_keys b a ≡ turned (compare_keys a b)
unfolding compare_keys
key_flip (number a) (number b) = int_order.flip a b
key_flip (number a) (text b) = refl
key_flip (text a) (number b) = refl
key_flip (text a) (text b) = texts_order_lem.flip a b

key_trans : (a b c : Key) → compare_keys a b ≡ Less → compare_keys b c ≡ Less → compare_keys a c ≡ Less
unfolding compare_keys
key_trans (number a) (number b) (number c) p q = int_order.trans a b c p q
key_trans (number a) b (text c) p q = refl
key_trans (number a) (text b) (number c) p q = cc
key_trans (text a) (number b) c p q = cc
key_trans (text a) (text b) (number c) p q = cc
key_trans (text a) (text b) (text c) p q = texts_order_lem.trans a b c p q

pub key_order : TotalOrder Key compare_keys
key_order = record { self = key_self; same = key_same; flip = key_flip; trans = key_trans }
