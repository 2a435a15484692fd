-- Ranks are in one order.
use Rattle.std.proofs.Common.{◌≡◌, ◌≢◌, true, false, arith}
use Rattle.std.proofs.lemmas.Grind.{common_steps}
use Rattle.waiting.specs.declared.Rank.{Rank}
use Rattle.waiting.specs.Earliest.{ranks_before}

-- of two different ranks one is less
pub one_ranks_before : (a b : Rank) → ranks_before a b ≡ false → (a ≢ b) → ranks_before b a ≡ true
one_ranks_before a b not_less differ = grind (arith, common_steps)

-- of two ranks at most one is less
pub before_one_way : (a b : Rank) → ranks_before a b ≡ true → ranks_before b a ≡ false
before_one_way a b less = grind (arith, common_steps)

-- no rank is less than itself
pub not_before_itself : (a : Rank) → ranks_before a a ≡ false
not_before_itself a = grind (arith, common_steps)

-- a rank that is less differs
pub before_and_equal : (a b : Rank) → ranks_before a b ≡ true → b ≡ a → ⊥
before_and_equal a b less same = grind (arith, common_steps)

-- less than one that is not greater is less
pub before_no_less : (a b c : Rank) → ranks_before a b ≡ true → ranks_before c b ≡ false → ranks_before a c ≡ true
before_no_less a b c less not_less = grind (arith, common_steps)
