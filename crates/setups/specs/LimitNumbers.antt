-- The numbers of the limits.
use Rattle.std.specs.Prelude.{◌≡◌}
use Rattle.setups.specs.declared.limits.TheConstants.{MOST_REGISTERS, MOST_SLOTS, MOST_TABLE_BYTES}
use Rattle.setups.specs.declared.limits.TheConstants.{MOST_FIXED_OPERATIONS, MOST_GUESTS, MOST_GUEST_TASKS, MOST_TASKS}
use Rattle.setups.specs.declared.limits.TheConstants.{LONGEST_PERIOD, LONGEST_SEPARATION, HIGHEST_COST}
use Rattle.setups.specs.declared.limits.TheConstants.{MOST_OPERATIONS, VALUES, WHOLE, SPARE}

-- the names that the rules of a setup go by stand for these numbers
pub record LimitNumbers : Type 0 where
  pub registers : MOST_REGISTERS ≡ 256
  pub slots : MOST_SLOTS ≡ 16777216
  pub table_bytes : MOST_TABLE_BYTES ≡ 1024
  pub fixed_operations : MOST_FIXED_OPERATIONS ≡ 32
  pub guests : MOST_GUESTS ≡ 16
  pub guest_tasks : MOST_GUEST_TASKS ≡ 8
  pub tasks : MOST_TASKS ≡ 128
  pub period : LONGEST_PERIOD ≡ 1024
  pub separation : LONGEST_SEPARATION ≡ 16384
  pub cost : HIGHEST_COST ≡ 16
  pub operations : MOST_OPERATIONS ≡ 2048
  pub values : VALUES ≡ 65536
  pub whole : WHOLE ≡ 1000000
  pub spare : SPARE ≡ 10000
