-- The numbers of the format.
use Rattle.std.specs.Prelude.{◌≡◌}
use Rattle.journal.specs.declared.layout.TheConstants.{BLOCK_BYTES, HEADER_BYTES, PLACES, ENTRY_BYTES, SUMS_START}
use Rattle.journal.specs.declared.layout.TheConstants.{SUM_MODULUS, FOUR_BYTE_NUMBERS, VALUES, REGISTERS, SLOTS}
use Rattle.journal.specs.declared.layout.TheConstants.{FIXED_OPERATIONS, GUESTS, TASKS, POSITIONS}

-- the names that the rules of the format go by stand for these numbers
pub record FormatNumbers : Type 0 where
  pub block_bytes : BLOCK_BYTES ≡ 512
  pub header_bytes : HEADER_BYTES ≡ 12
  pub places : PLACES ≡ 31
  pub entry_bytes : ENTRY_BYTES ≡ 16
  pub sums_start : SUMS_START ≡ 508
  pub sum_modulus : SUM_MODULUS ≡ 65536
  pub four_byte_numbers : FOUR_BYTE_NUMBERS ≡ 4294967296
  pub values : VALUES ≡ 65536
  pub registers : REGISTERS ≡ 256
  pub slots : SLOTS ≡ 16777216
  pub fixed_operations : FIXED_OPERATIONS ≡ 32
  pub guests : GUESTS ≡ 16
  pub tasks : TASKS ≡ 8
  pub positions : POSITIONS ≡ 16
