-- What `write` and `read` answer and leave behind, and the round trip in both directions.
use Rattle.std.specs.Prelude.{◌≡◌, ℕ, ◌+◌, ◌<◌, Bool, cond, ◌&&◌, List, ◌++◌, length}
use Rattle.std.specs.Prelude.{take, drop, Some, None, Ok, Err, Option, Result, ◌==◌, ◌≢◌}
use Rattle.decline.specs.declared.Decline.{Decline}
use Rattle.decline.specs.declared.Decline.TheVariants.{BlockSize, BlockSums, BlockRule}
use Rattle.decline.specs.declared.DeclineNumbers.{DeclineNumbers}
use Rattle.decline.specs.Refusals.{numbers_of}
use Rattle.journal.specs.declared.entries.Entry.{Entry}
use Rattle.journal.specs.declared.blocks.Heading.{Heading}
use Rattle.journal.specs.declared.layout.TheConstants.{BLOCK_BYTES, FOUR_BYTE_NUMBERS, PLACES}
use Rattle.journal.specs.Bytes.{number4}
use Rattle.journal.specs.Entries.{within}
use Rattle.journal.specs.Blocks.{block_bytes, count_in, entries_in, entry_fits}
use Rattle.journal.specs.Blocks.{sums_agree, header_lawful, place_lawful, first_failing}

-- the answer r if a test holds, else a refusal
abbrev pub only_if : {X : Type 0} → Bool → Decline → Result X DeclineNumbers → Result X DeclineNumbers
only_if test d r = cond test r (Err (numbers_of d))

-- the answer r if no place fails, else the refusal of the first that does; places count from 1 in refusals
abbrev pub unless_at : {X : Type 0} → Option ℕ → Result X DeclineNumbers → Result X DeclineNumbers
unless_at None r = r
unless_at (Some e) r = Err (numbers_of (BlockRule (e + 1)))

-- 1 to 31 entries, and a block of 512 bytes
abbrev pub write_sized : List Entry → List ℕ → Bool
write_sized es block = length block == BLOCK_BYTES && within 1 PLACES (length es)

-- what the rules of the format say of 1 to 31 entries
unfoldable pub entries_answer : List Entry → Result (Unit {0}) DeclineNumbers
entries_answer es = unless_at (first_failing (entry_fits es) 0 (length es)) (Ok tt)

-- what `write` answers
abbrev pub block_write_answer : List Entry → List ℕ → Result (Unit {0}) DeclineNumbers
block_write_answer es block = only_if (write_sized es block) BlockSize (entries_answer es)

-- what a write with this answer leaves in the block: the bytes of the entries, or what it held
abbrev pub block_left : Result (Unit {0}) DeclineNumbers → ℕ → List Entry → List ℕ → List ℕ
block_left (Ok x) number es block = block_bytes number es
block_left (Err n) number es block = block

-- what `write` leaves in the block
abbrev pub block_after : ℕ → List Entry → List ℕ → List ℕ
block_after number es block = block_left (block_write_answer es block) number es block

-- a block of 512 bytes, and 31 places
abbrev pub read_sized : List ℕ → List Entry → Bool
read_sized block places = length block == BLOCK_BYTES && length places == PLACES

-- what the rules of the format say of 512 bytes
unfoldable pub block_answer : List ℕ → Result Heading DeclineNumbers
block_answer block =
    only_if (sums_agree block) BlockSums
    (only_if (header_lawful block) (BlockRule 0)
    (unless_at (first_failing (place_lawful block) 0 PLACES)
    (Ok (record { number = number4 block 0; count = count_in block }))))

-- what `read` answers
abbrev pub block_read_answer : List ℕ → List Entry → Result Heading DeclineNumbers
block_read_answer block places = only_if (read_sized block places) BlockSize (block_answer block)

-- what a read with this answer leaves in the places: the entries of the block, and past its count what they held
abbrev pub places_left : Result Heading DeclineNumbers → List ℕ → List Entry → List Entry
places_left (Ok h) block places = entries_in block h.count ++ drop h.count places
places_left (Err n) block places = places

-- what `read` leaves in the places
abbrev pub places_after : List ℕ → List Entry → List Entry
places_after block places = places_left (block_read_answer block places) block places

-- reading these bytes answers the number and the count, and gives the entries back
abbrev pub ReadsBack : ℕ → List Entry → List ℕ → Type 0
ReadsBack number es bytes = (places : List Entry) → length places ≡ PLACES
    → (block_read_answer bytes places ≡ Ok (record { number = number; count = length es }))
    × (places_after bytes places ≡ es ++ drop (length es) places)

-- writing the entries below the count, under the number, gives these bytes
abbrev pub WritesBack : Heading → List Entry → List ℕ → Type 0
WritesBack heading places bytes = (block : List ℕ) → length block ≡ BLOCK_BYTES
    → (block_write_answer (take heading.count places) block ≡ Ok tt)
    × (block_after heading.number (take heading.count places) block ≡ bytes)

-- no write makes these bytes
abbrev pub NeverWritten : List ℕ → Type 0
NeverWritten bytes = (number : ℕ) (es : List Entry) (block : List ℕ) → number < FOUR_BYTE_NUMBERS
    → block_write_answer es block ≡ Ok tt → block_after number es block ≢ bytes
