-- Blocks: the 512 bytes of a number and some entries, and the rules that a block keeps.
use Rattle.std.specs.Prelude.{ℕ, zero, suc, ◌+◌, ◌-◌, ◌*◌, Bool, cond, ◌&&◌, List, ◌∷◌, ◌++◌, map, length}
use Rattle.std.specs.Prelude.{take, drop, replicate, Some, None, Option, ◌==◌, nat_lt, slice_index_or}
use Rattle.std.specs.List.{range_with_len, flat_map, list_all}
use Rattle.journal.specs.declared.entries.Event.TheVariants.{Unassigned}
use Rattle.journal.specs.declared.entries.Entry.{Entry}
use Rattle.journal.specs.declared.layout.TheConstants.{ENTRY_BYTES, HEADER_BYTES, PLACES, SLOTS, SUMS_START}
use Rattle.journal.specs.Bytes.{bytes2, bytes4, number2, number4}
use Rattle.journal.specs.Entries.{fields_of, fields_at, entry_bytes, entry_from, fits, within}
use Rattle.journal.specs.BlockSums.{sum_a, sum_b}

-- the entry at a position of a list; past its end one that plays no part
abbrev pub entry_at : List Entry → ℕ → Entry
entry_at es k = slice_index_or es k (record { slot = 0; event = Unassigned })

-- the slot of the first entry
abbrev pub first_slot : List Entry → ℕ
first_slot es = (entry_at es 0).slot

-- the twelve bytes of a header: block number, count, zero, first slot
abbrev pub header_bytes : ℕ → ℕ → ℕ → List ℕ
header_bytes number count first = bytes4 number ++ (bytes2 count ++ (0 ∷ 0 ∷ bytes4 first))

-- bytes 0 to 507: the header, the entries, and zeros in the unused places
abbrev pub body_bytes : ℕ → List Entry → List ℕ
body_bytes number es =
    header_bytes number (length es) (first_slot es)
    ++ (flat_map entry_bytes es ++ replicate (ENTRY_BYTES * (PLACES - length es)) 0)

-- the sums of bytes 0 to 507, in two bytes each
abbrev pub sum_bytes : List ℕ → List ℕ
sum_bytes body = bytes2 (sum_a body) ++ bytes2 (sum_b body)

-- the 512 bytes of a block
abbrev pub block_bytes : ℕ → List Entry → List ℕ
block_bytes number es = body_bytes number es ++ sum_bytes (body_bytes number es)

-- the sixteen bytes of place e, from 0
abbrev pub place_bytes : List ℕ → ℕ → List ℕ
place_bytes block e = take ENTRY_BYTES (drop (HEADER_BYTES + ENTRY_BYTES * e) block)

-- the count of entries that a block states
abbrev pub count_in : List ℕ → ℕ
count_in block = number2 block 4

-- the first slot that a block states
abbrev pub first_slot_in : List ℕ → ℕ
first_slot_in block = number4 block 8

-- the entry that place e spells
abbrev pub entry_in : List ℕ → ℕ → Entry
entry_in block e = entry_from (fields_at (place_bytes block e))

-- the entries that a block's first places spell
abbrev pub entries_in : List ℕ → ℕ → List Entry
entries_in block count = map (entry_in block) (range_with_len 0 count)

-- every number of a list is 0
abbrev pub all_zero : List ℕ → Bool
all_zero = list_all (λ b. b == 0)

-- entry k of a list may stand at place k of a block: it keeps the rules, and its slot is the first entry's plus k
abbrev pub entry_fits : List Entry → ℕ → Bool
entry_fits es k = fits (first_slot es + k) (fields_of (entry_at es k))

-- the sums at the end are those of bytes 0 to 507
abbrev pub sums_agree : List ℕ → Bool
sums_agree block =
    number2 block SUMS_START == sum_a (take SUMS_START block)
    && number2 block (SUMS_START + 2) == sum_b (take SUMS_START block)

-- the rules of a header: 1 to 31 entries, two zero bytes, a first slot below 16,777,216
abbrev pub header_lawful : List ℕ → Bool
header_lawful block =
    within 1 PLACES (count_in block) && (number2 block 6 == 0 && nat_lt (first_slot_in block) SLOTS)

-- the rules of a place: below the count an entry of its slot, past it zeros
abbrev pub place_lawful : List ℕ → ℕ → Bool
place_lawful block e =
    cond (nat_lt e (count_in block)) (fits (first_slot_in block + e) (fields_at (place_bytes block e)))
    (all_zero (place_bytes block e))

-- the first of the n numbers from i on that a test turns down
unfoldable pub first_failing : (ℕ → Bool) → ℕ → ℕ → Option ℕ
first_failing ok i zero = None
first_failing ok i (suc n) = cond (ok i) (first_failing ok (i + 1) n) (Some i)
