-- What is counted of a journal.
use Rattle.std.specs.Prelude.{◌≡◌, ℕ, ◌+◌, ◌*◌, ◌^◌, ◌≤◌, ◌⊎◌, cond, ◌&&◌, List, ◌++◌, Some}
use Rattle.std.specs.Prelude.{None, Ok, Err, codes, decimal, Option, Result, nat_lt}
use Rattle.journal.specs.declared.blocks.Heading.{Heading}
use Rattle.journal.specs.declared.layout.TheConstants.{BLOCK_BYTES}
use Rattle.inspect.specs.declared.counts.Counts.{Counts}

-- the counts, if each fits 64 bits
abbrev pub if_fits : Counts → Option Counts
if_fits c =
    cond (nat_lt c.blocks (2 ^ 64) && (nat_lt c.entries (2 ^ 64) && nat_lt c.refused (2 ^ 64))) (Some c) None

-- the counts after one block more, by what reading it answers: each block counts, with its entries or as refused
abbrev pub count_block : {X : Type 0} → Counts → Result Heading X → Option Counts
count_block c (Ok h) = if_fits (record { blocks = c.blocks + 1; entries = c.entries + h.count; refused = c.refused })
count_block c (Err d) = if_fits (record { blocks = c.blocks + 1; entries = c.entries; refused = c.refused + 1 })

-- a block more is past counting: it begins past 64 bits, or a count with it would not fit them
abbrev pub PastCounting : {X : Type 0} → Counts → Result Heading X → Type 0
PastCounting c answer = (2 ^ 64 ≤ BLOCK_BYTES * c.blocks) ⊎ (count_block c answer ≡ None)

-- `K blocks, E entries, R refused`
abbrev pub counts_text : Counts → List ℕ
counts_text c =
    decimal c.blocks
    ++ (codes " blocks, " ++ (decimal c.entries ++ (codes " entries, " ++ (decimal c.refused ++ codes " refused"))))
