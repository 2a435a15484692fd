-- What is printed of one block.
use Rattle.std.specs.Prelude.{◌≡◌, ℕ, ◌*◌, List, [], ◌++◌, take, Some, Ok, Err, codes, decimal, Result}
use Rattle.std.specs.List.{flat_map}
use Rattle.decline.specs.declared.Decline.{Decline}
use Rattle.decline.specs.Refusals.{by_numbers, refusal_text, sentence_text}
use Rattle.journal.specs.declared.entries.Entry.{Entry}
use Rattle.journal.specs.declared.blocks.Heading.{Heading}
use Rattle.journal.specs.declared.layout.TheConstants.{BLOCK_BYTES}
use Rattle.journal.specs.WriteRead.{block_read_answer, places_after}
use Rattle.journal.specs.Text.{entry_text}
use Rattle.inspect.specs.declared.report.BlockReport.{BlockReport}
use Rattle.inspect.specs.declared.counts.Counts.{Counts}
use Rattle.inspect.specs.BlockCounts.{count_block}

-- the line of an entry, two spaces in
abbrev pub entry_line : Entry → List ℕ
entry_line e = codes "  " ++ (entry_text e ++ codes "\n")

-- one line for each entry
abbrev pub entry_lines : List Entry → List ℕ
entry_lines es = flat_map entry_line es

-- the entries that are listed of a block: those below its count, and none of a block that is refused
abbrev pub listed_entries : Result Heading Decline → List Entry → List Entry
listed_entries (Ok h) places = take h.count places
listed_entries (Err d) places = []

-- a block that reads well: its number and count, and its entries; one that is refused: where it begins,
-- the refusal and the sentence
abbrev pub report_text : ℕ → Result Heading Decline → List Entry → List ℕ
report_text at (Ok h) es =
    codes "block " ++ (decimal h.number ++ (codes ": " ++ (decimal h.count ++ (codes " entries\n" ++ entry_lines es))))
report_text at (Err d) es =
    codes "block at byte "
    ++ (decimal at ++ (codes ": " ++ (refusal_text d ++ (codes ": " ++ (sentence_text d ++ codes "\n")))))

-- the report of a block after others that were counted, and the counts with it: where it begins,
-- what reading it answers, and its entries
pub record IsReport (before : Counts) (block : List ℕ) (places : List Entry) (report : BlockReport)
    (after : Counts) : Type 0 where
  pub at : report.at ≡ BLOCK_BYTES * before.blocks
  pub answer : by_numbers report.answer ≡ block_read_answer block places
  pub entries : report.entries.now ≡ listed_entries report.answer (places_after block places)
  pub counts : count_block before report.answer ≡ Some after
