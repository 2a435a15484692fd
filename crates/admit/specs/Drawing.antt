-- A timetable as lines of marks.
use Rattle.std.specs.Prelude.{ℕ, ◌+◌, ◌-◌, ◌*◌, ◌%◌, min, max, ◌==◌, List, ◌++◌, length, map, fold}
use Rattle.std.specs.Prelude.{slice_range, codes, decimal, encode_utf8, slice_index_or, if◌then◌else◌}
use Rattle.std.specs.List.{flat_map, range_with_len, repeat}
use Rattle.std.specs.Int.{div_ceil}
use Rattle.setups.specs.declared.setup.Guest.{Guest}
use Rattle.setups.specs.Plan.{Plan, guest_at}
use Rattle.schedule.specs.declared.turn.Turn.{Turn}
use Rattle.schedule.specs.declared.turn.Turn.TheVariants.{Unassigned, Fixed, Granted}
use Rattle.schedule.specs.ServerSlot.{byte_at}
use Rattle.admit.specs.declared.drawing.TheConstants.{LINE_SLOTS}

-- the mark of a table byte: a dot where it is free, A to Z and then a to f of fixed operations 1 to 32,
-- and a question mark past them
abbrev pub byte_mark : ℕ → ℕ
byte_mark p = slice_index_or (codes ".ABCDEFGHIJKLMNOPQRSTUVWXYZabcdef") p 63

-- the mark of a guest: 1 to 9 and then g to m of guests 1 to 16, and a question mark where there is no such guest
abbrev pub guest_mark : ℕ → ℕ
guest_mark g = slice_index_or (codes "?123456789ghijklm") g 63

-- the mark of a turn: of the fixed operation or of the guest, and a dot where it is nobody's
abbrev pub turn_mark : Turn → ℕ
turn_mark Unassigned = 46
turn_mark (Fixed p) = byte_mark p
turn_mark (Granted g) = guest_mark g

-- the mark of a slot for a guest of this period: a bar where a period starts, else a dot
abbrev pub period_mark : ℕ → ℕ → ℕ
period_mark period s = if s % period == 0 then 124 else 46

-- so many slots from a slot on, each with its mark
abbrev pub marks : (ℕ → ℕ) → ℕ → ℕ → List ℕ
marks mark a n = flat_map (λ s. encode_utf8 (mark s)) (range_with_len a n)

-- the row of a table, from slot a for n slots
abbrev pub table_row : List ℕ → ℕ → ℕ → List ℕ
table_row table a n = marks (λ s. byte_mark (byte_at table s)) a n

-- the row of a guest's period starts, from slot a for n slots
abbrev pub period_row : ℕ → ℕ → ℕ → List ℕ
period_row period a n = marks (period_mark period) a n

-- the row of some turns
abbrev pub turn_row : List Turn → List ℕ
turn_row turns = flat_map (λ t. encode_utf8 (turn_mark t)) turns

-- a number, and spaces after it up to a width of 4
abbrev pub wide_decimal : ℕ → List ℕ
wide_decimal n = decimal n ++ repeat (4 - length (decimal n)) (codes " ")

-- the line of the guest at place i of a list: its number, counted from 1, and its row
abbrev pub guest_line : List Guest → ℕ → ℕ → ℕ → List ℕ
guest_line gs a n i =
    codes "  guest " ++ (wide_decimal (i + 1) ++ (period_row (guest_at gs i).period a n ++ codes "\n"))

-- one line for each guest
abbrev pub guest_lines : List Guest → ℕ → ℕ → List ℕ
guest_lines gs a n = flat_map (guest_line gs a n) (range_with_len 0 (length gs))

-- the lines of some turns, which are those of the n slots from slot a on: which slots they are, then the rows
abbrev pub block_text : List ℕ → List Guest → List Turn → ℕ → ℕ → List ℕ
block_text table gs turns a n =
    codes "  slots "
    ++ (decimal a ++ (codes " to " ++ (decimal (a + n - 1) ++ (codes "\n  table     " ++ (table_row table a n
    ++ (codes "\n  turns     " ++ (turn_row turns ++ (codes "\n" ++ guest_lines gs a n))))))))

-- the lines of block b of a drawing, of the 80 slots from 80 b on or, at the end, of those that are left
abbrev pub block_at : List ℕ → List Guest → List Turn → ℕ → List ℕ
block_at table gs turns b =
    let a = b * LINE_SLOTS in
    let end = min (a + LINE_SLOTS) (length turns) in
    block_text table gs (slice_range turns a end) a (end - a)

-- the lines of all blocks of some turns, which are those from slot 0 on
abbrev pub drawing_text : List ℕ → List Guest → List Turn → List ℕ
drawing_text table gs turns = flat_map (block_at table gs turns) (range_with_len 0 (div_ceil (length turns) LINE_SLOTS))

-- how many slots a drawing covers: as many as the slot table, or as the longest period of a guest if that is longer
abbrev pub covered_slots : Plan → ℕ
covered_slots p = fold max (length p.table) (map (λ g. g.period) p.guests)
