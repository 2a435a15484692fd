-- What the slot table leaves free: F, and S(t) for every number t of slots, the supply bound function of the table.
use Rattle.std.specs.Prelude.{◌≡◌, ℕ, zero, suc, ◌+◌, ◌-◌, ◌%◌, ◌≤◌, min, Bool, cond, List, length, count_by, ◌==◌}
use Rattle.std.specs.Prelude.{slice_index}

-- a table byte is free if it is 0
abbrev pub free? : ℕ → Bool
free? b = b == 0

-- F, the number of free bytes of the table
abbrev pub free_bytes : List ℕ → ℕ
free_bytes table = count_by free? table

-- 1 if slot s is free, else 0: slot s uses byte s mod H
abbrev pub slot_free : List ℕ → ℕ → ℕ
slot_free table s = cond (free? (slice_index table (s % length table))) 1 0

-- the number of free slots among the t successive slots from slot s on, a window of t slots
unfoldable pub window_free : List ℕ → ℕ → ℕ → ℕ
window_free table s zero = 0
window_free table s (suc t) = window_free table s t + slot_free table (s + t)

-- the least number of free slots among the windows of t slots that start at slots 0 to n
unfoldable pub least_to : List ℕ → ℕ → ℕ → ℕ
least_to table t zero = window_free table 0 t
least_to table t (suc n) = min (least_to table t n) (window_free table (suc n) t)

-- S(t), the least number of free slots among any t successive slots, the supply bound function of the table: the
-- windows that start in the first H slots stand for all
unfoldable pub supply : List ℕ → ℕ → ℕ
supply table t = least_to table t (length table - 1)

-- n is the least number of free slots in t successive slots: no window of t has fewer, and one has as many
pub record Least (table : List ℕ) (t n : ℕ) : Type 0 where
  pub lower : (s : ℕ) → n ≤ window_free table s t
  pub attained : (s : ℕ) × (window_free table s t ≡ n)
