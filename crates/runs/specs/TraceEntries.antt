-- The entries of a trace, by the fields of the journal: kind 2 is a used grant and kind 3 an idle one.
use Rattle.std.specs.Prelude.{ℕ, ◌+◌, Bool, ◌&&◌, ◌||◌, ◌==◌, nat_le, nat_lt, cond, List}
use Rattle.std.specs.Prelude.{[], ◌∷◌, ◌++◌, length, filter, Option, Some, None, is_ok}
use Rattle.journal.specs.declared.fields.Fields.{Fields}
use Rattle.rig.specs.Calls.{PlanCall, release}
use Rattle.rig.specs.Replies.{entry_of}
use Rattle.runs.specs.Traces.{Exchange}

-- an entry, if there is one, before others
abbrev pub entry_before : Option Fields → List Fields → List Fields
entry_before None es = es
entry_before (Some e) es = e ∷ es

-- the entries of some calls, in order: one for each slot that passed
unfoldable pub entries : List Exchange → List Fields
entries [] = []
entries (x ∷ xs) = entry_before (entry_of x.answer) (entries xs)

-- how many slots passed in some calls
abbrev pub slots_passed : List Exchange → ℕ
slots_passed xs = length (entries xs)

-- an entry is of a slot from a to before b
abbrev pub is_between : ℕ → ℕ → Fields → Bool
is_between a b e = nat_le a e.slot && nat_lt e.slot b

-- the entries of the slots from a to before b
abbrev pub entries_between : ℕ → ℕ → List Exchange → List Fields
entries_between a b xs = filter (is_between a b) (entries xs)

-- an entry is a used grant to guest g
abbrev pub is_use : ℕ → Fields → Bool
is_use g e = e.kind == 2 && e.guest == g

-- an entry is an idle grant to guest g
abbrev pub is_idle : ℕ → Fields → Bool
is_idle g e = e.kind == 3 && e.guest == g

-- an entry is a grant to guest g, used or idle
abbrev pub is_grant : ℕ → Fields → Bool
is_grant g e = (e.kind == 2 || e.kind == 3) && e.guest == g

-- an entry is a use by task k of guest g
abbrev pub is_use_by : ℕ → ℕ → Fields → Bool
is_use_by g k e = is_use g e && e.item == k

-- the entries of grants to guest g
abbrev pub grants_among : ℕ → List Fields → List Fields
grants_among g es = filter (is_grant g) es

-- how many operations a job of task k of guest g has after an accepted call, if it had n
abbrev pub size_by : ℕ → ℕ → ℕ → PlanCall → ℕ
size_by g k n (release h l m) = cond (h == g && l == k) m n
size_by g k n _ = n

-- how many operations a job of task k of guest g has after one call more, if it had n
abbrev pub size_after : ℕ → ℕ → ℕ → Exchange → ℕ
size_after g k n x = cond (is_ok x.answer) (size_by g k n x.call) n

-- how many operations the latest job that task k of guest g released in some calls has, or n if it released none
unfoldable pub latest_size : ℕ → ℕ → ℕ → List Exchange → ℕ
latest_size g k n [] = n
latest_size g k n (x ∷ xs) = latest_size g k (size_after g k n x) xs

-- 1 if an entry, if there is one, finishes a job of guest g: it is the use of its last operation,
-- by the size of the latest job that its task released in the calls before; else 0
abbrev pub finishes : ℕ → List Exchange → Option Fields → ℕ
finishes g before None = 0
finishes g before (Some e) = cond (is_use g e && e.position == latest_size g e.item 0 before) 1 0

-- how many jobs of guest g are finished in some calls that come after others
unfoldable pub finished_after : ℕ → List Exchange → List Exchange → ℕ
finished_after g before [] = 0
finished_after g before (x ∷ xs) = finishes g before (entry_of x.answer) + finished_after g (before ++ x ∷ []) xs

-- how many jobs of guest g are finished in some calls
abbrev pub finished_in : ℕ → List Exchange → ℕ
finished_in g xs = finished_after g [] xs
