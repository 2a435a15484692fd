-- What a waiting list was lent.
use Rattle.std.specs.Prelude.{List}
use Rattle.std.specs.Borrow.{GName}
use Rattle.waiting.specs.declared.WaitingList.{WaitingList}

-- the records of a list, as they stand
abbrev pub records_of : {R : Type 0} → WaitingList R → List R
records_of l = l.records.now

-- which loan a list holds: while it stays the same, what the list leaves is what the lender finds
abbrev pub loan_of : {R : Type 0} → WaitingList R → GName
loan_of l = l.records.ghost_name
