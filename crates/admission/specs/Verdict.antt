-- The verdict on a setup: accepted if the ten rules hold, else the refusal of the first that fails, at its first place.
use Rattle.std.specs.Prelude.{◌≡◌, ℕ, ◌+◌, ◌-◌, ◌<◌, ◌⊎◌, List, length, Ok, Err, Result, MatchResult}
use Rattle.std.specs.List.{All}
use Rattle.decline.specs.declared.Part.TheVariants.{Registers, Session, Table, FixedOperations, Guests, Tasks}
use Rattle.decline.specs.declared.Part.TheVariants.{Operations}
use Rattle.decline.specs.declared.Decline.{Decline}
use Rattle.decline.specs.declared.Decline.TheVariants.{SetupLimits, TableByte, ServerLimits, GuestWindow, TaskLimits}
use Rattle.decline.specs.declared.Decline.TheVariants.{OperationRegister, LinkSpare, LinkDemand, GuestSpare}
use Rattle.decline.specs.declared.Decline.TheVariants.{GuestDemand}
use Rattle.decline.specs.declared.DeclineNumbers.{DeclineNumbers}
use Rattle.decline.specs.Refusals.{numbers_of, by_numbers}
use Rattle.setups.specs.declared.setup.Operation.{Operation}
use Rattle.setups.specs.declared.setup.Guest.{Guest}
use Rattle.setups.specs.declared.setup.Task.{Task}
use Rattle.setups.specs.Plan.{Plan, guest_at, task_start, operation_start, OwnsPlace}
use Rattle.setups.specs.Demand.{LinkHasSpare, LinkServedAt, LinkServed, GuestHasSpare, GuestServedAt, GuestServed}
use Rattle.setups.specs.Limits.{RegistersOk, SessionOk, TableSizeOk, FixedSizeOk, GuestsSizeOk, TasksAgree}
use Rattle.setups.specs.Limits.{OperationsAgree, SizesOk, ByteOk, BytesOk, ServerOk, WindowOk, WindowsOk, TaskOk}
use Rattle.setups.specs.Limits.{TaskOkAt, FixedOk, FixedsOk, InsideAt, OperationsOk}

-- the numbers are of the first rule that fails, of one rule and later ones: it refuses by them, or it holds and a later
-- one refuses by them
abbrev pub FirstFailingRule
    : Type 0 → (DeclineNumbers → Type 0) → (DeclineNumbers → Type 0) → DeclineNumbers → Type 0
FirstFailingRule holds fault later m = fault m ⊎ (holds × later m)

-- a rule that has only this refusal refuses: the numbers are of that refusal, and the rule does not hold
abbrev pub OnlyRefusal : Type 0 → Decline → DeclineNumbers → Type 0
OnlyRefusal holds d m = (m ≡ numbers_of d) × (holds → ⊥)

-- i is the first failing place: the first at which something does not hold
pub record FirstFailing (holds : ℕ → Type 0) (i : ℕ) : Type 0 where
  pub broken : holds i → ⊥
  pub before : (k : ℕ) → k < i → holds k

-- of the places that guests own in a list, j is the first failing one, and guest i owns it
pub record FirstFailingOwned (guests : ℕ) (start : ℕ → ℕ) (holds : ℕ → ℕ → Type 0) (i j : ℕ) : Type 0 where
  pub guest : i < guests
  pub owned : OwnsPlace start i j
  pub broken : holds i j → ⊥
  pub before : (k l : ℕ) → k < guests → OwnsPlace start k l → l < j → holds k l

-- the test of a rule decides it: it answers that the rule holds, or declines by the numbers of a fault of the rule
abbrev pub Decides : Result (Unit {0}) Decline → Type 0 → (DeclineNumbers → Type 0) → Type 0
Decides result holds fault = MatchResult (by_numbers result) (λ x. holds) fault

-- refusals 1: the first part that breaks a limit or disagrees
abbrev pub SizesFault : Plan → ℕ → DeclineNumbers → Type 0
SizesFault p n =
    FirstFailingRule (RegistersOk n) (OnlyRefusal (RegistersOk n) (SetupLimits Registers))
    (FirstFailingRule (SessionOk p) (OnlyRefusal (SessionOk p) (SetupLimits Session))
    (FirstFailingRule (TableSizeOk p.table) (OnlyRefusal (TableSizeOk p.table) (SetupLimits Table))
    (FirstFailingRule (FixedSizeOk p) (OnlyRefusal (FixedSizeOk p) (SetupLimits FixedOperations))
    (FirstFailingRule (GuestsSizeOk p.guests) (OnlyRefusal (GuestsSizeOk p.guests) (SetupLimits Guests))
    (FirstFailingRule (TasksAgree p) (OnlyRefusal (TasksAgree p) (SetupLimits Tasks))
    (OnlyRefusal (OperationsAgree p) (SetupLimits Operations)))))))

-- refusals 2: the first table byte that names no fixed operation
abbrev pub BytesFault : List ℕ → ℕ → DeclineNumbers → Type 0
BytesFault table fixed m =
    (i : ℕ) × (m ≡ numbers_of (TableByte i)) × (i < length table) × FirstFailing (ByteOk table fixed) i

-- the server of guest i keeps its limits
abbrev pub ServerOkAt : List Guest → ℕ → Type 0
ServerOkAt gs i = ServerOk (guest_at gs i)

-- refusals 3: the first guest whose server breaks its limits
abbrev pub ServersFault : List Guest → DeclineNumbers → Type 0
ServersFault gs m =
    (i : ℕ) × (m ≡ numbers_of (ServerLimits (i + 1))) × (i < length gs) × FirstFailing (ServerOkAt gs) i

-- refusals 4: the first guest whose window is empty, past the device or meets an earlier one
abbrev pub WindowsFault : ℕ → List Guest → DeclineNumbers → Type 0
WindowsFault n gs m =
    (i : ℕ) × (m ≡ numbers_of (GuestWindow (i + 1))) × (i < length gs) × FirstFailing (WindowOk n gs) i

-- refusals 5: the first task that breaks its limits, by its guest and its number there
abbrev pub TasksFault : List Guest → List Task → DeclineNumbers → Type 0
TasksFault gs ks m =
    (i j : ℕ) × (m ≡ numbers_of (TaskLimits (i + 1) (j - task_start gs i + 1)))
    × FirstFailingOwned (length gs) (task_start gs) (TaskOkAt ks) i j

-- refusals 6 of fixed operations: the first that uses a register past the device
abbrev pub FixedFault : List Operation → ℕ → DeclineNumbers → Type 0
FixedFault fixed n m =
    (i : ℕ) × (m ≡ numbers_of (OperationRegister 0 (i + 1))) × (i < length fixed) × FirstFailing (FixedOk fixed n) i

-- refusals 6 of the guests' operations: the first that is outside its guest's window, by its guest and its place in
-- part 6
abbrev pub OperationsFault : List Guest → List Task → List Operation → DeclineNumbers → Type 0
OperationsFault gs ks os m =
    (i q : ℕ) × (m ≡ numbers_of (OperationRegister (i + 1) (q + 1)))
    × FirstFailingOwned (length gs) (operation_start gs ks) (InsideAt gs os) i q

-- refusals 8: the least number of slots in which the servers need more than the table leaves free
abbrev pub LinkFault : List ℕ → List Guest → DeclineNumbers → Type 0
LinkFault table gs m = (t : ℕ) × (m ≡ numbers_of (LinkDemand t)) × FirstFailing (LinkServedAt table gs) t

-- refusals 9: the first guest whose tasks do not leave the spare
abbrev pub SparesFault : List Guest → List Task → DeclineNumbers → Type 0
SparesFault gs ks m =
    (i : ℕ) × (m ≡ numbers_of (GuestSpare (i + 1))) × (i < length gs) × FirstFailing (GuestHasSpare gs ks) i

-- refusals 10: the first guest that is not served, and the least number of slots in which its tasks need more than its
-- server gives
abbrev pub GuestsFault : List Guest → List Task → DeclineNumbers → Type 0
GuestsFault gs ks m =
    (i t : ℕ) × (m ≡ numbers_of (GuestDemand (i + 1) t)) × (i < length gs) × ((k : ℕ) → k < i → GuestServed gs ks k)
    × FirstFailing (GuestServedAt gs ks i) t

-- rule 9: the tasks of each guest leave the spare
abbrev pub GuestsHaveSpare : List Guest → List Task → Type 0
GuestsHaveSpare gs ks = (i : ℕ) → i < length gs → GuestHasSpare gs ks i

-- rule 10: each guest is served
abbrev pub GuestsServed : List Guest → List Task → Type 0
GuestsServed gs ks = (i : ℕ) → i < length gs → GuestServed gs ks i

-- a plan is well-formed on a device of some registers: rules 1 to 6 hold
pub record WellFormed (p : Plan) (registers : ℕ) : Type 0 where
  pub sizes : SizesOk p registers
  pub bytes : BytesOk p.table (length p.fixed)
  pub servers : All ServerOk p.guests
  pub windows : WindowsOk registers p.guests
  pub tasks : All TaskOk p.tasks
  pub fixed : FixedsOk p.fixed registers
  pub operations : OperationsOk p.guests p.tasks p.operations

-- a plan is schedulable: rules 7 to 10 hold. Link and guests have the spare, and demand is at most supply in any number
-- of slots
pub record Schedulable (p : Plan) : Type 0 where
  pub link_spare : LinkHasSpare p.table p.guests
  pub link : LinkServed p.table p.guests
  pub guest_spares : GuestsHaveSpare p.guests p.tasks
  pub guests : GuestsServed p.guests p.tasks

-- a plan is accepted: it is well-formed and schedulable
pub record Accepted (p : Plan) (registers : ℕ) : Type 0 where
  pub form : WellFormed p registers
  pub schedulable : Schedulable p

-- why a plan is not schedulable: the first rule of 7 to 10 that fails, at its first place
abbrev pub ScheduleFault : Plan → DeclineNumbers → Type 0
ScheduleFault p =
    FirstFailingRule (LinkHasSpare p.table p.guests) (OnlyRefusal (LinkHasSpare p.table p.guests) LinkSpare)
    (FirstFailingRule (LinkServed p.table p.guests) (LinkFault p.table p.guests)
    (FirstFailingRule (GuestsHaveSpare p.guests p.tasks) (SparesFault p.guests p.tasks)
    (GuestsFault p.guests p.tasks)))

-- a plan is declined by these three numbers: they are of the first rule that fails, at its first place
abbrev pub Declined : Plan → ℕ → DeclineNumbers → Type 0
Declined p n =
    FirstFailingRule (SizesOk p n) (SizesFault p n)
    (FirstFailingRule (BytesOk p.table (length p.fixed)) (BytesFault p.table (length p.fixed))
    (FirstFailingRule (All ServerOk p.guests) (ServersFault p.guests)
    (FirstFailingRule (WindowsOk n p.guests) (WindowsFault n p.guests)
    (FirstFailingRule (All TaskOk p.tasks) (TasksFault p.guests p.tasks)
    (FirstFailingRule (FixedsOk p.fixed n) (FixedFault p.fixed n)
    (FirstFailingRule (OperationsOk p.guests p.tasks p.operations) (OperationsFault p.guests p.tasks p.operations)
    (ScheduleFault p)))))))

-- what `judge` answers of a plan: that it is accepted, or by which three numbers it is declined
abbrev pub IsVerdict : Plan → ℕ → Result (Unit {0}) DeclineNumbers → Type 0
IsVerdict p n (Ok x) = Accepted p n
IsVerdict p n (Err m) = Declined p n m
