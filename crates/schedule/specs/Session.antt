-- A session, slot by slot.
use Rattle.std.specs.Prelude.{◌≡◌, ℕ, zero, suc, ◌+◌, ◌<◌, ◌≤◌, nat_lt, List, length}
use Rattle.std.specs.Prelude.{map, slice_index, Result, Ok, Err, if◌then◌else◌}
use Rattle.std.specs.List.{range_with_len, All}
use Rattle.decline.specs.declared.Decline.TheVariants.{SessionEnd}
use Rattle.decline.specs.declared.DeclineNumbers.{DeclineNumbers}
use Rattle.decline.specs.Refusals.{numbers_of}
use Rattle.setups.specs.declared.setup.Guest.{Guest}
use Rattle.setups.specs.Plan.{Plan, guest_at}
use Rattle.setups.specs.Limits.{ServerOk}
use Rattle.admission.specs.Verdict.{Accepted, Declined}
use Rattle.setups.specs.declared.limits.TheConstants.{MOST_GUESTS, MOST_SLOTS}
use Rattle.schedule.specs.declared.server.Server.{Server}
use Rattle.schedule.specs.declared.turn.Turn.{Turn}
use Rattle.schedule.specs.declared.turn.Turn.TheVariants.{Unassigned, Fixed, Granted}
use Rattle.schedule.specs.ServerSlot.{turn_of, after_slot, server_at}

-- the server at place i at the start of a session: guest i + 1, with nothing left and the boundary 0
abbrev pub server_at_start : ℕ → Server
server_at_start i = record { guest = i + 1; left = 0; boundary = 0 }

-- the first n servers at the start
abbrev pub servers_at_start : ℕ → List Server
servers_at_start n = map server_at_start (range_with_len 0 n)

-- the servers when n slots have passed
unfoldable pub servers_after : List ℕ → List Guest → ℕ → List Server
servers_after table gs zero = servers_at_start (length gs)
servers_after table gs (suc n) = after_slot table gs n (servers_after table gs n)

-- whose turn slot s of a session is
abbrev pub turn_at : List ℕ → List Guest → ℕ → Turn
turn_at table gs s = turn_of table gs s (servers_after table gs s)

-- fixed operation p, from 1, is named by a byte of the table
pub record IsNamedByByte (table : List ℕ) (p : ℕ) : Type 0 where
  pub some : 1 ≤ p
  pub place : ℕ
  pub within : place < length table
  pub named : slice_index table place ≡ p

-- a turn is that of a fixed operation that the table names, or of one of the guests, or nobody's
abbrev pub IsTurnOf : List ℕ → List Guest → Turn → Type 0
IsTurnOf table gs Unassigned = Unit {0}
IsTurnOf table gs (Fixed p) = IsNamedByByte table p
IsTurnOf table gs (Granted g) = (1 ≤ g) × (g ≤ length gs)

-- a session under way
pub record Session : Type 0 where
  -- how many slots it has
  pub slots : ℕ
  -- its slot table and its guests, by which its turns go
  pub table : List ℕ
  pub guests : List Guest
  -- how many of its slots have passed
  pub passed : ℕ

-- the session of a plan when n slots have passed
abbrev pub session_after : Plan → ℕ → Session
session_after p n = record { slots = p.session; table = p.table; guests = p.guests; passed = n }

-- table, guests and session keep their limits, and no more slots have passed than the session has
pub record LimitsInvariant (slots : ℕ) (table : List ℕ) (guests : List Guest) (passed : ℕ) : Type 0 where
  pub bytes : 0 < length table
  pub few : length guests ≤ MOST_GUESTS
  pub servers : All ServerOk guests
  pub short : slots ≤ MOST_SLOTS
  pub begun : passed ≤ slots

-- these are the servers when so many slots have passed, and of no budget is more left than the budget
pub record ServersInvariant (table : List ℕ) (guests : List Guest) (passed : ℕ) (servers : List Server) : Type 0 where
  pub by_rule : servers ≡ servers_after table guests passed
  pub within_budget : (i : ℕ) → i < length guests → (server_at servers i).left ≤ (guest_at guests i).budget

-- what comes of making servers from a setup on a device of some registers: it is accepted,
-- and its session is before its first slot, or it is declined by these three numbers
abbrev pub IsStart : Plan → ℕ → Result Session DeclineNumbers → Type 0
IsStart p registers (Ok s) = Accepted p registers × (s ≡ session_after p 0)
IsStart p registers (Err m) = Declined p registers m

-- what passing a slot answers: whose turn it is, or a refusal where all slots have passed
abbrev pub pass_answer : Session → Result Turn DeclineNumbers
pass_answer s = if nat_lt s.passed s.slots then Ok (turn_at s.table s.guests s.passed) else Err (numbers_of SessionEnd)

-- the session after passing a slot: one slot more has passed, or where all have, no change
abbrev pub after_pass : Session → Session
after_pass s = if nat_lt s.passed s.slots then record s { passed = s.passed + 1 } else s
