-- One slot: what it brings the servers, whose turn it is, and what it leaves them.
use Rattle.std.specs.Prelude.{ℕ, ◌+◌, ◌-◌, ◌%◌, Bool, cond, nat_lt, ◌==◌, List, length}
use Rattle.std.specs.Prelude.{map, slice_index, slice_index_or, Option, Some, None}
use Rattle.std.specs.List.{range_with_len}
use Rattle.setups.specs.declared.setup.Guest.{Guest}
use Rattle.setups.specs.Plan.{guest_at}
use Rattle.setups.specs.Supply.{free?}
use Rattle.waiting.specs.declared.Rank.{Rank}
use Rattle.waiting.specs.Earliest.{earliest}
use Rattle.waiting.specs.Change.{with_change}
use Rattle.schedule.specs.declared.server.Server.{Server}
use Rattle.schedule.specs.declared.turn.Turn.{Turn}
use Rattle.schedule.specs.declared.turn.Turn.TheVariants.{Unassigned, Fixed, Granted}

-- a server waits for a slot while it has budget left
abbrev pub has_budget : Server → Bool
has_budget v = nat_lt 0 v.left

-- servers rank by their boundary, and then by the number of their guest
abbrev pub server_rank : Server → Rank
server_rank v = record { first = v.boundary; second = v.guest }

-- the server of a guest at slot s: where a period starts it has its whole budget, and the next boundary,
-- whatever was left
abbrev pub with_refill : ℕ → Guest → Server → Server
with_refill s g v = cond (s % g.period == 0) (record { guest = v.guest; left = g.budget; boundary = s + g.period }) v

-- what stands past the end of a list of servers; it plays no part
abbrev pub no_server : Server
no_server = record { guest = 0; left = 0; boundary = 0 }

-- the server at a place of a list
abbrev pub server_at : List Server → ℕ → Server
server_at vs i = slice_index_or vs i no_server

-- the servers at slot s, each with its refill
unfoldable pub with_refills : ℕ → List Guest → List Server → List Server
with_refills s gs vs = map (λ i. with_refill s (guest_at gs i) (server_at vs i)) (range_with_len 0 (length gs))

-- the place of the server that goes first: of those with budget left the one with the nearest boundary,
-- and of equal boundaries the least guest
abbrev pub first_server : List Server → Option ℕ
first_server vs = earliest has_budget server_rank vs

-- a server after a grant: one slot less is left
abbrev pub with_less : Server → Server
with_less v = record { guest = v.guest; left = v.left - 1; boundary = v.boundary }

-- the servers after a grant to the one that goes first, if any
abbrev pub with_grant : List Server → List Server
with_grant vs = with_change with_less vs (first_server vs)

-- the table byte of slot s
abbrev pub byte_at : List ℕ → ℕ → ℕ
byte_at table s = slice_index table (s % length table)

-- whose turn a free slot is, by the place of the server that goes first; guests are numbered from 1
abbrev pub free_turn : Option ℕ → Turn
free_turn None = Unassigned
free_turn (Some i) = Granted (i + 1)

-- whose turn slot s is: the fixed operation that its table byte names,
-- or the guest of the server that goes first after the refills, or nobody's
abbrev pub turn_of : List ℕ → List Guest → ℕ → List Server → Turn
turn_of table gs s vs =
    let p = byte_at table s in
    cond (free? p) (free_turn (first_server (with_refills s gs vs))) (Fixed p)

-- the servers after slot s
abbrev pub after_slot : List ℕ → List Guest → ℕ → List Server → List Server
after_slot table gs s vs = let ws = with_refills s gs vs in cond (free? (byte_at table s)) (with_grant ws) ws
