-- What a grant does to the servers: it is one unit of work of the one that goes first.
use Rattle.std.proofs.Common.{◌≡◌, refl, ap, ℕ, suc, ◌+◌, ◌-◌, ◌<◌, false, cond, arith}
use Rattle.std.proofs.Common.{List, length, Option, Some, None}
use Rattle.std.proofs.lemmas.Grind.{common_steps}
use Rattle.deadlines.specs.Course.{StreamState, with_unit, Serves}
use Rattle.deadlines.proofs.OneAtATime.{Servable, names_place, ServedBy, EarlierFirst, WaitForWork}
use Rattle.deadlines.proofs.OneAtATime.{work_served, serves_earliest}
use Rattle.schedule.specs.declared.server.Server.{Server}
use Rattle.schedule.specs.declared.turn.Turn.{Turn}
use Rattle.schedule.specs.ServerSlot.{has_budget, server_rank, server_at, no_server}
use Rattle.schedule.specs.ServerSlot.{first_server, with_less, with_grant, free_turn}
use Rattle.schedule.specs.Turns.{is_granted}
use Rattle.schedule.proofs.Waiting.{by_rank, served_by_earliest}

-- 1 if a turn is granted to guest g, else 0
abbrev pub grant_count : ℕ → Turn → ℕ
grant_count g t = cond (is_granted g t) 1 0

-- a server that does not wait has nothing left
pub nothing_left : (v : Server) → has_budget v ≡ false → v.left ≡ 0
nothing_left v idle = grind (arith, common_steps)

-- a server as a stream: what is left of its budget is due at its boundary, where the next budget comes
abbrev pub stream_of : Server → StreamState
stream_of v = record { work = v.left; deadline = v.boundary; allowed = v.boundary }

-- one slot of a budget is one unit of its work
pub one_slot_less : (v : Server) → 0 < v.left → stream_of v ≡ with_unit (stream_of (with_less v))
one_slot_less v some =
    let less : v.left ≡ suc (v.left - 1) = omega (arith, some) in
    ap (λ n. stream_of (record v { left = n })) less

-- servers can be served
abbrev pub servers : Servable Server
servers = record {
  waits = has_budget;
  stream = stream_of;
  serve = with_less;
  past_end = no_server;
  idle = nothing_left;
  one_less = one_slot_less;
}

-- an earlier boundary goes first
earlier_first : EarlierFirst servers (by_rank server_rank)
earlier_first v w sooner = grind (arith, common_steps)

-- a grant goes to the server that goes first, or changes nothing where none has budget left
pub granted_by_first : (vs : List Server) → ServedBy servers vs (first_server vs) (with_grant vs)
granted_by_first vs = served_by_earliest servers server_rank vs earlier_first

-- a free slot is granted to the guest of the server that is named
count_named : (r : Option ℕ) (k : ℕ) → grant_count (k + 1) (free_turn r) ≡ names_place r k
count_named None k = refl
count_named (Some p) k = grind (arith, common_steps)

module _ (vs : List Server) where
  -- a server waits for what is left of its budget
  wait_for_budget : WaitForWork servers (length vs) vs
  wait_for_budget k l waits = (l, grind (arith, common_steps))

  -- after a grant a server has as many slots less as the grant says: one, if the turn is its guest's
  pub left_granted : (k : ℕ)
      → (server_at (with_grant vs) k).left + grant_count (k + 1) (free_turn (first_server vs)) ≡ (server_at vs k).left
  left_granted k =
      omega (
        arith,
        count_named (first_server vs) k,
        work_served servers (length vs) vs wait_for_budget (first_server vs) (with_grant vs) (granted_by_first vs) k,
      )

  -- a grant serves the servers the nearest boundary first
  pub granted_serves :
      let ws = with_grant vs in
      Serves (length vs) 1 (λ k. stream_of (server_at vs k)) (λ k. stream_of (server_at ws k))
  granted_serves =
      serves_earliest servers (length vs) vs wait_for_budget (omega arith) (first_server vs) (with_grant vs)
      (granted_by_first vs)
