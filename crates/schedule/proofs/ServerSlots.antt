-- The servers of a session, slot by slot.
use Rattle.std.proofs.Common.{◌≡◌, refl, ap, ◌∙◌, ℕ, suc, ◌+◌, ◌%◌, ◌<◌, ◌≤◌, ◌==◌, arith}
use Rattle.std.proofs.Common.{Bool, true, false, cond, List, length, subst}
use Rattle.std.proofs.lemmas.Grind.{common_steps}
use Rattle.std.proofs.lemmas.List.FromFn.{length-map-range_with_len, get_or-map-range_with_len}
use Rattle.setups.specs.declared.setup.Guest.{Guest}
use Rattle.setups.specs.Plan.{guest_at}
use Rattle.setups.specs.Supply.{free?, slot_free}
use Rattle.deadlines.specs.Course.{StreamState, Serves, no_slot}
use Rattle.deadlines.proofs.Servers.{empty_server, full_server, in_slot, ServeGuests, granted_in}
use Rattle.schedule.specs.declared.server.Server.{Server}
use Rattle.schedule.specs.declared.turn.Turn.TheVariants.{Fixed}
use Rattle.schedule.specs.ServerSlot.{with_refill, with_refills, no_server, server_at, first_server, with_grant}
use Rattle.schedule.specs.ServerSlot.{byte_at, free_turn, after_slot}
use Rattle.schedule.specs.Session.{server_at_start, servers_after, turn_at}
use Rattle.schedule.proofs.Grants.{grant_count, stream_of, left_granted, granted_serves}

-- there are as many servers after the refills as guests
pub length_refills : (s : ℕ) (gs : List Guest) (vs : List Server) → length (with_refills s gs vs) ≡ length gs
unfolding with_refills
length_refills s gs vs = length-map-range_with_len (λ i. with_refill s (guest_at gs i) (server_at vs i)) 0 (length gs)

-- each has its own refill
refill_at : (s : ℕ) (gs : List Guest) (vs : List Server) (i : ℕ) → i < length gs
    → server_at (with_refills s gs vs) i ≡ with_refill s (guest_at gs i) (server_at vs i)
unfolding with_refills
refill_at s gs vs i l =
    get_or-map-range_with_len (λ k. with_refill s (guest_at gs k) (server_at vs k)) 0 (length gs) i i no_server l
    (omega arith)

-- some servers after a slot that is free or not
abbrev after_turn : Bool → List Server → List Server
after_turn free ws = cond free (with_grant ws) ws

-- and one slot less where the turn is theirs
left_after_turn : (free : Bool) (p : ℕ) (ws : List Server) (k : ℕ)
    → let turn = cond free (free_turn (first_server ws)) (Fixed p) in
    (server_at (after_turn free ws) k).left + grant_count (k + 1) turn ≡ (server_at ws k).left
left_after_turn true p ws k = left_granted ws k
left_after_turn false p ws k = omega arith

-- a slot serves them the nearest boundary first, if it is free
slot_serves : (free : Bool) (ws : List Server)
    → let us = after_turn free ws in
    Serves (length ws) (cond free 1 0) (λ k. stream_of (server_at ws k)) (λ k. stream_of (server_at us k))
slot_serves true ws = granted_serves ws
slot_serves false ws = no_slot refl (λ k l. refl)

-- a refill leaves no more than the budget, where no more was left
refill_within : (s : ℕ) (g : Guest) (v : Server) → v.left ≤ g.budget → (with_refill s g v).left ≤ g.budget
refill_within s g v within = grind (arith, common_steps)

-- the refill of a server is that of its stream
stream_refilled : (s : ℕ) (g : Guest) (v : Server) → stream_of (with_refill s g v) ≡ in_slot g s (stream_of v)
stream_refilled s g v = go (s % g.period == 0)
  where
    go : (b : Bool)
        → stream_of (cond b (record { guest = v.guest; left = g.budget; boundary = s + g.period }) v)
        ≡ cond b (full_server g s) (stream_of v)
    go true = refl
    go false = refl

-- a slot leaves no more of a budget than the budget, where no more was left
pub within_after_slot : (table : List ℕ) (gs : List Guest) (s : ℕ) (vs : List Server) (i : ℕ) → i < length gs
    → (server_at vs i).left ≤ (guest_at gs i).budget
    → (server_at (after_slot table gs s vs) i).left ≤ (guest_at gs i).budget
within_after_slot table gs s vs i l within =
    omega (
      arith,
      left_after_turn (free? (byte_at table s)) (byte_at table s) (with_refills s gs vs) i,
      ap (λ v. v.left) (refill_at s gs vs i l),
      refill_within s (guest_at gs i) (server_at vs i) within,
    )

module _ (table : List ℕ) (gs : List Guest) where
  -- the server of guest i before slot s, as a stream
  abbrev pub server_before : ℕ → ℕ → StreamState
  server_before s i = stream_of (server_at (servers_after table gs s) i)

  -- and in slot s, after the refills
  abbrev pub server_ready : ℕ → ℕ → StreamState
  server_ready s i = stream_of (server_at (with_refills s gs (servers_after table gs s)) i)

  -- the servers at the start have nothing left, and their boundary is slot 0
  pub at_start : (i : ℕ) → i < length gs → server_before 0 i ≡ empty_server
  unfolding servers_after
  at_start i l = ap stream_of (get_or-map-range_with_len server_at_start 0 (length gs) i i no_server l (omega arith))

  -- the servers when a slot more has passed
  pub servers_next : (n : ℕ) → servers_after table gs (n + 1) ≡ after_slot table gs n (servers_after table gs n)
  unfolding servers_after
  servers_next n = let next : n + 1 ≡ suc n = omega arith in ap (servers_after table gs) next

  -- the servers of a session are refilled, and served by the free slots
  pub serve_guests : ServeGuests table gs server_before server_ready
  unfolding servers_after
  serve_guests = record {
    start = at_start;
    refill = λ s i l.
        let v = server_at (servers_after table gs s) i in
        ap stream_of (refill_at s gs (servers_after table gs s) i l) ∙ stream_refilled s (guest_at gs i) v;
    serve = λ s.
        let vs = servers_after table gs s in
        subst (λ n. Serves n (slot_free table s) (server_ready s) (server_before (suc s))) (length_refills s gs vs)
        (slot_serves (free? (byte_at table s)) (with_refills s gs vs));
  }

  -- what guest i is granted in a slot is one, if the turn is its, else none
  pub granted_turn : (i s : ℕ) → grant_count (i + 1) (turn_at table gs s) ≡ granted_in server_before server_ready i s
  unfolding servers_after
  granted_turn i s =
      let ws = with_refills s gs (servers_after table gs s) in
      omega (arith, left_after_turn (free? (byte_at table s)) (byte_at table s) ws i)
