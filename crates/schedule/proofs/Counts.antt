-- What the turns of a session grant each guest.
use Rattle.std.proofs.Common.{◌≡◌, sym, ap, ◌∙◌, ℕ, zero, suc, ◌+◌, ◌*◌, ◌-◌, ◌<◌, ◌≤◌, Bool, cond, arith}
use Rattle.std.proofs.Common.{⊎_elim, subst, List, ◌++◌, length, map, take, drop, get_or, count_by}
use Rattle.std.specs.List.{range_with_len}
use Rattle.std.proofs.lemmas.Bool.{cases_Bool}
use Rattle.std.proofs.lemmas.List.{get_or-drop, get_or_append_left, length-drop, length-append}
use Rattle.std.proofs.lemmas.List.FromFn.{length-map-range_with_len, get_or-map-range_with_len}
use Rattle.std.proofs.lemmas.List.Sums.{count_by_more_yes, count_by_more_no}
use Rattle.setups.specs.Plan.{Plan, guest_at}
use Rattle.setups.specs.Demand.{server_supply}
use Rattle.admission.specs.Verdict.{Accepted}
use Rattle.deadlines.specs.Sums.{sum_below}
use Rattle.deadlines.specs.Course.{StreamState}
use Rattle.deadlines.proofs.Sums.{sum_below_next, sum_below_same}
use Rattle.deadlines.proofs.Servers.{ServeGuests, granted_in, whole_periods, supplied}
use Rattle.schedule.specs.declared.turn.Turn.{Turn}
use Rattle.schedule.specs.declared.turn.Turn.TheVariants.{Unassigned}
use Rattle.schedule.specs.Session.{Session, turn_at}
use Rattle.schedule.specs.Turns.{is_granted}
use Rattle.schedule.specs.Timetable.{places_with, grants_in, GrantsBudgets, GrantsSupply}
use Rattle.schedule.proofs.Grants.{grant_count}
use Rattle.schedule.proofs.TimetablePlaces.{HasFilled}
use Rattle.schedule.proofs.ServerSlots.{server_before, server_ready, serve_guests, granted_turn}

-- one more element counts if it passes the test
count_by_more : {X : Type 0} (p : X → Bool) (xs : List X) (i : ℕ) (d : X) → i < length xs
    → count_by p (take (i + 1) xs) ≡ count_by p (take i xs) + cond (p (get_or xs i d)) 1 0
count_by_more p xs i d l =
    ⊎_elim
    (λ yes. count_by_more_yes p xs i d l yes ∙ ap (λ b. count_by p (take i xs) + cond b 1 0) (sym yes))
    (λ no. omega (arith, count_by_more_no p xs i d l no, ap (λ b. let one : ℕ = cond b 1 0 in one) no))
    (cases_Bool (p (get_or xs i d)))

module _ (f : ℕ → Turn) (n g : ℕ) (rest : List Turn) where
  -- the first n turns, and the rest
  abbrev turns : List Turn
  turns = map f (range_with_len 0 n) ++ rest

  -- 1 if a slot is granted to guest g, else 0
  abbrev granted_at : ℕ → ℕ
  granted_at k = grant_count g (f k)

  -- the grants of t slots from s on are the difference of those before slot s + t and those before s
  pub grants_sum : (s t : ℕ) → s + t ≤ n → grants_in g s t turns + sum_below granted_at s ≡ sum_below granted_at (s + t)
  grants_sum s zero h = let none : s ≡ s + 0 = omega arith in omega (arith, ap (sum_below granted_at) none)
  grants_sum s (suc t) h =
      let long : n ≤ length turns =
      omega (arith, length-append (map f (range_with_len 0 n)) rest, length-map-range_with_len f 0 n) in
      let inside : t < length (drop s turns) = omega (arith, length-drop s turns, long, h) in
      let is : get_or (drop s turns) t Unassigned ≡ f (s + t) =
      get_or-drop s turns t Unassigned
      ∙ get_or_append_left (map f (range_with_len 0 n)) rest Unassigned (s + t)
      (omega (arith, length-map-range_with_len f 0 n, h))
      ∙ get_or-map-range_with_len f 0 n (s + t) (s + t) Unassigned (omega (arith, h)) (omega arith) in
      let count : t + 1 ≡ suc t = omega arith in
      let slots : s + suc t ≡ suc (s + t) = omega arith in
      let more = count_by_more (is_granted g) (drop s turns) t Unassigned inside in
      omega (
        arith,
        more,
        ap (λ k. count_by (is_granted g) (take k (drop s turns))) count,
        ap (grant_count g) is,
        grants_sum s t (omega (arith, h)),
        ap (sum_below granted_at) slots,
        sum_below_next granted_at (s + t),
      )

module _ (p : Plan) (registers : ℕ) (ok : Accepted p registers) where
  -- 1 if slot s is granted to guest i, else 0
  abbrev pub grant_at : ℕ → ℕ → ℕ
  grant_at i s = grant_count (i + 1) (turn_at p.table p.guests s)

  -- the server of each guest of the plan before a slot, as a stream
  abbrev before : ℕ → ℕ → StreamState
  before = server_before p.table p.guests

  -- and in the slot
  abbrev ready : ℕ → ℕ → StreamState
  ready = server_ready p.table p.guests

  -- the servers are refilled and served
  abbrev course : ServeGuests p.table p.guests before ready
  course = serve_guests p.table p.guests

  -- its table has a byte
  some_byte : 0 < length p.table
  some_byte = omega (arith, ok.form.sizes.table)

  -- the slots before slot s grant guest i what they take from its budgets
  grants_before : (i s : ℕ)
      → sum_below (grant_at i) s ≡ sum_below (granted_in before ready i) s
  grants_before i s = sum_below_same _ _ s (λ k l. granted_turn p.table p.guests i k)

  -- the slots of the first q periods of guest i grant it q budgets
  pub whole_granted : (i q : ℕ) → i < length p.guests
      → sum_below (grant_at i) (q * (guest_at p.guests i).period) ≡ q * (guest_at p.guests i).budget
  whole_granted i q l =
      grants_before i (q * (guest_at p.guests i).period)
      ∙ whole_periods p.table p.guests before ready some_byte ok.form.servers ok.schedulable.link course i q l

  -- the slots from a to before b grant guest i at least what its server gives in so many
  pub supplied_granted : (i a b : ℕ) → i < length p.guests → a ≤ b
      → sum_below (grant_at i) a + server_supply (guest_at p.guests i).period (guest_at p.guests i).budget (b - a)
      ≤ sum_below (grant_at i) b
  supplied_granted i a b l le =
      omega (
        arith,
        grants_before i a,
        grants_before i b,
        supplied p.table p.guests before ready some_byte ok.form.servers ok.schedulable.link course i a b l le,
      )

  module _ (places : List Turn) (n : ℕ) where
    -- the first n turns grant each guest its budget in each period whose slots are all among them
    pub budgets_granted : GrantsBudgets p.guests (places_with p places n) n
    unfolding GrantsBudgets
    budgets_granted i q l h =
        let period = (guest_at p.guests i).period in
        let next : q * period + period ≡ (q + 1) * period = omega arith in
        omega (
          arith,
          grants_sum (turn_at p.table p.guests) n (i + 1) (drop n places) (q * period) period (omega (arith, h)),
          whole_granted i q l,
          whole_granted i (q + 1) l,
          ap (sum_below (grant_at i)) next,
        )

    -- and its supply in any successive slots among them
    pub supply_granted : GrantsSupply p.guests (places_with p places n) n
    unfolding GrantsSupply
    supply_granted i s t l h =
        let slots : s + t - s ≡ t = omega arith in
        omega (
          arith,
          grants_sum (turn_at p.table p.guests) n (i + 1) (drop n places) s t h,
          supplied_granted i s (s + t) l (omega arith),
          ap (server_supply (guest_at p.guests i).period (guest_at p.guests i).budget) slots,
        )

-- turns that are filled in grant each guest its budget in each period whose slots are all among them
pub budgets_of : (p : Plan) (registers : ℕ) (places turns : List Turn) (s : Session) (i n : ℕ) → Accepted p registers
    → HasFilled p places turns s i → i ≡ n → GrantsBudgets p.guests turns n
budgets_of p registers places turns s i n ok so all =
    subst (λ k. GrantsBudgets p.guests turns k) all (rw so.filled (budgets_granted p registers ok places i))

-- and its supply in any successive slots
pub supply_of : (p : Plan) (registers : ℕ) (places turns : List Turn) (s : Session) (i n : ℕ) → Accepted p registers
    → HasFilled p places turns s i → i ≡ n → GrantsSupply p.guests turns n
supply_of p registers places turns s i n ok so all =
    subst (λ k. GrantsSupply p.guests turns k) all (rw so.filled (supply_granted p registers ok places i))
