-- A plan has one verdict: each rule has one refusal at most, and none where it holds,
-- so rule and refusals are exclusive.
use Rattle.std.proofs.Common.{◌≡◌, ℕ, ◌+◌, ◌-◌, ◌<◌, List, length, sum_by, sym, ap, ◌∙◌, subst, ⊎_elim, arith}
use Rattle.std.specs.List.{All}
use Rattle.std.proofs.lemmas.List.Elements.{All-get_or}
use Rattle.decline.specs.declared.Part.TheVariants.{Registers, Session, Table, FixedOperations, Guests, Tasks}
use Rattle.decline.specs.declared.Part.TheVariants.{Operations}
use Rattle.decline.specs.declared.Decline.{Decline}
use Rattle.decline.specs.declared.Decline.TheVariants.{SetupLimits, TableByte, ServerLimits, GuestWindow, TaskLimits}
use Rattle.decline.specs.declared.Decline.TheVariants.{OperationRegister, LinkSpare, LinkDemand, GuestSpare}
use Rattle.decline.specs.declared.Decline.TheVariants.{GuestDemand}
use Rattle.decline.specs.declared.DeclineNumbers.{DeclineNumbers}
use Rattle.decline.specs.Refusals.{numbers_of}
use Rattle.setups.specs.declared.setup.Operation.{Operation}
use Rattle.setups.specs.declared.setup.Guest.{Guest}
use Rattle.setups.specs.declared.setup.Task.{Task}
use Rattle.setups.specs.Plan.{Plan, no_guest, no_task, task_count_of, task_start, operation_start, OwnsPlace}
use Rattle.setups.specs.Demand.{LinkHasSpare, LinkServedAt, LinkServed, TasksServed, GuestHasSpare, GuestServedAt}
use Rattle.setups.specs.Limits.{RegistersOk, SessionOk, TableSizeOk, FixedSizeOk, GuestsSizeOk, TasksAgree}
use Rattle.setups.specs.Limits.{OperationsAgree, SizesOk, ByteOk, BytesOk, ServerOk, WindowOk, WindowsOk, TaskOk}
use Rattle.setups.specs.Limits.{TaskOkAt, FixedOk, FixedsOk, InsideAt, OperationsOk}
use Rattle.admission.specs.Verdict.{FirstFailingRule, OnlyRefusal, FirstFailing, FirstFailingOwned, SizesFault}
use Rattle.admission.specs.Verdict.{ServerOkAt, ServersFault, TasksFault, OperationsFault, LinkFault, GuestsFault}
use Rattle.admission.specs.Verdict.{GuestsHaveSpare, GuestsServed, Schedulable, ScheduleFault, Accepted}
use Rattle.admission.specs.AdmissionLaws.{Exclusive, OneVerdict}
use Rattle.setups.proofs.GuestPlaces.{Monotone, task_start_grows, operation_start_grows, task_start-within}
use Rattle.admission.proofs.Owners.{neither_less, owner_one}

-- a rule that has one refusal
exclusive_only : (ok : Type 0) (d : Decline) → Exclusive ok (OnlyRefusal ok d)
exclusive_only ok d = record { apart = λ m f o. f.1 o; one = λ m n f g. f.0 ∙ sym g.0 }

-- a rule before others, which may count on it; `all` is what they say together
exclusive_in_order : (ok all : Type 0) (fault later : DeclineNumbers → Type 0) → (all → ok) → Exclusive ok fault
    → (ok → Exclusive all later) → Exclusive all (FirstFailingRule ok fault later)
exclusive_in_order ok all fault later first s t = record {
  apart = λ m f a. ⊎_elim (λ x. s.apart m x (first a)) (λ y. (t y.0).apart m y.1 a) f;
  one = λ m n f g.
      ⊎_elim
      (λ x. ⊎_elim (λ x'. s.one m n x x') (λ y'. absurd (s.apart m x y'.0)) g)
      (λ y. ⊎_elim (λ x'. absurd (s.apart n x' y.0)) (λ y'. (t y.0).one m n y.1 y'.1) g)
      f;
}

-- it stays exclusive with a rule that says more
exclusive_of : (ok all : Type 0) (fault : DeclineNumbers → Type 0) → (all → ok) → Exclusive ok fault
    → Exclusive all fault
exclusive_of ok all fault part s = record { apart = λ m f a. s.apart m f (part a); one = s.one }

-- there is one first failing place
first_one : (holds : ℕ → Type 0) (i j : ℕ) → FirstFailing holds i → FirstFailing holds j → i ≡ j
first_one holds i j a b = neither_less i j (λ h. a.broken (b.before i h)) (λ h. b.broken (a.before j h))

-- a rule of each of n places, which refuses at the first
exclusive_first : (n : ℕ) (holds : ℕ → Type 0) (refusal : ℕ → Decline)
    → Exclusive ((i : ℕ) → i < n → holds i)
    (λ m. (i : ℕ) × (m ≡ numbers_of (refusal i)) × (i < n) × FirstFailing holds i)
exclusive_first n holds refusal = record {
  apart = λ m f ok. f.3.broken (ok f.0 f.2);
  one = λ m k f g. f.1 ∙ ap (λ i. numbers_of (refusal i)) (first_one holds f.0 g.0 f.3 g.3) ∙ sym g.1;
}

-- a rule of each place of each guest
module _ (n : ℕ) (start : ℕ → ℕ) (grows : Monotone start) (holds : ℕ → ℕ → Type 0) (refusal : ℕ → ℕ → Decline) where
  -- there is one first failing place
  owned_place : (i j k l : ℕ) → FirstFailingOwned n start holds i j → FirstFailingOwned n start holds k l → j ≡ l
  owned_place i j k l a b =
      neither_less j l (λ h. a.broken (b.before i j a.guest a.owned h)) (λ h. b.broken (a.before k l b.guest b.owned h))

  exclusive_owned : Exclusive ((i j : ℕ) → i < n → OwnsPlace start i j → holds i j)
      (λ m. (i j : ℕ) × (m ≡ numbers_of (refusal i j)) × FirstFailingOwned n start holds i j)
  exclusive_owned = record {
    apart = λ m f ok. f.3.broken (ok f.0 f.1 f.3.guest f.3.owned);
    one = λ m k f g.
        let place = owned_place f.0 f.1 g.0 g.1 f.3 g.3 in
        let owned : OwnsPlace start g.0 f.1 = subst (λ j. OwnsPlace start g.0 j) (sym place) g.3.owned in
        let guest = owner_one start grows f.0 g.0 f.1 f.3.owned owned in
        f.2 ∙ ap (λ i. numbers_of (refusal i f.1)) guest ∙ ap (λ j. numbers_of (refusal g.0 j)) place ∙ sym g.2;
  }

-- rule 1
exclusive_sizes : (p : Plan) (n : ℕ) → Exclusive (SizesOk p n) (SizesFault p n)
exclusive_sizes p n =
    exclusive_in_order (RegistersOk n) (SizesOk p n) _ _ (λ o. o.registers) (exclusive_only _ (SetupLimits Registers))
    (λ _.
    exclusive_in_order (SessionOk p) (SizesOk p n) _ _ (λ o. o.session) (exclusive_only _ (SetupLimits Session)) (λ _.
    exclusive_in_order (TableSizeOk p.table) (SizesOk p n) _ _ (λ o. o.table) (exclusive_only _ (SetupLimits Table))
    (λ _.
    exclusive_in_order (FixedSizeOk p) (SizesOk p n) _ _ (λ o. o.fixed) (exclusive_only _ (SetupLimits FixedOperations))
    (λ _.
    exclusive_in_order (GuestsSizeOk p.guests) (SizesOk p n) _ _ (λ o. o.guests) (exclusive_only _ (SetupLimits Guests))
    (λ _.
    exclusive_in_order (TasksAgree p) (SizesOk p n) _ _ (λ o. o.tasks) (exclusive_only _ (SetupLimits Tasks)) (λ _.
    exclusive_of (OperationsAgree p) (SizesOk p n) _ (λ o. o.operations)
    (exclusive_only _ (SetupLimits Operations))))))))

-- rule 3
exclusive_servers : (gs : List Guest) → Exclusive (All ServerOk gs) (ServersFault gs)
exclusive_servers gs =
    exclusive_of ((i : ℕ) → i < length gs → ServerOkAt gs i) (All ServerOk gs) _
    (λ ok i lt. All-get_or ServerOk gs i no_guest lt ok)
    (exclusive_first (length gs) (ServerOkAt gs) (λ i. ServerLimits (i + 1)))

-- rule 8
exclusive_link : (table : List ℕ) (gs : List Guest) → Exclusive (LinkServed table gs) (LinkFault table gs)
unfolding LinkServed
exclusive_link table gs = record {
  apart = λ m f ok. f.2.broken (ok f.0);
  one = λ m n f g. f.1 ∙ ap (λ t. numbers_of (LinkDemand t)) (first_one (LinkServedAt table gs) f.0 g.0 f.2 g.2)
      ∙ sym g.1;
}

-- rule 10
exclusive_guests : (gs : List Guest) (ks : List Task) → Exclusive (GuestsServed gs ks) (GuestsFault gs ks)
unfolding TasksServed
exclusive_guests gs ks = record {
  apart = λ m f ok. f.5.broken (ok f.0 f.3 f.1);
  one = λ m n f g.
      let guest = neither_less f.0 g.0 (λ h. f.5.broken (g.4 f.0 h f.1)) (λ h. g.5.broken (f.4 g.0 h g.1)) in
      let short : FirstFailing (GuestServedAt gs ks g.0) f.1 =
      subst (λ i. FirstFailing (GuestServedAt gs ks i) f.1) guest f.5 in
      let window = first_one (GuestServedAt gs ks g.0) f.1 g.1 short g.5 in
      f.2 ∙ ap (λ i. numbers_of (GuestDemand (i + 1) f.1)) guest ∙ ap (λ t. numbers_of (GuestDemand (g.0 + 1) t)) window
      ∙ sym g.2;
}

-- rule 5: the guests' tasks are in the list where the lists agree
exclusive_tasks : (gs : List Guest) (ks : List Task) → length ks ≡ sum_by task_count_of gs
    → Exclusive (All TaskOk ks) (TasksFault gs ks)
exclusive_tasks gs ks agree =
    exclusive_of ((i j : ℕ) → i < length gs → OwnsPlace (task_start gs) i j → TaskOkAt ks i j) (All TaskOk ks) _
    (λ ok i j lt owned. All-get_or TaskOk ks j no_task (omega (arith, owned.1, task_start-within gs (i + 1), agree)) ok)
    (exclusive_owned (length gs) (task_start gs) (task_start_grows gs) (TaskOkAt ks)
    (λ i j. TaskLimits (i + 1) (j - task_start gs i + 1)))

-- rule 6 of the guests' operations
exclusive_operations : (gs : List Guest) (ks : List Task) (os : List Operation)
    → Exclusive (OperationsOk gs ks os) (OperationsFault gs ks os)
exclusive_operations gs ks os =
    exclusive_owned (length gs) (operation_start gs ks) (operation_start_grows gs ks) (InsideAt gs os)
    (λ i q. OperationRegister (i + 1) (q + 1))

-- rules 7 to 10
exclusive_schedule : (p : Plan) → Exclusive (Schedulable p) (ScheduleFault p)
exclusive_schedule p =
    let table = p.table in
    let gs = p.guests in
    let ks = p.tasks in
    exclusive_in_order (LinkHasSpare table gs) (Schedulable p) _ _ (λ o. o.link_spare) (exclusive_only _ LinkSpare)
    (λ _.
    exclusive_in_order (LinkServed table gs) (Schedulable p) _ _ (λ o. o.link) (exclusive_link table gs) (λ _.
    exclusive_in_order (GuestsHaveSpare gs ks) (Schedulable p) _ _ (λ o. o.guest_spares)
    (exclusive_first (length gs) (GuestHasSpare gs ks) (λ i. GuestSpare (i + 1))) (λ _.
    exclusive_of (GuestsServed gs ks) (Schedulable p) _ (λ o. o.guests) (exclusive_guests gs ks))))

-- the ten rules in their order
pub one_verdict : OneVerdict
unfolding OneVerdict
one_verdict p n =
    let gs = p.guests in
    let ks = p.tasks in
    exclusive_in_order (SizesOk p n) (Accepted p n) _ _ (λ a. a.form.sizes) (exclusive_sizes p n) (λ sizes.
    exclusive_in_order (BytesOk p.table (length p.fixed)) (Accepted p n) _ _ (λ a. a.form.bytes)
    (exclusive_first (length p.table) (ByteOk p.table (length p.fixed)) TableByte) (λ _.
    exclusive_in_order (All ServerOk gs) (Accepted p n) _ _ (λ a. a.form.servers) (exclusive_servers gs) (λ _.
    exclusive_in_order (WindowsOk n gs) (Accepted p n) _ _ (λ a. a.form.windows)
    (exclusive_first (length gs) (WindowOk n gs) (λ i. GuestWindow (i + 1))) (λ _.
    exclusive_in_order (All TaskOk ks) (Accepted p n) _ _ (λ a. a.form.tasks) (exclusive_tasks gs ks sizes.tasks) (λ _.
    exclusive_in_order (FixedsOk p.fixed n) (Accepted p n) _ _ (λ a. a.form.fixed)
    (exclusive_first (length p.fixed) (FixedOk p.fixed n) (λ i. OperationRegister 0 (i + 1))) (λ _.
    exclusive_in_order (OperationsOk gs ks p.operations) (Accepted p n) _ _ (λ a. a.form.operations)
    (exclusive_operations gs ks p.operations) (λ _.
    exclusive_of (Schedulable p) (Accepted p n) _ (λ a. a.schedulable) (exclusive_schedule p))))))))
