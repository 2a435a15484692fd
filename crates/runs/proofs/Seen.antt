-- What a guest sees of a loaded rig, and how calls change it.
use Rattle.std.proofs.Common.{◌≡◌, refl, sym, ap, ap₂, ◌∙◌, subst, ℕ, ◌+◌, ◌-◌, ◌<◌, ◌≤◌, ◌⊎◌, inl, inr, ⊎_elim}
use Rattle.std.proofs.Common.{true, false, List, [], length, get_or, slice_set, Option, Some, None, arith}
use native.Mathlib.Decide.{ℕ_discrete as dec_eq}
use Rattle.std.proofs.lemmas.Bool.{eqb-true, eqb-false, ne_eqb}
use Rattle.std.proofs.lemmas.List.{get_or-set_same}
use Rattle.decline.specs.declared.Decline.{Decline}
use Rattle.device.specs.Meaning.{Meaning}
use Rattle.device.proofs.Alike.{within_sym, within_trans}
use Rattle.journal.specs.declared.entries.Event.{Event}
use Rattle.journal.specs.declared.entries.Event.TheVariants as event
use Rattle.journal.specs.Entries.{fields_of}
use Rattle.schedule.specs.declared.turn.Turn.{Turn}
use Rattle.schedule.specs.declared.turn.Turn.TheVariants as turn
use Rattle.schedule.specs.Session.{turn_at, IsTurnOf}
use Rattle.schedule.proofs.Sessions.{turn_of_session}
use Rattle.setups.specs.declared.setup.Guest.{Guest}
use Rattle.setups.specs.Plan.{Plan, guest_at, operation_at, ValuesFit}
use Rattle.setups.specs.Limits.{window_end}
use Rattle.admission.specs.Verdict.{Accepted}
use Rattle.rig.specs.declared.job.Job.{Job}
use Rattle.rig.specs.declared.work.Work.{Work}
use Rattle.rig.specs.declared.tally.Tally.{Tally}
use Rattle.rig.specs.Access.{access_of, after_operation}
use Rattle.rig.specs.Parts.{operations_of, fixed_operation}
use Rattle.rig.specs.State.{State, no_job, no_tally, jobs_of, job_of, tally_of, jobs_with}
use Rattle.rig.specs.Slot.{first_job, granted_work, work_of, next_work, event_of, next_entry, device_after}
use Rattle.rig.specs.Slot.{with_operation, with_idle, with_used, jobs_after, tallies_after, slot_refusal, with_slot}
use Rattle.rig.specs.Calls.{PlanCall, guest_of, is_named, names}
use Rattle.rig.specs.Replies.{NumberedAnswer, reply_numbers}
use Rattle.runs.specs.TraceEntries.{is_grant}
use Rattle.rig.specs.Step.{answer_unless, change_unless, effect, answer_in, state_after, meaning_after}
use Rattle.runs.proofs.Effects.{SameTo, AnsweredAlike, AnsweredByGuest, CallKind, slots, puts_job, keeps, call_kind}
use Rattle.runs.proofs.Effects.{PassesNoSlot, holds_unless, kept_after}
use Rattle.runs.proofs.RegisterWindows.{AlikeTo, alike_to_itself, same_operation, same_access, same_outside}
use Rattle.runs.proofs.RegisterWindows.{other_outside, operation_inside, operation_fits, fixed_fits}
use Rattle.runs.proofs.JobSlots.{event_entry, granted_jobs, granted_tallies, idle_tallies, row_here}
use Rattle.runs.proofs.JobSlots.{row_elsewhere, row_of_other, tally_of_other, first_pending}
use Rattle.runs.proofs.Ready.{Ready, job_ready}

-- two loaded rigs have the same jobs and the same tally of guest i, and devices that are alike to it
pub record AlikeToGuest (p : Plan) (i : ℕ) (m : Meaning) (s : State) (n : Meaning) (t : State) : Type 0 where
  pub row : jobs_of s i ≡ jobs_of t i
  pub tally : tally_of s i ≡ tally_of t i
  pub device : AlikeTo (guest_at p.guests i) m n

-- the first and the last of three loaded rigs have, if the first two and the last two have
pub tied_trans : (p : Plan) (i : ℕ) (l : Meaning) (r : State) (m : Meaning) (s : State) (n : Meaning) (t : State)
    → AlikeToGuest p i l r m s → AlikeToGuest p i m s n t → AlikeToGuest p i l r n t
tied_trans p i l r m s n t a b = record {
  row = a.row ∙ b.row;
  tally = a.tally ∙ b.tally;
  device = (let g = guest_at p.guests i in within_trans g.first_register (window_end g) l m n a.device b.device);
}

-- a call that names another guest, or none, and passes no slot leaves the jobs of guest i
foreign_row : (s : State) (i : ℕ) (c : PlanCall) → names (i + 1) c ≡ false → (state_after s c).passed ≡ s.passed
    → jobs_of (state_after s c) i ≡ jobs_of s i
unfolding state_after
foreign_row s i c other stays = by c (call_kind c) other stays
  where
    passes : (r : Option Decline) → (change_unless r (with_slot s) s).passed ≡ s.passed
        → jobs_of (change_unless r (with_slot s) s) i ≡ jobs_of s i
    passes None more = absurd (omega (arith, more))
    passes (Some d) same = refl

    by : (d : PlanCall) → CallKind d → names (i + 1) d ≡ false → (state_after s d).passed ≡ s.passed
        → jobs_of (state_after s d) i ≡ jobs_of s i
    by d slots foreign same = passes (slot_refusal s) same
    by d (puts_job _ g k j puts) foreign same =
        holds_unless (λ t. jobs_of t i ≡ jobs_of s i) (effect s d).refusal (effect s d).state s
        (λ none. ap (λ t. jobs_of t i) (puts.state s) ∙ row_elsewhere s (g - 1) (k - 1) (j s) i
        (λ e. eqb-false g (i + 1) (sym (ap (is_named (i + 1)) puts.named) ∙ foreign)
        (omega (arith, e, (puts.known s none).guest_from)))) refl
    by d (keeps _ quiet) foreign same = kept_after (λ t. jobs_of t i) s d (ap (λ t. jobs_of t i) (quiet.state s))

-- such a call leaves what guest i sees
pub foreign_tied : (p : Plan) (i : ℕ) (m : Meaning) (s : State) (c : PlanCall) (a : NumberedAnswer)
    → PassesNoSlot m s c a
    → names (i + 1) c ≡ false
    → AlikeToGuest p i (meaning_after m s c) (state_after s c) m s
foreign_tied p i m s c a still other = record {
  row = foreign_row s i c other still.passed;
  tally = ap (λ ts. get_or ts i no_tally) still.tallies;
  device = subst (λ n. AlikeTo (guest_at p.guests i) n m) (sym still.device) (alike_to_itself (guest_at p.guests i) m);
}

-- two loaded rigs at the same time, with one plan, that are alike to guest i
module _ (p : Plan) (i : ℕ) (within : i < length p.guests) (few : length p.guests ≤ 16) (m : Meaning) (s : State)
    (n : Meaning) (t : State)
    (ready : Ready p s) (ready′ : Ready p t) (time : s.passed ≡ t.passed) (tied : AlikeToGuest p i m s n t) where
  -- their plans are the same
  same_plan : s.plan ≡ t.plan
  same_plan = ready.plan ∙ sym ready′.plan

  -- they are the same to guest i, by its number from 1
  same_to : SameTo (i + 1) s t
  same_to =
      let e : i + 1 - 1 ≡ i = omega arith in
      record { plan = same_plan; passed = time; row = rw e tied.row; tally = rw e tied.tally }

  -- a job of guest i is in its place among them, by any number that is i
  row_at : (u : State) → i < length u.jobs → (g k : ℕ) (j : Job) → i ≡ g
      → get_or (jobs_with u g k j) i [] ≡ slice_set (jobs_of u i) k j
  row_at u inside g k j e =
      subst (λ h. get_or (jobs_with u h k j) i [] ≡ slice_set (jobs_of u i) k j) e (row_here u i k j inside)

  -- the same job in the same place leaves the jobs of guest i the same
  row_alike : (g k : ℕ) (j j′ : Job) → i ≡ g → j ≡ j′
      → get_or (jobs_with s g k j) i [] ≡ get_or (jobs_with t g k j′) i []
  row_alike g k j j′ e same =
      row_at s (omega (arith, within, few, ready.rows.wide)) g k j e
      ∙ ap (λ row. slice_set row k j) tied.row ∙ ap (slice_set (jobs_of t i) k) same
      ∙ sym (row_at t (omega (arith, within, few, ready′.rows.wide)) g k j′ e)

  -- a change that is refused alike leaves the jobs of guest i the same, if it does where it is made
  alike_unless : (r r′ : Option Decline) → r ≡ r′ → (new new′ : State) → jobs_of new i ≡ jobs_of new′ i
      → jobs_of (change_unless r new s) i ≡ jobs_of (change_unless r′ new′ t) i
  alike_unless r r′ e new new′ made =
      subst (λ x. jobs_of (change_unless r new s) i ≡ jobs_of (change_unless x new′ t) i) e (go r)
    where
      go : (x : Option Decline) → jobs_of (change_unless x new s) i ≡ jobs_of (change_unless x new′ t) i
      go None = made
      go (Some d) = tied.row

  -- what a call does to both rigs is the same as far as guest i can tell
  record SameEffect (c : PlanCall) : Type 0 where
    answered : AnsweredAlike c s t
    row : jobs_of (effect s c).state i ≡ jobs_of (effect t c).state i

  -- a call is answered alike if it names guest i and is answered by what the guest sees that it names
  own_answered : (c : PlanCall) (r : Option ℕ) → is_named (i + 1) r ≡ true → AnsweredByGuest c r → AnsweredAlike c s t
  own_answered c None own by = absurd cc
  own_answered c (Some g) own by =
      by s t (subst (λ h. SameTo h s t) (sym (eqb-true g (i + 1) own)) same_to)

  -- what each call does that names guest i is the same as far as it can tell
  own_effect : (c : PlanCall) → names (i + 1) c ≡ true → SameEffect c
  own_effect c own = by c (call_kind c) own
    where
      by : (d : PlanCall) → CallKind d → names (i + 1) d ≡ true → SameEffect d
      by d slots own = absurd cc
      by d (puts_job _ g k j puts) own =
          let e : g ≡ i + 1 = eqb-true g (i + 1) (sym (ap (is_named (i + 1)) puts.named) ∙ own) in
          let same : SameTo g s t = subst (λ h. SameTo h s t) (sym e) same_to in
          record {
            answered = puts.alike s t same;
            row = ap (λ u. jobs_of u i) (puts.state s)
                ∙ row_alike (g - 1) (k - 1) (j s) (j t) (omega (arith, e)) (puts.same_job s t same)
                ∙ sym (ap (λ u. jobs_of u i) (puts.state t));
          }
      by d (keeps _ quiet) own = record {
        answered = own_answered d (guest_of d) own quiet.alike;
        row = ap (λ u. jobs_of u i) (quiet.state s) ∙ tied.row ∙ sym (ap (λ u. jobs_of u i) (quiet.state t));
      }

  -- a call that names guest i has the same answer
  pub own_answer : (c : PlanCall) → names (i + 1) c ≡ true → answer_in m s c ≡ answer_in n t c
  unfolding answer_in
  own_answer c own =
      let alike = (own_effect c own).answered in
      ap₂ (λ r x. answer_unless r (reply_numbers x)) alike.refusal (alike.reply m n)

  -- and leaves its jobs the same
  own_row_after : (c : PlanCall) → names (i + 1) c ≡ true → jobs_of (state_after s c) i ≡ jobs_of (state_after t c) i
  unfolding state_after
  own_row_after c own =
      alike_unless (effect s c).refusal (effect t c).refusal (own_effect c own).answered.refusal (effect s c).state
      (effect t c).state (own_effect c own).row

  -- such a call leaves the rigs alike to it
  pub own_tied : (c : PlanCall) (a a′ : NumberedAnswer) → PassesNoSlot m s c a → PassesNoSlot n t c a′
      → names (i + 1) c ≡ true
      → AlikeToGuest p i (meaning_after m s c) (state_after s c) (meaning_after n t c) (state_after t c)
  own_tied c a a′ still still′ own = record {
    row = own_row_after c own;
    tally =
        ap (λ ts. get_or ts i no_tally) still.tallies ∙ tied.tally
        ∙ sym (ap (λ ts. get_or ts i no_tally) still′.tallies);
    device = subst (λ x. AlikeTo (guest_at p.guests i) x (meaning_after n t c)) (sym still.device)
        (subst (AlikeTo (guest_at p.guests i) m) (sym still′.device) tied.device);
  }

  -- what slots are for leaves the rigs alike to guest i, and its entries are the same or are no grants to it
  record SameForGuest (w w′ : Work) : Type 0 where
    device : AlikeTo (guest_at p.guests i) (device_after m w) (device_after n w′)
    row : get_or (jobs_after s w) i [] ≡ get_or (jobs_after t w′) i []
    tally : get_or (tallies_after s w) i no_tally ≡ get_or (tallies_after t w′) i no_tally
    event : (((q : ℕ) → is_grant (i + 1) (fields_of (event_entry q (event_of m w))) ≡ false)
        × ((q : ℕ) → is_grant (i + 1) (fields_of (event_entry q (event_of n w′))) ≡ false))
        ⊎ (event_of m w ≡ event_of n w′)

  -- the changed tally of guest i is in its place
  tally_alike : (x y : Tally) → x ≡ y
      → get_or (slice_set s.tallies i x) i no_tally ≡ get_or (slice_set t.tallies i y) i no_tally
  tally_alike x y same =
      get_or-set_same s.tallies i x no_tally (omega (arith, within, few, ready.counts)) ∙ same
      ∙ sym (get_or-set_same t.tallies i y no_tally (omega (arith, within, few, ready′.counts)))

  -- a slot granted to guest i, by the job that goes first
  own_slot : (registers : ℕ) → Accepted p registers → ValuesFit p → (r : Option ℕ) → first_job (jobs_of s i) ≡ r
      → SameForGuest (granted_work s i r) (granted_work t i r)
  own_slot registers ok fit None is = record {
    device = tied.device;
    row = tied.row;
    tally =
        ap (λ ts. get_or ts i no_tally) (idle_tallies s i)
        ∙ tally_alike (with_idle (tally_of s i)) (with_idle (tally_of t i)) (ap with_idle tied.tally)
        ∙ sym (ap (λ ts. get_or ts i no_tally) (idle_tallies t i));
    event = inr refl;
  }
  own_slot registers ok fit (Some k) is =
      let job : job_of s i k ≡ job_of t i k = ap (λ row. get_or row k no_job) tied.row in
      let its = job_ready p s i k ready (first_pending s i k is) in
      let o = operation_at (operations_of p i k) (job_of s i k).done in
      let left : operation_at (operations_of s.plan i k) (job_of s i k).done ≡ o =
      ap (λ q. operation_at (operations_of q i k) (job_of s i k).done) ready.plan in
      let o′ = operation_at (operations_of t.plan i k) (job_of t i k).done in
      let right : o′ ≡ o =
      ap (λ q. operation_at (operations_of q i k) (job_of t i k).done) ready′.plan
      ∙ ap (λ j. operation_at (operations_of p i k) j.done) (sym job) in
      let inside =
      operation_inside p registers ok i k (job_of s i k).done within its.task (omega (arith, its.undone, its.cheap)) in
      let fits = operation_fits p fit i k (job_of s i k).done in
      let g = guest_at p.guests i in
      record {
        device = subst (λ x. AlikeTo g (after_operation m x) (after_operation n o′)) (sym left)
            (subst (λ y. AlikeTo g (after_operation m o) (after_operation n y)) (sym right)
            (same_operation g m n tied.device o fits));
        row = ap (λ rows. get_or rows i []) (granted_jobs s i k)
            ∙ row_alike i k (with_operation (job_of s i k)) (with_operation (job_of t i k)) refl (ap with_operation job)
            ∙ sym (ap (λ rows. get_or rows i []) (granted_jobs t i k));
        tally = ap (λ ts. get_or ts i no_tally) (granted_tallies s i k)
            ∙ tally_alike (with_used (job_of s i k) (tally_of s i)) (with_used (job_of t i k) (tally_of t i))
            (ap (λ j. with_used j (tally_of s i)) job ∙ ap (with_used (job_of t i k)) tied.tally)
            ∙ sym (ap (λ ts. get_or ts i no_tally) (granted_tallies t i k));
        event = inr (
            ap (λ a. event.Used (i + 1) (k + 1) ((job_of s i k).done + 1) a (job_of s i k).deadline)
            (ap (access_of m) left ∙ same_access g m n tied.device o fits inside ∙ sym (ap (access_of n) right))
            ∙ ap (λ j. event.Used (i + 1) (k + 1) (j.done + 1) (access_of n o′) j.deadline) job);
      }

  -- a slot granted to guest h is one granted to guest i, if they are the same
  own_turn : (registers : ℕ) → Accepted p registers → ValuesFit p → (h : ℕ) → i ≡ h
      → SameForGuest (granted_work s h (first_job (jobs_of s h))) (granted_work t h (first_job (jobs_of t h)))
  own_turn registers ok fit h e =
      subst
      (λ x. SameForGuest (granted_work s x (first_job (jobs_of s x))) (granted_work t x (first_job (jobs_of t x)))) e
      (subst
      (λ row. SameForGuest (granted_work s i (first_job (jobs_of s i))) (granted_work t i (first_job row))) tied.row
      (own_slot registers ok fit (first_job (jobs_of s i)) refl))

-- what a slot is for leaves what guest i sees, and its entry is no grant to it
record UnseenBy (p : Plan) (i : ℕ) (m : Meaning) (s : State) (w : Work) : Type 0 where
  device : AlikeTo (guest_at p.guests i) (device_after m w) m
  row : get_or (jobs_after s w) i [] ≡ jobs_of s i
  tally : get_or (tallies_after s w) i no_tally ≡ tally_of s i
  event : (q : ℕ) → is_grant (i + 1) (fields_of (event_entry q (event_of m w))) ≡ false

-- a slot granted to another guest leaves what guest i sees, and its entry is no grant to it
other_slot : (p : Plan) (registers : ℕ) → Accepted p registers → (i h : ℕ) → i < length p.guests → h < length p.guests
    → (i ≡ h → ⊥) → (m : Meaning) (s : State) → Ready p s
    → (r : Option ℕ) → first_job (jobs_of s h) ≡ r → UnseenBy p i m s (granted_work s h r)
other_slot p registers ok i h within there other m s ready None is = record {
  device = alike_to_itself (guest_at p.guests i) m;
  row = refl;
  tally = tally_of_other s h i None other;
  event = λ q. ne_eqb (h + 1) (i + 1) (λ e. other (omega (arith, e)));
}
other_slot p registers ok i h within there other m s ready (Some k) is =
    let its = job_ready p s h k ready (first_pending s h k is) in
    let o = operation_at (operations_of p h k) (job_of s h k).done in
    let same : o ≡ operation_at (operations_of s.plan h k) (job_of s h k).done =
    ap (λ q. operation_at (operations_of q h k) (job_of s h k).done) (sym ready.plan) in
    let inside =
    operation_inside p registers ok h k (job_of s h k).done there its.task (omega (arith, its.undone, its.cheap)) in
    record {
      device = subst (λ x. AlikeTo (guest_at p.guests i) (after_operation m x) m) same
          (same_outside (guest_at p.guests i) m o
          (other_outside registers p.guests ok.form.windows i h within there (λ e. other (sym e)) o inside));
      row = row_of_other s h i (Some k) other;
      tally = tally_of_other s h i (Some k) other;
      event = λ q. ne_eqb (h + 1) (i + 1) (λ e. other (omega (arith, e)));
    }

module _ (p : Plan) (registers : ℕ) (ok : Accepted p registers) (fit : ValuesFit p) (i : ℕ)
    (within : i < length p.guests) (m : Meaning) (s : State) (n : Meaning) (t : State)
    (ready : Ready p s) (ready′ : Ready p t) (time : s.passed ≡ t.passed) (tied : AlikeToGuest p i m s n t) where
  -- no more guests than rows
  few : length p.guests ≤ 16
  few = ok.form.sizes.guests.few

  -- two slots that leave what guest i sees leave the rigs alike to it
  aside_both : (w w′ : Work) → UnseenBy p i m s w → UnseenBy p i n t w′
      → SameForGuest p i within few m s n t ready ready′ time tied w w′
  aside_both w w′ a b = record {
    device = (let g = guest_at p.guests i in
        within_trans g.first_register (window_end g) (device_after m w) m (device_after n w′) a.device
        (within_trans g.first_register (window_end g) m n (device_after n w′) tied.device
        (within_sym g.first_register (window_end g) (device_after n w′) n b.device)));
    row = a.row ∙ tied.row ∙ sym b.row;
    tally = a.tally ∙ tied.tally ∙ sym b.tally;
    event = inl (a.event, b.event);
  }

  -- a slot leaves the rigs alike to guest i, whosever turn it is
  turn_both : (table : List ℕ) (gs : List Guest) → gs ≡ p.guests → (u : Turn) → IsTurnOf table gs u
      → SameForGuest p i within few m s n t ready ready′ time tied (work_of s u) (work_of t u)
  turn_both table gs guests turn.Unassigned whose = record {
    device = tied.device;
    row = tied.row;
    tally = tied.tally;
    event = inr refl;
  }
  turn_both table gs guests (turn.Fixed q) whose =
      let o = fixed_operation s.plan q in
      let same : o ≡ fixed_operation t.plan q = ap (λ x. fixed_operation x q) (ready.plan ∙ sym ready′.plan) in
      let fits = fixed_fits s.plan (subst ValuesFit (sym ready.plan) fit) q in
      record {
        device = subst (λ x. AlikeTo (guest_at p.guests i) (after_operation m o) (after_operation n x)) same
            (same_operation (guest_at p.guests i) m n tied.device o fits);
        row = tied.row;
        tally = tied.tally;
        event = inl (λ x. refl, λ x. refl);
      }
  turn_both table gs guests (turn.Granted g) (from, to) =
      let h = g - 1 in
      let there : h < length p.guests = omega (arith, from, to, ap length guests) in
      elim (dec_eq i h) [
        | yes e ↦ own_turn p i within few m s n t ready ready′ time tied registers ok fit h e
        | no other ↦
            aside_both _ _ (other_slot p registers ok i h within there other m s ready (first_job (jobs_of s h)) refl)
            (other_slot p registers ok i h within there other n t ready′ (first_job (jobs_of t h)) refl)
      ]

  -- what the next slot is for leaves them alike
  next_both : SameForGuest p i within few m s n t ready ready′ time tied (next_work s) (next_work t)
  next_both =
      let same : turn_at s.plan.table s.plan.guests s.passed ≡ turn_at t.plan.table t.plan.guests t.passed =
      rw (ready.plan, ready′.plan, time) refl in
      subst (λ u. SameForGuest p i within few m s n t ready ready′ time tied (next_work s) (work_of t u)) same
      (turn_both s.plan.table s.plan.guests (ap (λ q. q.guests) ready.plan)
      (turn_at s.plan.table s.plan.guests s.passed) (turn_of_session s.plan.table s.plan.guests s.passed))

  -- the next slot leaves the rigs alike to guest i
  pub slot_tied : AlikeToGuest p i (device_after m (next_work s)) (with_slot s) (device_after n (next_work t))
      (with_slot t)
  slot_tied = record { row = next_both.row; tally = next_both.tally; device = next_both.device }

  -- its entry is the same in both, or in both no grant to guest i
  pub slot_seen : ((is_grant (i + 1) (fields_of (next_entry s m)) ≡ false)
      × (is_grant (i + 1) (fields_of (next_entry t n)) ≡ false))
      ⊎ (fields_of (next_entry s m) ≡ fields_of (next_entry t n))
  slot_seen = ⊎_elim (λ unseen. inl (unseen.0 s.passed, unseen.1 t.passed))
      (λ e. inr (ap (λ (x : Event). fields_of (event_entry s.passed x)) e
      ∙ ap (λ q. fields_of (event_entry q (event_of n (next_work t)))) time)) next_both.event
