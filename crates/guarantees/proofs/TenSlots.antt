-- What the law of whole runs comes to on ten slots of setup A.
use Rattle.std.proofs.Common.{◌≡◌, refl, sym, ap, ◌∙◌, ℕ, zero, suc, ◌+◌, ◌≤◌, inl, inr, List, [], ◌∷◌, ◌++◌, length}
use Rattle.std.proofs.Common.{map, replicate, filter, Result, Ok, Err, subst, arith, lit<, lit≤}
use Rattle.std.proofs.lemmas.List.{length-map}
use Rattle.decline.specs.declared.Decline.{Decline}
use Rattle.device.specs.Panel.{panel_at_start}
use Rattle.device.proofs.Alike.{alike_refl}
use Rattle.setups.specs.Plan.{task_start, tasks_of}
use Rattle.rig.specs.declared.reply.Reply.{Reply}
use Rattle.rig.specs.declared.reply.Reply.TheVariants.{Loaded}
use Rattle.rig.specs.Calls.{load, release, slot}
use Rattle.rig.specs.Parts.{operations_of}
use Rattle.rig.specs.Replies.{NumberedAnswer, reply_numbers, answer_numbers}
use Rattle.rig.specs.State.{State, state_at_load}
use Rattle.rig.specs.Step.{RigState, fresh_rig, loaded_rig, answer_in, state_after, IsLoad, IsStep}
use Rattle.runs.specs.Traces.{Exchange, exchange, exchanges, IsTrace}
use Rattle.runs.specs.TraceEntries.{entries, slots_passed, is_between, entries_between, grants_among, is_use_by}
use Rattle.runs.specs.Laws.{AlikeRun, LoadedWith, release_answer, calls_at, InOrder}
use Rattle.runs.specs.Laws.{FullBudgets, MeetsDeadlines, OneView, CallsAlike}
use Rattle.runs.specs.Run.{History}
use Rattle.samples.specs.Setups.{setup_a}
use Rattle.samples.specs.Verdicts.{NeverDeclined}
use Rattle.guarantees.specs.TenSlots.{IsPanelRun, ten_slots_after}
use Rattle.guarantees.proofs.SlotsAlone.{slot_exchanges, slots_pass, slots_name_none, slots_withdraw_none}

-- setup A as it is loaded
abbrev loaded_a : State
loaded_a = state_at_load setup_a

-- an accepted load of setup A
abbrev load_a : Exchange
load_a = exchange (load setup_a) (Ok (reply_numbers Loaded))

-- a job of two operations by guest 1, task 1, that is due at slot 10
abbrev job : Exchange
job = exchange (release 1 1 2) (release_answer 10)

-- when setup A has just been loaded, that is the answer
due : answer_in panel_at_start loaded_a job.call ≡ job.answer
unfolding answer_in tasks_of task_start
due = refl

-- and the session lasts ten slots more
lasts : (state_after loaded_a job.call).passed + 10 ≤ (state_after loaded_a job.call).plan.session
unfolding state_after tasks_of task_start
lasts = lit≤ tt

-- some calls are a load of setup A that is accepted, then some requests, and then ten slots that pass
record TenSlots (requests xs : List Exchange) : Type 0 where
  answers : List NumberedAnswer
  loaded : LoadedWith setup_a xs [] (requests ++ slot_exchanges 10 answers)
  passed : slots_passed (requests ++ slot_exchanges 10 answers) ≡ 10

-- a load of setup A on a fresh rig around a lamp panel is accepted, and leaves it loaded
accepted : NeverDeclined setup_a 64 → (a : NumberedAnswer) (r : RigState)
    → IsStep (fresh_rig panel_at_start) (load setup_a) a r
    → (exchange (load setup_a) a ≡ load_a) × (r ≡ loaded_rig panel_at_start loaded_a)
unfolding IsLoad
accepted never (Ok x) r (said, ok, fit, is) = (ap (λ b. exchange (load setup_a) (Ok b)) said, is)
accepted never (Err n) r (declined, is) = absurd (never n declined)

-- the load and ten slots are so
trace_without_job : NeverDeclined setup_a 64 → (answers : List NumberedAnswer) (after : RigState) → length answers ≡ 11
    → IsTrace (fresh_rig panel_at_start) (exchanges (load setup_a ∷ replicate 10 slot) answers) after
    → TenSlots [] (exchanges (load setup_a ∷ replicate 10 slot) answers)
unfolding exchanges IsTrace
trace_without_job never [] after long trace = absurd (omega (arith, long))
trace_without_job never (a ∷ as′) after long (between, first, rest) =
    let (said, is) = accepted never a between first in
    let there = subst (λ (r : RigState). IsTrace r (slot_exchanges 10 as′) after) is rest in
    record {
      answers = as′;
      loaded = ap (λ x. x ∷ slot_exchanges 10 as′) said;
      passed = slots_pass panel_at_start loaded_a 10 as′ after (omega (arith, long)) there (lit≤ tt);
    }

-- so are the load, the release of that job, and ten slots
trace_with_job : NeverDeclined setup_a 64 → (answers : List NumberedAnswer) (after : RigState) → length answers ≡ 12
    → IsTrace (fresh_rig panel_at_start) (exchanges (load setup_a ∷ job.call ∷ replicate 10 slot) answers) after
    → TenSlots (job ∷ []) (exchanges (load setup_a ∷ job.call ∷ replicate 10 slot) answers)
unfolding exchanges IsTrace entries
trace_with_job never [] after long trace = absurd (omega (arith, long))
trace_with_job never (a ∷ []) after long trace = absurd (omega (arith, long))
trace_with_job never (a ∷ b ∷ as′) after long (between, first, rest) =
    let (said, is) = accepted never a between first in
    let ends = λ (r : RigState). IsTrace r (exchange job.call b ∷ slot_exchanges 10 as′) after in
    let (next, (answered, becomes), others) = subst ends is rest in
    let there = subst (λ (r : RigState). IsTrace r (slot_exchanges 10 as′) after) becomes others in
    record {
      answers = as′;
      loaded =
          ap (λ x. x ∷ exchange job.call b ∷ slot_exchanges 10 as′) said
          ∙ ap (λ c. load_a ∷ exchange job.call c ∷ slot_exchanges 10 as′) (answered ∙ due);
      passed = slots_pass _ (state_after loaded_a job.call) 10 as′ after (omega (arith, long)) there lasts;
    }

-- the law of whole runs is about the calls since that load
history : (requests xs : List Exchange) → TenSlots requests xs → History (fresh_rig panel_at_start) xs
unfolding IsTrace
history requests xs ten = record {
  device = panel_at_start;
  past = [];
  trace = refl;
  plan = setup_a;
  before = [];
  since = requests ++ slot_exchanges 10 ten.answers;
  loaded = ten.loaded;
}

-- the load brings no entry
entries_since : (requests xs : List Exchange) (ten : TenSlots requests xs)
    → entries xs ≡ entries (requests ++ slot_exchanges 10 ten.answers)
unfolding entries
entries_since requests xs ten = ap entries ten.loaded

-- neither that release nor a slot names guest 2
job_names_not_2 : (k : ℕ) (answers : List NumberedAnswer) → calls_at 2 k (job ∷ slot_exchanges 10 answers) ≡ []
unfolding calls_at
job_names_not_2 zero answers = slots_name_none 2 10 0 answers
job_names_not_2 (suc k) answers = slots_name_none 2 10 (suc k) answers

-- exactly three of the entries of slots 0 to 9 are grants to guest 2
pub three_grants : NeverDeclined setup_a 64 → (answers : List (Result Reply Decline)) → length answers ≡ 11
    → IsPanelRun (ten_slots_after [] answers)
    → length (grants_among 2 (entries_between 0 10 (ten_slots_after [] answers))) ≡ 3
unfolding FullBudgets history
three_grants never answers long (after, law) =
    let numbers = map answer_numbers answers in
    let ten = trace_without_job never numbers after (length-map answers answer_numbers ∙ long) law.steps in
    let over : 10 ≤ slots_passed (slot_exchanges 10 ten.answers) = omega (arith, ten.passed) in
    ap (λ es. length (grants_among 2 (filter (is_between 0 10) es))) (entries_since [] _ ten)
    ∙ law.budgets (history [] _ ten) 1 0 (lit< tt) over

-- the entries of guest 2 are the same without that job and with it
pub same_entries : NeverDeclined setup_a 64 → (answers others : List (Result Reply Decline))
    → length answers ≡ 11 → length others ≡ 12
    → IsPanelRun (ten_slots_after [] answers) → IsPanelRun (ten_slots_after (job.call ∷ []) others)
    → grants_among 2 (entries (ten_slots_after [] answers))
    ≡ grants_among 2 (entries (ten_slots_after (job.call ∷ []) others))
unfolding OneView history
same_entries never answers others long long′ (after, law) (after′, law′) =
    let numbers = map answer_numbers answers in
    let numbers′ = map answer_numbers others in
    let ten = trace_without_job never numbers after (length-map answers answer_numbers ∙ long) law.steps in
    let ten′ = trace_with_job never numbers′ after′ (length-map others answer_numbers ∙ long′) law′.steps in
    let calls : CallsAlike 2 (slot_exchanges 10 ten.answers) (job ∷ slot_exchanges 10 ten′.answers) = record {
      slots = ten.passed ∙ sym ten′.passed;
      calls = λ k. slots_name_none 2 10 k ten.answers ∙ sym (job_names_not_2 k ten′.answers);
    } in
    let other : AlikeRun panel_at_start setup_a = record {
      device = panel_at_start;
      alike = alike_refl panel_at_start;
      all = ten_slots_after (job.call ∷ []) others;
      before = [];
      since = job ∷ slot_exchanges 10 ten′.answers;
      loaded = ten′.loaded;
      after = after′;
      trace = law′.steps;
    } in
    let view = law.one_view (history [] _ ten) other 1 (lit< tt) calls in
    ap (grants_among 2) (entries_since [] _ ten) ∙ view.entries
    ∙ sym (ap (grants_among 2) (entries_since (job ∷ []) _ ten′))

-- exactly two of the entries of slots 0 to 9 are uses by task 1 of guest 1, in order
pub two_operations : NeverDeclined setup_a 64 → (answers : List (Result Reply Decline)) → length answers ≡ 12
    → IsPanelRun (ten_slots_after (job.call ∷ []) answers)
    → InOrder (operations_of setup_a 0 0) 2
    (filter (is_use_by 1 1) (entries_between 0 10 (ten_slots_after (job.call ∷ []) answers)))
unfolding MeetsDeadlines entries history
two_operations never answers long (after, law) =
    let numbers = map answer_numbers answers in
    let ten = trace_with_job never numbers after (length-map answers answer_numbers ∙ long) law.steps in
    let reached : 10 ≤ slots_passed (job ∷ slot_exchanges 10 ten.answers) = omega (arith, ten.passed) in
    let kept = law.deadlines (history (job ∷ []) _ ten) 1 1 2 10 [] (slot_exchanges 10 ten.answers) refl reached in
    let same = ap (λ es. filter (is_use_by 1 1) (filter (is_between 0 10) es)) (entries_since (job ∷ []) _ ten) in
    elim kept [
      | inl w ↦ absurd (slots_withdraw_none 1 1 10 _ ten.answers w.during w.rest w.split)
      | inr order ↦ subst (InOrder (operations_of setup_a 0 0) 2) (sym same) order
    ]
