-- Why the rows on runs hold.
use Rattle.std.proofs.Common.{◌≡◌, refl, sym, ap, ◌∙◌, suc, List, [], ◌∷◌, length, Ok, Err, subst, arith}
use Rattle.device.specs.Meaning.{Meaning, register_count}
use Rattle.device.specs.Panel.{panel_at_start}
use Rattle.setups.specs.Plan.{Plan, task_start, tasks_of}
use Rattle.schedule.specs.ServerSlot.{with_refills}
use Rattle.schedule.specs.Session.{servers_after}
use Rattle.rig.specs.declared.reply.Reply.TheVariants.{Loaded}
use Rattle.rig.specs.Calls.{PlanCall, load}
use Rattle.rig.specs.Replies.{NumberedAnswer, reply_numbers}
use Rattle.rig.specs.State.{State, state_at_load}
use Rattle.rig.specs.Step.{RigState, fresh_rig, loaded_rig, answer_in, state_after, meaning_after, IsLoad, IsStep}
use Rattle.runs.specs.Traces.{Exchange, exchange, exchanges, IsTrace, IsAnsweredTrace}
use Rattle.runs.specs.TraceEntries.{entries}
use Rattle.runs.specs.Laws.{release_answer, answers_to}
use Rattle.runs.proofs.Loaded.{AnswersOf, with_answers, loaded_trace}
use Rattle.samples.specs.Setups.{setup_a}
use Rattle.samples.specs.Verdicts.{NeverDeclined}
use Rattle.values.specs.RunCalls.{slots, three_releases}
use Rattle.values.specs.Table.{Holds, run_entries, run_answers, InEachRun, EntriesAre, AnswersAre, refusal}

-- calls with one answer each that are those of a loaded rig are the calls with its answers
answered_so : (m : Meaning) (s : State) (calls : List PlanCall) (answers : List NumberedAnswer)
    → length answers ≡ length calls
    → AnswersOf m s (exchanges calls answers) → exchanges calls answers ≡ with_answers m s calls
unfolding exchanges AnswersOf with_answers
answered_so m s [] answers each said = refl
answered_so m s (c ∷ cs) [] each said = absurd (omega (arith, each))
answered_so m s (c ∷ cs) (a ∷ as′) each (first, others) =
    let rest = answered_so (meaning_after m s c) (state_after s c) cs as′ (omega (arith, each)) others in
    ap (λ b. exchange c b ∷ exchanges cs as′) first ∙ ap (λ xs. exchange c (answer_in m s c) ∷ xs) rest

-- a load of a fresh rig with a plan that is never declined is accepted, and leaves it loaded
loads : (m : Meaning) (p : Plan) (a : NumberedAnswer) (r : RigState) → NeverDeclined p (register_count m)
    → IsStep (fresh_rig m) (load p) a r → (a ≡ Ok (reply_numbers Loaded)) × (r ≡ loaded_rig m (state_at_load p))
unfolding IsLoad
loads m p (Ok x) r never (said, accepted, fit, is) = (ap Ok said, is)
loads m p (Err n) r never (declined, is) = absurd (never n declined)

-- the run of a fresh rig that is loaded with such a plan: the load is accepted, and the other calls have the answers of
-- the loaded rig
run_of : (m : Meaning) (p : Plan) (calls : List PlanCall) (answers : List NumberedAnswer) (after : RigState)
    → NeverDeclined p (register_count m) → IsAnsweredTrace (fresh_rig m) (load p ∷ calls) answers after
    → exchanges (load p ∷ calls) answers
    ≡ exchange (load p) (Ok (reply_numbers Loaded)) ∷ with_answers m (state_at_load p) calls
unfolding exchanges IsTrace
run_of m p calls [] after never run = let each : 0 ≡ suc (length calls) = run.one_each in absurd (omega (arith, each))
run_of m p calls (a ∷ as′) after never run =
    let (between, first, others) = run.steps in
    let (said, is) = loads m p a between never first in
    let from_load = subst (λ (r : RigState). IsTrace r (exchanges calls as′) after) is others in
    let (answers, end) = loaded_trace m (state_at_load p) (exchanges calls as′) after from_load in
    let each : suc (length as′) ≡ suc (length calls) = run.one_each in
    ap (λ b. exchange (load p) b ∷ exchanges calls as′) said
    ∙ ap (λ xs. exchange (load p) (Ok (reply_numbers Loaded)) ∷ xs)
    (answered_so m (state_at_load p) calls as′ (omega (arith, each)) answers)

-- a load of setup A and some calls after it, with their answers on a lamp panel
abbrev calls_a : List PlanCall → List Exchange
calls_a calls =
    exchange (load setup_a) (Ok (reply_numbers Loaded)) ∷ with_answers panel_at_start (state_at_load setup_a) calls

-- what is so of them is so of each run of them
in_each_run : NeverDeclined setup_a 64 → (calls : List PlanCall) (so : List Exchange → Type 0) → so (calls_a calls)
    → InEachRun setup_a calls so
in_each_run never calls so here answers after run =
    subst so (sym (run_of panel_at_start setup_a calls answers after never run)) here

-- the entries of ten slots of setup A
pub entries_a : NeverDeclined setup_a 64 → Holds (run_entries setup_a (slots 10)
    (1 ∷ 3 ∷ 3 ∷ 3 ∷ 3 ∷ 1 ∷ 3 ∷ 3 ∷ 3 ∷ 0 ∷ []) (0 ∷ 1 ∷ 1 ∷ 2 ∷ 2 ∷ 0 ∷ 1 ∷ 1 ∷ 2 ∷ 0 ∷ []))
unfolding entries with_answers answer_in state_after meaning_after servers_after with_refills
entries_a never = in_each_run never (slots 10) (EntriesAre _ _) (record { kinds = refl; guests = refl })

-- three releases of setup A: one is accepted, one comes too soon by a slot, and one is accepted; the first has its two
-- slots
pub releases_a : NeverDeclined setup_a 64 → Holds (run_answers setup_a three_releases 1
    (release_answer 10 ∷ refusal 15 1 20 ∷ release_answer 30 ∷ []) (1 ∷ 2 ∷ []))
unfolding entries answers_to with_answers answer_in state_after meaning_after servers_after with_refills tasks_of
    task_start
releases_a never = in_each_run never three_releases (AnswersAre _ _ _) (record { answers = refl; uses = refl })
