-- Slots alone, with their answers.
use Rattle.std.proofs.Common.{◌≡◌, refl, ap, ◌∙◌, ℕ, zero, suc, ◌+◌, ◌<◌, ◌≤◌, List, [], ◌∷◌, ◌++◌, length, replicate}
use Rattle.std.proofs.Common.{None, is_some, subst, arith}
use Rattle.std.proofs.lemmas.Bool.{lt-ltb, cond_both}
use Rattle.device.specs.Meaning.{Meaning}
use Rattle.rig.specs.Calls.{PlanCall, withdraw, slot}
use Rattle.rig.specs.declared.reply.Reply.TheVariants.{Passed}
use Rattle.rig.specs.Replies.{NumberedAnswer, reply_numbers, entry_of}
use Rattle.rig.specs.Slot.{slot_refusal, next_entry, with_slot}
use Rattle.rig.specs.State.{State}
use Rattle.rig.specs.Step.{RigState, loaded_rig, answer_unless, change_unless, answer_in, state_after, meaning_after}
use Rattle.runs.specs.Traces.{Exchange, exchange, exchanges, IsTrace}
use Rattle.runs.specs.TraceEntries.{entry_before, entries, slots_passed}
use Rattle.runs.specs.Laws.{calls_at}

-- so many slots, with these answers
abbrev pub slot_exchanges : ℕ → List NumberedAnswer → List Exchange
slot_exchanges n answers = exchanges (replicate n slot) answers

-- a slot is not refused while the session lasts
slot_allowed : (s : State) → s.passed < s.plan.session → slot_refusal s ≡ None
slot_allowed s lasts = simp (lt-ltb s.passed s.plan.session lasts)

-- while the session lasts they all pass
pub slots_pass : (m : Meaning) (s : State) (n : ℕ) (answers : List NumberedAnswer) (after : RigState)
    → length answers ≡ n
    → IsTrace (loaded_rig m s) (slot_exchanges n answers) after → s.passed + n ≤ s.plan.session
    → slots_passed (slot_exchanges n answers) ≡ n
unfolding exchanges IsTrace entries answer_in state_after
slots_pass m s zero answers after each trace lasts = refl
slots_pass m s (suc n) [] after each trace lasts = absurd (omega (arith, each))
slots_pass m s (suc n) (a ∷ as′) after each (between, (said, is), rest) lasts =
    let allowed = slot_allowed s (omega (arith, lasts)) in
    let answer = said ∙ ap (λ r. answer_unless r (reply_numbers (Passed (next_entry s m)))) allowed in
    let next : State = state_after s slot in
    let state : next ≡ with_slot s = ap (λ r. change_unless r (with_slot s) s) allowed in
    let time : next.passed ≡ s.passed + 1 = ap (λ t. t.passed) state in
    let session : next.plan.session ≡ s.plan.session = ap (λ t. t.plan.session) state in
    let there = subst (λ (r : RigState). IsTrace r (slot_exchanges n as′) after) is rest in
    let others = slots_pass (meaning_after m s slot) next n as′ after (omega (arith, each)) there (omega arith) in
    ap (λ b. length (entry_before (entry_of b) (entries (slot_exchanges n as′)))) answer ∙ ap suc others

-- they name no guest
pub slots_name_none : (g n k : ℕ) (answers : List NumberedAnswer) → calls_at g k (slot_exchanges n answers) ≡ []
unfolding exchanges calls_at
slots_name_none g zero k answers = refl
slots_name_none g (suc n) k [] = refl
slots_name_none g (suc n) zero (a ∷ as′) =
    cond_both (is_some (entry_of a)) _ _ (λ cs. cs ≡ []) (λ _. refl) (λ _. slots_name_none g n 0 as′)
slots_name_none g (suc n) (suc k) (a ∷ as′) =
    let passes = slots_name_none g n k as′ in
    let none = slots_name_none g n (suc k) as′ in
    cond_both (is_some (entry_of a)) _ _ (λ cs. cs ≡ []) (λ _. passes) (λ _. none)

-- the first call of some, or a slot if there is none
abbrev first_call : List Exchange → PlanCall
first_call [] = slot
first_call (x ∷ xs) = x.call

-- they withdraw nothing
pub slots_withdraw_none : (g k n : ℕ) (a : NumberedAnswer) (answers : List NumberedAnswer) (during rest : List Exchange)
    → slot_exchanges n answers ≡ during ++ exchange (withdraw g k) a ∷ rest → ⊥
unfolding exchanges
slots_withdraw_none g k zero a answers [] rest is = cc
slots_withdraw_none g k zero a answers (x ∷ during) rest is = cc
slots_withdraw_none g k (suc n) a [] [] rest is = cc
slots_withdraw_none g k (suc n) a [] (x ∷ during) rest is = cc
slots_withdraw_none g k (suc n) a (b ∷ as′) [] rest is = let same : slot ≡ withdraw g k = ap first_call is in cc
slots_withdraw_none g k (suc n) a (b ∷ as′) (x ∷ during) rest is = slots_withdraw_none g k n a as′ during rest cc
