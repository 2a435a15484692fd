-- What calls of a loaded rig pass and leave, one call after another.
use Rattle.std.proofs.Common.{◌≡◌, refl, ap, ◌∙◌, ℕ, zero, suc, ◌+◌, ⊎_elim, List, [], ◌∷◌}
use Rattle.std.proofs.Common.{◌++◌, length, slice_get, Option, Some, None, subst, arith}
use Rattle.std.proofs.lemmas.List.{length-append}
use Rattle.std.proofs.lemmas.Option.{none-some, same_Some}
use Rattle.journal.specs.declared.entries.Event.{Event}
use Rattle.journal.specs.declared.entries.Event.TheVariants as event
use Rattle.journal.specs.declared.fields.Fields.{Fields}
use Rattle.journal.specs.Entries.{fields_of}
use Rattle.device.specs.Meaning.{Meaning}
use Rattle.setups.specs.Plan.{Plan}
use Rattle.rig.specs.Replies.{entry_of}
use Rattle.rig.specs.Slot.{next_entry, next_work, event_of}
use Rattle.rig.specs.State.{State}
use Rattle.rig.specs.Step.{answer_in, state_after, meaning_after}
use Rattle.runs.specs.TraceEntries.{entry_before, entries, slots_passed}
use Rattle.runs.specs.Traces.{Exchange}
use Rattle.runs.proofs.Effects.{PassesSlot, PassesNoSlot, passing_or_still, plan_after, entry_passing}
use Rattle.runs.proofs.Loaded.{state_end, device_end, AnswersOf}

-- calls keep the plan
pub plan_end : (s : State) (xs : List Exchange) → (state_end s xs).plan ≡ s.plan
unfolding state_end
plan_end s [] = refl
plan_end s (x ∷ xs) = plan_end (state_after s x.call) xs ∙ plan_after s x.call

-- an entry, if there is one, before those of two lists together is before those of the first
entry_before_append : (a : Option Fields) (es fs : List Fields) → entry_before a (es ++ fs) ≡ entry_before a es ++ fs
entry_before_append None es fs = refl
entry_before_append (Some e) es fs = refl

-- the entries of a slot that passes and of calls after it: its own comes first
pub entries_passing : (m : Meaning) (s : State) (x : Exchange) (xs : List Exchange) → PassesSlot m s x.call x.answer
    → entries (x ∷ xs) ≡ fields_of (next_entry s m) ∷ entries xs
unfolding entries
entries_passing m s x xs p = ap (λ a. entry_before a (entries xs)) (entry_passing m s x.call x.answer p)

-- a call that passes no slot adds no entry
pub entries_still : (m : Meaning) (s : State) (x : Exchange) (xs : List Exchange) → PassesNoSlot m s x.call x.answer
    → entries (x ∷ xs) ≡ entries xs
unfolding entries
entries_still m s x xs q = ap (λ a. entry_before a (entries xs)) q.no_entry

-- the entries of two lists of calls together are those of the first and then those of the second
pub entries_append : (xs ys : List Exchange) → entries (xs ++ ys) ≡ entries xs ++ entries ys
unfolding entries
entries_append [] ys = refl
entries_append (x ∷ xs) ys =
    ap (entry_before (entry_of x.answer)) (entries_append xs ys)
    ∙ entry_before_append (entry_of x.answer) (entries xs) (entries ys)

-- as many slots pass in two lists of calls together as in both
pub slots_passed_append : (xs ys : List Exchange) → slots_passed (xs ++ ys) ≡ slots_passed xs + slots_passed ys
slots_passed_append xs ys = ap length (entries_append xs ys) ∙ length-append (entries xs) (entries ys)

-- the state after two lists of calls is that after the second from that after the first
pub state_end_append : (s : State) (xs ys : List Exchange) → state_end s (xs ++ ys) ≡ state_end (state_end s xs) ys
unfolding state_end
state_end_append s [] ys = refl
state_end_append s (x ∷ xs) ys = state_end_append (state_after s x.call) xs ys

-- two lists of calls together have the answers of a loaded rig: so has the first, and the second from there on
pub answers_of_append : (m : Meaning) (s : State) (xs ys : List Exchange) → AnswersOf m s (xs ++ ys)
    → AnswersOf m s xs × AnswersOf (device_end m s xs) (state_end s xs) ys
unfolding state_end device_end AnswersOf
answers_of_append m s [] ys all = (tt, all)
answers_of_append m s (x ∷ xs) ys (first, rest) =
    let (front, back) = answers_of_append (meaning_after m s x.call) (state_after s x.call) xs ys rest in
    ((first, front), back)

-- what was answered in the middle of some calls is the answer of the rig there,
-- and so it is with the calls before and after it
pub answers_around : (m : Meaning) (s : State) (xs past : List Exchange) (x : Exchange) (later : List Exchange)
    → AnswersOf m s xs → xs ≡ past ++ x ∷ later
    → AnswersOf m s past × (x.answer ≡ answer_in (device_end m s past) (state_end s past) x.call)
    × AnswersOf (meaning_after (device_end m s past) (state_end s past) x.call)
    (state_after (state_end s past) x.call) later
unfolding AnswersOf
answers_around m s xs past x later all is =
    let (front, back) = answers_of_append m s past (x ∷ later) (subst (AnswersOf m s) is all) in
    (front, back.0, back.1)

-- as many slots more have passed after calls as passed in them
pub passed_end : (m : Meaning) (s : State) (xs : List Exchange) → AnswersOf m s xs
    → (state_end s xs).passed ≡ s.passed + slots_passed xs
unfolding state_end AnswersOf entries
passed_end m s [] all = omega arith
passed_end m s (x ∷ xs) (first, rest) =
    let others = passed_end (meaning_after m s x.call) (state_after s x.call) xs rest in
    ⊎_elim
    (λ (p : PassesSlot m s x.call x.answer).
    omega (arith, others, ap (λ t. t.passed) p.state, ap length (entries_passing m s x xs p)))
    (λ (q : PassesNoSlot m s x.call x.answer). omega (arith, others, q.passed, ap length (entries_still m s x xs q)))
    (passing_or_still m s x.call x.answer first)

-- P holds of each entry of a list with its slot, where their slots are n, n + 1 and so on
unfoldable pub HoldsFrom : (ℕ → Fields → Type 0) → ℕ → List Fields → Type 0
HoldsFrom P n [] = Unit {0}
HoldsFrom P n (e ∷ es) = P n e × HoldsFrom P (suc n) es

-- what holds of the next entry of every state with a plan holds of each entry of calls from such a state on
pub holds_of_entries : (P : ℕ → Fields → Type 0) (p : Plan)
    → ((m : Meaning) (s : State) → s.plan ≡ p → P s.passed (fields_of (next_entry s m)))
    → (m : Meaning) (s : State) (xs : List Exchange) → s.plan ≡ p → AnswersOf m s xs → HoldsFrom P s.passed (entries xs)
unfolding AnswersOf entries HoldsFrom
holds_of_entries P p each m s [] is all = tt
holds_of_entries P p each m s (x ∷ xs) is (first, rest) =
    let others =
    holds_of_entries P p each (meaning_after m s x.call) (state_after s x.call) xs (plan_after s x.call ∙ is) rest in
    ⊎_elim
    (λ (q : PassesSlot m s x.call x.answer).
    let next : (state_after s x.call).passed ≡ suc s.passed = omega (arith, ap (λ t. t.passed) q.state) in
    rw (entries_passing m s x xs q) (each m s is, subst (λ n. HoldsFrom P n (entries xs)) next others))
    (λ (q : PassesNoSlot m s x.call x.answer).
    rw (entries_still m s x xs q) (subst (λ n. HoldsFrom P n (entries xs)) q.passed others))
    (passing_or_still m s x.call x.answer first)

-- an entry's fields have its slot
slot_of : (n : ℕ) (e : Event) → (fields_of (record { slot = n; event = e })).slot ≡ n
slot_of n event.Unassigned = refl
slot_of n (event.Fixed p a) = refl
slot_of n (event.Used g k i a d) = refl
slot_of n (event.Idle g) = refl

-- the entry of the next slot is of that slot
pub next_entry_slot : (m : Meaning) (s : State) → (fields_of (next_entry s m)).slot ≡ s.passed
next_entry_slot m s = slot_of s.passed (event_of m (next_work s))

-- what holds of each entry holds of the one at place i, with slot n + i
pub holds_at : (P : ℕ → Fields → Type 0) (n : ℕ) (es : List Fields) → HoldsFrom P n es → (i : ℕ) (e : Fields)
    → slice_get es i ≡ Some e → P (n + i) e
unfolding HoldsFrom
holds_at P n [] all i e there = absurd (none-some e there)
holds_at P n (f ∷ es) (first, rest) zero e there =
    let same : n ≡ n + 0 = omega arith in
    subst (λ k. P k e) same (subst (P n) (same_Some f e there) first)
holds_at P n (f ∷ es) (first, rest) (suc i) e there =
    let same : suc n + i ≡ n + suc i = omega arith in
    subst (λ k. P k e) same (holds_at P (suc n) es rest i e there)

-- the entry at place i of calls is of the slot so many after the first that had not passed
pub slot_at : (m : Meaning) (s : State) (xs : List Exchange) → AnswersOf m s xs → (i : ℕ) (e : Fields)
    → slice_get (entries xs) i ≡ Some e → e.slot ≡ s.passed + i
slot_at m s xs all i e there =
    holds_at (λ n f. f.slot ≡ n) s.passed (entries xs)
    (holds_of_entries (λ n f. f.slot ≡ n) s.plan (λ k t is. next_entry_slot k t) m s xs refl all) i e there
