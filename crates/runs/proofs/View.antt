-- What a guest sees of a run depends on its own calls and the slots that pass, and on nothing else.
use Rattle.std.proofs.Common.{◌≡◌, refl, sym, ap, ◌∙◌, subst, ℕ, zero, suc, ◌+◌, ◌<◌, ◌⊎◌, inl, inr, ⊎_elim}
use Rattle.std.proofs.Common.{Bool, true, false, cond, List, [], ◌∷◌, ◌++◌, length, Option, Some, None, is_some}
use Rattle.std.proofs.lemmas.Bool.{cases_Bool}
use Rattle.journal.specs.declared.fields.Fields.{Fields}
use Rattle.journal.specs.Entries.{fields_of}
use Rattle.device.specs.Meaning.{Meaning}
use Rattle.device.specs.Alike.{Alike}
use Rattle.device.proofs.Alike.{alike_within}
use Rattle.setups.specs.Plan.{Plan, guest_at, ValuesFit}
use Rattle.setups.specs.Limits.{window_end}
use Rattle.admission.specs.Verdict.{Accepted}
use Rattle.rig.specs.Calls.{PlanCall, slot, names}
use Rattle.rig.specs.Replies.{entry_of}
use Rattle.rig.specs.State.{State, state_at_load}
use Rattle.rig.specs.Slot.{slot_refusal, next_entry}
use Rattle.rig.specs.Step.{answer_in, state_after, meaning_after}
use Rattle.runs.specs.TraceEntries.{entry_before, entries, slots_passed, is_grant, grants_among}
use Rattle.runs.specs.Laws.{calls_at, answers_to, SameView, CallsAlike}
use Rattle.runs.specs.Traces.{Exchange}
use Rattle.runs.proofs.Loaded.{device_end, AnswersOf, with_answers}
use Rattle.runs.proofs.Effects.{PassesSlot, PassesNoSlot, slot_passing, passing_or_still}
use Rattle.runs.proofs.RegisterWindows.{alike_to_itself}
use Rattle.runs.proofs.Ready.{Ready, ready_at_load, ready_after}
use Rattle.runs.proofs.Seen.{AlikeToGuest, tied_trans, foreign_tied, own_answer, own_tied, slot_tied, slot_seen}

-- the calls that name guest g, and a slot for each that passed, in order
unfoldable own_part : ℕ → List Exchange → List PlanCall
own_part g [] = []
own_part g (x ∷ xs) =
    cond (is_some (entry_of x.answer)) (slot ∷ own_part g xs)
    (cond (names g x.call) (x.call ∷ own_part g xs) (own_part g xs))

-- calls 0, a slot, calls 1, a slot, and so on to the calls after slot n
unfoldable interleave : (ℕ → List PlanCall) → ℕ → List PlanCall
interleave calls zero = calls 0
interleave calls (suc n) = calls 0 ++ slot ∷ interleave (λ k. calls (suc k)) n

-- the same calls at each place are interleaved to the same
interleave_same : (n : ℕ) (f h : ℕ → List PlanCall) → ((k : ℕ) → f k ≡ h k) → interleave f n ≡ interleave h n
unfolding interleave
interleave_same zero f h same = same 0
interleave_same (suc n) f h same =
    ap (λ cs. cs ++ slot ∷ interleave (λ k. f (suc k)) n) (same 0)
    ∙ ap (λ ds. h 0 ++ slot ∷ ds) (interleave_same n (λ k. f (suc k)) (λ k. h (suc k)) (λ k. same (suc k)))

-- one call more before the first slot comes first
interleave_first : (c : PlanCall) (n : ℕ) (f h : ℕ → List PlanCall) → f 0 ≡ c ∷ h 0 → ((k : ℕ) → f (suc k) ≡ h (suc k))
    → interleave f n ≡ c ∷ interleave h n
unfolding interleave
interleave_first c zero f h first same = first
interleave_first c (suc n) f h first same =
    ap (λ cs. cs ++ slot ∷ interleave (λ k. f (suc k)) n) first
    ∙ ap (λ ds. c ∷ h 0 ++ slot ∷ ds) (interleave_same n (λ k. f (suc k)) (λ k. h (suc k)) same)

-- the calls of a guest with the slots are its calls before each slot and after the last, with a slot between them
weave : (g : ℕ) (xs : List Exchange) → own_part g xs ≡ interleave (λ n. calls_at g n xs) (slots_passed xs)
unfolding own_part calls_at entries interleave
weave g [] = refl
weave g (x ∷ xs) = go (entry_of x.answer) (names g x.call) (weave g xs)
  where
    at : Bool → Bool → ℕ → List PlanCall
    at passes named zero = cond passes [] (cond named (x.call ∷ calls_at g 0 xs) (calls_at g 0 xs))
    at passes named (suc n) = cond passes (calls_at g n xs) (calls_at g (suc n) xs)

    unnamed : (n : ℕ) → calls_at g n xs ≡ at false false n
    unnamed zero = refl
    unnamed (suc n) = refl

    still : (named : Bool) → own_part g xs ≡ interleave (λ n. calls_at g n xs) (slots_passed xs)
        → cond named (x.call ∷ own_part g xs) (own_part g xs) ≡ interleave (at false named) (slots_passed xs)
    still true rest =
        ap (λ cs. x.call ∷ cs) rest
        ∙ sym (interleave_first x.call (slots_passed xs) (at false true) (λ n. calls_at g n xs) refl (λ n. refl))
    still false rest = rest ∙ interleave_same (slots_passed xs) (λ n. calls_at g n xs) (at false false) unnamed

    go : (a : Option Fields) (named : Bool) → own_part g xs ≡ interleave (λ n. calls_at g n xs) (slots_passed xs)
        → cond (is_some a) (slot ∷ own_part g xs) (cond named (x.call ∷ own_part g xs) (own_part g xs))
        ≡ interleave (at (is_some a) named) (length (entry_before a (entries xs)))
    go None named rest = still named rest
    go (Some e) named rest = ap (λ cs. slot ∷ cs) rest

-- a guest that asks alike in two runs makes the same calls with the slots between them
same_part : (g : ℕ) (xs ys : List Exchange) → CallsAlike g xs ys → own_part g xs ≡ own_part g ys
same_part g xs ys alike =
    weave g xs ∙ interleave_same (slots_passed xs) (λ n. calls_at g n xs) (λ n. calls_at g n ys) alike.calls
    ∙ ap (interleave (λ n. calls_at g n ys)) alike.slots ∙ sym (weave g ys)

-- the first and the last of three views are the same, if the first two and the last two are
view_trans : (p : Plan) (i : ℕ) (xs ys zs : List Exchange) (l m n : Meaning) → SameView p i xs ys l m
    → SameView p i ys zs m n → SameView p i xs zs l n
view_trans p i xs ys zs l m n a b = record {
  answers = a.answers ∙ b.answers;
  entries = a.entries ∙ b.entries;
  window = λ r h k. a.window r h k ∙ b.window r h k;
}

-- two views that are the same are the same in the other order
view_sym : (p : Plan) (i : ℕ) (xs ys : List Exchange) (m n : Meaning) → SameView p i xs ys m n → SameView p i ys xs n m
view_sym p i xs ys m n a = record {
  answers = sym a.answers;
  entries = sym a.entries;
  window = λ r h k. sym (a.window r h k);
}

-- entries that are the same or no grants to a guest, before others with the same grants to it
grants_with : (g : ℕ) (e e′ : Fields) (es es′ : List Fields)
    → ((is_grant g e ≡ false) × (is_grant g e′ ≡ false)) ⊎ (e ≡ e′)
    → grants_among g es ≡ grants_among g es′ → grants_among g (e ∷ es) ≡ grants_among g (e′ ∷ es′)
grants_with g e e′ es es′ (inl none) same =
    ap (λ b. cond b (e ∷ grants_among g es) (grants_among g es)) none.0 ∙ same
    ∙ sym (ap (λ b. cond b (e′ ∷ grants_among g es′) (grants_among g es′)) none.1)
grants_with g e e′ es es′ (inr is) same =
    ap (λ x. grants_among g (x ∷ es)) is ∙ ap (λ fs. cond (is_grant g e′) (e′ ∷ fs) fs) same

module _ (p : Plan) (registers : ℕ) (ok : Accepted p registers) (fit : ValuesFit p) (i : ℕ)
    (within : i < length p.guests) where
  -- guest i sees of these calls what it sees where these others are made
  abbrev SeenAlone : List Exchange → List PlanCall → Meaning → State → Meaning → State → Type 0
  SeenAlone xs cs m s n t =
      SameView p i xs (with_answers n t cs) (device_end m s xs) (device_end n t (with_answers n t cs))

  -- a slot that passed, before calls of which it sees the same
  slot_view : (x : Exchange) (xs : List Exchange) (cs : List PlanCall) (m : Meaning) (s : State) (n : Meaning)
      (t : State) → Ready p s → Ready p t → s.passed ≡ t.passed → AlikeToGuest p i m s n t
      → PassesSlot m s x.call x.answer → PassesSlot n t slot (answer_in n t slot)
      → SeenAlone xs cs (meaning_after m s x.call) (state_after s x.call) (meaning_after n t slot) (state_after t slot)
      → SeenAlone (x ∷ xs) (slot ∷ cs) m s n t
  unfolding with_answers device_end answers_to entries
  slot_view x xs cs m s n t ready ready′ time tied passing passes′ rest =
      let es = entries (with_answers (meaning_after n t slot) (state_after t slot) cs) in
      record {
        answers =
            ap (λ c. cond (names (i + 1) c) (x.answer ∷ answers_to (i + 1) xs) (answers_to (i + 1) xs)) passing.is_slot
            ∙ rest.answers;
        entries = ap (λ a. grants_among (i + 1) (entry_before (entry_of a) (entries xs))) passing.answer
            ∙ grants_with (i + 1) (fields_of (next_entry s m)) (fields_of (next_entry t n)) (entries xs) es
            (slot_seen p registers ok fit i within m s n t ready ready′ time tied) rest.entries
            ∙ sym (ap (λ a. grants_among (i + 1) (entry_before (entry_of a) es)) passes′.answer);
        window = rest.window;
      }

  -- a call that names it, before calls of which it sees the same
  own_view : (x : Exchange) (xs : List Exchange) (cs : List PlanCall) (m : Meaning) (s : State) (n : Meaning)
      (t : State) → names (i + 1) x.call ≡ true → x.answer ≡ answer_in n t x.call
      → PassesNoSlot m s x.call x.answer → PassesNoSlot n t x.call (answer_in n t x.call)
      → SeenAlone xs cs (meaning_after m s x.call) (state_after s x.call) (meaning_after n t x.call)
      (state_after t x.call) → SeenAlone (x ∷ xs) (x.call ∷ cs) m s n t
  unfolding with_answers device_end answers_to entries
  own_view x xs cs m s n t own same still still′ rest =
      let later = with_answers (meaning_after n t x.call) (state_after t x.call) cs in
      record {
        answers = ap (λ a. cond (names (i + 1) x.call) (a ∷ answers_to (i + 1) xs) (answers_to (i + 1) xs)) same
            ∙ ap (λ as′. cond (names (i + 1) x.call) (answer_in n t x.call ∷ as′) as′) rest.answers;
        entries = ap (λ a. grants_among (i + 1) (entry_before a (entries xs))) still.no_entry ∙ rest.entries
            ∙ sym (ap (λ a. grants_among (i + 1) (entry_before a (entries later))) still′.no_entry);
        window = rest.window;
      }

  -- a call that does not name it and passes no slot, before calls of which it sees the same
  foreign_view : (x : Exchange) (xs : List Exchange) (cs : List PlanCall) (m : Meaning) (s : State) (n : Meaning)
      (t : State) → names (i + 1) x.call ≡ false → PassesNoSlot m s x.call x.answer
      → SeenAlone xs cs (meaning_after m s x.call) (state_after s x.call) n t → SeenAlone (x ∷ xs) cs m s n t
  unfolding device_end answers_to entries
  foreign_view x xs cs m s n t other still rest = record {
    answers = ap (λ b. cond b (x.answer ∷ answers_to (i + 1) xs) (answers_to (i + 1) xs)) other ∙ rest.answers;
    entries = ap (λ a. grants_among (i + 1) (entry_before a (entries xs))) still.no_entry ∙ rest.entries;
    window = rest.window;
  }

  -- a call that names it passes no slot
  still_named : (n : Meaning) (t : State) (c : PlanCall) → names (i + 1) c ≡ true → PassesNoSlot n t c (answer_in n t c)
  still_named n t c own = ⊎_elim
      (λ (passing : PassesSlot n t c (answer_in n t c)).
      let unnamed : names (i + 1) c ≡ false = ap (names (i + 1)) passing.is_slot in absurd cc)
      (λ still. still) (passing_or_still n t c (answer_in n t c) refl)

  -- guest i sees of calls what it sees where only its own calls and the slots that passed are made
  by_itself : (xs : List Exchange) (m : Meaning) (s : State) (n : Meaning) (t : State) → Ready p s → Ready p t
      → s.passed ≡ t.passed → AlikeToGuest p i m s n t → AnswersOf m s xs
      → SeenAlone xs (own_part (i + 1) xs) m s n t
  unfolding own_part with_answers device_end answers_to entries AnswersOf
  by_itself [] m s n t ready ready′ time tied said = record {
    answers = refl;
    entries = refl;
    window = tied.device.contents;
  }
  by_itself (x ∷ xs) m s n t ready ready′ time tied (said, later) =
      let c = x.call in
      let own = own_part (i + 1) xs in
      ⊎_elim
      (λ (passing : PassesSlot m s c x.answer).
      let none : slot_refusal t ≡ None =
      (let same : slot_refusal s ≡ slot_refusal t = rw (ready.plan, ready′.plan, time) refl in
      sym same ∙ passing.allowed) in
      let passes′ = slot_passing n t (answer_in n t slot) none refl in
      let tied′ = slot_tied p registers ok fit i within m s n t ready ready′ time tied in
      let rest =
      by_itself xs (meaning_after m s c) (state_after s c) (meaning_after n t slot) (state_after t slot)
      (ready_after p s c ready) (ready_after p t slot ready′)
      (ap (λ u. u.passed) passing.state ∙ ap (λ q. q + 1) time ∙ sym (ap (λ u. u.passed) passes′.state))
      (rw (passing.state, passing.device, passes′.state, passes′.device) tied′) later in
      let part : cond (is_some (entry_of x.answer)) (slot ∷ own) (cond (names (i + 1) c) (c ∷ own) own) ≡ slot ∷ own
      = ap (λ a. cond (is_some (entry_of a)) (slot ∷ own) (cond (names (i + 1) c) (c ∷ own) own)) passing.answer in
      subst (λ cs. SeenAlone (x ∷ xs) cs m s n t) (sym part)
      (slot_view x xs own m s n t ready ready′ time tied passing passes′ rest))
      (λ (still : PassesNoSlot m s c x.answer).
      let part : cond (is_some (entry_of x.answer)) (slot ∷ own) (cond (names (i + 1) c) (c ∷ own) own)
      ≡ cond (names (i + 1) c) (c ∷ own) own
      = ap (λ a. cond (is_some a) (slot ∷ own) (cond (names (i + 1) c) (c ∷ own) own)) still.no_entry in
      ⊎_elim
      (λ (named : names (i + 1) c ≡ true).
      let still′ = still_named n t c named in
      let rest =
      by_itself xs (meaning_after m s c) (state_after s c) (meaning_after n t c) (state_after t c)
      (ready_after p s c ready) (ready_after p t c ready′)
      (still.passed ∙ time ∙ sym still′.passed)
      (own_tied p i within ok.form.sizes.guests.few m s n t ready ready′ time tied c x.answer
      (answer_in n t c) still still′ named) later in
      subst (λ cs. SeenAlone (x ∷ xs) cs m s n t) (sym (part ∙ ap (λ b. cond b (c ∷ own) own) named))
      (own_view x xs own m s n t named
      (said ∙ own_answer p i within ok.form.sizes.guests.few m s n t ready ready′ time tied c named) still still′ rest))
      (λ (other : names (i + 1) c ≡ false).
      let rest =
      by_itself xs (meaning_after m s c) (state_after s c) n t (ready_after p s c ready) ready′ (still.passed ∙ time)
      (tied_trans p i (meaning_after m s c) (state_after s c) m s n t
      (foreign_tied p i m s c x.answer still other) tied) later in
      subst (λ cs. SeenAlone (x ∷ xs) cs m s n t) (sym (part ∙ ap (λ b. cond b (c ∷ own) own) other))
      (foreign_view x xs own m s n t other still rest))
      (cases_Bool (names (i + 1) c)))
      (passing_or_still m s c x.answer said)

-- rigs that have just been loaded with a plan, around devices that are alike, are alike to each guest
tied_at_load : (p : Plan) (i : ℕ) (m n : Meaning) → Alike m n → AlikeToGuest p i m (state_at_load p) n (state_at_load p)
tied_at_load p i m n alike = record {
  row = refl;
  tally = refl;
  device = (let g = guest_at p.guests i in alike_within g.first_register (window_end g) m n alike);
}

-- in two runs of rigs that are loaded alike, a guest that asks alike sees the same, whatever the others ask
pub one_view : (p : Plan) (registers : ℕ) → Accepted p registers → ValuesFit p → (m n : Meaning) → Alike m n
    → (xs ys : List Exchange)
    → AnswersOf m (state_at_load p) xs → AnswersOf n (state_at_load p) ys → (i : ℕ) → i < length p.guests
    → CallsAlike (i + 1) xs ys
    → SameView p i xs ys (device_end m (state_at_load p) xs) (device_end n (state_at_load p) ys)
one_view p registers ok fit m n alike xs ys first second i within asks =
    let s = state_at_load p in
    let ready = ready_at_load p in
    let alone = λ (cs : List PlanCall). with_answers n s cs in
    let a = by_itself p registers ok fit i within xs m s n s ready ready refl (tied_at_load p i m n alike) first in
    let b =
    by_itself p registers ok fit i within ys n s n s ready ready refl
    (record { row = refl; tally = refl; device = alike_to_itself (guest_at p.guests i) n }) second in
    let both =
    subst (λ cs. SameView p i xs (alone cs) (device_end m s xs) (device_end n s (alone cs)))
    (same_part (i + 1) xs ys asks) a in
    let zs = alone (own_part (i + 1) ys) in
    view_trans p i xs zs ys (device_end m s xs) (device_end n s zs) (device_end n s ys) both
    (view_sym p i ys zs (device_end n s ys) (device_end n s zs) b)
