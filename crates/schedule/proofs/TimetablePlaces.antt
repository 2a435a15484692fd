-- The places of a timetable, filled in one after another.
use Rattle.std.proofs.Common.{◌≡◌, sym, ap, ◌∙◌, ℕ, ◌+◌, ◌-◌, ◌<◌, List, [], ◌∷◌, ◌++◌, length, map, take, drop}
use Rattle.std.proofs.Common.{slice_set, subst, refl, Result, Ok, Err, IsOk, if◌then◌else◌, rules, arith}
use Rattle.std.proofs.Math.Seq.{take-append_seam, drop-append_seam}
use Rattle.std.proofs.lemmas.Bool.{lt-ltb}
use Rattle.std.proofs.lemmas.Result.{IfOk-at_ok}
use Rattle.std.proofs.lemmas.List.{set-append_right, drop_more, append_assoc}
use Rattle.std.proofs.lemmas.List.FromFn.{length-map-range_with_len, map-range_with_len_more}
use Rattle.decline.specs.declared.Decline.{Decline}
use Rattle.decline.specs.declared.Decline.TheVariants.{SessionEnd}
use Rattle.decline.specs.Refusals.{numbers_of, by_numbers}
use Rattle.setups.specs.Plan.{Plan}
use Rattle.schedule.specs.declared.turn.Turn.{Turn}
use Rattle.schedule.specs.Turns.{turn_numbers}
use Rattle.schedule.specs.Session.{Session, turn_at, session_after, pass_answer, after_pass}
use Rattle.schedule.specs.Timetable.{first_turns, places_with, FillsIn}

-- with one turn more filled in
pub places_more : (p : Plan) (places : List Turn) (i : ℕ) (t : Turn) → i < length places
    → t ≡ turn_at p.table p.guests i → slice_set (places_with p places i) i t ≡ places_with p places (i + 1)
places_more p places i t inside is =
    let f = turn_at p.table p.guests in
    let front = first_turns p i in
    let here : i - i ≡ 0 = omega arith in
    set-append_right front (drop i places) i i t (length-map-range_with_len f 0 i) (omega arith)
    ∙ ap (λ k. front ++ slice_set (drop i places) k t) here
    ∙ ap (λ ys. front ++ slice_set ys 0 t) (drop_more places i t inside)
    ∙ sym (append_assoc front (t ∷ []) (drop (i + 1) places))
    ∙ ap (λ u. (front ++ u ∷ []) ++ drop (i + 1) places) is
    ∙ ap (λ ys. ys ++ drop (i + 1) places) (sym (map-range_with_len_more f 0 i i (omega arith)))

-- i turns of a plan are filled in, and the session has passed as many slots
pub record HasFilled (p : Plan) (places turns : List Turn) (s : Session) (i : ℕ) : Type 0 where
  pub passed : s ≡ session_after p i
  pub filled : turns ≡ places_with p places i

-- the next slot is then passed, and its turn is that of slot i
pub next_turn : (p : Plan) (places turns : List Turn) (s : Session) (i : ℕ) → HasFilled p places turns s i
    → i < p.session → pass_answer s ≡ Ok (turn_at p.table p.guests i)
next_turn p places turns s i so more =
    ap pass_answer so.passed
    ∙ ap (λ b. if b then Ok (turn_at p.table p.guests i) else Err (numbers_of SessionEnd)) (lt-ltb i p.session more)

-- a call that answers something is not refused
pub answered : {X : Type 0} (r : Result X Decline) (x : X) → by_numbers r ≡ Ok x → IsOk r
answered (Ok y) x is = search rules
answered (Err d) x is = absurd cc

-- after passing one slot more, whose turn is filled in, it is one more
pub filled_more : (p : Plan) (places turns : List Turn) (s next : Session) (i : ℕ) (t : Turn)
    → HasFilled p places turns s i → i < length places → i < p.session
    → Ok t ≡ pass_answer s → next ≡ after_pass s → HasFilled p places (slice_set turns i t) next (i + 1)
filled_more p places turns s next i t so inside more answers is =
    record {
      passed =
          is ∙ ap after_pass so.passed
          ∙ ap (λ b. if b then session_after p (i + 1) else session_after p i) (lt-ltb i p.session more);
      filled =
          ap (λ ys. slice_set ys i t) so.filled
          ∙ places_more p places i t inside
          (IfOk-at_ok (λ u. t ≡ u) (answers ∙ next_turn p places turns s i so more) refl);
    }

-- the first i places are then the turns of the slots by their two numbers, and those past them are as they were
pub filled_by_numbers : (p : Plan) (places turns : List Turn) (s : Session) (i n : ℕ) → HasFilled p places turns s i
    → i ≡ n
    → FillsIn p places turns n
filled_by_numbers p places turns s i n so all =
    let front = first_turns p i in
    let rest = drop i places in
    let long : i ≡ length front = sym (length-map-range_with_len (turn_at p.table p.guests) 0 i) in
    subst (FillsIn p places turns) all (record {
      turns =
          ap (λ ts. map turn_numbers (take i ts)) so.filled
          ∙ ap (λ k. map turn_numbers (take k (front ++ rest))) long
          ∙ ap (map turn_numbers) (take-append_seam front rest);
      rest = ap (drop i) so.filled ∙ ap (λ k. drop k (front ++ rest)) long ∙ drop-append_seam front rest;
    })
