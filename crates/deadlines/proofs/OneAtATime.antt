-- One unit of work at a time: of the records that wait, the one that goes first has a unit of its work done.
-- By any order that puts an earlier deadline first, that serves the records the earliest deadline first.
use Rattle.std.proofs.Common.{◌≡◌, refl, sym, ap, ◌∙◌, ℕ, ◌+◌, ◌<◌, ◌≤◌, Bool, false, cond, ◌==◌, arith}
use Rattle.std.proofs.Common.{IsTrue, ⊎_elim, List, length, slice_set, slice_index_or, Option, Some, None}
use native.Mathlib.Decide.{dec_lt, ℕ_discrete as dec_eq}
use Rattle.std.proofs.lemmas.Bool.{cases_Bool, true≢false, eq-eqb, ne_eqb}
use Rattle.std.proofs.lemmas.List.{get_or-set_other, get_or-set_same}
use Rattle.deadlines.specs.Course.{StreamState, with_unit, Serves, no_work, serves}

-- records of some type can be served: each is a stream of work, and waits while it has some
pub record Servable (R : Type 0) : Type 0 where
  -- whether a record waits
  pub waits : R → Bool
  -- the work in it, and when that is due
  pub stream : R → StreamState
  -- the record after one unit of its work
  pub serve : R → R
  -- what stands past the end of a list of them; it plays no part
  pub past_end : R
  -- a record that does not wait has no work
  pub idle : (x : R) → waits x ≡ false → (stream x).work ≡ 0
  -- one unit of work is one less, where there is any, and moves no deadline
  pub one_less : (x : R) → 0 < (stream x).work → stream x ≡ with_unit (stream (serve x))

-- 1 if an answer names this place, else 0
abbrev pub names_place : Option ℕ → ℕ → ℕ
names_place None k = 0
names_place (Some p) k = cond (p == k) 1 0

module _ {R : Type 0} (s : Servable R) where
  -- the record at a place of a list
  abbrev pub at : List R → ℕ → R
  at xs k = slice_index_or xs k s.past_end

  -- when a record is due
  abbrev pub due : R → ℕ
  due x = (s.stream x).deadline

  -- the records after one unit of work of the one that an answer names, if it names one
  abbrev pub after_unit : List R → Option ℕ → List R
  after_unit xs None = xs
  after_unit xs (Some p) = slice_set xs p (s.serve (at xs p))

  -- no record waits
  abbrev pub NoneWaits : List R → Type 0
  NoneWaits xs = (k : ℕ) → k < length xs → s.waits (at xs k) ≡ false

  -- one unit of work is done of the record at place p, which waits, and none that waits has an earlier deadline
  pub record ServedAt (xs : List R) (p : ℕ) (ys : List R) : Type 0 where
    pub changed : ys ≡ after_unit xs (Some p)
    pub within : p < length xs
    pub waiting : IsTrue (s.waits (at xs p))
    pub earliest : (k : ℕ) → k < length xs → IsTrue (s.waits (at xs k)) → due (at xs p) ≤ due (at xs k)

  -- so it is of the record that an answer names; where it names none, none waits and nothing changes
  abbrev pub ServedBy : List R → Option ℕ → List R → Type 0
  ServedBy xs None ys = (ys ≡ xs) × NoneWaits xs
  ServedBy xs (Some p) ys = ServedAt xs p ys

  module _ (before : R → R → Bool) where
    -- an order of records puts an earlier deadline first
    abbrev pub EarlierFirst : Type 0
    EarlierFirst = (x y : R) → due x < due y → IsTrue (before x y)

    -- the record at place p waits, and none that waits goes before it
    pub record IsNext (xs : List R) (p : ℕ) : Type 0 where
      pub within : p < length xs
      pub waiting : IsTrue (s.waits (at xs p))
      pub first : (k : ℕ) → k < length xs → IsTrue (s.waits (at xs k)) → before (at xs k) (at xs p) ≡ false

    -- an answer names such a record, or none where none waits
    abbrev pub NamesNext : List R → Option ℕ → Type 0
    NamesNext xs None = NoneWaits xs
    NamesNext xs (Some p) = IsNext xs p

    -- a record that another does not go before is due no later than the other
    due_no_later : EarlierFirst → (x y : R) → before y x ≡ false → due x ≤ due y
    due_no_later earlier x y not_before =
        elim (dec_lt (due y) (due x)) [
          | yes sooner ↦ absurd (true≢false (sym (earlier y x sooner) ∙ not_before))
          | no no_sooner ↦ omega (arith, no_sooner)
        ]

    -- one unit of work of the next record is of one with the earliest deadline
    pub served_by_next : EarlierFirst → (xs : List R) (r : Option ℕ) (ys : List R) → NamesNext xs r
        → ys ≡ after_unit xs r → ServedBy xs r ys
    served_by_next earlier xs None ys none same = (same, none)
    served_by_next earlier xs (Some p) ys next changed = record {
      changed = changed;
      within = next.within;
      waiting = next.waiting;
      earliest = λ k l waits. due_no_later earlier (at xs p) (at xs k) (next.first k l waits);
    }

  module _ (xs : List R) (p : ℕ) (ys : List R) (by : ServedAt xs p ys) where
    -- the record at this place is what one unit of its work makes of it
    here : at ys p ≡ s.serve (at xs p)
    here = ap (λ zs. at zs p) by.changed ∙ get_or-set_same xs p (s.serve (at xs p)) s.past_end by.within

    -- every other is as it was
    elsewhere : (k : ℕ) → (k ≡ p → ⊥) → at ys k ≡ at xs k
    elsewhere k apart = ap (λ zs. at zs k) by.changed ∙ get_or-set_other xs p k (s.serve (at xs p)) s.past_end apart

  -- a record with work waits
  waits_for_work : (x : R) → 0 < (s.stream x).work → IsTrue (s.waits x)
  waits_for_work x some =
      ⊎_elim (λ waits. waits) (λ idle. absurd (omega (arith, some, s.idle x idle))) (cases_Bool (s.waits x))

  -- the records that wait are among the first n, and have work
  abbrev pub WaitForWork : ℕ → List R → Type 0
  WaitForWork n xs =
      (k : ℕ) → k < length xs → IsTrue (s.waits (at xs k)) → (k < n) × (0 < (s.stream (at xs k)).work)

  module _ (n : ℕ) (xs : List R) (few : WaitForWork n xs) where
    -- the record that is named has one unit of work less
    unit_served : (p : ℕ) (ys : List R) → ServedAt xs p ys → s.stream (at xs p) ≡ with_unit (s.stream (at ys p))
    unit_served p ys by =
        s.one_less (at xs p) (few p by.within by.waiting).1 ∙ ap (λ x. with_unit (s.stream x)) (sym (here xs p ys by))

    -- of the record that is named there is one unit of work less, of the others as much as there was
    pub work_served : (r : Option ℕ) (ys : List R) → ServedBy xs r ys
        → (k : ℕ) → (s.stream (at ys k)).work + names_place r k ≡ (s.stream (at xs k)).work
    work_served None ys (same, none) k = omega (arith, ap (λ zs. (s.stream (at zs k)).work) same)
    work_served (Some p) ys by k =
        elim (dec_eq k p) [
          | yes e ↦ rw (e, eq-eqb p p refl) (omega (arith, ap (λ x. x.work) (unit_served p ys by)))
          | no apart ↦
              rw (ne_eqb p k (λ e. apart (sym e)))
              (omega (arith, ap (λ x. (s.stream x).work) (elsewhere xs p ys by k apart)))
        ]

    -- the first n records are served the earliest deadline first
    pub serves_earliest : n ≤ length xs → (r : Option ℕ) (ys : List R) → ServedBy xs r ys
        → Serves n 1 (λ k. s.stream (at xs k)) (λ k. s.stream (at ys k))
    serves_earliest all None ys (same, none) =
        no_work (λ k l. s.idle (at xs k) (none k (omega (arith, l, all)))) (λ k l. ap (λ zs. s.stream (at zs k)) same)
    serves_earliest all (Some p) ys by =
        serves p (few p by.within by.waiting).0 refl (unit_served p ys by)
        (λ k l apart. ap s.stream (elsewhere xs p ys by k apart))
        (λ k l some. by.earliest k (omega (arith, l, all)) (waits_for_work (at xs k) some))
