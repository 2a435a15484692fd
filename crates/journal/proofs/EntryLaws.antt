-- Entries, their nine fields and their sixteen bytes, each from the other.
use Rattle.std.proofs.Common.{◌≡◌, ◌≢◌, ℕ, ◌<◌, ◌≤◌, Bool, true, cond, ◌&&◌, eqb, ltb}
use Rattle.std.proofs.Common.{List, length, get_or, sym, refl, ap, ◌∙◌, inl, inr, arith}
use Rattle.std.proofs.lemmas.List.{take_all}
use Rattle.std.proofs.lemmas.Bool.{cases_eq, ltb-true, and_parts}
use Rattle.std.proofs.lemmas.Bool.Decides.{nat_tests}
use Rattle.std.proofs.lemmas.Nat.{from_be_bytes-to_be_bytes_2, from_be_bytes-to_be_bytes_4}
use Rattle.journal.specs.declared.entries.Outcome.{Outcome}
use Rattle.journal.specs.declared.entries.Outcome.TheVariants.{Written, Read, Refused}
use Rattle.journal.specs.declared.entries.Access.{Access}
use Rattle.journal.specs.declared.entries.Event.{Event}
use Rattle.journal.specs.declared.entries.Event.TheVariants.{Unassigned, Fixed, Used, Idle}
use Rattle.journal.specs.declared.entries.Entry.{Entry}
use Rattle.journal.specs.declared.fields.Fields.{Fields}
use Rattle.journal.specs.Entries.{outcome_number, outcome_from, fields_of, field_bytes}
use Rattle.journal.specs.Entries.{fields_at, lawful, access_from, event_from, entry_from}
use Rattle.journal.proofs.Digits.{Bytes, digits2, digits4, spelled, spelled_is}

-- sixteen bytes come back from their fields
pub part_back : (bs : List ℕ) → length bs ≡ 16 → Bytes bs → field_bytes (fields_at bs) ≡ bs
part_back bs n h =
    let s = digits4 (get_or bs 0 0) (get_or bs 1 0) (get_or bs 2 0) (get_or bs 3 0) (h 0) (h 1) (h 2) (h 3) in
    let v = digits2 (get_or bs 10 0) (get_or bs 11 0) (h 10) (h 11) in
    let d = digits4 (get_or bs 12 0) (get_or bs 13 0) (get_or bs 14 0) (get_or bs 15 0) (h 12) (h 13) (h 14) (h 15) in
    let e : field_bytes (fields_at bs) ≡ spelled 16 0 bs = cc in
    e ∙ spelled_is 16 0 bs (omega arith) ∙ take_all 16 bs (omega arith)

-- an outcome comes back from its number
outcome_back : (o : Outcome) → outcome_from (outcome_number o) ≡ o
outcome_back Written = refl
outcome_back Read = refl
outcome_back Refused = refl

-- an access comes back from its register, the number of its outcome, and its value
access_back : (a : Access)
    → ◌≡◌ {A = Access}
    (record { register = a.register; outcome = outcome_from (outcome_number a.outcome); value = a.value }) a
access_back a =
    ap (λ (o : Outcome). record { register = a.register; outcome = o; value = a.value }) (outcome_back a.outcome)

-- an entry comes back from its fields
pub entry_back : (e : Entry) → entry_from (fields_of e) ≡ e
entry_back e =
    elim e.event as (λ x.
    entry_from (fields_of (record { slot = e.slot; event = x })) ≡ record { slot = e.slot; event = x }) [
      | Unassigned ↦ refl
      | Fixed p a ↦ ap (λ (y : Access). record { slot = e.slot; event = Fixed p y }) (access_back a)
      | Used g t p a d ↦ ap (λ (y : Access). record { slot = e.slot; event = Used g t p y d }) (access_back a)
      | Idle g ↦ refl
    ]

-- the slot of an entry is that of its fields
pub slot_of : (e : Entry) → (fields_of e).slot ≡ e.slot
slot_of e = ap (λ (x : Entry). x.slot) (entry_back e)

-- a number from 1 to 3 comes back from the outcome that has it
number_back : (n : ℕ) → 1 ≤ n → n ≤ 3 → outcome_number (outcome_from n) ≡ n
number_back n lo hi =
    elim (cases_eq n 1) [
      | inl e ↦ rw e
      | inr n1 ↦ elim (cases_eq n 2) [ inl e ↦ rw e | inr n2 ↦ (let e : n ≡ 3 = omega arith in rw e) ]
    ]

-- fields that keep the rules, as plain facts by kind
pub data Shape (f : Fields) : Type 0 where
  unassigned : f.kind ≡ 0 → f.guest ≡ 0 → f.item ≡ 0 → f.position ≡ 0 → f.register ≡ 0 → f.outcome ≡ 0 → f.value ≡ 0
      → f.deadline ≡ 0 → Shape f
  fixed : f.kind ≡ 1 → f.guest ≡ 0 → f.position ≡ 0 → 1 ≤ f.outcome → f.outcome ≤ 3 → f.value < 65536 → f.deadline ≡ 0
      → Shape f
  used : f.kind ≡ 2 → 1 ≤ f.outcome → f.outcome ≤ 3 → f.value < 65536 → f.deadline < 4294967296 → Shape f
  idle : f.kind ≡ 3 → f.item ≡ 0 → f.position ≡ 0 → f.register ≡ 0 → f.outcome ≡ 0 → f.value ≡ 0 → f.deadline ≡ 0
      → Shape f

-- a kind other than 0, 1 and 2 whose rules hold is 3, whatever the rules of each kind are
last_kind : (k : ℕ) (u x s i : Bool) → cond (eqb k 0) u (cond (eqb k 1) x (cond (eqb k 2) s (eqb k 3 && i))) ≡ true
    → k ≢ 0 → k ≢ 1 → k ≢ 2 → k ≡ 3
last_kind k u x s i h n0 n1 n2 = grind (arith, nat_tests)

-- the rules as plain facts
pub slot_small : (f : Fields) → lawful f ≡ true → f.slot < 16777216
slot_small f h = ltb-true _ _ (and_parts _ _ h).0

module _ (f : Fields) (h : lawful f ≡ true) where
  -- of fields of kind 0 that keep the rules, all but slot and kind are 0
  of_unassigned : f.kind ≡ 0 → Shape f
  of_unassigned k =
      unassigned k (grind (arith, nat_tests)) (grind (arith, nat_tests)) (grind (arith, nat_tests))
      (grind (arith, nat_tests)) (grind (arith, nat_tests)) (grind (arith, nat_tests)) (grind (arith, nat_tests))

  -- of fields of kind 1 that keep the rules, guest, position and deadline are 0,
  -- the outcome is 1 to 3 and the value below 65,536
  of_fixed : f.kind ≡ 1 → Shape f
  of_fixed k =
      fixed k (grind (arith, nat_tests)) (grind (arith, nat_tests)) (grind (arith, nat_tests))
      (grind (arith, nat_tests)) (grind (arith, nat_tests)) (grind (arith, nat_tests))

  -- of fields of kind 2 that keep the rules, the outcome is 1 to 3,
  -- the value below 65,536 and the deadline below 4,294,967,296
  of_used : f.kind ≡ 2 → Shape f
  of_used k =
      used k (grind (arith, nat_tests)) (grind (arith, nat_tests)) (grind (arith, nat_tests)) (grind (arith, nat_tests))

  -- of fields of kind 3 that keep the rules, all but slot, kind and guest are 0
  of_idle : f.kind ≡ 3 → Shape f
  of_idle k =
      idle k (grind (arith, nat_tests)) (grind (arith, nat_tests)) (grind (arith, nat_tests)) (grind (arith, nat_tests))
      (grind (arith, nat_tests)) (grind (arith, nat_tests))

  -- fields that keep the rules are of one of the four kinds, with the plain facts of that kind
  pub shape : Shape f
  shape =
      elim (cases_eq f.kind 0) [
        | inl k ↦ of_unassigned k
        | inr n0 ↦ elim (cases_eq f.kind 1) [
          | inl k ↦ of_fixed k
          | inr n1 ↦ elim (cases_eq f.kind 2) [
            | inl k ↦ of_used k
            | inr n2 ↦ of_idle (last_kind f.kind _ _ _ _ (and_parts (ltb f.slot 16777216) _ h).1 n0 n1 n2)
          ]
        ]
      ]

-- nine fields that are equal to nine others one by one are equal to them as a whole
fields_same : (f g : Fields) → f.slot ≡ g.slot → f.kind ≡ g.kind → f.guest ≡ g.guest → f.item ≡ g.item
    → f.position ≡ g.position → f.register ≡ g.register
    → f.outcome ≡ g.outcome → f.value ≡ g.value → f.deadline ≡ g.deadline → f ≡ g
fields_same f g a b c d e i j k l =
    let mk : ℕ → ℕ → ℕ → ℕ → ℕ → ℕ → ℕ → ℕ → ℕ → Fields =
    λ x1 x2 x3 x4 x5 x6 x7 x8 x9. record {
      slot = x1;
      kind = x2;
      guest = x3;
      item = x4;
      position = x5;
      register = x6;
      outcome = x7;
      value = x8;
      deadline = x9;
    } in
    let r : mk f.slot f.kind f.guest f.item f.position f.register f.outcome f.value f.deadline
    ≡ mk g.slot g.kind g.guest g.item g.position g.register g.outcome g.value g.deadline = cc in r

module _ (f : Fields) where
  -- fields that keep the rules come back from their entry
  pub fields_back : lawful f ≡ true → fields_of (entry_from f) ≡ f
  fields_back h =
      let at : Event → Fields = λ x. fields_of (record { slot = f.slot; event = x }) in
      elim (shape f h) [
        | unassigned k g i p r o v d ↦
            (let e : event_from f ≡ Unassigned = rw k in
            ap at e
            ∙ fields_same (at Unassigned) f refl (sym k) (sym g) (sym i) (sym p) (sym r) (sym o) (sym v) (sym d))
        | fixed k g p lo hi v d ↦
            (let e : event_from f ≡ Fixed f.item (access_from f) = rw k in
            ap at e
            ∙ fields_same (at (Fixed f.item (access_from f))) f refl (sym k) (sym g) refl (sym p) refl
            (number_back f.outcome lo hi) refl (sym d))
        | used k lo hi v d ↦
            (let e : event_from f ≡ Used f.guest f.item f.position (access_from f) f.deadline = rw k in
            ap at e
            ∙ fields_same (at (Used f.guest f.item f.position (access_from f) f.deadline)) f refl
            (sym k) refl refl refl refl (number_back f.outcome lo hi) refl refl)
        | idle k i p r o v d ↦
            (let e : event_from f ≡ Idle f.guest = rw k in
            ap at e
            ∙ fields_same (at (Idle f.guest)) f refl (sym k) refl (sym i) (sym p) (sym r) (sym o) (sym v) (sym d))
      ]

  -- fields with the plain facts of some kind have a value below 65,536
  value_small : Shape f → f.value < 65536
  value_small (unassigned k g i p r o v d) = omega arith
  value_small (fixed k g p lo hi v d) = v
  value_small (used k lo hi v d) = v
  value_small (idle k i p r o v d) = omega arith

  -- fields with the plain facts of some kind have a deadline below 4,294,967,296
  deadline_small : Shape f → f.deadline < 4294967296
  deadline_small (unassigned k g i p r o v d) = omega arith
  deadline_small (fixed k g p lo hi v d) = omega arith
  deadline_small (used k lo hi v d) = d
  deadline_small (idle k i p r o v d) = omega arith

  -- fields that keep the rules come back from their sixteen bytes
  pub bytes_back : lawful f ≡ true → fields_at (field_bytes f) ≡ f
  bytes_back h =
      fields_same (fields_at (field_bytes f)) f
      (from_be_bytes-to_be_bytes_4 f.slot (omega (arith, slot_small f h))) refl refl refl refl refl refl
      (from_be_bytes-to_be_bytes_2 f.value (value_small (shape f h)))
      (from_be_bytes-to_be_bytes_4 f.deadline (deadline_small (shape f h)))
