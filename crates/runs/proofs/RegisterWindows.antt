-- The window of a guest: what an operation does to the device as the guest sees it, and which operations are its own.
use Rattle.std.proofs.Common.{◌≡◌, ap, ℕ, ◌+◌, ◌-◌, ◌<◌, ◌≤◌, ⊎_elim, List, length, arith}
use native.Mathlib.Decide.{dec_lt}
use Rattle.std.specs.List.{All}
use Rattle.std.proofs.lemmas.List.{get_or_past}
use Rattle.std.proofs.lemmas.List.Sums.{sum_by_more}
use Rattle.std.proofs.lemmas.List.Elements.{All-get_or, All-take, All-drop}
use Rattle.device.specs.Meaning.{Meaning}
use Rattle.device.proofs.Alike.{AlikeWithin}
use Rattle.device.proofs.Alike.{within_refl, same_read, same_write, same_after, write_outside}
use Rattle.setups.specs.declared.setup.Operation.{Operation}
use Rattle.setups.specs.declared.setup.Operation.TheVariants.{Write, Read}
use Rattle.setups.specs.declared.setup.Guest.{Guest}
use Rattle.setups.specs.Plan.{Plan, no_operation, guest_at, cost_of, task_start, operation_start, no_task, operation_at}
use Rattle.setups.specs.Plan.{OwnsPlace, ValueFits, ValuesFit}
use Rattle.setups.specs.Limits.{window_end, Inside, Apart, WindowsOk}
use Rattle.admission.specs.Verdict.{Accepted}
use Rattle.setups.proofs.GuestPlaces.{task_places, prefix_grows}
use Rattle.rig.proofs.PlanPlaces.{agreeing, place_within, task_is, operation_is}
use Rattle.rig.specs.Access.{access_of, after_operation, write_access, read_access}
use Rattle.rig.specs.Parts.{task_of, operations_of, first_operation, fixed_operation}

-- two devices are alike to a guest: they are alike within its window
abbrev pub AlikeTo : Guest → Meaning → Meaning → Type 0
AlikeTo g m n = AlikeWithin g.first_register (window_end g) m n

-- a device is alike to itself, to each guest
pub alike_to_itself : (g : Guest) (m : Meaning) → AlikeTo g m m
alike_to_itself g m = within_refl g.first_register (window_end g) m

module _ (g : Guest) (m n : Meaning) (alike : AlikeTo g m n) where
  -- the same operation leaves devices alike to a guest that were
  pub same_operation : (o : Operation) → ValueFits o → AlikeTo g (after_operation m o) (after_operation n o)
  same_operation (Write r v) fits = same_after g.first_register (window_end g) m n alike r v fits
  same_operation (Read r) fits = alike

  -- an operation inside its window is answered alike by both
  pub same_access : (o : Operation) → ValueFits o → Inside g o → access_of m o ≡ access_of n o
  same_access (Write r v) fits within =
      ap (write_access r v) (same_write g.first_register (window_end g) m n alike r v fits)
  same_access (Read r) fits within =
      ap (read_access r) (same_read g.first_register (window_end g) m n alike r within.from within.to)

-- an operation outside the window of a guest leaves a device alike to it
pub same_outside : (g : Guest) (m : Meaning) (o : Operation) → (Inside g o → ⊥) → AlikeTo g (after_operation m o) m
same_outside g m (Write r v) out =
    write_outside g.first_register (window_end g) m r v (λ from to. out (record { from = from; to = to }))
same_outside g m (Read r) out = alike_to_itself g m

-- the operation at any place of a list writes a number of 16 bits, if each of the list does
fits_at : (os : List Operation) → All ValueFits os → (q : ℕ) → ValueFits (operation_at os q)
fits_at os fit q =
    elim (dec_lt q (length os)) [
      | yes h ↦ All-get_or ValueFits os q no_operation h fit
      | no h ↦ rw (get_or_past os q no_operation (omega (arith, h))) (omega arith)
    ]

-- so does each operation of a task
pub operation_fits : (p : Plan) → ValuesFit p → (h k q : ℕ) → ValueFits (operation_at (operations_of p h k) q)
operation_fits p fit h k q =
    let later = All-drop ValueFits (first_operation p h k) p.operations fit.operations in
    fits_at (operations_of p h k) (All-take ValueFits (task_of p h k).cost _ later) q

-- and each fixed operation
pub fixed_fits : (p : Plan) → ValuesFit p → (n : ℕ) → ValueFits (fixed_operation p n)
fixed_fits p fit n = fits_at p.fixed fit.fixed (n - 1)

-- an operation inside a window is not inside one apart from it
apart_outside : (g h : Guest) (o : Operation) → Apart g h → Inside h o → Inside g o → ⊥
apart_outside g h o apart there here = ⊎_elim
    (λ (e : window_end h ≤ g.first_register). omega (arith, e, there.to, here.from))
    (λ (e : window_end g ≤ h.first_register). omega (arith, e, there.from, here.to)) apart

-- an operation inside the window of a guest is not inside that of another
pub other_outside : (registers : ℕ) (gs : List Guest) → WindowsOk registers gs
    → (i h : ℕ) → i < length gs → h < length gs → (h ≡ i → ⊥) → (o : Operation)
    → Inside (guest_at gs h) o → Inside (guest_at gs i) o → ⊥
other_outside registers gs ok i h within there other o a b =
    elim (dec_lt h i) [
      | yes before ↦ apart_outside (guest_at gs i) (guest_at gs h) o ((ok i within).apart h before) a b
      | no after ↦
          apart_outside (guest_at gs h) (guest_at gs i) o ((ok h there).apart i (omega (arith, after, other))) b a
    ]

-- each operation of a task is one of its guest's in part 6
operation_owned : (p : Plan) (registers : ℕ) → Accepted p registers
    → (h k q : ℕ) → h < length p.guests → k < (guest_at p.guests h).task_count → q < (task_of p h k).cost
    → OwnsPlace (operation_start p.guests p.tasks) h (first_operation p h k + q)
unfolding operation_start
operation_owned p registers ok h k q guest task below =
    let its = task_places p.guests p.tasks h (agreeing p registers ok) guest in
    let j = task_start p.guests h + k in
    let more = sum_by_more cost_of p.tasks j no_task (place_within p registers ok h k guest task) in (
      omega (arith, prefix_grows cost_of p.tasks (task_start p.guests h) j (omega arith)),
      omega (
        arith,
        more,
        below,
        ap cost_of (task_is p registers ok h k guest task),
        prefix_grows cost_of p.tasks (j + 1) (task_start p.guests (h + 1)) (omega (arith, its.next, task)),
      ),
    )

-- each operation of a task is inside the window of the task's guest
pub operation_inside : (p : Plan) (registers : ℕ) → Accepted p registers
    → (h k q : ℕ) → h < length p.guests → k < (guest_at p.guests h).task_count → q < (task_of p h k).cost
    → Inside (guest_at p.guests h) (operation_at (operations_of p h k) q)
operation_inside p registers ok h k q guest task below =
    rw (operation_is p registers ok h k guest task q below)
    (ok.form.operations h (first_operation p h k + q) guest (operation_owned p registers ok h k q guest task below))
