use Rattle.std.proofs.Common.{ℕ, ◌<◌, List, length, take, refl, sym, subst, rules, arith, length-take}
use Rattle.std.specs.List.{All}
use Rattle.std.proofs.lemmas.List.{get_or-take}
use Rattle.std.proofs.lemmas.List.Elements.{All-from_get_or}
use Rattle.std.proofs.iter.runs.Made.{chains}
use Rattle.setups.specs.declared.setup.Guest.{Guest}
use Rattle.setups.specs.Plan.{no_guest, guest_at}
use Rattle.setups.specs.Limits.{WindowFits, Apart, WindowOk}
use Rattle.admission.specs.Verdict.{FirstFailing}
use Rattle.admission.proofs.limits.check_windows.Goals as goal

-- what the code tests of guest k
abbrev Passes : ℕ → List Guest → ℕ → Type 0
Passes registers gs k = WindowFits registers (guest_at gs k) × All (Apart (guest_at gs k)) (take k gs)

-- the guests before k are those below it
window_ok-from_passes : (registers : ℕ) (gs : List Guest) (k : ℕ) → k < length gs → Passes registers gs k
    → WindowOk registers gs k
window_ok-from_passes registers gs k lt passes = record {
  fits = passes.0;
  apart = λ e h. subst (Apart (guest_at gs k)) (get_or-take k gs e no_guest h)
      (passes.1 e no_guest (simp length-take (omega arith)));
}

passes-from_window_ok : (registers : ℕ) (gs : List Guest) (k : ℕ) → WindowOk registers gs k → Passes registers gs k
passes-from_window_ok registers gs k ok = (
  ok.fits,
  All-from_get_or (Apart (guest_at gs k)) (take k gs) no_guest
      (λ e h. let below : e < k = omega (arith, simp length-take at h) in subst (Apart (guest_at gs k))
      (sym (get_or-take k gs e no_guest below)) (ok.apart e below)),
)

pub returns-in-Some : goal.returns-in-Some
returns-in-Some c =
    let registers = c.args.registers in
    let gs = c.args.guest_tasks.now.guests.now in
    let i = c.in-Some.i in
    let found : FirstFailing (Passes registers gs) i × (i < length gs) = search (rules, chains) in (
      i,
      refl,
      found.1,
      record {
        broken = λ ok. found.0.broken (passes-from_window_ok registers gs i ok);
        before = λ k h. window_ok-from_passes registers gs k (omega (arith, h, found.1)) (found.0.before k h);
      },
    )

pub returns-in-None : goal.returns-in-None
returns-in-None c k lt =
    let registers = c.args.registers in
    let gs = c.args.guest_tasks.now.guests.now in
    let all : (k : ℕ) → k < length gs → Passes registers gs k = search (rules, chains) in
    window_ok-from_passes registers gs k lt (all k lt)
