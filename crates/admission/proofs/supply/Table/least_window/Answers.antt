use Rattle.std.proofs.Common.{◌≡◌, ◌+◌, ◌-◌, length, sym, ap, ◌∙◌, add-one, arith}
use Rattle.setups.specs.Supply.{window_free, supply, least_to}
use Rattle.setups.proofs.SlotWindows.{window_le, window_front, window_slide, least_more}
use Rattle.admission.proofs.supply.Table.least_window.Goals as goal

pub loop-s-init : goal.loop-s-init
unfolding least_to
loop-s-init c =
    let bytes = c.args.self.now.bytes.now in
    let first = c.free_bytes-free.ensures ∙ sym (window_front bytes c.args.t c.requires) in
    (omega (arith, window_le bytes 0 c.args.t), first, first)

pub overflow_sub-free : goal.overflow_sub-free
overflow_sub-free c = omega (arith, window_slide c.args.self.now.bytes.now c.loop-s.s c.args.t)

pub loop-s-preserved : goal.loop-s-preserved
loop-s-preserved c =
    let bytes = c.args.self.now.bytes.now in
    let t = c.args.t in
    let s = c.loop-s.s in
    let slid : c.loop-s.free + c.slot_free.result - c.slot_free-in-loop-s.result ≡ window_free bytes (s + 1) t =
    omega (arith, window_slide bytes s t, ap (λ k. window_free bytes k t) (add-one s)) in
    omega (arith, window_le bytes (s + 1) t, least_more bytes t s)

pub returns : goal.returns
unfolding supply
returns c =
    let bytes = c.args.self.now.bytes.now in
    let e : c.loop-s.s ≡ length bytes - 1 = omega arith in
    c.loop-s.invariant.2 ∙ ap (least_to bytes c.args.t) e
