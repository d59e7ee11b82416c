use Rattle.std.proofs.Common.{map, refl, arith}
use Rattle.mips_isa.specs.Actions.{action_of}
use Rattle.mblock.specs.Clean.{slot_actions}
use Rattle.mblock.specs.BlockMeaning.{exit_shape}
use Rattle.sym_exec.specs.Asked.{asked_by_all, asked_by_shape}
use Rattle.sym_exec.proofs.Chains.{chain-on}
use Rattle.sym_exec.proofs.Tickets.{later_more, hold_on, guards_on, leaves_on, err_always, lacks_here, lacks_left, lacks_right}
use Rattle.sym_exec.proofs.Tracking.{needed_few, tracks_on}
use Rattle.sym_exec.proofs.run.finish.Goals as goal

pub returns-clause-trees : goal.returns-clause-trees
returns-clause-trees c = λ s h.
    let run = c.in_ok-steps.ensures.tracks s h in
    let own = c.in_ok-put_own.ensures.pass.later in
    let last = c.in_ok-run_slot.ensures.tracks _ (tracks_on own run (c.in_ok-put_own.ensures.hold _ run.hold) refl refl) in
    let made = c.in_ok-memory.ensures.pass.later in
    let held = hold_on made last.hold in
    record {
      places = record { regs = held.regs; hi = held.hi; lo = held.lo; memory = c.in_ok-memory.ensures.tree _ last.memory };
      exit = leaves_on (later_more own (later_more c.in_ok-run_slot.ensures.pass.later made)) c.leave-left.result _ _ (c.leave-left.ensures _ _ run.hold);
      guards = guards_on made last.guards;
    }

pub run_slot-requires-clause-chain : goal.run_slot-requires-clause-chain
run_slot-requires-clause-chain c = chain-on c.in_ok-put_own.ensures.pass.later c.in_ok-steps.ensures.chain

pub returns-in_err-steps-clause-absent : goal.returns-in_err-steps-clause-absent
returns-in_err-steps-clause-absent c = λ s h. err_always _ (lacks_left _ (c.in_err-steps.ensures.absent s h))

pub returns-in_err-put_own-clause-absent : goal.returns-in_err-put_own-clause-absent
returns-in_err-put_own-clause-absent c = λ s h. err_always _ (lacks_right _ (lacks_left _ c.in_err-put_own.ensures.absent))

pub returns-in_err-run_slot-clause-absent : goal.returns-in_err-run_slot-clause-absent
returns-in_err-run_slot-clause-absent c = λ s h.
    let run = c.in_ok-steps.ensures.tracks s h in
    let put = tracks_on c.in_ok-put_own.ensures.pass.later run (c.in_ok-put_own.ensures.hold _ run.hold) refl refl in
    err_always _ (lacks_right _ (lacks_right _ (lacks_left _ (c.in_err-run_slot.ensures.absent _ put))))

pub returns-in_err-memory-clause-absent : goal.returns-in_err-memory-clause-absent
returns-in_err-memory-clause-absent c = λ s h.
    let run = c.in_ok-steps.ensures.tracks s h in
    let put = tracks_on c.in_ok-put_own.ensures.pass.later run (c.in_ok-put_own.ensures.hold _ run.hold) refl refl in
    let lacks = c.in_err-memory.ensures.absent _ (c.in_ok-run_slot.ensures.tracks _ put).memory in
    err_always _ (lacks_right (asked_by_all (map action_of c.args.insts.now) s) (lacks_right (asked_by_shape (exit_shape c.args.exit.now))
    (lacks_right (asked_by_all (slot_actions c.args.slot.now) _) (lacks_here lacks))))

pub run_slot-requires-clause-few : goal.run_slot-requires-clause-few
run_slot-requires-clause-few c =
    omega (arith, c.in_ok-steps.ensures.guards, c.in_ok-steps.ensures.capacity, needed_few c.args.insts.now, c.requires.few)
