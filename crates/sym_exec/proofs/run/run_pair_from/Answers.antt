use Rattle.std.proofs.Common.{◌∙◌, [], refl, sym, ap, length, vec_len, vec_capacity, map, arith, rules}
use Rattle.mips_isa.specs.Actions.{action_of}
use Rattle.mblock.specs.Clean.{slot_actions}
use Rattle.sym_exec.specs.Asked.{block_asked, order_asked}
use Rattle.sym_exec.specs.Growth.{all_stores}
use Rattle.sym_exec.specs.Symbolic.{start_trees}
use Rattle.sym_exec.specs.Runs.{needed}
use Rattle.sym_exec.proofs.Tracking.{same_trees, same_stores, needed_few, stands_in_parts, lacks_early}
use Rattle.sym_exec.proofs.Tracking.{lacks_late, growth_in_parts, tracks_copied, chain_copied}
use Rattle.sym_exec.proofs.Tickets.{goes_on, goes_more, interns_by, known_on, stands_for_on, err_always, lacks_left, lacks_right}
use Rattle.sym_exec.proofs.run.run_pair_from.Goals as goal

pub copy_from-requires-clause-guards : goal.copy_from-requires-clause-guards
copy_from-requires-clause-guards c =
    let none = ap vec_len c.begin-registers.ensures.guards in
    let empty = ap length c.requires.block_room.empty.guards in
    let alike = ap needed c.split_at.ensures.front ∙ (c.shared_counts-shared.ensures.same ∙ sym (ap needed c.split_at-2.ensures.front)) in
    let few = rw (← alike) at (needed_few c.split_at-2.result.0.now) in
    let whole = ap length c.insts-theirs.ensures.value in
    let cut = c.split_at-2.ensures in
    omega (arith, c.in_ok-steps.ensures.guards, none, empty, few, cut.front_len, cut.back_len, whole, c.requires.order_room.few)

pub finish-requires-clause-few : goal.finish-requires-clause-few
finish-requires-clause-few c =
    let none = ap vec_len c.begin-registers.ensures.guards in
    let room = ap vec_capacity c.begin-registers.ensures.guards in
    let few = needed_few c.split_at.result.0.now in
    let whole = ap length c.insts-ours.ensures.value in
    let cut = c.split_at.ensures in
    let ran = c.in_ok-steps.ensures in
    omega (arith, ran.guards, ran.capacity, none, room, few, cut.front_len, cut.back_len, whole, c.requires.block_room.few)

pub finish-requires-2 : goal.finish-requires-2
finish-requires-2 c =
    let none = ap vec_len c.begin-registers.ensures.guards in
    let empty = ap length c.requires.block_room.empty.guards in
    let alike = ap needed c.split_at.ensures.front ∙ (c.shared_counts-shared.ensures.same ∙ sym (ap needed c.split_at-2.ensures.front)) in
    let few = rw (← alike) at (needed_few c.split_at-2.result.0.now) in
    let whole = ap length c.insts-theirs.ensures.value in
    let cut = c.split_at-2.ensures in
    let copy = c.copy_from.ensures in
    record {
      known = known_on c.in_ok-first.ensures.pass.later c.in_ok-steps.ensures.known;
      chain = chain_copied c.in_ok-first.ensures.pass.later c.in_ok-steps.ensures.chain copy.stores copy.memories;
      room = copy.room;
      few = let ran = c.in_ok-steps.ensures.guards in
          omega (arith, copy.count, copy.capacity, ran, none, empty, few, cut.front_len, cut.back_len, whole, c.requires.order_room.few);
    }

pub returns-in_err-steps : goal.returns-in_err-steps
returns-in_err-steps c =
    let both = c.split_at.result.0.now in
    let rest = c.split_at.result.1.now in
    let is = sym c.insts-ours.ensures.value ∙ c.split_at.ensures.by_index.0 in
    let exit = c.args.block.now.exit in
    let begun = c.begin-registers.ensures.tracks _ c.requires.start in
    record {
      block = search rules;
      order = search rules;
      absent = err_always _ (lacks_left (order_asked c.args.order.now) (lacks_early both rest is exit [] (c.in_err-steps.ensures.absent start_trees begun)));
      pass = interns_by (goes_on c.in_err-steps.ensures.pass) (search rules);
      grows = omega (arith, c.in_err-steps.ensures.grows, growth_in_parts both rest is exit [] c.begin-registers.ensures.stores refl refl refl);
    }

pub returns-in_err-first : goal.returns-in_err-first
returns-in_err-first c =
    let both = c.split_at.result.0.now in
    let rest = c.split_at.result.1.now in
    let is = sym c.insts-ours.ensures.value ∙ c.split_at.ensures.by_index.0 in
    let exit = c.args.block.now.exit in
    let shared = c.in_ok-steps.ensures.tracks start_trees (c.begin-registers.ensures.tracks _ c.requires.start) in
    let none = c.begin-registers.ensures.stores in
    let made = c.in_ok-steps.ensures.stores ∙ ap (all_stores (map action_of both)) none in
    record {
      block = search rules;
      order = search rules;
      absent = err_always _ (lacks_left (order_asked c.args.order.now)
          (lacks_late both rest is exit [] (rw c.exit.ensures at (c.in_err-first.ensures.absent _ shared))));
      pass = interns_by (goes_more (goes_on c.in_ok-steps.ensures.pass) (goes_on c.in_err-first.ensures.pass)) (search rules);
      grows = omega (arith, c.in_ok-steps.ensures.grows, c.in_err-first.ensures.grows, growth_in_parts both rest is exit [] none made c.exit.ensures refl);
    }

pub returns-in_err-second : goal.returns-in_err-second
returns-in_err-second c =
    let both = c.split_at.result.0.now in
    let rest = c.split_at.result.1.now in
    let is = sym c.insts-ours.ensures.value ∙ c.split_at.ensures.by_index.0 in
    let front = c.split_at-2.result.0.now in
    let others = c.split_at-2.result.1.now in
    let begins = sym c.insts-theirs.ensures.value ∙ c.split_at-2.ensures.by_index.0 in
    let alike = ap needed c.split_at.ensures.front ∙ (c.shared_counts-shared.ensures.same ∙ sym (ap needed c.split_at-2.ensures.front)) in
    let order = c.args.order.now in
    let slots = slot_actions order.slot in
    let shared = c.in_ok-steps.ensures.tracks start_trees (c.begin-registers.ensures.tracks _ c.requires.start) in
    let copied = rw (same_trees both front alike start_trees) at
    (tracks_copied c.in_ok-first.ensures.pass.later {m = c.copy_from.new.self} shared c.copy_from.ensures.guards c.copy_from.ensures.stores) in
    let none = c.begin-registers.ensures.stores in
    let made = c.in_ok-steps.ensures.stores ∙ ap (all_stores (map action_of both)) none in
    let copies = c.copy_from.ensures.stores_count ∙ (made ∙ same_stores both front alike 0) in
    let ours = growth_in_parts both rest is c.args.block.now.exit [] none made c.exit.ensures refl in
    let theirs = growth_in_parts front others begins order.exit slots refl copies c.exit-2.ensures (ap slot_actions c.slot.ensures.value) in
    let left = goes_more (goes_on c.in_ok-steps.ensures.pass) (goes_on c.in_ok-first.ensures.pass) in
    record {
      block = search rules;
      order = search rules;
      absent = err_always _ (lacks_right (block_asked c.args.block.now) (lacks_late front others begins order.exit slots
          (rw (c.exit-2.ensures, c.slot.ensures.value) at (c.in_err-second.ensures.absent _ copied))));
      pass = interns_by (goes_more left (goes_on c.in_err-second.ensures.pass)) (search rules);
      grows = omega (arith, c.in_ok-steps.ensures.grows, c.in_ok-first.ensures.grows, c.in_err-second.ensures.grows, ours, theirs);
    }

pub returns : goal.returns
returns c =
    let both = c.split_at.result.0.now in
    let rest = c.split_at.result.1.now in
    let is = sym c.insts-ours.ensures.value ∙ c.split_at.ensures.by_index.0 in
    let front = c.split_at-2.result.0.now in
    let others = c.split_at-2.result.1.now in
    let begins = sym c.insts-theirs.ensures.value ∙ c.split_at-2.ensures.by_index.0 in
    let alike = ap needed c.split_at.ensures.front ∙ (c.shared_counts-shared.ensures.same ∙ sym (ap needed c.split_at-2.ensures.front)) in
    let exit = c.args.block.now.exit in
    let order = c.args.order.now in
    let slots = slot_actions order.slot in
    let shared = c.in_ok-steps.ensures.tracks start_trees (c.begin-registers.ensures.tracks _ c.requires.start) in
    let copied = rw (same_trees both front alike start_trees) at
    (tracks_copied c.in_ok-first.ensures.pass.later {m = c.copy_from.new.self} shared c.copy_from.ensures.guards c.copy_from.ensures.stores) in
    let none = c.begin-registers.ensures.stores in
    let made = c.in_ok-steps.ensures.stores ∙ ap (all_stores (map action_of both)) none in
    let copies = c.copy_from.ensures.stores_count ∙ (made ∙ same_stores both front alike 0) in
    let ours = growth_in_parts both rest is exit [] none made c.exit.ensures refl in
    let theirs = growth_in_parts front others begins order.exit slots refl copies c.exit-2.ensures (ap slot_actions c.slot.ensures.value) in
    let left = goes_more (goes_on c.in_ok-steps.ensures.pass) (goes_on c.in_ok-first.ensures.pass) in
    record {
      block = stands_for_on c.in_ok-second.ensures.pass.later
          (stands_in_parts both rest is exit [] (rw c.exit.ensures at (c.in_ok-first.ensures.trees _ shared)));
      order = stands_in_parts front others begins order.exit slots (rw (c.exit-2.ensures, c.slot.ensures.value) at (c.in_ok-second.ensures.trees _ copied));
      absent = tt;
      pass = interns_by (goes_more left (goes_on c.in_ok-second.ensures.pass)) tt;
      grows = omega (arith, c.in_ok-steps.ensures.grows, c.in_ok-first.ensures.grows, c.in_ok-second.ensures.grows, ours, theirs);
    }
