use Rattle.block_text.proofs.reader.step.Goals as goal

pub returns-in-InBlock-clause-leads : goal.returns-in-InBlock-clause-leads
returns-in-InBlock-clause-leads c = rw c.in-InBlock.is c.in_block.ensures.leads

pub returns-in-InOrder-clause-leads : goal.returns-in-InOrder-clause-leads
returns-in-InOrder-clause-leads c = rw c.in-InOrder.is c.in_order.ensures.leads

pub returns-in-AtSlot-clause-leads : goal.returns-in-AtSlot-clause-leads
returns-in-AtSlot-clause-leads c = rw c.in-AtSlot.is c.at_slot.ensures.leads
