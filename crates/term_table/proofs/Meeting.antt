-- What a pass that learns has seen, and what two passes that meet have seen.
use Rattle.std.proofs.Common.{◌≡◌, List, [], sym, ap, ◌∙◌}
use Rattle.atomic_table.specs.Table.{Me}
use Rattle.term_core.specs.declared.Entry.{Entry}
use Rattle.term_core.specs.declared.Walker.{Walker}
use Rattle.term_table.specs.declared.view.View.{View}
use Rattle.term_table.specs.declared.view.View.TheVariants.{Walking}
use Rattle.term_table.specs.Calls.{walker_of, told_of}
use Rattle.term_table.specs.Passes.{PassState, Learned, Met}

pub is_pass : {S : Type 0} (me : Me S View) (w : Walker) (told : List Entry) → me ≡ (Walking w told, [])
    → me ≡ (Walking (walker_of me.0) (told_of me.0), [])
is_pass {S} me w told is = is ∙ ap (λ (m : Me S View). (Walking (walker_of m.0) (told_of m.0), [])) (sym is)

-- the second learns what the first had seen, then the first what the second has seen
pub met : {p q p' q' : PassState} {told told' : List Entry} → p.nodes ≡ q.nodes → told ≡ p.seen → Learned q told q' → told' ≡ q'.seen
    → Learned p told' p' → Met p q p' q'
met of_nodes of_first second of_second first = let known = rw of_first at second in
    record { one = first.exact (rw of_second known.second) ∙ of_second; first = rw of_second at first; second = known; same_nodes = of_nodes }
