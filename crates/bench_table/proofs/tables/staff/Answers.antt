use Rattle.std.proofs.Common.{rules, ◌≡◌, ◌++◌, ◌∷◌, []}
use Rattle.std.proofs.lemmas.List.Elements.{All-rest, All-push, All-same}
use Rattle.term_table.specs.Passes.{IsOf}
use Rattle.bench_table.specs.Ready.{IsReady}
use Rattle.bench_table.proofs.tables.staff.Goals as goal

pub loop-pass-preserved : goal.loop-pass-preserved
loop-pass-preserved c =
    let is_ready = IsReady c.args.table.now in
    let was = c.loop-pass.invariant in
    let is : c.push.new.self.items ≡ c.loop-pass.workers.items ++ c.in_ok-worker.worker ∷ [] = search rules in (
      All-rest (IsOf c.args.table.now) _ _ _ c.in-Some.ensures.steps.0 was.0,
      All-same is_ready _ _ is (All-push is_ready _ c.in_ok-worker.worker was.1 c.in_ok-worker.ensures),
      was.2,
    )
