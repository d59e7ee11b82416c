-- A block that isn't stuck is safe all along, and its outcome is that of its actions one after another.
use Rattle.std.proofs.Common.{◌≡◌, ℕ, Bool, true, false, cond, List, [], ◌∷◌, map, Option, Some, None, refl, sym, ap, ◌∙◌}
use Rattle.std.proofs.lemmas.Option.{same_Some, none-some}
use Rattle.mips_isa.specs.States.{State}
use Rattle.mips_isa.specs.declared.action.Action.{Action}
use Rattle.mips_isa.specs.Actions.{action_of, is_safe, state_after}
use Rattle.mblock.specs.Parts.{BlockParts}
use Rattle.mblock.specs.BlockMeaning.{Effect, run, exit_effect, exit_effect_after, block_effect}
use Rattle.mblock.proofs.Runs.{total, AllSafe, leaves_total}

pub run_total : (acts : List Action) (s s' : State) → run acts s ≡ Some s' → AllSafe acts s × (s' ≡ total acts s)
run_total [] s s' e = (tt, sym (same_Some s s' e))
run_total (a ∷ rest) s s' e = go (λ h. run_total rest (state_after a s) s' h) (is_safe a s) refl e
  where
    go : (run rest (state_after a s) ≡ Some s' → AllSafe rest (state_after a s) × (s' ≡ total rest (state_after a s))) → (b : Bool)
        → is_safe a s ≡ b → cond b (run rest (state_after a s)) None ≡ Some s' → AllSafe (a ∷ rest) s × (s' ≡ total (a ∷ rest) s)
    go next true eb h = let r = next h in ((eb, r.0), r.1)
    go next false eb h = absurd (none-some s' h)

pub block_total : (b : BlockParts) (s : State) (link : ℕ) (r : Effect) → block_effect b s link ≡ Some r → AllSafe (map action_of b.insts) s
    × (r ≡ leaves_total b.exit [] link (total (map action_of b.insts) s))
block_total b s link r e = go (run (map action_of b.insts) s) refl e
  where
    go : (o : Option State) → run (map action_of b.insts) s ≡ o → exit_effect_after b.exit o link ≡ Some r
        → AllSafe (map action_of b.insts) s × (r ≡ leaves_total b.exit [] link (total (map action_of b.insts) s))
    go None eo h = absurd (none-some r h)
    go (Some x) eo h =
        let t = run_total (map action_of b.insts) s x eo in
        (t.0, sym (same_Some (exit_effect b.exit x link) r h) ∙ ap (λ y. exit_effect b.exit y link) t.1)
