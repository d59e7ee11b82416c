-- Blocks and exits keep a state's words.
use Rattle.std.proofs.Common.{◌≡◌, ℕ, ◌<◌, ◌^◌, Bool, true, false, cond, List, [], ◌∷◌, map, Option, Some, None, refl, subst, arith}
use Rattle.std.proofs.lemmas.Option.{same_Some, none-some}
use Rattle.mips_isa.specs.States.{State, IsWords}
use Rattle.mips_isa.specs.declared.action.Action.{Action}
use Rattle.mips_isa.specs.Actions.{action_of, is_safe, state_after}
use Rattle.mips_isa.proofs.StateWords.{put_below, after_words}
use Rattle.mblock.specs.declared.exit.Exit.{Exit}
use Rattle.mblock.specs.BlockMeaning.{Shape, Calls, Prints, Halts, exit_shape, exit_puts}
use Rattle.mblock.specs.BlockMeaning.{exit_effect, exit_effect_after, run}
use Rattle.mblock.specs.Orders.{EachBlockKeepsWords}

pub run_words : (acts : List Action) (s s' : State) → IsWords s → run acts s ≡ Some s' → IsWords s'
run_words [] s s' h e = subst IsWords (same_Some s s' e) h
run_words (a ∷ rest) s s' h e = go (run_words rest (state_after a s) s' (after_words a s h)) (is_safe a s) e
  where
    go : (run rest (state_after a s) ≡ Some s' → IsWords s') → (b : Bool) → cond b (run rest (state_after a s)) None ≡ Some s' → IsWords s'
    go next true r = next r
    go next false r = absurd (none-some s' r)

puts_below : (shape : Shape) (link : ℕ) (f : ℕ → ℕ) → link < 2 ^ 32 → ((r : ℕ) → f r < 2 ^ 32) → (r : ℕ) → exit_puts link 1 10 shape f r < 2 ^ 32
puts_below (Calls g n) link f l h r = put_below f 31 link h l r
puts_below (Prints n) link f l h r = put_below f 2 1 h (omega arith) r
puts_below Halts link f l h r = put_below f 2 10 h (omega arith) r
puts_below _ link f l h r = h r

pub leave_words : (exit : Exit) (s : State) (link : ℕ) → IsWords s → link < 2 ^ 32 → IsWords (exit_effect exit s link).state
leave_words exit s link h l = record { regs = puts_below (exit_shape exit) link s.regs l h.regs; hi = h.hi; lo = h.lo; memory = h.memory }

pub block_words : EachBlockKeepsWords
block_words b s link r h low e = go (run (map action_of b.insts) s) refl e
  where
    go : (x : Option State) → run (map action_of b.insts) s ≡ x → exit_effect_after b.exit x link ≡ Some r → IsWords r.state
    go None ex h' = absurd (none-some r h')
    go (Some t) ex h' =
        subst (λ o. IsWords o.state) (same_Some (exit_effect b.exit t link) r h') (leave_words b.exit t link (run_words (map action_of b.insts) s t h ex) low)
