-- Which state, flow and effect the parts in Rust stand for.
use Rattle.std.specs.Prelude.{Option, Some, None, slice_index}
use Rattle.mips_isa.specs.States.{State}
use Rattle.mips_isa.specs.Flows.{Pending, Nothing, Loaded, Flow}
use Rattle.mblock.specs.BlockMeaning as meaning
use Rattle.counterexample.specs.declared.start.Start.{Start}
use Rattle.counterexample.specs.declared.registers.Registers.{Registers}
use Rattle.counterexample.specs.declared.registers.Load.{Load}
use Rattle.counterexample.specs.declared.registers.Load.TheVariants as loads
use Rattle.counterexample.specs.declared.flow.Flowing.{Flowing}
use Rattle.counterexample.specs.declared.left.Departs.{Departs}
use Rattle.counterexample.specs.declared.left.Departs.TheVariants as departs
use Rattle.counterexample.specs.declared.left.Left.{Left}
use Rattle.counterexample.specs.Fillings.{filled_byte}
use Rattle.counterexample.specs.Memories.{everywhere, bytes_of}

-- a start: every address is mapped, and a few numbers fill memory
abbrev pub start_of : Start → State
start_of s = record {
  regs = slice_index s.regs;
  hi = s.hi;
  lo = s.lo;
  memory = filled_byte s.filling;
  mapped = everywhere;
}

abbrev pub state_of : Registers → State
state_of s = record {
  regs = slice_index s.regs;
  hi = s.hi;
  lo = s.lo;
  memory = bytes_of s.memory;
  mapped = everywhere;
}

abbrev pub pending_in : Load → Pending
pending_in loads.Nothing = Nothing
pending_in (loads.Loaded register word) = Loaded register word

abbrev pub flow_of : Flowing → Flow
flow_of f = record { state = state_of f.registers; pending = pending_in f.pending; hold = f.hold }

abbrev pub departure_in : Departs → meaning.Departure
departure_in (departs.To t) = meaning.GoesTo t
departure_in (departs.Calls f n) = meaning.CallsTo f n
departure_in (departs.Back link) = meaning.GoesBack link
departure_in (departs.Prints word n) = meaning.PrintsTo word n
departure_in (departs.Halts word) = meaning.HaltsWith word

abbrev pub effect_of : Left → meaning.Effect
effect_of l = record { state = state_of l.registers; goes = departure_in l.goes }

-- what a run has come to; None where it is stuck
abbrev pub effect_in : Option Left → Option meaning.Effect
effect_in None = None
effect_in (Some l) = Some (effect_of l)
