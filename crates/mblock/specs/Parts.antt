-- Blocks and orders as contracts see them.
use Rattle.std.specs.Prelude.{List, Option}
use Rattle.mips_isa.specs.declared.inst.Plain.{Plain}
use Rattle.mblock.specs.declared.exit.Exit.{Exit}

pub record BlockParts : Type 0 where
  pub insts : List Plain
  pub exit : Exit

pub record OrderParts : Type 0 where
  pub insts : List Plain
  pub exit : Exit
  pub slot : Option Plain
