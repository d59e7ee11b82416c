-- The version of an image by its counts.
use Rattle.std.specs.Prelude.{Option, Some, None}
use Rattle.image.specs.declared.image.Counts.{Counts}
use Rattle.image.specs.Images.{CountsOf, Version, First, Second}

abbrev pub counts_of : Counts → CountsOf
counts_of c = record { same = c.same; unclean = c.unclean; differs = c.differs; full = c.full; no_memory = c.no_memory; missed = c.missed }

abbrev pub version_of : Option Counts → Version
version_of None = First
version_of (Some c) = Second (counts_of c)
