-- How counts and faults print.
use Rattle.std.specs.Prelude.{List, ℕ, ◌++◌, codes, decimal}
use Rattle.image.specs.declared.fault.ImageFault.{ImageFault}
use Rattle.image.specs.declared.fault.ImageFault.TheVariants.{Magic, Version, Length, Entry, Counts, NoMemory}
use Rattle.image.specs.Images.{CountsOf}

abbrev pub counts_text : CountsOf → List ℕ
counts_text c =
    codes "same " ++ (decimal c.same ++ (codes " unclean " ++ (decimal c.unclean ++ (codes " differs " ++ (decimal c.differs
    ++ (codes " full " ++ (decimal c.full ++ (codes " nomemory " ++ (decimal c.no_memory ++ (codes " missed " ++ decimal c.missed))))))))))

abbrev pub image_fault_text : ImageFault → List ℕ
image_fault_text Magic = codes "fault 40 Magic"
image_fault_text Version = codes "fault 41 Version"
image_fault_text Length = codes "fault 42 Length"
image_fault_text Entry = codes "fault 43 Entry"
image_fault_text Counts = codes "fault 44 Counts"
image_fault_text NoMemory = codes "fault 30 NoMemory"
