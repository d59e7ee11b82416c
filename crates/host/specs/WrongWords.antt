-- What clap's error asks for: the help, or that wrong words are told.
use Rattle.std.specs.Prelude.{◌≡◌, ◌≢◌, ◌⊎◌}
use Rattle.clap.specs.declared.error.kind.ErrorKind.{ErrorKind}
use Rattle.clap.specs.declared.error.kind.ErrorKind.TheVariants.{DisplayHelp, DisplayVersion, OutOfMemory}
use Rattle.host.specs.declared.fault.HostFault.{HostFault}
use Rattle.host.specs.declared.fault.HostFault.TheVariants.{CannotWrite, NoMemory}

-- the help or the version is asked for
abbrev pub IsHelp : ErrorKind → Type 0
IsHelp kind = (kind ≡ DisplayHelp) ⊎ (kind ≡ DisplayVersion)

-- the words are wrong
abbrev pub IsMistake : ErrorKind → Type 0
IsMistake kind = (kind ≢ OutOfMemory) × (kind ≢ DisplayHelp) × (kind ≢ DisplayVersion)

-- why neither the help was printed nor wrong words were told: memory was refused, or standard output refused the help
abbrev pub IsFaultOfWords : ErrorKind → HostFault → Type 0
IsFaultOfWords kind fault = ((kind ≡ OutOfMemory) × (fault ≡ NoMemory)) ⊎ (IsHelp kind × (fault ≡ CannotWrite))
