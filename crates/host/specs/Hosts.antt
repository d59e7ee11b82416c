-- A host as commands have it, and what a command did to it.
use Rattle.std.specs.Prelude.{◌≡◌, ℕ}
use Rattle.host.specs.Requests.{HostState, Meaning, Ran, Relations, host_of}
use Rattle.host.specs.declared.one_file.Host.{Host}

module _ {F W E : Type 0} where
  -- its files and its streams
  abbrev pub state_of : Host F W E → HostState F W E
  state_of h = host_of h.files.now h.out.now h.err.now

  -- it has the references that it had
  pub record IsSameHost (old new : Host F W E) : Type 0 where
    pub files : new.files.ghost_name ≡ old.files.ghost_name
    pub out : new.out.ghost_name ≡ old.out.ghost_name
    pub err : new.err.ghost_name ≡ old.err.ghost_name

  -- a command did as it means over a host that it was lent
  pub record RanOn (by : Relations F W E) (old new : Host F W E) (m : Meaning) (status : ℕ) : Type 0 where
    pub ran : Ran by (state_of old) (state_of new) m status
    pub same : IsSameHost old new
