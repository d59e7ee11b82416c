use Rattle.std.proofs.Common.{[], ◌∷◌, refl, inl, arith}
use Rattle.host.specs.Requests.{reading_fault, writing_fault}
use Rattle.host.specs.Requests.Request.{Read, NotRead, Written, NotWritten}
use Rattle.host.specs.Texts.{host_fault_text}
use Rattle.host.specs.declared.fault.HostFault.TheVariants.{CannotWrite}
use Rattle.host.proofs.Asked.{asks_once, on_host, ran_answered, ran_stopped, read_as}
use Rattle.driver.specs.BuildTexts.{build_fault_text}
use Rattle.driver.specs.BuildCommand.{built_text}
use Rattle.driver.specs.BuildCommand.StopsBuild.{unread, faulty, unwritten, untold}
use Rattle.driver.proofs.build_command.build_apart.Goals as goal

pub returns-in-Err-clause-ran : goal.returns-in-Err-clause-ran
returns-in-Err-clause-ran g c =
    let why = c.in-Err.ensures.asked in
    on_host refl refl refl
    (ran_stopped _ _ _ _ _ c.tell_unread.ensures.status
    (inl (asks_once _ _ _ (NotRead c.args.asked.now.source.now why.0) (host_fault_text (reading_fault why.0)) _ why.2
    (rw why.1 at c.tell_unread.ensures.told) (unread why.0 refl))))

pub returns-in-Err-built_with_warnings-clause-ran : goal.returns-in-Err-built_with_warnings-clause-ran
returns-in-Err-built_with_warnings-clause-ran g c =
    let text = c.as_slice.result.now in
    let fault = c.in-Err-built_with_warnings.fault in
    on_host refl refl refl
    (ran_stopped _ _ _ _ _ c.tell_build.ensures.status
    (inl (asks_once _ _ _ (Read c.args.asked.now.source.now text) (build_fault_text fault) _ (read_as g.F.Files.answers _ _ _ _ text c.as_slice.ensures.value c.in-Ok.ensures.asked)
    c.tell_build.ensures.told (faulty text fault c.in-Err-built_with_warnings.ensures.fault refl))))

pub returns-in-Err-write_file-clause-ran : goal.returns-in-Err-write_file-clause-ran
returns-in-Err-write_file-clause-ran g c =
    let text = c.as_slice.result.now in
    let built = c.in-Ok-built_with_warnings.both.0 in
    let why = c.in-Err-write_file.ensures.asked in
    on_host refl refl refl
    (ran_stopped _ _ _ _ _ c.tell_unwritten.ensures.status
    (inl (record {
      requests = Read c.args.asked.now.source.now text ∷ (NotWritten c.args.asked.now.image.now built.image.items why.0 ∷ []);
      text = host_fault_text (writing_fault why.0);
      asked = (c.read_file.new.files, read_as g.F.Files.answers _ _ _ _ text c.as_slice.ensures.value c.in-Ok.ensures.asked, (_, rw c.as_slice-2.ensures.value at why.2, refl));
      told = rw why.1 at c.tell_unwritten.ensures.told;
      means = unwritten text built c.in-Ok-built_with_warnings.ensures.built why.0 refl;
    })))

pub returns-in-Ok-print_built-clause-ran : goal.returns-in-Ok-print_built-clause-ran
returns-in-Ok-print_built-clause-ran g c =
    let text = c.as_slice.result.now in
    let built = c.in-Ok-built_with_warnings.both.0 in
    let written = rw c.as_slice-2.ensures.value at c.in_default.ensures.asked in
    on_host refl refl refl
    (ran_answered _ _ _ _ _ (λ one. omega (arith, one))
    (record {
      requests = Read c.args.asked.now.source.now text ∷ (Written c.args.asked.now.image.now built.image.items ∷ []);
      printed = built_text c.args.asked.now.plain built;
      asked = (c.read_file.new.files, read_as g.F.Files.answers _ _ _ _ text c.as_slice.ensures.value c.in-Ok.ensures.asked, (_, written, refl));
      told = c.tell_warnings.ensures.0;
      took = c.in-Ok-print_built.ensures.line;
      heard = c.tell_warnings.ensures.1;
      means = record {
        text = text;
        built = built;
        asked = refl;
        promised = c.in-Ok-built_with_warnings.ensures.built;
        line = refl;
        ends = refl;
        warned = c.tell_warnings.ensures.2;
      };
    })
    c.in-Ok-print_built.ensures.sent)

pub returns-clause-ran : goal.returns-clause-ran
returns-clause-ran g c =
    let text = c.as_slice.result.now in
    let built = c.in-Ok-built_with_warnings.both.0 in
    let written = rw c.as_slice-2.ensures.value at c.in_default.ensures.asked in
    on_host refl refl refl
    (ran_stopped _ _ _ _ _ c.tell_unprinted.ensures.status
    (inl (record {
      requests = Read c.args.asked.now.source.now text ∷ (Written c.args.asked.now.image.now built.image.items ∷ []);
      text = host_fault_text CannotWrite;
      asked = (c.read_file.new.files, read_as g.F.Files.answers _ _ _ _ text c.as_slice.ensures.value c.in-Ok.ensures.asked, (_, written, refl));
      told = c.tell_unprinted.ensures.told;
      means = untold text built c.in-Ok-built_with_warnings.ensures.built c.in-Err-print_built.ensures.refused;
    })))
