-- What a command did, as what the program did with its words: what it told beside its answer, and checks of several files.
use Rattle.std.proofs.Common.{◌≡◌, ◌≢◌, ◌≤◌, ◌++◌, ◌⊎◌, ℕ, List, [], ◌∷◌, ◌==◌, ◌||◌, if◌then◌else◌, Bool, true, false, length, map, fold, max, refl, sym, inl, inr, ◌∙◌, arith}
use Rattle.std.proofs.lemmas.List.Folds.{fold_stays}
use Rattle.std.specs.declared.vec.Vec.{Vec}
use Rattle.std.specs.declared.alloc.Global.{Global}
use Rattle.std.specs.Borrow.{Bor}
use Rattle.std.specs.List.{flat_map}
use Rattle.clap.specs.Words.{HasKind, fault_of, kind_of, takes}
use Rattle.clap.specs.declared.error.Error.{Error}
use Rattle.clap.specs.declared.error.kind.ErrorKind.TheVariants.{OutOfMemory}
use Rattle.host.specs.Requests.{Asks, Does, HostState, IsSent, LeavesOutput, Ran, Relations, StopsMidway, TellsLine, WasRefused}
use Rattle.host.specs.Texts.{host_fault_text}
use Rattle.host.specs.WrongWords.{IsFaultOfWords, IsHelp, IsMistake}
use Rattle.host.specs.declared.fault.HostFault.{HostFault}
use Rattle.host.proofs.Asked.{ran_stopped}
use Rattle.driver.specs.Several.{BreaksOff, CheckedFile, ChecksAll, ChecksEach, faults_of, lines_of, said_status, status_of, told_of, totals_of, totals_text, worse}
use Rattle.driver.specs.declared.several.Said.{Said}
use Rattle.driver.specs.declared.several.Said.TheVariants as says
use Rattle.command_line.specs.Commands.{IsCommand, mcc_app}
use Rattle.command_line.specs.Programs.{IsStopped}
use Rattle.command_line.specs.declared.command.Command.{Command}
use Rattle.command_line.specs.declared.command.Command.TheVariants.{CheckEach}
use Rattle.command_line.proofs.Programs.{answered_by, ends_untaken, mistake_of, stopped_before, stopped_by}
use Rattle.driver.specs.Program.{Answers, Begins, HasFaultyFile, IsBegun, NamesOneFile, RanWords, Stops, meaning_of}

one_or : (b : Bool) (n : ℕ) → (if b || true then 1 else n) ≡ 1
one_or true n = refl
one_or false n = refl

-- a fault is the worst
fault_shows : (a : ℕ) (xs : List ℕ) → fold worse (worse a 1) xs ≡ 1
fault_shows a xs = rw (one_or (a == 1) (max a 1)) (fold_stays worse 1 (λ x. refl) xs)

-- without the worst status no file had a fault
no_faults : (a : ℕ) (files : List CheckedFile) → fold worse a (map status_of files) ≢ 1 → flat_map faults_of files ≡ []
no_faults a [] other = refl
no_faults a (file ∷ files) other = by file.said other (no_faults (worse a (status_of file)) files other)
  where
    by : (said : Said) → fold worse (worse a (said_status said)) (map status_of files) ≢ 1 → flat_map faults_of files ≡ []
        → told_of said ++ flat_map faults_of files ≡ []
    by (says.Answer answer) other none = none
    by _ other none = absurd (other (fault_shows a (map status_of files)))

module _ {F W E : Type 0} {by : Relations F W E} {old new : HostState F W E} {status : ℕ} (explain : Bool) (names : List (List ℕ)) where
  -- several files that all have their lines, as an answer. The totals alone are told if none has a fault
  each_answered : ChecksAll by old new explain names status → status ≢ 1 → Does by old new (ChecksEach explain names status)
  each_answered all other =
      let none = no_faults 0 all.files (λ one. other (all.ends ∙ one)) in
      let same : old.err ≡ all.told.0 = rw none at all.told.1 in
      record {
        requests = map (λ (f : CheckedFile). f.request) all.files;
        printed = flat_map lines_of all.files;
        told = (totals_text (length names) (totals_of all.files) ++ 10 ∷ []) ∷ [];
        asked = all.asked;
        took = all.took;
        heard = (new.err, rw same all.told.2, refl);
        means = record {
          files = all.files;
          right = all.right;
          named = all.named;
          asked = refl;
          prints = refl;
          totals = refl;
          ends = all.ends;
        };
      }

stop : {F W E : Type 0} {by : Relations F W E} {old new : HostState F W E} {words : List (List ℕ)} (command : Command) → IsCommand words command
    → Asks by old new (Stops command) ⊎ StopsMidway by old new (Begins command)
    → Asks by old new (IsStopped Stops words) ⊎ HasFaultyFile by old new words ⊎ StopsMidway by old new (IsBegun words)
stop {by = by} {old = old} {new = new} {words = words} command entered (inl asks) = inl (stopped_by by old new words Stops command entered asks)
stop command entered (inr m) = inr (inr (record {
  requests = m.requests;
  printed = m.printed;
  asked = m.asked;
  took = m.took;
  told = m.told;
  begins = (command, entered, m.begins);
}))

-- what the program did by what its words' command did
module _ {F W E : Type 0} {by : Relations F W E} {old new : HostState F W E} {words : List (List ℕ)} {status : ℕ} where
  -- a command, which ends by 2 only where it asked nothing
  pub of_command : (command : Command) → IsCommand words command → fault_of mcc_app words ≡ [] → status ≤ 4
      → (status ≡ 2 → (new.files ≡ old.files) × (new.out ≡ old.out) × NamesOneFile words) → Ran by old new (meaning_of command) status
      → RanWords by old new words status
  of_command command entered none most two ran = record {
    most = most;
    taken = λ _ is. (two is).2;
    answered = λ _ other. answered_by by old new words Answers status command entered (ran.answered other);
    sent = ran.sent;
    stopped = λ one. stop command entered (ran.stopped one);
    wrong = λ is.
        let refused = two is in
        (refused.0, refused.1, inr refused.2);
    untaken = λ some. absurd (some none);
  }

  -- a command, which doesn't end by 2
  pub of_answer : {value command : Command} → value ≡ command → IsCommand words value → fault_of mcc_app words ≡ [] → status ≤ 4 → status ≢ 2
      → Ran by old new (meaning_of command) status → RanWords by old new words status
  of_answer {command = command} is entered none most other = of_command command (rw is at entered) none most (λ two. absurd (other two))

  -- no command
  pub of_error : (e : Error) → HasKind (fault_of mcc_app words) e → (takes mcc_app words ≡ true → kind_of e ≡ OutOfMemory) → status ≤ 2
      → old.files ≡ new.files → (status ≡ 0 → IsHelp (kind_of e)) → (status ≡ 0 → IsSent by.sends new.out)
      → (status ≡ 2 → IsMistake (kind_of e) × (new.out ≡ old.out)) → (kind_of e ≡ OutOfMemory → status ≡ 1)
      → (status ≡ 1 → (fault : HostFault) × TellsLine by.tells old.err (host_fault_text fault) new.err
      × LeavesOutput fault (new.out ≡ old.out) (WasRefused by.refuses new.out) × IsFaultOfWords (kind_of e) fault)
      → RanWords by old new words status
  of_error e has refused most same help sent wrong memory told = record {
    most = omega arith;
    taken = λ is two. absurd (omega (arith, memory (refused is)));
    answered = λ is other. absurd (other (memory (refused is)));
    sent = λ one two. sent (omega arith);
    stopped = λ one.
        let t = told one in
        inl (stopped_before by old new words Stops e t.0 same t.1 t.2 t.3 refused has);
    wrong = λ two.
        let w = wrong two in
        (sym same, w.1, inl (mistake_of (fault_of mcc_app words) e w.0 has));
    untaken = λ some. (sym same, ends_untaken (fault_of mcc_app words) e status most has help (λ two. (wrong two).0));
  }

  -- several files, which all have their lines, or which broke off
  pub of_files : {value : Command} {files : Vec (Bor (List ℕ)) Global} {explain : Bool} → value ≡ CheckEach files explain → IsCommand words value
      → fault_of mcc_app words ≡ [] → status ≤ 4 → status ≢ 2
      → (ChecksAll by old new explain (map (λ s. s.now) files.items) status × IsSent by.sends new.out)
      ⊎ ((status ≡ 1) × Asks by old new (BreaksOff explain (map (λ s. s.now) files.items)))
      → RanWords by old new words status
  of_files {files = files} {explain = explain} is entered none most other (inr stopped) =
      of_answer is entered none most other (ran_stopped by old new (meaning_of (CheckEach files explain)) status stopped.0 (inl stopped.1))
  of_files {files = files} {explain = explain} is entered none most other (inl all) =
      let names = map (λ (s : Bor (List ℕ)). s.now) files.items in
      let entered = rw is at entered in
      record {
        most = most;
        taken = λ _ two. absurd (other two);
        answered = λ _ not. answered_by by old new words Answers status (CheckEach files explain) entered (each_answered explain names all.0 not);
        sent = λ _ _. all.1;
        stopped = λ one. inr (inl (record { files = files; explain = explain; entered = entered; checked = rw one at all.0; sent = all.1 }));
        wrong = λ two. absurd (other two);
        untaken = λ some. absurd (some none);
      }
