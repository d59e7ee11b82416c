use Rattle.std.proofs.Common.{◌≡◌, ◌≢◌, ℕ, [], ◌∷◌, refl, inl, inr, rules, arith}
use Rattle.std.proofs.KnownBytes.{Appends-nil}
use Rattle.command_line.specs.declared.command.AskedBuild.{AskedBuild}
use Rattle.host.specs.Requests.{HostState, Ran, Relations}
use Rattle.host.proofs.Asked.{on_host}
use Rattle.driver.specs.BuildCommand.{apart_meaning, build_meaning, one_name_text}
use Rattle.driver.specs.BuildCommand.AnswersBuild.{apart, one_name}
use Rattle.driver.proofs.build_command.build_file.Goals as goal

-- a build whose image has a name of its own is a build of any two names
apart_ran : {F W E : Type 0} {by : Relations F W E} {old new : HostState F W E} {status : ℕ} (b : AskedBuild) → b.source.now ≢ b.image.now
    → Ran by old new (apart_meaning b) status → Ran by old new (build_meaning b) status
apart_ran b differ ran = record {
  answered = λ other.
      let does = ran.answered other in
      record {
        requests = does.requests;
        printed = does.printed;
        told = does.told;
        asked = does.asked;
        took = does.took;
        heard = does.heard;
        means = apart differ does.means;
      };
  sent = ran.sent;
  stopped = λ one. elim (ran.stopped one) [
    | inl asks ↦
        inl (record { requests = asks.requests; text = asks.text; asked = asks.asked; told = asks.told; means = (differ, asks.means) })
    | inr midway ↦ absurd midway.begins
  ];
}

pub returns-then-eq-clause-ran : goal.returns-then-eq-clause-ran
returns-then-eq-clause-ran g c =
    let same : c.args.asked.now.source.now ≡ c.args.asked.now.image.now = search rules in
    on_host refl refl refl
    (record {
      answered = λ other. record {
        requests = [];
        printed = [];
        told = one_name_text ∷ [];
        asked = refl;
        took = Appends-nil (g.W.Write.contents c.args.host.now.out.now);
        heard = (_, c.text.ensures, refl);
        means = one_name same refl refl refl refl;
      };
      sent = λ one two. absurd (two refl);
      stopped = λ one. absurd (omega arith);
    })

pub returns-clause-ran : goal.returns-clause-ran
returns-clause-ran g c =
    let ran = c.build_apart.ensures.ran in
    record { ran = apart_ran c.args.asked.now (search rules) ran.ran; same = ran.same }
