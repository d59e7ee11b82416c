use Rattle.driver.proofs.build_command.OneBuild as builds
use Rattle.driver.proofs.builds.one_build.Goals as goal

pub returns : goal.returns
returns g c = builds.one_build (g.R.Reorder.proposes c.args.reorder.now)
