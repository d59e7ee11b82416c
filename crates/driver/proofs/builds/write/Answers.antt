use Rattle.driver.proofs.builds.write.Goals as goal

pub returns-clause-written : goal.returns-clause-written
returns-clause-written c = record {
  build = record {
    image = c.in-Ok.image;
    fits = c.in-Ok.ensures.fits;
    bytes = c.in_ok-write_image.ensures;
    orders = c.report-report.ensures.sound;
    assembled = c.in-Ok.ensures.assembled;
    counted = c.in-Ok.ensures.version;
    report = c.report-report.ensures.value;
    blocks = c.count.ensures;
  };
  runs = c.in-Ok.ensures.runs;
}
