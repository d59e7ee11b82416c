use Rattle.std.proofs.Common.{◌≤◌, sym, arith}
use Rattle.std.proofs.KnownBytes.{Appends-kept}
use Rattle.driver.proofs.run_command.Streamed.{portion, last_end, counted, all_printed}
use Rattle.driver.proofs.portions.stream.Goals as goal

pub returns-in-Some : goal.returns-in-Some
returns-in-Some g c =
    let begun = c.loop-advance.invariant in
    let within : c.min.result ≤ c.loop-advance.left = omega (arith, c.min.ensures) in
    let went = c.in-Ok.ensures.went in
    let last = c.in-Some.ensures.last in
    record {
      took = all_printed begun within went last _ (rw (sym c.output.ensures) c.in_ok-put_words.ensures.lines);
      end = last_end begun within went last;
      count = counted begun within went last c.in-Some.ensures.all;
      cut = tt;
    }

pub loop-advance-preserved : goal.loop-advance-preserved
loop-advance-preserved g c =
    portion c.loop-advance.invariant (omega (arith, c.min.ensures)) c.in-Ok.ensures.went _ c.in_default-end_of.ensures.last.0 c.clear_output.ensures
    (Appends-kept _ (g.W.Write.contents c.put_words.new.out) _ _ (rw (sym c.output.ensures) c.in_ok-put_words.ensures.lines) c.in_ok-send.ensures.bytes)
