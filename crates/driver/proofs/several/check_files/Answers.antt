use Rattle.std.proofs.Common.{◌+◌, List, [], None, ℕ, Bor, map, length, drop, append-nil, inl, inr, refl, rules}
use Rattle.std.proofs.lemmas.List.{length-map, take-append-drop}
use Rattle.driver.proofs.check_command.EachFile.{all_checked, broken, next_at, none_yet, unprinted, whole}
use Rattle.driver.proofs.several.check_files.Goals as goal

pub loop-name-init : goal.loop-name-init
loop-name-init g c =
    record { status = search rules; lines = rw c.none-totals.ensures none_yet; same = record { files = refl; out = refl; err = refl } }

pub loop-name-preserved : goal.loop-name-preserved
loop-name-preserved g c = record {
  status = c.with-totals.ensures.possible;
  lines = next_at _ c.args.names.now c.loop-name.name-index _ c.check_one-line.result c.loop-name-test.true c.with-totals.ensures.totals
      c.loop-name.invariant.lines c.check_one-line.ensures c.in-Ok.ensures.line;
  same = record { files = c.loop-name.invariant.same.files; out = c.loop-name.invariant.same.out; err = c.loop-name.invariant.same.err };
}

pub returns-in-Err-clause-each : goal.returns-in-Err-clause-each
returns-in-Err-clause-each g c =
    let ns = map (λ (s : Bor (List ℕ)). s.now) c.args.names.now in
    let k = c.loop-name.name-index in
    inr (
      c.tell_unprinted.ensures.status,
      broken {p = None} (drop (k + 1) ns) (take-append-drop (k + 1) ns)
          (next_at _ c.args.names.now k _ c.check_one-line.result c.loop-name-test.true refl (unprinted c.loop-name.invariant.lines)
          c.check_one-line.ensures tt)
          c.in-Err.ensures.refused c.tell_unprinted.ensures.told,
    )

pub returns-in-Err-send-clause-each : goal.returns-in-Err-send-clause-each
returns-in-Err-send-clause-each g c = inr (
  c.tell_unprinted-in-Err-send.ensures.status,
  broken [] (append-nil _) (whole c.args.names.now c.loop-name.name-index c.loop-name-test.false c.loop-name.invariant.lines)
      (_, c.in-Err-send.ensures.refused) c.tell_unprinted-in-Err-send.ensures.told,
)

pub returns-in-Ok-send-clause-each : goal.returns-in-Ok-send-clause-each
returns-in-Ok-send-clause-each g c = inl (
  all_checked (length c.args.names.now) (length-map c.args.names.now (λ (s : Bor (List ℕ)). s.now)) c.well_formed.1.0.0
      (whole c.args.names.now c.loop-name.name-index c.loop-name-test.false c.loop-name.invariant.lines) c.send.ensures.bytes c.line.ensures,
  (_, c.in-Ok-send.ensures.sent),
)
