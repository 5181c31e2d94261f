-- Each turn tests one record and adds its size.
use Rattle.std.proofs.Common.{◌+◌, List, get_or, drop, sym, subst, arith}
use Rattle.std.proofs.lemmas.List.{drop_more}
use Rattle.schedule.specs.declared.call.CallRecord.{CallRecord}
use Rattle.schedule.specs.Calls.{record_tests}
use Rattle.schedule.specs.Tests.{FailsFirst}
use Rattle.schedule.specs.Whole.{AllWritable}
use Rattle.schedule.specs.Writing.{records_tests}
use Rattle.schedule.proofs.Rows.{fails_after, blank, split_length}
use Rattle.schedule.proofs.write.measure.Goals as goal

pub loop-record-preserved : goal.loop-record-preserved
loop-record-preserved c =
    let xs = c.args.records.now in
    let i = c.loop-record.record-index in
    let x = get_or xs i blank in
    let rest = drop (i + 1) xs in
    let e = drop_more xs i blank c.loop-record-test.true in
    let ok = c.in_ok-try_from.ensures.0 in (
      (λ f h. let P : List CallRecord → Type 0 = λ l. FailsFirst (records_tests l) f in
          c.loop-record.invariant.0 f (subst P (sym e) (fails_after (record_tests x) (records_tests rest) f ok h))),
      (λ good. c.loop-record.invariant.1 (subst AllWritable (sym e) (ok, good))),
      omega (arith, c.min-total.ensures),
      omega (arith, c.min-total.ensures, split_length c.loop-record.before (drop i xs) x rest e, c.loop-record.invariant.3, c.record_length.ensures.value),
    )
