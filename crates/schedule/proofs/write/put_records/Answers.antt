-- Each turn writes one record after those before it.
use Rattle.std.proofs.Common.{◌+◌, List, length, get_or, drop, Some, sym, ap, ◌∙◌, subst, arith}
use Rattle.std.proofs.lemmas.List.{drop_more, drop_all}
use Rattle.schedule.specs.declared.call.CallRecord.{CallRecord}
use Rattle.schedule.specs.Format.{record_bytes, records_bytes}
use Rattle.schedule.specs.Strip.{put}
use Rattle.schedule.specs.Whole.{AllWritable}
use Rattle.schedule.proofs.Puts.{put_put, put_nothing}
use Rattle.schedule.proofs.Rows.{blank, split_length}
use Rattle.schedule.proofs.write.put_records.Goals as goal

pub put_record-place-requires : goal.put_record-place-requires
put_record-place-requires c =
    let xs = c.args.records.now in
    let i = c.loop-record.record-index in
    let e = drop_more xs i blank c.loop-record-test.true in (
      (subst AllWritable e c.loop-record.invariant.0).0,
      omega (arith, split_length c.loop-record.before (drop i xs) (get_or xs i blank) (drop (i + 1) xs) e, c.loop-record.invariant.1, c.requires.1),
    )

pub loop-record-preserved : goal.loop-record-preserved
loop-record-preserved c =
    let xs = c.args.records.now in
    let i = c.loop-record.record-index in
    let x = get_or xs i blank in
    let b = c.loop-record.before in
    let rest = drop (i + 1) xs in
    let e = drop_more xs i blank c.loop-record-test.true in
    let n = split_length b (drop i xs) x rest e in (
      (subst AllWritable e c.loop-record.invariant.0).1,
      omega (arith, n, c.loop-record.invariant.1, c.put_record-place.ensures.next),
      ap (put c.put_record-place.result (records_bytes (Some x.worker) rest)) c.put_record-place.ensures.after
          ∙ put_put c.loop-record.place c.put_record-place.result (record_bytes b x) (records_bytes (Some x.worker) rest) c.loop-record.strip c.put_record-place.ensures.next
          (omega (arith, n, c.loop-record.invariant.1, c.requires.1))
          ∙ ap (λ (l : List CallRecord). put c.loop-record.place (records_bytes b l) c.loop-record.strip) (sym e)
          ∙ c.loop-record.invariant.2,
    )

pub returns : goal.returns
returns c =
    let e = drop_all c.loop-record.record-index c.args.records.now c.loop-record-test.false in
    record {
      next = omega (arith, ap (λ (l : List CallRecord). length (records_bytes c.loop-record.before l)) e, c.loop-record.invariant.1);
      after =
          sym (put_nothing c.loop-record.place c.loop-record.strip)
          ∙ ap (λ (l : List CallRecord). put c.loop-record.place (records_bytes c.loop-record.before l) c.loop-record.strip) (sym e)
          ∙ c.loop-record.invariant.2;
    }
