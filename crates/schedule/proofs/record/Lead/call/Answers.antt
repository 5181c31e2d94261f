-- Each part begins where the one before it ended, and each test comes after those before it.
use Rattle.std.proofs.lemmas.Result.{err_from_is_err_and}
use Rattle.schedule.proofs.Records.{runs_past, accepted}
use Rattle.schedule.proofs.record.Lead.call.Goals as goal

pub returns-in_err-record : goal.returns-in_err-record
returns-in_err-record c =
    let p = err_from_is_err_and c.from_residual-in_err-record.result c.from_residual-in_err-record.ensures.1 in
    rw (p.1, p.2, c.in_err-record.ensures.0)
    (runs_past _ _ _ _ _ _ _ _ c.in_ok-fields.ensures c.in_ok-operation.ensures c.in_ok-worker.ensures c.in_err-record.ensures.1)

pub returns : goal.returns
returns c =
    let ok = c.in_ok-try_from.ensures in
    accepted _ _ _ _ _ _ _ _ c.in_ok-fields.ensures c.in_ok-operation.ensures c.in_ok-worker.ensures _ _ c.in_ok-record.ensures c.if-is_needless.ensures _ ok.0 ok.1
