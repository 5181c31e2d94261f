-- Each turn adds the call that was read to those before it.
use Rattle.std.proofs.Common.{List, Some, Ok, Err, Option, sym, subst}
use Rattle.std.proofs.lemmas.Result.{err_from_is_err_and}
use Rattle.schedule.specs.declared.whole.Schedule.{Schedule}
use Rattle.schedule.specs.declared.whole.ReadError.TheVariants.{Faulty}
use Rattle.schedule.specs.Whole.{Reads}
use Rattle.schedule.proofs.Back.{reads_back}
use Rattle.schedule.proofs.Rewritten.{written_back}
use Rattle.schedule.specs.declared.call.Call.{Call}
use Rattle.schedule.specs.Progress.{Advances}
use Rattle.schedule.proofs.Sofar.{At, at_next, at_end, at_fault}
use Rattle.schedule.proofs.whole.read.Goals as goal

abbrev Answered : goal.In_ok-push → Option Call → Type 0
Answered c x = Advances c.loop-calls.reader c.next_call.new.self (Ok x)

went : (c : goal.In_ok-push) → Answered c (Some c.in-Some.call)
went c = subst (Answered c) c.in-Some.is c.in_ok-call.ensures

pub loop-calls-preserved : goal.loop-calls-preserved
loop-calls-preserved c =
    let P : List Call → Type 0 = λ cs. At c.args.bytes.now c.in_ok-opening.opening c.next_call.new.self cs in
    subst P (sym c.in_ok-push.ensures.items) (at_next _ _ _ _ _ _ c.loop-calls.invariant (went c))

pub returns-in_err-call : goal.returns-in_err-call
returns-in_err-call c =
    let bs = c.args.bytes.now in
    let e = c.in_err-call.field-0.0 in
    let p = err_from_is_err_and c.from_residual-in_err-call.result c.from_residual-in_err-call.ensures.1 in
    let all : Reads bs (Err (Faulty e)) = at_fault _ _ _ _ _ _ c.loop-calls.invariant c.in_err-call.ensures in
    rw (p.1, p.2) (record { reads = all; back = reads_back bs (Err (Faulty e)) all; written_back = tt })

pub returns : goal.returns
returns c =
    let bs = c.args.bytes.now in
    let s : Schedule = record { opening = c.in_ok-opening.opening; calls = c.loop-calls.calls } in
    let P : Option Call → Type 0 = λ x. Advances c.loop-calls.reader c.next_call.new.self (Ok x) in
    let all : Reads bs (Ok s) = at_end _ _ _ _ _ c.loop-calls.invariant (subst P c.in_default.is c.in_ok-call.ensures) in
    record { reads = all; back = reads_back bs (Ok s) all; written_back = written_back bs (Ok s) all }
