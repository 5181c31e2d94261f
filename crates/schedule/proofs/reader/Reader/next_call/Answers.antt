-- The next record begins at the bytes that are left, and has two bytes at least.
use Rattle.std.proofs.Common.{◌+◌, ◌<◌, ◌≤◌, length, refl, ap, subst, arith, rules}
use Rattle.schedule.specs.Tests.{FailsFirst}
use Rattle.schedule.specs.Reading.{tests, RecordRead}
use Rattle.schedule.specs.Progress.{Progress}
use Rattle.schedule.proofs.Advance.{goes, record_read, why_at, less}
use Rattle.schedule.proofs.reader.Reader.next_call.Goals as goal
use Rattle.schedule.proofs.reader.Reader.next_call.Goals.{In-Ok}

some_left : (c : goal.In-Ok) → 1 ≤ length c.self.inside.rest.now
some_left c = search rules

read : (c : goal.In-Ok) → RecordRead c.self.inside.before c.self.inside.rest.now c.in-Ok.call c.in-Ok.rest.now
read c = record_read _ _ _ _ (some_left c) c.in-Ok.ensures

two_less : (c : goal.In-Ok) → 2 + length c.in-Ok.rest.now ≤ length c.self.inside.rest.now
two_less c = less _ _ _ _ (read c)

pub returns-in-Err : goal.returns-in-Err
returns-in-Err c =
    let some : 1 ≤ length c.self.inside.rest.now = search rules in
    let P : Progress → Type 0 = λ p. FailsFirst (tests p.before p.rest) c.in-Err.fault in
    let Q : Progress → Type 0 = λ p. 0 < length p.rest in
    goes _ _ _ _ c.in_ok-opening.ensures
    (record {
      stays = refl;
      more = subst Q c.self.view_is (omega arith);
      why = subst P c.self.view_is (why_at _ _ _ some c.in-Err.ensures);
      number = ap (λ (p : Progress). p.records + 1) c.self.view_is;
      place = ap (λ (p : Progress). p.place) c.self.view_is;
    })
