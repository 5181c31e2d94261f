use Rattle.std.proofs.Common.{rules}
use Rattle.schedule.proofs.Puts.{put_nothing}
use Rattle.schedule.proofs.write.put_if.Goals as goal

pub returns-else-wanted : goal.returns-else-wanted
returns-else-wanted c = search (rules, put_nothing)
