use Rattle.std.proofs.Common.{refl, arith}
use Rattle.schedule.proofs.Puts.{put_middle}
use Rattle.schedule.proofs.write.put_all.Goals as goal

pub returns : goal.returns
returns c = record { next = refl; after = put_middle _ _ _ _ _ c.copy_from_slice.ensures.after (omega arith) }
