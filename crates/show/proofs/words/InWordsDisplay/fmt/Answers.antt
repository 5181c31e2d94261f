-- Each call's words are what its format writes.
use Rattle.show.proofs.words.InWordsDisplay.fmt.Goals as goal

pub returns-in-Create-clause-writes : goal.returns-in-Create-clause-writes
returns-in-Create-clause-writes g c = rw c.in-Create.is c.write.ensures.writes

pub returns-in-AddChild-clause-writes : goal.returns-in-AddChild-clause-writes
returns-in-AddChild-clause-writes g c = rw c.in-AddChild.is c.write-in-AddChild.ensures.writes

pub returns-in-GetChild-clause-writes : goal.returns-in-GetChild-clause-writes
returns-in-GetChild-clause-writes g c = rw c.in-GetChild.is c.write-in-GetChild.ensures.writes

pub returns-in-Protect-clause-writes : goal.returns-in-Protect-clause-writes
returns-in-Protect-clause-writes g c = rw c.in-Protect.is c.write-in-Protect.ensures.writes

pub returns-in-UnProtect-clause-writes : goal.returns-in-UnProtect-clause-writes
returns-in-UnProtect-clause-writes g c = rw c.in-UnProtect.is c.write-in-UnProtect.ensures.writes

pub returns-in-Send-clause-writes : goal.returns-in-Send-clause-writes
returns-in-Send-clause-writes g c = rw c.in-Send.is c.write-in-Send.ensures.writes

pub returns-in-Make-clause-writes : goal.returns-in-Make-clause-writes
returns-in-Make-clause-writes g c = rw (c.in-Make.is, ← c.as_slice.ensures) c.write-in-Make.ensures.writes
