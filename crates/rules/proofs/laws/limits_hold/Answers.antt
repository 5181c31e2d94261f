use Rattle.rules.proofs.Lawful.{counts, children, stacks, rounds}
use Rattle.rules.proofs.laws.limits_hold.Goals as goal

pub returns : goal.returns
returns c = record { counts = counts; children = children; stacks = stacks; rounds = rounds }
