use Rattle.rules.proofs.WorkedOut.{worked_example}
use Rattle.rules.proofs.laws.example_works_out.Goals as goal

pub returns : goal.returns
returns c = worked_example
