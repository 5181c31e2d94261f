use Rattle.rules.proofs.Lawful.{safe, balanced, prompt}
use Rattle.rules.proofs.laws.laws_hold.Goals as goal

pub returns : goal.returns
returns c = record { safe = safe; balanced = balanced; prompt = prompt }
