use Rattle.bench.proofs.Turning.{all_fit}
use Rattle.bench.proofs.tricks.Tricks.show.Goals as goal

pub returns-in-Blank-clause-bytes : goal.returns-in-Blank-clause-bytes
returns-in-Blank-clause-bytes c = all_fit c.args.page.now c.type_inv.page

pub returns-in-Torn-clause-bytes : goal.returns-in-Torn-clause-bytes
returns-in-Torn-clause-bytes c = all_fit c.tear.new.page c.type_inv.page
