use Rattle.bench.proofs.Turning.{all_fit, nearly_each, same_piece}
use Rattle.bench.proofs.tricks.Tricks.turn.Goals as goal

pub returns-in-Plain-clause-near : goal.returns-in-Plain-clause-near
returns-in-Plain-clause-near c = let page = c.args.page.now in nearly_each 17 page page (λ j h. same_piece page j)

pub returns-in-Plain-clause-bytes : goal.returns-in-Plain-clause-bytes
returns-in-Plain-clause-bytes c = all_fit c.args.page.now c.type_inv.page

pub returns-in-Random-clause-bytes : goal.returns-in-Random-clause-bytes
returns-in-Random-clause-bytes c = all_fit c.turn_bits-turned.new.page c.type_inv.page
