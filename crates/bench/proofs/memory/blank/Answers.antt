use Rattle.std.proofs.Common.{ℕ, replicate, ap, ◌∙◌}
use Rattle.bench.proofs.memory.blank.Goals as goal

pub returns : goal.returns
returns c = c.fill.ensures.after (λ y e. e) ∙ ap (λ (n : ℕ). replicate n 255) c.requires
