use Rattle.std.proofs.Common.{◌∙◌}
use Rattle.words.proofs.Words.{written}
use Rattle.words.proofs.write.Goals as goal

pub returns : goal.returns
returns g c = written g.row.N c.args.at c.args.s.now _ (g.T.Unsigned.number c.args.v) g.met.T.Unsigned.nonempty c.requires (c.copy_from_slice.ensures.after ∙ c.to_le_bytes.ensures)
