use Rattle.std.proofs.Common.{◌∙◌}
use Rattle.line_buffer.proofs.Buffered.{kept_more, kept_step}
use Rattle.line_buffer.proofs.LineBuffer.push.Goals as goal

pub returns : goal.returns
returns c l e =
    let old = c.self.inside.bytes in
    let t = c.try_push.ensures in
    kept_more c.try_push.result old c.try_push.new.self c.args.b t.ok t.err t.full t.variant.0 ∙ kept_step old.items l c.args.b (c.self.view_is ∙ e)
