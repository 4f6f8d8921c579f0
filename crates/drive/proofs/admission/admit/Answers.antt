use Rattle.std.proofs.Common.{[], rules}
use Rattle.refusals.specs.Refusals.{answered, has}
use Rattle.drive.specs.Promise.{cmd_of}
use Rattle.drive.proofs.Verdicts.{admitted, few_begin}
use Rattle.drive.proofs.admission.admit.Goals as goal

pub returns : goal.returns
returns c =
    record {
      told = λ h bs k.
          admitted c.args.under_way.now c.args.sectors c.args.tag (answered c.judge.result) c.span_of.result h (cmd_of c.args.a bs) c.judge.ensures.told (c.span_of.ensures c.args.sectors bs) k;
      tagged = search rules;
      few = few_begin c.args.sectors c.args.tag (answered c.judge.result) (has c.args.under_way.now c.args.tag) c.span_of.result c.args.a c.judge.ensures.told (c.span_of.ensures c.args.sectors []);
    }
