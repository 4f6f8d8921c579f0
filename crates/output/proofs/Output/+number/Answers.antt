use Rattle.std.proofs.Common.{◌++◌, ◌/◌, decimal, arith, append_assoc}
use Rattle.std.proofs.lemmas.Fmt.{decimal_digit, decimal_step}
use Rattle.output.proofs.Output.+number.Goals as goal

pub returns-then-n-lt10 : goal.returns-then-n-lt10
returns-then-n-lt10 t c l s = rw (decimal_digit c.args.n c.if-n-lt10.true) (c.push.ensures.prints l s)

pub returns : goal.returns
returns t c l s =
    rw (decimal_step c.args.n c.if-n-lt10.false (omega arith), ← append_assoc l (decimal (c.args.n / 10)) _) (c.push-2.ensures.prints (l ++ decimal (c.args.n / 10)) (c.number.ensures l s))
