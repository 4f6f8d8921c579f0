use Rattle.std.proofs.Common.{◌≡◌, ◌++◌, length, codes, ap, arith}
use Rattle.std.proofs.lemmas.Grind.{common_steps}
use Rattle.std.specs.Option.{option_map}
use Rattle.script.specs.declared.commands.Command.TheVariants.{Read, Trim, Flush, Turn, Seed}
use Rattle.script.proofs.Lengths.{text_short}
use Rattle.script.proofs.Texts.{named, read_is, trim_is, flush_is, turn_is, seed_is}
use Rattle.script.proofs.commands.parse.Goals as goal

pub returns-then-line-gt-LONGEST : goal.returns-then-line-gt-LONGEST
returns-then-line-gt-LONGEST c v f e = omega (arith, c.if-line-gt-LONGEST.true, text_short v f, ap length e)

pub returns-in-read : goal.returns-in-read
returns-in-read c =
    let e : c.args.line.now ≡ codes "read" ++ c.split_at_byte.result.1.now = grind (arith, common_steps) in
    let r : c.map-in-read.result ≡ option_map (λ v. Read v.tag v.from v.many) c.only_span.result = grind (arith, common_steps) in
    rw (e, r) (read_is _ _ c.only_span.ensures)

pub returns-in-trim : goal.returns-in-trim
returns-in-trim c =
    let e : c.args.line.now ≡ codes "trim" ++ c.split_at_byte.result.1.now = grind (arith, common_steps) in
    let r : c.map-in-trim.result ≡ option_map (λ v. Trim v.tag v.from v.many) c.only_span-in-trim.result = grind (arith, common_steps) in
    rw (e, r) (trim_is _ _ c.only_span-in-trim.ensures)

pub returns-in-flush : goal.returns-in-flush
returns-in-flush c =
    let e : c.args.line.now ≡ codes "flush" ++ c.split_at_byte.result.1.now = grind (arith, common_steps) in
    let r : c.map-in-flush.result ≡ option_map Flush c.only_tag.result = grind (arith, common_steps) in
    rw (e, r) (flush_is _ _ c.only_tag.ensures)

pub returns-in-turn : goal.returns-in-turn
returns-in-turn c =
    let e : c.args.line.now ≡ codes "turn" ++ c.split_at_byte.result.1.now = grind (arith, common_steps) in
    let r : c.map-in-turn.result ≡ option_map Turn c.only_number-in-turn.result = grind (arith, common_steps) in
    rw (e, r) (turn_is _ _ c.only_number-in-turn.ensures)

pub returns-in-seed : goal.returns-in-seed
returns-in-seed c =
    let e : c.args.line.now ≡ codes "seed" ++ c.split_at_byte.result.1.now = grind (arith, common_steps) in
    let r : c.map-in-seed.result ≡ option_map Seed c.only_number-in-seed.result = grind (arith, common_steps) in
    rw (e, r) (seed_is _ _ c.only_number-in-seed.ensures)

pub returns-in_default : goal.returns-in_default
returns-in_default c d f e = let p = named _ _ _ d c.split_at_byte.ensures e in grind (arith, common_steps)

pub returns-in_default-4 : goal.returns-in_default-4
returns-in_default-4 c d f e = let p = named _ _ _ d c.split_at_byte.ensures e in grind (arith, common_steps)

pub returns-in_default-16 : goal.returns-in_default-16
returns-in_default-16 c d f e = let p = named _ _ _ d c.split_at_byte.ensures e in grind (arith, common_steps)

pub returns-in_default-25 : goal.returns-in_default-25
returns-in_default-25 c d f e = let p = named _ _ _ d c.split_at_byte.ensures e in grind (arith, common_steps)

pub returns-in_default-26 : goal.returns-in_default-26
returns-in_default-26 c d f e = let p = named _ _ _ d c.split_at_byte.ensures e in grind (arith, common_steps)
