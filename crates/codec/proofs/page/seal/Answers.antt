use Rattle.std.proofs.Common.{◌≡◌, take, arith, rules}
use mir.Facts.{Fits-lt-pow}
use Rattle.std.proofs.lemmas.List.{length-set}
use Rattle.codec.specs.Pages.{paged}
use Rattle.codec.proofs.Pages.{all_each}
use Rattle.codec.proofs.Writing.{seal_done, data_bytes}
use Rattle.codec.proofs.page.seal.Goals as goal

pub returns : goal.returns
returns c =
    let page = c.args.page.now in
    let mark = c.args.mark.now in
    let h = c.parity_of-all.result.index in
    let last = c.write_at-2.new.page in
    let s : last ≡ paged mark (take 4096 page) =
    seal_done mark page c.write_mark.new.page c.write_at.new.page last c.parities-checks.result h
    (omega arith) (omega arith) (omega (arith, length-set c.write_at.new.page 4321 h)) (omega arith) c.parities-checks.ensures c.parity_of-all.ensures.index
    (search rules) (search rules) (search rules) in
    record {
      sealed = s;
      bytes = (all_each mark (λ i. Fits-lt-pow (c.type_inv.mark i)), data_bytes mark page last (omega arith) s (all_each last (λ i. Fits-lt-pow (c.type_inv.page i))));
    }
