use Rattle.std.proofs.Common.{rules, tests, ◌≡◌, ℕ, refl, sym, subst}
use Rattle.std.specs.Option.{option_map}
use Rattle.std.proofs.lemmas.Iterator.{YieldsList-from_range}
use Rattle.std.proofs.lemmas.Iterator.Consumers.{YieldsList-from_filter_map, reduce_from_yields_List}
use Rattle.drive.specs.Queue.{First}
use Rattle.drive.proofs.Fronts.{arrival, earlier, least_first}
use Rattle.drive.proofs.queue.Queue.first.Goals as goal

pub returns : goal.returns
returns c =
    let q = c.args.self.now in
    let tag : c.map.result ≡ option_map (λ (x : ℕ × ℕ). x.1) c.min.result = search rules in
    subst (λ r. First q 8 r) (sym tag) (least_first q 8 c.min.result (reduce_from_yields_List earlier c.filter_map.result c.min.result c.min.ensures.ran (YieldsList-from_filter_map _ (arrival q) (YieldsList-from_range 0 8 8 (cc) refl) c.filter_map.ensures.closure (λ x r f k. search (rules, tests)))))
