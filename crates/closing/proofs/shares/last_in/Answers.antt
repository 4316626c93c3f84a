-- What is found from the end is the last.
use Rattle.std.proofs.Common.{◌≡◌, rules, ◌∙◌}
use Rattle.closing.proofs.Sharing.{IsLast, number_found}
use Rattle.closing.proofs.shares.last_in.Goals as goal

pub returns : goal.returns
returns c =
    let last : IsLast c.args.segments.now c.rposition.result = search rules in
    let same : c.map.result ≡ c.rposition.result = search rules in
    same ∙ number_found c.args.segments.now c.rposition.result last
