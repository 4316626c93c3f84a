-- The walk over the entries, by the test of one.
use Rattle.std.proofs.Common.{rules, tests, ◌∙◌}
use Rattle.std.proofs.lemmas.Iterator.{YieldsList-from_slice}
use Rattle.std.proofs.lemmas.Iterator.Search.{any_from_yields_List}
use Rattle.segment.proofs.Walks.{any_is_not_every}
use Rattle.segment.specs.declared.cache_info.CacheInfo.{CacheInfo}
use Rattle.rules.specs.Links.{too_large}
use Rattle.entries.proofs.replaces.some_too_large.Goals as goal

pub returns : goal.returns
returns c =
    let large = λ (info : CacheInfo). too_large info.log_size in
    any_from_yields_List large _ _ _ c.any.ensures.ran (YieldsList-from_slice c.args.infos.now (cc)) (λ x b q k. search (rules, tests))
    ∙ any_is_not_every large c.args.infos.now
