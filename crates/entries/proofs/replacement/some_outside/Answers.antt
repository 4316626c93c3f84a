-- The walk over the entries, by the test of one.
use Rattle.std.proofs.Common.{rules, tests, ◌∙◌}
use Rattle.std.proofs.lemmas.Iterator.{YieldsList-from_slice}
use Rattle.std.proofs.lemmas.Iterator.Search.{any_from_yields_List}
use Rattle.segment.proofs.Walks.{any_is_not_every}
use Rattle.segment.specs.declared.cache_info.CacheInfo.{CacheInfo}
use Rattle.rules.specs.Links.{out_of_range}
use Rattle.entries.proofs.replacement.some_outside.Goals as goal

pub returns : goal.returns
returns c =
    let outside = λ (info : CacheInfo). out_of_range info.lsn in
    any_from_yields_List outside _ _ _ c.any.ensures.ran (YieldsList-from_slice c.args.infos.now (cc)) (λ x b q k. search (rules, tests))
    ∙ any_is_not_every outside c.args.infos.now
