-- A segment counts where its state is Inactive.
use Rattle.std.proofs.Common.{rules, tests, ◌∙◌}
use Rattle.std.proofs.lemmas.Iterator.{YieldsList-from_slice}
use Rattle.std.proofs.lemmas.Iterator.Consumers.{YieldsList-from_filter, count_from_yields_List}
use Rattle.segment.specs.declared.segment.Segment.{Segment}
use Rattle.rules.specs.Stabilizing.{is_inactive}
use Rattle.closing.proofs.Sharing.{length-filter_states}
use Rattle.closing.proofs.shares.inactive_in.Goals as goal

pub returns-clause-value : goal.returns-clause-value
returns-clause-value c =
    count_from_yields_List c.filter.result c.count.result c.count.ensures.ran (YieldsList-from_filter _ (λ (s : Segment). is_inactive s.state) (YieldsList-from_slice c.args.segments.now (cc)) c.filter.ensures.closure (λ x r q k. search (rules, tests)))
    ∙ length-filter_states is_inactive c.args.segments.now
