-- The walk over the pages, by the test of one.
use Rattle.std.proofs.Common.{ℕ, rules, tests, length, get_or, refl, sym, ap, ◌∙◌, arith}
use Rattle.std.specs.List.{list_all, range_with_len}
use Rattle.std.proofs.lemmas.Iterator.{YieldsList-from_range}
use Rattle.std.proofs.lemmas.Iterator.Search.{all_from_yields_List}
use Rattle.std.proofs.lemmas.List.Folds.{list_all-map}
use Rattle.std.proofs.lemmas.List.FromFn.{fill_by_all}
use Rattle.segment.specs.Pages.{no_entry}
use Rattle.segment.proofs.Walks.{all_is_every}
use Rattle.rules.specs.Starting.{forms_page}
use Rattle.recovery.proofs.snapshots.forms_pages.Goals as goal

pub returns : goal.returns
returns c =
    let entries = c.args.directory.now in
    let forms = forms_page c.args.rows.now in
    let entry = λ (k : ℕ). get_or entries k no_entry in
    all_from_yields_List (λ k. forms (entry k)) _ _ _ c.all.ensures.ran (YieldsList-from_range 0 (length entries) (length entries) (cc) (omega arith)) (λ x b q k. search (rules, tests))
    ∙ (sym (list_all-map forms entry (range_with_len 0 (length entries)))
    ∙ (ap (list_all forms) (sym (fill_by_all entry entries (length entries) no_entry refl (λ k l. refl)))
    ∙ all_is_every forms entries))
