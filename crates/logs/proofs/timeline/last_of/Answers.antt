-- The first from the end that is the head's is found. Assumes nothing.
use Rattle.std.proofs.Common.{eqb, ◌∙◌, rules, tests}
use Rattle.std.proofs.lemmas.Iterator.Search.{find_from_yields_List}
use Rattle.std.proofs.lemmas.Iterator.Adapters.{YieldsList-from_rev_slice}
use Rattle.logs.specs.declared.entries.LogEntry.{LogEntry}
use Rattle.logs.proofs.timeline.last_of.Goals as goal

pub returns : goal.returns
returns c =
    c.copied.ensures
    ∙ find_from_yields_List (λ (e : LogEntry). eqb e.head c.args.head) _ _ c.find.result c.find.ensures.ran (YieldsList-from_rev_slice c.args.entries.now cc) (λ x b q k. search (rules, tests))
