-- `sorting::plan_sorting` meets its contract: the section is an instance, the search returns its first best list, and the list's jobs are written.
use Rattle.sorting.proofs.Clauses.{search_pre, plan_of_pre, planned}
use Rattle.sorting.proofs.plan_sorting.Goals as goal

pub best_interleaving-best-requires : goal.best_interleaving-best-requires
best_interleaving-best-requires c = search search_pre

pub plan_of-requires : goal.plan_of-requires
plan_of-requires c = search plan_of_pre

pub returns : goal.returns
returns c = search planned
