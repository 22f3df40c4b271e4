-- `flight::plan_in_order` meets its contract: the starts are the least ones, and the last pass gives the figure.
use Rattle.flight.proofs.Planning.{lent_starts_pre, lent_least, plan_figure_fits, passes_at_pre, plan_made}
use Rattle.flight.proofs.plan_in_order.Goals as goal

pub least_starts-found-requires : goal.least_starts-found-requires
least_starts-found-requires c = lent_starts_pre c.blocks_of-blocks.ensures c.requires

pub overflow_add-finish : goal.overflow_add-finish
overflow_add-finish c = record { fits = plan_figure_fits _ _ c.requires (lent_least c.blocks_of-blocks.ensures c.least_starts-found.ensures) }

pub passes_at-requires : goal.passes_at-requires
passes_at-requires c = passes_at_pre _ _ c.requires (lent_least c.blocks_of-blocks.ensures c.least_starts-found.ensures) c.least_starts-found.auto.starts

pub returns : goal.returns
returns c = search (plan_made _ _ c.requires (lent_least c.blocks_of-blocks.ensures c.least_starts-found.ensures))
