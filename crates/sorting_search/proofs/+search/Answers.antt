-- `sorting_search::search`: the goals that no tactic closes by itself, each by a law of the search with its cuts.
use Rattle.sorting_search.specs.Table.{searched_leaf, searched_cut, branched_none, branched_yes, branched_no, branched_same, can_serve}
use Rattle.sorting_search.specs.Table.{step_less, search_pre_step, searched_all}
use borrow.Author.Tests.{ltb-true, ltb-false}
use Rattle.std.proofs.Common.{sym, ◌∙◌, ◌<◌, arith}
use Rattle.sorting_search.proofs.+search.Goals as goal
use Rattle.sorting_search.proofs.+search.Goals.{then-strip_left, else-strip_left}

pub returns-then-s-eq0 : goal.returns-then-s-eq0
returns-then-s-eq0 t c = search searched_leaf

pub returns-then-cut : goal.returns-then-cut
returns-then-cut t c = search searched_cut

pub loop-d-init : goal.loop-d-init
loop-d-init t c = search branched_none

pub search-b-requires : goal.search-b-requires
search-b-requires t c = let p : c.loop-d.d < 3 = omega arith in (search (step_less, can_serve), search (search_pre_step, can_serve))

pub loop-d-preserved : goal.loop-d-preserved
loop-d-preserved t c =
    elim c.if-strip_left.branch [
      | then-strip_left w ↦
          branched_same w.m-is w.b-is
          (branched_yes c.loop-d.invariant (omega arith) (ltb-true _ _ (sym c.strip_left.ensures ∙ w.if-strip_left.true)) w.step.ensures w.search-b.ensures)
      | else-strip_left w ↦
          branched_same w.m-is w.b-is (branched_no c.loop-d.invariant (omega arith) (ltb-false _ _ (sym c.strip_left.ensures ∙ w.if-strip_left.false)))
    ]

pub returns : goal.returns
returns t c = search searched_all
