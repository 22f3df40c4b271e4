-- `sorting_labels::clear_labels` meets its contract: the front of the table is filled, and the rest stays.
use Rattle.std.proofs.Common.{ap, ◌∙◌, List, ℕ, ◌++◌, drop, replicate, arith, length-take, length-take-le}
use Rattle.sorting_bounds.specs.Layout.{labels_length}
use Rattle.sorting_labels.specs.Labels.{no_label, no_labels_to}
use Rattle.sorting_labels.proofs.clear_labels.Goals as goal

pub slice_bounds-fill-end-2 : goal.slice_bounds-fill-end-2
slice_bounds-fill-end-2 c = omega (arith, length-take {A = ℕ}, c.requires)

pub returns : goal.returns
unfolding no_labels_to
returns c =
    ap (λ (front : List ℕ). front ++ drop labels_length c.args.m.now)
    (c.fill.ensures.after (λ y e. e) ∙ ap (λ (n : ℕ). replicate n no_label) (length-take-le 5488 c.args.m.now (omega (arith, c.requires))))
