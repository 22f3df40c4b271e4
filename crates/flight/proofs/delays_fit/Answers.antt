-- `flight::delays_fit` meets its contract: the test of all longest delays decides whether they fit.
use Rattle.std.proofs.Common.{rules, take, ◌<◌, ◌≤◌}
use Rattle.std.proofs.lemmas.Iterator.{cases_from_all, YieldsList-from_slice}
use borrow.Author.Tests.{tests, false-leb}
use Rattle.flight.proofs.Delays.{fits_decided}
use Rattle.flight.proofs.delays_fit.Goals as goal

pub returns : goal.returns
returns c =
    fits_decided c.args.f.now c.requires _
    (cases_from_all _ _ _ (λ x. c.args.f.now.turn ≤ x) (λ x. x < c.args.f.now.turn) c.all.ensures.ran
    (YieldsList-from_slice (take c.args.f.now.blocks c.args.f.now.longest) cc) (λ x q k. search (rules, tests)) (λ x q k. search false-leb))
