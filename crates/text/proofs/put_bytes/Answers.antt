-- `put_bytes` meets its contract. Invariant: the first `done` bytes are stored.
use Rattle.std.proofs.Common.{◌≡◌, ◌+◌, arith, length, subst}
use Rattle.text.specs.Text.{BytesPut, storing_none, storing_more, storing_all}
use Rattle.text.proofs.put_bytes.Goals as goal

pub loop-done-init : goal.loop-done-init
loop-done-init c = search storing_none

pub loop-done-preserved : goal.loop-done-preserved
loop-done-preserved c = search storing_more

pub returns : goal.returns
returns c =
    let e : c.loop-done.done ≡ length c.args.bytes.now = omega arith in
    subst (λ n. BytesPut c.args.out.now c.args.at c.args.bytes.now c.loop-done.out (c.args.at + n)) e (
    storing_all _ _ _ _ _ c.loop-done.invariant c.requires (omega arith)
    )
