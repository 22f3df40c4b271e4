-- `plan_fields::members::put_members` meets its contract: the first i members are stored.
use Rattle.plan_fields.specs.MemberLaws.{members_none, members_next}
use Rattle.plan_fields.proofs.members.put_members.Goals as goal

pub loop-i-init : goal.loop-i-init
loop-i-init g c = search members_none

pub loop-i-preserved : goal.loop-i-preserved
loop-i-preserved g c =
    members_next g.M.Member.bytes g.M.Member.SIZE g.met.M.Member.sized _ _ _ _ _ _ _ _
    c.loop-i-test.true c.index-members-i.is c.SIZE.ensures c.loop-i.invariant c.store.ensures
