-- `plan_fields::members::put_members` meets its contract: the first i members are stored.
use Rattle.std.specs.Prelude.{◌≡◌, take}
use Rattle.field.specs.Put.{put}
use Rattle.rules.specs.Plan.{members_bytes}
use Rattle.plan_fields.proofs.members.put_members.Given as goal

abbrev pub invariant-loop-i : goal.invariant-loop-i
invariant-loop-i g l = l.d ≡ put l.initial.d l.at (members_bytes g.M.Member.bytes (take l.i l.members))
