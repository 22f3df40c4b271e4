-- `judge_sections` meets its contract. Outer invariant: no section before this one has a fault. Inner invariant: no member before this one has one.
use Rattle.judge.specs.Loops.{outer_start, outer_end, outer_absent, inner_start, place_asked, member_asked, after_asked, inner_wrong}
use Rattle.judge.specs.Loops.{inner_more, head_asked, head_wrong, inner_next}
use Rattle.judge.proofs.judge_sections.Goals as goal

pub loop-section-init : goal.loop-section-init
loop-section-init c = search outer_start

pub loop-section-preserved-then-not-is_present : goal.loop-section-preserved-then-not-is_present
loop-section-preserved-then-not-is_present c = search outer_absent

pub loop-k-init : goal.loop-k-init
loop-k-init c = search inner_start

pub member_place-at-requires : goal.member_place-at-requires
member_place-at-requires c = search place_asked

pub member_follows-requires : goal.member_follows-requires
member_follows-requires c = search member_asked

pub after_member-progress-requires : goal.after_member-progress-requires
after_member-progress-requires c = search after_asked

pub loop-k-preserved : goal.loop-k-preserved
loop-k-preserved c = search inner_more

pub check_head-requires : goal.check_head-requires
check_head-requires c = search head_asked

pub loop-section-preserved : goal.loop-section-preserved
loop-section-preserved c = inner_next _ _ _ _ _ _ c.loop-k.invariant c.loop-k-test.false (c.in_default.ensures)

pub returns-then-not-member_follows : goal.returns-then-not-member_follows
returns-then-not-member_follows c = search inner_wrong

pub returns-in-Err : goal.returns-in-Err
returns-in-Err c = head_wrong _ _ _ _ _ _ c.loop-k.invariant c.loop-k-test.false _ (c.in-Err.ensures)

pub returns-after-loop-section : goal.returns-after-loop-section
returns-after-loop-section c = search outer_end
