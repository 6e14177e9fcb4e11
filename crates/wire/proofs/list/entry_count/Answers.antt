-- `entry_count` answers with how many entries there are, by the laws of the number in front of them.
use Rattle.wire.proofs.ListLaws.{count_cut_lem, count_many, count_there}
use Rattle.wire.proofs.list.entry_count.Goals as goal

pub returns-then-s-lt2 : goal.returns-then-s-lt2
returns-then-s-lt2 c = count_cut_lem _ c.if-s-lt2.true

pub returns-then-last-ge-MOST_LISTED : goal.returns-then-last-ge-MOST_LISTED
returns-then-last-ge-MOST_LISTED c = count_many _ _ c.if-s-lt2.false c.get-last.ensures c.if-last-ge-MOST_LISTED.true

pub returns : goal.returns
returns c = count_there _ _ c.if-s-lt2.false c.get-last.ensures c.if-last-ge-MOST_LISTED.false
