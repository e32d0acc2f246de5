use Rattle.base_nodeset.proofs.MemberEntries.{set_none, new_inside, set_more, set_all}
use borrow.Author.Rules.{rules}
use Rattle.base_nodeset.proofs.write_members.Goals as goal

pub loop-i-init : goal.loop-i-init
loop-i-init c = set_none

pub write_word-requires : goal.write_word-requires
write_word-requires c = new_inside c.loop-i.invariant c.requires.1

pub loop-i-preserved : goal.loop-i-preserved
loop-i-preserved c = set_more c.loop-i.invariant c.loop-i-test.true (search rules) c.write_word.ensures

pub returns : goal.returns
returns c = set_all c.loop-i.invariant c.loop-i-test.false
