use lib.ListN.{drop}
use Rattle.text_writing.proofs.Writing.{Remains}
use Rattle.desk_sentences.specs.Sentences.{nodes_end}
use Rattle.desk_sentences.proofs.write_nodes.Given as goal

abbrev pub invariant-loop-node : goal.invariant-loop-node
invariant-loop-node l = Remains l.initial.writer l.writer (nodes_end l.nodes) (nodes_end (drop l.node-index l.nodes))
