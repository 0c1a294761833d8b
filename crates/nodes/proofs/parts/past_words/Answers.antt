-- `nodes::parts::past_words` meets its contract. What is left of the strings ends where all do. Assumes nothing.
use Rattle.nodes.proofs.Strings.{along_strings}
use Rattle.nodes.proofs.parts.past_words.Goals as goal

pub past_word-at-requires : goal.past_word-at-requires
past_word-at-requires c = search along_strings

pub loop-preserved : goal.loop-preserved
loop-preserved c = search along_strings

pub returns : goal.returns
returns c = search along_strings
