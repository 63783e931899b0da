use Rattle.rules_grammar.specs.Grammar.{side_word}
use Rattle.parse_leaves.proofs.cursor.Cursor.side_word.Goals as goal

pub returns-clause-reads : goal.returns-clause-reads
unfolding side_word
returns-clause-reads c = c.one_of.ensures.reads
