use Rattle.rules_grammar.specs.Grammar.{constant_word}
use Rattle.parse_leaves.proofs.cursor.Cursor.constant_word.Goals as goal

pub returns-clause-reads : goal.returns-clause-reads
unfolding constant_word
returns-clause-reads c = c.one_of.ensures.reads
