use Rattle.rules_grammar.specs.Grammar.{unary_word}
use Rattle.parse_leaves.proofs.cursor.Cursor.unary_word.Goals as goal

pub returns-clause-reads : goal.returns-clause-reads
unfolding unary_word
returns-clause-reads c = c.one_of.ensures.reads
