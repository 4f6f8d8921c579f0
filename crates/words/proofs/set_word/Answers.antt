use Rattle.std.proofs.Common.{rules}
use Rattle.words.specs.Words.{word_at}
use Rattle.words.proofs.Words.{apart_words}
use Rattle.words.proofs.set_word.Goals as goal

pub returns : goal.returns
unfolding word_at
returns c = record { here = search rules; others = λ j ne. search (rules, apart_words) }
