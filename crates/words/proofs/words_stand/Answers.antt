use Rattle.words.proofs.Laws.{words_cut, words_formed, words_few, words_fit}
use Rattle.words.proofs.words_stand.Goals as goal

pub returns : goal.returns
returns c = record { cut = words_cut; formed = words_formed; few = words_few; fit = words_fit }
