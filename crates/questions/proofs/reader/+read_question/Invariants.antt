use Rattle.questions.proofs.reader.+read_question.Given as goal

abbrev pub decreases-read_question : goal.decreases-read_question
decreases-read_question l = l.depth
