use Rattle.poly_frame.proofs.frame.scarce.least_rank_of_word.Given as goal

abbrev pub decreases-loop-left : goal.decreases-loop-left
decreases-loop-left g l = l.left
