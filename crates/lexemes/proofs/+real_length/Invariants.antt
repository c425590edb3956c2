use Rattle.lexemes.proofs.+real_length.Given as goal

abbrev pub decreases-real_length : goal.decreases-real_length
decreases-real_length l = l.places
