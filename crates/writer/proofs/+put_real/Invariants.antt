use Rattle.writer.proofs.+put_real.Given as goal

abbrev pub decreases-put_real : goal.decreases-put_real
decreases-put_real l = l.places
