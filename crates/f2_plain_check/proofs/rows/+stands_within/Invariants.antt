use Rattle.f2_plain_check.proofs.rows.+stands_within.Given as goal

abbrev pub decreases-stands_within : goal.decreases-stands_within
decreases-stands_within l = l.most
