use Rattle.f2_reference_calls.proofs.depths.+steps_up.Given as goal

abbrev pub decreases-steps_up : goal.decreases-steps_up
decreases-steps_up l = l.few
