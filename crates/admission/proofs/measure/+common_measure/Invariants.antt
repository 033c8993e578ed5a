use Rattle.admission.proofs.measure.+common_measure.Given as goal

-- the remainder falls
abbrev pub decreases-common_measure : goal.decreases-common_measure
decreases-common_measure l = l.b
