use Rattle.size_report.proofs.figures.+rounded_by.Given as goal

abbrev pub decreases-rounded_by : goal.decreases-rounded_by
decreases-rounded_by l = l.more
