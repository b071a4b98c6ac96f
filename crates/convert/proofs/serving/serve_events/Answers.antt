use Rattle.trace_options.proofs.StatusLemmas.{of_done}
use Rattle.convert.proofs.serving.serve_events.Goals as goal

pub returns-clause-done : goal.returns-clause-done
returns-clause-done g c done = of_done c.write_events-done.result c.told_status.result c.told_status.ensures.told done c.write_events-done.ensures
