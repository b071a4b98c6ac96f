use Rattle.std.proofs.Common.{inl, map, string_bytes}
use Rattle.grubrun.proofs.Served.{right_done, right_failed, right_file, right_help, right_usage, wrong_done, wrong_failed, wrong_file, wrong_help, wrong_most, wrong_nothing, wrong_usage}
use Rattle.grubrun.proofs.serve.serve.Goals as goal

-- ---- right words
pub returns-in-Ok-clause-status : goal.returns-in-Ok-clause-status
returns-in-Ok-clause-status g c = c.serve_options.ensures.most

pub returns-in-Ok-clause-nothing : goal.returns-in-Ok-clause-nothing
returns-in-Ok-clause-nothing g c = c.serve_options.ensures.nothing

pub returns-in-Ok-clause-file : goal.returns-in-Ok-clause-file
returns-in-Ok-clause-file g c = right_file _ _ _ _ _ _ _ _ c.in-Ok.ensures.wanted _ c.in-Ok.ensures.tries _ c.in-Ok.ensures.matches _ c.serve_options.ensures

pub returns-in-Ok-clause-usage : goal.returns-in-Ok-clause-usage
returns-in-Ok-clause-usage g c = right_usage _ _ _ _ _ _ _ _ c.in-Ok.ensures.wanted _ c.in-Ok.ensures.tries _ c.in-Ok.ensures.matches _ c.serve_options.ensures

pub returns-in-Ok-clause-done : goal.returns-in-Ok-clause-done
returns-in-Ok-clause-done g c = right_done _ _ _ _ _ _ _ _ c.in-Ok.ensures.wanted _ c.in-Ok.ensures.tries _ c.in-Ok.ensures.matches _ c.serve_options.ensures

pub returns-in-Ok-clause-failed : goal.returns-in-Ok-clause-failed
returns-in-Ok-clause-failed g c = right_failed _ _ _ _ _ _ _ _ c.in-Ok.ensures.wanted _ c.in-Ok.ensures.tries _ c.in-Ok.ensures.matches _ c.serve_options.ensures

pub returns-in-Ok-clause-help : goal.returns-in-Ok-clause-help
returns-in-Ok-clause-help g c = right_help _ _ _ _ _ _ _ _ c.in-Ok.ensures.wanted _ c.in-Ok.ensures.tries _ c.in-Ok.ensures.matches _ c.serve_options.ensures c.in-Ok.ensures.faults

-- ---- words that are refused: they have a kind, unless memory was refused
pub returns-in-Err-clause-usage : goal.returns-in-Err-clause-usage
returns-in-Err-clause-usage g c is = inl (wrong_usage _ _ c.in-Err.ensures.faults _ _ _ c.serve_error.ensures.memory is)

pub returns-in-Err-clause-done : goal.returns-in-Err-clause-done
returns-in-Err-clause-done g c is = inl (wrong_done _ _ c.in-Err.ensures.faults _ _ _ c.serve_error.ensures.memory is)

pub returns-in-Err-clause-failed : goal.returns-in-Err-clause-failed
returns-in-Err-clause-failed g c is = wrong_failed _ _ c.in-Err.ensures.faults _ _ _ c.serve_error.ensures.memory

pub returns-in-Err-clause-help : goal.returns-in-Err-clause-help
returns-in-Err-clause-help g c refused is = wrong_help (map string_bytes c.args.words.now) _ c.in-Err.ensures.faults _ _ _ c.serve_error.ensures.memory (g.W.Write.contents c.args.streams.now.out) (g.W.Write.contents c.serve_error.new.streams.out) is (c.serve_error.ensures.shown is)

pub returns-in-Err-clause-status : goal.returns-in-Err-clause-status
returns-in-Err-clause-status g c = wrong_most _ c.serve_error.ensures.status

pub returns-in-Err-clause-file : goal.returns-in-Err-clause-file
returns-in-Err-clause-file g c = wrong_file _ c.serve_error.ensures.status

pub returns-in-Err-clause-nothing : goal.returns-in-Err-clause-nothing
returns-in-Err-clause-nothing g c = wrong_nothing _ c.serve_error.ensures.status c.serve_error.ensures.nothing
