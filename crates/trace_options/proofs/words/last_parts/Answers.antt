use Rattle.trace_options.proofs.CutLemmas.{cut_last}
use Rattle.trace_options.proofs.words.last_parts.Goals as goal

pub returns : goal.returns
returns c = cut_last c.args.at c.args.text.now c.rsplit_once.result c.rsplit_once.ensures.cases c.requires
