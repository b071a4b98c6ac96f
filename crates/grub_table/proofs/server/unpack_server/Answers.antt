use Rattle.grub_table.specs.Words.{server_word, ServerFits}
use Rattle.grub_table.proofs.Found.{none_from_found}
use Rattle.grub_table.proofs.Halves.{server, server_word-made, server-halves, halves_found, halves_not_found}
use Rattle.grub_table.proofs.server.unpack_server.Goals as goal

pub returns-then-server_fits-clause-found : goal.returns-then-server_fits-clause-found
returns-then-server_fits-clause-found c =
    halves_found ServerFits server_word server server_word-made server-halves c.args.word _ _ c.halves-q.ensures.low c.halves-q.ensures.high (c.server_fits.ensures.0 c.if-server_fits.true)

pub returns-then-server_fits-clause-none : goal.returns-then-server_fits-clause-none
returns-then-server_fits-clause-none c =
    none_from_found ServerFits server_word c.args.word _ (returns-then-server_fits-clause-found c)

pub returns-else-server_fits-clause-found : goal.returns-else-server_fits-clause-found
returns-else-server_fits-clause-found c =
    halves_not_found ServerFits server_word server server_word-made server-halves c.args.word _ _ c.halves-q.ensures.low c.halves-q.ensures.high (λ fits. let yes = c.server_fits.ensures.1 fits in cc)

pub returns-else-server_fits-clause-none : goal.returns-else-server_fits-clause-none
returns-else-server_fits-clause-none c =
    none_from_found ServerFits server_word c.args.word _ (returns-else-server_fits-clause-found c)
