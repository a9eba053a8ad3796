use Rattle.run_threads.proofs.clients.work.Goals as goal

-- the client's own commands are those at its place in the script
pub run_client-requires-clause-fits : goal.run_client-requires-clause-fits
run_client-requires-clause-fits g c = rw c.index-script-i.is (c.requires.fits c.index-script-i.result)

pub run_client-requires-clause-room : goal.run_client-requires-clause-room
run_client-requires-clause-room g c = rw c.index-script-i.is (c.requires.room c.index-script-i.result)
