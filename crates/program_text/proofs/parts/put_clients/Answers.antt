-- Clients are numbered from 1.
use Rattle.std.specs.List.{enumerate_from}
use Rattle.program_text.specs.ShownText.{client_lines}
use Rattle.program_text.proofs.Clients.{client_more, clients_end}
use Rattle.program_text.proofs.Loops.{all_put, one_more}
use Rattle.program_text.proofs.parts.put_clients.Goals as goal

pub loop-before-preserved : goal.loop-before-preserved
loop-before-preserved g c =
    one_more g.K.Sink client_lines _ _ _ _ _ _ (enumerate_from 1 c.args.transcripts.now) c.loop-before.before _
    (client_more c.args.transcripts.now c.loop-before.before c.index-transcripts-before.result c.loop-before-test.true c.index-transcripts-before.is) c.loop-before.invariant c.put_client.ensures

pub returns : goal.returns
returns g c =
    all_put g.K.Sink client_lines _ _ _ _ (enumerate_from 1 c.args.transcripts.now) c.loop-before.before (clients_end c.args.transcripts.now c.loop-before.before c.loop-before-test.false) c.loop-before.invariant
