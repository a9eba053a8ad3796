use Rattle.line_writers.proofs.Pays.{pays_from}
use Rattle.line_writers.proofs.reply_law.replies_in_order.Goals as goal

pub returns : goal.returns
returns g c own group replies is = pays_from own group replies is
