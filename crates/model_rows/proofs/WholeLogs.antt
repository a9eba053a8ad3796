-- Logs that are recovered as a whole: nothing longer can be kept.
use Rattle.std.proofs.Common.{[], ◌∷◌, Some, refl}
use Rattle.std.proofs.Math.Dec.{lit≤, lit<}
use Rattle.model_base.specs.Varint.{varint_within}
use Rattle.model_base.specs.Batch.{IsReadable, batch}
use Rattle.model_base.specs.declared.log.EndReason.TheVariants.{Clean}
use Rattle.model_base.specs.Log.{full, plain_log, text}
use Rattle.model_base.specs.Reading.{seen_within, clean}
use Rattle.model_base.specs.Recovery.{IsRecovered, reading}
use Rattle.model_base.specs.RecoveredLogs.{IsRecoveredAfter, AreRecovered, ends_here, goes_on}
use Rattle.model_rows.specs.Examples.{put_a1, put_b2}
use Rattle.model_rows.specs.NumberedLogs.{older_log, older_recovered}
use Rattle.model_rows.specs.TwoBatches.{log_of_two, both_recovered, none_recovered, in_two_logs, both_logs_recovered}

readable_a : IsReadable put_a1
readable_a = record { tag = refl; family = tt; lengths = (lit< tt, (lit< tt, tt)) }

readable_b : IsReadable put_b2
readable_b = record { tag = refl; family = tt; lengths = (lit< tt, (lit< tt, tt)) }

pub both : IsRecovered plain_log log_of_two both_recovered
unfolding varint_within seen_within
both = record {
  keeps = record {
    within = lit≤ tt;
    spelled = record {
      groups = (record { kind = full; part = batch 1 (put_a1 ∷ []) } ∷ []) ∷ (record { kind = full; part = batch 2 (put_b2 ∷ []) } ∷ []) ∷ [];
      whole = (refl, (refl, tt));
      same = refl;
      fit = (lit≤ tt, (lit≤ tt, tt));
      spelled = refl;
    };
    are_batches = (
      record { spelled = refl; readable = (readable_a, tt); sequence_fits = lit< tt; count_fits = lit< tt },
      (record { spelled = refl; readable = (readable_b, tt); sequence_fits = lit< tt; count_fits = lit< tt }, tt),
    );
    in_order = ((λ some. (lit< tt, lit≤ tt)), ((λ some. (lit< tt, lit≤ tt)), tt));
  };
  most = λ kept batches keeps. keeps.within;
  ends = reading (clean (record { begun = tt; stand = record { rest = []; there = refl; fit = tt }; is_next = refl }));
}

pub both_by_number : IsRecovered (Some 7) older_log older_recovered
unfolding varint_within seen_within
both_by_number = record {
  keeps = record {
    within = lit≤ tt;
    spelled = record {
      groups = (record { kind = full; part = batch 1 (put_a1 ∷ []) } ∷ []) ∷ (record { kind = full; part = batch 2 (put_b2 ∷ []) } ∷ []) ∷ [];
      whole = (refl, (refl, tt));
      same = refl;
      fit = (lit≤ tt, (lit≤ tt, tt));
      spelled = refl;
    };
    are_batches = (
      record { spelled = refl; readable = (readable_a, tt); sequence_fits = lit< tt; count_fits = lit< tt },
      (record { spelled = refl; readable = (readable_b, tt); sequence_fits = lit< tt; count_fits = lit< tt }, tt),
    );
    in_order = ((λ some. (lit< tt, lit≤ tt)), ((λ some. (lit< tt, lit≤ tt)), tt));
  };
  most = λ kept batches keeps. keeps.within;
  ends = reading (clean (record { begun = tt; stand = record { rest = []; there = refl; fit = tt }; is_next = refl }));
}

pub none : IsRecovered plain_log [] none_recovered
unfolding seen_within
none = record {
  keeps = record {
    within = lit≤ tt;
    spelled = record { groups = []; whole = tt; same = refl; fit = tt; spelled = refl };
    are_batches = tt;
    in_order = tt;
  };
  most = λ kept batches keeps. keeps.within;
  ends = reading (clean (record { begun = tt; stand = record { rest = []; there = refl; fit = tt }; is_next = refl }));
}

-- each batch in a log of its own, the second after the sequence of the first
first_log : IsRecoveredAfter 0 plain_log (text plain_log (batch 1 (put_a1 ∷ []) ∷ [])) (record { batches = record { first = 1; records = put_a1 ∷ [] } ∷ []; kept = 24; at = 24; why = Clean })
unfolding varint_within seen_within
first_log = record {
  keeps = record {
    within = lit≤ tt;
    spelled = record {
      groups = (record { kind = full; part = batch 1 (put_a1 ∷ []) } ∷ []) ∷ [];
      whole = (refl, tt);
      same = refl;
      fit = (lit≤ tt, tt);
      spelled = refl;
    };
    are_batches = (record { spelled = refl; readable = (readable_a, tt); sequence_fits = lit< tt; count_fits = lit< tt }, tt);
    in_order = ((λ some. (lit< tt, lit≤ tt)), tt);
  };
  most = λ kept batches keeps. keeps.within;
  ends = reading (clean (record { begun = tt; stand = record { rest = []; there = refl; fit = tt }; is_next = refl }));
}

second_log : IsRecoveredAfter 1 plain_log (text plain_log (batch 2 (put_b2 ∷ []) ∷ [])) (record { batches = record { first = 2; records = put_b2 ∷ [] } ∷ []; kept = 24; at = 24; why = Clean })
unfolding varint_within seen_within
second_log = record {
  keeps = record {
    within = lit≤ tt;
    spelled = record {
      groups = (record { kind = full; part = batch 2 (put_b2 ∷ []) } ∷ []) ∷ [];
      whole = (refl, tt);
      same = refl;
      fit = (lit≤ tt, tt);
      spelled = refl;
    };
    are_batches = (record { spelled = refl; readable = (readable_b, tt); sequence_fits = lit< tt; count_fits = lit< tt }, tt);
    in_order = ((λ some. (lit< tt, lit≤ tt)), tt);
  };
  most = λ kept batches keeps. keeps.within;
  ends = reading (clean (record { begun = tt; stand = record { rest = []; there = refl; fit = tt }; is_next = refl }));
}

pub both_logs : AreRecovered plain_log in_two_logs both_logs_recovered
both_logs = goes_on _ _ first_log refl (ends_here _ second_log (λ clean. refl))
