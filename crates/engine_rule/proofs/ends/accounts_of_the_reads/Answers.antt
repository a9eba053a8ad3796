use Rattle.std.proofs.Common.{[], ◌∷◌, refl, sym, ◌∙◌, append-nil, arith}
use Rattle.std.proofs.lemmas.Grind.{flat_map-append}
use Rattle.model_base.proofs.Prefixes.{prefix_self}
use Rattle.engine_rule.specs.Reading.{gave, broke, lacked, reads_with, faults_with, reads_in, faults_in}
use Rattle.engine_rule.proofs.ends.accounts_of_the_reads.Goals as goal

pub returns : goal.returns
returns c = record {
  gave = λ k r more at. record {
    number = refl;
    mine = refl;
    ends = refl;
    asked = more.1.tokens;
    attempts = refl;
    read_faults = flat_map-append faults_with k.answers (gave r ∷ []) ∙ append-nil (faults_in k.answers);
    seen = record { start = refl; opening = refl; published = more.0; controller_calls = more.1.begins; log_reads = (r ∷ [], sym (flat_map-append reads_with k.answers (gave r ∷ []))); logged = omega arith; batches = prefix_self _ };
    tokens = refl;
    at_is = at;
    read = flat_map-append reads_with k.answers (gave r ∷ []);
  };
  broke = λ settings k count more rose. record {
    number = refl;
    mine = refl;
    ends = refl;
    asked = more.1.tokens;
    attempts = refl;
    read_faults = flat_map-append faults_with k.answers (broke count ∷ []);
    seen = record { start = refl; opening = refl; published = more.0; controller_calls = more.1.begins; log_reads = ([], append-nil (reads_in k.answers) ∙ sym (flat_map-append reads_with k.answers (broke count ∷ []) ∙ append-nil (reads_in k.answers))); logged = omega arith; batches = prefix_self _ };
    tokens = refl;
    rose = rose;
  };
  lacked = λ k more. record {
    number = refl;
    mine = refl;
    ends = refl;
    asked = more.1.tokens;
    attempts = refl;
    read_faults = flat_map-append faults_with k.answers (lacked ∷ []) ∙ append-nil (faults_in k.answers);
    seen = record { start = refl; opening = refl; published = more.0; controller_calls = more.1.begins; log_reads = ([], append-nil (reads_in k.answers) ∙ sym (flat_map-append reads_with k.answers (lacked ∷ []) ∙ append-nil (reads_in k.answers))); logged = omega arith; batches = prefix_self _ };
    tokens = refl;
  };
}
