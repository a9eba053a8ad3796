use Rattle.engine_rule.proofs.Own.{wrote, refused_held_up, refused_failed, refused_full, refused_looked, refused_stalled}
use Rattle.engine_rule.proofs.ends.accounts_of_the_commits.Goals as goal

pub returns : goal.returns
returns c = record {
  wrote = λ settings k commits x first group_last newest more free answer passed above reached s within shows unseen. wrote k.start k.opening k.client k.own k.sights k.answers x s k.before k.after more.0 k.known k.now more.1 free within.delay within.said within.logged commits newest.0 newest.1 settings first group_last answer passed above reached shows unseen;
  held_up = λ k x numbers by moment bytes more free answer impatient hold later s within. refused_held_up k.start k.opening k.client k.own k.sights k.answers x s k.before k.after more.0 k.known k.now more.1 free within.delay within.said within.logged numbers by moment bytes answer impatient hold later;
  failed = λ k x count more free answer s within. refused_failed k.start k.opening k.client k.own k.sights k.answers x s k.before k.after more.0 k.known k.now more.1 free within.delay within.said within.logged count answer;
  full = λ k commits x last newest more free answer low s within. refused_full k.start k.opening k.client k.own k.sights k.answers x s k.before k.after more.0 k.known k.now more.1 free within.delay within.said within.logged commits newest.0 newest.1 last answer low;
  looked = λ k records how numbers. refused_looked k.start k.opening k.client k.own k.sights k.answers records how k.before k.after k.known k.now numbers;
  stalled = λ k records how numbers by place more free impatient later met. refused_stalled k.start k.opening k.client k.own k.sights k.answers records how k.before k.after k.known k.now numbers by place more.0 more.1 free impatient later met;
}
