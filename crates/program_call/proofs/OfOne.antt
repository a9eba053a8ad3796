-- What is promised over a list of one disk is promised over the disk.
use Rattle.std.proofs.Common.{◌≡◌, ℕ, List, [], ◌∷◌, ◌++◌, length, ap, subst, arith}
use Rattle.std.proofs.lemmas.List.{length_push}
use Rattle.base_devices.specs.declared.source.Source as source
use Rattle.base_devices.specs.declared.sink.Sink as sink
use Rattle.replay_core.specs.declared.state.CoreOptions.{CoreOptions}
use Rattle.program_call.specs.Answers.{AnswersNothing, AnswersReplay}
use Rattle.program_call.specs.SeveralDisks.{OverFirst, OverFront}

-- the last of as many as one is the only one
pub only_one : {D : Type 0} (disks rest : List D) (last : D) → disks ≡ rest ++ last ∷ [] → length disks ≡ 1 → disks ≡ last ∷ []
only_one disks [] last cut one = cut
only_one disks (d ∷ rest) last cut one =
    let all : length disks ≡ length ((d ∷ rest) ++ last ∷ []) = ap length cut in
    let more = length_push (d ∷ rest) last in
    absurd (omega (arith, all, more, one))

head_same : {D : Type 0} (x y : D) (xs ys : List D) → x ∷ xs ≡ y ∷ ys → x ≡ y
head_same x y xs ys same = cc same

module _ {D : Type 0} (olds news : List D) (old new : D) (was : olds ≡ old ∷ []) (is : news ≡ new ∷ []) where
  pub of_first : (P : D → D → Type 0) → OverFirst olds news P → P old new
  of_first P over = (subst (λ ns. OverFirst (old ∷ []) ns P) is (subst (λ os. OverFirst os news P) was over)).0

  pub of_front : (P : List D → List D → Type 0) → OverFront 1 olds news P → P (old ∷ []) (new ∷ [])
  of_front P over = (subst (λ ns. OverFront 1 (old ∷ []) ns P) is (subst (λ os. OverFront 1 os news P) was over)).0

  same_disk : news ≡ olds → new ≡ old
  same_disk same = head_same new old [] [] (cc (was, is, same))

  module _ {S K : Type 0} (source : source.Ghosts S) (sink : sink.Ghosts K) (had has : S) (before after : K) (n : ℕ) where
    pub nothing_of_one : AnswersNothing source sink had has before after olds news n → AnswersNothing source sink had has before after old new n
    nothing_of_one a = record {
      one = a.one;
      said = a.said;
      silent = a.silent;
      source_untouched = a.source_untouched;
      disk_untouched = same_disk a.disk_untouched;
    }

    pub replay_of_one : (options : CoreOptions) → AnswersReplay source sink had has before after olds news options n → AnswersReplay source sink had has before after old new options n
    replay_of_one options a = record {
      one = a.one;
      disk_untouched = same_disk a.disk_untouched;
      schedule = a.schedule;
      other_schedule = a.other_schedule;
      source_failed = a.source_failed;
      source_fault_is_told = a.source_fault_is_told;
      no_fault = a.no_fault;
      sink_failed = a.sink_failed;
      read_to_end = a.read_to_end;
      replayed = a.replayed;
      replayed_prefix = a.replayed_prefix;
      silent = a.silent;
      completes = a.completes;
    }
