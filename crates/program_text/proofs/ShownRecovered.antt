-- The text of what a caller sees of a recovery is the text of what is recovered.
use Rattle.std.proofs.Common.{◌≡◌, ℕ, List, [], ◌∷◌, ◌++◌, length, map, refl, ◌∙◌, ap}
use Rattle.std.specs.Prelude.{flat_map, decimal, codes}
use Rattle.std.proofs.lemmas.List.{length-map}
use Rattle.std.proofs.lemmas.List.Folds.{flat_map-map}
use Rattle.model_base.specs.declared.log.EndReason.{EndReason}
use Rattle.model_base.specs.Recovery as recovery
use Rattle.model_base.specs.RecoveredLogs.{RecoveredLogs, map_of_logs, last_of_logs}
use Rattle.model_base.specs.Text.{line, hex_word, state_text, group_text, end_words, recovered_text, recovered_logs_text}
use Rattle.log_recovery.specs.declared.recovery.Recovered.{Recovered}
use Rattle.log_recovery.specs.declared.many.RecoveredMany.{RecoveredMany}
use Rattle.log_recovery.specs.Keeping.{note_of}
use Rattle.log_recovery.specs.Recovering.{ShowsRecovered}
use Rattle.log_recovery.specs.RecoveringLogs.{ShowsLogs}
use Rattle.program_text.specs.ShownText.{group_line, groups_lines, end_line, shown_recovered_text, shown_recovered_logs_text}

-- the notes of batches have the batches' lines
groups_shown : (bs : List recovery.Logged) → groups_lines (map note_of bs) ≡ line (codes "groups" ∷ decimal (length bs) ∷ []) ++ flat_map group_text bs
groups_shown bs = rw (length-map bs note_of, flat_map-map group_line note_of bs) refl

-- the text of all that is recovered
pub recovered_shown : (v : Recovered) (r : recovery.Recovered) → ShowsRecovered v r → shown_recovered_text v ≡ recovered_text r
recovered_shown v r shows =
    let head = line (codes "groups" ∷ decimal (length r.batches) ∷ []) ++ flat_map group_text r.batches in
    let state = state_text hex_word (recovery.recovered_last r) (recovery.recovered_map r) in
    ap (λ groups. groups_lines groups ++ state_text hex_word v.last v.map ++ end_line v.end.at v.end.why) shows.groups
    ∙ ap (λ t. t ++ state_text hex_word v.last v.map ++ end_line v.end.at v.end.why) (groups_shown r.batches)
    ∙ ap (λ map. head ++ state_text hex_word v.last map ++ end_line v.end.at v.end.why) shows.map_is
    ∙ ap (λ last. head ++ state_text hex_word last (recovery.recovered_map r) ++ end_line v.end.at v.end.why) shows.last
    ∙ ap (λ at. head ++ state ++ end_line at v.end.why) shows.at
    ∙ ap (λ why. head ++ state ++ end_line r.at why) shows.why

-- the line that ends the text of several logs
abbrev ends_in : ℕ → ℕ → EndReason → List ℕ
ends_in log at why = line (codes "end" ∷ decimal log ∷ decimal at ∷ end_words why)

-- the same of several logs
pub recovered_logs_shown : (v : RecoveredMany) (r : RecoveredLogs) → ShowsLogs v r → shown_recovered_logs_text v ≡ recovered_logs_text r
recovered_logs_shown v r shows =
    let head = line (codes "groups" ∷ decimal (length r.batches) ∷ []) ++ flat_map group_text r.batches in
    let state = state_text hex_word (last_of_logs r) (map_of_logs r) in
    ap (λ groups. groups_lines groups ++ state_text hex_word v.last v.map ++ ends_in v.log v.end.at v.end.why) shows.groups
    ∙ ap (λ t. t ++ state_text hex_word v.last v.map ++ ends_in v.log v.end.at v.end.why) (groups_shown r.batches)
    ∙ ap (λ map. head ++ state_text hex_word v.last map ++ ends_in v.log v.end.at v.end.why) shows.map_is
    ∙ ap (λ last. head ++ state_text hex_word last (map_of_logs r) ++ ends_in v.log v.end.at v.end.why) shows.last
    ∙ ap (λ log. head ++ state ++ ends_in log v.end.at v.end.why) shows.log
    ∙ ap (λ at. head ++ state ++ ends_in r.log at v.end.why) shows.at
    ∙ ap (λ why. head ++ state ++ ends_in r.log r.at why) shows.why
