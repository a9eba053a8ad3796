-- The plain text of a state, with hexadecimal digits, is what `recover` prints.
use Rattle.std.proofs.Common.{◌≡◌, ◌==◌, ℕ, Bool, true, false, cond, List, [], ◌∷◌, ◌++◌, codes, decimal, length, map, flat_map, refl, sym, ap, ◌∙◌, append_assoc}
use Rattle.std.proofs.lemmas.List.{append-nil, length-map}
use Rattle.std.specs.List.{join_with_byte}
use Rattle.model_base.specs.Batch.{count_of}
use Rattle.model_base.specs.Map.{Pairs}
use Rattle.model_base.specs.Recovery.{Logged, Recovered, logged_bytes, recovered_last, recovered_map}
use Rattle.model_base.specs.Text.{end_words, group_text, hex_word, key_words, line, recovered_text}
use Rattle.model_base.specs.declared.key.Key.{Key}
use Rattle.model_base.specs.declared.log.Damage.{Damage}
use Rattle.model_base.specs.declared.log.Damage.TheVariants as damage
use Rattle.model_base.specs.declared.log.EndReason.{EndReason}
use Rattle.model_base.specs.declared.log.EndReason.TheVariants as ends
use Rattle.log_recovery.specs.Keeping.{note_of}
use Rattle.list_text.specs.Lines.{end_line}
use Rattle.list_text.specs.Rows.{plain_hex}
use Rattle.list_call.specs.StateTexts.{count_line, group_line, groups_text, map_text, pair_line, state_text}

-- three words with spaces between them
three : (a b c : List ℕ) → (a ++ 32 ∷ b) ++ 32 ∷ c ≡ a ++ 32 ∷ (b ++ 32 ∷ c)
three a b c = append_assoc a (32 ∷ b) (32 ∷ c)

group_is : (b : Logged) → group_line plain_hex (note_of b) ≡ group_text b
group_is b = ap (λ (t : List ℕ). t ++ 10 ∷ []) (three (decimal b.first) (decimal (count_of b.records)) (decimal (length (logged_bytes b))))

groups_are : (bs : List Logged) → flat_map (group_line plain_hex) (map note_of bs) ≡ flat_map group_text bs
groups_are [] = refl
groups_are (b ∷ bs) = ap (λ (t : List ℕ). t ++ flat_map (group_line plain_hex) (map note_of bs)) (group_is b) ∙ ap (λ (t : List ℕ). group_text b ++ t) (groups_are bs)

pair_is : (p : Key × List ℕ) → pair_line plain_hex p ≡ line (key_words hex_word p.0 ++ hex_word p.1 ∷ [])
pair_is p = by_family (p.0.family == 0) (decimal p.0.family) (hex_word p.0.bytes) (hex_word p.1)
  where
    by_family : (b : Bool) (family key v : List ℕ) → ((((cond b [] (family ++ 32 ∷ []) ++ []) ++ key) ++ 32 ∷ []) ++ v) ++ 10 ∷ [] ≡ line ((cond b [] (family ∷ []) ++ key ∷ []) ++ v ∷ [])
    by_family true family key v = ap (λ (t : List ℕ). t ++ 10 ∷ []) (append_assoc key (32 ∷ []) v)
    by_family false family key v =
        ap (λ (t : List ℕ). (((t ++ key) ++ 32 ∷ []) ++ v) ++ 10 ∷ []) (append-nil (family ++ 32 ∷ []))
        ∙ ap (λ (t : List ℕ). t ++ 10 ∷ []) (append_assoc ((family ++ 32 ∷ []) ++ key) (32 ∷ []) v ∙ append_assoc (family ++ 32 ∷ []) key (32 ∷ v) ∙ append_assoc family (32 ∷ []) (key ++ 32 ∷ v))

abbrev model_pair : Key × List ℕ → List ℕ
model_pair p = line (key_words hex_word p.0 ++ hex_word p.1 ∷ [])

pairs_are : (ps : Pairs) → flat_map (pair_line plain_hex) ps ≡ flat_map model_pair ps
pairs_are [] = refl
pairs_are (p ∷ ps) =
    ap (λ (t : List ℕ). t ++ flat_map (pair_line plain_hex) ps) (pair_is p)
    ∙ ap (λ (t : List ℕ). model_pair p ++ t) (pairs_are ps)

-- an end with these words, which are at least one
end_is : (at : ℕ) (w : List ℕ) (ws : List (List ℕ)) → (codes "end " ++ decimal at) ++ (codes " " ++ (join_with_byte 32 (w ∷ ws) ++ codes "\n")) ≡ line (codes "end" ∷ decimal at ∷ w ∷ ws)
end_is at w ws = ap (λ (t : List ℕ). codes "end " ++ t) (sym (append_assoc (decimal at) (32 ∷ join_with_byte 32 (w ∷ ws)) (10 ∷ [])))

damage_is : (at : ℕ) (d : Damage) → end_line plain_hex at (ends.Broken d) ≡ line (codes "end" ∷ decimal at ∷ end_words (ends.Broken d))
damage_is at damage.ShortHeader = end_is at (codes "shortheader") []
damage_is at damage.Zeros = end_is at (codes "zeros") []
damage_is at damage.BadLength = end_is at (codes "badlength") []
damage_is at (damage.BadType t) = end_is at (codes "badtype") (decimal t ∷ [])
damage_is at damage.BadChecksum = end_is at (codes "badchecksum") []
damage_is at damage.BadTrailer = end_is at (codes "badtrailer") []
damage_is at (damage.OldLog n) = end_is at (codes "oldlog") (decimal n ∷ [])

ended_so : (at : ℕ) (why : EndReason) → end_line plain_hex at why ≡ line (codes "end" ∷ decimal at ∷ end_words why)
ended_so at ends.Clean = end_is at (codes "clean") []
ended_so at (ends.Broken d) = damage_is at d
ended_so at ends.BadOrder = end_is at (codes "badorder") []
ended_so at ends.Unfinished = end_is at (codes "unfinished") []
ended_so at ends.Short = end_is at (codes "short") []
ended_so at ends.BadVarint = end_is at (codes "badvarint") []
ended_so at (ends.Tag t) = end_is at (codes "tag") (decimal t ∷ [])
ended_so at (ends.Count said n) = end_is at (codes "count") (decimal said ∷ decimal n ∷ [])
ended_so at (ends.Order first last) = end_is at (codes "order") (decimal first ∷ decimal last ∷ [])
ended_so at (ends.High first count) = end_is at (codes "high") (decimal first ∷ decimal count ∷ [])

groups_text_is : (bs : List Logged) → groups_text plain_hex (map note_of bs) ≡ line (codes "groups" ∷ decimal (length bs) ∷ []) ++ flat_map group_text bs
groups_text_is bs =
    ap (λ (n : ℕ). count_line plain_hex n ++ flat_map (group_line plain_hex) (map note_of bs)) (length-map bs note_of)
    ∙ ap (λ (t : List ℕ). count_line plain_hex (length bs) ++ t) (groups_are bs)

pub plain_state : (r : Recovered) → state_text plain_hex r ≡ recovered_text r
plain_state r =
    let head = line (codes "groups" ∷ decimal (length r.batches) ∷ []) ++ flat_map group_text r.batches in
    let pairs = recovered_map r in
    let last = line (codes "state" ∷ decimal (recovered_last r) ∷ decimal (length pairs) ∷ []) in
    ap (λ (t : List ℕ). (t ++ map_text plain_hex (recovered_last r) pairs) ++ end_line plain_hex r.at r.why) (groups_text_is r.batches)
    ∙ ap (λ (t : List ℕ). (head ++ (last ++ t)) ++ end_line plain_hex r.at r.why) (pairs_are pairs)
    ∙ ap (λ (t : List ℕ). (head ++ (last ++ flat_map model_pair pairs)) ++ t) (ended_so r.at r.why)
