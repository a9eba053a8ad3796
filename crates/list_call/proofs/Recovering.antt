-- What is written of what a log recovers.
use Rattle.std.proofs.Common.{◌≡◌, ℕ, ◌++◌, List, map, Option, IfSome, ap, ◌∙◌, subst}
use Rattle.model_base.specs.Map.{Pairs}
use Rattle.model_base.specs.declared.log.EndReason.{EndReason}
use Rattle.model_base.specs.Recovery as recovery
use Rattle.log_recovery.specs.Keeping.{note_of}
use Rattle.log_recovery.specs.Modes.{Accepts, IsDamage}
use Rattle.log_recovery.specs.Recovering.{HasRecovered, ShowsRecovered}
use Rattle.log_recovery.specs.declared.kept.GroupNote.{GroupNote}
use Rattle.log_recovery.specs.declared.recovery.Recovered.{Recovered}
use Rattle.list_text.specs.Lines.{end_line}
use Rattle.list_text.specs.declared.form.Form.{Form}
use Rattle.list_words.specs.declared.invocation.StateWords.{StateWords}
use Rattle.list_call.specs.Calls.{IsState, Tells, WritesRecovered, WritesState, WritesStateBy, number_for}
use Rattle.list_call.specs.StateTexts.{groups_text, map_text, state_text}
use Rattle.list_call.specs.declared.status.Status.{Status}
use Rattle.list_call.specs.declared.status.Status.TheVariants as status
use Rattle.list_call.proofs.Told.{if_all, if_both, if_one}

-- the text of what a caller sees of a recovery is the text of what is recovered
pub state_shown : (form : Form) (v : Recovered) (r : recovery.Recovered) → ShowsRecovered v r
    → groups_text form v.groups.items ++ map_text form v.last v.map ++ end_line form v.end.at v.end.why ≡ state_text form r
state_shown form v r shows =
    let groups = groups_text form (map note_of r.batches) in
    ap (λ (gs : List GroupNote). groups_text form gs ++ map_text form v.last v.map ++ end_line form v.end.at v.end.why) shows.groups
    ∙ ap (λ (m : Pairs). groups ++ map_text form v.last m ++ end_line form v.end.at v.end.why) shows.map_is
    ∙ ap (λ (last : ℕ). groups ++ map_text form last (recovery.recovered_map r) ++ end_line form v.end.at v.end.why) shows.last
    ∙ ap (λ (at : ℕ). groups ++ map_text form (recovery.recovered_last r) (recovery.recovered_map r) ++ end_line form at v.end.why) shows.at
    ∙ ap (λ (why : EndReason). groups ++ map_text form (recovery.recovered_last r) (recovery.recovered_map r) ++ end_line form r.at why) shows.why

module _ (words : StateWords) (number : Option ℕ) (told before after : Option (List ℕ)) where
  -- what was recovered is what the file gives
  is_state : (file : List ℕ) (v : Recovered) (text : List ℕ) → HasRecovered number file v → Accepts number words.mode file v.end.at v.end.why → Tells words.form v text → IsState words number file text
  is_state file v text has accepted tells = record {
    recovered = has.recovered;
    is = has.is;
    accepted = subst (λ (why : EndReason). Accepts number words.mode file has.recovered.at why) has.shows.why (subst (λ (at : ℕ). Accepts number words.mode file at v.end.why) has.shows.at accepted);
    text_is = tells has.recovered has.shows;
  }

  -- by the status of what was written
  pub recovered_written : (v : Recovered) (failed fails : ℕ) (given : Status) → IfSome told (λ file. HasRecovered number file v) → IfSome told (λ file. Accepts number words.mode file v.end.at v.end.why)
      → WritesRecovered words.form v before after failed fails given → IfSome told (λ file. WritesStateBy words number file before after given)
  recovered_written v failed fails status.Done has accepted writes =
      if_both told _ _ _ has accepted (λ file h a. (writes.0, is_state file v writes.0 h a writes.1, writes.2))
  recovered_written v failed fails status.Sink has accepted writes =
      if_both told _ _ _ has accepted (λ file h a. (writes.0, is_state file v writes.0 h a writes.1, writes.2))
  recovered_written v failed fails status.Memory has accepted writes = if_all told _ (λ file. writes.0)
  recovered_written v failed fails other has accepted writes = absurd writes

  -- where the mode doesn't accept the end nothing was written
  pub refused_written : (at : ℕ) (why : EndReason) → IfSome told (λ file. IsDamage number words.mode file at why) → after ≡ before → IfSome told (λ file. WritesStateBy words number file before after status.Damage)
  refused_written at why damage same = if_one told _ _ damage (λ file d. (
    record {
      recovered = d.recovered;
      is = d.is;
      refused = λ accepted. d.refused (subst (λ (y : EndReason). Accepts number words.mode file at y) d.why_is (subst (λ (n : ℕ). Accepts number words.mode file n d.recovered.why) d.at_is accepted));
    },
    same,
  ))

-- what was written by the status, where the file tells the same bytes as before
pub state_written : (words : StateWords) (number : Option ℕ) (told held before after : Option (List ℕ)) (given : Status) → held ≡ told → IfSome told (λ file. number ≡ number_for words.number file)
    → IfSome held (λ file. WritesStateBy words number file before after given) → IfSome told (λ file. WritesState words file before after given)
state_written words number told held before after given same numbered writes =
    if_both told _ _ _ numbered (subst (λ (t : Option (List ℕ)). IfSome t (λ file. WritesStateBy words number file before after given)) same writes)
    (λ file number_is w. subst (λ (n : Option ℕ). WritesStateBy words n file before after given) number_is w)
